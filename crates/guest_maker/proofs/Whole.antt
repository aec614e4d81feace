-- Both guests are accepted.
use Rattle.std.proofs.Common.{◌≡◌, ℕ, zero, ◌+◌, ◌*◌, ◌<◌, ◌≤◌, Bool, true, false, ◌&&◌, ◌||◌, List, [], ◌∷◌, ◌++◌, length, codes, refl, ap, ◌∙◌, subst, sym, arith, lit<, lit≤}
use Rattle.std.specs.Prelude.{nat_le}
use Rattle.std.specs.List.{list_all}
use Rattle.std.proofs.lemmas.Bool.Decides.{nat_tests}
use Rattle.fc_numbers.specs.declared.places.TheConstants.{RAM_START, RAM_MOST}
use Rattle.guest_input.specs.declared.image.Function.{Function}
use Rattle.guest_input.specs.Accepted.{IsImage, IsSetup, IsSetupFor, IsPartOf, is_apart}
use Rattle.guest_maker.specs.Program.{program, lines_of_routines}
use Rattle.guest_maker.specs.Hostile.{hostile_text, hostile_functions}
use Rattle.guest_maker.specs.Guest.{image_of_guest, guest_text, guest_functions, task_names, guest_image, guest_setup, hostile_image, hostile_setup}
use Rattle.guest_maker.proofs.Lawful.{span, below, lawful_image}
use Rattle.guest_maker.proofs.Made.{text_is_whole, program_stands, program_few}
use Rattle.guest_maker.proofs.Hostiles.{hostile_pages, hostile_stand, hostile_few, length-hostile_text}

pub image_same : (text its_text : List ℕ) (parts its_parts : List (ℕ × List ℕ)) (fs its_fs : List Function) → text ≡ its_text → parts ≡ its_parts → fs ≡ its_fs
    → image_of_guest text parts fs ≡ image_of_guest its_text its_parts its_fs
image_same text its_text parts its_parts fs its_fs a b c =
    ap (λ t. image_of_guest t parts fs) a ∙ ap (λ p. image_of_guest its_text p fs) b ∙ ap (λ f. image_of_guest its_text its_parts f) c

true_leb : (a b : ℕ) → a ≤ b → nat_le a b ≡ true
true_leb a b h = grind (arith, nat_tests)

-- a part that lies behind text
part_lawful : (text : List ℕ) (place : ℕ) (bytes : List ℕ) → RAM_START + length text ≤ place → place + length bytes ≤ RAM_START + RAM_MOST → IsPartOf (span text ∷ []) (place, bytes)
part_lawful text place bytes low high = record {
  low = omega (arith, low);
  high = high;
  apart = behind (nat_le (place + length bytes) RAM_START) (nat_le (RAM_START + length text) place) (true_leb (RAM_START + length text) place low);
} where
  behind : (a b : Bool) → b ≡ true → ((a || b) && true) ≡ true
  behind true b h = refl
  behind false true h = refl
  behind false false h = absurd cc

pub guest_lawful : (seed : ℕ) → IsImage (guest_image seed)
guest_lawful seed =
    let text = text_is_whole seed in
    lawful_image (guest_text seed) task_names (guest_functions seed) text.pages (program_stands seed (length (guest_text seed)) text.holds) (program_few seed) (
      part_lawful (guest_text seed) 0x80100018 (codes "red" ++ 0 ∷ []) (omega (arith, text.most)) (lit≤ tt),
      (
        part_lawful (guest_text seed) 0x80100058 (codes "blue" ++ 0 ∷ []) (omega (arith, text.most)) (lit≤ tt),
        (
          part_lawful (guest_text seed) 0x80140018 (codes "red" ++ 0 ∷ []) (omega (arith, text.most)) (lit≤ tt),
          (part_lawful (guest_text seed) 0x80140058 (codes "blue" ++ 0 ∷ []) (omega (arith, text.most)) (lit≤ tt), tt),
        ),
      ),
    )

guest_set : IsSetup guest_setup
guest_set = record {
  some = lit≤ tt;
  eight = lit≤ tt;
  ram_some = lit≤ tt;
  ram_most = lit≤ tt;
  ram_whole = refl;
  steps_some = lit≤ tt;
  steps_most = lit≤ tt;
  name_at = lit≤ tt;
  events_most = lit≤ tt;
  events = tt;
}

pub guest_accepted : (seed : ℕ) → IsSetupFor (guest_image seed) guest_setup
guest_accepted seed =
    let text = text_is_whole seed in
    record {
      setup = guest_set;
      text = below (RAM_START + 2097152) (guest_text seed) text.pages (omega (arith, text.most));
      parts = (lit≤ tt, (lit≤ tt, (lit≤ tt, (lit≤ tt, tt))));
    }

pub hostile_lawful : (seed : ℕ) → IsImage (hostile_image seed)
hostile_lawful seed =
    lawful_image (hostile_text seed) [] (hostile_functions seed) (hostile_pages seed) (hostile_stand seed) (omega (arith, hostile_few seed)) tt

hostile_set : IsSetup hostile_setup
hostile_set = record {
  some = lit≤ tt;
  eight = lit≤ tt;
  ram_some = lit≤ tt;
  ram_most = lit≤ tt;
  ram_whole = refl;
  steps_some = lit≤ tt;
  steps_most = lit≤ tt;
  name_at = lit≤ tt;
  events_most = lit≤ tt;
  events = tt;
}

pub hostile_accepted : (seed : ℕ) → IsSetupFor (hostile_image seed) hostile_setup
hostile_accepted seed = record {
  setup = hostile_set;
  text = below (RAM_START + 65536) (hostile_text seed) (hostile_pages seed) (omega (arith, length-hostile_text seed));
  parts = tt;
}
