use Rattle.std.proofs.Common.{◌≡◌, ◌++◌, ◌∷◌, [], List, true, false, ap, sym, refl, inl, inr, ◌∙◌, arith}
use Rattle.std.specs.BTreeSet.{BTreeSet}
use Rattle.guest_input.specs.declared.image.Start.{Start}
use Rattle.profiler.specs.Tally.{has_name, no_starts}
use Rattle.profiler.proofs.tally.Tally.meet.Goals as goal

pub returns-then-is_known-clause-met : goal.returns-then-is_known-clause-met
returns-then-is_known-clause-met c =
    let known : has_name c.args.self.now.names.items c.in-Some.name.now ≡ true =
    ap (λ names. has_name names c.in-Some.name.now) (sym c.as_slice.ensures.value) ∙ sym c.is_known.ensures ∙ c.if-is_known.true in
    rw c.in-Some.is (inl (known, refl))

pub returns-then-len-ge-APPS_MOST-clause-many : goal.returns-then-len-ge-APPS_MOST-clause-many
returns-then-len-ge-APPS_MOST-clause-many c = λ e.
    let new : has_name c.args.self.now.names.items c.in-Some.name.now ≡ false =
    ap (λ names. has_name names c.in-Some.name.now) (sym c.as_slice.ensures.value) ∙ sym c.is_known.ensures ∙ c.if-is_known.false in
    rw c.in-Some.is (new, omega arith)

pub returns-clause-met : goal.returns-clause-met
returns-clause-met c =
    let new : has_name c.args.self.now.names.items c.in-Some.name.now ≡ false =
    ap (λ names. has_name names c.in-Some.name.now) (sym c.as_slice.ensures.value) ∙ sym c.is_known.ensures ∙ c.if-is_known.false in
    let empty : c.new.result ≡ no_starts = let f : List Start → BTreeSet Start = λ keys. record { keys = keys } in ap f c.new.ensures.empty in
    rw c.in-Some.is (inr (record {
      new = new;
      room = omega arith;
      shared = refl;
      names = c.in_ok-push.ensures.items ∙ ap (λ name. c.args.self.now.names.items ++ name ∷ []) c.copy_of.ensures;
      used = c.in_ok-push-2.ensures.items ∙ ap (λ set. c.args.self.now.used.items ++ set ∷ []) empty;
    }))
