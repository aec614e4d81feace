-- What a file gives and why it is refused exclude each other, and each is one.
use Rattle.std.proofs.Common.{◌≡◌, ◌≢◌, ℕ, ◌<◌, ◌⊎◌, inl, inr, arith, refl, ◌∙◌, sym, ap, subst, Option, Some, Ok, Err, List, length}
use Rattle.std.specs.Prelude.{Result}
use Rattle.guest_input.specs.declared.image.Image.{Image}
use Rattle.guest_input.specs.declared.setup.Setup.{Setup}
use Rattle.guest_image.specs.ImageFile.{image_of}
use Rattle.guest_image.specs.Limits.{setup_of}
use Rattle.view_file.specs.declared.views.Views.{Views}
use Rattle.view_file.specs.declared.fault.ViewFault.{ViewFault}
use Rattle.view_file.specs.declared.fault.ViewFault.TheVariants.{NoMemory}
use Rattle.view_file.specs.Fits.{Parses, Reads}
use Rattle.view_file.specs.Once.{ReadsOnce, ParsesOnce}
use Rattle.elf_read.specs.declared.parts.ElfFault.TheVariants as elf
use Rattle.guest_image.specs.declared.image.ImageFault.{ImageFault}
use Rattle.guest_image.specs.declared.image.ImageFault.TheVariants.{Elf}
use Rattle.guest_image.specs.declared.setup.SetupFault.{SetupFault}
use Rattle.guest_image.specs.declared.setup.SetupFault.TheVariants as no_setup
use Rattle.trace_file.specs.declared.fault.TraceFault.{TraceFault}
use Rattle.trace_file.specs.declared.fault.TraceFault.TheVariants as no_trace
use Rattle.trace_file.specs.Script.{script_of}
use Rattle.trace_file.specs.Trace.{Told, trace_of}
use Rattle.command_frame.specs.Exact.{IsSure}
use Rattle.command_frame.specs.Files.{IsHeld, IsTooLong, IsGiven, IsRefused, HasImageFault, HasSetupFault, HasViewsFault, HasFreeViewsFault, HasScriptFault, HasTraceFault, GivesImage, RefusesImage, GivesSetup, RefusesSetup, GivesViews, RefusesViews, GivesFreeViews, RefusesFreeViews, GivesScript, RefusesScript, GivesTrace, RefusesTrace}
use Rattle.command_frame.specs.declared.fault.Kind.{Kind}
use Rattle.command_frame.specs.declared.fault.Kind.TheVariants as kind
use Rattle.command_frame.specs.declared.fault.Fault.{Fault}
use Rattle.command_frame.specs.declared.fault.Fault.TheVariants as fault

same-held : (held : Option (List ℕ)) (a b : List ℕ) → held ≡ Some a → held ≡ Some b → a ≡ b
same-held held a b ha hb = cc (sym ha ∙ hb)

short-or-long : (held : Option (List ℕ)) (bytes : List ℕ) → IsHeld held bytes → IsTooLong held → ⊥
short-or-long held bytes k long = let same : bytes ≡ long.0 = same-held held bytes long.0 k.holds long.1 in omega (arith, ap (λ xs. length xs) same, k.within, long.2)

-- bytes give one thing, or have one fault, and not both
pub record IsClear (T : Type 0) (Give : List ℕ → T → Type 0) (Have : List ℕ → Fault → Type 0) : Type 0 where
  pub same : (bytes : List ℕ) (s t : T) → Give bytes s → Give bytes t → s ≡ t
  pub apart : (bytes : List ℕ) (t : T) (why : Fault) → Give bytes t → Have bytes why → ⊥
  pub one : (bytes : List ℕ) (f g : Fault) → Have bytes f → Have bytes g → f ≡ g

module _ (T : Type 0) (k : Kind) (Give : List ℕ → T → Type 0) (Have : List ℕ → Fault → Type 0) (clear : IsClear T Give Have) where
  same-given : (held : Option (List ℕ)) (s t : T) → IsGiven Give held s → IsGiven Give held t → s ≡ t
  same-given held s t a b = clear.same b.0 s t (subst (λ bytes. Give bytes s) (same-held held a.0 b.0 a.1.holds b.1.holds) a.2) b.2

  given-or-refused : (held : Option (List ℕ)) (t : T) (why : Fault) → IsGiven Give held t → IsRefused k Have held why → ⊥
  given-or-refused held t why a b = elim b [
    | inl long ↦ short-or-long held a.0 a.1 long.1
    | inr own ↦ clear.apart own.0 t why (subst (λ bytes. Give bytes t) (same-held held a.0 own.0 a.1.holds own.1.holds) a.2) own.2
  ]

  one-refusal : (held : Option (List ℕ)) (f g : Fault) → IsRefused k Have held f → IsRefused k Have held g → f ≡ g
  one-refusal held f g a b = elim a [
    | inl long ↦ elim b [ inl other ↦ long.0 ∙ sym other.0 | inr own ↦ absurd (short-or-long held own.0 own.1 long.1) ]
    | inr own ↦ elim b [
      | inl long ↦ absurd (short-or-long held own.0 own.1 long.1)
      | inr other ↦ clear.one other.0 f g (subst (λ bytes. Have bytes f) (same-held held own.0 other.0 own.1.holds other.1.holds) own.2) other.2
    ]
  ]

  sure-of : IsSure T (IsGiven Give) (IsRefused k Have)
  sure-of = record { same = same-given; apart = given-or-refused; one = one-refusal }

-- a reading that is a function, whose faults are made into faults of files
module _ (T : Type 0) (E : Type 0) (read : List ℕ → Result T E) (made : E → Fault) (none : E) where
  one-value : (bytes : List ℕ) (s t : T) → read bytes ≡ Ok s → read bytes ≡ Ok t → s ≡ t
  one-value bytes s t a b = cc (sym a ∙ b)

  abbrev Faulty : List ℕ → Fault → Type 0
  Faulty bytes why = (own : E) × (why ≡ made own) × (read bytes ≡ Err own) × (own ≢ none)

  value-or-fault : (bytes : List ℕ) (t : T) (why : Fault) → read bytes ≡ Ok t → Faulty bytes why → ⊥
  value-or-fault bytes t why a b = absurd (cc (sym a ∙ b.2))

  one-fault : (bytes : List ℕ) (f g : Fault) → Faulty bytes f → Faulty bytes g → f ≡ g
  one-fault bytes f g a b = let same : a.0 ≡ b.0 = cc (sym a.2 ∙ b.2) in a.1 ∙ ap made same ∙ sym b.1

  clear-reading : IsClear T (λ bytes t. read bytes ≡ Ok t) Faulty
  clear-reading = record { same = one-value; apart = value-or-fault; one = one-fault }

abbrev Reading : Type 0
Reading = Result Views ViewFault

abbrev given : Views → Reading
given v = Ok v

abbrev refused : ViewFault → Reading
refused why = Err why

there-is-memory : (v : Views) → given v ≢ refused NoMemory
there-is-memory v e = absurd (cc e)

not-for-memory : (why : ViewFault) → why ≢ NoMemory → refused why ≢ refused NoMemory
not-for-memory why other e = other (let same : why ≡ NoMemory = cc e in same)

-- a reading of views that is one, but for want of memory
module _ (Read : List ℕ → Reading → Type 0) (once : (bytes : List ℕ) (r s : Reading) → Read bytes r → Read bytes s → r ≢ refused NoMemory → s ≢ refused NoMemory → r ≡ s) where
  abbrev HasFault : List ℕ → Fault → Type 0
  HasFault bytes why = (own : ViewFault) × (why ≡ fault.Views own) × Read bytes (refused own) × (own ≢ NoMemory)

  same-views : (bytes : List ℕ) (u v : Views) → Read bytes (given u) → Read bytes (given v) → u ≡ v
  same-views bytes u v a b = let same : given u ≡ given v = once bytes (given u) (given v) a b (there-is-memory u) (there-is-memory v) in cc same

  views-or-fault : (bytes : List ℕ) (v : Views) (why : Fault) → Read bytes (given v) → HasFault bytes why → ⊥
  views-or-fault bytes v why a b = absurd (cc (once bytes (given v) (refused b.0) a b.2 (there-is-memory v) (not-for-memory b.0 b.3)))

  one-views-fault : (bytes : List ℕ) (f g : Fault) → HasFault bytes f → HasFault bytes g → f ≡ g
  one-views-fault bytes f g a b =
      let same : a.0 ≡ b.0 = cc (once bytes (refused a.0) (refused b.0) a.2 b.2 (not-for-memory a.0 a.3) (not-for-memory b.0 b.3)) in
      a.1 ∙ ap fault.Views same ∙ sym b.1

  clear-views : IsClear Views (λ bytes v. Read bytes (given v)) HasFault
  clear-views = record { same = same-views; apart = views-or-fault; one = one-views-fault }

pub image_sure : IsSure Image GivesImage RefusesImage
image_sure = sure-of Image kind.Image (λ bytes i. image_of bytes ≡ Ok i) HasImageFault (clear-reading Image ImageFault image_of fault.Image (Elf elf.NoMemory))

pub setup_sure : (i : Image) → IsSure Setup (λ held. GivesSetup held i) (λ held. RefusesSetup held i)
setup_sure i = sure-of Setup kind.Setup (λ bytes s. setup_of i bytes ≡ Ok s) (HasSetupFault i) (clear-reading Setup SetupFault (setup_of i) fault.Setup no_setup.NoMemory)

pub script_sure : (vcpus : ℕ) → IsSure (List ℕ) (λ held. GivesScript held vcpus) (λ held. RefusesScript held vcpus)
script_sure vcpus = sure-of (List ℕ) kind.Script (λ bytes is. script_of vcpus bytes ≡ Ok is) (HasScriptFault vcpus) (clear-reading (List ℕ) TraceFault (script_of vcpus) fault.Script no_trace.NoMemory)

pub trace_sure : IsSure Told GivesTrace RefusesTrace
trace_sure = sure-of Told kind.Trace (λ bytes t. trace_of bytes ≡ Ok t) HasTraceFault (clear-reading Told TraceFault trace_of fault.Trace no_trace.NoMemory)

pub views_sure : ReadsOnce → (i : Image) → IsSure Views (λ held. GivesViews held i) (λ held. RefusesViews held i)
views_sure once i = sure-of Views kind.Views (λ bytes v. Reads bytes i (Ok v)) (HasViewsFault i) (clear-views (λ bytes r. Reads bytes i r) (λ bytes r s. once bytes i r s))

pub free_views_sure : ParsesOnce → IsSure Views GivesFreeViews RefusesFreeViews
free_views_sure once = sure-of Views kind.Views (λ bytes v. Parses bytes (Ok v)) HasFreeViewsFault (clear-views Parses once)
