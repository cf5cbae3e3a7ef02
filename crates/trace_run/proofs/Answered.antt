-- What an audit answers, by the least faults that were found.
use Rattle.std.proofs.Common.{◌≡◌, ℕ, List, [], ◌∷◌, Some, refl, ap, subst}
use Rattle.std.specs.Prelude.{◌↔◌, Contains, Result, Err}
use Rattle.trace_model.specs.Parcel.{Parcel}
use Rattle.trace_model.specs.Collection.{IsBelow}
use Rattle.trace_model.specs.declared.numbers.CpuId.{CpuId}
use Rattle.trace_model.specs.declared.numbers.FillNo.{FillNo}
use Rattle.trace_run.specs.declared.ledgers.least.ParcelKey.{ParcelKey}
use Rattle.trace_run.specs.declared.ledgers.fault.Audited.{Audited}
use Rattle.trace_run.specs.declared.ledgers.fault.AuditFault.{AuditFault}
use Rattle.trace_run.specs.declared.ledgers.fault.AuditFault.TheVariants.{Stray, Lacks}
use Rattle.trace_run.specs.ledgers.Audit.{WereTaken, IsStray, IsLacking, IsLeast}
use Rattle.trace_run.specs.ledgers.Least.{IsLeastFault}
use Rattle.trace_run.proofs.LeastFaults.{least_is_one}

abbrev Answer : Type 0
Answer = Result Audited AuditFault

same_stray : (a b : CpuId) (f g : FillNo) → a.0 ≡ b.0 → f.0 ≡ g.0 → Stray a f ≡ Stray b g
same_stray a b f g cpu fill = λ i. Stray record { 0 = cpu i } record { 0 = fill i }

same_lacks : (a b : CpuId) (f g : FillNo) → a.0 ≡ b.0 → f.0 ≡ g.0 → Lacks a f ≡ Lacks b g
same_lacks a b f g cpu fill = λ i. Lacks record { 0 = cpu i } record { 0 = fill i }

strays_are : (a b : CpuId) (f g : FillNo) (r s : Answer) → r ≡ Err (Stray a f) → s ≡ Err (Stray b g) → r ≡ s
    → (a ≡ b) × (f ≡ g)
strays_are a b f g r s is other e = (cc, cc)

lacks_are : (a b : CpuId) (f g : FillNo) (r s : Answer) → r ≡ Err (Lacks a f) → s ≡ Err (Lacks b g) → r ≡ s
    → (a ≡ b) × (f ≡ g)
lacks_are a b f g r s is other e = (cc, cc)

-- the least key, under other names of its numbers
moved : (these : Parcel → Type 0) (a b : CpuId) (f g : FillNo) → a ≡ b → f ≡ g → IsLeast these a.0 f.0
    → IsLeast these b.0 g.0
moved these a b f g cpu fill l =
    subst (λ (c : CpuId). IsLeast these c.0 g.0) cpu (subst (λ (h : FillNo). IsLeast these a.0 h.0) fill l)

module _ (kept taken : List Parcel) where
  -- ---- a stray was found

  module _ (key : ParcelKey) (l : IsLeastFault kept (Contains taken) (Some key)) where
    abbrev answer : Answer
    answer = Err (Stray key.cpu key.fill)

    not_taken : WereTaken kept taken → ⊥
    not_taken all = l.is_one.1 (all l.parcel l.is_one.0)

    pub stray_is_stray : (cpu : CpuId) (fill : FillNo)
        → (answer ≡ Err (Stray cpu fill)) ↔ IsLeast (IsStray kept taken) cpu.0 fill.0
    stray_is_stray cpu fill = (
      λ e. let (a, b) = strays_are key.cpu cpu key.fill fill answer (Err (Stray cpu fill)) refl refl e in
          moved (IsStray kept taken) key.cpu cpu key.fill fill a b l,
      λ other. let (a, b) = least_is_one (IsStray kept taken) key.cpu.0 key.fill.0 cpu.0 fill.0 l other in
          ap Err (same_stray key.cpu cpu key.fill fill a b),
    )

    pub stray_is_no_lack : (cpu : CpuId) (fill : FillNo)
        → (answer ≡ Err (Lacks cpu fill)) ↔ (WereTaken kept taken × IsLeast (IsLacking kept taken) cpu.0 fill.0)
    stray_is_no_lack cpu fill = (λ e. cc, λ (all, other). absurd (not_taken all))

  -- ---- each kept parcel was taken

  module _ (all : WereTaken kept taken) where
    no_stray : (cpu fill : ℕ) → IsLeast (IsStray kept taken) cpu fill → ⊥
    no_stray cpu fill s = s.is_one.1 (all s.parcel s.is_one.0)

    module _ (key : ParcelKey) (l : IsLeastFault taken (λ parcel. IsBelow (parcel ∷ []) kept) (Some key)) where
      abbrev lack : Answer
      lack = Err (Lacks key.cpu key.fill)

      pub lack_is_no_stray : (cpu : CpuId) (fill : FillNo)
          → (lack ≡ Err (Stray cpu fill)) ↔ IsLeast (IsStray kept taken) cpu.0 fill.0
      lack_is_no_stray cpu fill = (λ e. cc, λ s. absurd (no_stray cpu.0 fill.0 s))

      pub lack_is_lack : (cpu : CpuId) (fill : FillNo)
          → (lack ≡ Err (Lacks cpu fill)) ↔ (WereTaken kept taken × IsLeast (IsLacking kept taken) cpu.0 fill.0)
      lack_is_lack cpu fill = (
        λ e. let (a, b) = lacks_are key.cpu cpu key.fill fill lack (Err (Lacks cpu fill)) refl refl e in
            (all, moved (IsLacking kept taken) key.cpu cpu key.fill fill a b l),
        λ (_, other). let (a, b) = least_is_one (IsLacking kept taken) key.cpu.0 key.fill.0 cpu.0 fill.0 l other in
            ap Err (same_lacks key.cpu cpu key.fill fill a b),
      )
