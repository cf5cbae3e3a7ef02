-- The numbers of refusals.
use Rattle.std.proofs.Common.{◌≡◌, ◌⊎◌, inl, inr, ⊎_elim, ◌↔◌, ℕ, ℤ, pos, negsuc, arith, List, [], ◌∷◌, Result, Ok, Err}
use Rattle.std.proofs.Common.{IsOk, refl, sym, ap, ◌∙◌, subst, w32, to_z, of_z}
use Rattle.std.proofs.lemmas.Bool.{false≢true}
use Rattle.nested_writer.specs.declared.fault.WriteFault.{WriteFault}
use Rattle.nested_writer.specs.declared.fault.WriteFault.TheVariants.{TooDeep, TooLong, LateMoment, Crowded, Worn}
use Rattle.nested_writer.specs.declared.fault.WriteFault.TheVariants.{NoFrame, NotReserved}
use Rattle.nested_writer.specs.declared.frame.Frame.{Frame}
use Rattle.nested_writer.specs.declared.frame.Progress.{Progress}
use Rattle.nested_writer.specs.declared.frame.Progress.TheVariants.{Waiting, Through, Reserved, Left}
use Rattle.nested_writer.specs.declared.frame.Slot.{Slot}
use Rattle.nested_writer.specs.Calls.{HasNoSlot, LacksSlot, IsTopSlot}
use Rattle.tracering_c.specs.declared.codes.TheConstants.{TOO_LONG, NO_FRAME, NOT_RESERVED}
use Rattle.tracering_c.specs.Codes.{fault_code}

-- each fits the answer's type
pub code_fits : (fault : WriteFault) → to_z w32 (of_z w32 (fault_code fault)) ≡ fault_code fault
code_fits TooDeep = refl
code_fits TooLong = refl
code_fits LateMoment = refl
code_fits Crowded = refl
code_fits Worn = refl
code_fits NoFrame = refl
code_fits NotReserved = refl

abbrev fault_in : {X : Type 0} → Result X WriteFault → WriteFault
fault_in (Ok x) = TooLong
fault_in (Err fault) = fault

-- a frame has a slot, or lacks one
slot_or_none : (p : Progress) → HasNoSlot p ⊎ ((slot : Slot) × (p ≡ Reserved slot))
slot_or_none (Waiting noted) = inl tt
slot_or_none (Through noted) = inl tt
slot_or_none (Reserved slot) = inr (slot, refl)
slot_or_none (Left noted) = inl tt

-- a payload that isn't lent is refused as one of two
pub code_of_unlent : {X : Type 0} (frames : List Frame) (result : Result X WriteFault) (fault : WriteFault)
    → result ≡ Err fault → (result ≡ Err NoFrame) ↔ (frames ≡ []) → (result ≡ Err NotReserved) ↔ LacksSlot frames
    → ((slot : Slot) → IsTopSlot frames slot → IsOk result)
    → (fault_code fault ≡ NO_FRAME) ⊎ (fault_code fault ≡ NOT_RESERVED)
code_of_unlent [] result fault is none lacks has = inl (ap (λ r. fault_code (fault_in r)) (sym is ∙ none.1 refl))
code_of_unlent (top ∷ below) result fault is none lacks has = ⊎_elim
    (λ no. inr (ap (λ r. fault_code (fault_in r)) (sym is ∙ lacks.1 no)))
    (λ there. absurd (false≢true (subst IsOk is (has there.0 there.1))))
    (slot_or_none top.progress)

abbrev size_of : ℤ → ℕ
size_of (pos n) = n
size_of (negsuc n) = n

-- so it isn't refused as too long
pub never_long : {X : Type 0} (frames : List Frame) (result : Result X WriteFault) (fault : WriteFault)
    → result ≡ Err fault → (result ≡ Err NoFrame) ↔ (frames ≡ []) → (result ≡ Err NotReserved) ↔ LacksSlot frames
    → ((slot : Slot) → IsTopSlot frames slot → IsOk result)
    → (code : ℤ) → code ≡ fault_code fault → to_z w32 (of_z w32 code) ≡ TOO_LONG → ⊥
never_long frames result fault is none lacks has code code_is is_long =
    let long : fault_code fault ≡ TOO_LONG =
    sym (code_fits fault) ∙ ap (λ (n : ℤ). to_z w32 (of_z w32 n)) (sym code_is) ∙ is_long in
    ⊎_elim
    (λ no_frame. let e : 6 ≡ 2 = ap size_of (sym no_frame ∙ long) in omega (arith, e))
    (λ no_record. let e : 7 ≡ 2 = ap size_of (sym no_record ∙ long) in omega (arith, e))
    (code_of_unlent frames result fault is none lacks has)
