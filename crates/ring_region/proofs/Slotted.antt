-- A slot holds one thing.
use Rattle.std.proofs.Common.{◌≡◌, ◌≢◌, ◌∙◌, ℕ, ◌+◌, ◌≤◌, ◌<◌, ◌⊎◌, inl, inr, ⊎_elim, List, length, refl, sym, ap}
use Rattle.std.proofs.Common.{arith}
use Rattle.std.proofs.lemmas.Bool.{cases_lt}
use Rattle.trace_model.specs.FirstFault.{AreBytes}
use Rattle.trace_model.specs.Faults.{cut, bad_length, time_overflow}
use Rattle.trace_model.specs.Image.{bad_word}
use Rattle.trace_model.specs.Parcel.{Parcel}
use Rattle.trace_model.specs.ParcelBytes.{DecodesParcel, ParcelCause, bad_image, number_overflow, FirstParcelFault}
use Rattle.trace_model.specs.declared.limits.TheConstants.{MAX_CPUS, MAX_SIZE}
use Rattle.trace_model.proofs.words.OneWord.{AreBytes-take}
use Rattle.trace_model.proofs.images.Parcels.{parcel_read_or_faulty, DecodesParcel-unique}
use Rattle.trace_model.proofs.images.Parcels.{DecodesParcel-FirstParcelFault, FirstParcelFault-unique}
use Rattle.record_words.specs.declared.next.WordFault.TheVariants.{Cut, BadLength, TimeOverflow}
use Rattle.ring_region.specs.declared.faults.SlotCause.TheVariants.{OtherCpu, Missed, BadCommit, Word, NumberOverflow}
use Rattle.ring_region.specs.declared.faults.SlotCause.TheVariants.{SameFill, Overlap}
use Rattle.ring_region.specs.Headers.{number_in}
use Rattle.ring_region.specs.Slots.{Slot, blank, intact, faulty, IsSlotOf, IsOfCpu, IsUnmissed, IsCommitted, commit_in}
use Rattle.ring_region.specs.Slots.{committed_in}
use Rattle.ring_region.proofs.Plain.{slot_cause, slot_faulty}

-- ---- some slot

pub either : (m n : ℕ) → (m ≡ n) ⊎ (m ≢ n)
either m n = ⊎_elim
    (λ below. inr (λ same. absurd (omega (arith, below, same))))
    (λ least.
    ⊎_elim (λ above. inr (λ same. absurd (omega (arith, above, same)))) (λ most. inl (omega (arith, least, most)))
    (cases_lt n m))
    (cases_lt m n)

abbrev IsSomeSlot : (cpu : ℕ) → List ℕ → Type 0
IsSomeSlot cpu bytes = (slot : Slot) × IsSlotOf cpu bytes slot

some_committed : (cpu : ℕ) (bytes : List ℕ) → cpu < MAX_CPUS → AreBytes bytes → length bytes ≤ 48 + MAX_SIZE
    → IsCommitted cpu bytes → IsSomeSlot cpu bytes
some_committed cpu bytes known small limit is = ⊎_elim
    (λ (parcel, reads). (intact parcel, (is, reads)))
    (λ (cause, bad). (faulty (slot_cause cause), slot_faulty cpu bytes cause known limit is bad))
    (parcel_read_or_faulty (committed_in bytes) (AreBytes-take (48 + commit_in bytes) bytes small))

some_unmissed : (cpu : ℕ) (bytes : List ℕ) → cpu < MAX_CPUS → AreBytes bytes → length bytes ≤ 48 + MAX_SIZE
    → IsUnmissed cpu bytes → IsSomeSlot cpu bytes
some_unmissed cpu bytes known small limit is = ⊎_elim
    (λ past. (faulty BadCommit, (is, past)))
    (λ there. some_committed cpu bytes known small limit (record { unmissed = is; there = there }))
    (cases_lt (length bytes) (48 + commit_in bytes))

some_of_cpu : (cpu : ℕ) (bytes : List ℕ) → cpu < MAX_CPUS → AreBytes bytes → length bytes ≤ 48 + MAX_SIZE
    → IsOfCpu cpu bytes → IsSomeSlot cpu bytes
some_of_cpu cpu bytes known small limit is = ⊎_elim
    (λ none. some_unmissed cpu bytes known small limit (record { of_cpu = is; none_missed = none }))
    (λ misses. (faulty Missed, (is, misses)))
    (either (number_in bytes 24) 0)

pub some_slot : (cpu : ℕ) (bytes : List ℕ) → cpu < MAX_CPUS → AreBytes bytes → length bytes ≤ 48 + MAX_SIZE
    → IsSomeSlot cpu bytes
some_slot cpu bytes known small limit = ⊎_elim
    (λ none. (blank, none))
    (λ some. ⊎_elim
    (λ same. some_of_cpu cpu bytes known small limit (record { some = some; cpu_is = same }))
    (λ differs. (faulty OtherCpu, (some, differs)))
    (either (number_in bytes 0) cpu))
    (either (commit_in bytes) 0)

-- ---- and no other

-- what the bytes say of a slot, by what is looked at
data Told (cpu : ℕ) (bytes : List ℕ) (slot : Slot) : Type 0 where
  told_blank : commit_in bytes ≡ 0 → slot ≡ blank → Told cpu bytes slot
  told_other : commit_in bytes ≢ 0 → number_in bytes 0 ≢ cpu → slot ≡ faulty OtherCpu → Told cpu bytes slot
  told_missed : IsOfCpu cpu bytes → number_in bytes 24 ≢ 0 → slot ≡ faulty Missed → Told cpu bytes slot
  told_long : IsUnmissed cpu bytes → length bytes < 48 + commit_in bytes → slot ≡ faulty BadCommit → Told cpu bytes slot
  told_page : (parcel : Parcel) → IsCommitted cpu bytes → DecodesParcel (committed_in bytes) parcel
      → slot ≡ intact parcel → Told cpu bytes slot
  told_fault : (cause : ParcelCause) → IsCommitted cpu bytes → FirstParcelFault (committed_in bytes) cause
      → slot ≡ faulty (slot_cause cause) → Told cpu bytes slot

told : (cpu : ℕ) (bytes : List ℕ) (slot : Slot) → IsSlotOf cpu bytes slot → Told cpu bytes slot
told cpu bytes blank is = told_blank is refl
told cpu bytes (intact parcel) (is, reads) = told_page parcel is reads refl
told cpu bytes (faulty OtherCpu) (some, differs) = told_other some differs refl
told cpu bytes (faulty Missed) (is, misses) = told_missed is misses refl
told cpu bytes (faulty BadCommit) (is, past) = told_long is past refl
told cpu bytes (faulty (Word (Cut at))) (is, bad) = told_fault (bad_image (bad_word cut at)) is bad refl
told cpu bytes (faulty (Word (BadLength at))) (is, bad) = told_fault (bad_image (bad_word bad_length at)) is bad refl
told cpu bytes (faulty (Word (TimeOverflow at))) (is, bad) =
    told_fault (bad_image (bad_word time_overflow at)) is bad refl
told cpu bytes (faulty NumberOverflow) (is, bad) = told_fault number_overflow is bad refl
told cpu bytes (faulty SameFill) is = absurd is
told cpu bytes (faulty Overlap) is = absurd is

-- what the bytes say is one slot
one_told : (cpu : ℕ) (bytes : List ℕ) (slot other : Slot) → Told cpu bytes slot → Told cpu bytes other → slot ≡ other
one_told cpu bytes slot other (told_blank none is) (told_blank also too) = is ∙ sym too
one_told cpu bytes slot other (told_blank none is) (told_other some differs too) = absurd (some none)
one_told cpu bytes slot other (told_blank none is) (told_missed after misses too) = absurd (after.some none)
one_told cpu bytes slot other (told_blank none is) (told_long after past too) = absurd (after.of_cpu.some none)
one_told cpu bytes slot other (told_blank none is) (told_page parcel after reads too) =
    absurd (after.unmissed.of_cpu.some none)
one_told cpu bytes slot other (told_blank none is) (told_fault cause after bad too) =
    absurd (after.unmissed.of_cpu.some none)
one_told cpu bytes slot other (told_other some differs is) (told_blank none too) = absurd (some none)
one_told cpu bytes slot other (told_other some differs is) (told_other also too_differs too) = is ∙ sym too
one_told cpu bytes slot other (told_other some differs is) (told_missed after misses too) =
    absurd (differs after.cpu_is)
one_told cpu bytes slot other (told_other some differs is) (told_long after past too) =
    absurd (differs after.of_cpu.cpu_is)
one_told cpu bytes slot other (told_other some differs is) (told_page parcel after reads too) =
    absurd (differs after.unmissed.of_cpu.cpu_is)
one_told cpu bytes slot other (told_other some differs is) (told_fault cause after bad too) =
    absurd (differs after.unmissed.of_cpu.cpu_is)
one_told cpu bytes slot other (told_missed before misses is) (told_blank none too) = absurd (before.some none)
one_told cpu bytes slot other (told_missed before misses is) (told_other some differs too) =
    absurd (differs before.cpu_is)
one_told cpu bytes slot other (told_missed before misses is) (told_missed after also too) = is ∙ sym too
one_told cpu bytes slot other (told_missed before misses is) (told_long after past too) =
    absurd (misses after.none_missed)
one_told cpu bytes slot other (told_missed before misses is) (told_page parcel after reads too) =
    absurd (misses after.unmissed.none_missed)
one_told cpu bytes slot other (told_missed before misses is) (told_fault cause after bad too) =
    absurd (misses after.unmissed.none_missed)
one_told cpu bytes slot other (told_long before past is) (told_blank none too) = absurd (before.of_cpu.some none)
one_told cpu bytes slot other (told_long before past is) (told_other some differs too) =
    absurd (differs before.of_cpu.cpu_is)
one_told cpu bytes slot other (told_long before past is) (told_missed after misses too) =
    absurd (misses before.none_missed)
one_told cpu bytes slot other (told_long before past is) (told_long after also too) = is ∙ sym too
one_told cpu bytes slot other (told_long before past is) (told_page parcel after reads too) = let there = after.there in
    absurd (omega (arith, there, past))
one_told cpu bytes slot other (told_long before past is) (told_fault cause after bad too) = let there = after.there in
    absurd (omega (arith, there, past))
one_told cpu bytes slot other (told_page parcel before reads is) (told_blank none too) =
    absurd (before.unmissed.of_cpu.some none)
one_told cpu bytes slot other (told_page parcel before reads is) (told_other some differs too) =
    absurd (differs before.unmissed.of_cpu.cpu_is)
one_told cpu bytes slot other (told_page parcel before reads is) (told_missed after misses too) =
    absurd (misses before.unmissed.none_missed)
one_told cpu bytes slot other (told_page parcel before reads is) (told_long after past too) =
    let there =
    before.there in
    absurd (omega (arith, there, past))
one_told cpu bytes slot other (told_page parcel before reads is) (told_page page after also too) =
    is ∙ ap intact (DecodesParcel-unique (committed_in bytes) parcel page reads also) ∙ sym too
one_told cpu bytes slot other (told_page parcel before reads is) (told_fault cause after bad too) =
    absurd (DecodesParcel-FirstParcelFault (committed_in bytes) parcel cause reads bad)
one_told cpu bytes slot other (told_fault cause before bad is) (told_blank none too) =
    absurd (before.unmissed.of_cpu.some none)
one_told cpu bytes slot other (told_fault cause before bad is) (told_other some differs too) =
    absurd (differs before.unmissed.of_cpu.cpu_is)
one_told cpu bytes slot other (told_fault cause before bad is) (told_missed after misses too) =
    absurd (misses before.unmissed.none_missed)
one_told cpu bytes slot other (told_fault cause before bad is) (told_long after past too) = let there = before.there in
    absurd (omega (arith, there, past))
one_told cpu bytes slot other (told_fault cause before bad is) (told_page parcel after reads too) =
    absurd (DecodesParcel-FirstParcelFault (committed_in bytes) parcel cause reads bad)
one_told cpu bytes slot other (told_fault cause before bad is) (told_fault reason after also too) =
    is
    ∙ ap (λ (c : ParcelCause). faulty (slot_cause c))
    (FirstParcelFault-unique (committed_in bytes) cause reason bad also) ∙ sym too

pub one_slot : (cpu : ℕ) (bytes : List ℕ) (slot other : Slot) → IsSlotOf cpu bytes slot → IsSlotOf cpu bytes other
    → slot ≡ other
one_slot cpu bytes slot other is also =
    one_told cpu bytes slot other (told cpu bytes slot is) (told cpu bytes other also)
