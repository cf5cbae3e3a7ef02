-- The numbers of a slot are those of what is up to its commit.
use Rattle.std.proofs.Common.{◌≡◌, ℕ, ◌+◌, ◌-◌, ◌≤◌, ◌<◌, List, length, take, drop, sym, ap, subst, ◌∙◌, arith}
use Rattle.std.proofs.lemmas.List.{drop-take, take-take, length-take-le}
use Rattle.trace_model.specs.Image.{from_le64, bad_word}
use Rattle.trace_model.specs.Faults.{cut, bad_length, time_overflow}
use Rattle.trace_model.specs.Parcel.{Parcel}
use Rattle.trace_model.specs.ParcelBytes.{DecodesParcel, ParcelCause, bad_image, number_overflow, FirstParcelFault}
use Rattle.trace_model.proofs.images.ImageParts.{from_le64-take}
use Rattle.trace_model.proofs.images.ParcelParts.{HasNumbers-are}
use Rattle.record_words.specs.declared.next.WordFault.TheVariants.{Cut, BadLength, TimeOverflow}
use Rattle.ring_region.specs.declared.faults.SlotCause.TheVariants.{OtherCpu, Missed, BadCommit, Word, NumberOverflow}
use Rattle.ring_region.specs.declared.faults.SlotCause.TheVariants.{SameFill, Overlap}
use Rattle.ring_region.specs.Headers.{number_in}
use Rattle.ring_region.specs.Slots.{Slot, blank, intact, faulty, IsSlotOf, IsOfCpu, IsUnmissed, IsCommitted, commit_in}
use Rattle.ring_region.specs.Slots.{committed_in}

-- a number that ends before the cut is the same in what is before it
pub number-take : (bytes : List ℕ) (n at : ℕ) → at + 8 ≤ n → number_in (take n bytes) at ≡ number_in bytes at
number-take bytes n at fits =
    let parts : n ≡ at + (n - at) = omega arith in
    sym (from_le64-take (drop at (take n bytes)))
    ∙ ap (λ (k : ℕ). from_le64 (take 8 (drop at (take k bytes)))) parts
    ∙ ap (λ (xs : List ℕ). from_le64 (take 8 xs)) (drop-take at (n - at) bytes)
    ∙ ap from_le64 (take-take 8 (n - at) (drop at bytes) (omega arith))
    ∙ from_le64-take (drop at bytes)

-- a slot that is a page has its region's CPU, and misses nothing
pub page-numbers : (cpu : ℕ) (bytes : List ℕ) (parcel : Parcel) → IsSlotOf cpu bytes (intact parcel)
    → (parcel.cpu ≡ cpu) × (parcel.missed ≡ 0)
page-numbers cpu bytes parcel is =
    let are =
    HasNumbers-are (committed_in bytes) parcel.cpu parcel.fill parcel.first parcel.missed is.1.image.image
    is.1.image.numbers in (
      are.cpu_is ∙ number-take bytes (48 + commit_in bytes) 0 (omega arith) ∙ is.0.unmissed.of_cpu.cpu_is,
      are.missed_is ∙ number-take bytes (48 + commit_in bytes) 24 (omega arith) ∙ is.0.unmissed.none_missed,
    )

-- ---- what decides what a slot is

-- both have the same numbers and are the same up to their commit, and it is there in both or in none
pub record AreAlike (bytes other : List ℕ) : Type 0 where
  pub cpus : number_in bytes 0 ≡ number_in other 0
  pub misses : number_in bytes 24 ≡ number_in other 24
  pub commits : commit_in bytes ≡ commit_in other
  pub committed : committed_in bytes ≡ committed_in other
  pub there : 48 + commit_in bytes ≤ length bytes → 48 + commit_in bytes ≤ length other
  pub past : length bytes < 48 + commit_in bytes → length other < 48 + commit_in bytes

alike_of_cpu : (cpu : ℕ) (bytes other : List ℕ) → AreAlike bytes other → IsOfCpu cpu bytes → IsOfCpu cpu other
alike_of_cpu cpu bytes other alike is =
    record { some = λ none. is.some (alike.commits ∙ none); cpu_is = sym alike.cpus ∙ is.cpu_is }

same_unmissed : (cpu : ℕ) (bytes other : List ℕ) → AreAlike bytes other → IsUnmissed cpu bytes → IsUnmissed cpu other
same_unmissed cpu bytes other alike is =
    record { of_cpu = alike_of_cpu cpu bytes other alike is.of_cpu; none_missed = sym alike.misses ∙ is.none_missed }

alike_committed : (cpu : ℕ) (bytes other : List ℕ) → AreAlike bytes other → IsCommitted cpu bytes
    → IsCommitted cpu other
alike_committed cpu bytes other alike is = record {
  unmissed = same_unmissed cpu bytes other alike is.unmissed;
  there = subst (λ (n : ℕ). 48 + n ≤ length other) alike.commits (alike.there is.there);
}

alike_fault : (bytes other : List ℕ) (cause : ParcelCause) → AreAlike bytes other
    → FirstParcelFault (committed_in bytes) cause → FirstParcelFault (committed_in other) cause
alike_fault bytes other cause alike is = subst (λ (b : List ℕ). FirstParcelFault b cause) alike.committed is

-- then they are the same slot
pub same_slot : (cpu : ℕ) (bytes other : List ℕ) (slot : Slot) → AreAlike bytes other → IsSlotOf cpu bytes slot
    → IsSlotOf cpu other slot
same_slot cpu bytes other blank alike is = sym alike.commits ∙ is
same_slot cpu bytes other (intact parcel) alike (is, reads) =
    (alike_committed cpu bytes other alike is, subst (λ (b : List ℕ). DecodesParcel b parcel) alike.committed reads)
same_slot cpu bytes other (faulty OtherCpu) alike (some, differs) =
    (λ none. some (alike.commits ∙ none), λ same. differs (alike.cpus ∙ same))
same_slot cpu bytes other (faulty Missed) alike (is, misses) =
    (alike_of_cpu cpu bytes other alike is, λ none. misses (alike.misses ∙ none))
same_slot cpu bytes other (faulty BadCommit) alike (is, past) =
    (same_unmissed cpu bytes other alike is, subst (λ (n : ℕ). length other < 48 + n) alike.commits (alike.past past))
same_slot cpu bytes other (faulty (Word (Cut at))) alike (is, bad) =
    (alike_committed cpu bytes other alike is, alike_fault bytes other (bad_image (bad_word cut at)) alike bad)
same_slot cpu bytes other (faulty (Word (BadLength at))) alike (is, bad) =
    (alike_committed cpu bytes other alike is, alike_fault bytes other (bad_image (bad_word bad_length at)) alike bad)
same_slot cpu bytes other (faulty (Word (TimeOverflow at))) alike (is, bad) = (
  alike_committed cpu bytes other alike is,
  alike_fault bytes other (bad_image (bad_word time_overflow at)) alike bad,
)
same_slot cpu bytes other (faulty NumberOverflow) alike (is, bad) =
    (alike_committed cpu bytes other alike is, alike_fault bytes other number_overflow alike bad)
same_slot cpu bytes other (faulty SameFill) alike is = is
same_slot cpu bytes other (faulty Overlap) alike is = is

-- bytes that agree up to the commit
pub alike-behind : (bytes other : List ℕ) → length other ≡ length bytes
    → take (48 + commit_in bytes) other ≡ take (48 + commit_in bytes) bytes → AreAlike bytes other
alike-behind bytes other long same =
    let n : ℕ = 48 + commit_in bytes in
    let number =
    λ (at : ℕ) (low : at + 8 ≤ n).
    sym (number-take bytes n at low) ∙ ap (λ (b : List ℕ). number_in b at) (sym same)
    ∙ number-take other n at low in
    let commits = number 40 (omega arith) in
    record {
      cpus = number 0 (omega arith);
      misses = number 24 (omega arith);
      commits = commits;
      committed = sym same ∙ ap (λ (k : ℕ). take (48 + k) other) commits;
      there = λ there. omega (arith, there, long);
      past = λ past. omega (arith, past, long);
    }

-- a slot, and what is up to its commit
pub alike-committed : (cpu : ℕ) (bytes : List ℕ) → IsCommitted cpu bytes → AreAlike (committed_in bytes) bytes
alike-committed cpu bytes is =
    let n : ℕ = 48 + commit_in bytes in
    let commits : commit_in (committed_in bytes) ≡ commit_in bytes = number-take bytes n 40 (omega arith) in
    let there = is.there in
    let long : length (committed_in bytes) ≡ 48 + commit_in bytes = length-take-le n bytes there in
    record {
      cpus = number-take bytes n 0 (omega arith);
      misses = number-take bytes n 24 (omega arith);
      commits = commits;
      committed = ap (λ (k : ℕ). take (48 + k) (committed_in bytes)) commits ∙ take-take n n bytes (omega arith);
      there = λ here. omega (arith, there, commits);
      past = λ past. absurd (omega (arith, past, commits, long));
    }

-- what is up to the commit of a slot states what the slot does
pub committed_unmissed : (cpu : ℕ) (bytes : List ℕ) → IsUnmissed cpu bytes → IsUnmissed cpu (committed_in bytes)
committed_unmissed cpu bytes is =
    let n : ℕ = 48 + commit_in bytes in record {
      of_cpu = record {
        some = λ none. is.of_cpu.some (sym (number-take bytes n 40 (omega arith)) ∙ none);
        cpu_is = number-take bytes n 0 (omega arith) ∙ is.of_cpu.cpu_is;
      };
      none_missed = number-take bytes n 24 (omega arith) ∙ is.none_missed;
    }
