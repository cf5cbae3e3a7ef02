-- A region holds one thing.
use Rattle.std.proofs.Common.{◌≡◌, ◌≢◌, ◌∙◌, ℕ, zero, suc, ◌+◌, ◌%◌, ◌≤◌, ◌<◌, ◌⊎◌, inl, inr, ⊎_elim, List, [], ◌∷◌}
use Rattle.std.proofs.Common.{◌++◌, length, take, drop, Some, None, refl, sym, ap, subst, arith, length-append}
use Rattle.std.proofs.lemmas.Bool.{cases_lt}
use Rattle.std.proofs.lemmas.List.{length-take}
use Rattle.std.proofs.lemmas.Option.{none-some}
use Rattle.std.specs.List.{slice_get}
use Rattle.trace_model.specs.FirstFault.{AreBytes}
use Rattle.trace_model.specs.declared.limits.TheConstants.{MAX_CPUS, MAX_SIZE, MIN_PAGES, MAX_PAGES, MIN_SIZE}
use Rattle.trace_model.proofs.words.OneWord.{AreBytes-drop, AreBytes-take}
use Rattle.ring_region.specs.declared.headers.Header.{Header}
use Rattle.ring_region.specs.declared.faults.Damaged.{Damaged}
use Rattle.ring_region.specs.declared.faults.RegionFault.{RegionFault}
use Rattle.ring_region.specs.declared.faults.RegionFault.TheVariants.{TooShort, NotARegion, BadVersion, BadPages}
use Rattle.ring_region.specs.declared.faults.RegionFault.TheVariants.{BadSize, BadCpu, BadEnd, NoMemory}
use Rattle.ring_region.specs.Headers.{header_in, number_in, magic, region_len, slot_at, slot_in, IsMarked, HasVersion}
use Rattle.ring_region.specs.Headers.{HasPages, HasSize, HasCpu, HasEnd, IsWhole, IsRegionFault}
use Rattle.ring_region.specs.Slots.{Slot}
use Rattle.ring_region.specs.Order.{AreByFill, kept_behind, recovered}
use Rattle.ring_region.specs.Regions.{unpassed, IsUnpassedSlotOf, AreSlots, Recovered, damaged_in, IsHeld, IsRegion}
use Rattle.ring_region.proofs.Slotted.{some_slot, one_slot, either}
use Rattle.ring_region.proofs.ByFill.{one_by_fill, some_by_fill, get_pushed}

-- ---- one

-- lists of the same length with the same elements at each index
same_lists : (xs ys : List Slot) → length xs ≡ length ys
    → ((k : ℕ) (x y : Slot) → slice_get xs k ≡ Some x → slice_get ys k ≡ Some y → x ≡ y) → xs ≡ ys
same_lists [] [] long same = refl
same_lists [] (y ∷ ys) long same = absurd (omega arith)
same_lists (x ∷ xs) [] long same = absurd (omega arith)
same_lists (x ∷ xs) (y ∷ ys) long same =
    let first = same 0 x y refl refl in
    let rest = same_lists xs ys (omega arith) (λ k a b at there. same (suc k) a b at there) in
    (λ i. first i ∷ rest i)

one_unpassed : (header : Header) (bytes : List ℕ) (slot other : Slot) → IsUnpassedSlotOf header bytes slot
    → IsUnpassedSlotOf header bytes other → slot ≡ other
one_unpassed header bytes slot other is also =
    is.slot_is ∙ ap (unpassed header.taken.0) (one_slot header.cpu.0 bytes is.read also.read is.read_is also.read_is)
    ∙ sym also.slot_is

pub one_held : (bytes : List ℕ) (held other : Recovered) → held.header ≡ other.header → IsHeld bytes held
    → IsHeld bytes other → held ≡ other
one_held bytes held other header is also =
    let long : length is.slots ≡ length also.slots =
    is.count_is ∙ ap (λ (h : Header). h.pages + 1) header ∙ sym also.count_is in
    let there : AreSlots held.header bytes also.slots =
    subst (λ (h : Header). AreSlots h bytes also.slots) (sym header) also.slots_are in
    let slots : is.slots ≡ also.slots = same_lists is.slots also.slots long
    (λ k x y at here.
    one_unpassed held.header (slot_in held.header.size bytes k) x y (is.slots_are k x at) (there k y here)) in
    let found : is.found ≡ also.found =
    one_by_fill also.slots is.found also.found (subst (λ (ss : List Slot). AreByFill ss is.found) slots is.by_fill)
    also.by_fill in
    let damaged : held.damaged ≡ other.damaged =
    is.damaged_are ∙ (λ i. damaged_in (header i).size (slots i) (found i)) ∙ sym also.damaged_are in
    let parcels : held.parcels ≡ other.parcels =
    is.parcels_are ∙ (λ i. recovered (header i).taken.0 (damaged i) (kept_behind None (found i)))
    ∙ sym also.parcels_are in
    (λ i. record { header = header i; parcels = parcels i; damaged = damaged i })

pub one_region : (bytes : List ℕ) (held other : Recovered) → IsRegion bytes held → IsRegion bytes other → held ≡ other
one_region bytes held other is also = one_held bytes held other (is.header_is ∙ sym also.header_is) is.slots also.slots

-- ---- some

abbrev HasSlots : Header → List ℕ → ℕ → Type 0
HasSlots header bytes count = (slots : List Slot) × (length slots ≡ count) × AreSlots header bytes slots

some_slots : (header : Header) (bytes : List ℕ) → AreBytes bytes → header.cpu.0 < MAX_CPUS → header.size ≤ MAX_SIZE
    → (count : ℕ) → HasSlots header bytes count
some_slots header bytes small known limit zero = ([], refl, λ number slot at. absurd (none-some slot at))
some_slots header bytes small known limit (suc count) =
    let before = some_slots header bytes small known limit count in
    let piece : List ℕ = slot_in header.size bytes count in
    let slot =
    some_slot header.cpu.0 piece known
    (AreBytes-take (48 + header.size) (drop (slot_at header.size count) bytes)
    (AreBytes-drop (slot_at header.size count) bytes small))
    (omega (arith, limit, length-take (48 + header.size) (drop (slot_at header.size count) bytes))) in (
      before.0 ++ unpassed header.taken.0 slot.0 ∷ [],
      omega (arith, before.1, length-append before.0 (unpassed header.taken.0 slot.0 ∷ [])),
      λ number other at. ⊎_elim
          (λ was. before.2 number other was)
          (λ (last, same).
          subst (λ (k : ℕ). IsUnpassedSlotOf header (slot_in header.size bytes k) other) (sym (last ∙ before.1))
          (record { read = slot.0; read_is = slot.1; slot_is = sym same }))
          (get_pushed before.0 (unpassed header.taken.0 slot.0) number other at),
    )

some_region : (bytes : List ℕ) → AreBytes bytes → IsWhole bytes → (held : Recovered) × IsRegion bytes held
some_region bytes small whole =
    let header : Header = header_in bytes in
    let known = whole.stated.cpu.known in
    let limit = whole.stated.cpu.size.most in
    let slots = some_slots header bytes small known limit (header.pages + 1) in
    let found = some_by_fill slots.0 in
    let damaged : List Damaged = damaged_in header.size slots.0 found.0 in (
      record {
        header = header;
        parcels = recovered header.taken.0 damaged (kept_behind None found.0);
        damaged = damaged;
      },
      record {
        whole = whole;
        header_is = refl;
        slots = record {
          slots = slots.0;
          count_is = slots.1;
          slots_are = slots.2;
          found = found.0;
          by_fill = found.1;
          damaged_are = refl;
          parcels_are = refl;
        };
      },
    )

-- ---- or a first fault

abbrev IsFaulty : List ℕ → Type 0
IsFaulty bytes = (fault : RegionFault) × (fault ≢ NoMemory) × IsRegionFault bytes fault

abbrev IsAnswered : List ℕ → Type 0
IsAnswered bytes = ((held : Recovered) × IsRegion bytes held) ⊎ IsFaulty bytes

from_end : (bytes : List ℕ) → AreBytes bytes → HasEnd bytes → IsAnswered bytes
from_end bytes small is = ⊎_elim
    (λ short. inr (TooShort, (λ e. cc), inr (is, short)))
    (λ there. inl (some_region bytes small (record { stated = is; there = there })))
    (cases_lt (length bytes) (region_len (number_in bytes 16) (number_in bytes 24)))

from_cpu : (bytes : List ℕ) → AreBytes bytes → HasCpu bytes → IsAnswered bytes
from_cpu bytes small is = ⊎_elim
    (λ past. inr (BadEnd, (λ e. cc), (is, past)))
    (λ fits. from_end bytes small (record { cpu = is; one_or_none = fits }))
    (cases_lt 1 (number_in bytes 56))

from_size : (bytes : List ℕ) → AreBytes bytes → HasSize bytes → IsAnswered bytes
from_size bytes small is = ⊎_elim
    (λ known. from_cpu bytes small (record { size = is; known = known }))
    (λ past. inr (BadCpu, (λ e. cc), (is, past)))
    (cases_lt (number_in bytes 32) MAX_CPUS)

from_pages : (bytes : List ℕ) → AreBytes bytes → HasPages bytes → IsAnswered bytes
from_pages bytes small is = ⊎_elim
    (λ less. inr (BadSize, (λ e. cc), (is, inl less)))
    (λ least. ⊎_elim
    (λ more. inr (BadSize, (λ e. cc), (is, inr (inl more))))
    (λ most. ⊎_elim
    (λ whole. from_size bytes small (record { pages = is; least = least; most = most; whole = whole }))
    (λ broken. inr (BadSize, (λ e. cc), (is, inr (inr broken))))
    (either (number_in bytes 24 % 4) 0))
    (cases_lt MAX_SIZE (number_in bytes 24)))
    (cases_lt (number_in bytes 24) MIN_SIZE)

from_version : (bytes : List ℕ) → AreBytes bytes → HasVersion bytes → IsAnswered bytes
from_version bytes small is = ⊎_elim
    (λ less. inr (BadPages, (λ e. cc), (is, inl less)))
    (λ least. ⊎_elim
    (λ more. inr (BadPages, (λ e. cc), (is, inr more)))
    (λ most. from_pages bytes small (record { version = is; least = least; most = most }))
    (cases_lt MAX_PAGES (number_in bytes 16)))
    (cases_lt (number_in bytes 16) MIN_PAGES)

from_marked : (bytes : List ℕ) → AreBytes bytes → IsMarked bytes → IsAnswered bytes
from_marked bytes small is = ⊎_elim
    (λ one. from_version bytes small (record { marked = is; version_is = one }))
    (λ differs. inr (BadVersion, (λ e. cc), (is, differs)))
    (either (number_in bytes 8) 1)

same_or_not : (xs ys : List ℕ) → (xs ≡ ys) ⊎ (xs ≢ ys)
same_or_not [] [] = inl refl
same_or_not [] (y ∷ ys) = inr (λ e. cc)
same_or_not (x ∷ xs) [] = inr (λ e. cc)
same_or_not (x ∷ xs) (y ∷ ys) = ⊎_elim
    (λ first. ⊎_elim
    (λ rest. inl (λ i. first i ∷ rest i))
    (λ differs. inr (λ e. differs (tails x y xs ys e)))
    (same_or_not xs ys))
    (λ differs. inr (λ e. differs (heads x y xs ys e)))
    (either x y)
  where
    heads : (a b : ℕ) (left right : List ℕ) → a ∷ left ≡ b ∷ right → a ≡ b
    heads a b left right e = cc

    tails : (a b : ℕ) (left right : List ℕ) → a ∷ left ≡ b ∷ right → left ≡ right
    tails a b left right e = cc

pub some_answer : (bytes : List ℕ) → AreBytes bytes → IsAnswered bytes
some_answer bytes small = ⊎_elim
    (λ short. inr (TooShort, (λ e. cc), inl short))
    (λ long. ⊎_elim
    (λ is. from_marked bytes small (record { long = long; magic_is = is }))
    (λ differs. inr (NotARegion, (λ e. cc), (long, differs)))
    (same_or_not (take 8 bytes) magic))
    (cases_lt (length bytes) 128)
