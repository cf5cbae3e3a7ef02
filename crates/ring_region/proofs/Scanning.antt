-- The slots of a region, read one after the other.
use Rattle.std.proofs.Common.{◌≡◌, ◌∙◌, ℕ, suc, ◌+◌, ◌-◌, ◌<◌, ◌≤◌, Bool, List, [], ◌∷◌, ◌++◌, length, take, drop, refl}
use Rattle.std.proofs.Common.{sym, ap, subst, ⊎_elim, arith, append-nil, length-append}
use Rattle.std.specs.Prelude.{map, if◌then◌else◌}
use Rattle.std.proofs.lemmas.Bool.{lt-ltb, le-ltb}
use Rattle.std.proofs.lemmas.Option.{none-some}
use Rattle.trace_model.specs.Parcel.{Parcel}
use Rattle.page_image.specs.Contents.{Contents}
use Rattle.ring_region.specs.declared.headers.Header.{Header}
use Rattle.ring_region.specs.declared.faults.Damaged.{Damaged}
use Rattle.ring_region.specs.declared.faults.SlotFault.{SlotFault}
use Rattle.ring_region.specs.declared.found.Found.{Found as FoundAnswer}
use Rattle.ring_region.specs.declared.scans.Scan.{Scan}
use Rattle.ring_region.specs.declared.slots.Reading.{Reading}
use Rattle.ring_region.specs.declared.slots.Reading.TheVariants.{Blank as BlankRead, Page as PageRead}
use Rattle.ring_region.specs.declared.slots.Reading.TheVariants.{Damaged as DamagedRead}
use Rattle.ring_region.specs.Headers.{slot_at, slot_in}
use Rattle.ring_region.specs.Slots.{Slot, blank, intact, faulty, IsSlotOf}
use Rattle.ring_region.specs.Order.{end_of, AreByFill, damage_of, damaged_from}
use Rattle.ring_region.specs.Regions.{unpassed, IsUnpassedSlotOf, AreSlots}
use Rattle.ring_region.specs.Answers.{unmissed, reading_seen, found_seen, IsScanned, AddsSlot, PutsByFill}
use Rattle.ring_region.proofs.ByFill.{by_fill_else, get_pushed}
use Rattle.ring_region.proofs.Keeping.{put_seen}

-- the damaged ones of slots, and of more after them
damaged_from-append : (size number : ℕ) (slots more : List Slot)
    → damaged_from size number (slots ++ more)
    ≡ damaged_from size number slots ++ damaged_from size (number + length slots) more
damaged_from-append size number [] more =
    ap (λ (n : ℕ). damaged_from size n more) (let e : number ≡ number + 0 = omega arith in e)
damaged_from-append size number (blank ∷ slots) more =
    damaged_from-append size (suc number) slots more
    ∙ ap (λ (n : ℕ). damaged_from size (suc number) slots ++ damaged_from size n more)
    (let e : suc number + length slots ≡ number + suc (length slots) = omega arith in e)
damaged_from-append size number (intact parcel ∷ slots) more =
    damaged_from-append size (suc number) slots more
    ∙ ap (λ (n : ℕ). damaged_from size (suc number) slots ++ damaged_from size n more)
    (let e : suc number + length slots ≡ number + suc (length slots) = omega arith in e)
damaged_from-append size number (faulty cause ∷ slots) more =
    ap (λ (ds : List Damaged). damage_of size number cause ∷ ds)
    (damaged_from-append size (suc number) slots more
    ∙ ap (λ (n : ℕ). damaged_from size (suc number) slots ++ damaged_from size n more)
    (let e : suc number + length slots ≡ number + suc (length slots) = omega arith in e))

damaged_pushed : (size : ℕ) (slots : List Slot) (slot : Slot)
    → damaged_from size 0 (slots ++ slot ∷ [])
    ≡ damaged_from size 0 slots ++ damaged_from size (length slots) (slot ∷ [])
damaged_pushed size slots slot =
    damaged_from-append size 0 slots (slot ∷ [])
    ∙ ap (λ (n : ℕ). damaged_from size 0 slots ++ damaged_from size n (slot ∷ []))
    (let e : 0 + length slots ≡ length slots = omega arith in e)

-- ---- pages that were passed

left_out : (parcel : Parcel) (taken : ℕ) → end_of parcel < taken → unpassed taken (intact parcel) ≡ blank
left_out parcel taken low = ap (λ (b : Bool). if b then blank else intact parcel) (lt-ltb (end_of parcel) taken low)

kept_in : (parcel : Parcel) (taken : ℕ) → taken ≤ end_of parcel → unpassed taken (intact parcel) ≡ intact parcel
kept_in parcel taken high = ap (λ (b : Bool). if b then blank else intact parcel) (le-ltb (end_of parcel) taken high)

-- ---- one slot more

pub scan_blank : (header : Header) (bytes : List ℕ) (slots : List Slot) (scan : Scan) (read : Reading)
    → read ≡ BlankRead → IsSlotOf header.cpu.0 bytes (reading_seen header.cpu.0 read)
    → IsScanned header slots scan → AddsSlot header bytes slots scan
scan_blank header bytes slots scan read read_is is was = record {
  slot = blank;
  slot_is =
      record {
        read = blank;
        read_is = subst (λ (r : Reading). IsSlotOf header.cpu.0 bytes (reading_seen header.cpu.0 r)) read_is is;
        slot_is = refl;
      };
  scanned = record {
    by_fill = by_fill_else slots (map (found_seen header.cpu.0) scan.pages.items) blank (λ parcel e. cc) was.by_fill;
    damaged_are =
        was.damaged_are ∙ sym (damaged_pushed header.size slots blank ∙ append-nil (damaged_from header.size 0 slots));
  };
}

-- a page that was passed
pub scan_passed : (header : Header) (bytes : List ℕ) (slots : List Slot) (scan : Scan) (read : Reading)
    (page : Contents) → read ≡ PageRead page
    → IsSlotOf header.cpu.0 bytes (reading_seen header.cpu.0 read) → IsScanned header slots scan
    → end_of (unmissed header.cpu.0 page) < header.taken.0 → AddsSlot header bytes slots scan
scan_passed header bytes slots scan read page read_is is was low = record {
  slot = blank;
  slot_is = record {
    read = intact (unmissed header.cpu.0 page);
    read_is = subst (λ (r : Reading). IsSlotOf header.cpu.0 bytes (reading_seen header.cpu.0 r)) read_is is;
    slot_is = sym (left_out (unmissed header.cpu.0 page) header.taken.0 low);
  };
  scanned = record {
    by_fill = by_fill_else slots (map (found_seen header.cpu.0) scan.pages.items) blank (λ parcel e. cc) was.by_fill;
    damaged_are =
        was.damaged_are ∙ sym (damaged_pushed header.size slots blank ∙ append-nil (damaged_from header.size 0 slots));
  };
}

pub scan_page : (header : Header) (bytes : List ℕ) (slots : List Slot) (scan new : Scan) (read : Reading)
    (page : Contents) (number : ℕ) (found : FoundAnswer)
    → read ≡ PageRead page → IsSlotOf header.cpu.0 bytes (reading_seen header.cpu.0 read) → IsScanned header slots scan
    → length slots ≡ number
    → found.slot ≡ number → found.page ≡ page → PutsByFill found scan.pages.items new.pages.items
    → new.damaged.items ≡ scan.damaged.items
    → header.taken.0 ≤ end_of (unmissed header.cpu.0 found.page) → AddsSlot header bytes slots new
scan_page header bytes slots scan new read page number found read_is is was count slot_is page_is puts same high =
    record {
      slot = intact (unmissed header.cpu.0 found.page);
      slot_is = record {
        read = intact (unmissed header.cpu.0 found.page);
        read_is =
            subst (λ (r : Reading). IsSlotOf header.cpu.0 bytes (reading_seen header.cpu.0 r))
            (read_is ∙ ap PageRead (sym page_is)) is;
        slot_is = sym (kept_in (unmissed header.cpu.0 found.page) header.taken.0 high);
      };
      scanned = record {
        by_fill =
            put_seen header.cpu.0 slots found scan.pages.items new.pages.items (slot_is ∙ sym count) puts was.by_fill;
        damaged_are = same ∙ was.damaged_are
            ∙ sym
            (damaged_pushed header.size slots (intact (unmissed header.cpu.0 found.page))
            ∙ append-nil (damaged_from header.size 0 slots));
      };
    }

pub scan_damaged : (header : Header) (bytes : List ℕ) (slots : List Slot) (scan new : Scan) (read : Reading)
    (fault : SlotFault) (number : ℕ) (damage : Damaged)
    → read ≡ DamagedRead fault → IsSlotOf header.cpu.0 bytes (reading_seen header.cpu.0 read)
    → IsScanned header slots scan → length slots ≡ number
    → damage ≡ damage_of header.size number fault.cause → new.damaged.items ≡ scan.damaged.items ++ damage ∷ []
    → new.pages.items ≡ scan.pages.items → AddsSlot header bytes slots new
scan_damaged header bytes slots scan new read fault number damage read_is is was count damage_is more same = record {
  slot = faulty fault.cause;
  slot_is =
      record {
        read = faulty fault.cause;
        read_is = subst (λ (r : Reading). IsSlotOf header.cpu.0 bytes (reading_seen header.cpu.0 r)) read_is is;
        slot_is = refl;
      };
  scanned = record {
    by_fill = by_fill_else slots (map (found_seen header.cpu.0) new.pages.items) (faulty fault.cause) (λ parcel e. cc)
        (subst (λ (fs : List FoundAnswer). AreByFill slots (map (found_seen header.cpu.0) fs)) (sym same) was.by_fill);
    damaged_are = more
        ∙ (λ i.
        was.damaged_are i ++ (damage_is ∙ ap (λ (n : ℕ). damage_of header.size n fault.cause) (sym count)) i ∷ [])
        ∙ sym (damaged_pushed header.size slots (faulty fault.cause));
  };
}

-- ---- all slots

-- the bytes of a slot
pub slot_sliced : (size at number : ℕ) (bytes : List ℕ) → at ≡ slot_at size number
    → take (at + 48 + size - at) (drop at bytes) ≡ slot_in size bytes number
slot_sliced size at number bytes at_is =
    ap (λ (n : ℕ). take n (drop at bytes)) (let e : at + 48 + size - at ≡ 48 + size = omega arith in e)
    ∙ ap (λ (n : ℕ). take (48 + size) (drop n bytes)) at_is

-- `count` slots were read
pub record AreScannedTo (header : Header) (bytes : List ℕ) (count : ℕ) (scan : Scan) : Type 0 where
  pub slots : List Slot
  pub count_is : length slots ≡ count
  pub slots_are : AreSlots header bytes slots
  pub scanned : IsScanned header slots scan

pub scanned_none : (header : Header) (bytes : List ℕ) (scan : Scan) → IsScanned header [] scan
    → AreScannedTo header bytes 0 scan
scanned_none header bytes scan is = record {
  slots = [];
  count_is = refl;
  slots_are = λ number slot at. absurd (none-some slot at);
  scanned = is;
}

pub scanned_more : (header : Header) (bytes piece : List ℕ) (count : ℕ) (scan new : Scan)
    → piece ≡ slot_in header.size bytes count → (was : AreScannedTo header bytes count scan)
    → AddsSlot header piece was.slots new → AreScannedTo header bytes (count + 1) new
scanned_more header bytes piece count scan new piece_is was adds = record {
  slots = was.slots ++ adds.slot ∷ [];
  count_is = omega (arith, was.count_is, length-append was.slots (adds.slot ∷ []));
  slots_are = λ number slot at. ⊎_elim
      (λ there. was.slots_are number slot there)
      (λ (last, same).
      subst (λ (k : ℕ). IsUnpassedSlotOf header (slot_in header.size bytes k) slot) (sym (last ∙ was.count_is))
      (subst (λ (s : Slot). IsUnpassedSlotOf header (slot_in header.size bytes count) s) same
      (subst (λ (b : List ℕ). IsUnpassedSlotOf header b adds.slot) piece_is adds.slot_is)))
      (get_pushed was.slots adds.slot number slot at);
  scanned = adds.scanned;
}
