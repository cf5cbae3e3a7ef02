-- What a store into the header of a slot makes of it, and of the data after it.
use Rattle.std.proofs.Common.{◌≡◌, ℕ, ◌+◌, ◌-◌, ◌≤◌, List, [], ◌++◌, length, take, drop, replicate, refl, sym, ap, ◌∙◌}
use Rattle.std.proofs.Common.{arith, append_assoc, length-append, length-take-le, length-drop}
use Rattle.std.proofs.Math.Seq.{take-append-add, drop-append-add}
use Rattle.std.proofs.lemmas.List.{drop-drop, drop_all, take_rest, append-nil}
use borrow.Rule.Slice.PartMut.{put_mid}
use Rattle.trace_model.specs.FirstFault.{AreBytes}
use Rattle.trace_model.specs.Image.{le64, from_le64}
use Rattle.trace_model.specs.Overwriting.{overwritten}
use Rattle.trace_model.proofs.images.ImageParts.{length-le64, drop-le64, le64-front}
use Rattle.trace_model.proofs.words.OneWord.{AreBytes-drop}
use Rattle.page_image.specs.Slot.{SlotHeader, StoresHeader, slot_bytes, no_header}

-- ---- a number of the header

-- bytes after others are overwritten
overwritten-behind : (front behind new : List ℕ) (at : ℕ) → length front ≡ 8
    → overwritten (front ++ behind) (8 + at) new ≡ front ++ overwritten behind at new
overwritten-behind front behind new at eight =
    let kept : take (8 + at) (front ++ behind) ≡ front ++ take at behind =
    ap (λ (n : ℕ). take (n + at) (front ++ behind)) (sym eight) ∙ take-append-add front behind at in
    let past : 8 + at + length new ≡ length front + (at + length new) = omega arith in
    let rest : drop (8 + at + length new) (front ++ behind) ≡ drop (at + length new) behind =
    ap (λ (n : ℕ). drop n (front ++ behind)) past ∙ drop-append-add front behind (at + length new) in
    (λ i. kept i ++ (new ++ rest i)) ∙ append_assoc front (take at behind) (new ++ drop (at + length new) behind)

-- a number is overwritten by another
overwritten-number : (old new : ℕ) (behind : List ℕ)
    → overwritten (le64 old ++ behind) 0 (le64 new) ≡ le64 new ++ behind
unfolding le64
overwritten-number old new behind = refl

-- a number further on is
overwritten-later : (number : ℕ) (behind new result : List ℕ) (at : ℕ) → overwritten behind at new ≡ result
    → overwritten (le64 number ++ behind) (8 + at) new ≡ le64 number ++ result
overwritten-later number behind new result at is =
    overwritten-behind (le64 number) behind new at (length-le64 number) ∙ ap (λ (b : List ℕ). le64 number ++ b) is

-- what is after the header stays
module _ (old : List ℕ) (at n : ℕ) (within : at + 8 ≤ 48) (long : 48 ≤ length old) where
  front_long : length (take at old ++ le64 n) ≡ at + 8
  front_long = let front = length-take-le at old (omega arith) in
      omega (arith, length-append (take at old) (le64 n), length-le64 n)

  stored_is : overwritten old at (le64 n) ≡ (take at old ++ le64 n) ++ drop (at + 8) old
  stored_is =
      ap (λ (k : ℕ). take at old ++ (le64 n ++ drop (at + k) old)) (length-le64 n)
      ∙ sym (append_assoc (take at old) (le64 n) (drop (at + 8) old))

  pub behind_stays : drop 48 (overwritten old at (le64 n)) ≡ drop 48 old
  behind_stays =
      let split : 48 ≡ length (take at old ++ le64 n) + (40 - at) = omega (arith, front_long) in
      let rest : at + 8 + (40 - at) ≡ 48 = omega arith in
      ap (drop 48) stored_is
      ∙ ap (λ (k : ℕ). drop k ((take at old ++ le64 n) ++ drop (at + 8) old)) split
      ∙ drop-append-add (take at old ++ le64 n) (drop (at + 8) old) (40 - at)
      ∙ drop-drop (40 - at) (at + 8) old
      ∙ ap (λ (k : ℕ). drop k old) rest

  pub length_stays : length (overwritten old at (le64 n)) ≡ length old
  length_stays =
      ap length stored_is
      ∙ (let front = front_long in
      omega (arith, length-append (take at old ++ le64 n) (drop (at + 8) old), length-drop (at + 8) old))

pub stores_fill : (old : List ℕ) (n : ℕ) → 48 ≤ length old
    → StoresHeader old (overwritten old 8 (le64 n)) (λ was. record was { fill = n })
stores_fill old n long = record {
  header = λ was behind is.
      let rest : List ℕ = le64 was.first ++ (le64 was.missed ++ (le64 was.time ++ (le64 was.commit ++ behind))) in
      ap (λ (b : List ℕ). overwritten b 8 (le64 n)) is
      ∙ overwritten-later was.cpu (le64 was.fill ++ rest) (le64 n) _ 0 (overwritten-number was.fill n rest);
  behind_stays = behind_stays old 8 n (omega arith) long;
  length_stays = length_stays old 8 n (omega arith) long;
}

pub stores_first : (old : List ℕ) (n : ℕ) → 48 ≤ length old
    → StoresHeader old (overwritten old 16 (le64 n)) (λ was. record was { first = n })
stores_first old n long = record {
  header = λ was behind is.
      let rest : List ℕ = le64 was.missed ++ (le64 was.time ++ (le64 was.commit ++ behind)) in
      ap (λ (b : List ℕ). overwritten b 16 (le64 n)) is
      ∙ overwritten-later was.cpu (le64 was.fill ++ (le64 was.first ++ rest)) (le64 n) _ 8
      (overwritten-later was.fill (le64 was.first ++ rest) (le64 n) _ 0 (overwritten-number was.first n rest));
  behind_stays = behind_stays old 16 n (omega arith) long;
  length_stays = length_stays old 16 n (omega arith) long;
}

pub stores_time : (old : List ℕ) (n : ℕ) → 48 ≤ length old
    → StoresHeader old (overwritten old 32 (le64 n)) (λ was. record was { time = n })
stores_time old n long = record {
  header = λ was behind is.
      let rest : List ℕ = le64 was.commit ++ behind in
      let three : List ℕ = le64 was.missed ++ (le64 was.time ++ rest) in
      ap (λ (b : List ℕ). overwritten b 32 (le64 n)) is
      ∙ overwritten-later was.cpu (le64 was.fill ++ (le64 was.first ++ three)) (le64 n) _ 24
      (overwritten-later was.fill (le64 was.first ++ three) (le64 n) _ 16
      (overwritten-later was.first three (le64 n) _ 8
      (overwritten-later was.missed (le64 was.time ++ rest) (le64 n) _ 0 (overwritten-number was.time n rest))));
  behind_stays = behind_stays old 32 n (omega arith) long;
  length_stays = length_stays old 32 n (omega arith) long;
}

pub stores_commit : (old : List ℕ) (n : ℕ) → 48 ≤ length old
    → StoresHeader old (overwritten old 40 (le64 n)) (λ was. record was { commit = n })
stores_commit old n long = record {
  header = λ was behind is.
      let two : List ℕ = le64 was.time ++ (le64 was.commit ++ behind) in
      let three : List ℕ = le64 was.missed ++ two in
      ap (λ (b : List ℕ). overwritten b 40 (le64 n)) is
      ∙ overwritten-later was.cpu (le64 was.fill ++ (le64 was.first ++ three)) (le64 n) _ 32
      (overwritten-later was.fill (le64 was.first ++ three) (le64 n) _ 24
      (overwritten-later was.first three (le64 n) _ 16
      (overwritten-later was.missed two (le64 n) _ 8
      (overwritten-later was.time (le64 was.commit ++ behind) (le64 n) _ 0 (overwritten-number was.commit n behind)))));
  behind_stays = behind_stays old 40 n (omega arith) long;
  length_stays = length_stays old 40 n (omega arith) long;
}

-- one store after another
pub stores_both : (old middle new : List ℕ) (stored then : SlotHeader → SlotHeader) → StoresHeader old middle stored
    → StoresHeader middle new then → StoresHeader old new (λ was. then (stored was))
stores_both old middle new stored then one other = record {
  header = λ was behind is. other.header (stored was) behind (one.header was behind is);
  behind_stays = other.behind_stays ∙ one.behind_stays;
  length_stays = other.length_stays ∙ one.length_stays;
}

-- the data of a slot
pub behind_header : (header : SlotHeader) (behind : List ℕ) → drop 48 (slot_bytes header behind) ≡ behind
behind_header h behind =
    let six : List ℕ = le64 h.commit ++ behind in
    let five : List ℕ = le64 h.time ++ six in
    let four : List ℕ = le64 h.missed ++ five in
    let three : List ℕ = le64 h.first ++ four in
    let two : List ℕ = le64 h.fill ++ three in
    sym (drop-drop 8 40 (slot_bytes h behind)) ∙ ap (drop 8)
    (sym (drop-drop 8 32 (slot_bytes h behind)) ∙ ap (drop 8)
    (sym (drop-drop 8 24 (slot_bytes h behind)) ∙ ap (drop 8)
    (sym (drop-drop 8 16 (slot_bytes h behind)) ∙ ap (drop 8)
    (sym (drop-drop 8 8 (slot_bytes h behind)) ∙ ap (drop 8) (drop-le64 h.cpu two)
    ∙ drop-le64 h.fill three) ∙ drop-le64 h.first four) ∙ drop-le64 h.missed five) ∙ drop-le64 h.time six)
    ∙ drop-le64 h.commit behind

-- a header of zeros
pub no_header_bytes : (behind : List ℕ) → slot_bytes no_header behind ≡ replicate 48 0 ++ behind
unfolding le64
no_header_bytes behind = refl

-- a number put into a part that reaches to the slot's end
pub number_put : (slot part : List ℕ) (at n : ℕ) → part ≡ le64 n ++ drop 8 (take (length slot - at) (drop at slot))
    → put_mid at (length slot - at) slot part ≡ overwritten slot at (le64 n)
number_put slot part at n part_is =
    let past : drop (length slot - at) (drop at slot) ≡ [] =
    drop_all (length slot - at) (drop at slot) (omega (arith, length-drop at slot)) in
    let rest : drop 8 (take (length slot - at) (drop at slot)) ≡ drop (at + length (le64 n)) slot =
    ap (drop 8) (take_rest slot at) ∙ drop-drop 8 at slot
    ∙ ap (λ (k : ℕ). drop (at + k) slot) (sym (length-le64 n)) in
    (λ i. take at slot ++ (part_is i ++ past i))
    ∙ ap (λ (b : List ℕ). take at slot ++ b)
    (append-nil (le64 n ++ drop 8 (take (length slot - at) (drop at slot)))
    ∙ ap (λ (b : List ℕ). le64 n ++ b) rest)

pub length-slot_bytes : (header : SlotHeader) (behind : List ℕ) → length (slot_bytes header behind) ≡ 48 + length behind
length-slot_bytes h behind =
    let six : List ℕ = le64 h.commit ++ behind in
    let five : List ℕ = le64 h.time ++ six in
    let four : List ℕ = le64 h.missed ++ five in
    let three : List ℕ = le64 h.first ++ four in
    let two : List ℕ = le64 h.fill ++ three in
    omega (
      arith,
      length-append (le64 h.cpu) two,
      length-append (le64 h.fill) three,
      length-append (le64 h.first) four,
      length-append (le64 h.missed) five,
      length-append (le64 h.time) six,
      length-append (le64 h.commit) behind,
      length-le64 h.cpu,
      length-le64 h.fill,
      length-le64 h.first,
      length-le64 h.missed,
      length-le64 h.time,
      length-le64 h.commit,
    )

-- long enough bytes are a slot
pub slot_in : (bytes : List ℕ) → AreBytes bytes → 48 ≤ length bytes
    → (header : SlotHeader) × (behind : List ℕ) × (bytes ≡ slot_bytes header behind)
slot_in bytes small long =
    let two : List ℕ = drop 8 bytes in
    let three : List ℕ = drop 8 two in
    let four : List ℕ = drop 8 three in
    let five : List ℕ = drop 8 four in
    let six : List ℕ = drop 8 five in
    let small2 = AreBytes-drop 8 bytes small in
    let small3 = AreBytes-drop 8 two small2 in
    let small4 = AreBytes-drop 8 three small3 in
    let small5 = AreBytes-drop 8 four small4 in
    let small6 = AreBytes-drop 8 five small5 in
    let long2 : 40 ≤ length two = omega (arith, length-drop 8 bytes) in
    let long3 : 32 ≤ length three = omega (arith, length-drop 8 two) in
    let long4 : 24 ≤ length four = omega (arith, length-drop 8 three) in
    let long5 : 16 ≤ length five = omega (arith, length-drop 8 four) in
    let long6 : 8 ≤ length six = omega (arith, length-drop 8 five) in (
      record {
        cpu = from_le64 bytes;
        fill = from_le64 two;
        first = from_le64 three;
        missed = from_le64 four;
        time = from_le64 five;
        commit = from_le64 six;
      },
      drop 8 six,
      le64-front bytes (omega arith) small
          ∙ ap (λ (b : List ℕ). le64 (from_le64 bytes) ++ b) (le64-front two (omega arith) small2
          ∙ ap (λ (b : List ℕ). le64 (from_le64 two) ++ b) (le64-front three (omega arith) small3
          ∙ ap (λ (b : List ℕ). le64 (from_le64 three) ++ b) (le64-front four (omega arith) small4
          ∙ ap (λ (b : List ℕ). le64 (from_le64 four) ++ b) (le64-front five (omega arith) small5
          ∙ ap (λ (b : List ℕ). le64 (from_le64 five) ++ b) (le64-front six long6 small6))))),
    )
