-- The data of a body, as it is in its slot.
use Rattle.std.proofs.Common.{◌≡◌, ℕ, ◌+◌, ◌-◌, ◌≤◌, Bool, List, ◌++◌, length, take, drop, sym, ap, ◌∙◌, arith}
use Rattle.std.proofs.Common.{length-append, length-drop, length-take-le}
use Rattle.std.proofs.lemmas.List.{drop-take, drop-drop, drop-append-le, take-append-le}
use Rattle.trace_model.specs.Words.{encoding}
use Rattle.record_words.specs.declared.put.Place.{Place}
use Rattle.page_image.specs.Lending.{with_part}
use Rattle.page_image.specs.Putting.{PutsBehind}

-- a slot is as long as its header and its data
pub slot_len_is : (items bytes : List ℕ) → drop 48 items ≡ bytes → 48 ≤ length items → length items ≡ 48 + length bytes
slot_len_is items bytes is long = let same = ap length is in omega (arith, length-drop 48 items)

-- a part of the data is that part of the slot
pub part_is : (items : List ℕ) (start len : ℕ)
    → take (48 + start + len - (48 + start)) (drop (48 + start) items)
    ≡ take (start + len - start) (drop start (drop 48 items))
part_is items start len =
    let as_long : 48 + start + len - (48 + start) ≡ start + len - start = omega arith in
    let as_far : drop (48 + start) items ≡ drop start (drop 48 items) = sym (drop-drop start 48 items) in
    λ i. take (as_long i) (as_far i)

-- a part of the slot overwritten is that part of the data
pub written_behind : (items part : List ℕ) (start n : ℕ) → 48 + start ≤ length items → n ≡ length items →
    drop 48
    (take n
    ((take (48 + start) items ++ (part ++ drop (length part) (drop (48 + start) items)))
    ++ drop (length (take (48 + start) items ++ (part ++ drop (length part) (drop (48 + start) items))))
    items)) ≡ with_part (drop 48 items) start part
written_behind items part start n low n_is =
    let front : List ℕ = take (48 + start) items in
    let rest : List ℕ = drop (length part) (drop (48 + start) items) in
    let front_len : length front ≡ 48 + start = length-take-le (48 + start) items low in
    let whole_len : n ≤ length (front ++ (part ++ rest)) =
    omega (
      arith,
      front_len,
      length-append front (part ++ rest),
      length-append part rest,
      length-drop (length part) (drop (48 + start) items),
      length-drop (48 + start) items,
    ) in
    let size : n ≡ 48 + length (drop 48 items) = omega (arith, length-drop 48 items) in
    let rest_is : rest ≡ drop (start + length part) (drop 48 items) =
    drop-drop (length part) (48 + start) items ∙ ap (λ (k : ℕ). drop k items) (omega arith)
    ∙ sym (drop-drop (start + length part) 48 items) in
    ap (drop 48) (take-append-le n (front ++ (part ++ rest)) _ whole_len)
    ∙ ap (λ (k : ℕ). drop 48 (take k (front ++ (part ++ rest)))) size
    ∙ drop-take 48 (length (drop 48 items)) (front ++ (part ++ rest))
    ∙ ap (take (length (drop 48 items)))
    (drop-append-le 48 front (part ++ rest) (omega (arith, front_len))
    ∙ (λ i. drop-take 48 start items i ++ (part ++ rest_is i)))

-- a record that is put into the slot is put into the data
module _ (old new : List ℕ) (end delta : ℕ) (first : Bool) (len : ℕ) (slot : List ℕ) (at : Place)
    (long : 48 + end ≤ length old) (put : PutsBehind old new (48 + end) delta first len slot at) where
  pub starts_behind : 48 ≤ at.start
  starts_behind = let ends = put.ends_at in let len_is = put.len_is in omega arith

  pub puts_in_data : PutsBehind (drop 48 old) (drop 48 new) end delta first len slot
      (record { start = at.start - 48; len = at.len })
  puts_in_data =
      let starts = starts_behind in
      let ends = put.ends_at in
      let reach : at.start + at.len ≡ 48 + (at.start - 48 + at.len) = omega arith in
      record {
        bytes =
            sym (drop-take 48 (at.start - 48 + at.len) new) ∙ ap (λ (n : ℕ). drop 48 (take n new)) (sym reach)
            ∙ ap (drop 48) put.bytes
            ∙ drop-append-le 48 (take (48 + end) old) (encoding delta first slot)
            (omega (arith, length-take-le (48 + end) old long))
            ∙ ap (λ (b : List ℕ). b ++ encoding delta first slot) (drop-take 48 end old);
        ends_at = omega arith;
        len_is = put.len_is;
      }
