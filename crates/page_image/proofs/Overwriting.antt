-- A part of a body overwritten, as a page's data sees it.
use Rattle.std.proofs.Common.{◌≡◌, ℕ, ◌+◌, ◌-◌, ◌≤◌, List, [], ◌∷◌, ◌++◌, length, take, drop, refl, sym, ap, ◌∙◌, subst}
use Rattle.std.proofs.Common.{arith, rules, length-append, length-drop, length-take-le}
use Rattle.std.proofs.lemmas.List.{same_lists, places, take_all}
use Rattle.trace_model.specs.Record.{Record}
use Rattle.trace_model.specs.Words.{Word, Decodes, records_of, records_behind, moment_after}
use Rattle.trace_model.specs.Order.{moment_of_last}
use Rattle.trace_model.specs.Reading.{IsPlaceIn, EndsInRecord, records_in, payload_of}
use Rattle.trace_model.specs.Overwriting.{overwritten, bytes_at, IsReplacedAt, IsPlaceOf}
use Rattle.trace_model.proofs.words.Unique.{records_in-Decodes, words_in-IsJoined}
use Rattle.trace_model.proofs.words.Overwritten.{length-overwritten, overwritten-IsJoined, records_of-around}
use Rattle.trace_model.proofs.words.Overwritten.{records_of-replaced, with_payload}
use Rattle.trace_model.proofs.words.Places.{words_in-IsPlaceIn, overwritten-reads, EndsInRecord-overwritten}
use Rattle.trace_model.proofs.words.Places.{IsPlaceOf-overwritten, Decodes-overwritten, records_in-overwritten_end}
use Rattle.page_image.specs.Contents.{Contents, IsPage, is_blank, records_of_page}
use Rattle.page_image.specs.Lending.{PayloadWritten, with_part}
use Rattle.page_image.proofs.Putting.{place_of}

-- a part of a body overwritten, as far as the data reaches, is that part of the data
pub part_within : (items part : List ℕ) (end start : ℕ) → start ≤ end → end ≤ length items
    → take end (with_part items start part) ≡ with_part (take end items) start part
part_within items part end start low high =
    same_lists _ _ (search (rules, places)) (λ k d h. grind (arith, places))

pub length-with_part : (items part : List ℕ) (start : ℕ) → start ≤ length items
    → length (with_part items start part) ≡ length items
length-with_part items part start low =
    length-take-le (length items) (overwritten items start part)
    (omega (
      arith,
      length-append (take start items) (part ++ drop (start + length part) items),
      length-append part (drop (start + length part) items),
      length-drop (start + length part) items,
      length-take-le start items low,
    ))

-- a part of the data is that part of the body
pub range_within : (items : List ℕ) (end start len : ℕ) → start + len ≤ end
    → take (start + len - start) (drop start items) ≡ take (start + len - start) (drop start (take end items))
range_within items end start len within =
    same_lists _ _ (search (rules, places)) (λ k d h. grind (arith, places))

-- the moment of the last record is the same if one has other bytes
moment_of_last-replaced : (front behind : List Record) (m : ℕ) (old new : List ℕ)
    → moment_of_last (front ++ record { moment = m; bytes = old } ∷ behind)
    ≡ moment_of_last (front ++ record { moment = m; bytes = new } ∷ behind)
moment_of_last-replaced [] [] m old new = refl
moment_of_last-replaced [] (r ∷ behind) m old new = refl
moment_of_last-replaced (r ∷ []) behind m old new = moment_of_last-replaced [] behind m old new
moment_of_last-replaced (r ∷ (s ∷ front)) behind m old new = moment_of_last-replaced (s ∷ front) behind m old new

-- the moment of the last record is the same if a payload is overwritten
pub last_stays : (bytes : List ℕ) (time start len : ℕ) (new : List ℕ) → IsPlaceIn bytes start len → length new ≡ len
    → moment_of_last (records_in time bytes) ≡ moment_of_last (records_in time (overwritten bytes start new))
last_stays bytes time start len new p fills =
    ap (λ (ws : List Word). moment_of_last (records_of time ws)) (words_in-IsPlaceIn bytes start len p)
    ∙ ap moment_of_last (records_of-around time p.front p.word p.behind p.holds)
    ∙ moment_of_last-replaced (records_of time p.front) (records_behind time (p.front ++ p.word ∷ []) p.behind)
    (moment_after time (p.front ++ p.word ∷ [])) (payload_of p.word) new
    ∙ sym (ap moment_of_last (records_of-replaced time p.front p.word p.behind new p.holds))
    ∙ sym (ap (λ (ws : List Word). moment_of_last (records_of time ws))
    (words_in-IsJoined (overwritten bytes start new) (p.front ++ with_payload p.word new ∷ p.behind) p.rest
    (overwritten-IsJoined bytes start len p new fills)))

-- bytes as many as others are blank if those are
is_blank-as_long : (bytes others : List ℕ) → length bytes ≡ length others → is_blank bytes ≡ is_blank others
is_blank-as_long [] [] same = refl
is_blank-as_long [] (b ∷ others) same = absurd (omega arith)
is_blank-as_long (a ∷ bytes) [] same = absurd (omega arith)
is_blank-as_long (a ∷ bytes) (b ∷ others) same = refl

-- a payload of the right length overwritten
pub payload_written : (page : Contents) (start len : ℕ) (part : List ℕ) → IsPlaceIn page.bytes start len
    → length part ≡ len → PayloadWritten page start part
payload_written page start len part p fills =
    let bytes : List ℕ = page.bytes in
    let new : List ℕ = overwritten bytes start part in
    let kept : length new ≡ length bytes = length-overwritten bytes start len p part fills in
    let same : take (length bytes) new ≡ new = take_all (length bytes) new (omega arith) in
    let long : length (take (length bytes) new) ≡ length bytes = ap length same ∙ kept in
    let one : IsPage page → (number : ℕ) → IsPlaceOf bytes number start (length part)
    → IsReplacedAt number (records_of_page page) (records_in page.time (take (length bytes) new))
    (bytes_at start (length part) bytes) part
    = λ is number there.
    let place : IsPlaceOf bytes number start len = subst (IsPlaceOf bytes number start) fills there in
    let h = Decodes-overwritten bytes page.time (records_of_page page) number start len part place fills is.reads in
    let found : records_in page.time (take (length bytes) new) ≡ h.0 =
    ap (records_in page.time) same ∙ records_in-Decodes new page.time h.0 h.1 in
    subst
    (λ (n : ℕ).
    IsReplacedAt number (records_of_page page) (records_in page.time (take (length bytes) new))
    (bytes_at start n bytes) part) (sym fills)
    (subst (λ (rs : List Record). IsReplacedAt number (records_of_page page) rs (bytes_at start len bytes) part)
    (sym found) h.2) in
    record {
      bytes = same;
      length_stays = long;
      blank_stays = is_blank-as_long (take (length bytes) new) bytes long;
      page_reads =
          λ is. let h =
          overwritten-reads bytes page.time (records_of_page page) start len part p fills is.reads in
          record {
            reads = subst (λ (b : List ℕ). Decodes b page.time (records_in page.time b)) (sym same) h.0;
            counted = is.counted ∙ sym h.1 ∙ ap (λ (b : List ℕ). length (records_in page.time b)) (sym same);
            in_time = is.in_time;
          };
      open_stays = λ ends. subst EndsInRecord (sym same) (EndsInRecord-overwritten bytes start len part p fills ends);
      places_stay =
          λ number at size there.
          subst (λ (b : List ℕ). IsPlaceOf b number at size) (sym same)
          (IsPlaceOf-overwritten bytes number at size start len part there p fills);
      payloads_stay = λ at size there.
          (subst (λ (b : List ℕ). IsPlaceOf b (length (records_of 0 there.front)) at size) (sym same)
          (IsPlaceOf-overwritten bytes _ at size start len part (place_of bytes at size there) p fills)).place;
      last_stays =
          ap (λ (b : List ℕ). moment_of_last (records_in page.time b)) same
          ∙ sym (last_stays bytes page.time start len part p fills);
      one_record = one;
      last_record = λ is ends front r was.
          ap (records_in page.time) same
          ∙ records_in-overwritten_end bytes page.time front r start len part p
          (ap (λ (n : ℕ). start + n) (sym fills) ∙ ends) fills (subst (Decodes bytes page.time) was is.reads);
    }
