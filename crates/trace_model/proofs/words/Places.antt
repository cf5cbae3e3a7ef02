-- The records of data with one payload overwritten; which record a place is of; places that stay.
use Rattle.std.proofs.Common.{◌≡◌, ◌⊎◌, inr, ℕ, suc, ◌+◌, ◌-◌, ◌%◌, ◌^◌, ◌<◌, ◌≤◌, true, false, ltb, List, [], ◌∷◌}
use Rattle.std.proofs.Common.{◌++◌, length, refl, sym, ap, ◌∙◌, subst, ⊎_elim, arith, append_assoc, append-nil}
use Rattle.std.proofs.Common.{length-append, length-drop}
use Rattle.std.specs.List.{AllByRecursion}
use Rattle.std.proofs.lemmas.List.{same_from_push, nil_from_length}
use Rattle.std.proofs.lemmas.List.Concat.{flat_map-append}
use Rattle.std.proofs.lemmas.Bool.{cond_both}
use Rattle.trace_model.specs.Record.{Record}
use Rattle.trace_model.specs.Words.{Word, short_data, long_data, padding, time_extend, time_stamp, bytes_of_word}
use Rattle.trace_model.specs.Words.{IsWord, joined, moment_after, records_at, records_behind, records_of, FitsTime}
use Rattle.trace_model.specs.Words.{IsJoined, Decodes, data_word, written_words, encoding, word_time_limit}
use Rattle.trace_model.specs.Reading.{IsData, payload_of, records_in, words_in, EndsInRecord, IsPlaceIn}
use Rattle.trace_model.specs.Overwriting.{bytes_at, overwritten, IsReplacedAt, IsPlaceOf}
use Rattle.trace_model.proofs.words.Lengths.{bytes_of_word_ge}
use Rattle.trace_model.proofs.words.Unique.{words_in-IsJoined, IsJoined-words_unique, IsJoined-rest_unique}
use Rattle.trace_model.proofs.words.Unique.{records_in-Decodes}
use Rattle.trace_model.proofs.words.Appended.{one_record, last_of, IsJoined-whole, each-append, written-each}
use Rattle.trace_model.proofs.words.Appended.{data_word-IsData, data_word-IsWord, data_word-payload}
use Rattle.trace_model.proofs.words.Appended.{records_of-push_extend}
use Rattle.trace_model.proofs.words.Overwritten.{with_payload, head_of, bytes_of_word-data, head_of_ge, length-head}
use Rattle.trace_model.proofs.words.Overwritten.{IsData-with_payload, payload_of-with_payload, FitsTime-replaced}
use Rattle.trace_model.proofs.words.Overwritten.{records_of-around, records_of-replaced, after_place, place-drop}
use Rattle.trace_model.proofs.words.Overwritten.{place-payload, length-bytes_changed, overwritten-IsJoined}

-- ---- how many records words hold

records_at-count : (time other : ℕ) (front behind : List Word) (w : Word)
    → length (records_at time front w) ≡ length (records_at other behind w)
records_at-count time other front behind (short_data delta payload) = refl
records_at-count time other front behind (long_data delta payload) = refl
records_at-count time other front behind (padding delta skipped) = refl
records_at-count time other front behind (time_extend delta) = refl
records_at-count time other front behind (time_stamp stamp) = refl

records_behind-count : (time other : ℕ) (front behind words : List Word)
    → length (records_behind time front words) ≡ length (records_behind other behind words)
records_behind-count time other front behind [] = refl
records_behind-count time other front behind (w ∷ words) =
    length-append (records_at time front w) (records_behind time (front ++ w ∷ []) words)
    ∙ (λ i.
    records_at-count time other front behind w i
    + records_behind-count time other (front ++ w ∷ []) (behind ++ w ∷ []) words i)
    ∙ sym (length-append (records_at other behind w) (records_behind other (behind ++ w ∷ []) words))

-- at any time words hold as many records
pub records_of-count : (time other : ℕ) (words : List Word)
    → length (records_of time words) ≡ length (records_of other words)
records_of-count time other words = records_behind-count time other [] [] words

-- ---- the record of a place

-- where a record's payload is overwritten, the records are the same but for that one's bytes
pub Decodes-overwritten : (bytes : List ℕ) (time : ℕ) (records : List Record) (number start len : ℕ) (new : List ℕ)
    → IsPlaceOf bytes number start len → length new ≡ len → Decodes bytes time records
    → (others : List Record) × Decodes (overwritten bytes start new) time others
    × IsReplacedAt number records others (bytes_at start len bytes) new
Decodes-overwritten bytes time records number start len new place fills reads =
    let p = place.place in
    let words : List Word = p.front ++ p.word ∷ p.behind in
    let same : reads.words ≡ words = IsJoined-words_unique bytes reads.words words reads.rest p.rest reads.cut p.cut in
    let was : records ≡ records_of time words = reads.read ∙ ap (records_of time) same in
    let replaced : List Word = p.front ++ with_payload p.word new ∷ p.behind in (
      records_of time replaced,
      record {
        words = replaced;
        rest = p.rest;
        cut = overwritten-IsJoined bytes start len p new fills;
        in_time = FitsTime-replaced time p.front p.word p.behind new (subst (FitsTime time) same reads.in_time);
        read = refl;
      },
      record {
        front = records_of time p.front;
        moment = moment_after time (p.front ++ p.word ∷ []);
        behind = records_behind time (p.front ++ p.word ∷ []) p.behind;
        at = records_of-count time 0 p.front ∙ sym place.number_is;
        was =
            was ∙ records_of-around time p.front p.word p.behind p.holds
            ∙ ap
            (λ (b : List ℕ).
            records_of time p.front
            ++ record { moment = moment_after time (p.front ++ p.word ∷ []); bytes = b }
            ∷ records_behind time (p.front ++ p.word ∷ []) p.behind)
            (sym (place-payload bytes start len p));
        is = records_of-replaced time p.front p.word p.behind new p.holds;
      },
    )

-- each place is that of a record
pub IsPlaceOf-from : (bytes : List ℕ) (start len : ℕ) → (p : IsPlaceIn bytes start len)
    → IsPlaceOf bytes (length (records_of 0 p.front)) start len
IsPlaceOf-from bytes start len p = record { place = p; number_is = refl }

-- ---- data that ends in a record

last_kept : (front : List Word) (w v : Word) (behind : List Word) → IsData v
    → (front ++ w ∷ behind ≡ [])
    ⊎ ((before : List Word) × (x : Word) × (front ++ w ∷ behind ≡ before ++ x ∷ []) × IsData x)
    → (before : List Word) × (x : Word) × (front ++ v ∷ behind ≡ before ++ x ∷ []) × IsData x
last_kept front w v behind is ends = ⊎_elim
    (λ none. (front, v, ap (λ (ws : List Word). front ++ v ∷ ws) none, is))
    (λ last. (
      front ++ v ∷ last.0,
      last.1,
      ap (λ (ws : List Word). front ++ v ∷ ws) last.2 ∙ sym (append_assoc front (v ∷ last.0) (last.1 ∷ [])),
      ⊎_elim
          (λ empty. absurd (no_words front empty))
          (λ end.
          let whole : (front ++ w ∷ last.0) ++ last.1 ∷ [] ≡ end.0 ++ end.1 ∷ [] =
          append_assoc front (w ∷ last.0) (last.1 ∷ []) ∙ ap (λ (ws : List Word). front ++ w ∷ ws) (sym last.2)
          ∙ end.2 in
          subst IsData (sym (same_from_push (front ++ w ∷ last.0) end.0 last.1 end.1 whole).1) end.3)
          ends,
    ))
    (last_of behind)
  where
    no_words : (xs : List Word) → xs ++ w ∷ behind ≡ [] → ⊥
    no_words [] e = cc
    no_words (x ∷ xs) e = cc

pub EndsInRecord-overwritten : (bytes : List ℕ) (start len : ℕ) (new : List ℕ) → IsPlaceIn bytes start len
    → length new ≡ len → EndsInRecord bytes → EndsInRecord (overwritten bytes start new)
EndsInRecord-overwritten bytes start len new p fills ends =
    let whole = IsJoined-whole bytes ends.words ends.whole ends.each in
    let same : ends.words ≡ p.front ++ p.word ∷ p.behind =
    IsJoined-words_unique bytes ends.words (p.front ++ p.word ∷ p.behind) [] p.rest whole p.cut in
    let none : p.rest ≡ [] =
    IsJoined-rest_unique bytes (p.front ++ p.word ∷ p.behind) ends.words p.rest [] p.cut whole in
    let cut = overwritten-IsJoined bytes start len p new fills in
    let replaced : List Word = p.front ++ with_payload p.word new ∷ p.behind in
    record {
      words = replaced;
      whole = cut.whole ∙ ap (λ (b : List ℕ). joined replaced ++ b) none ∙ append-nil (joined replaced);
      each = cut.each;
      last = inr (last_kept p.front p.word (with_payload p.word new) p.behind (IsData-with_payload p.word new p.holds)
          (subst
          (λ (ws : List Word). (ws ≡ []) ⊎ ((before : List Word) × (x : Word) × (ws ≡ before ++ x ∷ []) × IsData x))
          same ends.last));
    }

-- ---- the last record

append-nil_parts : {X : Type 0} (xs ys : List X) → length (xs ++ ys) ≡ 0 → (xs ≡ []) × (ys ≡ [])
append-nil_parts [] ys e = (refl, nil_from_length ys e)
append-nil_parts (x ∷ xs) ys e = absurd (omega arith)

joined-nil : (words : List Word) → joined words ≡ [] → words ≡ []
joined-nil [] e = refl
joined-nil (w ∷ words) e =
    absurd (let some = bytes_of_word_ge w in omega (arith, ap length e, length-append (bytes_of_word w) (joined words)))

-- a place that reaches the end of the data is that of the last word
pub place-last : (bytes : List ℕ) (start len : ℕ) → (p : IsPlaceIn bytes start len) → start + len ≡ length bytes
    → (p.behind ≡ []) × (p.rest ≡ [])
place-last bytes start len p ends =
    let after : List ℕ = joined p.behind ++ p.rest in
    let none : length after ≡ 0 = nothing_more in
    let parts = append-nil_parts (joined p.behind) p.rest none in
    (joined-nil p.behind parts.0, parts.1)
  where
    nothing_more : length (after_place p) ≡ 0
    nothing_more =
        sym (ap length (place-drop bytes start len p)) ∙ length-drop (start + len) bytes
        ∙ (let e : length bytes - (start + len) ≡ 0 = omega arith in e)

-- the last record's payload overwritten: of all records, the last one's bytes alone are replaced
pub Decodes-overwritten_last : (bytes : List ℕ) (time : ℕ) (records : List Record) (start len : ℕ) (new : List ℕ)
    → IsPlaceIn bytes start len → start + len ≡ length bytes → length new ≡ len → Decodes bytes time records
    → (front : List Record) × (moment : ℕ)
    × (records ≡ front ++ record { moment = moment; bytes = bytes_at start len bytes } ∷ [])
    × Decodes (overwritten bytes start new) time (front ++ record { moment = moment; bytes = new } ∷ [])
unfolding Decodes-overwritten IsPlaceOf-from
Decodes-overwritten_last bytes time records start len new p ends fills reads =
    let h =
    Decodes-overwritten bytes time records (length (records_of 0 p.front)) start len new
    (IsPlaceOf-from bytes start len p) fills reads in
    let none : h.2.behind ≡ [] =
    ap (λ (ws : List Word). records_behind time (p.front ++ p.word ∷ []) ws)
    (place-last bytes start len p ends).0 in (
      h.2.front,
      h.2.moment,
      h.2.was
          ∙ ap
          (λ (rs : List Record). h.2.front ++ record { moment = h.2.moment; bytes = bytes_at start len bytes } ∷ rs)
          none,
      subst (Decodes (overwritten bytes start new) time)
          (h.2.is ∙ ap (λ (rs : List Record). h.2.front ++ record { moment = h.2.moment; bytes = new } ∷ rs) none) h.1,
    )

-- what is read after the last record is overwritten, if the records before it are known
pub Decodes-overwritten_end : (bytes : List ℕ) (time : ℕ) (front : List Record) (r : Record) (start len : ℕ)
    (new : List ℕ) → IsPlaceIn bytes start len → start + len ≡ length bytes → length new ≡ len
    → Decodes bytes time (front ++ r ∷ [])
    → Decodes (overwritten bytes start new) time (front ++ record { moment = r.moment; bytes = new } ∷ [])
Decodes-overwritten_end bytes time front r start len new p ends fills reads =
    let h = Decodes-overwritten_last bytes time (front ++ r ∷ []) start len new p ends fills reads in
    let same = same_from_push front h.0 r record { moment = h.1; bytes = bytes_at start len bytes } h.2 in
    let moment_is : r.moment ≡ h.1 = ap (λ (x : Record). x.moment) same.1 in
    subst (λ (m : ℕ). Decodes (overwritten bytes start new) time (front ++ one_record m new)) (sym moment_is)
    (subst (λ (rs : List Record). Decodes (overwritten bytes start new) time (rs ++ one_record h.1 new)) (sym same.0)
    h.3)

-- ---- two places

-- how two splits of one list are related: at one element, or the first before the second, or the other way
pub data SplitsTwice {X : Type 0} (xs : List X) (x : X) (ys : List X) (zs : List X) (z : X) (ws : List X) : Type 0 where
  at_one : (xs ≡ zs) → (x ≡ z) → (ys ≡ ws) → SplitsTwice xs x ys zs z ws
  in_front : (more : List X) → (zs ≡ xs ++ x ∷ more) → (ys ≡ more ++ z ∷ ws) → SplitsTwice xs x ys zs z ws
  behind_it : (more : List X) → (xs ≡ zs ++ z ∷ more) → (ws ≡ more ++ x ∷ ys) → SplitsTwice xs x ys zs z ws

under : {X : Type 0} (y : X) (xs : List X) (x : X) (ys : List X) (zs : List X) (z : X) (ws : List X)
    → SplitsTwice xs x ys zs z ws → SplitsTwice (y ∷ xs) x ys (y ∷ zs) z ws
under {X = X} y xs x ys zs z ws (at_one p q r) = at_one (ap (λ (l : List X). y ∷ l) p) q r
under {X = X} y xs x ys zs z ws (in_front more p q) = in_front more (ap (λ (l : List X). y ∷ l) p) q
under {X = X} y xs x ys zs z ws (behind_it more p q) = behind_it more (ap (λ (l : List X). y ∷ l) p) q

pub splits_twice : {X : Type 0} (xs : List X) (x : X) (ys : List X) (zs : List X) (z : X) (ws : List X)
    → xs ++ x ∷ ys ≡ zs ++ z ∷ ws → SplitsTwice xs x ys zs z ws
splits_twice [] x ys [] z ws e = at_one refl (cc) (cc)
splits_twice {X = X} [] x ys (a ∷ zs) z ws e = in_front zs (let h : x ≡ a = cc in ap (λ (b : X). b ∷ zs) (sym h)) (cc)
splits_twice {X = X} (a ∷ xs) x ys [] z ws e =
    behind_it xs (let h : a ≡ z = cc in ap (λ (b : X). b ∷ xs) h) (let h : xs ++ x ∷ ys ≡ ws = cc in sym h)
splits_twice {X = X} (a ∷ xs) x ys (b ∷ zs) z ws e =
    let first : a ≡ b = cc in
    let rest : xs ++ x ∷ ys ≡ zs ++ z ∷ ws = cc in
    subst (λ (c : X). SplitsTwice (a ∷ xs) x ys (c ∷ zs) z ws) first
    (under a xs x ys zs z ws (splits_twice xs x ys zs z ws rest))

-- where a payload starts and ends
pub place-start : (bytes : List ℕ) (start len : ℕ) → (p : IsPlaceIn bytes start len)
    → start ≡ length (joined p.front) + length (head_of p.word)
place-start bytes start len p =
    (let at = p.start_is in
    let spelled = ap length (bytes_of_word-data p.word p.holds) in
    omega (arith, length-append (head_of p.word) (payload_of p.word)))

pub place-stop : (bytes : List ℕ) (start len : ℕ) → (p : IsPlaceIn bytes start len)
    → start + len ≡ length (joined p.front) + length (bytes_of_word p.word)
place-stop bytes start len p = ap (λ (n : ℕ). start + n) p.len_is ∙ p.start_is

pub length-joined_split : (front : List Word) (w : Word) (more : List Word)
    → length (joined (front ++ w ∷ more)) ≡ length (joined front) + (length (bytes_of_word w) + length (joined more))
length-joined_split front w more =
    ap length (flat_map-append bytes_of_word front (w ∷ more))
    ∙ length-append (joined front) (bytes_of_word w ++ joined more)
    ∙ ap (λ (n : ℕ). length (joined front) + n) (length-append (bytes_of_word w) (joined more))

count_split : (front : List Word) (w : Word) (more : List Word) → IsData w
    → length (records_of 0 (front ++ w ∷ more))
    ≡ length (records_of 0 front) + (1 + length (records_behind 0 (front ++ w ∷ []) more))
count_split front w more is =
    ap length (records_of-around 0 front w more is)
    ∙ length-append (records_of 0 front)
    (record { moment = moment_after 0 (front ++ w ∷ []); bytes = payload_of w }
    ∷ records_behind 0 (front ++ w ∷ []) more)
    ∙ (let e : suc (length (records_behind 0 (front ++ w ∷ []) more))
    ≡ 1 + length (records_behind 0 (front ++ w ∷ []) more) =
    omega arith in
    ap (λ (n : ℕ). length (records_of 0 front) + n) e)

-- Two places of records in the same data: the same, or the one of the smaller number first.
pub data ArePlaces (number start len other_number other_start other_len : ℕ) : Type 0 where
  same_place : (number ≡ other_number) → (start ≡ other_start) → (len ≡ other_len)
      → ArePlaces number start len other_number other_start other_len
  earlier : (number < other_number) → (start + len + 4 ≤ other_start)
      → ArePlaces number start len other_number other_start other_len
  later : (other_number < number) → (other_start + other_len + 4 ≤ start)
      → ArePlaces number start len other_number other_start other_len

module _ (bytes : List ℕ) (start len : ℕ) (p : IsPlaceIn bytes start len) (other_start other_len : ℕ)
    (q : IsPlaceIn bytes other_start other_len) where
  same_words : p.front ++ p.word ∷ p.behind ≡ q.front ++ q.word ∷ q.behind
  same_words =
      IsJoined-words_unique bytes (p.front ++ p.word ∷ p.behind) (q.front ++ q.word ∷ q.behind) p.rest q.rest p.cut
      q.cut

  -- how two places of one data are related
  place-order : SplitsTwice p.front p.word p.behind q.front q.word q.behind
  place-order = splits_twice p.front p.word p.behind q.front q.word q.behind same_words

ordered_before : (front : List Word) (w : Word) (more others : List Word) (v : Word) (start len other_start : ℕ)
    → IsData w → IsData v
    → others ≡ front ++ w ∷ more → start + len ≡ length (joined front) + length (bytes_of_word w)
    → other_start ≡ length (joined others) + length (head_of v)
    → (length (records_of 0 front) < length (records_of 0 others)) × (start + len + 4 ≤ other_start)
ordered_before front w more others v start len other_start is is_too cut stop begin =
    let count = ap (λ (ws : List Word). length (records_of 0 ws)) cut ∙ count_split front w more is in
    let size = ap (λ (ws : List Word). length (joined ws)) cut ∙ length-joined_split front w more in
    let head = head_of_ge v is_too in
    (omega arith, omega arith)

-- two places in one data are one, or the one with the smaller number ends a word before the other
pub places-apart : (bytes : List ℕ) (number start len other_number other_start other_len : ℕ)
    → IsPlaceOf bytes number start len → IsPlaceOf bytes other_number other_start other_len
    → ArePlaces number start len other_number other_start other_len
places-apart bytes number start len other_number other_start other_len place other =
    let p = place.place in
    let q = other.place in
    elim (place-order bytes start len p other_start other_len q) [
      | at_one fronts words behinds ↦ same_place
          (place.number_is ∙ ap (λ (ws : List Word). length (records_of 0 ws)) fronts ∙ sym other.number_is)
          (place-start bytes start len p ∙ (λ i. length (joined (fronts i)) + length (head_of (words i)))
          ∙ sym (place-start bytes other_start other_len q))
          (p.len_is ∙ ap (λ (w : Word). length (payload_of w)) words ∙ sym q.len_is)
      | in_front more cut rest ↦
          (let h =
          ordered_before p.front p.word more q.front q.word start len other_start p.holds q.holds cut
          (place-stop bytes start len p) (place-start bytes other_start other_len q) in
          let one = place.number_is in let two = other.number_is in earlier (let a = h.0 in omega arith) h.1)
      | behind_it more cut rest ↦
          (let h =
          ordered_before q.front q.word more p.front p.word other_start other_len start q.holds p.holds cut
          (place-stop bytes other_start other_len q) (place-start bytes start len p) in
          let one = place.number_is in let two = other.number_is in later (let a = h.0 in omega arith) h.1)
    ]

-- both ways at once
pub places_unique : (bytes : List ℕ) (number start len other_number other_start other_len : ℕ)
    → IsPlaceOf bytes number start len → IsPlaceOf bytes other_number other_start other_len
    → (number ≡ other_number) ⊎ (start ≡ other_start)
    → (number ≡ other_number) × (start ≡ other_start) × (len ≡ other_len)
places_unique bytes number start len other_number other_start other_len place other alike =
    elim (places-apart bytes number start len other_number other_start other_len place other) [
      | same_place n s l ↦ (n, s, l)
      | earlier n s ↦ absurd (⊎_elim {C = ⊥} (λ e. omega arith) (λ e. omega arith) alike)
      | later n s ↦ absurd (⊎_elim {C = ⊥} (λ e. omega arith) (λ e. omega arith) alike)
    ]

-- the words that the reader finds are those around the place
pub words_in-IsPlaceIn : (bytes : List ℕ) (start len : ℕ) → (p : IsPlaceIn bytes start len)
    → words_in bytes ≡ p.front ++ p.word ∷ p.behind
words_in-IsPlaceIn bytes start len p = words_in-IsJoined bytes (p.front ++ p.word ∷ p.behind) p.rest p.cut

-- each data word has its payload's place, and its record the number of those before
pub IsPlaceOf-made : (bytes : List ℕ) (front : List Word) (w : Word) (behind : List Word) (rest : List ℕ)
    (number start len : ℕ) → IsJoined bytes (front ++ w ∷ behind) rest → IsData w
    → number ≡ length (records_of 0 front) → start ≡ length (joined front) + length (head_of w)
    → len ≡ length (payload_of w) → IsPlaceOf bytes number start len
IsPlaceOf-made bytes front w behind rest number start len cut is count at long = record {
  place = record {
    front = front;
    word = w;
    behind = behind;
    rest = rest;
    cut = cut;
    holds = is;
    start_is =
        (let spelled = ap length (bytes_of_word-data w is) in omega (arith, length-append (head_of w) (payload_of w)));
    len_is = long;
  };
  number_is = count;
}

-- ---- what stays where a payload is overwritten

pub IsReplacedAt-length : (number : ℕ) (records others : List Record) (old new : List ℕ)
    → IsReplacedAt number records others old new → length others ≡ length records
IsReplacedAt-length number records others old new h =
    ap length h.is ∙ length-append h.front (record { moment = h.moment; bytes = new } ∷ h.behind)
    ∙ sym (length-append h.front (record { moment = h.moment; bytes = old } ∷ h.behind)) ∙ ap length (sym h.was)

-- the data still reads, as many records
pub overwritten-reads : (bytes : List ℕ) (time : ℕ) (records : List Record) (start len : ℕ) (new : List ℕ)
    → IsPlaceIn bytes start len → length new ≡ len → Decodes bytes time records
    → Decodes (overwritten bytes start new) time (records_in time (overwritten bytes start new))
    × (length (records_in time (overwritten bytes start new)) ≡ length records)
overwritten-reads bytes time records start len new p fills reads =
    let number : ℕ = length (records_of 0 p.front) in
    let place = IsPlaceOf-from bytes start len p in
    let h = Decodes-overwritten bytes time records number start len new place fills reads in
    let found = records_in-Decodes (overwritten bytes start new) time h.0 h.1 in (
      subst (Decodes (overwritten bytes start new) time) (sym found) h.1,
      ap length found ∙ IsReplacedAt-length number records h.0 (bytes_at start len bytes) new h.2,
    )

-- a payload of the last record: what the plain reader finds then
pub records_in-overwritten_end : (bytes : List ℕ) (time : ℕ) (front : List Record) (r : Record) (start len : ℕ)
    (new : List ℕ) → IsPlaceIn bytes start len → start + len ≡ length bytes → length new ≡ len
    → Decodes bytes time (front ++ r ∷ [])
    → records_in time (overwritten bytes start new) ≡ front ++ record { moment = r.moment; bytes = new } ∷ []
records_in-overwritten_end bytes time front r start len new p ends fills reads =
    records_in-Decodes (overwritten bytes start new) time (front ++ one_record r.moment new)
    (Decodes-overwritten_end bytes time front r start len new p ends fills reads)

length-joined_changed : (front : List Word) (w v : Word) (more : List Word)
    → length (bytes_of_word v) ≡ length (bytes_of_word w)
    → length (joined (front ++ v ∷ more)) ≡ length (joined (front ++ w ∷ more))
length-joined_changed front w v more same =
    length-joined_split front v more ∙ ap (λ (n : ℕ). length (joined front) + (n + length (joined more))) same
    ∙ sym (length-joined_split front w more)

count_changed : (front : List Word) (w v : Word) (more : List Word) → IsData w → IsData v
    → length (records_of 0 (front ++ v ∷ more)) ≡ length (records_of 0 (front ++ w ∷ more))
count_changed front w v more is is_too =
    count_split front v more is_too
    ∙ ap (λ (n : ℕ). length (records_of 0 front) + (1 + n))
    (records_behind-count 0 0 (front ++ v ∷ []) (front ++ w ∷ []) more) ∙ sym (count_split front w more is)

-- so are all others
pub IsPlaceOf-overwritten : (bytes : List ℕ) (number start len at size : ℕ) (new : List ℕ)
    → IsPlaceOf bytes number start len → IsPlaceIn bytes at size → length new ≡ size
    → IsPlaceOf (overwritten bytes at new) number start len
IsPlaceOf-overwritten bytes number start len at size new place q fills =
    let p = place.place in
    let v : Word = with_payload q.word new in
    let cut : IsJoined (overwritten bytes at new) (q.front ++ v ∷ q.behind) q.rest =
    overwritten-IsJoined bytes at size q new fills in
    let as_long : length new ≡ length (payload_of q.word) = fills ∙ q.len_is in
    let is : IsData v = IsData-with_payload q.word new q.holds in
    let alike : length (bytes_of_word v) ≡ length (bytes_of_word q.word) =
    length-bytes_changed q.word new q.holds as_long in
    elim (place-order bytes start len p at size q) [
      | at_one fronts words behinds ↦ IsPlaceOf-made (overwritten bytes at new) q.front v q.behind q.rest number start
          len cut is
          (place.number_is ∙ ap (λ (ws : List Word). length (records_of 0 ws)) fronts)
          (place-start bytes start len p ∙ (λ i. length (joined (fronts i)) + length (head_of (words i)))
          ∙ ap (λ (n : ℕ). length (joined q.front) + n) (sym (length-head q.word new q.holds)))
          (p.len_is ∙ ap (λ (w : Word). length (payload_of w)) words ∙ sym as_long
          ∙ sym (ap length (payload_of-with_payload q.word new q.holds)))
      | in_front more split rest ↦ IsPlaceOf-made (overwritten bytes at new) p.front p.word (more ++ v ∷ q.behind)
          q.rest number start len
          (subst (λ (ws : List Word). IsJoined (overwritten bytes at new) ws q.rest)
          (ap (λ (ws : List Word). ws ++ v ∷ q.behind) split ∙ append_assoc p.front (p.word ∷ more) (v ∷ q.behind))
          cut)
          p.holds place.number_is (place-start bytes start len p) p.len_is
      | behind_it more split rest ↦ IsPlaceOf-made (overwritten bytes at new) (q.front ++ v ∷ more) p.word p.behind
          q.rest number start len
          (subst (λ (ws : List Word). IsJoined (overwritten bytes at new) ws q.rest)
          (ap (λ (ws : List Word). q.front ++ v ∷ ws) rest ∙ sym (append_assoc q.front (v ∷ more) (p.word ∷ p.behind)))
          cut)
          p.holds
          (place.number_is ∙ ap (λ (ws : List Word). length (records_of 0 ws)) split
          ∙ sym (count_changed q.front q.word v more q.holds is))
          (place-start bytes start len p ∙ ap (λ (ws : List Word). length (joined ws) + length (head_of p.word)) split
          ∙ ap (λ (n : ℕ). n + length (head_of p.word)) (sym (length-joined_changed q.front q.word v more alike)))
          p.len_is
    ]

-- ---- what stays where a record is appended, and the new one's place

EndsInRecord-words : (bytes : List ℕ) (words : List Word) (rest : List ℕ) → (ends : EndsInRecord bytes)
    → IsJoined bytes words rest → ends.words ≡ words
EndsInRecord-words bytes words rest ends cut =
    IsJoined-words_unique bytes ends.words words [] rest (IsJoined-whole bytes ends.words ends.whole ends.each) cut

-- data that ends in a record, and more words after it
joined-behind : (bytes : List ℕ) (more : List Word) → (ends : EndsInRecord bytes) → AllByRecursion IsWord more
    → IsJoined (bytes ++ joined more) (ends.words ++ more) []
joined-behind bytes more ends each = IsJoined-whole (bytes ++ joined more) (ends.words ++ more)
    (ap (λ (b : List ℕ). b ++ joined more) ends.whole ∙ sym (flat_map-append bytes_of_word ends.words more))
    (each-append ends.words more ends.each each)

-- the places of the records that were there
pub IsPlaceOf-appended : (bytes : List ℕ) (number start len delta : ℕ) (payload : List ℕ) → EndsInRecord bytes
    → IsPlaceOf bytes number start len
    → delta < word_time_limit → length payload % 4 ≡ 0 → 4 ≤ length payload → length payload + 4 < 2 ^ 32
    → IsPlaceOf (bytes ++ encoding delta false payload) number start len
IsPlaceOf-appended bytes number start len delta payload ends place small whole some fits =
    let p = place.place in
    let more : List Word = written_words delta false payload in
    let same : ends.words ≡ p.front ++ p.word ∷ p.behind =
    EndsInRecord-words bytes (p.front ++ p.word ∷ p.behind) p.rest ends p.cut in
    IsPlaceOf-made (bytes ++ encoding delta false payload) p.front p.word (p.behind ++ more) [] number start len
    (subst (λ (ws : List Word). IsJoined (bytes ++ joined more) ws [])
    (ap (λ (ws : List Word). ws ++ more) same ∙ append_assoc p.front (p.word ∷ p.behind) more)
    (joined-behind bytes more ends (written-each delta payload small whole some fits)))
    p.holds place.number_is (place-start bytes start len p) p.len_is

-- a data word at the end of the data
place_at_end : (bytes : List ℕ) (front : List Word) (w : Word) (number start len : ℕ)
    → IsJoined bytes (front ++ w ∷ []) [] → IsData w
    → number ≡ length (records_of 0 front) → len ≡ length (payload_of w) → start + len ≡ length bytes
    → IsPlaceOf bytes number start len
place_at_end bytes front w number start len cut is count long ends =
    let whole = ap length cut.whole in
    let spelled = ap length (bytes_of_word-data w is) in
    IsPlaceOf-made bytes front w [] [] number start len cut is count
    (start_at start len (length bytes) (length (joined front)) (length (head_of w)) (length (payload_of w))
    (length (bytes_of_word w)) ends long
    (whole ∙ ap length (append-nil (joined (front ++ w ∷ []))) ∙ length-joined_split front w [])
    (spelled ∙ length-append (head_of w) (payload_of w)))
    long
  where
    start_at : (s l b f h p x : ℕ) → s + l ≡ b → l ≡ p → b ≡ f + (x + 0) → x ≡ h + p → s ≡ f + h
    start_at s l b f h p x e1 e2 e3 e4 = omega arith

-- the place of the first record of a page
pub IsPlaceOf-first : (delta : ℕ) (payload : List ℕ) (start : ℕ) → length payload % 4 ≡ 0 → 4 ≤ length payload
    → length payload + 4 < 2 ^ 32 → start + length payload ≡ length (encoding delta true payload)
    → IsPlaceOf (encoding delta true payload) 0 start (length payload)
IsPlaceOf-first delta payload start whole some fits ends =
    place_at_end (encoding delta true payload) [] (data_word 0 payload) 0 start (length payload)
    (IsJoined-whole (encoding delta true payload) (data_word 0 payload ∷ []) refl
    (data_word-IsWord 0 payload (omega arith) whole some fits, tt))
    (data_word-IsData 0 payload) refl (ap length (sym (data_word-payload 0 payload))) ends

-- the place of a record after others: its number is how many they are
pub IsPlaceOf-new : (bytes : List ℕ) (time : ℕ) (records : List Record) (delta : ℕ) (payload : List ℕ) (start : ℕ)
    → EndsInRecord bytes → Decodes bytes time records
    → delta < word_time_limit → length payload % 4 ≡ 0 → 4 ≤ length payload → length payload + 4 < 2 ^ 32
    → start + length payload ≡ length (bytes ++ encoding delta false payload)
    → IsPlaceOf (bytes ++ encoding delta false payload) (length records) start (length payload)
IsPlaceOf-new bytes time records delta payload start ends reads small whole some fits stop =
    cond_both (ltb delta (2 ^ 27)) _ _
    (λ (ws : List Word).
    AllByRecursion IsWord ws → start + length payload ≡ length (bytes ++ joined ws)
    → IsPlaceOf (bytes ++ joined ws) (length records) start (length payload))
    (λ short each at_end.
    place_at_end (bytes ++ joined (data_word delta payload ∷ [])) ends.words (data_word delta payload)
    (length records) start (length payload)
    (joined-behind bytes (data_word delta payload ∷ []) ends each) (data_word-IsData delta payload) count
    (ap length (sym (data_word-payload delta payload))) at_end)
    (λ long each at_end.
    place_at_end (bytes ++ joined (time_extend delta ∷ data_word 0 payload ∷ []))
    (ends.words ++ time_extend delta ∷ []) (data_word 0 payload) (length records) start (length payload)
    (subst (λ (ws : List Word). IsJoined (bytes ++ joined (time_extend delta ∷ data_word 0 payload ∷ [])) ws [])
    (sym (append_assoc ends.words (time_extend delta ∷ []) (data_word 0 payload ∷ [])))
    (joined-behind bytes (time_extend delta ∷ data_word 0 payload ∷ []) ends each))
    (data_word-IsData 0 payload) (count ∙ sym (ap length (records_of-push_extend 0 ends.words delta)))
    (ap length (sym (data_word-payload 0 payload))) at_end)
    (written-each delta payload small whole some fits) stop
  where
    count : length records ≡ length (records_of 0 ends.words)
    count =
        ap length reads.read ∙ records_of-count time 0 reads.words
        ∙ ap (λ (ws : List Word). length (records_of 0 ws))
        (sym (EndsInRecord-words bytes reads.words reads.rest ends reads.cut))
