-- A payload overwritten in place: the words are the same but for that payload, and so are the records.
use Rattle.std.proofs.Common.{◌≡◌, ℕ, ◌+◌, ◌*◌, ◌/◌, ◌^◌, ◌<◌, ◌≤◌, Bool, true, false, cond, ◌||◌, List, [], ◌∷◌, ◌++◌}
use Rattle.std.proofs.Common.{length, map, take, drop, Option, unwrap_or, sum_by, refl, sym, ap, ◌∙◌, subst, arith}
use Rattle.std.proofs.Common.{append_assoc, length-append}
use Rattle.std.specs.List.{AllByRecursion, list_any}
use Rattle.std.proofs.lemmas.List.{take_at, drop_at, map-append}
use Rattle.std.proofs.lemmas.List.Concat.{flat_map-append}
use Rattle.std.proofs.lemmas.List.Sums.{sum_by-cons}
use Rattle.trace_model.specs.Record.{Record}
use Rattle.trace_model.specs.Words.{first_word, le32, Word, short_data, long_data, padding, time_extend, time_stamp}
use Rattle.trace_model.specs.Words.{bytes_of_word, IsWord, joined, delta_of, stamp_of, is_stamp, last_stamp}
use Rattle.trace_model.specs.Words.{since_stamp, moment_after, records_at, records_behind, records_of, MovesTime}
use Rattle.trace_model.specs.Words.{FitsTime, IsJoined}
use Rattle.trace_model.specs.Reading.{IsData, payload_of, IsPlaceIn}
use Rattle.trace_model.specs.Overwriting.{bytes_at, overwritten}
use Rattle.trace_model.proofs.words.Lengths.{length-le32}
use Rattle.trace_model.proofs.words.Appended.{records_of-append, records_at-data}

-- ---- a word with another payload

-- the word with these bytes as its payload, if it is data
abbrev pub with_payload : Word → List ℕ → Word
with_payload (short_data delta payload) new = short_data delta new
with_payload (long_data delta payload) new = long_data delta new
with_payload (padding delta skipped) new = padding delta skipped
with_payload (time_extend delta) new = time_extend delta
with_payload (time_stamp time) new = time_stamp time

-- the bytes of a data word before its payload
abbrev pub head_of : Word → List ℕ
head_of (short_data delta payload) = first_word (length payload / 4) delta
head_of (long_data delta payload) = first_word 0 delta ++ le32 (length payload + 4)
head_of (padding delta skipped) = []
head_of (time_extend delta) = []
head_of (time_stamp time) = []

pub bytes_of_word-data : (w : Word) → IsData w → bytes_of_word w ≡ head_of w ++ payload_of w
bytes_of_word-data (short_data delta payload) is = refl
bytes_of_word-data (long_data delta payload) is = refl
bytes_of_word-data (padding delta skipped) is = absurd is
bytes_of_word-data (time_extend delta) is = absurd is
bytes_of_word-data (time_stamp time) is = absurd is

pub head_of_ge : (w : Word) → IsData w → 4 ≤ length (head_of w)
head_of_ge (short_data delta payload) is = omega (arith, length-le32 (length payload / 4 + 32 * delta))
head_of_ge (long_data delta payload) is =
    omega (arith, length-append (first_word 0 delta) (le32 (length payload + 4)), length-le32 (0 + 32 * delta))
head_of_ge (padding delta skipped) is = absurd is
head_of_ge (time_extend delta) is = absurd is
head_of_ge (time_stamp time) is = absurd is

-- what comes before a payload has the same length whatever the payload
pub length-head : (w : Word) (new : List ℕ) → IsData w → length (head_of (with_payload w new)) ≡ length (head_of w)
length-head (short_data delta payload) new is =
    length-le32 (length new / 4 + 32 * delta) ∙ sym (length-le32 (length payload / 4 + 32 * delta))
length-head (long_data delta payload) new is = long (length new + 4) ∙ sym (long (length payload + 4))
  where
    long : (n : ℕ) → length (first_word 0 delta ++ le32 n) ≡ 8
    long n = omega (arith, length-append (first_word 0 delta) (le32 n), length-le32 (0 + 32 * delta), length-le32 n)
length-head (padding delta skipped) new is = absurd is
length-head (time_extend delta) new is = absurd is
length-head (time_stamp time) new is = absurd is

pub bytes_of_word-with_payload : (w : Word) (new : List ℕ) → IsData w → length new ≡ length (payload_of w)
    → bytes_of_word (with_payload w new) ≡ head_of w ++ new
bytes_of_word-with_payload (short_data delta payload) new is same = ap (λ (n : ℕ). first_word (n / 4) delta ++ new) same
bytes_of_word-with_payload (long_data delta payload) new is same =
    ap (λ (n : ℕ). first_word 0 delta ++ le32 (n + 4) ++ new) same
bytes_of_word-with_payload (padding delta skipped) new is same = absurd is
bytes_of_word-with_payload (time_extend delta) new is same = absurd is
bytes_of_word-with_payload (time_stamp time) new is same = absurd is

-- a payload of the same length leaves the word's length as it is
pub length-bytes_changed : (w : Word) (new : List ℕ) → IsData w → length new ≡ length (payload_of w)
    → length (bytes_of_word (with_payload w new)) ≡ length (bytes_of_word w)
length-bytes_changed w new is same =
    ap length (bytes_of_word-with_payload w new is same) ∙ length-append (head_of w) new
    ∙ ap (λ (n : ℕ). length (head_of w) + n) same
    ∙ sym (length-append (head_of w) (payload_of w)) ∙ ap length (sym (bytes_of_word-data w is))

pub IsWord-with_payload : (w : Word) (new : List ℕ) → IsData w → length new ≡ length (payload_of w) → IsWord w
    → IsWord (with_payload w new)
IsWord-with_payload (short_data delta payload) new holds same is =
    (is.0, (let h = is.1 in omega arith), (let h = is.2 in omega arith), (let h = is.3 in omega arith))
IsWord-with_payload (long_data delta payload) new holds same is =
    (is.0, (let h = is.1 in omega arith), (let h = is.2 in omega arith))
IsWord-with_payload (padding delta skipped) new holds same is = absurd holds
IsWord-with_payload (time_extend delta) new holds same is = absurd holds
IsWord-with_payload (time_stamp time) new holds same is = absurd holds

pub IsData-with_payload : (w : Word) (new : List ℕ) → IsData w → IsData (with_payload w new)
IsData-with_payload (short_data delta payload) new is = tt
IsData-with_payload (long_data delta payload) new is = tt
IsData-with_payload (padding delta skipped) new is = absurd is
IsData-with_payload (time_extend delta) new is = absurd is
IsData-with_payload (time_stamp time) new is = absurd is

pub payload_of-with_payload : (w : Word) (new : List ℕ) → IsData w → payload_of (with_payload w new) ≡ new
payload_of-with_payload (short_data delta payload) new is = refl
payload_of-with_payload (long_data delta payload) new is = refl
payload_of-with_payload (padding delta skipped) new is = absurd is
payload_of-with_payload (time_extend delta) new is = absurd is
payload_of-with_payload (time_stamp time) new is = absurd is

-- ---- time doesn't see payloads

-- the word with no payload
abbrev bare : Word → Word
bare w = with_payload w []

bare-with_payload : (w : Word) (new : List ℕ) → bare (with_payload w new) ≡ bare w
bare-with_payload (short_data delta payload) new = refl
bare-with_payload (long_data delta payload) new = refl
bare-with_payload (padding delta skipped) new = refl
bare-with_payload (time_extend delta) new = refl
bare-with_payload (time_stamp time) new = refl

-- its fields but the payload are the word's
record SameBare (w : Word) : Type 0 where
  delta : delta_of (bare w) ≡ delta_of w
  stamp : stamp_of (bare w) ≡ stamp_of w
  is_stamp : is_stamp (bare w) ≡ is_stamp w

same_bare : (w : Word) → SameBare w
same_bare (short_data delta payload) = record { delta = refl; stamp = refl; is_stamp = refl }
same_bare (long_data delta payload) = record { delta = refl; stamp = refl; is_stamp = refl }
same_bare (padding delta skipped) = record { delta = refl; stamp = refl; is_stamp = refl }
same_bare (time_extend delta) = record { delta = refl; stamp = refl; is_stamp = refl }
same_bare (time_stamp time) = record { delta = refl; stamp = refl; is_stamp = refl }

MovesTime-bare : (w : Word) → MovesTime w → MovesTime (bare w)
MovesTime-bare (short_data delta payload) moves = tt
MovesTime-bare (long_data delta payload) moves = tt
MovesTime-bare (padding delta skipped) moves = absurd moves
MovesTime-bare (time_extend delta) moves = tt
MovesTime-bare (time_stamp time) moves = absurd moves

MovesTime-from_bare : (w : Word) → MovesTime (bare w) → MovesTime w
MovesTime-from_bare (short_data delta payload) moves = tt
MovesTime-from_bare (long_data delta payload) moves = tt
MovesTime-from_bare (padding delta skipped) moves = absurd moves
MovesTime-from_bare (time_extend delta) moves = tt
MovesTime-from_bare (time_stamp time) moves = absurd moves

last_stamp-bare : (time : ℕ) (words : List Word) → last_stamp time (map bare words) ≡ last_stamp time words
last_stamp-bare time [] = refl
last_stamp-bare time (w ∷ words) =
    ap (λ (s : Option ℕ). last_stamp (unwrap_or s time) (map bare words)) (same_bare w).stamp
    ∙ last_stamp-bare (unwrap_or (stamp_of w) time) words

any_stamp-bare : (words : List Word) → list_any is_stamp (map bare words) ≡ list_any is_stamp words
any_stamp-bare [] = refl
any_stamp-bare (w ∷ words) = λ i. (same_bare w).is_stamp i || any_stamp-bare words i

since_stamp-bare : (words : List Word) → since_stamp (map bare words) ≡ map bare (since_stamp words)
since_stamp-bare [] = refl
since_stamp-bare (w ∷ words) =
    (λ i.
    cond (any_stamp-bare words i) (since_stamp-bare words i)
    (cond ((same_bare w).is_stamp i) (map bare words) (bare w ∷ map bare words)))
    ∙ by_test (list_any is_stamp words) (is_stamp w)
  where
    by_test : (any here : Bool)
        → cond any (map bare (since_stamp words)) (cond here (map bare words) (bare w ∷ map bare words))
        ≡ map bare (cond any (since_stamp words) (cond here words (w ∷ words)))
    by_test true here = refl
    by_test false true = refl
    by_test false false = refl

sum-bare : (words : List Word) → sum_by delta_of (map bare words) ≡ sum_by delta_of words
sum-bare [] = refl
sum-bare (w ∷ words) =
    sum_by-cons delta_of (bare w) (map bare words) ∙ (λ i. (same_bare w).delta i + sum-bare words i)
    ∙ sym (sum_by-cons delta_of w words)

moment_after-bare : (time : ℕ) (words : List Word) → moment_after time (map bare words) ≡ moment_after time words
moment_after-bare time words =
    λ i. last_stamp-bare time words i + (ap (sum_by delta_of) (since_stamp-bare words) ∙ sum-bare (since_stamp words)) i

moment_after-same : (time : ℕ) (words others : List Word) → map bare words ≡ map bare others
    → moment_after time words ≡ moment_after time others
moment_after-same time words others same =
    sym (moment_after-bare time words) ∙ ap (moment_after time) same ∙ moment_after-bare time others

-- the list is split where its mapped list is
record IsUnmapped {X Y : Type 0} (f : X → Y) (xs : List X) (front : List Y) (y : Y) : Type 0 where
  before : List X
  here : X
  after : List X
  cut : xs ≡ before ++ here ∷ after
  fronts : map f before ≡ front
  at : f here ≡ y

unmapped-cons : {X Y : Type 0} (f : X → Y) (x : X) (xs : List X) (z : Y) (front : List Y) (y : Y) → f x ≡ z
    → IsUnmapped f xs front y → IsUnmapped f (x ∷ xs) (z ∷ front) y
unmapped-cons {X = X} f x xs z front y first h =
    record {
      before = x ∷ h.before;
      here = h.here;
      after = h.after;
      cut = ap (λ (zs : List X). x ∷ zs) h.cut;
      fronts = λ i. first i ∷ h.fronts i;
      at = h.at;
    }

unmapped : {X Y : Type 0} (f : X → Y) (xs : List X) (front : List Y) (y : Y) (behind : List Y)
    → map f xs ≡ front ++ y ∷ behind → IsUnmapped f xs front y
unmapped f [] [] y behind e = absurd (cc)
unmapped f [] (z ∷ front) y behind e = absurd (cc)
unmapped f (x ∷ xs) [] y behind e = record { before = []; here = x; after = xs; cut = refl; fronts = refl; at = cc }
unmapped f (x ∷ xs) (z ∷ front) y behind e = unmapped-cons f x xs z front y (cc) (unmapped f xs front y behind (cc))

FitsTime-same : (time : ℕ) (words others : List Word) → map bare words ≡ map bare others → FitsTime time words
    → FitsTime time others
FitsTime-same time words others same fits front w behind e moves =
    let cut : map bare words ≡ map bare front ++ bare w ∷ map bare behind =
    same ∙ ap (map bare) e ∙ map-append bare front (w ∷ behind) in
    let h = unmapped bare words (map bare front) (bare w) (map bare behind) cut in
    let alike : map bare (h.before ++ h.here ∷ []) ≡ map bare (front ++ w ∷ []) =
    map-append bare h.before (h.here ∷ []) ∙ (λ i. h.fronts i ++ h.at i ∷ [])
    ∙ sym (map-append bare front (w ∷ [])) in
    subst (λ (m : ℕ). m < 2 ^ 64) (moment_after-same time (h.before ++ h.here ∷ []) (front ++ w ∷ []) alike)
    (fits h.before h.here h.after h.cut
    (MovesTime-from_bare h.here (subst MovesTime (sym h.at) (MovesTime-bare w moves))))

-- the records of words don't see the payloads before them
records_at-same : (time : ℕ) (front others : List Word) (w : Word) → map bare front ≡ map bare others
    → records_at time front w ≡ records_at time others w
records_at-same time front others w same = by_word w
  where
    later : (v : Word) → moment_after time (front ++ v ∷ []) ≡ moment_after time (others ++ v ∷ [])
    later v =
        moment_after-same time (front ++ v ∷ []) (others ++ v ∷ [])
        (map-append bare front (v ∷ []) ∙ ap (λ (ws : List Word). ws ++ bare v ∷ []) same
        ∙ sym (map-append bare others (v ∷ [])))

    by_word : (v : Word) → records_at time front v ≡ records_at time others v
    by_word (short_data delta payload) =
        ap (λ (m : ℕ). let r : Record = record { moment = m; bytes = payload } in r ∷ [])
        (later (short_data delta payload))
    by_word (long_data delta payload) =
        ap (λ (m : ℕ). let r : Record = record { moment = m; bytes = payload } in r ∷ [])
        (later (long_data delta payload))
    by_word (padding delta skipped) = refl
    by_word (time_extend delta) = refl
    by_word (time_stamp stamp) = refl

records_behind-same : (time : ℕ) (words front others : List Word) → map bare front ≡ map bare others
    → records_behind time front words ≡ records_behind time others words
records_behind-same time [] front others same = refl
records_behind-same time (w ∷ words) front others same =
    let more : map bare (front ++ w ∷ []) ≡ map bare (others ++ w ∷ []) =
    map-append bare front (w ∷ []) ∙ ap (λ (ws : List Word). ws ++ bare w ∷ []) same
    ∙ sym (map-append bare others (w ∷ [])) in
    λ i.
    records_at-same time front others w same i
    ++ records_behind-same time words (front ++ w ∷ []) (others ++ w ∷ []) more i

-- ---- the place of a payload

-- what comes before the payload, and what after it
abbrev pub before_place : {bytes : List ℕ} {start len : ℕ} → IsPlaceIn bytes start len → List ℕ
before_place p = joined p.front ++ head_of p.word

abbrev pub after_place : {bytes : List ℕ} {start len : ℕ} → IsPlaceIn bytes start len → List ℕ
after_place p = joined p.behind ++ p.rest

-- words with one data word among them, joined: the bytes before its payload, the payload, and the rest
joined-around : (front : List Word) (w : Word) (behind : List Word) (head payload rest : List ℕ)
    → bytes_of_word w ≡ head ++ payload
    → joined (front ++ w ∷ behind) ++ rest ≡ (joined front ++ head) ++ payload ++ (joined behind ++ rest)
joined-around front w behind head payload rest is =
    ap (λ (b : List ℕ). b ++ rest)
    (flat_map-append bytes_of_word front (w ∷ behind)
    ∙ ap (λ (b : List ℕ). joined front ++ (b ++ joined behind)) is)
    ∙ regroup (joined front) head payload (joined behind) rest
  where
    regroup : (a b c d e : List ℕ) → (a ++ ((b ++ c) ++ d)) ++ e ≡ (a ++ b) ++ c ++ (d ++ e)
    regroup a b c d e = simp append_assoc

length-before_place : (joined_front head payload word : List ℕ) (start : ℕ) → word ≡ head ++ payload
    → start + length payload ≡ length joined_front + length word → length (joined_front ++ head) ≡ start
length-before_place joined_front head payload word start is at =
    omega (arith, ap length is, length-append head payload, length-append joined_front head)

module _ (bytes : List ℕ) (start len : ℕ) (p : IsPlaceIn bytes start len) where
  spelled : bytes_of_word p.word ≡ head_of p.word ++ payload_of p.word
  spelled = bytes_of_word-data p.word p.holds

  before_is : length (before_place p) ≡ start
  before_is =
      length-before_place (joined p.front) (head_of p.word) (payload_of p.word) (bytes_of_word p.word) start spelled
      p.start_is

  pub place-split : bytes ≡ before_place p ++ payload_of p.word ++ after_place p
  place-split = p.cut.whole ∙ joined-around p.front p.word p.behind (head_of p.word) (payload_of p.word) p.rest spelled

  place-end : length (before_place p ++ payload_of p.word) ≡ start + len
  place-end = length-append (before_place p) (payload_of p.word) ∙ (λ i. before_is i + sym p.len_is i)

  -- a place is within the bytes
  pub place-within : start + len ≤ length bytes
  place-within =
      omega
      (arith, ap length place-split, length-append (before_place p ++ payload_of p.word) (after_place p), place-end)

  pub place-take : take start bytes ≡ before_place p
  place-take =
      ap (take start) (place-split ∙ append_assoc (before_place p) (payload_of p.word) (after_place p))
      ∙ take_at (before_place p) (payload_of p.word ++ after_place p) start before_is

  pub place-drop : drop (start + len) bytes ≡ after_place p
  place-drop =
      ap (drop (start + len)) place-split
      ∙ drop_at (before_place p ++ payload_of p.word) (after_place p) (start + len) place-end

  -- the payload is the bytes there
  pub place-payload : bytes_at start len bytes ≡ payload_of p.word
  place-payload =
      ap (λ (b : List ℕ). take len (drop start b))
      (place-split ∙ append_assoc (before_place p) (payload_of p.word) (after_place p))
      ∙ ap (take len) (drop_at (before_place p) (payload_of p.word ++ after_place p) start before_is)
      ∙ take_at (payload_of p.word) (after_place p) len (sym p.len_is)

each-replaced : (front : List Word) (w v : Word) (behind : List Word) → IsWord v
    → AllByRecursion IsWord (front ++ w ∷ behind) → AllByRecursion IsWord (front ++ v ∷ behind)
each-replaced [] w v behind is each = (is, each.1)
each-replaced (x ∷ front) w v behind is each = (each.0, each-replaced front w v behind is each.1)

each-at : (front : List Word) (w : Word) (behind : List Word) → AllByRecursion IsWord (front ++ w ∷ behind) → IsWord w
each-at [] w behind each = each.0
each-at (x ∷ front) w behind each = each-at front w behind each.1

module _ (bytes : List ℕ) (start len : ℕ) (p : IsPlaceIn bytes start len) (new : List ℕ) (fills : length new ≡ len)
  where
    as_long : length new ≡ length (payload_of p.word)
    as_long = fills ∙ p.len_is

    pub overwritten-joined : overwritten bytes start new
        ≡ joined (p.front ++ with_payload p.word new ∷ p.behind) ++ p.rest
    overwritten-joined =
        sym (append_assoc (take start bytes) new (drop (start + length new) bytes))
        ∙ (λ i. place-take bytes start len p i ++ new ++ drop (start + fills i) bytes)
        ∙ ap (λ (b : List ℕ). before_place p ++ new ++ b) (place-drop bytes start len p)
        ∙ sym (joined-around p.front (with_payload p.word new) p.behind (head_of p.word) new p.rest
        (bytes_of_word-with_payload p.word new p.holds as_long))

    -- the bytes overwritten are the same words, with only that payload changed
    pub overwritten-IsJoined : IsJoined (overwritten bytes start new) (p.front ++ with_payload p.word new ∷ p.behind)
        p.rest
    overwritten-IsJoined = record {
      whole = overwritten-joined;
      each =
          each-replaced p.front p.word (with_payload p.word new) p.behind
          (IsWord-with_payload p.word new p.holds as_long (each-at p.front p.word p.behind p.cut.each)) p.cut.each;
      ending = p.cut.ending;
    }

    pub length-overwritten : length (overwritten bytes start new) ≡ length bytes
    length-overwritten =
        let same = length-bytes_changed p.word new p.holds as_long in
        ap length overwritten-joined ∙ around p.front (with_payload p.word new) p.word p.behind p.rest same
        ∙ ap length (sym p.cut.whole)
      where
        around : (front : List Word) (v w : Word) (behind : List Word) (rest : List ℕ)
            → length (bytes_of_word v) ≡ length (bytes_of_word w)
            → length (joined (front ++ v ∷ behind) ++ rest) ≡ length (joined (front ++ w ∷ behind) ++ rest)
        around [] v w behind rest same =
            length-append (bytes_of_word v ++ joined behind) rest
            ∙ ap (λ (n : ℕ). n + length rest)
            (length-append (bytes_of_word v) (joined behind) ∙ ap (λ (n : ℕ). n + length (joined behind)) same
            ∙ sym (length-append (bytes_of_word w) (joined behind)))
            ∙ sym (length-append (bytes_of_word w ++ joined behind) rest)
        around (x ∷ front) v w behind rest same =
            ap length (append_assoc (bytes_of_word x) (joined (front ++ v ∷ behind)) rest)
            ∙ length-append (bytes_of_word x) (joined (front ++ v ∷ behind) ++ rest)
            ∙ ap (λ (n : ℕ). length (bytes_of_word x) + n) (around front v w behind rest same)
            ∙ sym (length-append (bytes_of_word x) (joined (front ++ w ∷ behind) ++ rest))
            ∙ ap length (sym (append_assoc (bytes_of_word x) (joined (front ++ w ∷ behind)) rest))

-- ---- the records with one payload overwritten

bare-replaced : (front : List Word) (w : Word) (behind : List Word) (new : List ℕ)
    → map bare (front ++ w ∷ behind) ≡ map bare (front ++ with_payload w new ∷ behind)
bare-replaced front w behind new =
    map-append bare front (w ∷ behind)
    ∙ ap (λ (v : Word). map bare front ++ v ∷ map bare behind) (sym (bare-with_payload w new))
    ∙ sym (map-append bare front (with_payload w new ∷ behind))

pub FitsTime-replaced : (time : ℕ) (front : List Word) (w : Word) (behind : List Word) (new : List ℕ)
    → FitsTime time (front ++ w ∷ behind) → FitsTime time (front ++ with_payload w new ∷ behind)
FitsTime-replaced time front w behind new fits =
    FitsTime-same time (front ++ w ∷ behind) (front ++ with_payload w new ∷ behind) (bare-replaced front w behind new)
    fits

-- the records of words, one of them of a data word among these
pub records_of-around : (time : ℕ) (front : List Word) (w : Word) (behind : List Word) → IsData w
    → records_of time (front ++ w ∷ behind)
    ≡ records_of time front ++ record { moment = moment_after time (front ++ w ∷ []); bytes = payload_of w }
    ∷ records_behind time (front ++ w ∷ []) behind
records_of-around time front w behind is =
    records_of-append time front (w ∷ behind)
    ∙ ap (λ (rs : List Record). records_of time front ++ (rs ++ records_behind time (front ++ w ∷ []) behind))
    (records_at-data time front w is)

-- what the replaced words read as is the same but for that payload
pub records_of-replaced : (time : ℕ) (front : List Word) (w : Word) (behind : List Word) (new : List ℕ) → IsData w
    → records_of time (front ++ with_payload w new ∷ behind)
    ≡ records_of time front ++ record { moment = moment_after time (front ++ w ∷ []); bytes = new }
    ∷ records_behind time (front ++ w ∷ []) behind
records_of-replaced time front w behind new is =
    let v : Word = with_payload w new in
    let alike = bare-replaced front w [] new in
    records_of-around time front v behind (IsData-with_payload w new is)
    ∙ together (sym (moment_after-same time (front ++ w ∷ []) (front ++ v ∷ []) alike))
    (payload_of-with_payload w new is)
    (sym (records_behind-same time behind (front ++ w ∷ []) (front ++ v ∷ []) alike))
  where
    together : {m n : ℕ} {b c : List ℕ} {rs others : List Record} → m ≡ n → b ≡ c → rs ≡ others
        → records_of time front ++ record { moment = m; bytes = b } ∷ rs
        ≡ records_of time front ++ record { moment = n; bytes = c } ∷ others
    together p q r = λ i. records_of time front ++ record { moment = p i; bytes = q i } ∷ r i
