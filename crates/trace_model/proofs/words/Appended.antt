-- One more word after others: the moment there, and what the words read as. A record appended.
use Rattle.std.proofs.Common.{◌≡◌, ◌⊎◌, inl, inr, ℕ, ◌+◌, ◌%◌, ◌^◌, ◌<◌, ◌≤◌, Bool, true, false, cond, leb, ltb, ◌||◌}
use Rattle.std.proofs.Common.{List, [], ◌∷◌, ◌++◌, length, Some, None, unwrap_or, sum_by, refl, sym, ap, ◌∙◌, subst}
use Rattle.std.proofs.Common.{⊎_elim, arith, append_assoc, append-nil, true≢false}
use Rattle.std.specs.List.{AllByRecursion, list_any}
use Rattle.std.proofs.lemmas.List.{same_from_push}
use Rattle.std.proofs.lemmas.List.Concat.{flat_map-append}
use Rattle.std.proofs.lemmas.List.Folds.{list_any-append}
use Rattle.std.proofs.lemmas.List.Sums.{sum_by_push}
use Rattle.std.proofs.lemmas.Bool.{cond_both, cond-true, cond-false, leb-true, ltb-true}
use Rattle.trace_model.specs.Record.{Record}
use Rattle.trace_model.specs.Words.{Word, short_data, long_data, padding, time_extend, time_stamp, bytes_of_word}
use Rattle.trace_model.specs.Words.{IsWord, joined, delta_of, stamp_of, is_stamp, last_stamp, since_stamp, moment_after}
use Rattle.trace_model.specs.Words.{records_at, records_behind, records_of, MovesTime, FitsTime, IsJoined, Decodes}
use Rattle.trace_model.specs.Words.{data_word, written_words, encoding, word_time_limit}
use Rattle.trace_model.specs.Reading.{IsData, payload_of, EndsInRecord}
use Rattle.trace_model.specs.Order.{moment_of_last, EndsAt}
use Rattle.trace_model.proofs.words.Unique.{IsJoined-words_unique}

-- ---- the moment after one more word

last_stamp-push : (time : ℕ) (words : List Word) (w : Word)
    → last_stamp time (words ++ w ∷ []) ≡ unwrap_or (stamp_of w) (last_stamp time words)
last_stamp-push time [] w = refl
last_stamp-push time (x ∷ words) w = last_stamp-push (unwrap_or (stamp_of x) time) words w

or_true : (b : Bool) → (b || true) ≡ true
or_true true = refl
or_true false = refl

or_false : (b : Bool) → (b || false) ≡ b
or_false true = refl
or_false false = refl

any_stamp-push : (words : List Word) (w : Word)
    → list_any is_stamp (words ++ w ∷ []) ≡ (list_any is_stamp words || is_stamp w)
any_stamp-push words w =
    list_any-append is_stamp words (w ∷ []) ∙ ap (λ (b : Bool). list_any is_stamp words || b) (or_false (is_stamp w))

since_stamp-push_stamp : (words : List Word) (w : Word) → is_stamp w ≡ true → since_stamp (words ++ w ∷ []) ≡ []
since_stamp-push_stamp [] w is = cond-true (is_stamp w) [] (w ∷ []) is
since_stamp-push_stamp (x ∷ words) w is =
    cond-true (list_any is_stamp (words ++ w ∷ [])) _ _
    (any_stamp-push words w ∙ ap (λ (b : Bool). list_any is_stamp words || b) is
    ∙ or_true (list_any is_stamp words))
    ∙ since_stamp-push_stamp words w is

since_stamp-push : (words : List Word) (w : Word) → is_stamp w ≡ false
    → since_stamp (words ++ w ∷ []) ≡ since_stamp words ++ w ∷ []
since_stamp-push [] w is = cond-false (is_stamp w) [] (w ∷ []) is
since_stamp-push (x ∷ words) w is =
    (λ i. cond (same i) (since_stamp-push words w is i) (cond (is_stamp x) (words ++ w ∷ []) (x ∷ (words ++ w ∷ []))))
    ∙ by_test (list_any is_stamp words) (is_stamp x)
  where
    same : list_any is_stamp (words ++ w ∷ []) ≡ list_any is_stamp words
    same =
        any_stamp-push words w ∙ ap (λ (b : Bool). list_any is_stamp words || b) is ∙ or_false (list_any is_stamp words)

    by_test : (any here : Bool)
        → cond any (since_stamp words ++ w ∷ []) (cond here (words ++ w ∷ []) (x ∷ (words ++ w ∷ [])))
        ≡ cond any (since_stamp words) (cond here words (x ∷ words)) ++ w ∷ []
    by_test true here = refl
    by_test false true = refl
    by_test false false = refl

-- after a stamp the moment is the stamp's time
pub moment_after-stamp : (time : ℕ) (words : List Word) (stamp : ℕ)
    → moment_after time (words ++ time_stamp stamp ∷ []) ≡ stamp
moment_after-stamp time words stamp =
    let at = last_stamp-push time words (time_stamp stamp) in
    let behind = ap (sum_by delta_of) (since_stamp-push_stamp words (time_stamp stamp) refl) in
    omega arith

stamp_of-none : (w : Word) (time : ℕ) → is_stamp w ≡ false → unwrap_or (stamp_of w) time ≡ time
stamp_of-none (short_data delta payload) time is = refl
stamp_of-none (long_data delta payload) time is = refl
stamp_of-none (padding delta skipped) time is = refl
stamp_of-none (time_extend delta) time is = refl
stamp_of-none (time_stamp stamp) time is = absurd (true≢false is)

-- after any other word it is that much later
pub moment_after-push : (time : ℕ) (words : List Word) (w : Word) → is_stamp w ≡ false
    → moment_after time (words ++ w ∷ []) ≡ moment_after time words + delta_of w
moment_after-push time words w is =
    let at = last_stamp-push time words w ∙ stamp_of-none w (last_stamp time words) is in
    let behind = ap (sum_by delta_of) (since_stamp-push words w is) ∙ sum_by_push delta_of (since_stamp words) w in
    omega arith

pub IsData-not_stamp : (w : Word) → IsData w → is_stamp w ≡ false
IsData-not_stamp (short_data delta payload) is = refl
IsData-not_stamp (long_data delta payload) is = refl
IsData-not_stamp (padding delta skipped) is = refl
IsData-not_stamp (time_extend delta) is = refl
IsData-not_stamp (time_stamp stamp) is = absurd is

-- ---- the records of more words

pub records_behind-append : (time : ℕ) (front words more : List Word)
    → records_behind time front (words ++ more)
    ≡ records_behind time front words ++ records_behind time (front ++ words) more
records_behind-append time front [] more = ap (λ (ws : List Word). records_behind time ws more) (sym (append-nil front))
records_behind-append time front (w ∷ words) more =
    ap (λ (rs : List Record). records_at time front w ++ rs) (records_behind-append time (front ++ w ∷ []) words more)
    ∙ sym (append_assoc (records_at time front w) (records_behind time (front ++ w ∷ []) words)
    (records_behind time ((front ++ w ∷ []) ++ words) more))
    ∙ ap
    (λ (ws : List Word).
    (records_at time front w ++ records_behind time (front ++ w ∷ []) words) ++ records_behind time ws more)
    (append_assoc front (w ∷ []) words)

pub records_of-append : (time : ℕ) (words more : List Word)
    → records_of time (words ++ more) ≡ records_of time words ++ records_behind time words more
records_of-append time words more = records_behind-append time [] words more

-- a data word adds its record
pub records_at-data : (time : ℕ) (front : List Word) (w : Word) → IsData w
    → records_at time front w ≡ record { moment = moment_after time (front ++ w ∷ []); bytes = payload_of w } ∷ []
records_at-data time front (short_data delta payload) is = refl
records_at-data time front (long_data delta payload) is = refl
records_at-data time front (padding delta skipped) is = absurd is
records_at-data time front (time_extend delta) is = absurd is
records_at-data time front (time_stamp stamp) is = absurd is

pub records_of-push : (time : ℕ) (words : List Word) (w : Word)
    → records_of time (words ++ w ∷ []) ≡ records_of time words ++ records_at time words w
records_of-push time words w =
    records_of-append time words (w ∷ [])
    ∙ ap (λ (rs : List Record). records_of time words ++ rs) (append-nil (records_at time words w))

pub records_of-push_data : (time : ℕ) (words : List Word) (w : Word) → IsData w
    → records_of time (words ++ w ∷ [])
    ≡ records_of time words ++ record { moment = moment_after time words + delta_of w; bytes = payload_of w } ∷ []
records_of-push_data time words w is = records_of-push time words w
    ∙ ap (λ (rs : List Record). records_of time words ++ rs) (records_at-data time words w is
    ∙ ap (λ (m : ℕ). let r : Record = record { moment = m; bytes = payload_of w } in r ∷ [])
    (moment_after-push time words w (IsData-not_stamp w is)))

pub records_of-push_extend : (time : ℕ) (words : List Word) (delta : ℕ)
    → records_of time (words ++ time_extend delta ∷ []) ≡ records_of time words
records_of-push_extend time words delta =
    records_of-push time words (time_extend delta) ∙ append-nil (records_of time words)

-- ---- the bounds of more words

-- a list is empty or has a last element
pub last_of : {X : Type 0} (xs : List X) → (xs ≡ []) ⊎ ((front : List X) × (x : X) × (xs ≡ front ++ x ∷ []))
last_of [] = inl refl
last_of (x ∷ xs) = inr (⊎_elim
    (λ none. ([], x, ap (λ zs. x ∷ zs) none))
    (λ last. (x ∷ last.0, last.1, ap (λ zs. x ∷ zs) last.2))
    (last_of xs))

pub FitsTime-nil : (time : ℕ) → FitsTime time []
FitsTime-nil time [] w behind e moves = absurd (cc)
FitsTime-nil time (x ∷ front) w behind e moves = absurd (cc)

pub FitsTime-push : (time : ℕ) (words : List Word) (w : Word) → FitsTime time words
    → (MovesTime w → moment_after time (words ++ w ∷ []) < 2 ^ 64) → FitsTime time (words ++ w ∷ [])
FitsTime-push time words w fits here front v behind e moves = ⊎_elim
    (λ none. let same = same_from_push words front w v (e ∙ ap (λ (ws : List Word). front ++ v ∷ ws) none) in
    subst (λ (m : ℕ). m < 2 ^ 64) (λ i. moment_after time (same.0 i ++ same.1 i ∷ []))
    (here (subst MovesTime (sym same.1) moves)))
    (λ last. let same =
    same_from_push words (front ++ v ∷ last.0) w last.1
    (e ∙ ap (λ (ws : List Word). front ++ v ∷ ws) last.2 ∙ sym (append_assoc front (v ∷ last.0) (last.1 ∷ []))) in
    fits front v last.0 same.0 moves)
    (last_of behind)

pub each-append : (words more : List Word) → AllByRecursion IsWord words → AllByRecursion IsWord more
    → AllByRecursion IsWord (words ++ more)
each-append [] more each all = all
each-append (w ∷ words) more each all = (each.0, each-append words more each.1 all)

-- ---- data that is whole words

-- The data of a page with this time is exactly these words, and reads as these records.
pub record ReadsAs (bytes : List ℕ) (time : ℕ) (records : List Record) (words : List Word) : Type 0 where
  pub whole : bytes ≡ joined words
  pub each : AllByRecursion IsWord words
  pub in_time : FitsTime time words
  pub read : records ≡ records_of time words

pub ReadsAs-nil : (time : ℕ) → ReadsAs [] time [] []
ReadsAs-nil time = record { whole = refl; each = tt; in_time = FitsTime-nil time; read = refl }

pub Decodes-ReadsAs : (bytes : List ℕ) (time : ℕ) (records : List Record) (words : List Word)
    → ReadsAs bytes time records words → Decodes bytes time records
Decodes-ReadsAs bytes time records words reads = record {
  words = words;
  rest = [];
  cut = record { whole = reads.whole ∙ sym (append-nil (joined words)); each = reads.each; ending = inl refl };
  in_time = reads.in_time;
  read = reads.read;
}

-- data that is whole words is cut into them
pub IsJoined-whole : (bytes : List ℕ) (words : List Word) → bytes ≡ joined words → AllByRecursion IsWord words
    → IsJoined bytes words []
IsJoined-whole bytes words whole each =
    record { whole = whole ∙ sym (append-nil (joined words)); each = each; ending = inl refl }

pub ReadsAs-Decodes : (bytes : List ℕ) (time : ℕ) (records : List Record) (words : List Word) → bytes ≡ joined words
    → AllByRecursion IsWord words → Decodes bytes time records → ReadsAs bytes time records words
ReadsAs-Decodes bytes time records words whole each reads =
    let same : reads.words ≡ words =
    IsJoined-words_unique bytes reads.words words reads.rest [] reads.cut (IsJoined-whole bytes words whole each) in
    record {
      whole = whole;
      each = each;
      in_time = subst (FitsTime time) same reads.in_time;
      read = reads.read ∙ ap (records_of time) same;
    }

joined-push : (bytes : List ℕ) (words : List Word) (w : Word) → bytes ≡ joined words
    → bytes ++ bytes_of_word w ≡ joined (words ++ w ∷ [])
joined-push bytes words w whole = ap (λ (b : List ℕ). b ++ bytes_of_word w) whole
    ∙ ap (λ (b : List ℕ). joined words ++ b) (sym (append-nil (bytes_of_word w)))
    ∙ sym (flat_map-append bytes_of_word words (w ∷ []))

pub ReadsAs-push_data : (bytes : List ℕ) (time : ℕ) (records : List Record) (words : List Word) (w : Word)
    → ReadsAs bytes time records words → IsData w → IsWord w → moment_after time words + delta_of w < 2 ^ 64
    → ReadsAs (bytes ++ bytes_of_word w) time
    (records ++ record { moment = moment_after time words + delta_of w; bytes = payload_of w } ∷ [])
    (words ++ w ∷ [])
ReadsAs-push_data bytes time records words w reads holds is fits = record {
  whole = joined-push bytes words w reads.whole;
  each = each-append words (w ∷ []) reads.each (is, tt);
  in_time =
      FitsTime-push time words w reads.in_time
      (λ moves.
      subst (λ (m : ℕ). m < 2 ^ 64) (sym (moment_after-push time words w (IsData-not_stamp w holds))) fits);
  read =
      ap
      (λ (rs : List Record).
      rs ++ record { moment = moment_after time words + delta_of w; bytes = payload_of w } ∷ []) reads.read
      ∙ sym (records_of-push_data time words w holds);
}

pub ReadsAs-push_extend : (bytes : List ℕ) (time : ℕ) (records : List Record) (words : List Word) (delta : ℕ)
    → ReadsAs bytes time records words → delta < word_time_limit → moment_after time words + delta < 2 ^ 64
    → ReadsAs (bytes ++ bytes_of_word (time_extend delta)) time records (words ++ time_extend delta ∷ [])
ReadsAs-push_extend bytes time records words delta reads is fits = record {
  whole = joined-push bytes words (time_extend delta) reads.whole;
  each = each-append words (time_extend delta ∷ []) reads.each (is, tt);
  in_time =
      FitsTime-push time words (time_extend delta) reads.in_time
      (λ moves. subst (λ (m : ℕ). m < 2 ^ 64) (sym (moment_after-push time words (time_extend delta) refl)) fits);
  read = reads.read ∙ sym (records_of-push_extend time words delta);
}

-- ---- the word that the writer puts for data

pub data_word-IsData : (delta : ℕ) (payload : List ℕ) → IsData (data_word delta payload)
data_word-IsData delta payload =
    cond_both (leb (length payload) 112) (short_data delta payload) (long_data delta payload) IsData (λ short. tt)
    (λ long. tt)

pub data_word-payload : (delta : ℕ) (payload : List ℕ) → payload_of (data_word delta payload) ≡ payload
data_word-payload delta payload =
    cond_both (leb (length payload) 112) (short_data delta payload) (long_data delta payload)
    (λ w. payload_of w ≡ payload) (λ short. refl) (λ long. refl)

pub data_word-delta : (delta : ℕ) (payload : List ℕ) → delta_of (data_word delta payload) ≡ delta
data_word-delta delta payload =
    cond_both (leb (length payload) 112) (short_data delta payload) (long_data delta payload) (λ w. delta_of w ≡ delta)
    (λ short. refl) (λ long. refl)

pub data_word-IsWord : (delta : ℕ) (payload : List ℕ) → delta < 2 ^ 27 → length payload % 4 ≡ 0 → 4 ≤ length payload
    → length payload + 4 < 2 ^ 32 → IsWord (data_word delta payload)
data_word-IsWord delta payload small whole some fits =
    cond_both (leb (length payload) 112) (short_data delta payload) (long_data delta payload) IsWord
    (λ short. (small, whole, some, leb-true (length payload) 112 short))
    (λ long. (small, whole, fits))

-- ---- a record appended

-- a list of one record
abbrev pub one_record : ℕ → List ℕ → List Record
one_record moment bytes = record { moment = moment; bytes = bytes } ∷ []

ReadsAs-same : {bytes bytes2 : List ℕ} {time : ℕ} {records others : List Record} {words same : List Word}
    → bytes ≡ bytes2 → records ≡ others → words ≡ same → ReadsAs bytes time records words
    → ReadsAs bytes2 time others same
ReadsAs-same {time = time} p q r reads = record {
  whole = sym p ∙ reads.whole ∙ ap joined r;
  each = subst (AllByRecursion IsWord) r reads.each;
  in_time = subst (FitsTime time) r reads.in_time;
  read = sym q ∙ reads.read ∙ ap (records_of time) r;
}

ReadsAs-data_word : (bytes : List ℕ) (time : ℕ) (records : List Record) (words : List Word) (delta : ℕ)
    (payload : List ℕ) → ReadsAs bytes time records words
    → delta < 2 ^ 27 → moment_after time words + delta < 2 ^ 64 → length payload % 4 ≡ 0 → 4 ≤ length payload
    → length payload + 4 < 2 ^ 32
    → ReadsAs (bytes ++ bytes_of_word (data_word delta payload)) time
    (records ++ one_record (moment_after time words + delta) payload) (words ++ data_word delta payload ∷ [])
ReadsAs-data_word bytes time records words delta payload reads small room whole some fits =
    let w : Word = data_word delta payload in
    let moves = data_word-delta delta payload in
    ReadsAs-same refl
    (λ i. records ++ one_record (moment_after time words + moves i) (data_word-payload delta payload i)) refl
    (ReadsAs-push_data bytes time records words w reads (data_word-IsData delta payload)
    (data_word-IsWord delta payload small whole some fits)
    (subst (λ (d : ℕ). moment_after time words + d < 2 ^ 64) (sym moves) room))

-- after words, an encoding is one more record
pub ReadsAs-appended : (bytes : List ℕ) (time : ℕ) (records : List Record) (words : List Word) (delta : ℕ)
    (payload : List ℕ) → ReadsAs bytes time records words
    → delta < word_time_limit → moment_after time words + delta < 2 ^ 64 → length payload % 4 ≡ 0 → 4 ≤ length payload
    → length payload + 4 < 2 ^ 32
    → ReadsAs (bytes ++ encoding delta false payload) time
    (records ++ one_record (moment_after time words + delta) payload) (words ++ written_words delta false payload)
ReadsAs-appended bytes time records words delta payload reads small room whole some fits =
    cond_both (ltb delta (2 ^ 27)) _ _
    (λ (ws : List Word).
    ReadsAs (bytes ++ joined ws) time (records ++ one_record (moment_after time words + delta) payload)
    (words ++ ws))
    (λ short.
    ReadsAs-same (ap (λ (b : List ℕ). bytes ++ b) (sym (append-nil (bytes_of_word (data_word delta payload))))) refl
    refl
    (ReadsAs-data_word bytes time records words delta payload reads (ltb-true delta (2 ^ 27) short) room whole some
    fits))
    (λ long.
    let e : Word = time_extend delta in
    let d : Word = data_word 0 payload in
    let later : moment_after time (words ++ e ∷ []) + 0 ≡ moment_after time words + delta =
    (let h = moment_after-push time words e refl in omega arith) in
    ReadsAs-same
    (append_assoc bytes (bytes_of_word e) (bytes_of_word d)
    ∙ ap (λ (b : List ℕ). bytes ++ (bytes_of_word e ++ b)) (sym (append-nil (bytes_of_word d))))
    (ap (λ (m : ℕ). records ++ one_record m payload) later)
    (append_assoc words (e ∷ []) (d ∷ []))
    (ReadsAs-data_word (bytes ++ bytes_of_word e) time records (words ++ e ∷ []) 0 payload
    (ReadsAs-push_extend bytes time records words delta reads small room) (omega arith) (omega arith) whole some fits))

-- the first record of a page has the page's time
pub ReadsAs-first : (time delta : ℕ) (payload : List ℕ) → time < 2 ^ 64 → length payload % 4 ≡ 0 → 4 ≤ length payload
    → length payload + 4 < 2 ^ 32
    → ReadsAs (encoding delta true payload) time (one_record time payload) (written_words delta true payload)
ReadsAs-first time delta payload fits_time whole some fits =
    let start : moment_after time [] + 0 ≡ time = omega arith in
    ReadsAs-same (sym (append-nil (bytes_of_word (data_word 0 payload)))) (ap (λ (m : ℕ). one_record m payload) start)
    refl
    (ReadsAs-data_word [] time [] [] 0 payload (ReadsAs-nil time) (omega arith) (omega arith) whole some fits)

-- ---- data that ends in a record

pub EndsInRecord-nil : EndsInRecord []
EndsInRecord-nil = record { words = []; whole = refl; each = tt; last = inl refl }

-- the words of an encoding end in its data
pub written-last : (words : List Word) (delta : ℕ) (payload : List ℕ) (first : Bool)
    → (front : List Word) × (w : Word) × (words ++ written_words delta first payload ≡ front ++ w ∷ []) × IsData w
written-last words delta payload true = (words, data_word 0 payload, refl, data_word-IsData 0 payload)
written-last words delta payload false =
    cond_both (ltb delta (2 ^ 27)) _ _
    (λ (ws : List Word). (front : List Word) × (w : Word) × (words ++ ws ≡ front ++ w ∷ []) × IsData w)
    (λ short. (words, data_word delta payload, refl, data_word-IsData delta payload))
    (λ long. (
      words ++ time_extend delta ∷ [],
      data_word 0 payload,
      sym (append_assoc words (time_extend delta ∷ []) (data_word 0 payload ∷ [])),
      data_word-IsData 0 payload,
    ))

ReadsAs-ends : (bytes : List ℕ) (time : ℕ) (records : List Record) (words : List Word) (delta : ℕ) (payload : List ℕ)
    (first : Bool) → ReadsAs bytes time records (words ++ written_words delta first payload) → EndsInRecord bytes
ReadsAs-ends bytes time records words delta payload first reads =
    record {
      words = words ++ written_words delta first payload;
      whole = reads.whole;
      each = reads.each;
      last = inr (written-last words delta payload first);
    }

-- ---- where records end

pub moment_of_last-push : (records : List Record) (r : Record) → moment_of_last (records ++ r ∷ []) ≡ Some r.moment
moment_of_last-push [] r = refl
moment_of_last-push (x ∷ []) r = refl
moment_of_last-push (x ∷ y ∷ records) r = moment_of_last-push (y ∷ records) r

-- if data ends in a record, the moment of the last record is the moment after all words
pub moment_after-last : (bytes : List ℕ) (time : ℕ) (records : List Record) (moment : ℕ) → (ends : EndsInRecord bytes)
    → records ≡ records_of time ends.words → EndsAt records moment → moment_after time ends.words ≡ moment
moment_after-last bytes time records moment ends read at = ⊎_elim
    (λ none.
    absurd (let no_records : moment_of_last records ≡ None =
    ap moment_of_last read ∙ ap (λ (ws : List Word). moment_of_last (records_of time ws)) none in
    cc))
    (λ last. let front : List Word = last.0 in let w : Word = last.1 in
    let here : moment_after time (front ++ w ∷ []) ≡ moment_after time front + delta_of w =
    moment_after-push time front w (IsData-not_stamp w last.3) in
    let one_more : records ≡ records_of time front ++ one_record (moment_after time front + delta_of w) (payload_of w) =
    read ∙ ap (records_of time) last.2 ∙ records_of-push_data time front w last.3 in
    let there : moment_of_last records ≡ Some (moment_after time front + delta_of w) =
    ap moment_of_last one_more
    ∙ moment_of_last-push (records_of time front)
    record { moment = moment_after time front + delta_of w; bytes = payload_of w } in
    let same : moment_after time front + delta_of w ≡ moment = cc in
    ap (moment_after time) last.2 ∙ here ∙ same)
    ends.last

-- ---- the laws of a record appended

pub Decodes-first : (time delta : ℕ) (payload : List ℕ) → time < 2 ^ 64 → length payload % 4 ≡ 0 → 4 ≤ length payload
    → length payload + 4 < 2 ^ 32
    → Decodes (encoding delta true payload) time (record { moment = time; bytes = payload } ∷ [])
Decodes-first time delta payload fits_time whole some fits =
    Decodes-ReadsAs (encoding delta true payload) time (one_record time payload) (written_words delta true payload)
    (ReadsAs-first time delta payload fits_time whole some fits)

pub EndsInRecord-first : (delta : ℕ) (payload : List ℕ) → length payload % 4 ≡ 0 → 4 ≤ length payload
    → length payload + 4 < 2 ^ 32 → EndsInRecord (encoding delta true payload)
EndsInRecord-first delta payload whole some fits =
    ReadsAs-ends (encoding delta true payload) 0 (one_record 0 payload) [] delta payload true
    (ReadsAs-first 0 delta payload (omega arith) whole some fits)

-- what the data reads as with the words of its end
ReadsAs-ending : (bytes : List ℕ) (time : ℕ) (records : List Record) → (ends : EndsInRecord bytes)
    → Decodes bytes time records → ReadsAs bytes time records ends.words
ReadsAs-ending bytes time records ends reads = ReadsAs-Decodes bytes time records ends.words ends.whole ends.each reads

ReadsAs-behind : (bytes : List ℕ) (time : ℕ) (records : List Record) (prev delta : ℕ) (payload : List ℕ)
    → (ends : EndsInRecord bytes) → Decodes bytes time records → EndsAt records prev
    → delta < word_time_limit → prev + delta < 2 ^ 64 → length payload % 4 ≡ 0 → 4 ≤ length payload
    → length payload + 4 < 2 ^ 32
    → ReadsAs (bytes ++ encoding delta false payload) time (records ++ one_record (prev + delta) payload)
    (ends.words ++ written_words delta false payload)
ReadsAs-behind bytes time records prev delta payload ends reads at small room whole some fits =
    let words : List Word = ends.words in
    let whole_words = ReadsAs-ending bytes time records ends reads in
    let there : moment_after time words ≡ prev = moment_after-last bytes time records prev ends whole_words.read at in
    ReadsAs-same refl (ap (λ (m : ℕ). records ++ one_record (m + delta) payload) there) refl
    (ReadsAs-appended bytes time records words delta payload whole_words small
    (subst (λ (m : ℕ). m + delta < 2 ^ 64) (sym there) room) whole some fits)

pub Decodes-appended : (bytes : List ℕ) (time : ℕ) (records : List Record) (prev delta : ℕ) (payload : List ℕ)
    → EndsInRecord bytes → Decodes bytes time records → EndsAt records prev
    → delta < word_time_limit → prev + delta < 2 ^ 64 → length payload % 4 ≡ 0 → 4 ≤ length payload
    → length payload + 4 < 2 ^ 32
    → Decodes (bytes ++ encoding delta false payload) time
    (records ++ record { moment = prev + delta; bytes = payload } ∷ [])
Decodes-appended bytes time records prev delta payload ends reads at small room whole some fits =
    Decodes-ReadsAs (bytes ++ encoding delta false payload) time (records ++ one_record (prev + delta) payload)
    (ends.words ++ written_words delta false payload)
    (ReadsAs-behind bytes time records prev delta payload ends reads at small room whole some fits)

pub written-each : (delta : ℕ) (payload : List ℕ) → delta < word_time_limit → length payload % 4 ≡ 0
    → 4 ≤ length payload → length payload + 4 < 2 ^ 32 → AllByRecursion IsWord (written_words delta false payload)
written-each delta payload small whole some fits = cond_both (ltb delta (2 ^ 27)) _ _ (AllByRecursion IsWord)
    (λ short. (data_word-IsWord delta payload (ltb-true delta (2 ^ 27) short) whole some fits, tt))
    (λ long. (small, (data_word-IsWord 0 payload (omega arith) whole some fits, tt)))

pub EndsInRecord-appended : (bytes : List ℕ) (delta : ℕ) (payload : List ℕ) → EndsInRecord bytes
    → delta < word_time_limit → length payload % 4 ≡ 0 → 4 ≤ length payload → length payload + 4 < 2 ^ 32
    → EndsInRecord (bytes ++ encoding delta false payload)
EndsInRecord-appended bytes delta payload ends small whole some fits = record {
  words = ends.words ++ written_words delta false payload;
  whole =
      ap (λ (b : List ℕ). b ++ encoding delta false payload) ends.whole
      ∙ sym (flat_map-append bytes_of_word ends.words (written_words delta false payload));
  each =
      each-append ends.words (written_words delta false payload) ends.each
      (written-each delta payload small whole some fits);
  last = inr (written-last ends.words delta payload false);
}

pub EndsAt-push : (records : List Record) (r : Record) → EndsAt (records ++ r ∷ []) r.moment
EndsAt-push records r = moment_of_last-push records r

-- ---- the same of the records that the plain reader finds
