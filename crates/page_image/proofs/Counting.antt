-- One word more after those that are read, and where the reading ends.
use Rattle.std.proofs.Common.{◌≡◌, ◌≢◌, inl, inr, ℕ, ◌+◌, ◌*◌, ◌^◌, ◌<◌, ◌≤◌, false, List, [], ◌∷◌, ◌++◌, length, drop}
use Rattle.std.proofs.Common.{Some, None, refl, sym, ap, ◌∙◌, subst, arith, append_assoc, append-nil, length-append}
use Rattle.std.proofs.Common.{length-drop}
use Rattle.std.proofs.lemmas.List.{drop_all}
use Rattle.std.proofs.lemmas.List.Concat.{flat_map-append}
use Rattle.trace_model.specs.Record.{Record}
use Rattle.trace_model.specs.Words.{Word, padding, time_extend, time_stamp, bytes_of_word, joined, delta_of, is_stamp}
use Rattle.trace_model.specs.Words.{moment_after, records_of, records_at, MovesTime, IsEnding, Decodes, short_data}
use Rattle.trace_model.specs.Words.{long_data}
use Rattle.trace_model.specs.Reading.{IsData, payload_of, records_in}
use Rattle.trace_model.specs.Faults.{time_overflow}
use Rattle.trace_model.specs.FirstFault.{FirstFault}
use Rattle.trace_model.proofs.words.Lengths.{bytes_of_word_ge}
use Rattle.trace_model.proofs.words.Unique.{records_in-Decodes}
use Rattle.trace_model.proofs.words.Appended.{FitsTime-nil, FitsTime-push, each-append, moment_after-push}
use Rattle.trace_model.proofs.words.Appended.{moment_after-stamp, IsData-not_stamp, records_at-data, records_of-push}
use Rattle.trace_model.proofs.words.Appended.{records_of-push_data}
use Rattle.record_words.specs.declared.next.WordFault.{WordFault}
use Rattle.record_words.specs.declared.next.WordFault.TheVariants.{TimeOverflow}
use Rattle.record_words.specs.Next.{StandsAt, DataAt, PaddingAt, EndingAt}
use Rattle.record_words.specs.declared.put.Place.{Place}
use Rattle.page_image.specs.declared.walk.Reached.{Reached}
use Rattle.page_image.specs.Counting.{IsCounted, IsFirstWordFault}
use Rattle.page_image.specs.Walk.{HasRead, HasPassed}

pub read-start : (bytes : List ℕ) (time : ℕ) (reached : Reached) → reached.at ≡ 0 → reached.moment ≡ time
    → reached.count ≡ 0 → HasRead bytes time [] reached
read-start bytes time reached at moment count = record {
  whole = ap (λ (n : ℕ). drop n bytes) (sym at);
  each = tt;
  in_time = FitsTime-nil time;
  at_is = at;
  moment_is = omega (arith, moment);
  count_is = count;
}

-- a word that follows those read, with the moment and the number of records after it
read-push : (bytes : List ℕ) (time : ℕ) (words : List Word) (reached : Reached) (w : Word) (next moment count : ℕ)
    → HasRead bytes time words reached → StandsAt bytes reached.at next w → (MovesTime w → moment < 2 ^ 64)
    → moment ≡ moment_after time (words ++ w ∷ []) → count ≡ length (records_of time (words ++ w ∷ []))
    → HasRead bytes time (words ++ w ∷ []) (record { at = next; moment = moment; count = count })
read-push bytes time words reached w next moment count is here fits moment_is count_is =
    let all : joined (words ++ w ∷ []) ≡ joined words ++ bytes_of_word w =
    flat_map-append bytes_of_word words (w ∷ [])
    ∙ ap (λ (b : List ℕ). joined words ++ b) (append-nil (bytes_of_word w)) in
    record {
      whole =
          is.whole ∙ ap (λ (b : List ℕ). joined words ++ b) here.stands
          ∙ sym (append_assoc (joined words) (bytes_of_word w) (drop next bytes))
          ∙ ap (λ (b : List ℕ). b ++ drop next bytes) (sym all);
      each = each-append words (w ∷ []) is.each (here.is_word, tt);
      in_time = FitsTime-push time words w is.in_time (λ moves. subst (λ (m : ℕ). m < 2 ^ 64) moment_is (fits moves));
      at_is =
          (let size = ap length all ∙ length-append (joined words) (bytes_of_word w) in
          let at = is.at_is in
          let stop = here.next_is in
          omega arith);
      moment_is = moment_is;
      count_is = count_is;
    }

-- a word that holds no record, and no stamp
plain_push : (bytes : List ℕ) (time : ℕ) (words : List Word) (reached : Reached) (w : Word) (next moment : ℕ)
    → HasRead bytes time words reached → StandsAt bytes reached.at next w → (MovesTime w → moment < 2 ^ 64)
    → is_stamp w ≡ false → records_at time words w ≡ [] → moment ≡ reached.moment + delta_of w
    → HasRead bytes time (words ++ w ∷ []) (record { at = next; moment = moment; count = reached.count })
plain_push bytes time words reached w next moment is here fits not_stamp none moment_is =
    read-push bytes time words reached w next moment reached.count is here fits
    (moment_is ∙ ap (λ (m : ℕ). m + delta_of w) is.moment_is ∙ sym (moment_after-push time words w not_stamp))
    (is.count_is
    ∙ ap length
    (sym (append-nil (records_of time words)) ∙ ap (λ (rs : List Record). records_of time words ++ rs) (sym none)
    ∙ sym (records_of-push time words w)))

read-data : (bytes : List ℕ) (time : ℕ) (words : List Word) (reached : Reached) (w : Word) (next moment : ℕ)
    → HasRead bytes time words reached → StandsAt bytes reached.at next w → IsData w → moment < 2 ^ 64
    → moment ≡ reached.moment + delta_of w
    → HasRead bytes time (words ++ w ∷ []) (record { at = next; moment = moment; count = reached.count + 1 })
read-data bytes time words reached w next moment is here holds fits moment_is =
    let more = ap length (records_of-push_data time words w holds) in
    let before = is.count_is in
    read-push bytes time words reached w next moment (reached.count + 1) is here (λ moves. fits)
    (moment_is ∙ ap (λ (m : ℕ). m + delta_of w) is.moment_is
    ∙ sym (moment_after-push time words w (IsData-not_stamp w holds)))
    (omega (
      arith,
      length-append (records_of time words)
          (record { moment = moment_after time words + delta_of w; bytes = payload_of w } ∷ []),
    ))

-- ---- a word that was stepped over

pub passed-data : (bytes : List ℕ) (time : ℕ) (words : List Word) (reached : Reached) (delta : ℕ) (place : Place)
    (next moment : ℕ) → HasRead bytes time words reached → DataAt bytes reached.at delta place next
    → moment < 2 ^ 64
    → moment ≡ reached.moment + delta
    → HasPassed bytes time words
    (record { payload = Some place; behind = record { at = next; moment = moment; count = reached.count + 1 } })
passed-data bytes time words reached delta place next moment is here fits moment_is =
    let read =
    read-data bytes time words reached here.word next moment is here.at_offset here.is_data fits
    (moment_is ∙ ap (λ (d : ℕ). reached.moment + d) (sym here.delta_is)) in
    record {
      word = here.word;
      read = read;
      records_is =
          records_at-data time words here.word here.is_data
          ∙ ap (λ (m : ℕ). let r : Record = record { moment = m; bytes = payload_of here.word } in r ∷ [])
          (sym read.moment_is)
          ∙ ap (λ (b : List ℕ). let r : Record = record { moment = moment; bytes = b } in r ∷ []) here.payload_is;
    }

pub passed-extend : (bytes : List ℕ) (time : ℕ) (words : List Word) (reached : Reached) (delta next moment : ℕ)
    → HasRead bytes time words reached → StandsAt bytes reached.at next (time_extend delta) → moment < 2 ^ 64
    → moment ≡ reached.moment + delta
    → HasPassed bytes time words
    (record { payload = None; behind = record { at = next; moment = moment; count = reached.count } })
passed-extend bytes time words reached delta next moment is here fits moment_is = record {
  word = time_extend delta;
  read =
      plain_push bytes time words reached (time_extend delta) next moment is here (λ moves. fits) refl refl moment_is;
  records_is = refl;
}

pub passed-padding : (bytes : List ℕ) (time : ℕ) (words : List Word) (reached : Reached) (next : ℕ)
    → HasRead bytes time words reached → PaddingAt bytes reached.at next
    → HasPassed bytes time words
    (record { payload = None; behind = record { at = next; moment = reached.moment; count = reached.count } })
passed-padding bytes time words reached next is here = record {
  word = padding here.delta here.skipped;
  read =
      plain_push bytes time words reached (padding here.delta here.skipped) next reached.moment is here.at_offset
      (λ moves. absurd moves) refl refl (omega arith);
  records_is = refl;
}

pub passed-stamp : (bytes : List ℕ) (time : ℕ) (words : List Word) (reached : Reached) (stamp next : ℕ)
    → HasRead bytes time words reached → StandsAt bytes reached.at next (time_stamp stamp)
    → HasPassed bytes time words
    (record { payload = None; behind = record { at = next; moment = stamp; count = reached.count } })
passed-stamp bytes time words reached stamp next is here = record {
  word = time_stamp stamp;
  read =
      read-push bytes time words reached (time_stamp stamp) next stamp reached.count is here (λ moves. absurd moves)
      (sym (moment_after-stamp time words stamp))
      (is.count_is
      ∙ ap length (sym (append-nil (records_of time words)) ∙ sym (records_of-push time words (time_stamp stamp))));
  records_is = refl;
}

-- ---- where the reading ends

whole_data : (bytes : List ℕ) (time : ℕ) (words : List Word) (reached : Reached) → HasRead bytes time words reached
    → IsEnding (drop reached.at bytes) → Decodes bytes time (records_of time words)
whole_data bytes time words reached is ending =
    record {
      words = words;
      rest = drop reached.at bytes;
      cut = record { whole = is.whole; each = is.each; ending = ending };
      in_time = is.in_time;
      read = refl;
    }

pub whole-ending : (bytes : List ℕ) (time : ℕ) (words : List Word) (reached : Reached)
    → HasRead bytes time words reached → EndingAt bytes reached.at → Decodes bytes time (records_of time words)
whole-ending bytes time words reached is ends = whole_data bytes time words reached is (inr ends.ends)

pub whole-all : (bytes : List ℕ) (time : ℕ) (words : List Word) (reached : Reached) → HasRead bytes time words reached
    → length bytes ≤ reached.at → Decodes bytes time (records_of time words)
whole-all bytes time words reached is past =
    whole_data bytes time words reached is (inl (drop_all reached.at bytes past))

-- data that is read whole is counted
pub counted-whole : (bytes : List ℕ) (time : ℕ) (words : List Word) (reached : Reached)
    → HasRead bytes time words reached → Decodes bytes time (records_of time words) → IsCounted bytes time reached.count
counted-whole bytes time words reached is reads =
    let same : records_in time bytes ≡ records_of time words =
    records_in-Decodes bytes time (records_of time words) reads in
    record {
      reads = subst (Decodes bytes time) (sym same) reads;
      count_is = is.count_is ∙ ap length (sym same);
    }

-- ---- faults

some_behind : (bytes : List ℕ) (at : ℕ) → at < length bytes → drop at bytes ≢ []
some_behind bytes at inside e = (let none = ap length e in omega (arith, length-drop at bytes))

-- a word that moves the time too far
pub overflow-first : (bytes : List ℕ) (time : ℕ) (words : List Word) (reached : Reached) (w : Word) (next : ℕ)
    (f : WordFault) → HasRead bytes time words reached → reached.at < length bytes
    → StandsAt bytes reached.at next w
    → MovesTime w → is_stamp w ≡ false → f ≡ TimeOverflow reached.at → 2 ^ 64 ≤ reached.moment + delta_of w
    → IsFirstWordFault bytes time f
overflow-first bytes time words reached w next f is inside here moves not_stamp fault past =
    let moment_is = is.moment_is in
    let first : FirstFault bytes time time_overflow reached.at = record {
      words = words;
      rest = drop reached.at bytes;
      whole = is.whole;
      each = is.each;
      in_time = is.in_time;
      at_is = is.at_is;
      some_left = some_behind bytes reached.at inside;
      fault =
          record {
            word = w;
            behind = drop next bytes;
            stands = here.stands;
            is_word = here.is_word;
            moves = moves;
            past = omega (arith, moment_after-push time words w not_stamp);
          };
    } in
    subst (IsFirstWordFault bytes time) (sym fault) first

pub IsData-moves : (w : Word) → IsData w → MovesTime w
IsData-moves (short_data delta payload) is = tt
IsData-moves (long_data delta payload) is = tt
IsData-moves (padding delta skipped) is = absurd is
IsData-moves (time_extend delta) is = absurd is
IsData-moves (time_stamp stamp) is = absurd is

-- a word takes four bytes, so records are few
pub few_more : (bytes : List ℕ) (at next count : ℕ) (w : Word) → StandsAt bytes at next w → 4 * count ≤ at
    → 4 * (count + 1) ≤ next
few_more bytes at next count w here few = let stop = here.next_is in let size = bytes_of_word_ge w in omega arith
