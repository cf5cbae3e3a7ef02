-- Steps of the walk.
use Rattle.std.proofs.Common.{◌≡◌, ℕ, ◌+◌, ◌%◌, ◌^◌, ◌≤◌, List, ◌++◌, length, take, drop, refl, sym, ap, ◌∙◌, subst}
use Rattle.std.proofs.Common.{arith}
use Rattle.trace_model.specs.Words.{Word, time_stamp, bytes_of_word, delta_of}
use Rattle.trace_model.specs.Reading.{IsData}
use Rattle.trace_model.proofs.words.Lengths.{length-bytes_of_stamp}
use Rattle.record_words.specs.Next.{StandsAt}
use Rattle.capture.specs.stamps.Restored.{restored_word, restored_time, restored_data}
use Rattle.capture.specs.stamps.Walk.{RestoresWord}
use Rattle.capture.specs.declared.stamps.restore.Reached.{Reached}
use Rattle.capture.proofs.Restored.{record-stays, restored-on}

-- a word that stays is passed
pub kept-word : (bytes : List ℕ) (reached behind : Reached) (w : Word) (next delta : ℕ)
    → StandsAt bytes reached.at next w
    → restored_word reached.before w ≡ w → restored_time reached.before w ≡ (reached.before + delta) % 2 ^ 64
    → behind.at ≡ next → behind.before ≡ (reached.before + delta) % 2 ^ 64 → RestoresWord bytes bytes reached behind
kept-word bytes reached behind w next delta stands stays time at_is before_is = record {
  word = w;
  stands = subst (λ (n : ℕ). StandsAt bytes reached.at n w) (sym at_is) stands;
  front = refl;
  put = stands.stands ∙ ap (λ (v : Word). bytes_of_word v ++ drop next bytes) (sym stays)
      ∙ ap (λ (n : ℕ). bytes_of_word (restored_word reached.before w) ++ drop n bytes) (sym at_is);
  time = before_is ∙ sym time;
}

-- a record is passed
pub kept-record : (bytes : List ℕ) (reached behind : Reached) (w : Word) (next delta : ℕ)
    → StandsAt bytes reached.at next w
    → IsData w → delta_of w ≡ delta → behind.at ≡ next → behind.before ≡ (reached.before + delta) % 2 ^ 64
    → RestoresWord bytes bytes reached behind
kept-record bytes reached behind w next delta stands is_data delta_is at_is before_is =
    let stays = record-stays reached.before w is_data in
    kept-word bytes reached behind w next delta stands stays.0
    (stays.1 ∙ ap (λ (d : ℕ). (reached.before + d) % 2 ^ 64) delta_is) at_is before_is

-- a stamp has eight bytes
pub stamp-end : (bytes : List ℕ) (at next stamp : ℕ) → StandsAt bytes at next (time_stamp stamp) → at + 8 ≡ next
stamp-end bytes at next stamp stands = omega (arith, stands.next_is, length-bytes_of_stamp stamp)

-- past one word more, all up to the next one is restored
pub step-on : (all was is : List ℕ) (reached behind : Reached) → RestoresWord was is reached behind
    → all ≡ take reached.at was ++ restored_data reached.before (drop reached.at was)
    → (behind.at ≤ length is) × (all ≡ take behind.at is ++ restored_data behind.before (drop behind.at is))
step-on all was is reached behind step done =
    let on =
    restored-on all was is reached.before reached.at behind.at step.word step.stands step.front step.put done in
    (on.0, on.1 ∙ ap (λ (t : ℕ). take behind.at is ++ restored_data t (drop behind.at is)) (sym step.time))
