-- One step of a walk over data that restores its words.
use Rattle.std.specs.Prelude.{◌≡◌, List, ℕ, ◌++◌, take, drop}
use Rattle.trace_model.specs.Words.{Word, bytes_of_word}
use Rattle.record_words.specs.Next.{StandsAt}
use Rattle.capture.specs.stamps.Restored.{restored_word, restored_time}
use Rattle.capture.specs.declared.stamps.restore.Reached.{Reached}

-- The word that is reached is restored: nothing else has changed, and the next word is reached then.
pub record RestoresWord (was is : List ℕ) (reached behind : Reached) : Type 0 where
  pub word : Word
  pub stands : StandsAt was reached.at behind.at word
  pub front : take reached.at is ≡ take reached.at was
  pub put : drop reached.at is ≡ bytes_of_word (restored_word reached.before word) ++ drop behind.at was
  pub time : behind.before ≡ restored_time reached.before word
