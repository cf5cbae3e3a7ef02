-- What the frames of a writer were pushed for: how long their payloads are.
use Rattle.std.specs.Prelude.{◌≡◌, ℕ, List, [], ◌∷◌, Option, Some, None}
use Rattle.trace_model.specs.declared.numbers.RecordNo.{RecordNo}
use Rattle.trace_model.specs.Words.{slot_len}
use Rattle.nested_writer.specs.declared.fault.WriteFault.{WriteFault}
use Rattle.nested_writer.specs.declared.frame.Frame.{Frame}
use Rattle.nested_writer.specs.Next.{len_of}
use Rattle.nested_writer.specs.Stack.{Stack}
use Rattle.ring_frames.specs.declared.answer.Answer.{Answer}
use Rattle.ring_frames.specs.declared.answer.Answer.TheVariants.{Going, Reserved, Gone, Refused}

-- the lengths of the payloads that these frames were pushed for, the one on top first; a close frame has none
abbrev pub pushed_lens : List Frame → List (Option ℕ)
pushed_lens [] = []
pushed_lens (frame ∷ below) = len_of frame.purpose ∷ pushed_lens below

-- so of the frames on a stack
abbrev pub lens : Stack → List (Option ℕ)
lens s = pushed_lens s.frames

-- if the frame on top was pushed for a payload, its slot is this long
abbrev pub FitsTop : List (Option ℕ) → ℕ → Type 0
FitsTop [] long = Unit {0}
FitsTop (None ∷ below) long = Unit {0}
FitsTop (Some len ∷ below) long = long ≡ slot_len len

-- these are those below, and one more on top
abbrev pub IsOneMore : List (Option ℕ) → List (Option ℕ) → Type 0
IsOneMore more fewer = (top : Option ℕ) × (more ≡ top ∷ fewer)

-- if there were others below the one on top, exactly these are left
abbrev pub AreOthersLeft : List (Option ℕ) → List (Option ℕ) → Type 0
AreOthersLeft before after = (top next : Option ℕ) (others : List (Option ℕ))
    → before ≡ top ∷ next ∷ others
    → after ≡ next ∷ others

-- those that are left if the one on top leaves; but the last one stays
abbrev pub others_left : List (Option ℕ) → List (Option ℕ)
others_left [] = []
others_left (last ∷ []) = last ∷ []
others_left (top ∷ next ∷ others) = next ∷ others

-- What the answer of a step of the frame on top says of the frames: they are the same if it continues or its record is
-- reserved; it was on top of the others if it is gone; and it leaves if it is refused, unless it is the last one.
pub record KeepsLens (result : Answer) (old new : Stack) : Type 0 where
  pub going : result ≡ Going → lens new ≡ lens old
  pub reserved : (number : RecordNo) → result ≡ Reserved number → lens new ≡ lens old
  pub gone : result ≡ Gone → IsOneMore (lens old) (lens new)
  pub refused : (fault : WriteFault) → result ≡ Refused fault → lens new ≡ others_left (lens old)
