-- A frame on top whose record is one as nearly all are.
use Rattle.std.specs.Prelude.{◌≡◌, ℕ, ◌+◌, ◌-◌, ◌<◌, ◌≤◌, false, List, ◌∷◌, length, None}
use Rattle.record_words.specs.declared.format.TheConstants.{EXTEND_FROM, SHORT_LIMIT}
use Rattle.page_image.specs.Contents.{is_blank}
use Rattle.nested_writer.specs.declared.frame.Purpose.TheVariants.{Record}
use Rattle.nested_writer.specs.declared.frame.Progress.TheVariants.{Waiting}
use Rattle.nested_writer.specs.declared.frame.Frame.{Frame}
use Rattle.nested_writer.specs.declared.frame.Pushed.{Pushed}
use Rattle.nested_writer.specs.Stack.{Stack}

-- A record of this moment, for a payload of len bytes, comes as a short one does (docs/GLOSSARY.md), and the tail has
-- room for any such record. That the moment is in range is known of a frame on the stack.
pub record FitsPlainly (s : Stack) (moment len : ℕ) : Type 0 where
  pub some : 1 ≤ len
  pub short : len ≤ SHORT_LIMIT
  pub behind : is_blank s.tail.bytes ≡ false
  pub in_order : s.last_moment ≤ moment
  pub near : moment - s.last_moment < EXTEND_FROM
  pub far : length s.tail.bytes + (4 + SHORT_LIMIT) ≤ s.size

-- The frame on top is a record frame that tried nothing yet, and its record is such a one.
pub record IsPlainTop (s : Stack) (pushed : Pushed) : Type 0 where
  pub below : List Frame
  pub on_top : s.frames ≡ record { purpose = Record pushed.moment pushed.len; progress = Waiting None } ∷ below
  pub fits : FitsPlainly s pushed.moment pushed.len
