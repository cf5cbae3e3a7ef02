-- What the reader learns by receipts: which steps the writer had made before which of its own.
-- docs/MODEL.md, "An order in time".
use Rattle.std.specs.Prelude.{◌≡◌, ℕ, ◌≤◌, List, [], ◌∷◌, ◌++◌, length}
use Rattle.ring_steps.specs.Made.{WriterMade, Trace, by_writer, by_reader}

-- What the reader learned by a receipt, after this many steps of its own: the writer had made these.
pub record Lesson : Type 0 where
  pub steps : ℕ
  pub made : List WriterMade

-- In this run the steps that the writer had made are before each step that the reader made after it had learned of
-- them: some front of the run has the former, and none of the latter.
pub record IsInTime (trace : Trace) (lesson : Lesson) : Type 0 where
  pub front : Trace
  pub rest : Trace
  pub trace_is : trace ≡ front ++ rest
  pub others : List WriterMade
  pub has_made : by_writer front ≡ lesson.made ++ others
  pub few : length (by_reader front) ≤ lesson.steps

abbrev pub AreInTime : Trace → List Lesson → Type 0
AreInTime trace [] = Unit {0}
AreInTime trace (one ∷ lessons) = IsInTime trace one × AreInTime trace lessons
