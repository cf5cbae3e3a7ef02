-- A step of the writer on one word: it is allowed, and the seat stays the writer's, if from each state that the words
-- show there is such a step.
use Rattle.std.proofs.Common.{◌≡◌, ℕ, ◌≤◌, List}
use Rattle.trace_model.specs.Ring.{Core}
use Rattle.trace_model.specs.Steps.{Answer}
use Rattle.ring_steps.specs.declared.rule.Shape.{Shape}
use Rattle.ring_steps.specs.Made.{writer_made_of}
use Rattle.ring_steps.specs.Views.{Writing, writing_of, Reading, writing, passed}
use Rattle.ring_steps.specs.Shown.{Homes}
use Rattle.ring_steps.specs.Seats.{SeatState, IsWriting, Leads, WriterReported}
use Rattle.ring_steps.specs.Linking.{ClaimReported, WishReported}
use Rattle.ring_steps.specs.Moving.{StaysWriting, IsWriterMove}
use Rattle.ring_steps.proofs.Allowing.{IsShownBy, WriterMoves, writer_allows}
use Rattle.ring_steps.proofs.WriterParts.{step_reached}

-- ---- what each kind of step shows

pub reported_stays : {shape : Shape} {now : Writing} {known : ℕ} {sees : Core → Type 0} {answer : Answer}
    (after : SeatState) → WriterReported shape now known sees answer after → StaysWriting shape after
reported_stays after r = record { seat = r.seat; reached = step_reached _ _ _ _ _ r.step }

pub claim_stays : {shape : Shape} {now : Writing} {known found : ℕ} (after : SeatState)
    → ClaimReported shape now known found after → StaysWriting shape after
claim_stays after r = reported_stays after r.reported

pub wish_stays : {shape : Shape} {now : Writing} {known found : ℕ} (after : SeatState)
    → WishReported shape now known found after → StaysWriting shape after
wish_stays after r = record { seat = r.seat; reached = step_reached _ _ _ _ _ r.step }

-- ---- the step

pub writer_move : (shape : Shape) (me : SeatState) (now : Writing) (word : ℕ) (f : ℕ → ℕ)
    (reports : ℕ → SeatState → Type 0)
    → IsWriting me
    → Leads shape (writing me.0) now
    → ((found : ℕ) (after : SeatState) → reports found after → StaysWriting shape after)
    → ((c : Core) (r : Reading) (words : List ℕ) (homes : Homes) (s : IsShownBy shape c r words homes)
    → writing_of (writer_made_of s.reached) c ≡ now → c.open_pages ≡ (writing me.0).open_pages → passed me.0 ≤ c.head
    → WriterMoves shape now r me words homes word f reports)
    → IsWriterMove shape me word f reports
writer_move shape me now word f reports is leads stays moves = record {
  allowed = λ slots id. writer_allows shape slots id me now word f reports is.view leads moves;
  stays = stays;
}
