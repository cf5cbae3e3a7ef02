-- The ring's invariant: what holds of every state that a ring's steps reach, and what each step keeps; from it nearly
-- all laws of a ring follow, and that each event has its step. What a frame has seen of a link (`SeenLinks`), and runs
-- as events (`RunsMoveWindow`), rest on the states that steps reach (`IsReached`).
use Rattle.std.specs.Prelude.{ℕ}
use Rattle.trace_model.specs.Ring.{Core}
use Rattle.ring_model.specs.KeptLinks.{LinksKept}
use Rattle.ring_model.specs.KeptStack.{StackKept}
use Rattle.ring_model.specs.KeptProgress.{ProgressKept}
use Rattle.ring_model.specs.KeptHistory.{HistoryKept}
use Rattle.ring_model.specs.KeptContents.{ContentsKept, OpenPagesKept, OtherPagesKept, ClosedKept}
use Rattle.ring_model.specs.KeptPacking.{PackedKept}
use Rattle.ring_model.specs.KeptPartition.{PartitionKept}

-- n positions, and pages of this size; the first fill has the number start
pub record IsRingKept (n size start : ℕ) (c : Core) : Type 0 where
  pub links : LinksKept n c
  pub stack : StackKept c
  pub progress : ProgressKept n c
  pub history : HistoryKept n start c
  pub contents : ContentsKept n start c
  pub open_pages : OpenPagesKept n c
  pub other_pages : OtherPagesKept c
  pub packed : PackedKept size c
  pub closed : ClosedKept start c
  pub partition : PartitionKept start c
