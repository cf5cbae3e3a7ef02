use Rattle.std.proofs.Common.{◌≡◌, ℕ}
use Rattle.trace_model.specs.Ring.{Core, IsStart, window_of}
use Rattle.trace_model.specs.Window.{first_window}
use Rattle.ring_model.proofs.partition.RingsKept.{ring_start}
use Rattle.ring_model.proofs.laws.rings.start_is_kept.Goals as goal

first : (start : ℕ) (c : Core) (n : ℕ) → IsStart n start c → window_of c ≡ first_window start
first start c n s = λ i. record { head = s.head i; done = s.done i; opened = s.opened i }

pub returns : goal.returns
returns c = record { kept = ring_start; window = λ n start core s. first start core n s }
