-- No page that the reader takes is empty.
use Rattle.std.proofs.Common.{ℕ, ◌-◌, sym, ap, ◌∙◌, arith}
use Rattle.trace_model.specs.History.{reserved_records}
use Rattle.trace_model.specs.Packing.{opens_of}
use Rattle.trace_model.specs.Ring.{PageRecords, Core}
use Rattle.trace_model.proofs.packing.FillCuts.{length-cut_from}
use Rattle.trace_model.proofs.packing.FullFills.{packed_full}
use Rattle.ring_model.specs.RingKept.{IsRingKept}
use Rattle.ring_model.specs.HistoryLaws.{HoldRecords}
use Rattle.ring_model.proofs.contents.PackedRuns.{runs_packed}

-- what is taken is a fill below the head, which isn't the last one
pub taken_hold : (n size start : ℕ) (c : Core) → IsRingKept n size start c → HoldRecords c.reader.taken
taken_hold n size start c r k t at none =
    let fill = r.partition.fills.each k t at in let below = r.partition.below k t at in let from = fill.from_start in
    let unread = r.links.head_le in let behind = r.links.done_lt in let count = r.contents.begun in
    packed_full c.history size (t.fill - start) (runs_packed n size start c r)
    (let long = length-cut_from 0 (opens_of c.history) (reserved_records c.history) in omega arith)
    (sym (ap (λ (h : PageRecords). h.records) fill.held) ∙ none)
