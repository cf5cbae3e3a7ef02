-- What the reader observed stays as it is, whatever is done next.
use Rattle.std.proofs.Common.{◌≡◌, ℕ, ◌≤◌, List, [], ◌∷◌, ◌++◌, take, map, sym, ap, ◌∙◌, arith, append_assoc}
use Rattle.std.proofs.Common.{append-nil}
use Rattle.trace_model.specs.Record.{Record}
use Rattle.trace_model.specs.History.{HistoryEvent, as_record, reserved_records}
use Rattle.trace_model.specs.Window.{history_events_of}
use Rattle.trace_model.specs.Ring.{Core}
use Rattle.trace_model.specs.Steps.{Event, Answer, Step}
use Rattle.trace_model.proofs.histories.Committed.{committed_len, committed_len-more}
use Rattle.trace_model.proofs.steps.StepSound.{cases_of}
use Rattle.ring_model.specs.RingKept.{IsRingKept}
use Rattle.ring_model.proofs.partition.PartitionChanges.{frozen}
use Rattle.ring_model.proofs.partition.PartitionSteps.{settled}
use Rattle.ring_model.proofs.histories.StepsAsEvents.{leads_step}

-- the first of the reserved records, as they are by now
abbrev pub first_records : ℕ → List HistoryEvent → List Record
first_records e history = take e (map as_record (reserved_records history))

observed_longer : (h more : List HistoryEvent) (e : ℕ) → e ≤ committed_len h
    → first_records e (h ++ more) ≡ first_records e h
observed_longer h [] e low = ap (first_records e) (append-nil h)
observed_longer h (a ∷ more) e low = let up = committed_len-more h a in
    sym (ap (first_records e) (append_assoc h (a ∷ []) more))
    ∙ (observed_longer (h ++ a ∷ []) more e (omega arith) ∙ frozen h a e low)

pub observed_stays : (n size start : ℕ) (c : Core) (event : Event) (answer : Answer) (after : Core)
    → IsRingKept n size start c → Step n size c event answer after
    → first_records c.reader.expected after.history ≡ first_records c.reader.expected c.history
observed_stays n size start c event answer after k step =
    let l = leads_step n size start c event answer after k.links k.stack k.history (cases_of step) in
    ap (first_records c.reader.expected) l.history_events
    ∙ observed_longer c.history (history_events_of l.events) c.reader.expected
    (settled n start c k.links k.contents k.closed k.partition)
