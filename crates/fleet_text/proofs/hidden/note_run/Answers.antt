use Rattle.std.proofs.Common.{◌∙◌, Ok, ap}
use Rattle.fleet_text.specs.Runs.{run_seen}
use Rattle.fleet_text.proofs.HiddenNotes.{one_noted}
use Rattle.fleet_text.proofs.hidden.note_run.Goals as goal

pub returns-in-Ok : goal.returns-in-Ok
returns-in-Ok c =
    let m = c.mark_undelivered.ensures in
    one_noted (run_seen c.args.run.now) c.args.fleet.now c.args.noted.now c.mark_undelivered.new.self
    c.bound_of-bound.result c.end_below.result c.in-Ok.field-0 c.bound_of-bound.ensures.bound c.end_below.ensures
    (λ is. m.marked.unchanged (c.in-Ok.is ∙ ap Ok is)) m.marked.others
    (λ is. m.known (c.in-Ok.is ∙ ap Ok is))
    (λ is. m.given_up (c.in-Ok.is ∙ ap Ok is)) m.parcels
