-- A frame on top makes a compare and exchange in its phase.
use Rattle.std.proofs.Common.{ap, sym, ◌∙◌}
use Rattle.step_model.specs.Seen.{CountsSeen}
use Rattle.step_text.specs.Seen.{top_in}
use Rattle.step_text.proofs.Exchanging.{top_exchanges}
use Rattle.step_text.proofs.step_line.exchanges.Goals as goal

pub returns-in-Top-Some : goal.returns-in-Top-Some
returns-in-Top-Some c before event done parts asked =
    let opened = ap (λ (s : CountsSeen). s.opened) parts.counts in
    let event_is = rw c.in-Top-Some.is-0 at asked in
    rw c.is_frames_exchange.ensures
    (top_exchanges before _ _ _ event done opened (sym (ap top_in c.in-Top-Some.is-1) ∙ parts.top) event_is)
