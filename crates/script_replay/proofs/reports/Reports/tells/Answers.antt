use Rattle.std.proofs.Common.{sym, ◌∙◌}
use Rattle.script_replay.proofs.reports.Reports.tells.Goals as goal

pub returns : goal.returns
returns g c = λ no.
    (λ i. (sym c.self.view_is i).steps) ∙ g.met.T.Teller.untold (sym c.TELLS.ensures ∙ no) c.self.inside.steps
