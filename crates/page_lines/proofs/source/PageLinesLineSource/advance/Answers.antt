use Rattle.std.proofs.Common.{◌≡◌, ◌∙◌, Some, sym, ap}
use Rattle.time_merge.specs.Heads.{first_in}
use Rattle.time_merge.specs.Lines.{line_seen}
use Rattle.page_lines.proofs.source.PageLinesLineSource.advance.Goals as goal

pub returns-in-Ok-clause-goes : goal.returns-in-Ok-clause-goes
returns-in-Ok-clause-goes g c line first =
    let both : Some (line_seen c.in-Some.line) ≡ Some line =
    c.in-Some.ensures ∙ ap (λ s. first_in s.left) c.self.view_is ∙ first in
    let same : line_seen c.in-Some.line ≡ line = cc in
    c.in-Ok.ensures.passed line first (sym (ap (λ l. l.moment) same))
