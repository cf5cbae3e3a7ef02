use Rattle.std.proofs.Common.{◌∙◌, [], refl}
use Rattle.page_lines.proofs.Passing.{passes_none, passes_both}
use Rattle.page_lines.proofs.source.PageLines.go_on.Goals as goal

pub loop-init : goal.loop-init
loop-init g c = (passes_none g.R.Source.remaining c.args.self.now, c.requires.goes, refl)

pub loop-preserved : goal.loop-preserved
loop-preserved g c =
    let (passes, goes, turns) = c.loop.invariant in
    let read = c.in_ok-read_page.ensures in (
      passes_both g.R.Source.remaining c.args.self.now c.loop.self c.read_page.new.self [] [] passes read.read,
      read.goes,
      read.turns ∙ turns,
    )
