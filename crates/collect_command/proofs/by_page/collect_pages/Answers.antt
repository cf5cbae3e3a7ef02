use Rattle.std.proofs.Common.{refl}
use Rattle.collect_command.proofs.RawCollected.{pages_collected}
use Rattle.collect_command.proofs.by_page.collect_pages.Goals as goal

pub returns : goal.returns
returns g c =
    pages_collected g.R.Source.remaining g.R.Source.failed c.args.collecting.now c.args.sources.items _ _ _ _
    c.requires.main c.list_or_tell.ensures c.new.ensures.items refl
