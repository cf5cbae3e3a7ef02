use Rattle.page_lines.proofs.Whole.{reads_all}
use Rattle.page_lines.proofs.laws.a_source_without_a_line_has_read_all.Goals as goal

pub returns : goal.returns
returns g c cpu reader size known fresh opened ended lines begins opens takes none =
    reads_all g.R.Source.remaining cpu reader size known fresh opened ended lines begins opens takes none
