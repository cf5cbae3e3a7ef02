use Rattle.std.proofs.Common.{sym, subst}
use Rattle.std.specs.Result.{IfOk}
use Rattle.capture_text.specs.Selection.{selection_seen}
use Rattle.collect_command.specs.declared.collect.Detail.{Detail}
use Rattle.collect_command.specs.declared.ending.Listed.{Listed}
use Rattle.collect_command.specs.Listings.{detail_by}
use Rattle.collect_command.specs.Paged.{ListsPages}
use Rattle.collect_command.proofs.by_page.print_named.Goals as goal

pub returns-in-Fields-clause-listed : goal.returns-in-Fields-clause-listed
returns-in-Fields-clause-listed g c formats tasks symbols texts =
    subst (λ (d : Detail). IfOk c.print_fields.result (λ (listed : Listed).
    ListsPages g.R.Source.remaining g.R.Source.failed c.args.collecting.now.form (detail_by d formats tasks symbols)
    (selection_seen c.args.selection) c.args.collecting.now.page c.args.sources.items
    (g.W.Sink.contents c.args.writer.now) (g.W.Sink.contents c.print_fields.new.writer)
    (g.W.Sink.failed c.print_fields.new.writer) listed))
    (sym c.in-Fields.is) (c.print_fields.ensures.listed formats tasks symbols texts)
