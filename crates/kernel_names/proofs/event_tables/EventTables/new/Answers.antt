use Rattle.std.proofs.Common.{ap, ◌∙◌, ◌<◌, arith, rules}
use Rattle.trace_dat.specs.kernel_texts.Names.{event_seen, events_of}
use Rattle.event_fields.specs.Events.{fields_of_event}
use Rattle.kernel_names.specs.EventTables.{tables_known}
use Rattle.kernel_names.proofs.TableLists.{one_more}
use Rattle.kernel_names.proofs.event_tables.EventTables.new.Goals as goal

pub loop-id-preserved : goal.loop-id-preserved
loop-id-preserved c =
    let said = c.in-Some.ensures in
    let put = c.in_ok-put_event.ensures in
    let id = c.in-Some.id in
    let small : id < 65536 = search rules in
    let list = c.of_event.ensures ∙ c.requires id small ∙ ap fields_of_event said.there in record {
      bound = omega (arith, small);
      rising = omega (arith, put.rising);
      known =
          one_more (events_of c.args.names.now) (tables_known c.loop-id.tables) (tables_known c.put_event.new.self)
          c.loop-id.from id _ (event_seen c.in-Some.event) _ c.loop-id.invariant.known said.above put.kept said.least
          said.there list put.known (omega arith);
    }
