use Rattle.std.proofs.Common.{◌∙◌, sym}
use Rattle.page_borrow.specs.Entries.{numbered_record}
use Rattle.time_merge.proofs.ByNumber.{records_none, none_first}
use Rattle.time_merge.proofs.lines.has_records.Goals as goal

pub returns : goal.returns
returns c = record {
  none = λ e. records_none c.args.collector.now c.args.cpu.0 c.records-records.result
      (none_first numbered_record c.next.result c.records-records.result c.next.new.self c.next.ensures.steps
      (sym c.is_some.ensures ∙ e)) c.records-records.ensures;
}
