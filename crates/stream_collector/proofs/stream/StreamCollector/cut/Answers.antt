use Rattle.std.proofs.Common.{sym, subst, arith}
use Rattle.page_borrow.specs.Entries.{numbered_record}
use Rattle.stream_collector.proofs.Frontiers.{IsCutWalk, walk_begins, before_next, next_has, next_passed, all_passed}
use Rattle.stream_collector.proofs.stream.StreamCollector.cut.Goals as goal

pub loop-entry-init : goal.loop-entry-init
loop-entry-init c = subst (IsCutWalk c.args.self.now c.args.cpu.0 c.args.moment.0)
    (sym c.into_iter-entry-iterator.ensures.into_iter_gives)
    (walk_begins c.args.self.now c.args.cpu.0 c.args.moment.0 c.records-entry-items.result
    c.records-entry-items.ensures)

pub returns-then-entry-watermark : goal.returns-then-entry-watermark
returns-then-entry-watermark c = record {
  watermark = c.watermark-watermark.result.0;
  is_watermark = record {
    is_open = c.watermark-watermark.ensures.open;
    accounted = c.watermark-watermark.ensures.accounted;
  };
  from = c.watermark-watermark.ensures.open.from;
  up_to = omega arith;
  before = λ n r h below. before_next c.args.self.now c.args.cpu.0 c.args.moment.0 c.loop-entry.entry-iterator
      c.next.new.self (numbered_record c.in-Some.entry) c.in-Some.ensures.steps c.loop-entry.invariant n r h
      (omega arith);
  stops = λ below. absurd (omega arith);
}

pub returns-then-entry-moment : goal.returns-then-entry-moment
returns-then-entry-moment c =
    let has = next_has c.args.self.now c.args.cpu.0 c.args.moment.0 c.loop-entry.entry-iterator c.next.new.self
    (numbered_record c.in-Some.entry) c.in-Some.ensures.steps c.loop-entry.invariant in
    record {
      watermark = c.watermark-watermark.result.0;
      is_watermark = record {
        is_open = c.watermark-watermark.ensures.open;
        accounted = c.watermark-watermark.ensures.accounted;
      };
      from = has.from;
      up_to = omega arith;
      before = λ n r h below. before_next c.args.self.now c.args.cpu.0 c.args.moment.0 c.loop-entry.entry-iterator
          c.next.new.self (numbered_record c.in-Some.entry) c.in-Some.ensures.steps c.loop-entry.invariant n r h below;
      stops = λ below. ((numbered_record c.in-Some.entry).1, has, omega arith);
    }

pub loop-entry-preserved : goal.loop-entry-preserved
loop-entry-preserved c = next_passed c.args.self.now c.args.cpu.0 c.args.moment.0 c.loop-entry.entry-iterator
    c.next.new.self (numbered_record c.in-Some.entry) c.in-Some.ensures.steps c.loop-entry.invariant (omega arith)

pub returns : goal.returns
returns c = record {
  watermark = c.watermark-watermark.result.0;
  is_watermark = record {
    is_open = c.watermark-watermark.ensures.open;
    accounted = c.watermark-watermark.ensures.accounted;
  };
  from = c.watermark-watermark.ensures.open.from;
  up_to = omega arith;
  before = λ n r h below. all_passed c.args.self.now c.args.cpu.0 c.args.moment.0 c.loop-entry.entry-iterator
      c.in-None.ensures.steps.0 c.loop-entry.invariant n r h;
  stops = λ below. absurd (omega arith);
}
