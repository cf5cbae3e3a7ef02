use Rattle.std.proofs.Common.{sym, subst, arith}
use Rattle.collector.specs.Shown.{IsUnknown}
use Rattle.collector.specs.FirstRun.{IsFirstRun}
use Rattle.stream_collector.specs.Stream.{Stream, HaveNoRecord}
use Rattle.stream_collector.specs.Forgetting.{GivesUpBelow}
use Rattle.stream_collector.proofs.Lost.{none_same, lost_none, lost_more}
use Rattle.stream_collector.proofs.stream.StreamCollector.given_up_below.Goals as goal

pub loop-first-init : goal.loop-first-init
loop-first-init c = record {
  none = none_same c.in_ok-given_up.given_up c.args.self.now.given_up
      (subst (λ (s : Stream). HaveNoRecord s.given_up) c.self.view_is c.self.invariant.no_record)
      c.in_ok-given_up.ensures;
  from = let is = c.bound-at.ensures in omega arith;
  up_to = let is = c.bound-at.ensures in let up = c.requires.above in omega arith;
  so_far = subst (GivesUpBelow c.args.self.now c.in_ok-given_up.given_up c.args.cpu.0) (sym c.bound-at.ensures)
      (lost_none c.args.self.now c.in_ok-given_up.given_up c.args.cpu.0 c.in_ok-given_up.ensures);
}

pub loop-first-preserved : goal.loop-first-preserved
loop-first-preserved c =
    let run : IsFirstRun
    (IsUnknown c.args.self.now.parcels c.args.cpu.0) c.loop-first.at.0 c.args.bound c.in-Some.first.0 c.in-Some.end.0 =
    subst (λ (s : Stream). IsFirstRun
    (IsUnknown s.parcels c.args.cpu.0) c.loop-first.at.0 c.args.bound c.in-Some.first.0 c.in-Some.end.0)
    c.self.view_is c.in-Some.ensures.run in
    record {
      none = c.give_up_run.ensures.none;
      from = let a = c.loop-first.invariant.from in let b = run.after in let d = run.forward in omega arith;
      up_to = run.up_to;
      so_far = lost_more c.args.self.now c.loop-first.given_up c.give_up_run.new.given_up c.args.cpu.0
          c.loop-first.at.0 c.args.bound c.in-Some.first.0 c.in-Some.end.0 c.loop-first.invariant.from run
          c.loop-first.invariant.so_far c.in_ok-give_up_run.ensures.given_up;
    }
