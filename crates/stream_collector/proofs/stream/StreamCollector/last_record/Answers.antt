use Rattle.std.proofs.Common.{◌<◌, ◌≤◌, ⊎_elim, arith}
use Rattle.std.proofs.lemmas.Bool.{cases_lt}
use Rattle.stream_collector.proofs.stream.StreamCollector.last_record.Goals as goal

pub loop-last-preserved : goal.loop-last-preserved
loop-last-preserved c = record {
  there = c.loop-last.invariant.there;
  from = c.loop-last.invariant.from;
  below = omega arith;
  up_to = let up = c.loop-last.invariant.up_to in omega arith;
  none = λ n r up below h. ⊎_elim
      (λ (lt : n < c.loop-last.high). c.in-None.ensures.none n r up lt h)
      (λ (le : c.loop-last.high ≤ n). c.loop-last.invariant.none n r le below h)
      (cases_lt n c.loop-last.high);
}

pub returns-clause-last : goal.returns-clause-last
returns-clause-last c n r lt below h = ⊎_elim
    (λ (less : n < c.loop-last.high). omega arith)
    (λ (le : c.loop-last.high ≤ n). c.loop-last.invariant.none n r le below h)
    (cases_lt n c.loop-last.high)
