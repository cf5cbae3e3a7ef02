use Rattle.std.proofs.Common.{◌<◌, ⊎_elim, rules, arith}
use Rattle.std.proofs.lemmas.Bool.{cases_lt}
use Rattle.collector.proofs.OfKind.{stated_of, stated_not_of}
use Rattle.collector.proofs.kinds.end_of_run.Goals as goal

pub returns-then-not-states_kind-clause-stop : goal.returns-then-not-states_kind-clause-stop
returns-then-not-states_kind-clause-stop c below is =
    stated_not_of c.args.kind c.args.collector.now c.args.cpu.0 c.loop-at.at c.stretch-stretch.result.content
    c.stretch-stretch.ensures.agree
    (search rules) c.stretch-stretch.ensures.here is

pub loop-at-preserved : goal.loop-at-preserved
loop-at-preserved c = record {
  from = omega (arith, c.stretch-stretch.ensures.goes_on);
  up_to = omega arith;
  run = λ m from below. ⊎_elim
      (λ (before : m < c.loop-at.at). c.loop-at.invariant.run m from before)
      (λ at. stated_of c.args.kind c.args.collector.now c.args.cpu.0 m c.stretch-stretch.result.content (search rules)
      (c.stretch-stretch.ensures.shown m at (omega arith)))
      (cases_lt m c.loop-at.at);
}
