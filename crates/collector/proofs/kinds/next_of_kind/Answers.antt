use Rattle.std.proofs.Common.{◌<◌, ⊎_elim, rules, arith}
use Rattle.std.proofs.lemmas.Bool.{cases_lt}
use Rattle.collector.proofs.OfKind.{stated_of, stated_not_of}
use Rattle.collector.proofs.kinds.next_of_kind.Goals as goal

pub returns-then-states_kind-clause-there : goal.returns-then-states_kind-clause-there
returns-then-states_kind-clause-there c =
    stated_of c.args.kind c.args.collector.now c.args.cpu.0 c.loop-at.at c.stretch-stretch.result.content
    (search rules) c.stretch-stretch.ensures.here

pub loop-at-preserved : goal.loop-at-preserved
loop-at-preserved c = record {
  from = omega (arith, c.stretch-stretch.ensures.goes_on);
  passed = λ m from below is. ⊎_elim
      (λ (before : m < c.loop-at.at). c.loop-at.invariant.passed m from before is)
      (λ at. stated_not_of c.args.kind c.args.collector.now c.args.cpu.0 m c.stretch-stretch.result.content
      c.stretch-stretch.ensures.agree
      (search rules) (c.stretch-stretch.ensures.shown m at below) is)
      (cases_lt m c.loop-at.at);
}
