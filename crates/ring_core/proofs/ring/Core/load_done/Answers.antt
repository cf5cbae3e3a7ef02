use Rattle.std.proofs.Common.{rules, sym, ap, ◌∙◌, subst, arith}
use Rattle.ring_core.specs.Inside.{core_of}
use Rattle.ring_core.specs.Value.{CoreValue}
use Rattle.ring_core.specs.IsCore.{IsCore}
use Rattle.ring_core.proofs.ReaderSteps.{finds_none, finds_closed}
use Rattle.ring_core.proofs.ring.Core.load_done.Goals as goal

pub returns-then-done-fill : goal.returns-then-done-fill
returns-then-done-fill c = record {
  step = λ n size start state old.
      let core = subst (λ (v : CoreValue). IsCore n size start v state) (sym c.self.view_is) old in
      finds_none n size start (core_of c.self.inside) state core c.args.page c.args.fill c.done-done.result c.args.body
      (ap (λ (v : CoreValue). v.reader.phase) c.self.view_is ∙ c.requires.phase) c.done-done.ensures (omega arith);
  given_back = search rules;
  stack = search rules;
}

pub returns : goal.returns
returns c = record {
  step = λ n size start state old.
      let core = subst (λ (v : CoreValue). IsCore n size start v state) (sym c.self.view_is) old in
      finds_closed n size start (core_of c.self.inside) state core c.args.page c.args.fill c.done-done.result
      c.args.body (ap (λ (v : CoreValue). v.reader.phase) c.self.view_is ∙ c.requires.phase) c.done-done.ensures
      (omega arith);
  given_back = search rules;
  stack = search rules;
}
