use Rattle.std.proofs.Common.{rules, ℕ, ◌+◌, length, sym, ap, ◌∙◌, subst, arith}
use Rattle.trace_model.specs.Links.{header_link}
use Rattle.trace_model.specs.Ring.{page_at}
use Rattle.link_marks.specs.ModelLinks.{link_of}
use Rattle.ring_core.specs.Inside.{core_of}
use Rattle.ring_core.specs.Value.{CoreValue}
use Rattle.ring_core.specs.IsCore.{IsCore}
use Rattle.ring_core.proofs.ReaderSteps.{stores, closed_fits}
use Rattle.ring_core.specs.Steps.{IsReachedCore}
use Rattle.ring_core.proofs.ring.Core.store_spare_link.Goals as goal

pub overflow_add-fill : goal.overflow_add-fill
unfolding IsReachedCore
overflow_add-fill c =
    let below =
    closed_fits c.args.self.now c.requires.ring c.args.page c.args.fill c.requires.phase in
    omega arith

pub overflow_add-fill-2 : goal.overflow_add-fill-2
unfolding IsReachedCore
overflow_add-fill-2 c =
    let below =
    closed_fits c.args.self.now c.requires.ring c.args.page c.args.fill c.requires.phase in
    omega arith

pub returns : goal.returns
returns c = record {
  step = λ n size start state old.
      let core = subst (λ (v : CoreValue). IsCore n size start v state) (sym c.self.view_is) old in
      stores n size start (core_of c.self.inside) state core c.args.page c.args.fill
      (link_of c.header-self-inside.result) c.args.body
      (ap (λ (v : CoreValue). v.reader.phase) c.self.view_is ∙ c.requires.phase)
      (c.header-self-inside.ensures ∙ ap (λ (p : ℕ). header_link p (c.args.fill + 1)) c.page_at.ensures
      ∙ ap (λ (v : CoreValue). header_link (page_at (length v.links) v.order (c.args.fill + 1)) (c.args.fill + 1))
      (sym c.self.view_is));
  given_back = search rules;
  stack = search rules;
}
