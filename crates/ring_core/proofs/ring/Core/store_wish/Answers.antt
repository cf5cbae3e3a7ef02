use Rattle.std.proofs.Common.{sym, subst, arith}
use Rattle.ring_core.specs.Inside.{core_of}
use Rattle.ring_core.specs.Value.{CoreValue}
use Rattle.ring_core.specs.IsCore.{IsCore}
use Rattle.ring_core.proofs.Stepped.{kept_of}
use Rattle.ring_core.proofs.ReaderSteps.{wished}
use Rattle.ring_core.specs.Steps.{IsReachedCore}
use Rattle.ring_core.proofs.ring.Core.store_wish.Goals as goal

pub overflow_add-self : goal.overflow_add-self
unfolding IsReachedCore
overflow_add-self c =
    let (n, size, start, state, old) = c.requires.ring in
    let core : IsCore n size start (core_of c.self.inside) state =
    subst (λ (v : CoreValue). IsCore n size start v state) (sym c.self.view_is) old in
    let links = (kept_of n size start (core_of c.self.inside) state core).links in
    let seen = links.seen_le in
    let seen_is = core.shows.seen_is in
    let behind = links.done_lt in
    let fits = links.fits in
    omega arith

pub returns-clause-step : goal.returns-clause-step
returns-clause-step c =
    λ n size start state old.
    wished n size start (core_of c.self.inside) state
    (subst (λ (v : CoreValue). IsCore n size start v state) (sym c.self.view_is) old)
