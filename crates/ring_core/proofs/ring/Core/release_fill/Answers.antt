use Rattle.std.proofs.Common.{length, sym, ap, subst, ◌∙◌, arith}
use Rattle.trace_model.specs.Ring.{page_at}
use Rattle.ring_core.specs.Value.{CoreValue}
use Rattle.ring_core.specs.Inside.{core_of}
use Rattle.ring_core.specs.IsCore.{IsCore}
use Rattle.ring_core.specs.Steps.{IsReachedCore}
use Rattle.ring_core.proofs.Homes.{page_has_home, homes_in}
use Rattle.ring_core.proofs.Releasing.{released}
use Rattle.ring_core.proofs.ring.Core.release_fill.Goals as goal

pub release_fill-requires-clause-frames : goal.release_fill-requires-clause-frames
unfolding IsReachedCore
release_fill-requires-clause-frames c =
    let (n, size, start, m, core) = subst IsReachedCore (sym c.self.view_is) c.requires.ring in
    (n, size, start, m, record { reached = core.reached; are = core.shows.frames })

pub index_mut-requires : goal.index_mut-requires
unfolding IsReachedCore
index_mut-requires c =
    let v : CoreValue = core_of c.self.inside in
    let (n, size, start, m, core) = subst IsReachedCore (sym c.self.view_is) c.requires.ring in
    let at =
    c.page_at-page.ensures
    ∙ ap (λ (x : CoreValue). page_at (length x.links) x.order c.done.result) (sym c.self.view_is) in
    let low =
    page_has_home n size start v m c.page_at-page.result c.done.result core
    (homes_in c.self.inside c.self.invariant) at in
    omega (arith, low, c.self.inside.homes.ok.0)

pub returns-clause-makes : goal.returns-clause-makes
returns-clause-makes c = λ n size start m old.
    let v : CoreValue = core_of c.self.inside in
    let core : IsCore n size start v m = subst (λ (x : CoreValue). IsCore n size start x m) (sym c.self.view_is) old in
    released n size start v m core c.release_fill.new.self c.release_fill.result c.page_at-page.result
    record {
      homes = homes_in c.self.inside c.self.invariant;
      at_is =
          c.page_at-page.ensures
          ∙ (λ i. page_at (length (sym c.self.view_is i).links) (sym c.self.view_is i).order (c.done.ensures i));
    }
    (c.release_fill.ensures.releases n size start m core.reached core.shows.frames)
