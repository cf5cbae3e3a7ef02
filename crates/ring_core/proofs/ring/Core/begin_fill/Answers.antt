use Rattle.std.proofs.Common.{◌≡◌, ◌≢◌, ◌<◌, [], length, get_or, Option, sym, ap, subst, ◌∙◌, arith}
use Rattle.std.specs.Prelude.{slice_set}
use Rattle.std.proofs.lemmas.Option.{none-some}
use Rattle.trace_model.specs.Steps.{steps}
use Rattle.trace_model.proofs.collections.Elements.{some_is}
use Rattle.page_image.specs.Contents.{Contents}
use Rattle.nested_writer.specs.Stack.{opened}
use Rattle.ring_frames.specs.declared.phase.Phase.TheVariants.{Opening}
use Rattle.ring_frames.specs.Phases.{as_answer}
use Rattle.ring_core.specs.Value.{CoreValue, with_frames}
use Rattle.ring_core.specs.Inside.{core_of}
use Rattle.ring_core.specs.IsCore.{IsCore}
use Rattle.ring_core.specs.Steps.{IsStep, IsReachedCore}
use Rattle.ring_core.proofs.Beginning.{home_there, home_holds, begun}
use Rattle.ring_core.proofs.ring.Core.begin_fill.Goals as goal

pub index_mut-requires : goal.index_mut-requires
index_mut-requires c =
    let low =
    subst (λ (x : CoreValue). c.args.page < length x.homes) (sym c.self.view_is)
    (home_there c.args.self.now c.args.page c.requires.ring c.requires.top c.requires.phase) in
    omega (arith, low, c.self.inside.homes.ok.0)

pub open_fill-requires-clause-frames : goal.open_fill-requires-clause-frames
unfolding IsReachedCore
open_fill-requires-clause-frames c =
    let (n, size, start, m, core) = subst IsReachedCore (sym c.self.view_is) c.requires.ring in
    (n, size, start, m, record { reached = core.reached; are = core.shows.frames })

pub open_fill-requires-clause-phase : goal.open_fill-requires-clause-phase
open_fill-requires-clause-phase c = (
  c.args.page,
  subst (λ (x : CoreValue). x.phase ≡ Opening (opened x.stack) c.args.page) (sym c.self.view_is) c.requires.phase,
)

pub open_fill-requires-clause-size : goal.open_fill-requires-clause-size
open_fill-requires-clause-size c =
    let (body, out, wide) =
    home_holds c.args.self.now c.args.page c.requires.ring c.requires.top c.requires.phase c.index_mut.result.now
    (c.index_mut.ensures.value
    ∙ ap (λ (x : CoreValue). get_or x.homes c.args.page c.index_mut.result.now) c.self.view_is) in
    let same : c.in-Some.blank ≡ body = some_is c.in-Some.blank body (sym c.in-Some.is ∙ c.take.ensures.value ∙ out) in
    c.into_body.ensures ∙ ap (λ (p : Contents). p.size) same ∙ wide
    ∙ ap (λ (x : CoreValue). x.stack.size) (sym c.self.view_is)

pub returns-clause-makes : goal.returns-clause-makes
returns-clause-makes c = λ n size start m old.
    let v : CoreValue = core_of c.self.inside in
    let core : IsCore n size start v m = subst (λ (x : CoreValue). IsCore n size start x m) (sym c.self.view_is) old in
    let some = subst (λ (x : CoreValue). x.stack.frames ≢ []) (sym c.self.view_is) c.requires.top in
    let is =
    subst (λ (x : CoreValue). x.phase ≡ Opening (opened x.stack) c.args.page) (sym c.self.view_is)
    c.requires.phase in
    subst
    (λ (x : Option Contents).
    IsStep n size start m steps (as_answer c.open_fill.result)
    (record (with_frames v c.open_fill.new.self) { homes = slice_set v.homes c.args.page x }))
    (sym c.take.ensures.after)
    (begun n size start v m core some c.args.page is (as_answer c.open_fill.result) c.open_fill.new.self
    c.open_fill.ensures.opens)

pub unreachable-requires : goal.unreachable-requires
unreachable-requires c =
    let (body, out, wide) =
    home_holds c.args.self.now c.args.page c.requires.ring c.requires.top c.requires.phase c.index_mut.result.now
    (c.index_mut.ensures.value
    ∙ ap (λ (x : CoreValue). get_or x.homes c.args.page c.index_mut.result.now) c.self.view_is) in
    none-some body (sym c.in-None.is ∙ c.take.ensures.value ∙ out)
