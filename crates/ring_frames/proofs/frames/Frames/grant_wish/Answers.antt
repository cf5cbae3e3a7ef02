use Rattle.std.proofs.Common.{◌≡◌, ◌≢◌, ℕ, [], refl, sym, ap, ◌∙◌, subst, arith}
use Rattle.nested_writer.specs.Stack.{Stack, opened}
use Rattle.ring_frames.specs.declared.phase.Phase.TheVariants.{Looking}
use Rattle.ring_frames.specs.declared.answer.Answer.TheVariants.{Going}
use Rattle.ring_frames.specs.Value.{FramesValue}
use Rattle.ring_frames.specs.Inside.{frames_in}
use Rattle.ring_frames.specs.AreFrames.{AreFrames, HasFrames}
use Rattle.ring_frames.specs.Steps.{IsFrames}
use Rattle.ring_frames.specs.Fills.{IsLookForWish, GrantsNone}
use Rattle.ring_frames.proofs.Wishing.{is_bottom, no_record, not_for_tail, granted, not_true, nil_if_not_some}
use Rattle.ring_frames.proofs.frames.Frames.grant_wish.Goals as goal

pub ask_close-requires : goal.ask_close-requires
ask_close-requires c =
    let v : FramesValue = frames_in c.self.inside in
    let (n, size, start, m, core) = subst IsFrames (sym c.self.view_is) c.requires.frames in
    let some = subst (λ (x : FramesValue). x.stack.frames ≢ []) (sym c.self.view_is) c.requires.top in
    record {
      bottom =
          is_bottom n size start v m core some (ap (λ (x : FramesValue). x.phase) c.self.view_is ∙ c.requires.phase);
    }

pub returns-then-not-may_grant-clause-refused : goal.returns-then-not-may_grant-clause-refused
returns-then-not-may_grant-clause-refused c =
    λ e. (
      not_for_tail c.args.self.now c.args.wish
          (λ both. not_true c.may_grant.result c.if-not-may_grant.true (c.may_grant.ensures.1 both)),
      refl,
    )

pub returns-then-not-ask_close-clause-refused : goal.returns-then-not-ask_close-clause-refused
returns-then-not-ask_close-clause-refused c = λ e.
    let v : FramesValue = frames_in c.self.inside in
    let no = not_true c.ask_close.result c.if-not-ask_close.true in
    let blank = nil_if_not_some v.stack.tail.bytes (λ some. no (c.ask_close.ensures.asked.1 some)) in (
      subst (λ (x : FramesValue). GrantsNone x c.args.wish) c.self.view_is
          (no_record v c.args.wish
          (λ start history k some. no ((c.ask_close.ensures.holds_record start history k).1 some))),
      ap (λ (s : Stack). let x : FramesValue = record v { stack = s } in x) (c.ask_close.ensures.no blank)
          ∙ c.self.view_is,
    )

pub returns-clause-granted : goal.returns-clause-granted
returns-clause-granted c = λ _ n size start m reached now asks.
    let v : FramesValue = frames_in c.self.inside in
    let core : HasFrames n size start v m =
    record {
      reached = reached;
      are = subst (λ (x : FramesValue). AreFrames n size start x m) (sym c.self.view_is) now;
    } in
    let some = subst (λ (x : FramesValue). x.stack.frames ≢ []) (sym c.self.view_is) c.requires.top in
    let is = ap (λ (x : FramesValue). x.phase) c.self.view_is ∙ c.requires.phase in
    let yes = c.if-not-ask_close.false in
    let grant = c.may_grant.ensures.0 c.if-not-may_grant.false in
    let next : c.args.wish ≡ opened v.stack = grant.0 ∙ ap (λ (x : FramesValue). opened x.stack) (sym c.self.view_is) in
    let wide = ap (λ (x : FramesValue). x.stack.pages) c.self.view_is in
    let more = grant.1 in
    rw c.set.ensures
    (subst
    (λ (o : ℕ). IsLookForWish n size start m Going (record v { stack = c.ask_close.new.self; phase = Looking o }))
    (sym next)
    (granted n size start v m core some is c.ask_close.new.self (asks ∙ next) (omega arith)
    ((c.ask_close.ensures.holds_record start m.history core.are.stack_is).0 yes) (c.ask_close.ensures.yes yes)
    (c.ask_close.ensures.wished yes)))
