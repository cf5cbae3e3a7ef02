use Rattle.std.proofs.Common.{◌≡◌, ◌+◌, ◌<◌, [], sym, subst}
use Rattle.trace_model.specs.declared.limits.TheConstants.{LINK_FILLS}
use Rattle.nested_writer.specs.Stack.{Stack, opened}
use Rattle.ring_frames.specs.declared.phase.Phase.TheVariants.{Looking, Wishing}
use Rattle.ring_frames.specs.declared.answer.Answer.TheVariants.{Going, Gone}
use Rattle.ring_frames.specs.Value.{FramesValue}
use Rattle.ring_frames.specs.Inside.{frames_in}
use Rattle.ring_frames.specs.Phases.{closing_phase}
use Rattle.ring_frames.specs.Fills.{LooksForWish}
use Rattle.ring_frames.specs.AtOnce.{with_left_frame}
use Rattle.ring_frames.proofs.Payloads.{none_held}
use Rattle.ring_frames.proofs.Wishing.{not_for_tail, not_true}
use Rattle.ring_frames.proofs.Staying.{gone_refused, gone_blank, granted_again}
use Rattle.ring_frames.proofs.frames.Frames.stay.Goals as goal

pub returns-then-not-may_grant-clause-looks : goal.returns-then-not-may_grant-clause-looks
returns-then-not-may_grant-clause-looks c =
    gone_refused c.args.self.now c.args.wish c.args.moment c.args.len c.requires.none c.requires.closed
    (not_for_tail (with_left_frame c.args.self.now c.args.moment c.args.len) c.args.wish
    (λ both. not_true c.may_grant.result c.if-not-may_grant.true (c.may_grant.ensures.1 both)))

pub returns-then-not-may_grant-clause-payloads : goal.returns-then-not-may_grant-clause-payloads
returns-then-not-may_grant-clause-payloads c = none_held c.args.self.now.stack c.args.self.now.stack c.requires.none

pub returns-then-ask_close_for-clause-looks : goal.returns-then-ask_close_for-clause-looks
returns-then-ask_close_for-clause-looks c =
    let v : FramesValue = frames_in c.self.inside in
    let none = subst (λ (x : FramesValue). x.stack.frames ≡ []) (sym c.self.view_is) c.requires.none in
    let closed = subst (λ (x : FramesValue). closing_phase x.stack ≡ Wishing) (sym c.self.view_is) c.requires.closed in
    let grant =
    subst (λ (x : FramesValue). (c.args.wish ≡ opened x.stack) × (c.args.wish + x.stack.pages < LINK_FILLS))
    (sym c.self.view_is) (c.may_grant.ensures.0 c.if-not-may_grant.false) in
    let asks = c.ask_close_for.ensures in let yes = c.if-ask_close_for.true in
    let looks =
    granted_again v c.args.wish c.args.moment c.args.len none closed c.ask_close_for.new.self grant.0 grant.1
    (λ start h k. (asks.holds_record start h k).0 yes) (asks.yes yes) (asks.wished yes) in
    rw (c.go_on.ensures.answer, c.go_on.ensures.phase)
    (subst
    (λ (x : FramesValue).
    LooksForWish (with_left_frame x c.args.moment c.args.len) c.args.wish Going
    (record v { stack = c.ask_close_for.new.self; phase = Looking c.args.wish })) c.self.view_is looks)

pub returns-then-ask_close_for-clause-payloads : goal.returns-then-ask_close_for-clause-payloads
returns-then-ask_close_for-clause-payloads c = none_held c.args.self.now.stack c.go_on.new.self.stack c.requires.none

pub returns-clause-looks : goal.returns-clause-looks
returns-clause-looks c =
    let v : FramesValue = frames_in c.self.inside in
    let none = subst (λ (x : FramesValue). x.stack.frames ≡ []) (sym c.self.view_is) c.requires.none in
    let closed = subst (λ (x : FramesValue). closing_phase x.stack ≡ Wishing) (sym c.self.view_is) c.requires.closed in
    let no = c.if-ask_close_for.false in
    let looks =
    gone_blank v c.args.wish c.args.moment c.args.len none closed
    (λ start h k some.
    not_true c.ask_close_for.result no ((c.ask_close_for.ensures.holds_record start h k).1 some)) in
    subst
    (λ (s : Stack).
    LooksForWish (with_left_frame c.args.self.now c.args.moment c.args.len) c.args.wish Gone
    (record v { stack = s })) (sym (c.ask_close_for.ensures.no no))
    (subst (λ (x : FramesValue). LooksForWish (with_left_frame x c.args.moment c.args.len) c.args.wish Gone v)
    c.self.view_is looks)

pub returns-clause-payloads : goal.returns-clause-payloads
returns-clause-payloads c = none_held c.args.self.now.stack c.ask_close_for.new.self c.requires.none
