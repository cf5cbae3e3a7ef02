use Rattle.std.proofs.Common.{◌≡◌, ◌⊎◌, ℕ, Option, refl, sym, ap, ◌∙◌, inl, inr}
use Rattle.nested_writer.specs.declared.frame.Purpose.{Purpose}
use Rattle.nested_writer.specs.declared.frame.Purpose.TheVariants.{Record, Close}
use Rattle.nested_writer.specs.declared.frame.Slot.{Slot}
use Rattle.nested_writer.specs.declared.frame.Progress.{Progress}
use Rattle.nested_writer.specs.declared.frame.Progress.TheVariants.{Waiting, Through, Reserved, Left}
use Rattle.nested_writer.specs.Calls.{top_of}
use Rattle.ring_frames.specs.Value.{FramesValue}
use Rattle.ring_frames.specs.Phases.{closing_phase, as_answer}
use Rattle.ring_frames.proofs.Again.{top_from, closes_again, leaver_again, tries_again}
use Rattle.ring_frames.proofs.frames.Frames.again.Goals as goal

record_not_close : (moment len : ℕ) (purpose : Purpose) → purpose ≡ Record moment len → purpose ≡ Close → ⊥
record_not_close moment len purpose a b = let e = sym a ∙ b in cc

waiting_not_left : (noted other : Option ℕ) (progress : Progress) → progress ≡ Waiting noted → progress ≡ Left other → ⊥
waiting_not_left noted other progress a b = let e = sym a ∙ b in cc

-- it has a record, or is through
abbrev IsBehind : Progress → Type 0
IsBehind progress = ((noted : ℕ) × (progress ≡ Through noted)) ⊎ ((slot : Slot) × (progress ≡ Reserved slot))

behind_not_waiting : (progress : Progress) (other : Option ℕ) → IsBehind progress → progress ≡ Waiting other → ⊥
behind_not_waiting progress other (inl (noted, a)) b = let e = sym a ∙ b in cc
behind_not_waiting progress other (inr (slot, a)) b = let e = sym a ∙ b in cc

behind_not_left : (progress : Progress) (other : Option ℕ) → IsBehind progress → progress ≡ Left other → ⊥
behind_not_left progress other (inl (noted, a)) b = let e = sym a ∙ b in cc
behind_not_left progress other (inr (slot, a)) b = let e = sym a ∙ b in cc

pub returns-in-Record-clause-again : goal.returns-in-Record-clause-again
returns-in-Record-clause-again c =
    let v : FramesValue = c.args.self.now in
    let (below, is) =
    top_from v.stack.frames c.in-Some.top
    (c.in-Some.ensures ∙ ap (λ (x : FramesValue). top_of x.stack.frames) c.self.view_is) in
    rw (c.go_on.ensures.answer, c.go_on.ensures.phase)
    (tries_again v c.in-Some.top below is
    (λ noted close waits.
    record_not_close c.in-Record.moment c.in-Record.len c.in-Some.top.purpose c.in-Record.is close)
    (λ noted has. waiting_not_left _ noted c.in-Some.top.progress c.in-Waiting.is has))

pub returns-in-Close-clause-again : goal.returns-in-Close-clause-again
returns-in-Close-clause-again c =
    let v : FramesValue = c.args.self.now in
    let (below, is) =
    top_from v.stack.frames c.in-Some.top
    (c.in-Some.ensures ∙ ap (λ (x : FramesValue). top_of x.stack.frames) c.self.view_is) in
    closes_again v c.in-Some.top below _ (as_answer c.leave_closed.result) c.leave_closed.new.self is c.in-Close.is
    c.in-Waiting.is c.leave_closed.ensures.without

pub returns-in-Left-clause-again : goal.returns-in-Left-clause-again
returns-in-Left-clause-again c =
    let v : FramesValue = c.args.self.now in
    let (below, is) =
    top_from v.stack.frames c.in-Some.top
    (c.in-Some.ensures ∙ ap (λ (x : FramesValue). top_of x.stack.frames) c.self.view_is) in
    rw c.start_closing.ensures
    (leaver_again v c.in-Some.top below _ (closing_phase v.stack) is c.in-Left.is refl)

pub returns-in-Through-clause-again : goal.returns-in-Through-clause-again
returns-in-Through-clause-again c =
    let v : FramesValue = c.args.self.now in
    let (below, is) =
    top_from v.stack.frames c.in-Some.top
    (c.in-Some.ensures ∙ ap (λ (x : FramesValue). top_of x.stack.frames) c.self.view_is) in
    rw (c.go_on-in-Through.ensures.answer, c.go_on-in-Through.ensures.phase)
    (tries_again v c.in-Some.top below is
    (λ noted close waits. behind_not_waiting c.in-Some.top.progress noted c.in-Through.is waits)
    (λ noted has. behind_not_left c.in-Some.top.progress noted c.in-Through.is has))
