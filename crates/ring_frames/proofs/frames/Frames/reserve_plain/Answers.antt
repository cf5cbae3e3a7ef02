use Rattle.std.proofs.Common.{ℕ, sym, subst}
use Rattle.std.specs.Prelude.{Ok}
use Rattle.trace_model.specs.Steps.{steps}
use Rattle.nested_writer.specs.declared.stack.allot.Allot.TheVariants.{Fits}
use Rattle.ring_frames.specs.declared.answer.Answer.TheVariants.{Reserved}
use Rattle.ring_frames.specs.Value.{FramesValue}
use Rattle.ring_frames.specs.Inside.{frames_in}
use Rattle.ring_frames.specs.AreFrames.{AreFrames, HasFrames}
use Rattle.ring_frames.specs.Answers.{KeepsPayloads}
use Rattle.ring_frames.specs.Steps.{IsFrames, IsPrivateStep}
use Rattle.nested_writer.specs.PlainTop.{IsPlainTop}
use Rattle.nested_writer.specs.Calls.{LacksSlot}
use Rattle.ring_frames.proofs.Plain.{plain_rests}
use Rattle.ring_frames.proofs.Payloads.{fits_anywhere, allotted_kept, zeros_reserved}
use Rattle.ring_frames.proofs.Reserves.{fits_slot}
use Rattle.ring_frames.proofs.frames.Frames.reserve_plain.Goals as goal

pub returns-clause-step : goal.returns-clause-step
returns-clause-step c = λ n size start s reached now.
    let v : FramesValue = frames_in c.self.inside in
    let core : HasFrames n size start v s =
    record {
      reached = reached;
      are = subst (λ (x : FramesValue). AreFrames n size start x s) (sym c.self.view_is) now;
    } in
    let plain = subst (λ (x : FramesValue). IsPlainTop x.stack c.args.pushed) (sym c.self.view_is) c.requires.plain in
    let (slot, on_top, number) = c.reserve_plain.ensures.slot in
    let (place, allotted) = c.reserve_plain.ensures.after in
    let (other, answered) = c.reserve_plain.ensures.answered start s.history core.are.stack_is in
    subst
    (λ (m : ℕ).
    IsPrivateStep n size start s steps (Reserved record { 0 = m })
    (record v { stack = c.reserve_plain.new.self })) number
    (fits_slot n size start v s core (plain_rests n size start v s c.args.pushed core plain) _ plain.below plain.on_top
    place other c.reserve_plain.new.self slot answered allotted on_top)

pub returns-clause-payloads : goal.returns-clause-payloads
returns-clause-payloads c =
    let v : FramesValue = frames_in c.self.inside in
    let (n, size, start, s, core) = subst IsFrames (sym c.self.view_is) c.requires.frames in
    let (place, allotted) = c.reserve_plain.ensures.after in
    let (other, answered) = c.reserve_plain.ensures.answered start s.history core.are.stack_is in
    subst (λ (x : FramesValue). KeepsPayloads x.stack c.reserve_plain.new.self) c.self.view_is
    (allotted_kept start s.history v.stack c.reserve_plain.new.self (Ok (Fits place)) core.are.stack_is
    (fits_anywhere v.stack s.history v.stack.frames other place answered) allotted)

pub returns-clause-zeros : goal.returns-clause-zeros
returns-clause-zeros c = λ number slot is lacks on_top.
    let v : FramesValue = frames_in c.self.inside in
    let (n, size, start, s, core) = subst IsFrames (sym c.self.view_is) c.requires.frames in
    zeros_reserved start s.history v.stack c.reserve_plain.new.self _ core.are.stack_is c.reserve_plain.ensures.after.1
    (subst (λ (x : FramesValue). LacksSlot x.stack.frames) (sym c.self.view_is) lacks) slot on_top
