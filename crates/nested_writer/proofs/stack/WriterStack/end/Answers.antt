use Rattle.std.proofs.Common.{rules, ℕ, List, refl, sym, ap, ◌∙◌, subst}
use Rattle.std.specs.Prelude.{◌==◌}
use Rattle.nested_writer.specs.declared.frame.Frame.{Frame}
use Rattle.nested_writer.specs.declared.frame.Slot.{Slot}
use Rattle.nested_writer.specs.declared.frame.Purpose.TheVariants.{Record}
use Rattle.nested_writer.specs.declared.frame.Progress.TheVariants.{Reserved}
use Rattle.nested_writer.specs.declared.stack.leave.Ended.TheVariants.{Pending, Full}
use Rattle.nested_writer.specs.Stack.{Stack, tail_fill}
use Rattle.nested_writer.specs.TopFrame.{TopFrame, frame_in}
use Rattle.nested_writer.specs.IsStack.{IsStack}
use Rattle.nested_writer.proofs.Keeping.{some_below, none_left}
use Rattle.nested_writer.proofs.Ending.{ended}
use Rattle.nested_writer.proofs.Tops.{on_top}
use Rattle.nested_writer.proofs.Promises.{ends_top}
use Rattle.nested_writer.proofs.stack.WriterStack.end.Goals as goal

pub returns-then-is_empty : goal.returns-then-is_empty
returns-then-is_empty c =
    let s : Stack = c.args.self.now in
    let (moment, len, number, place, some) = c.holds_record.ensures (search rules) in
    let slot : Slot = record { number = number; fill = tail_fill s; place = place } in
    let top : Frame = record { purpose = Record moment len; progress = Reserved slot } in
    let below : List Frame = c.self.inside.below.items in
    let frames =
    on_top c.self.inside s (tail_fill s) top c.self.view_is refl
    (ap (λ (t : TopFrame). frame_in t (tail_fill s)) some) in
    let is = c.leave.ensures.after top below frames in
    ends_top s c.leave.new.self top below Full frames tt
    (λ page there start h k.
    subst (IsStack start _) (sym is) (ended start h s top below slot page frames refl there k)) is
    c.requires.stack
    (λ pending. absurd (let no = pending in cc))
    (λ full.
    none_left below c.is_empty.result (c.is_empty.ensures ∙ ap (λ (n : ℕ). n == 0) c.self.inside.below.ok.0)
    c.if-is_empty.true)

pub returns : goal.returns
returns c =
    let s : Stack = c.args.self.now in
    let (moment, len, number, place, some) = c.holds_record.ensures (search rules) in
    let slot : Slot = record { number = number; fill = tail_fill s; place = place } in
    let top : Frame = record { purpose = Record moment len; progress = Reserved slot } in
    let below : List Frame = c.self.inside.below.items in
    let frames =
    on_top c.self.inside s (tail_fill s) top c.self.view_is refl
    (ap (λ (t : TopFrame). frame_in t (tail_fill s)) some) in
    let is = c.leave-2.ensures.after top below frames in
    ends_top s c.leave-2.new.self top below Pending frames tt
    (λ page there start h k.
    subst (IsStack start _) (sym is) (ended start h s top below slot page frames refl there k)) is
    c.requires.stack
    (λ pending.
    some_below below c.is_empty.result (c.is_empty.ensures ∙ ap (λ (n : ℕ). n == 0) c.self.inside.below.ok.0)
    c.if-is_empty.false)
    (λ full. absurd (let no = full in cc))
