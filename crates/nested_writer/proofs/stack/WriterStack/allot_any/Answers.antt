use Rattle.std.proofs.Common.{rules, ◌≡◌, ◌∷◌, Ok, refl, ap}
use Rattle.nested_writer.specs.declared.stack.allot.Allot.TheVariants.{Fits}
use Rattle.nested_writer.specs.declared.frame.Frame.{Frame}
use Rattle.nested_writer.specs.declared.frame.Purpose.TheVariants.{Record}
use Rattle.nested_writer.specs.declared.frame.Progress.TheVariants.{Waiting}
use Rattle.nested_writer.specs.Stack.{Stack, tail_fill}
use Rattle.nested_writer.specs.TopFrame.{TopFrame, frame_in}
use Rattle.nested_writer.specs.Allotted.{IsAllotted}
use Rattle.nested_writer.proofs.Answering.{fits_answer}
use Rattle.nested_writer.proofs.Tops.{on_top}
use Rattle.nested_writer.proofs.Promises.{allots_place, allots_page}
use Rattle.nested_writer.proofs.stack.WriterStack.allot_any.Goals as goal

pub returns-then-self-end : goal.returns-then-self-end
returns-then-self-end c =
    allots_page c.args.self.now c.note_need.new.self c.note_need.result (search rules) (assumption c.note_need.ensures)
    c.requires.stack

pub returns : goal.returns
returns c =
    let s : Stack = c.args.self.now in
    let place = c.reserve_any.result in
    let top : Frame =
    record { purpose = Record c.in-Some.pushed.moment c.in-Some.pushed.len; progress = Waiting c.in-Some.noted } in
    let frames : s.frames ≡ top ∷ c.self.inside.below.items =
    on_top c.self.inside s (tail_fill s) top c.self.view_is refl
    (ap (λ (t : TopFrame). frame_in t (tail_fill s)) c.in-Some.ensures) in
    let after : IsAllotted s s.frames (Ok (Fits place)) c.reserve_any.new.self = search rules in
    allots_place s c.reserve_any.new.self place (search rules) (search rules) (search rules) after
    (λ start history k.
    fits_answer start history s k top c.self.inside.below.items frames c.in-Some.noted place refl (search rules))
    (search rules) (search rules) (search rules) c.requires.stack
