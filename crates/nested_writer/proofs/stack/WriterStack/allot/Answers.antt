use Rattle.std.proofs.Common.{rules, Ok}
use Rattle.nested_writer.specs.declared.stack.allot.Allot.TheVariants.{Fits}
use Rattle.nested_writer.specs.Stack.{Stack}
use Rattle.nested_writer.specs.Allotted.{IsAllotted}
use Rattle.nested_writer.proofs.Allotting.{plain_after}
use Rattle.nested_writer.proofs.Answering.{plain_answer}
use Rattle.nested_writer.proofs.Promises.{allots_place}
use Rattle.nested_writer.proofs.stack.WriterStack.allot.Goals as goal

pub returns : goal.returns
returns c =
    let s : Stack = c.args.self.now in
    let place = c.hold_plain.result.place in
    let after : IsAllotted s s.frames (Ok (Fits place)) c.hold_plain.new.self =
    plain_after s c.hold_plain.new.self c.in-Some.pushed place c.in-Some.ensures c.hold_plain.ensures.reserved
    c.hold_plain.ensures.stack in
    allots_place s c.hold_plain.new.self place (search rules) (search rules) (search rules) after
    (λ start history k. plain_answer start history s k c.in-Some.pushed place c.in-Some.ensures)
    (search rules) (search rules) (search rules) c.requires.stack
