use Rattle.std.proofs.Common.{◌∙◌}
use Rattle.nested_writer.specs.TopFrame.{in_tail}
use Rattle.nested_writer.proofs.Tops.{reported_by, same_record}
use Rattle.nested_writer.proofs.stack.top.Top.hold.Goals as goal

pub returns : goal.returns
returns c = λ moment len waits.
    let (same_moment, same_len) =
    same_record _ _ moment len
    (reported_by c.self.inside.tag c.self.inside.pushed c.self.inside.noted c.self.inside.slot c.self.inside.other
    moment len (λ other. c.self.invariant.apart other moment len) (c.self.view_is ∙ waits)) in
    λ i. in_tail (same_moment i) (same_len i) c.args.slot.number c.args.slot.place
