use Rattle.std.proofs.Common.{rules, ◌++◌, ◌∷◌, [], ap, ◌∙◌}
use Rattle.library_values.proofs.LinePlaces.{pushed}
use Rattle.library_values.proofs.own_lines.OwnLines.push.Goals as goal

pub returns : goal.returns
returns g c =
    let inside = c.self.inside in
    pushed inside.bytes.items c.extend_from_slice.new.self.items inside.places.items c.push.new.self.items c.args.head
    c.args.bytes.now c.len-start.result _ c.self.invariant (search rules) (search rules)
    c.in_ok-extend_from_slice.ensures.items c.in_ok-push.ensures.items
    ∙ ap (λ l. l ++ (c.args.head, c.args.bytes.now) ∷ []) c.self.view_is
