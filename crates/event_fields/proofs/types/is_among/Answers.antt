use Rattle.std.proofs.Common.{sym, ◌∙◌}
use Rattle.event_fields.proofs.TypeWords.{this_here, other_name_here, no_name_here}
use Rattle.event_fields.proofs.types.is_among.Goals as goal

pub returns-then-is_named : goal.returns-then-is_named
returns-then-is_named c =
    sym (this_here c.loop-rest.left.now c.args.text.now c.part_cut.result.0.now c.part_cut.result.1
    c.part_cut.ensures.parts (sym c.is_named.ensures ∙ c.if-is_named.true))
    ∙ c.loop-rest.invariant

pub returns-in_default : goal.returns-in_default
returns-in_default c =
    sym (no_name_here c.loop-rest.left.now c.args.text.now c.part_cut.result.0.now c.part_cut.result.1
    c.in_default.is c.part_cut.ensures.parts (sym c.is_named.ensures ∙ c.if-is_named.false))
    ∙ c.loop-rest.invariant

pub loop-rest-preserved : goal.loop-rest-preserved
loop-rest-preserved c =
    sym (other_name_here c.loop-rest.left.now c.args.text.now c.part_cut.result.0.now c.part_cut.result.1
    c.in-Some.rest c.in-Some.is c.part_cut.ensures.parts (sym c.is_named.ensures ∙ c.if-is_named.false))
    ∙ c.loop-rest.invariant
