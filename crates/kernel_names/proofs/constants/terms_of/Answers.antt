use Rattle.std.proofs.Common.{None, sym, ◌∙◌}
use Rattle.kernel_names.proofs.PartLemmas.{terms_turn, terms_end, terms_go_on}
use Rattle.kernel_names.proofs.constants.terms_of.Goals as goal

pub returns-in_err-term : goal.returns-in_err-term
returns-in_err-term c =
    c.from_residual.ensures
    ∙ sym (terms_turn c.loop-term.bits c.loop-term.left.now c.part_cut.result.0.now
    c.part_cut.result.1 None c.part_cut.ensures.parts c.in_err-term.ensures)
    ∙ c.loop-term.invariant

pub returns-in_default : goal.returns-in_default
returns-in_default c =
    sym (terms_end c.loop-term.bits c.joined-bits.result c.in_ok-term.term c.loop-term.left.now
    c.part_cut.result.0.now c.part_cut.result.1 c.in_default.is c.part_cut.ensures.parts c.in_ok-term.ensures
    c.joined-bits.ensures)
    ∙ c.loop-term.invariant

pub loop-term-preserved : goal.loop-term-preserved
loop-term-preserved c =
    sym (terms_go_on c.loop-term.bits c.joined-bits.result c.in_ok-term.term c.loop-term.left.now
    c.part_cut.result.0.now c.part_cut.result.1 c.in-Some.rest c.in-Some.is c.part_cut.ensures.parts
    c.in_ok-term.ensures c.joined-bits.ensures)
    ∙ c.loop-term.invariant
