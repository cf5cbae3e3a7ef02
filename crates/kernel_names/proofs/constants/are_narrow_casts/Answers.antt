use Rattle.std.proofs.Common.{None, sym, ◌∙◌}
use Rattle.kernel_names.proofs.PartLemmas.{casts_turn}
use Rattle.kernel_names.proofs.constants.are_narrow_casts.Goals as goal

pub returns-in_err-is_narrow_here : goal.returns-in_err-is_narrow_here
returns-in_err-is_narrow_here c =
    c.from_residual.ensures
    ∙ sym (casts_turn c.loop-is_narrow_here.is_narrow c.loop-is_narrow_here.left.now c.part_cut.result.0.now
    c.part_cut.result.1 None c.part_cut.ensures.parts c.in_err-is_narrow_here.ensures)
    ∙ c.loop-is_narrow_here.invariant
