use Rattle.ring_model.proofs.examples.WrongStepsRefused.{loses_while_a_position_is_free, takes_the_tail}
use Rattle.ring_model.proofs.examples.WrongStepsRefused.{helper_clears_the_update, two_heads, swap_ignores_the_fill}
use Rattle.ring_model.proofs.examples.WrongStepsRefused.{inner_end_publishes}
use Rattle.ring_model.proofs.laws.examples.wrong_steps_are_refused.Goals as goal

pub returns : goal.returns
returns c =
    assumption (
      loses_while_a_position_is_free,
      takes_the_tail,
      helper_clears_the_update,
      two_heads,
      swap_ignores_the_fill,
      inner_end_publishes,
    )
