use Rattle.ring_model.proofs.examples.ExamplesRun.{first_record_tried, nested_writer_tried, inner_reserves_first_tried}
use Rattle.ring_model.proofs.examples.ExamplesRun.{halted_head_move_tried, helpers_at_the_head_tried, late_swap_tried}
use Rattle.ring_model.proofs.examples.ExamplesRun.{wish_answered_tried, wish_waits_for_the_outermost_tried}
use Rattle.ring_model.proofs.laws.examples.examples_are_runs.Goals as goal

pub returns : goal.returns
returns c =
    assumption (
      first_record_tried,
      nested_writer_tried,
      inner_reserves_first_tried,
      halted_head_move_tried,
      helpers_at_the_head_tried,
      late_swap_tried,
      wish_answered_tried,
      wish_waits_for_the_outermost_tried,
    )
