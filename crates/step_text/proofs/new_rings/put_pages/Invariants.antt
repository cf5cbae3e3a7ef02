-- What is written, and the pages from here on, are all of them.
use Rattle.std.proofs.Common.{◌≡◌, ◌++◌, drop, flat_map}
use Rattle.step_model.specs.Changes.{all_pages}
use Rattle.step_model.specs.StepTexts.{change_text}
use Rattle.step_text.proofs.new_rings.put_pages.Given as goal

abbrev pub invariant-loop-position : goal.invariant-loop-position
invariant-loop-position l =
    l.out.items ++ flat_map change_text (all_pages l.position (drop l.position l.order))
    ≡ l.initial.out.items ++ flat_map change_text (all_pages 0 l.order)
