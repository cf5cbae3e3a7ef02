-- What is written, and what the pages from here on will write, is what all of them write.
use Rattle.std.proofs.Common.{◌≡◌, ◌++◌, drop, flat_map}
use Rattle.step_model.specs.Changes.{page_changes}
use Rattle.step_model.specs.StepTexts.{change_text}
use Rattle.step_text.proofs.changes.put_page_changes.Given as goal

abbrev pub invariant-loop-position : goal.invariant-loop-position
invariant-loop-position l =
    l.out.items ++ flat_map change_text (page_changes l.position (drop l.position l.olds) (drop l.position l.news))
    ≡ l.initial.out.items ++ flat_map change_text (page_changes 0 l.olds l.news)
