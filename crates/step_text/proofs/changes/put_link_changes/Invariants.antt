-- What is written, and what the links from here on will write, is what all of them write.
use Rattle.std.proofs.Common.{◌≡◌, ◌++◌, map, drop, flat_map}
use Rattle.link_marks.specs.ModelLinks.{link_of}
use Rattle.step_model.specs.Changes.{link_changes}
use Rattle.step_model.specs.StepTexts.{change_text}
use Rattle.step_text.proofs.changes.put_link_changes.Given as goal

abbrev pub invariant-loop-position : goal.invariant-loop-position
invariant-loop-position l =
    l.out.items
    ++ flat_map change_text
    (link_changes l.position (map link_of (drop l.position l.olds)) (map link_of (drop l.position l.news)))
    ≡ l.initial.out.items ++ flat_map change_text (link_changes 0 (map link_of l.olds) (map link_of l.news))
