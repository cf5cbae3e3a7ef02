-- What is written, and the links from here on, are all of them.
use Rattle.std.proofs.Common.{◌≡◌, ◌++◌, map, drop, flat_map}
use Rattle.link_marks.specs.ModelLinks.{link_of}
use Rattle.step_model.specs.Changes.{all_links}
use Rattle.step_model.specs.StepTexts.{change_text}
use Rattle.step_text.proofs.new_rings.put_links.Given as goal

abbrev pub invariant-loop-position : goal.invariant-loop-position
invariant-loop-position l =
    l.out.items ++ flat_map change_text (all_links l.position (map link_of (drop l.position l.links)))
    ≡ l.initial.out.items ++ flat_map change_text (all_links 0 (map link_of l.links))
