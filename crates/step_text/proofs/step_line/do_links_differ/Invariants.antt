use Rattle.std.proofs.Common.{◌≡◌, map, drop}
use Rattle.link_marks.specs.ModelLinks.{link_of}
use Rattle.step_model.specs.StepTexts.{links_differ}
use Rattle.step_text.proofs.step_line.do_links_differ.Given as goal

abbrev pub invariant-loop-position : goal.invariant-loop-position
invariant-loop-position l =
    links_differ (map link_of l.olds) (map link_of l.news)
    ≡ links_differ (map link_of (drop l.position l.olds)) (map link_of (drop l.position l.news))
