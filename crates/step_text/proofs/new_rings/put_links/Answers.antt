use Rattle.std.proofs.Common.{◌∙◌, ◌++◌, [], ◌∷◌, map, get_or, flat_map, sym, ap, append-nil, drop_of_length-le}
use Rattle.link_marks.specs.ModelLinks.{link_of}
use Rattle.step_model.specs.Seen.{link_is}
use Rattle.step_model.specs.Changes.{all_links}
use Rattle.step_model.specs.StepTexts.{change_text}
use Rattle.step_text.proofs.OneAfterOne.{past_end, written_next, next_link}
use Rattle.step_text.proofs.new_rings.put_links.Goals as goal

pub loop-position-preserved : goal.loop-position-preserved
loop-position-preserved c =
    let next = link_is c.loop-position.position (link_of (get_or c.args.links.now c.loop-position.position past_end)) in
    written_next change_text c.loop-position.out.items _ _ _ (next ∷ []) _ c.loop-position.invariant
    (next_link c.args.links.now c.loop-position.position past_end c.loop-position-test.true)
    (c.in_ok-put_link_line.ensures
    ∙ ap (λ line. c.loop-position.out.items ++ line) (sym (append-nil (change_text next))))

pub returns : goal.returns
returns c =
    let none = drop_of_length-le c.args.links.now c.loop-position-test.false in
    sym (append-nil c.loop-position.out.items)
    ∙ ap
    (λ links.
    c.loop-position.out.items ++ flat_map change_text (all_links c.loop-position.position (map link_of links)))
    (sym none)
    ∙ c.loop-position.invariant
