use Rattle.std.proofs.Common.{◌∙◌, ◌++◌, [], ◌∷◌, get_or, flat_map, sym, ap, append-nil, drop_of_length-le}
use Rattle.step_model.specs.Seen.{page_is}
use Rattle.step_model.specs.Changes.{all_pages}
use Rattle.step_model.specs.StepTexts.{change_text}
use Rattle.step_text.proofs.OneAfterOne.{written_next, next_page}
use Rattle.step_text.proofs.new_rings.put_pages.Goals as goal

pub loop-position-preserved : goal.loop-position-preserved
loop-position-preserved c =
    let next = page_is c.loop-position.position (get_or c.args.order.now c.loop-position.position 0) in
    written_next change_text c.loop-position.out.items _ _ _ (next ∷ []) _ c.loop-position.invariant
    (next_page c.args.order.now c.loop-position.position 0 c.loop-position-test.true)
    (c.in_ok-put_page_line.ensures
    ∙ ap (λ line. c.loop-position.out.items ++ line) (sym (append-nil (change_text next))))

pub returns : goal.returns
returns c =
    let none = drop_of_length-le c.args.order.now c.loop-position-test.false in
    sym (append-nil c.loop-position.out.items)
    ∙ ap (λ pages. c.loop-position.out.items ++ flat_map change_text (all_pages c.loop-position.position pages))
    (sym none)
    ∙ c.loop-position.invariant
