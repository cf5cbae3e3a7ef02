use Rattle.std.proofs.Common.{◌≡◌, ◌∙◌, ◌<◌, ◌==◌, ◌++◌, length, min, eq-eqb, ne_eqb, drop, get_or, flat_map, sym, ap}
use Rattle.std.proofs.Common.{append-nil, arith, length-drop}
use Rattle.step_model.specs.Seen.{page_is}
use Rattle.step_model.specs.Changes.{unless_same}
use Rattle.step_model.specs.StepTexts.{change_text}
use Rattle.step_text.proofs.OneAfterOne.{written_next, written_new, written_same, next_page_change, no_page_changes}
use Rattle.step_text.proofs.changes.put_page_changes.Goals as goal
use Rattle.step_text.proofs.changes.put_page_changes.Goals.{then-olds-position+in_ok-put_page_line, else-olds-position}

pub loop-position-preserved : goal.loop-position-preserved
loop-position-preserved c =
    let i = c.loop-position.position in
    let old = get_or c.args.olds.now i 0 in
    let new = get_or c.args.news.now i 0 in
    let within : i < min (length c.args.olds.now) (length c.args.news.now) = omega arith in
    let written : c.if-olds-position.out.items
    ≡ c.loop-position.out.items ++ flat_map change_text (unless_same (old == new) (page_is i new)) =
    elim c.if-olds-position.branch [
      | then-olds-position+in_ok-put_page_line w ↦
          written_new c.loop-position.out.items c.if-olds-position.out.items (old == new) (page_is i new)
          (ne_eqb old new w.if-olds-position.true)
          (ap (λ o. o.items) w.out-is ∙ w.in_ok-put_page_line.ensures)
      | else-olds-position w ↦
          written_same c.loop-position.out.items c.if-olds-position.out.items (old == new) (page_is i new)
          (eq-eqb old new w.if-olds-position.false)
          (ap (λ o. o.items) w.out-is)
    ] in
    written_next change_text c.loop-position.out.items _ _ _ (unless_same (old == new) (page_is i new)) _
    c.loop-position.invariant
    (next_page_change c.args.olds.now c.args.news.now i 0 within)
    written

pub returns : goal.returns
returns c =
    let i = c.loop-position.position in
    let none =
    no_page_changes i (drop i c.args.olds.now) (drop i c.args.news.now)
    (omega (arith, length-drop i c.args.olds.now, length-drop i c.args.news.now)) in
    sym (append-nil c.loop-position.out.items)
    ∙ ap (λ changes. c.loop-position.out.items ++ flat_map change_text changes) (sym none)
    ∙ c.loop-position.invariant
