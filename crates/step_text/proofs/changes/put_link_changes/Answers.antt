use Rattle.std.proofs.Common.{◌≡◌, ◌∙◌, ◌<◌, ◌++◌, length, min, drop, get_or, flat_map, sym, ap, append-nil, arith}
use Rattle.std.proofs.Common.{length-drop}
use Rattle.trace_model.specs.Links.{same_link}
use Rattle.link_marks.specs.ModelLinks.{link_of}
use Rattle.step_model.specs.Seen.{link_is}
use Rattle.step_model.specs.Changes.{unless_same}
use Rattle.step_model.specs.StepTexts.{change_text}
use Rattle.step_text.proofs.OneAfterOne.{past_end, written_next, written_new, written_same, next_link_change}
use Rattle.step_text.proofs.OneAfterOne.{no_link_changes}
use Rattle.step_text.proofs.changes.put_link_changes.Goals as goal
use Rattle.step_text.proofs.changes.put_link_changes.Goals.{then-not-is_same_link+in_ok-put_link_line}
use Rattle.step_text.proofs.changes.put_link_changes.Goals.{else-not-is_same_link}

pub loop-position-preserved : goal.loop-position-preserved
loop-position-preserved c =
    let i = c.loop-position.position in
    let old = link_of (get_or c.args.olds.now i past_end) in
    let new = link_of (get_or c.args.news.now i past_end) in
    let within : i < min (length c.args.olds.now) (length c.args.news.now) = omega arith in
    let written : c.if-not-is_same_link.out.items
    ≡ c.loop-position.out.items ++ flat_map change_text (unless_same (same_link old new) (link_is i new)) =
    elim c.if-not-is_same_link.branch [
      | then-not-is_same_link+in_ok-put_link_line w ↦
          written_new c.loop-position.out.items c.if-not-is_same_link.out.items (same_link old new) (link_is i new)
          (sym c.is_same_link.ensures ∙ w.if-not-is_same_link.true)
          (ap (λ o. o.items) w.out-is ∙ w.in_ok-put_link_line.ensures)
      | else-not-is_same_link w ↦
          written_same c.loop-position.out.items c.if-not-is_same_link.out.items (same_link old new) (link_is i new)
          (sym c.is_same_link.ensures ∙ w.if-not-is_same_link.false)
          (ap (λ o. o.items) w.out-is)
    ] in
    written_next change_text c.loop-position.out.items _ _ _ (unless_same (same_link old new) (link_is i new)) _
    c.loop-position.invariant
    (next_link_change c.args.olds.now c.args.news.now i past_end within)
    written

pub returns : goal.returns
returns c =
    let i = c.loop-position.position in
    let none =
    no_link_changes i (drop i c.args.olds.now) (drop i c.args.news.now)
    (omega (arith, length-drop i c.args.olds.now, length-drop i c.args.news.now)) in
    sym (append-nil c.loop-position.out.items)
    ∙ ap (λ changes. c.loop-position.out.items ++ flat_map change_text changes) (sym none)
    ∙ c.loop-position.invariant
