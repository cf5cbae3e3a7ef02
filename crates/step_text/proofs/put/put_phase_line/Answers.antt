-- The parts of the line are joined one after the other.
use Rattle.step_text.proofs.Joined.{join_phase}
use Rattle.step_text.proofs.put.put_phase_line.Goals as goal

pub returns : goal.returns
returns c =
    let noted = rw c.noted_fill.ensures at c.in_ok-put_spaced_or_none.ensures in
    let page = rw c.page_of.ensures at c.in_ok-put_spaced_or_none-2.ensures in
    let next = rw c.next_of.ensures at c.in_ok-put_spaced_or_none-3.ensures in
    join_phase _ _ _ _ _ _ _ _ _ _ _ _ _ _ _ _ _ _ _ _ _
    c.in_ok-extend_from_slice.ensures.items
    c.in_ok-put_spaced.ensures
    c.in_ok-push.ensures.items
    c.in_ok-put_phase_name.ensures
    noted
    page
    next
    c.in_ok-put_role_of.ensures
    c.in_ok-put_state.ensures
    c.in_ok-push-2.ensures.items
