-- The counts that are new are joined one after the other.
use Rattle.std.proofs.Common.{refl}
use Rattle.step_model.specs.Seen.{spare_key, done_key, opened_key, wish_key, head_key, committed_key}
use Rattle.step_model.specs.StepTexts.{change_text}
use Rattle.step_text.proofs.Joined.{join_changes}
use Rattle.step_text.proofs.changes.put_count_changes.Goals as goal

pub returns : goal.returns
returns c =
    let spare = rw (c.from.ensures, c.from-2.ensures) at (c.in_ok-put_count_change.ensures spare_key refl) in
    join_changes change_text _ _ _ _ _ _ _ _ _ _ _ _ _
    spare
    (c.in_ok-put_count_change-2.ensures done_key refl)
    (c.in_ok-put_count_change-3.ensures opened_key refl)
    (c.in_ok-put_count_change-4.ensures wish_key refl)
    (c.in_ok-put_count_change-5.ensures head_key refl)
    (c.in_ok-put_count_change-6.ensures committed_key refl)
