-- The texts are joined one after the other.
use Rattle.step_text.proofs.Joined.{join_four}
use Rattle.step_text.proofs.fates.put_fates.Goals as goal

pub returns : goal.returns
returns c n size start before after event reported old asked answers core now =
    join_four _ _ _ _ _ _ _ _ _ (c.in_ok-put_begun.ensures n size start before after old core now)
    (c.in_ok-put_passed.ensures size before after reported old now answers)
    (c.in_ok-put_reserved.ensures before after old now)
    (c.in_ok-put_ended.ensures before event old asked)
