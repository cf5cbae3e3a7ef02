use Rattle.ring_model.proofs.wishes.WishSteps.{wishes_held, gone_has_looked, wishes_answered, wished_tails_closed}
use Rattle.ring_model.proofs.wishes.WishedPages.{ends_on_wished}
use Rattle.ring_model.proofs.laws.wishes.wishes_are_answered.Goals as goal

pub returns : goal.returns
returns c =
    record {
      held = wishes_held;
      gone = gone_has_looked;
      answered = wishes_answered;
      closed = wished_tails_closed;
      own = ends_on_wished;
    }
