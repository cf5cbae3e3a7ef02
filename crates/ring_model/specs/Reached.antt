-- The states that the steps of a ring reach.
use Rattle.std.specs.Prelude.{ℕ, ◌+◌, ◌≤◌, List}
use Rattle.trace_model.specs.declared.limits.TheConstants.{MIN_PAGES, LINK_FILLS}
use Rattle.trace_model.specs.Ring.{Core, IsStart}
use Rattle.trace_model.specs.Steps.{Exchange, Run}

-- The ring has pages enough, and a round of fills after the first one has numbers.
pub record MayStart (n start : ℕ) : Type 0 where
  pub some_pages : MIN_PAGES ≤ n
  pub numbers_left : start + 1 + n ≤ LINK_FILLS

-- Steps, any number of them, lead to this state from a new ring of n positions and pages of this size, whose
-- first fill has the number start.
pub record IsReached (n size start : ℕ) (c : Core) : Type 0 where
  pub from : Core
  pub exchanges : List Exchange
  pub may_start : MayStart n start
  pub is_new : IsStart n start from
  pub run : Run n size from exchanges c
