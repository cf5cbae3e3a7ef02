-- What a handle has once the loan of what it holds is over.
use Rattle.std.specs.Prelude.{Some}
use mathlib.Core.Logic.{inl, inr}
use Rattle.std.specs.Borrow.{Lends, MutBor, Fml}
use denote.RattleType.{RattleType}
use Rattle.tracering_c.specs.declared.ends.HeldWriter.{HeldWriter}
use Rattle.tracering_c.specs.declared.ends.HeldReader.{HeldReader}
use Rattle.tracering_c.specs.declared.ends.HeldCollector.{HeldCollector}
use Rattle.tracering_c.specs.declared.ends.HeldFleet.{HeldFleet}
use Rattle.tracering_c.specs.declared.held.Held.{Held}
use Rattle.tracering_c.specs.contracts.ends.HeldWriter.{the_row as writer_row}
use Rattle.tracering_c.specs.contracts.ends.HeldReader.{the_row as reader_row}
use Rattle.tracering_c.specs.contracts.ends.HeldCollector.{the_row as collector_row}
use Rattle.tracering_c.specs.contracts.ends.HeldFleet.{the_row as fleet_row}
use Rattle.tracering_c.specs.contracts.held.Held.{the_row as held_row}
use Rattle.tracering_c.specs.Held.{End}

-- It holds the last value written through the loan.
abbrev pub LendsEnd : (R : RattleType) → (R.Denot → End) → MutBor Held → MutBor R.Denot → Fml
LendsEnd R named s r = Lends held_row R s r (λ x. record s.now { value = Some (named x) })

abbrev pub LendsWriter : MutBor Held → MutBor HeldWriter → Fml
LendsWriter = LendsEnd writer_row (λ x. inl x)

abbrev pub LendsReader : MutBor Held → MutBor HeldReader → Fml
LendsReader = LendsEnd reader_row (λ x. inr (inl x))

abbrev pub LendsCollector : MutBor Held → MutBor HeldCollector → Fml
LendsCollector = LendsEnd collector_row (λ x. inr (inr (inl x)))

abbrev pub LendsFleet : MutBor Held → MutBor HeldFleet → Fml
LendsFleet = LendsEnd fleet_row (λ x. inr (inr (inr x)))
