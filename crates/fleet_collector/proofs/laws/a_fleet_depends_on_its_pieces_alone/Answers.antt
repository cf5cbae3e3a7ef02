use Rattle.fleet_collector.proofs.Telling.{fleet_same, moved_same, swapped_same, repeated_same, told_by_none, turned}
use Rattle.std.proofs.Common.{◌++◌}
use Rattle.fleet_collector.proofs.laws.a_fleet_depends_on_its_pieces_alone.Goals as goal

pub returns-clause-none : goal.returns-clause-none
returns-clause-none c = record { streams = told_by_none }

pub returns-clause-same : goal.returns-clause-same
returns-clause-same c = fleet_same

pub returns-clause-moved : goal.returns-clause-moved
returns-clause-moved c pieces others fleet moved was = fleet_same pieces others fleet
    (moved_same pieces others moved) was

pub returns-clause-swapped : goal.returns-clause-swapped
returns-clause-swapped c pieces others fleet was =
    fleet_same (pieces ++ others) (others ++ pieces) fleet (swapped_same pieces others) was

pub returns-clause-repeated : goal.returns-clause-repeated
returns-clause-repeated c pieces fleet = (
  λ was. fleet_same (pieces ++ pieces) pieces fleet (repeated_same pieces) was,
  λ was. fleet_same pieces (pieces ++ pieces) fleet (turned (pieces ++ pieces) pieces (repeated_same pieces)) was,
)
