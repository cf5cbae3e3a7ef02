use Rattle.std.proofs.Common.{◌≡◌, ◌++◌}
use Rattle.std.specs.Prelude.{map}
use Rattle.std.specs.Vec.Iter.{into_iter_items}
use Rattle.page_numbers.specs.Parcels.{as_parcels}
use Rattle.ring_region.specs.Answers.{unmissed}
use Rattle.ring_region.proofs.Keeping.{with_missed}
use Rattle.ring_region.proofs.regions.number_pages.Given as goal

abbrev pub invariant-loop-page : goal.invariant-loop-page
invariant-loop-page l =
    as_parcels l.parcels.items
    ++ with_missed l.sound l.end (map (unmissed l.header.cpu.0) (into_iter_items l.page-iterator))
    ≡ with_missed l.fn.sound l.fn.header.taken.0 (map (unmissed l.fn.header.cpu.0) l.fn.pages.items)
