use Rattle.std.proofs.Common.{List, ◌<◌, ◌⊎◌, sym, ap, ◌∙◌, subst}
use Rattle.std.specs.Prelude.{None}
use Rattle.trace_model.specs.Record.{Record}
use Rattle.trace_model.specs.Parcel.{Parcel}
use Rattle.trace_model.specs.Collection.{Has, Misses}
use Rattle.ring_region.specs.declared.faults.Damaged.{Damaged}
use Rattle.ring_region.specs.Order.{kept_behind, recovered}
use Rattle.ring_region.specs.Regions.{last_end}
use Rattle.ring_region.proofs.Held.{plain}
use Rattle.ring_region.proofs.Gaps.{all_known}
use Rattle.ring_region.proofs.laws.no_number_is_passed_over.Goals as goal

pub returns : goal.returns
returns c = λ bytes held number is undamaged above under.
    let h = is.slots in
    let cpu = held.header.cpu.0 in
    let taken = held.header.taken.0 in
    let parcels_are =
    h.parcels_are ∙ ap (λ (ds : List Damaged). recovered taken ds (kept_behind None h.found)) undamaged in
    subst (λ (ps : List Parcel). ((r : Record) × Has ps cpu number r) ⊎ Misses ps cpu number) (sym parcels_are)
    (all_known cpu taken (kept_behind None h.found) (plain bytes held h) number above
    (subst (λ (ps : List Parcel). number < last_end ps) parcels_are under))
