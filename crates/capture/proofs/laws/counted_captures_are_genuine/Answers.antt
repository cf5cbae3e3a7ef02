use Rattle.std.proofs.Common.{◌≡◌, ◌+◌, ℕ, Some, subst, arith}
use Rattle.std.specs.List.{slice_get}
use Rattle.capture.specs.Pages.{parcels_from}
use Rattle.capture.proofs.Numbers.{exact-at}
use Rattle.capture.proofs.Each.{parcel_of, all-at, as-many}
use Rattle.capture.proofs.laws.counted_captures_are_genuine.Goals as goal

pub returns : goal.returns
returns c = record {
  genuine = λ cpu pages pieces reported counts k parcel at.
      let is = exact-at cpu 0 0 pages pieces reported counts k parcel at in
      record { index = k; piece_is = is.0; first_is = is.1 };
  all = λ cpu pages pieces reported counts k p at.
      let is = all-at cpu 0 0 pages pieces reported counts k p at in
      let place : 0 + k ≡ k = omega arith in (
        is.0,
        is.1,
        subst
            (λ (fill : ℕ).
            slice_get (parcels_from cpu 0 0 pages) k ≡ Some (parcel_of cpu fill is.0 p.skipped p.records)) place
            is.2,
      );
  as_many = λ cpu pages pieces reported counts. as-many cpu 0 0 pages pieces reported counts;
}
