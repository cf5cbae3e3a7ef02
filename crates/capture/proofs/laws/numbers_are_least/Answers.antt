use Rattle.std.proofs.Common.{◌≡◌, ◌+◌, ℕ, Some, subst, arith}
use Rattle.std.specs.List.{slice_get}
use Rattle.trace_model.specs.Partition.{first_of}
use Rattle.capture.specs.Pages.{least_missed, parcels_from}
use Rattle.capture.proofs.Numbers.{least-at}
use Rattle.capture.proofs.Each.{parcel_of, each-at}
use Rattle.capture.proofs.laws.numbers_are_least.Goals as goal

pub returns : goal.returns
returns c = record {
  least = λ cpu pages pieces reported k parcel at.
      let is = least-at cpu 0 0 0 pages pieces reported (omega arith) k parcel at in
      let place : is.0 ≡ parcel.fill = omega (arith, is.3) in
      record {
        p = is.1;
        first = is.2;
        piece_is = subst (λ (j : ℕ). slice_get pieces j ≡ Some is.1) place is.4;
        first_is = subst (λ (j : ℕ). first_of pieces j ≡ Some is.2) place is.5;
        records_are = is.6;
        no_later = is.7;
        no_more = is.8;
      };
  each = λ cpu pages k read at.
      let is = each-at cpu 0 0 pages k read at in
      let place : 0 + k ≡ k = omega arith in (
        is.0,
        is.1,
        subst (λ (fill : ℕ). slice_get (parcels_from cpu 0 0 pages) is.0
            ≡ Some (parcel_of cpu fill is.1 (least_missed read.missed) read.records)) place is.2,
      );
}
