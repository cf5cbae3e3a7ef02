use Rattle.std.proofs.Common.{refl, sym, arith, rules}
use Rattle.std.proofs.lemmas.Result.{err_from_is_err_and}
use Rattle.trace_model.specs.Image.{none}
use Rattle.page_numbers.specs.Parcels.{parcel_of_page}
use Rattle.page_numbers.proofs.parcel.Parcel.checked.Goals as goal

pub returns-in_err-check_numbers-clause-refused : goal.returns-in_err-check_numbers-clause-refused
returns-in_err-check_numbers-clause-refused c =
    let p = err_from_is_err_and c.from_residual.result c.from_residual.ensures.1 in
    rw (p.1, p.2)
    (c.in_err-check_numbers.ensures.refused (parcel_of_page c.args.cpu.0 c.args.page c.args.missed) none
    (omega arith) (sym c.first.ensures) (search rules) refl).0
