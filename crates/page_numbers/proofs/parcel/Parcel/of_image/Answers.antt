use Rattle.std.proofs.Common.{refl, sym}
use Rattle.std.proofs.lemmas.Result.{err_from_is_err_and}
use Rattle.page_image.specs.Images.{missed_of, page_in}
use Rattle.page_numbers.specs.Parcels.{parcel_of_page}
use Rattle.page_numbers.specs.Written.{page_under}
use Rattle.page_numbers.proofs.parcel.Parcel.of_image.Goals as goal

pub returns-in_err-check_numbers-clause-refused : goal.returns-in_err-check_numbers-clause-refused
returns-in_err-check_numbers-clause-refused c =
    let p = err_from_is_err_and c.from_residual.result c.from_residual.ensures.1 in
    let outline = c.args.outline in
    let page = page_under (page_in c.args.image.now outline.time outline.size) c.args.numbers in
    rw (p.1, p.2)
    (c.in_err-check_numbers.ensures.refused (parcel_of_page c.args.cpu.0 page c.args.numbers.missed)
    (missed_of outline.missed) c.requires.cpu refl (sym c.requires.outline.counted) refl).1
