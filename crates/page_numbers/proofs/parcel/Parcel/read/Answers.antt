use Rattle.std.proofs.Common.{ℕ, List, drop, sym, subst}
use Rattle.std.proofs.lemmas.List.{take_rest}
use Rattle.std.proofs.lemmas.Result.{err_from_is_err_and}
use Rattle.trace_model.specs.ParcelBytes.{DecodesParcel}
use Rattle.page_image.specs.Images.{missed_of, IsImageFault}
use Rattle.page_numbers.specs.Parcels.{ParcelValue, as_parcel}
use Rattle.page_numbers.proofs.Readings.{image_refused, refused-fault, HasImage-outlined, IsPageRead-outlined}
use Rattle.page_numbers.specs.Written.{IsPageRead}
use Rattle.page_numbers.proofs.Writing.{each_reported, fault_reported}
use Rattle.page_numbers.proofs.parcel.Parcel.read.Goals as goal

pub returns-in_err-outline-clause-fault : goal.returns-in_err-outline-clause-fault
returns-in_err-outline-clause-fault c =
    let p = err_from_is_err_and c.from_residual-in_err-outline.result c.from_residual-in_err-outline.ensures.1 in
    let bytes = c.args.bytes.now in
    let n = c.in_ok-numbers.numbers in
    let reported = c.in_err-outline.ensures in
    let fault = c.in_err-outline.field-0.0 in
    rw (p.1, p.2)
    (image_refused bytes n.cpu n.fill n.first n.missed (drop 32 bytes) fault c.in_ok-numbers.ensures.numbers
    c.in_ok-cpu.ensures.known (subst (λ (b : List ℕ). IsImageFault b fault) (take_rest bytes 32) reported.fault)
    reported.no_memory)

pub returns-clause-fault : goal.returns-clause-fault
returns-clause-fault c =
    let bytes = c.args.bytes.now in
    let n = c.in_ok-numbers.numbers in
    let outline = c.in_ok-outline.outline in
    let image =
    HasImage-outlined bytes n.cpu c.in_ok-cpu.cpu.0 n _ outline (take_rest bytes 32) c.in_ok-numbers.ensures.numbers
    c.in_ok-cpu.ensures.cpu c.in_ok-cpu.ensures.known c.in_ok-outline.ensures.reads in
    fault_reported c.of_image.result _ _ c.of_image.ensures.refused
    (λ fault refused. refused-fault bytes _ (missed_of outline.missed) fault image refused)

pub returns-clause-reads : goal.returns-clause-reads
returns-clause-reads c =
    let bytes = c.args.bytes.now in
    let n = c.in_ok-numbers.numbers in
    let outline = c.in_ok-outline.outline in
    let reported = c.of_image.ensures in
    let image =
    HasImage-outlined bytes n.cpu c.in_ok-cpu.cpu.0 n _ outline (take_rest bytes 32) c.in_ok-numbers.ensures.numbers
    c.in_ok-cpu.ensures.cpu c.in_ok-cpu.ensures.known c.in_ok-outline.ensures.reads in
    each_reported c.of_image.result _ _ _ _ reported.parcel reported.sound reported.agrees (λ parcel same sound agrees.
    subst (λ (p : ParcelValue). DecodesParcel bytes (as_parcel p)) (sym same)
    (record { reported = missed_of outline.missed; image = image; sound = sound; agrees = agrees }))

pub returns-clause-page : goal.returns-clause-page
returns-clause-page c =
    let bytes = c.args.bytes.now in
    let outline = c.in_ok-outline.outline in
    let reported = c.of_image.ensures in
    each_reported c.of_image.result _ _ _ _ reported.parcel reported.sound reported.agrees (λ parcel same sound agrees.
    subst (λ (p : ParcelValue). IsPageRead bytes p.page) (sym same)
    (IsPageRead-outlined bytes c.in_ok-numbers.numbers _ outline
    (take_rest bytes 32) c.in_ok-outline.ensures.reads))
