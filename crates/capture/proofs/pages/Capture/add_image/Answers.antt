use Rattle.std.proofs.Common.{◌≡◌, ◌++◌, ◌∷◌, [], ◌+◌, Err, length, refl, sym, ap, subst, ◌∙◌, arith}
use Rattle.std.proofs.lemmas.List.{map-append}
use Rattle.std.proofs.lemmas.Grind.{common_steps}
use Rattle.trace_model.specs.Parcel.{Parcel}
use Rattle.page_numbers.specs.Parcels.{as_parcel, as_parcels}
use Rattle.capture.specs.Pages.{intact, behind, parcel_at}
use Rattle.capture.specs.Captures.{page_read, IsCapture}
use Rattle.capture.specs.declared.pages.Capture.{Capture}
use Rattle.capture.specs.declared.pages.CaptureFault.TheVariants.{Numbers}
use Rattle.capture.proofs.CapturedFiles.{on_ok_both, capture-intact, past-numbers}
use Rattle.capture.proofs.pages.Capture.add_image.Goals as goal

pub returns-in_err-parcel-clause-numbers : goal.returns-in_err-parcel-clause-numbers
returns-in_err-parcel-clause-numbers c = λ pages was numbers.
    let reported : c.number_page.result ≡ Err Numbers = grind (arith, common_steps) in
    past-numbers c.args.self.now pages (intact (page_read c.args.image)) was (c.number_page.ensures.numbers reported)

pub returns-clause-read : goal.returns-clause-read
returns-clause-read c = λ pages was.
    let old : Capture = c.args.self.now in
    let read = page_read c.args.image in
    let parcel = c.in_ok-parcel.parcel in
    let is : as_parcel parcel ≡ parcel_at old.cpu.0 old.pages old.next.0 read = c.in_ok-parcel.ensures.parcel in
    let first = ap (λ (p : Parcel). p.first) is in
    let long = ap (λ (p : Parcel). length p.records) is in
    let next : c.first.result.0 + c.count.result ≡ behind old.next.0 (intact read) =
    omega (arith, c.first.ensures.first, c.count.ensures, first, long) in
    let pushed : as_parcels c.push.new.self.items
    ≡ as_parcels old.parcels.items ++ parcel_at old.cpu.0 old.pages old.next.0 read ∷ [] =
    ap as_parcels c.in_ok-push.ensures.items ∙ map-append as_parcel old.parcels.items (parcel ∷ [])
    ∙ ap (λ (p : Parcel). as_parcels old.parcels.items ++ p ∷ []) is in
    on_ok_both c.count_page.result
    (λ counted few. subst (λ (new : Capture). IsCapture new (pages ++ intact read ∷ [])) (sym counted)
    (capture-intact old _ pages read was refl pushed c.in_ok-add_unknown.ensures.added refl next refl
    c.in_ok-parcel.ensures.fits few))
    c.count_page.ensures.counted c.count_page.ensures.fits
