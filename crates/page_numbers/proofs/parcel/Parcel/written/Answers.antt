use Rattle.std.proofs.Common.{◌+◌, ◌≤◌, length, sym, ap, ◌∙◌, subst}
use Rattle.trace_model.specs.Image.{image_of}
use Rattle.page_image.specs.Contents.{Contents}
use Rattle.page_numbers.specs.Parcels.{ParcelValue}
use Rattle.page_numbers.proofs.Writing.{contents_fit}
use Rattle.page_numbers.proofs.parcel.Parcel.written.Goals as goal

pub returns-clause-fits : goal.returns-clause-fits
returns-clause-fits c =
    let page = c.self.inside.page.value in
    let missed = c.self.inside.missed in
    subst (λ (p : ParcelValue). length p.page.bytes ≤ p.page.size) c.self.view_is
    (contents_fit page.time page.bytes missed page.size
    (sym (ap length
    (c.in_ok-image.ensures.image ∙ ap (λ (p : Contents). image_of p.time p.bytes missed p.size) c.deref.ensures))
    ∙ c.in_ok-image.ensures.size ∙ ap (λ (p : Contents). 16 + p.size) c.deref.ensures))
