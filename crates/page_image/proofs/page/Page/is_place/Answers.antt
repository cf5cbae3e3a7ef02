use Rattle.std.proofs.Common.{List, ℕ, subst, sym}
use Rattle.trace_model.specs.Words.{Decodes}
use Rattle.trace_model.specs.Reading.{IsPlaceIn}
use Rattle.page_image.specs.Contents.{records_of_page}
use Rattle.page_image.proofs.page.Page.is_place.Goals as goal

pub returns-clause-exact : goal.returns-clause-exact
returns-clause-exact c page =
    let same = c.data.ensures in
    let reads =
    subst (λ (b : List ℕ). Decodes b c.args.self.now.time (records_of_page c.args.self.now)) (sym same)
    page.reads in (
      λ is.
          subst (λ (b : List ℕ). IsPlaceIn b c.args.place.start c.args.place.len) same
          (c.is_payload.ensures.only is c.args.self.now.time (records_of_page c.args.self.now) reads),
      λ place.
          c.is_payload.ensures.every
          (subst (λ (b : List ℕ). IsPlaceIn b c.args.place.start c.args.place.len) (sym same) place),
    )
