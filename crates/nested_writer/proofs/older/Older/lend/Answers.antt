use Rattle.std.proofs.Common.{◌≡◌, ℕ, ◌<◌, length, List, Some, refl, sym, ap, ◌∙◌, subst}
use Rattle.std.specs.List.{slice_get}
use Rattle.std.proofs.lemmas.List.{length-map, map-set}
use Rattle.std.proofs.lemmas.Option.{slice_get-map, slice_get_read}
use Rattle.std.specs.Prelude.{option_map}
use Rattle.page_image.specs.Contents.{Contents}
use Rattle.nested_writer.specs.Lent.{Lent, OlderPages, page_of}
use Rattle.nested_writer.proofs.older.Older.lend.Goals as goal

pub returns : goal.returns
returns c =
    let items : List Lent = c.self.inside.pages.items in
    let inside : c.args.index < length items =
    subst (λ (k : ℕ). c.args.index < k)
    (ap (λ (o : OlderPages). length o.pages) (sym c.self.view_is) ∙ length-map items page_of)
    c.requires.inside in
    let at : slice_get items c.args.index ≡ Some c.index_mut-payload.result.now =
    slice_get_read items (length items) c.args.index c.index_mut-payload.result.now refl inside
    c.index_mut-payload.ensures.value in
    rw (← c.self.view_is) (
      (
        refl,
        λ w.
            ap
            (λ (pages : List Contents). let o : OlderPages =
            record { pages = pages; room = c.self.inside.pages.cap } in
            o) (map-set page_of items c.args.index w),
      ),
      record {
        lends = tt;
        page =
            slice_get-map page_of items c.args.index ∙ ap (option_map page_of) at
            ∙ ap (λ (p : Lent). Some p.page) (sym c.lend.ensures);
        place = ap (λ (p : Lent). p.place) c.lend.ensures;
      },
    )
