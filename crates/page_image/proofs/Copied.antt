-- The page of an image that was outlined, its body copied.
use Rattle.std.proofs.Common.{◌≡◌, ℕ, ◌-◌, ◌*◌, ◌^◌, ◌<◌, ◌≤◌, List, length, take, drop, refl, sym, ap, ◌∙◌, subst}
use Rattle.std.proofs.Common.{arith, length-drop}
use Rattle.std.proofs.lemmas.List.{take_rest}
use Rattle.trace_model.specs.Image.{DecodesImage}
use Rattle.trace_model.specs.declared.limits.TheConstants.{MAX_SIZE}
use Rattle.page_image.specs.declared.image.Outline.{Outline}
use Rattle.page_image.specs.Contents.{Contents, IsPage, records_of_page}
use Rattle.page_image.specs.Images.{missed_of, page_in, behind_header, IsOutlined}

-- the page that is made of an outline and a body
abbrev pub page_with : Outline → List ℕ → Contents
page_with outline body = record {
  time = outline.time;
  first = 0;
  count = outline.count;
  fill = 0;
  size = length body;
  bytes = take outline.size body;
}

module _ (bytes body : List ℕ) (outline : Outline) (is : IsOutlined bytes outline)
    (copied : body ≡ take (length bytes - 16) (drop 16 bytes)) where
  behind : body ≡ behind_header bytes
  behind = copied ∙ take_rest bytes 16

  long : length body ≡ length bytes - 16
  long = ap (λ (b : List ℕ). length b) behind ∙ length-drop 16 bytes

  pub body_limit : length body ≤ MAX_SIZE
  body_limit = let limit = is.limit in omega (arith, long)

  pub body_end : outline.size ≤ length body
  body_end = let there = is.there in omega (arith, long)

  pub is_page_in : page_with outline body ≡ page_in bytes outline.time outline.size
  is_page_in =
      let counted = is.counted in
      let cut : take outline.size body ≡ take outline.size (behind_header bytes) =
      ap (λ (b : List ℕ). take outline.size b) behind in
      cc (counted, cut, long)

  pub reads_page : (page : Contents) → page ≡ page_with outline body → outline.time < 2 ^ 64 → IsPage page
  reads_page page made in_time =
      subst IsPage (sym (made ∙ is_page_in)) (record { reads = is.data_reads; counted = refl; in_time = in_time })

module _ (bytes : List ℕ) (outline : Outline) (is : IsOutlined bytes outline) (page : Contents)
    (page_is : page ≡ page_in bytes outline.time outline.size) where
  pub reads_image : DecodesImage bytes outline.time outline.size (missed_of outline.missed) (records_of_page page)
  reads_image =
      subst
      (λ (p : Contents).
      DecodesImage bytes outline.time outline.size (missed_of outline.missed) (records_of_page p)) (sym page_is)
      is.reads

  pub few_records : 4 * page.count ≤ length bytes
  few_records = let count = ap (λ (p : Contents). p.count) page_is ∙ sym is.counted in
      let few = is.few in
      let there = is.there in
      omega arith
