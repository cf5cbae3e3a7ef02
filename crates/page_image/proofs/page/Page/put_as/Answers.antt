use Rattle.std.proofs.Common.{ℕ, ◌+◌, ◌-◌, List, length, replicate, refl, sym, ap, ◌∙◌, subst}
use Rattle.std.proofs.lemmas.List.{length-replicate}
use Rattle.trace_model.specs.Words.{slot_len}
use Rattle.page_image.specs.Contents.{Contents, is_blank}
use Rattle.page_image.specs.Putting.{CanPut, HasPut, PutsBehind}
use Rattle.page_image.proofs.PagePut.{page_of, page_has_put}
use Rattle.page_image.proofs.page.Page.put_as.Goals as goal

pub returns : goal.returns
returns c =
    let v = c.self.inside in
    let new = c.time_with-self-inside.new.self in
    let slot : List ℕ = replicate (slot_len c.args.len) 0 in
    let at = c.put_as-place.result in
    let put = c.put_as-place.ensures in
    let stays = c.time_with-self-inside.ensures.stays in
    subst
    (λ (p : Contents).
    HasPut p (page_of new c.time_with-self-inside.result (at.start + at.len) v.first.0 (v.count + 1) v.fill.0)
    c.args.prev c.args.moment c.args.len slot at) c.self.view_is
    (page_has_put v.body new v.time c.time_with-self-inside.result v.end (at.start + at.len) v.first.0 v.count v.fill.0
    c.args.prev c.args.moment c.args.len c.is_first-is_first.result slot at
    c.self.invariant.0 c.self.invariant.1
    (subst (λ (p : Contents). CanPut p c.args.prev c.args.moment c.args.len) (sym c.self.view_is) c.requires.can)
    (c.is_first-is_first.ensures ∙ ap (λ (p : Contents). is_blank p.bytes) (sym c.self.view_is))
    (subst
    (λ (b : List ℕ).
    PutsBehind v.body b v.end (c.args.moment - c.args.prev) c.is_first-is_first.result c.args.len slot at)
    (sym stays) put.put)
    (ap length stays ∙ put.size)
    (length-replicate (slot_len c.args.len) 0)
    refl
    c.time_with-self-inside.ensures.time)
