use Rattle.std.proofs.Common.{ℕ, ◌+◌, ◌-◌, List, length, sym, ap, ◌∙◌, subst}
use Rattle.trace_model.specs.Words.{padded}
use Rattle.trace_model.proofs.words.Lengths.{length-padded}
use Rattle.page_image.specs.Contents.{Contents, is_blank}
use Rattle.page_image.specs.Putting.{CanPut, HasPut, PutsBehind}
use Rattle.page_image.proofs.PagePut.{page_of, page_has_put}
use Rattle.page_image.proofs.page.Page.put_payload_as.Goals as goal

pub returns : goal.returns
returns c =
    let v = c.self.inside in
    let new = c.put_payload-place.new.self in
    let end : ℕ = v.end + c.size_of.result in
    let slot : List ℕ = padded c.args.payload.now in
    let at = c.put_payload-place.result in
    let put = c.put_payload-place.ensures in
    let stays = c.time_with-self-inside.ensures.stays in
    subst
    (λ (p : Contents).
    HasPut p (page_of new c.time_with-self-inside.result end v.first.0 (v.count + 1) v.fill.0) c.args.prev
    c.args.moment (length c.args.payload.now) slot at) c.self.view_is
    (page_has_put v.body new v.time c.time_with-self-inside.result v.end end v.first.0 v.count v.fill.0 c.args.prev
    c.args.moment (length c.args.payload.now) c.args.is_first slot at
    c.self.invariant.0 c.self.invariant.1
    (subst (λ (p : Contents). CanPut p c.args.prev c.args.moment (length c.args.payload.now)) (sym c.self.view_is)
    c.requires.can)
    (c.requires.first ∙ ap (λ (p : Contents). is_blank p.bytes) (sym c.self.view_is))
    (subst
    (λ (b : List ℕ).
    PutsBehind b new v.end (c.args.moment - c.args.prev) c.args.is_first (length c.args.payload.now) slot at) stays
    put.put)
    (put.size ∙ ap length stays)
    (length-padded c.args.payload.now)
    (ap (λ (n : ℕ). v.end + n) c.size_of.ensures ∙ sym put.put.ends_at)
    c.time_with-self-inside.ensures.time)
