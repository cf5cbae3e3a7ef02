-- The record of an outermost frame that has no fill to close is on the page that the reader wishes for.
use Rattle.std.proofs.Common.{◌≡◌, ℕ, ◌+◌, ◌-◌, ◌<◌, ◌≤◌, List, [], length, get_or, sym, ap, ◌∙◌, subst, arith}
use Rattle.std.specs.List.{slice_get}
use Rattle.trace_model.specs.History.{Reservation, reserved_records}
use Rattle.trace_model.specs.Packing.{opens_of, cut_from, tail_of, first_of_fill}
use Rattle.trace_model.specs.Frames.{Frame}
use Rattle.trace_model.specs.Ring.{PageRecords, page_at}
use Rattle.trace_model.specs.Steps.{contents_of}
use Rattle.trace_model.proofs.packing.PackedHistories.{tail_is}
use Rattle.ring_model.specs.KeptContents.{cut_fill}
use Rattle.ring_model.specs.WishLaws.{EndsOnTheWishedPage}
use Rattle.ring_model.proofs.contents.Payloads.{reserved_lies_open}

-- a page that holds a number holds it as this fill
holds_as : (h g : PageRecords) (number : ℕ) → h ≡ g → (h.first ≤ number) × (number < h.first + length h.records)
    → (g.first ≤ number) × (number < g.first + length g.records)
holds_as h g number same holds =
    subst (λ (x : PageRecords). (x.first ≤ number) × (number < x.first + length x.records)) same holds

pub ends_on_wished : EndsOnTheWishedPage
ends_on_wished n size start c payload after frame number r top state last step =
    let lies =
    reserved_lies_open n size start c 0 number frame r (ap (λ (fs : List Frame). slice_get fs 0) top) state in
    let low = lies.done_le in
    let high = lies.opened_lt in
    let count = r.contents.begun in
    let first = r.contents.from_start in
    let closed = r.links.head_le in
    let cuts : List ℕ = opens_of c.history in
    let xs : List Reservation = reserved_records c.history in
    let here : lies.fill ≡ c.done = omega arith in
    let holds = holds_as (contents_of c (page_at n c.order lies.fill)) (cut_fill start cuts xs c.done) number
    (r.contents.each lies.fill (omega arith) high ∙ ap (cut_fill start cuts xs) here) lies.holds in
    let index : c.done - start ≡ length cuts = omega arith in
    let tail : get_or (cut_from 0 cuts xs) (c.done - start) [] ≡ tail_of c.history =
    ap (λ (i : ℕ). get_or (cut_from 0 cuts xs) i []) index ∙ sym (tail_is c.history) in
    (holds.0, subst (λ (l : List Reservation). number < first_of_fill c.history start c.done + length l) tail holds.1)
