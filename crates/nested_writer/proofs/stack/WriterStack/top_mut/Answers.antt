use Rattle.std.proofs.Common.{◌≡◌, ℕ, ◌+◌, ◌-◌, ◌≤◌, length, sym, ap, ◌∙◌, subst}
use Rattle.std.specs.Prelude.{slice_set}
use Rattle.std.proofs.lemmas.List.{length-set}
use Rattle.record_words.specs.declared.put.Place.{Place}
use Rattle.page_image.specs.Contents.{Contents}
use Rattle.nested_writer.specs.declared.frame.Slot.{Slot}
use Rattle.nested_writer.specs.declared.stack.WriterStack.TheInside.{Inside}
use Rattle.nested_writer.specs.Stack.{Stack, tail_fill}
use Rattle.nested_writer.specs.TopFrame.{frame_in}
use Rattle.nested_writer.specs.Inside.{stack_of, frames_from}
use Rattle.nested_writer.specs.Calls.{IsTopSlot}
use Rattle.nested_writer.specs.Lent.{Lent}
use Rattle.nested_writer.specs.Lending.{with_top, IsLent}
use Rattle.nested_writer.specs.IsStack.{IsReachedStack}
use Rattle.nested_writer.proofs.Lent.{same_ends, top_in_tail, top_in_older, tail_stays, older_stays, tail_within}
use Rattle.nested_writer.proofs.Lent.{tail_lent, other_page, older_within, older_lent, lends_top}
use Rattle.nested_writer.proofs.Tops.{in_tail_slot}
use Rattle.nested_writer.proofs.stack.WriterStack.top_mut.Goals as goal

-- in the tail, as the frame on top says
pub lend-requires : goal.lend-requires
unfolding IsReachedStack
lend-requires c =
    let s : Stack = stack_of c.self.inside in
    let (moment, len, number, held) = c.in-Some.ensures in
    let slot : Slot = record { number = number; fill = tail_fill s; place = c.in-Some.place } in
    let is : IsTopSlot s.frames slot = in_tail_slot c.self.inside moment len number c.in-Some.place held in
    let (start, h, k) = subst IsReachedStack (sym c.self.view_is) c.requires.stack in
    record { within = tail_within start h s slot is k (sym k.holds.tail_is.fill_is) }

pub returns-in-Some : goal.returns-in-Some
unfolding IsReachedStack
returns-in-Some c =
    let s : Stack = stack_of c.self.inside in
    let (moment, len, number, held) = c.in-Some.ensures in
    let slot : Slot = record { number = number; fill = tail_fill s; place = c.in-Some.place } in
    let is : IsTopSlot s.frames slot = in_tail_slot c.self.inside moment len number c.in-Some.place held in
    let stands : IsReachedStack s = subst IsReachedStack (sym c.self.view_is) c.requires.stack in
    let same : slot.fill ≡ s.tail.fill = sym stands.2.holds.tail_is.fill_is in
    let payload : Lent = c.lend.new.self in
    let lent : IsLent s payload =
    subst (IsLent s) (sym c.lend.ensures) (tail_lent stands.0 stands.1 s slot is stands.2 same) in
    let place : payload.place ≡ slot.place = ap (λ (p : Lent). p.place) c.lend.ensures in
    let within =
    subst (λ (p : Lent). p.place.start + p.place.len ≤ length p.page.bytes) (sym c.lend.ensures)
    (tail_within stands.0 stands.1 s slot is stands.2 same) in
    rw (← c.self.view_is) (
      same_ends _ _ _ (λ w. top_in_tail s slot w is same),
      lends_top _ s slot payload is place within lent
          (tail_stays s slot payload is same (ap (λ (p : Lent). p.page) c.lend.ensures)) stands,
    )

-- in the tail, as its fill says
pub lend-requires-then-slot-fill_number : goal.lend-requires-then-slot-fill_number
unfolding IsReachedStack
lend-requires-then-slot-fill_number c =
    let s : Stack = stack_of c.self.inside in
    let slot : Slot = c.in_ok-slot.slot in
    let is : IsTopSlot s.frames slot = c.in_ok-slot.ensures.slot in
    let (start, h, k) = subst IsReachedStack (sym c.self.view_is) c.requires.stack in
    record { within = tail_within start h s slot is k (c.if-slot-fill_number.true ∙ c.fill_number.ensures) }

pub returns-then-slot-fill_number : goal.returns-then-slot-fill_number
unfolding IsReachedStack
returns-then-slot-fill_number c =
    let s : Stack = stack_of c.self.inside in
    let slot : Slot = c.in_ok-slot.slot in
    let is : IsTopSlot s.frames slot = c.in_ok-slot.ensures.slot in
    let same : slot.fill ≡ s.tail.fill = c.if-slot-fill_number.true ∙ c.fill_number.ensures in
    let stands : IsReachedStack s = subst IsReachedStack (sym c.self.view_is) c.requires.stack in
    let payload : Lent = c.lend-then-slot-fill_number.new.self in
    let lent : IsLent s payload =
    subst (IsLent s) (sym c.lend-then-slot-fill_number.ensures) (tail_lent stands.0 stands.1 s slot is stands.2 same) in
    let place : payload.place ≡ slot.place = ap (λ (p : Lent). p.place) c.lend-then-slot-fill_number.ensures in
    let within =
    subst (λ (p : Lent). p.place.start + p.place.len ≤ length p.page.bytes) (sym c.lend-then-slot-fill_number.ensures)
    (tail_within stands.0 stands.1 s slot is stands.2 same) in
    rw (← c.self.view_is) (
      same_ends _ _ _ (λ w. top_in_tail s slot w is same),
      lends_top _ s slot payload is place within lent
          (tail_stays s slot payload is same (ap (λ (p : Lent). p.page) c.lend-then-slot-fill_number.ensures)) stands,
    )

-- with another page in the place of an older one, of which there are as many
abbrev older_with_page : Inside → ℕ → Contents → (open_pages : ℕ) → Stack
older_with_page w index page open_pages =
    record (stack_of w) {
      older = slice_set w.older.pages index page;
      frames = frames_from (frame_in w.top (w.done + open_pages)) w.below.items;
    }

older_shown : (w : Inside) (slot : Slot) (payload : Lent) → IsTopSlot (stack_of w).frames slot
    → (slot.fill ≡ w.tail.page.fill → ⊥)
    → older_with_page w (slot.fill - w.done) payload.page
    (length (slice_set w.older.pages (slot.fill - w.done) payload.page))
    ≡ with_top (stack_of w) payload
older_shown w slot payload is other =
    let index : ℕ = slot.fill - w.done in
    ap (older_with_page w index payload.page) (length-set w.older.pages index payload.page)
    ∙ top_in_older (stack_of w) slot payload is other

pub lend-payload-requires : goal.lend-payload-requires
unfolding IsReachedStack
lend-payload-requires c =
    let s : Stack = stack_of c.self.inside in
    let slot : Slot = c.in_ok-slot.slot in
    let is : IsTopSlot s.frames slot = c.in_ok-slot.ensures.slot in
    let (start, h, k) = subst IsReachedStack (sym c.self.view_is) c.requires.stack in
    let other : (slot.fill ≡ s.tail.fill → ⊥) =
    λ same. c.if-slot-fill_number.false (same ∙ sym c.fill_number.ensures) in
    record { inside = (other_page start h s slot is k other).inside; within = older_within start h s slot is k other }

pub returns : goal.returns
unfolding IsReachedStack
returns c =
    let s : Stack = stack_of c.self.inside in
    let slot : Slot = c.in_ok-slot.slot in
    let is : IsTopSlot s.frames slot = c.in_ok-slot.ensures.slot in
    let other : (slot.fill ≡ s.tail.fill → ⊥) =
    λ same. c.if-slot-fill_number.false (same ∙ sym c.fill_number.ensures) in
    let stands : IsReachedStack s = subst IsReachedStack (sym c.self.view_is) c.requires.stack in
    let payload : Lent = c.lend-payload.result.now in
    let found = older_lent stands.0 stands.1 s slot is stands.2 other payload.page c.lend-payload.ensures.page in
    let lent : IsLent s payload =
    subst (λ (p : Lent). IsLent s p)
    (λ i. record { page = payload.page; place = sym c.lend-payload.ensures.place i }) found in
    let place : payload.place ≡ slot.place = c.lend-payload.ensures.place in
    let within =
    subst (λ (p : Place). p.start + p.len ≤ length payload.page.bytes) (sym place)
    (older_within stands.0 stands.1 s slot is stands.2 other payload.page c.lend-payload.ensures.page) in
    rw (← c.self.view_is) (
      same_ends _ _ _ (λ w. older_shown c.self.inside slot w is other),
      lends_top _ s slot payload is place within lent (older_stays s slot payload is other c.lend-payload.ensures.page)
          stands,
    )
