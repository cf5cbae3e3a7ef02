use Rattle.std.proofs.Common.{◌≡◌, ◌+◌, [], ◌∷◌, Some, None, refl, sym, ap, ◌∙◌, subst, arith}
use Rattle.trace_model.specs.History.{reserve}
use Rattle.nested_writer.specs.declared.frame.Frame.{Frame}
use Rattle.nested_writer.specs.declared.frame.Slot.{Slot}
use Rattle.nested_writer.specs.declared.frame.Pushed.{Pushed}
use Rattle.nested_writer.specs.declared.frame.Purpose.TheVariants.{Record}
use Rattle.nested_writer.specs.declared.frame.Progress.TheVariants.{Waiting}
use Rattle.nested_writer.specs.Stack.{Stack, tail_fill, next_number}
use Rattle.nested_writer.specs.TopFrame.{frame_in}
use Rattle.nested_writer.specs.Inside.{stack_of, frames_from, top_frame}
use Rattle.nested_writer.specs.IsStack.{IsStack, IsReachedStack}
use Rattle.nested_writer.proofs.Tops.{top_is, is_whole}
use Rattle.nested_writer.proofs.Bounds.{stands_ends_at, stands_fits}
use Rattle.nested_writer.specs.Allotted.{HasEvents}
use Rattle.nested_writer.specs.Calls.{ReservesRecord}
use Rattle.nested_writer.specs.PlainTop.{IsPlainTop}
use Rattle.nested_writer.proofs.Plain.{plain_put, plain_reserved, plain_has_events}
use Rattle.nested_writer.proofs.stack.WriterStack.hold_plain.Goals as goal

pub overflow_add-number : goal.overflow_add-number
overflow_add-number c =
    let fills = c.self.invariant.fills in
    let fits =
    stands_fits (stack_of c.self.inside) (subst IsReachedStack (sym c.self.view_is) c.requires.stack)
    (omega arith) in
    omega (arith, c.first_number.ensures, c.count.ensures.count)

pub put_plain-place-requires-clause-last : goal.put_plain-place-requires-clause-last
put_plain-place-requires-clause-last c =
    stands_ends_at (stack_of c.self.inside) (subst IsReachedStack (sym c.self.view_is) c.requires.stack)

abbrev waits_of : Pushed → Frame
waits_of pushed = record { purpose = Record pushed.moment pushed.len; progress = Waiting None }

-- what the frame on top is
plain : (c : goal.After-hold) → IsPlainTop (stack_of c.self.inside) c.args.pushed
plain c = subst (λ (x : Stack). IsPlainTop x c.args.pushed) (sym c.self.view_is) c.requires.plain

abbrev slot_of : goal.After-hold → Slot
slot_of c =
    record {
      number = c.first_number.result.0 + c.count.result;
      fill = tail_fill (stack_of c.self.inside);
      place = c.put_plain-place.result;
    }

abbrev after : goal.After-hold → Stack
after c =
    plain_put (stack_of c.self.inside) c.args.pushed (plain c) c.put_plain-place.new.self.page c.put_plain-place.result
    (slot_of c).number (slot_of c).fill

found : (c : goal.After-hold)
    → (top_frame c.self.inside ≡ Some (waits_of c.args.pushed)) × (c.self.inside.below.items ≡ (plain c).below)
found c =
    top_is (top_frame c.self.inside) c.self.inside.below.items (waits_of c.args.pushed) (plain c).below
    c.self.invariant.top_first (plain c).on_top

-- the fields show the stack with the record put
abbrev shown_after : goal.After-hold → Stack
shown_after c =
    record (stack_of c.self.inside) {
      tail = c.put_plain-place.new.self.page;
      frames = frames_from (frame_in c.hold.new.self (tail_fill (stack_of c.self.inside))) c.self.inside.below.items;
      last_moment = c.args.pushed.moment;
    }

reported : (c : goal.After-hold) → shown_after c ≡ after c
reported c =
    let fill = tail_fill (stack_of c.self.inside) in
    let held = c.hold.ensures c.args.pushed.moment c.args.pushed.len (is_whole _ fill _ _ (found c).0) in
    λ i.
    record (stack_of c.self.inside) {
      tail = c.put_plain-place.new.self.page;
      frames = frames_from (frame_in (held i) fill) ((found c).1 i);
      last_moment = c.args.pushed.moment;
    }

number_is : (c : goal.After-hold) → (slot_of c).number ≡ next_number (stack_of c.self.inside)
number_is c = omega (arith, c.first_number.ensures, c.count.ensures.count)

-- the fill of the slot that is answered
fill_is : (c : goal.After-hold) → c.fill_number-fill.result.0 ≡ tail_fill (stack_of c.self.inside)
unfolding IsReachedStack
fill_is c =
    let (start, history, k) = c.requires.stack in
    c.fill_number-fill.ensures ∙ (subst (IsStack start history) (sym c.self.view_is) k).holds.tail_is.fill_is

acts : (c : goal.After-hold) → HasEvents (stack_of c.self.inside) (reserve ∷ []) (after c)
acts c =
    let s : Stack = stack_of c.self.inside in
    let put = c.put_plain-place.ensures in
    plain_has_events s c.args.pushed (plain c) c.put_plain-place.new.self.page c.put_plain-place.result
    (slot_of c).number (slot_of c).fill (number_is c) refl (assumption put)

pub returns-clause-reserved : goal.returns-clause-reserved
returns-clause-reserved c = λ top below on_top.
    let s : Stack = stack_of c.self.inside in
    let put = c.put_plain-place.ensures in
    let reserved =
    plain_reserved s c.args.pushed (plain c) c.put_plain-place.new.self.page c.put_plain-place.result
    (slot_of c).number (slot_of c).fill (number_is c) refl put.bytes put.end put.len_is in
    subst
    (λ (x : Stack).
    ReservesRecord x top below c.args.pushed.moment c.args.pushed.len c.put_plain-place.result (shown_after c))
    c.self.view_is
    (subst (ReservesRecord s top below c.args.pushed.moment c.args.pushed.len c.put_plain-place.result)
    (sym (reported c)) (reserved top below (ap (λ (x : Stack). x.frames) c.self.view_is ∙ on_top)))

pub returns-clause-stack : goal.returns-clause-stack
returns-clause-stack c =
    λ start history k. rw (reported c) (acts c start history (subst (IsStack start history) (sym c.self.view_is) k))

pub returns-clause-slot : goal.returns-clause-slot
returns-clause-slot c =
    let fill = tail_fill (stack_of c.self.inside) in
    rw (
      c.hold.ensures c.args.pushed.moment c.args.pushed.len (is_whole _ fill _ _ (found c).0),
      fill_is c,
    ) refl
