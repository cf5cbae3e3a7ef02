use Rattle.std.proofs.Common.{◌≡◌, ℕ, ◌+◌, ◌-◌, ◌≤◌, max, Bool, [], ◌∷◌, ◌++◌, List, length, sym, ap, ◌∙◌, subst, arith}
use Rattle.std.proofs.Common.{refl, rules}
use Rattle.trace_model.specs.History.{reserve}
use Rattle.trace_model.specs.Words.{encoded_len}
use Rattle.page_image.specs.Contents.{is_blank}
use Rattle.nested_writer.specs.declared.frame.Frame.{Frame}
use Rattle.nested_writer.specs.declared.frame.Slot.{Slot}
use Rattle.nested_writer.specs.declared.frame.Purpose.{Purpose}
use Rattle.nested_writer.specs.declared.frame.Progress.TheVariants.{Reserved}
use Rattle.nested_writer.specs.Stack.{Stack, tail_fill}
use Rattle.nested_writer.specs.Inside.{stack_of, frames_from, top_frame}
use Rattle.nested_writer.specs.Calls.{HasRecordRoom}
use Rattle.nested_writer.specs.IsStack.{IsStack, IsReachedStack}
use Rattle.nested_writer.proofs.Tops.{top_is}
use Rattle.nested_writer.proofs.Bounds.{stands_ends_at, stands_fits}
use Rattle.nested_writer.proofs.Reserving.{reserved_with}
use Rattle.nested_writer.proofs.stack.WriterStack.reserve_any.Goals as goal

pub overflow_add-number : goal.overflow_add-number
overflow_add-number c =
    let fills = c.self.invariant.fills in
    let fits =
    stands_fits (stack_of c.self.inside) (subst IsReachedStack (sym c.self.view_is) c.requires.stack)
    (omega arith) in
    omega (arith, c.first_number.ensures, c.count.ensures.count)

pub put-place-requires : goal.put-place-requires
unfolding IsReachedStack
put-place-requires c =
    let (start, history, k) = c.requires.stack in record {
      room = search rules;
      order = search rules;
      in_time = search rules;
      last = stands_ends_at (stack_of c.self.inside) (subst IsReachedStack (sym c.self.view_is) c.requires.stack);
      ends = search rules;
    }

pub returns-clause-stack : goal.returns-clause-stack
returns-clause-stack c = λ start history old.
    let s : Stack = stack_of c.self.inside in
    let k : IsStack start history s = subst (IsStack start history) (sym c.self.view_is) old in
    let (top, below, noted, on_top, purpose, waits) = c.requires.top in
    let items : List Frame = c.self.inside.below.items in
    let on_top' : frames_from (top_frame c.self.inside) items ≡ top ∷ below =
    ap (λ (x : Stack). x.frames) c.self.view_is ∙ on_top in
    let found = top_is (top_frame c.self.inside) items top below c.self.invariant.top_first on_top' in
    let put = c.put-place.ensures in
    let delta : ℕ = c.args.raised - s.last_moment in
    let blank : Bool = is_blank s.tail.bytes in
    let raised : c.args.raised ≡ max c.args.moment s.last_moment =
    c.requires.raised ∙ ap (λ (x : Stack). max c.args.moment x.last_moment) (sym c.self.view_is) in
    let room = subst (λ (x : Stack). HasRecordRoom x c.args.moment c.args.len) (sym c.self.view_is) c.requires.room in
    let room' : length s.tail.bytes + encoded_len c.args.len delta blank ≤ s.size =
    subst (λ (m : ℕ). length s.tail.bytes + encoded_len c.args.len (m - s.last_moment) blank ≤ s.size) (sym raised)
    room in
    let slot : Slot =
    record {
      number = c.first_number.result.0 + c.count.result;
      fill = tail_fill s;
      place = c.put-place.result;
    } in
    rw c.hold_any.ensures
    (subst
    (λ (p : Purpose).
    IsStack start (history ++ reserve ∷ [])
    (record s {
      tail = c.put-place.new.self.page;
      last_moment = c.args.raised;
      frames = record { purpose = p; progress = Reserved slot } ∷ items;
    })) purpose
    (reserved_with start history s top items c.args.moment c.args.len noted c.put-place.new.self.page c.put-place.result
    c.args.raised (c.first_number.result.0 + c.count.result) (tail_fill s)
    raised (omega (arith, c.first_number.ensures, c.count.ensures.count)) refl
    (on_top' ∙ ap (λ (fs : List Frame). top ∷ fs) (sym found.1)) purpose waits (omega (arith, put.longer, room'))
    (assumption put) k))
