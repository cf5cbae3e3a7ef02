use Rattle.std.proofs.Common.{◌≡◌, ℕ, ◌+◌, ◌-◌, ◌≤◌, max, Bool, true, List, [], ◌∷◌, ◌++◌, length, Some, sym, ap, ◌∙◌}
use Rattle.std.proofs.Common.{subst, arith, rules}
use Rattle.trace_model.specs.History.{HistoryEvent, push, reserve, leave}
use Rattle.trace_model.specs.Words.{padded, encoded_len}
use Rattle.record_words.specs.declared.put.Place.{Place}
use Rattle.page_image.specs.Contents.{Contents, is_blank}
use Rattle.nested_writer.specs.Stack.{Stack}
use Rattle.nested_writer.specs.AtOnce.{FitsInTail}
use Rattle.nested_writer.specs.Inside.{stack_of}
use Rattle.nested_writer.specs.IsStack.{IsStack, IsReachedStack}
use Rattle.nested_writer.proofs.Bounds.{stands_ends_at}
use Rattle.nested_writer.proofs.AtOnce.{IsPutLast, written_at_once, fits_page}
use Rattle.nested_writer.proofs.stack.WriterStack.put_raised.Goals as goal

pub put_payload-requires-clause-can : goal.put_payload-requires-clause-can
unfolding IsReachedStack
put_payload-requires-clause-can c =
    let (start, history, k) = c.requires.stack in record {
      room = search rules;
      order = search rules;
      in_time = search rules;
      last = stands_ends_at (stack_of c.self.inside) (subst IsReachedStack (sym c.self.view_is) c.requires.stack);
      ends = search rules;
    }

pub returns-clause-stack : goal.returns-clause-stack
returns-clause-stack c = λ start history old.
    let s : Stack = stack_of c.self.inside in
    let k : IsStack start history s = subst (IsStack start history) (sym c.self.view_is) old in
    let payload : List ℕ = c.args.payload.now in
    let put = c.put_payload.ensures in
    let tail' : Contents = c.put_payload.new.self.page in
    let place : Place = c.put_payload.result in
    let blank : Bool = is_blank s.tail.bytes in
    let delta : ℕ = c.args.raised - s.last_moment in
    let raised : c.args.raised ≡ max c.args.moment s.last_moment =
    c.requires.raised ∙ ap (λ (x : Stack). max c.args.moment x.last_moment) (sym c.self.view_is) in
    let fits : FitsInTail s c.args.moment (length payload) =
    subst (λ (x : Stack). FitsInTail x c.args.moment (length payload)) (sym c.self.view_is) c.requires.fits in
    let room : length s.tail.bytes + encoded_len (length payload) delta blank ≤ s.size =
    subst (λ (m : ℕ). length s.tail.bytes + encoded_len (length payload) (m - s.last_moment) blank ≤ s.size)
    (sym raised) fits.1 in
    let is : IsPutLast s.tail tail' s.last_moment c.args.raised (length payload) (padded payload) place =
    record { put = assumption put; lies = put.place; place_end = put.end } in
    let short : encoded_len (length payload) 0 true ≤ s.size = fits_page s.size (length payload) fits.0.0 in
    let done =
    written_at_once start history s c.args.moment payload tail' place short fits.0.1
    (omega (arith, put.longer, room))
    (subst (λ (m : ℕ). IsPutLast s.tail tail' s.last_moment m (length payload) (padded payload) place) raised
    is) k in
    let events : List HistoryEvent = push c.args.moment (length payload) ∷ reserve ∷ leave (Some payload) ∷ [] in
    subst (λ (m : ℕ). IsStack start (history ++ events) (record s { tail = tail'; last_moment = m })) (sym raised) done

pub returns-clause-stays : goal.returns-clause-stays
unfolding IsReachedStack
returns-clause-stays c = let (start, history, k) = c.requires.stack in
    (start, _, returns-clause-stack c start history k)
