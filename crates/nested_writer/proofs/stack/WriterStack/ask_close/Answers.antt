use Rattle.std.proofs.Common.{◌≡◌, ◌≢◌, ◌∷◌, [], length, refl, sym, ap, ◌∙◌, subst}
use Rattle.nested_writer.specs.Stack.{Stack, tail_fill, opened}
use Rattle.nested_writer.specs.Inside.{stack_of}
use Rattle.nested_writer.specs.Calls.{IsAtBottom}
use Rattle.nested_writer.specs.IsStack.{IsStack}
use Rattle.nested_writer.proofs.Leaving.{asked_at}
use Rattle.nested_writer.proofs.Releasing.{tail_holds, none_to_close}
use Rattle.nested_writer.proofs.Tops.{on_top}
use Rattle.trace_model.specs.History.{wished}
use Rattle.nested_writer.proofs.Staying.{has_events_stays}
use Rattle.nested_writer.proofs.stack.WriterStack.ask_close.Goals as goal

pub returns-in-Some-clause-wished : goal.returns-in-Some-clause-wished
returns-in-Some-clause-wished c = λ yes start history old.
    let s : Stack = stack_of c.self.inside in
    let k : IsStack start history s = subst (IsStack start history) (sym c.self.view_is) old in
    let frames : s.frames ≡ c.in-Some.bottom ∷ c.self.inside.below.items =
    on_top c.self.inside s c.tail_fill.result c.in-Some.bottom refl
    (c.tail_fill.ensures ∙ ap tail_fill (sym c.self.view_is))
    (sym c.get.ensures ∙ c.in-Some.is) in
    let bottom : IsAtBottom (c.in-Some.bottom ∷ c.self.inside.below.items) =
    subst IsAtBottom (ap (λ (x : Stack). x.frames) (sym c.self.view_is) ∙ frames) c.requires.bottom in
    let some : s.tail.bytes ≢ [] = λ none. c.if-end-eq0.false (c.end.ensures ∙ ap length none) in
    rw c.put.ensures
    (asked_at start history s c.in-Some.bottom c.self.inside.below.items c.opened-opened.result
    (c.opened-opened.ensures.begun ∙ ap opened (sym c.self.view_is)) frames bottom some k)

pub returns-then-end-eq0-clause-holds_record : goal.returns-then-end-eq0-clause-holds_record
returns-then-end-eq0-clause-holds_record c = λ start history k.
    none_to_close start history c.args.self.now k
    (ap (λ (s : Stack). length s.tail.bytes) (sym c.self.view_is) ∙ sym c.end.ensures ∙ c.if-end-eq0.true)

pub returns-in-Some-clause-holds_record : goal.returns-in-Some-clause-holds_record
returns-in-Some-clause-holds_record c = λ start history old.
    let s : Stack = stack_of c.self.inside in
    let k : IsStack start history s = subst (IsStack start history) (sym c.self.view_is) old in
    let some : s.tail.bytes ≢ [] = λ none. c.if-end-eq0.false (c.end.ensures ∙ ap length none) in
    (λ yes. tail_holds start history s k some, λ holds. refl)

pub returns-in-Some-clause-stays : goal.returns-in-Some-clause-stays
returns-in-Some-clause-stays c = has_events_stays c.args.self.now _ (wished ∷ []) (returns-in-Some-clause-wished c refl)
