use Rattle.std.proofs.Common.{◌≢◌, ℕ, [], List, length, ap, ◌∙◌, sym, subst, append-nil}
use Rattle.std.specs.Prelude.{IsTrue, false, Some}
use Rattle.trace_model.specs.History.{HistoryEvent}
use Rattle.page_image.specs.Contents.{Contents}
use Rattle.nested_writer.specs.Stack.{Stack, opened}
use Rattle.nested_writer.specs.Calls.{with_bottom}
use Rattle.nested_writer.specs.IsStack.{IsStack}
use Rattle.nested_writer.proofs.Releasing.{none_to_close}
use Rattle.nested_writer.proofs.stack.WriterStack.ask_close_for.Goals as goal

pub returns-then-end-eq0-clause-holds_record : goal.returns-then-end-eq0-clause-holds_record
returns-then-end-eq0-clause-holds_record c = λ start history k.
    none_to_close start history c.args.self.now k
    (ap (λ (s : Stack). length s.tail.bytes) (sym c.self.view_is) ∙ sym c.end.ensures ∙ c.if-end-eq0.true)

-- the stack with the frame is one of the same history
again : (c : goal.After-ask_close) (start : ℕ) (history : List HistoryEvent) → IsStack start history c.args.self.now
    → IsStack start history c.put_left.new.self
again c start history k =
    subst (λ (h : List HistoryEvent). IsStack start h c.put_left.new.self) (append-nil history)
    (c.put_left.ensures.stack start history k)

pub returns-clause-holds_record : goal.returns-clause-holds_record
returns-clause-holds_record c =
    λ start history k. c.ask_close.ensures.holds_record start history (again c start history k)

pub returns-clause-yes : goal.returns-clause-yes
returns-clause-yes c =
    λ yes. c.ask_close.ensures.yes yes ∙ ap (λ (s : Stack). with_bottom s (Some (opened s))) c.put_left.ensures.left

pub returns-clause-wished : goal.returns-clause-wished
returns-clause-wished c = λ yes start history k. c.ask_close.ensures.wished yes start history (again c start history k)

pub returns-clause-no : goal.returns-clause-no
returns-clause-no c = λ none.
    let some : c.put_left.new.self.tail.bytes ≢ [] =
    λ blank.
    c.if-end-eq0.false
    (c.end.ensures ∙ ap (λ (s : Stack). length s.tail.bytes) c.self.view_is
    ∙ ap (λ (p : Contents). length p.bytes) (sym c.put_left.ensures.kept.tail) ∙ ap length blank) in
    absurd (let no : IsTrue false = subst IsTrue none (c.ask_close.ensures.asked.1 some) in cc)
