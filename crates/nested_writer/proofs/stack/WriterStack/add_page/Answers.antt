use Rattle.std.proofs.Common.{◌≡◌, ◌+◌, ℕ, ◌∷◌, ◌++◌, [], length, Option, sym, ap, ◌∙◌, subst, arith}
use Rattle.trace_model.specs.History.{open_fill}
use Rattle.nested_writer.specs.Stack.{Stack, tail_fill, opened, next_number, blank_page}
use Rattle.nested_writer.specs.declared.frame.Frame.{Frame}
use Rattle.nested_writer.specs.Inside.{stack_of, frames_from}
use Rattle.nested_writer.specs.Calls.{with_tail, MayAddPage}
use Rattle.nested_writer.specs.IsStack.{IsStack, IsReachedStack}
use Rattle.nested_writer.proofs.Bounds.{stands_fits}
use Rattle.nested_writer.proofs.Answering.{number_counts}
use Rattle.nested_writer.proofs.Opening.{page_may_be_added}
use Rattle.nested_writer.proofs.Staying.{has_events_stays}
use Rattle.nested_writer.proofs.Tops.{has_no_slot}
use Rattle.nested_writer.proofs.stack.WriterStack.add_page.Goals as goal

pub overflow_add-first : goal.overflow_add-first
overflow_add-first c =
    let fills = c.self.invariant.fills in
    let fits =
    stands_fits (stack_of c.self.inside) (subst IsReachedStack (sym c.self.view_is) c.requires.stack)
    (omega arith) in
    omega (arith, c.first_number.ensures, c.count.ensures.count)

pub returns-clause-stack : goal.returns-clause-stack
returns-clause-stack c = λ start history old.
    let s : Stack = stack_of c.self.inside in
    let k : IsStack start history s = subst (IsStack start history) (sym c.self.view_is) old in
    let needs = subst (λ (x : Stack). MayAddPage x x.frames) (sym c.self.view_is) c.requires.needs in
    let size : length c.args.body ≡ s.size = c.requires.size ∙ ap (λ (x : Stack). x.size) (sym c.self.view_is) in
    let fill : c.fill_number-fill.result.0 + 1 ≡ opened s =
    ap (λ (n : ℕ). n + 1) (c.fill_number-fill.ensures ∙ k.holds.tail_is.fill_is) in
    let first : c.first_number.result.0 + c.count.result ≡ next_number s =
    (λ i. c.first_number.ensures i + c.count.ensures.count i) in
    let blank : c.fresh-page.result ≡ blank_page s.size (next_number s) (opened s) =
    c.fresh-page.ensures.blank ∙ (λ i. blank_page (size i) (first i) (fill i)) in
    let added = page_may_be_added start history s c.fresh-page.result needs blank c.fresh-page.ensures.page k in
    rw (c.push.ensures, c.replace-tail.ensures.value, c.replace-tail.ensures.after, c.of.ensures)
    (subst
    (λ (top : Option Frame).
    IsStack start (history ++ open_fill ∷ [])
    (record (with_tail s c.fresh-page.result) { frames = frames_from top c.self.inside.below.items }))
    (has_no_slot s c.self.inside.top (tail_fill s) _ c.self.inside.below.items needs) added)

pub returns-clause-numbered : goal.returns-clause-numbered
returns-clause-numbered c = λ start history k. number_counts start history c.args.self.now k

pub returns-clause-stays : goal.returns-clause-stays
returns-clause-stays c = has_events_stays c.args.self.now _ (open_fill ∷ []) (returns-clause-stack c) c.requires.stack
