use Rattle.std.proofs.Common.{ℕ, ◌≡◌, ◌∷◌, ◌++◌, [], List, None, sym, ap, ◌∙◌, subst, ⊎_elim}
use Rattle.std.specs.Prelude.{◌==◌}
use Rattle.trace_model.specs.History.{leave}
use Rattle.nested_writer.specs.declared.frame.Frame.{Frame}
use Rattle.nested_writer.specs.declared.frame.Progress.{Progress}
use Rattle.nested_writer.specs.declared.stack.leave.Ended.TheVariants.{Pending, Full}
use Rattle.nested_writer.specs.Stack.{Stack, state_of}
use Rattle.nested_writer.specs.Ends.{MayEnd, HasEnded}
use Rattle.nested_writer.specs.IsStack.{IsStack}
use Rattle.nested_writer.proofs.Leaving.{left_none}
use Rattle.nested_writer.proofs.Ending.{ended}
use Rattle.nested_writer.proofs.Keeping.{some_below, none_left}
use Rattle.nested_writer.proofs.Tops.{on_top}
use Rattle.nested_writer.proofs.Promises.{ends_top}
use Rattle.nested_writer.proofs.stack.WriterStack.end_any.Goals as goal
use Rattle.nested_writer.proofs.stack.WriterStack.end_any.Goals.{then-is_empty, else-is_empty}

pub returns : goal.returns
returns c =
    let s : Stack = c.args.self.now in
    let top : Frame = c.in-Some.top in
    let below : List Frame = c.self.inside.below.items in
    let after : Stack = c.leave.new.self in
    let frames : s.frames ≡ top ∷ below =
    on_top c.self.inside s c.tail_fill.result top c.self.view_is c.tail_fill.ensures
    (sym c.get.ensures ∙ c.in-Some.is) in
    let is = c.leave.ensures.after top below frames in
    let may : MayEnd top.progress =
    ⊎_elim (λ (noted, has). subst MayEnd (sym has) tt) (λ (slot, has). subst MayEnd (sym has) tt) c.in-Through.is in
    let left : HasEnded s top.progress after = ⊎_elim
    (λ (noted, has).
    subst (λ (p : Progress). HasEnded s p after) (sym has)
    (λ start h k.
    subst (IsStack start (h ++ leave None ∷ [])) (sym is)
    (left_none start h s top below frames (ap state_of has) k)))
    (λ (slot, has).
    subst (λ (p : Progress). HasEnded s p after) (sym has)
    (λ page there start h k.
    subst (IsStack start _) (sym is) (ended start h s top below slot page frames has there k)))
    c.in-Through.is in
    let test = c.is_empty.ensures ∙ ap (λ (n : ℕ). n == 0) c.self.inside.below.ok.0 in
    let pending : c.if-is_empty.ended ≡ Pending → below ≡ [] → ⊥ = elim c.if-is_empty.branch [
      | then-is_empty w ↦ λ pending. absurd (let full = w.ended-is in cc)
      | else-is_empty w ↦ λ pending none. some_below below c.is_empty.result test w.if-is_empty.false none
    ] in
    let full : c.if-is_empty.ended ≡ Full → below ≡ [] = elim c.if-is_empty.branch [
      | then-is_empty w ↦ λ full. none_left below c.is_empty.result test w.if-is_empty.true
      | else-is_empty w ↦ λ full. absurd (let pending = w.ended-is in cc)
    ] in
    ends_top s after top below c.if-is_empty.ended frames may left is c.requires.stack pending full
