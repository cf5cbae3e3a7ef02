-- Which frames are left after one leaves.
use Rattle.std.proofs.Common.{◌≡◌, List, [], ◌∷◌, length, refl, sym, ap, ◌∙◌, subst, inl, inr}
use Rattle.std.specs.Prelude.{Bool, true, false, ◌==◌}
use Rattle.std.proofs.lemmas.Bool.{eqb-true, eq-eqb}
use Rattle.std.proofs.lemmas.List.{nil_from_length}
use Rattle.nested_writer.specs.declared.frame.Frame.{Frame}
use Rattle.nested_writer.specs.declared.stack.leave.Ended.{Ended}
use Rattle.nested_writer.specs.declared.stack.leave.Ended.TheVariants.{Pending, Full}
use Rattle.nested_writer.specs.Stack.{Stack}
use Rattle.nested_writer.specs.Calls.{frames_after_leave, after_leave, IsAtBottom}
use Rattle.nested_writer.specs.Next.{below_top, IsEndedTo, HasLeftTop}

-- the bottom frame stays
pub left_bottom : (top : Frame) (below : List Frame) → below ≡ [] → IsAtBottom (frames_after_leave top below)
left_bottom top [] none = tt
left_bottom top (next ∷ below) none = absurd (cc)

-- and one with others below it is popped
pub left_below : (top : Frame) (below : List Frame) → (below ≡ [] → ⊥) → frames_after_leave top below ≡ below
left_below top [] some = absurd (some refl)
left_below top (next ∷ below) some = refl

-- whether frames are below, as a test of their number says
pub none_left : (below : List Frame) (test : Bool) → test ≡ (length below == 0) → test ≡ true → below ≡ []
none_left below test is holds = nil_from_length below (eqb-true (length below) 0 (sym is ∙ holds))

pub some_below : (below : List Frame) (test : Bool) → test ≡ (length below == 0) → test ≡ false → below ≡ [] → ⊥
some_below below test is fails none = let zero : length below ≡ 0 = ap length none in
    let holds = eq-eqb (length below) 0 zero in
    cc

-- the frame below is on top, or the bottom one stays
pub ended_to : (old new : Stack) (ended : Ended) → (ended ≡ Pending → new.frames ≡ below_top old.frames)
    → (ended ≡ Full → IsAtBottom new.frames) → IsEndedTo old new ended
ended_to old new Pending below bottom = below refl
ended_to old new Full below bottom = bottom refl

-- the frame on top has left
pub left_top : (s after : Stack) (top : Frame) (below : List Frame) → s.frames ≡ top ∷ below
    → after ≡ after_leave s top below → HasLeftTop s after
left_top s after top [] at is = inl (ap below_top at, subst (λ (x : Stack). IsAtBottom x.frames) (sym is) tt)
left_top s after top (next ∷ below) at is = inr (ap (λ (x : Stack). x.frames) is ∙ sym (ap below_top at))
