-- What allot makes of a stack, by its answer.
use Rattle.std.proofs.Common.{◌≡◌, ℕ, ◌≤◌, List, [], ◌∷◌, ◌++◌, Option, Some, None, Ok, Err, refl, sym, ap, ◌∙◌, subst}
use Rattle.std.proofs.Common.{arith, append-nil}
use Rattle.std.specs.Prelude.{unwrap_or}
use Rattle.trace_model.specs.History.{HistoryEvent, reserve, leave, reserved_records}
use Rattle.trace_model.specs.Packing.{opens_of, is_wished}
use Rattle.trace_model.specs.Frames.{waiting}
use Rattle.record_words.specs.declared.put.Place.{Place}
use Rattle.nested_writer.specs.declared.fault.WriteFault.TheVariants.{Crowded, Worn}
use Rattle.nested_writer.specs.declared.stack.allot.Allot.TheVariants.{Fits, NeedsPage}
use Rattle.nested_writer.specs.declared.frame.Purpose.{Purpose}
use Rattle.nested_writer.specs.declared.frame.Purpose.TheVariants.{Record, Close}
use Rattle.nested_writer.specs.declared.frame.Progress.{Progress}
use Rattle.nested_writer.specs.declared.frame.Progress.TheVariants.{Waiting, Through, Reserved, Left}
use Rattle.nested_writer.specs.declared.frame.Frame.{Frame}
use Rattle.nested_writer.specs.declared.frame.Pushed.{Pushed}
use Rattle.nested_writer.specs.Stack.{Stack, opened, kind_of, state_of}
use Rattle.nested_writer.specs.Calls.{with_progress, after_leave, IsTop, ReservesRecord, WantsPage}
use Rattle.nested_writer.specs.Allotted.{HasEvents, HasFit, first_try, IsAllotted}
use Rattle.nested_writer.specs.PlainTop.{IsPlainTop}
use Rattle.nested_writer.specs.IsStack.{IsNoted, StandsAt, FramesStand, IsStack}
use Rattle.nested_writer.proofs.Leaving.{left_none, noted_record, noted_close, gone_through}

-- a frame that wants a page has no record
pub wants_waiting : (s : Stack) (purpose : Purpose) (progress : Progress) → WantsPage s purpose progress
    → state_of progress ≡ waiting
wants_waiting s (Record moment len) (Waiting noted) w = refl
wants_waiting s Close (Waiting noted) w = refl
wants_waiting s (Record moment len) (Through noted) w = absurd w
wants_waiting s Close (Through noted) w = refl
wants_waiting s (Record moment len) (Reserved slot) w = absurd w
wants_waiting s Close (Reserved slot) w = absurd w
wants_waiting s (Record moment len) (Left noted) w = absurd w
wants_waiting s Close (Left noted) w = absurd w

module _ (s after : Stack) (top : Frame) (below : List Frame) (top_is : s.frames ≡ top ∷ below) where
  leaves : state_of top.progress ≡ waiting → after ≡ after_leave s top below → HasEvents s (leave None ∷ []) after
  leaves waits is start h k =
      subst (IsStack start (h ++ leave None ∷ [])) (sym is) (left_none start h s top below top_is waits k)

  pub crowded_after : WantsPage s top.purpose top.progress → after ≡ after_leave s top below
      → IsAllotted s s.frames (Err Crowded) after
  crowded_after w is =
      subst (λ (fs : List Frame). IsAllotted s fs (Err Crowded) after) (sym top_is)
      (is, leaves (wants_waiting s top.purpose top.progress w) is)

  pub worn_after : WantsPage s top.purpose top.progress → after ≡ after_leave s top below
      → IsAllotted s s.frames (Err Worn) after
  worn_after w is =
      subst (λ (fs : List Frame). IsAllotted s fs (Err Worn) after) (sym top_is)
      (is, leaves (wants_waiting s top.purpose top.progress w) is)

  notes : (purpose : Purpose) (progress : Progress) → top.purpose ≡ purpose → top.progress ≡ progress
      → WantsPage s purpose progress → (start : ℕ) (h : List HistoryEvent) → IsStack start h s
      → IsStack start h (with_progress s top below (Waiting (Some (opened s))))
  notes (Record moment len) (Waiting noted) p q w start h k =
      noted_record start h s top below moment len top_is p (ap state_of q) w k
  notes Close (Waiting noted) p q w start h k = noted_close start h s top below top_is p (ap state_of q) w.0 k
  notes (Record moment len) (Through noted) p q w start h k = absurd w
  notes Close (Through noted) p q w start h k = noted_close start h s top below top_is p (ap state_of q) w.0 k
  notes (Record moment len) (Reserved slot) p q w start h k = absurd w
  notes Close (Reserved slot) p q w start h k = absurd w
  notes (Record moment len) (Left noted) p q w start h k = absurd w
  notes Close (Left noted) p q w start h k = absurd w

  pub noted_after : WantsPage s top.purpose top.progress → after ≡ with_progress s top below (Waiting (Some (opened s)))
      → IsAllotted s s.frames (Ok NeedsPage) after
  noted_after w is = subst (λ (fs : List Frame). IsAllotted s fs (Ok NeedsPage) after) (sym top_is) (
    is,
    λ start h k.
        subst (λ (g : List HistoryEvent). IsStack start g after) (sym (append-nil h))
        (subst (IsStack start h) (sym is) (notes top.purpose top.progress refl refl w start h k)),
  )

  passes : (noted : ℕ) → top.purpose ≡ Close → state_of top.progress ≡ waiting
      → ((start : ℕ) (h : List HistoryEvent) → IsStack start h s → noted ≤ opened s)
      → after ≡ with_progress s top below (Through noted) → HasEvents s [] after
  passes noted p q le is start h k =
      subst (λ (g : List HistoryEvent). IsStack start g after) (sym (append-nil h))
      (subst (IsStack start h) (sym is) (gone_through start h s top below noted p' p q (le start h k) k))
    where
      p' : s.frames ≡ top ∷ below
      p' = top_is

  stands : (progress : Progress) → top.progress ≡ progress → (start : ℕ) (h : List HistoryEvent) → IsStack start h s
      → StandsAt s.size s.done s.older s.tail (opens_of h) (reserved_records h) (is_wished h) (kind_of top.purpose)
      progress
  stands progress q start h k =
      subst
      (StandsAt s.size s.done s.older s.tail (opens_of h) (reserved_records h) (is_wished h) (kind_of top.purpose))
      q
      (subst (FramesStand s.size s.done s.older s.tail (opens_of h) (reserved_records h) (is_wished h)) top_is
      k.holds.frames_are).1

  tried_first : (noted : Option ℕ) → IsNoted (opened s) noted → unwrap_or noted (opened s) ≤ opened s
  tried_first None n = omega arith
  tried_first (Some k) n = n

  first_is : (noted : Option ℕ) → unwrap_or noted (opened s) ≡ first_try s (Waiting noted)
  first_is None = refl
  first_is (Some k) = refl

  -- a close frame is through
  pub waited_through : (noted : Option ℕ) (tried : ℕ) (place : Place) → top.purpose ≡ Close
      → top.progress ≡ Waiting noted → tried ≡ unwrap_or noted (opened s) → place.len ≡ 0
      → after ≡ with_progress s top below (Through tried) → IsAllotted s s.frames (Ok (Fits place)) after
  waited_through noted tried place p q t none is =
      subst (λ (fs : List Frame). IsAllotted s fs (Ok (Fits place)) after) (sym top_is)
      (subst (λ (x : Purpose). HasFit s top below x top.progress place after) (sym p)
      (subst (λ (x : Progress). HasFit s top below Close x place after) (sym q) (
        none,
        is ∙ ap (λ (n : ℕ). with_progress s top below (Through n)) (t ∙ first_is noted),
        passes tried p (ap state_of q)
            (λ start h k.
            subst (λ (n : ℕ). n ≤ opened s) (sym t) (tried_first noted (stands (Waiting noted) q start h k).0)) is,
      )))

  pub stayed_through : (noted : ℕ) (place : Place) → top.purpose ≡ Close → top.progress ≡ Through noted → place.len ≡ 0
      → after ≡ with_progress s top below (Through noted) → IsAllotted s s.frames (Ok (Fits place)) after
  stayed_through noted place p q none is =
      subst (λ (fs : List Frame). IsAllotted s fs (Ok (Fits place)) after) (sym top_is)
      (subst (λ (x : Purpose). HasFit s top below x top.progress place after) (sym p)
      (subst (λ (x : Progress). HasFit s top below Close x place after) (sym q)
      (none, is, passes noted p (ap state_of q) (λ start h k. (stands (Through noted) q start h k).1) is)))

-- a record as nearly all are is reserved
pub plain_after : (s after : Stack) (pushed : Pushed) (place : Place) → IsPlainTop s pushed
    → ((top : Frame) (below : List Frame) → IsTop s top below
    → ReservesRecord s top below pushed.moment pushed.len place after) → HasEvents s (reserve ∷ []) after
    → IsAllotted s s.frames (Ok (Fits place)) after
plain_after s after pushed place p reserved has_events =
    subst (λ (fs : List Frame). IsAllotted s fs (Ok (Fits place)) after) (sym p.on_top) (
      reserved record { purpose = Record pushed.moment pushed.len; progress = Waiting None } p.below p.on_top,
      has_events,
    )
