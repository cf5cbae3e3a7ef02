-- The oldest page, released.
use Rattle.std.proofs.Common.{◌≡◌, ℕ, suc, ◌+◌, ◌-◌, ◌<◌, List, [], ◌∷◌, ◌++◌, length, IfSome, sym, ap, ◌∙◌, subst}
use Rattle.std.proofs.Common.{arith, append-nil}
use Rattle.std.specs.Prelude.{Bool}
use Rattle.std.specs.List.{slice_get}
use Rattle.trace_model.specs.History.{HistoryEvent, Reservation, reserved_records}
use Rattle.trace_model.specs.Packing.{opens_of, is_wished}
use Rattle.trace_model.specs.Frames.{Progress, number_of}
use Rattle.page_image.specs.Contents.{Contents}
use Rattle.nested_writer.specs.declared.frame.Frame.{Frame}
use Rattle.nested_writer.specs.Stack.{Stack, tail_fill}
use Rattle.nested_writer.specs.Calls.{IsAtBottom}
use Rattle.nested_writer.specs.IsStack.{IsPageOf, AreBefore, IsStackOf, IsStack}
use Rattle.nested_writer.proofs.Standing.{as_many, frames_on}
use Rattle.nested_writer.proofs.Leaving.{left_is}

none_reserved : (frames : List Frame) → IsAtBottom frames → AreBefore 0 frames
none_reserved [] at = absurd at
none_reserved (bottom ∷ []) at =
    (subst (λ (state : Progress). IfSome (number_of state) (λ k. k < 0)) (sym (left_is bottom.progress at)) tt, tt)
none_reserved (bottom ∷ next ∷ below) at = absurd at

module _ (start : ℕ) (cuts : List ℕ) (records : List Reservation) (found : Bool) (s : Stack) (first : Contents)
    (rest : List Contents) (older : s.older ≡ first ∷ rest) (k : IsStackOf start cuts records found s) where
  -- it is the first fill that isn't closed
  pub oldest : IsPageOf s.size s.done cuts records (s.done - start) first
  oldest = let q = k.older_are 0 first (ap (λ (l : List Contents). slice_get l 0) older) in
      subst (λ (f : ℕ). IsPageOf s.size f cuts records (s.done - start) first)
      (let e : s.done + 0 ≡ s.done = omega arith in e)
      (subst (λ (i : ℕ). IsPageOf s.size (s.done + 0) cuts records i first)
      (let e : s.done - start + 0 ≡ s.done - start = omega arith in e) q)

  of_released : IsAtBottom s.frames → IsStackOf start cuts records found (record s { done = s.done + 1; older = rest })
  of_released bottom =
      let long : length s.older ≡ suc (length rest) = ap length older in
      let low = k.from_start in
      record {
        begun = let begun = k.begun in omega arith;
        from_start = omega arith;
        rising = k.rising;
        room = k.room;
        last_is = k.last_is;
        in_time = k.in_time;
        large = k.large;
        older_are = λ j page at.
            subst (λ (f : ℕ). IsPageOf s.size f cuts records (s.done + 1 - start + j) page)
            (let e : s.done + suc j ≡ s.done + 1 + j = omega arith in e)
            (subst (λ (i : ℕ). IsPageOf s.size (s.done + suc j) cuts records i page)
            (let e : s.done - start + suc j ≡ s.done + 1 - start + j = omega arith in e)
            (k.older_are (suc j) page (ap (λ (l : List Contents). slice_get l (suc j)) older ∙ at)));
        tail_is =
            subst (λ (f : ℕ). IsPageOf s.size f cuts records (length cuts) s.tail)
            (let e : tail_fill s ≡ s.done + 1 + length rest = omega arith in e) k.tail_is;
        frames_are =
            frames_on s.size s.done s.older s.tail cuts records found (s.done + 1) rest s.tail cuts records found 0
            (as_many (omega arith) (λ kind state needs. needs)) (λ n l none. absurd (omega arith))
            s.frames (none_reserved s.frames bottom) k.frames_are;
      }

pub released : (start : ℕ) (h : List HistoryEvent) (s : Stack) (first : Contents) (rest : List Contents) (closed : ℕ)
    → s.older ≡ first ∷ rest → closed ≡ s.done + 1 → IsAtBottom s.frames → IsStack start h s
    → IsStack start (h ++ []) (record s { done = closed; older = rest })
released start h s first rest closed older is bottom k =
    subst (λ (g : List HistoryEvent). IsStack start g (record s { done = closed; older = rest })) (sym (append-nil h))
    (rw is record {
      keeps = k.keeps;
      stack_is = k.stack_is;
      fit = k.fit;
      holds = of_released start (opens_of h) (reserved_records h) (is_wished h) s first rest older k.holds bottom;
    })
