-- What an answer of allot states of the fills that a history leaves.
use Rattle.std.proofs.Common.{◌≡◌, ◌≢◌, ℕ, ◌<◌, ◌⊎◌, ◌+◌, List, [], ◌∷◌, ◌++◌, length, Option, Some, None, Result, Ok}
use Rattle.std.proofs.Common.{Err, subst, refl, sym, ap, ◌∙◌, inl, inr, arith}
use Rattle.trace_model.specs.declared.limits.TheConstants.{LINK_FILLS}
use Rattle.trace_model.specs.History.{HistoryEvent, Reservation, reservation_for, reserved_records}
use Rattle.trace_model.specs.Packing.{opens_of, fill_len, tail_of, is_wished}
use Rattle.trace_model.proofs.packing.PackedHistories.{tail_is}
use Rattle.record_words.specs.declared.put.Place.{Place}
use Rattle.nested_writer.specs.declared.fault.WriteFault.{WriteFault}
use Rattle.nested_writer.specs.declared.fault.WriteFault.TheVariants.{Crowded, Worn}
use Rattle.nested_writer.specs.declared.stack.allot.Allot.{Allot}
use Rattle.nested_writer.specs.declared.stack.allot.Allot.TheVariants.{Fits, NeedsPage}
use Rattle.nested_writer.specs.declared.frame.Purpose.{Purpose}
use Rattle.nested_writer.specs.declared.frame.Purpose.TheVariants.{Record, Close}
use Rattle.nested_writer.specs.declared.frame.Progress.{Progress}
use Rattle.nested_writer.specs.declared.frame.Progress.TheVariants.{Waiting, Through, Reserved, Left}
use Rattle.nested_writer.specs.declared.frame.Frame.{Frame}
use Rattle.nested_writer.specs.declared.frame.Pushed.{Pushed}
use Rattle.nested_writer.specs.Stack.{Stack, opened, next_number, kind_of}
use Rattle.nested_writer.specs.Calls.{end_with, IsUnchanged, WantsPage, IsCrowded, IsWorn}
use Rattle.nested_writer.specs.Answered.{FitsTail, IsBegunSince, WantsFill, HasItsFill, IsAllotAnswerTop, IsAllotAnswer}
use Rattle.nested_writer.specs.PlainTop.{IsPlainTop}
use Rattle.nested_writer.specs.IsStack.{StandsAt, FramesStand, IsStack}
use Rattle.nested_writer.proofs.Reserving.{number_is, end_is}
use Rattle.nested_writer.proofs.Plain.{plain_room}
use Rattle.nested_writer.proofs.Releasing.{tail_empty, tail_holds}

module _ (start : ℕ) (h : List HistoryEvent) (s : Stack) (k : IsStack start h s) where
  -- what the tail takes with one record more
  tail_end : (moment len : ℕ)
      → fill_len (tail_of h ++ reservation_for moment len (reserved_records h) ∷ []) ≡ end_with s moment len
  tail_end moment len =
      ap (λ (l : List Reservation). fill_len (l ++ reservation_for moment len (reserved_records h) ∷ [])) (tail_is h)
      ∙ end_is start (opens_of h) (reserved_records h) (is_wished h) s k.holds moment len

  pub number_counts : next_number s ≡ length (reserved_records h)
  number_counts = number_is start (opens_of h) (reserved_records h) (is_wished h) s k.holds

  pub wants_fill : (purpose : Purpose) (progress : Progress) → WantsPage s purpose progress
      → WantsFill s h purpose progress
  wants_fill (Record moment len) (Waiting noted) wants = λ fits. let e = tail_end moment len in absurd (omega arith)
  wants_fill Close (Waiting noted) wants = (tail_holds start h s k wants.0, wants.1)
  wants_fill (Record moment len) (Through noted) wants = absurd wants
  wants_fill Close (Through noted) wants = (tail_holds start h s k wants.0, wants.1)
  wants_fill (Record moment len) (Reserved slot) wants = absurd wants
  wants_fill Close (Reserved slot) wants = absurd wants
  wants_fill (Record moment len) (Left noted) wants = absurd wants
  wants_fill Close (Left noted) wants = absurd wants

  pub record_fits : (moment len : ℕ) → (s.size < end_with s moment len → ⊥) → FitsTail s h moment len
  record_fits moment len room = let e = tail_end moment len in omega arith

  empty_or : {A : Type 0} → ((s.tail.bytes ≢ []) → A) → (tail_of h ≡ []) ⊎ A
  empty_or {A} other = by_bytes s.tail.bytes refl
    where
      by_bytes : (bytes : List ℕ) → s.tail.bytes ≡ bytes → (tail_of h ≡ []) ⊎ A
      by_bytes [] is = inl (tail_empty start h s k is)
      by_bytes (b ∷ bytes) is = inr (other (λ none. let e : b ∷ bytes ≡ [] = sym is ∙ none in cc))

  begun_since : (noted : Option ℕ) → (IsUnchanged s noted → ⊥) → IsBegunSince s noted
  begun_since None changed = changed tt
  begun_since (Some n) changed = changed

  pub has_its_fill : (purpose : Purpose) (noted : Option ℕ) → (WantsPage s purpose (Waiting noted) → ⊥)
      → HasItsFill s h purpose (Waiting noted)
  has_its_fill (Record moment len) noted not = (record_fits moment len not, number_counts)
  has_its_fill Close noted not = empty_or (λ some. begun_since noted (λ same. not (some, same)))

  pub close_has_its_fill : (noted : ℕ) → (WantsPage s Close (Through noted) → ⊥) → HasItsFill s h Close (Through noted)
  close_has_its_fill noted not = empty_or (λ some same. not (some, same))

  -- ---- by the frames on the stack

  module _ (top : Frame) (below : List Frame) (top_is : s.frames ≡ top ∷ below) where
    answered : (result : Result Allot WriteFault) → IsAllotAnswerTop s h top result → IsAllotAnswer s h s.frames result
    answered result is = subst (λ (fs : List Frame). IsAllotAnswer s h fs result) (sym top_is) is

    pub crowded_answer : WantsPage s top.purpose top.progress → IsCrowded s → IsAllotAnswer s h s.frames (Err Crowded)
    crowded_answer wants crowded = answered (Err Crowded) (wants_fill top.purpose top.progress wants, crowded)

    pub worn_answer : WantsPage s top.purpose top.progress → (IsCrowded s → ⊥) → IsWorn s
        → IsAllotAnswer s h s.frames (Err Worn)
    worn_answer wants room worn = answered (Err Worn) (wants_fill top.purpose top.progress wants, room, worn)

    pub page_answer : WantsPage s top.purpose top.progress → (IsCrowded s → ⊥) → opened s + s.pages < LINK_FILLS
        → IsAllotAnswer s h s.frames (Ok NeedsPage)
    page_answer wants room fills = answered (Ok NeedsPage) (wants_fill top.purpose top.progress wants, room, fills)

    pub fits_answer : (noted : Option ℕ) (place : Place) → top.progress ≡ Waiting noted
        → (WantsPage s top.purpose top.progress → ⊥) → IsAllotAnswer s h s.frames (Ok (Fits place))
    fits_answer noted place q not =
        answered (Ok (Fits place))
        (subst (HasItsFill s h top.purpose) (sym q)
        (has_its_fill top.purpose noted (λ wants. not (subst (WantsPage s top.purpose) (sym q) wants))))

    pub close_answer : (noted : ℕ) (place : Place) → top.purpose ≡ Close → top.progress ≡ Through noted
        → (WantsPage s top.purpose top.progress → ⊥) → IsAllotAnswer s h s.frames (Ok (Fits place))
    close_answer noted place p q not =
        answered (Ok (Fits place))
        (subst (λ (x : Purpose). HasItsFill s h x top.progress) (sym p)
        (subst (HasItsFill s h Close) (sym q)
        (close_has_its_fill noted
        (λ wants.
        not (subst (λ (x : Purpose). WantsPage s x top.progress) (sym p)
        (subst (WantsPage s Close) (sym q) wants))))))

    -- only a close frame is through
    pub through_closes : (noted moment len : ℕ) → top.purpose ≡ Record moment len → top.progress ≡ Through noted → ⊥
    through_closes noted moment len p q =
        let stands =
        (subst (FramesStand s.size s.done s.older s.tail (opens_of h) (reserved_records h) (is_wished h)) top_is
        k.holds.frames_are).1 in
        let closes =
        (subst
        (StandsAt s.size s.done s.older s.tail (opens_of h) (reserved_records h) (is_wished h)
        (kind_of top.purpose)) q stands).0 in
        let record_closes = sym (ap kind_of p) ∙ closes in cc

  -- a record as nearly all are
  pub plain_answer : (pushed : Pushed) (place : Place) → IsPlainTop s pushed
      → IsAllotAnswer s h s.frames (Ok (Fits place))
  plain_answer pushed place p =
      fits_answer record { purpose = Record pushed.moment pushed.len; progress = Waiting None } p.below p.on_top None
      place refl (λ wants. let room = plain_room s pushed.moment pushed.len p.fits in omega arith)
