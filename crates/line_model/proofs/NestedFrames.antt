-- What a line has a frame do, if there are others below it, ends with its leave.
use Rattle.std.proofs.Common.{◌≡◌, ℕ, List, [], ◌∷◌, ◌++◌, Option, Some, None, refl, sym, ap, ◌∙◌, inl, inr}
use Rattle.trace_model.specs.History.{push, push_close, open_fill, reserve, leave, wished}
use Rattle.trace_model.specs.Window.{RingEvent, acts, closes, takes, loses}
use Rattle.line_model.specs.Accounts.{LineFrame, IsThere, IsOwn, Does}

module _ (next : LineFrame) (below : List LineFrame) where
  not_there : (frame : LineFrame) → frame.payload ≡ None → IsThere (next ∷ below) frame → ⊥
  not_there frame none (inl some) = some none
  not_there frame none (inr empty) = cc

  -- a frame that has left does nothing
  none_own : (frame : LineFrame) (event : RingEvent) → frame.payload ≡ None → IsOwn (next ∷ below) frame event → ⊥
  none_own frame (acts (push moment len)) none own = own
  none_own frame (acts push_close) none own = own
  none_own frame (acts open_fill) none own = not_there frame none own
  none_own frame (acts reserve) none own = own none
  none_own frame (acts (leave None)) none own = own none
  none_own frame (acts (leave (Some bytes))) none (payload, is, bytes_are) =
      let both : Some payload ≡ None = sym is ∙ none in cc
  none_own frame (acts wished) none own = let same : next ∷ below ≡ [] = own.1 in cc
  none_own frame closes none own = let same : next ∷ below ≡ [] = own.1 in cc
  none_own frame takes none own = own
  none_own frame loses none own = not_there frame none own

  does_none : (frame after : LineFrame) (own : List RingEvent)
      → frame.payload ≡ None
      → Does (next ∷ below) frame own after
      → own ≡ []
  does_none frame after [] none does = refl
  does_none frame after (event ∷ own) none does = absurd (none_own frame event none does.0)

  abbrev EndsByLeaving : List RingEvent → Type 0
  EndsByLeaving own =
      (front : List RingEvent) × (written : Option (List ℕ)) × (own ≡ front ++ acts (leave written) ∷ [])

  -- one event more before them
  one_more : (event : RingEvent) (own : List RingEvent) → EndsByLeaving own → EndsByLeaving (event ∷ own)
  one_more event own (front, written, is) = (event ∷ front, written, ap (λ (l : List RingEvent). event ∷ l) is)

  -- it leaves, and that is the last
  leaves_last : (written : Option (List ℕ)) (frame after : LineFrame) (own : List RingEvent)
      → frame.payload ≡ None
      → Does (next ∷ below) frame own after
      → EndsByLeaving (acts (leave written) ∷ own)
  leaves_last written frame after own none does =
      ([], written, ap (λ (l : List RingEvent). acts (leave written) ∷ l) (does_none frame after own none does))

  ends_by_leaving : (frame after : LineFrame) (own : List RingEvent) (payload : List ℕ)
      → frame.payload ≡ Some payload
      → Does (next ∷ below) frame own after
      → after.payload ≡ None
      → EndsByLeaving own
  ends_by_leaving frame after [] payload some does none =
      absurd (let both : Some payload ≡ None = sym some ∙ sym (ap (λ (f : LineFrame). f.payload) does) ∙ none in cc)
  ends_by_leaving frame after (acts (push moment len) ∷ own) payload some does none = absurd does.0
  ends_by_leaving frame after (acts push_close ∷ own) payload some does none = absurd does.0
  ends_by_leaving frame after (acts open_fill ∷ own) payload some does none =
      one_more _ own (ends_by_leaving _ after own payload some does.1 none)
  ends_by_leaving frame after (acts reserve ∷ own) payload some does none =
      one_more _ own (ends_by_leaving _ after own payload some does.1 none)
  ends_by_leaving frame after (acts (leave written) ∷ own) payload some does none =
      leaves_last written _ after own refl does.1
  ends_by_leaving frame after (acts wished ∷ own) payload some does none =
      one_more _ own (ends_by_leaving _ after own payload some does.1 none)
  ends_by_leaving frame after (closes ∷ own) payload some does none =
      one_more _ own (ends_by_leaving _ after own payload some does.1 none)
  ends_by_leaving frame after (takes ∷ own) payload some does none = absurd does.0
  ends_by_leaving frame after (loses ∷ own) payload some does none =
      one_more _ own (ends_by_leaving _ after own payload some does.1 none)

pub nested_frames_end_by_leaving : (frame next after : LineFrame) (below : List LineFrame) (own : List RingEvent)
    (payload : List ℕ)
    → frame.payload ≡ Some payload
    → Does (next ∷ below) frame own after
    → after.payload ≡ None
    → (front : List RingEvent) × (written : Option (List ℕ)) × (own ≡ front ++ acts (leave written) ∷ [])
nested_frames_end_by_leaving frame next after below own payload some does none =
    ends_by_leaving next below frame after own payload some does none
