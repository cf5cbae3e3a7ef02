-- What holds of frames stays so if what is around them changes.
use Rattle.std.proofs.Common.{◌≡◌, ℕ, ◌+◌, ◌-◌, ◌<◌, ◌≤◌, Bool, List, [], ◌∷◌, length, Option, Some, None, IfSome, ap}
use Rattle.std.proofs.Common.{◌∙◌, arith}
use Rattle.std.proofs.lemmas.Option.{none-some, slice_get_within}
use Rattle.std.specs.List.{slice_get}
use Rattle.trace_model.specs.History.{Reservation}
use Rattle.trace_model.specs.Overwriting.{IsPlaceOf}
use Rattle.trace_model.specs.Fitting.{NeedsFill}
use Rattle.trace_model.specs.Frames.{Purpose, waiting, left, number_of}
use Rattle.trace_model.specs.Frames as frames_model
use Rattle.trace_model.proofs.collections.Elements.{some_is}
use Rattle.page_image.specs.Contents.{Contents}
use Rattle.nested_writer.specs.declared.frame.Slot.{Slot}
use Rattle.nested_writer.specs.declared.frame.Progress.{Progress}
use Rattle.nested_writer.specs.declared.frame.Progress.TheVariants.{Waiting, Through, Reserved, Left}
use Rattle.nested_writer.specs.declared.frame.Frame.{Frame}
use Rattle.nested_writer.specs.Stack.{kind_of, state_of}
use Rattle.nested_writer.specs.IsStack.{IsOpenPage, IsUnwritten, IsNoted, StandsAt, AreBefore, FramesStand}

-- a record is unwritten in this page, if that is open and has its place, and the record keeps its number
pub unwritten_in : {done done' : ℕ} {older older' : List Contents} {tail tail' : Contents}
    {records records' : List Reservation} {len : ℕ} {slot : Slot} (page : Contents)
    (lies : IsUnwritten done older tail records len slot)
    → IsOpenPage done' older' tail' slot.fill page
    → page.first ≤ slot.number
    → IsPlaceOf page.bytes (slot.number - page.first) slot.place.start slot.place.len
    → slice_get records' slot.number ≡ Some lies.reservation
    → IsUnwritten done' older' tail' records' len slot
unwritten_in page lies open_page first_le place at = record {
  page = page;
  open_page = open_page;
  first_le = first_le;
  place = place;
  fills_slot = lies.fills_slot;
  reservation = lies.reservation;
  at = at;
  len_is = lies.len_is;
  unwritten = lies.unwritten;
}

-- what a frame noted, after more fills are begun
noted_later : (o o' : ℕ) (noted : Option ℕ) → o ≤ o' → IsNoted o noted → IsNoted o' noted
noted_later o o' None le n = tt
noted_later o o' (Some k) le n = omega arith

-- it isn't their number now
noted_before : (o o' : ℕ) (noted : Option ℕ) → o < o' → IsNoted o noted → noted ≡ Some o' → ⊥
noted_before o o' None low n e = none-some o' e
noted_before o o' (Some k) low n e = let same : k ≡ o' = some_is k o' e in omega arith

-- What is around frames becomes other: as many fills are begun, and what was needed is needed; or more are.
pub data BecomesOther (size done : ℕ) (older : List Contents) (cuts : List ℕ) (records : List Reservation)
    (found : Bool)
    (done' : ℕ) (older' : List Contents) (cuts' : List ℕ) (records' : List Reservation) (found' : Bool) : Type 0 where
  as_many : done' + length older' ≡ done + length older
      → ((kind : Purpose) (state : frames_model.Progress) → NeedsFill size cuts records found kind state
      → NeedsFill size cuts' records' found' kind state)
      → BecomesOther size done older cuts records found done' older' cuts' records' found'
  more : done + length older < done' + length older'
      → BecomesOther size done older cuts records found done' older' cuts' records' found'

module _ (size done : ℕ) (older : List Contents) (tail : Contents) (cuts : List ℕ) (records : List Reservation)
    (found : Bool) (done' : ℕ) (older' : List Contents) (tail' : Contents) (cuts' : List ℕ)
    (records' : List Reservation) (found' : Bool) (bound : ℕ)
    (becomes : BecomesOther size done older cuts records found done' older' cuts' records' found')
    (lies : (len : ℕ) (slot : Slot) → slot.number < bound → IsUnwritten done older tail records len slot
    → IsUnwritten done' older' tail' records' len slot) where
  no_fewer : done + length older ≤ done' + length older'
  no_fewer = elim becomes [ as_many same needs ↦ omega arith | more low ↦ omega arith ]

  needs_on : (kind : Purpose) (state : frames_model.Progress) (noted : Option ℕ)
      → IsNoted (done + length older + 1) noted
      → (noted ≡ Some (done + length older + 1) → NeedsFill size cuts records found kind state)
      → noted ≡ Some (done' + length older' + 1)
      → NeedsFill size cuts' records' found' kind state
  needs_on kind state noted n needs e = elim becomes [
    | as_many same on ↦ on kind state (needs (e ∙ ap (λ (k : ℕ). Some (k + 1)) same))
    | more low ↦ absurd (noted_before (done + length older + 1) (done' + length older' + 1) noted (omega arith) n e)
  ]

  stands_on : (kind : Purpose) (progress : Progress) → IfSome (number_of (state_of progress)) (λ number. number < bound)
      → StandsAt size done older tail cuts records found kind progress
      → StandsAt size done' older' tail' cuts' records' found' kind progress
  stands_on kind (Waiting noted) before st = (
    let fewer = no_fewer in
        noted_later (done + length older + 1) (done' + length older' + 1) noted (omega arith) st.0,
    needs_on kind waiting noted st.0 st.1,
  )
  stands_on kind (Through noted) before st = (st.0, let fewer = no_fewer in let low = st.1 in omega arith)
  stands_on kind (Reserved slot) before (moment, len, is, open_yet) = (moment, len, is, lies len slot before open_yet)
  stands_on kind (Left noted) before st = (
    let fewer = no_fewer in
        noted_later (done + length older + 1) (done' + length older' + 1) noted (omega arith) st.0,
    needs_on kind left noted st.0 st.1,
  )

  pub frames_on : (frames : List Frame) → AreBefore bound frames
      → FramesStand size done older tail cuts records found frames
      → FramesStand size done' older' tail' cuts' records' found' frames
  frames_on [] before st = tt
  frames_on (f ∷ below) before st = (
    st.0,
    stands_on (kind_of f.purpose) f.progress before.0 st.1,
    st.2,
    st.3,
    frames_on below before.1 st.4,
  )

-- the frames' records are among those that are reserved
pub all_before : (size done : ℕ) (older : List Contents) (tail : Contents) (cuts : List ℕ) (records : List Reservation)
    (found : Bool) (frames : List Frame) → FramesStand size done older tail cuts records found frames
    → AreBefore (length records) frames
all_before size done older tail cuts records found [] st = tt
all_before size done older tail cuts records found (f ∷ below) st =
    (number_before (kind_of f.purpose) f.progress st.1, all_before size done older tail cuts records found below st.4)
  where
    number_before : (kind : Purpose) (progress : Progress)
        → StandsAt size done older tail cuts records found kind progress
        → IfSome (number_of (state_of progress)) (λ number. number < length records)
    number_before kind (Waiting noted) at = tt
    number_before kind (Through noted) at = tt
    number_before kind (Reserved slot) (moment, len, is, lies) =
        slice_get_within records slot.number lies.reservation lies.at
    number_before kind (Left noted) at = tt
