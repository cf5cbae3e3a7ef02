-- What the frame on top is asked for: a step, or the end of its record with the payload that was put into its slot.
use Rattle.std.proofs.Common.{◌≡◌, ℕ, ◌+◌, ◌-◌, ◌≤◌, List, [], ◌∷◌, ◌++◌, length, replicate, get_or, map, reverse, Some}
use Rattle.std.proofs.Common.{refl, sym, ap, ◌∙◌, subst, arith}
use Rattle.std.proofs.lemmas.List.{length-map, length-reverse, get_or-map, get_or-reverse}
use Rattle.trace_model.specs.Words.{slot_len, padded}
use Rattle.trace_model.specs.Frames.{Purpose, for_record, for_close, reserved, Frame}
use Rattle.trace_model.specs.Frames as frames_model
use Rattle.trace_model.specs.Steps as model
use Rattle.trace_model.specs.Steps.{steps, ends}
use Rattle.trace_model.proofs.words.Lengths.{slot_len_ge, length-padded}
use Rattle.ring_model.specs.KeptStack.{IsForRecord, MayBeIn, FramesAgree}
use Rattle.ring_model.specs.RingKept.{IsRingKept}
use Rattle.ring_model.proofs.partition.RingsKept.{reached_kept}
use Rattle.world_model.specs.Lanes.{Lane, FitsKind, FitFrames, event_in, event_on_top}
use Rattle.nested_writer.specs.declared.frame.Slot.{Slot}
use Rattle.nested_writer.specs.declared.frame.Progress.{Progress}
use Rattle.nested_writer.specs.declared.frame.Progress.TheVariants.{Waiting, Through, Reserved, Left}
use Rattle.nested_writer.specs.declared.frame.Frame as stack
use Rattle.nested_writer.specs.Stack.{Stack, state_of}
use Rattle.nested_writer.specs.Calls.{IsTopSlot}
use Rattle.nested_writer.specs.Next.{place_of, top_place}
use Rattle.nested_writer.specs.Lending.{with_slot}
use Rattle.ring_frames.specs.declared.phase.Phase.{Phase}
use Rattle.ring_frames.specs.declared.answer.Answer.{Answer}
use Rattle.ring_core.specs.Value.{CoreValue}
use Rattle.ring_frames.specs.AreFrames.{frames_in_phases}
use Rattle.ring_frames.proofs.Lent.{slot_keeps}
use Rattle.ring_core.specs.IsCore.{HasStateOf, IsCore}
use Rattle.ring_frames.specs.Answers.{top_bytes}
use Rattle.ring_core.specs.Steps.{IsStep, MakesStep}
use Rattle.ring_core.specs.Lending.{with_reserved, with_top_bytes, with_slot_payload, StaysRing, FitsFrame}
use Rattle.script_replay.specs.Value.{LaneValue}
use Rattle.script_replay.specs.Lanes.{IsLane}
use Rattle.script_replay.specs.Frames.{AsksTop}

-- ---- a frame that has no record makes a step

steps_in : (p : Progress) (payloads : List (List ℕ))
    → ((slot : Slot) → p ≡ Reserved slot → ⊥)
    → event_in (state_of p) payloads ≡ steps
steps_in (Waiting noted) payloads none = refl
steps_in (Through noted) payloads none = refl
steps_in (Reserved slot) payloads none = absurd (none slot refl)
steps_in (Left noted) payloads none = refl

steps_on_top : (frames : List stack.Frame) (phase : Phase) (below : List Phase) (payloads : List (List ℕ))
    → ((slot : Slot) → IsTopSlot frames slot → ⊥)
    → event_on_top (frames_in_phases frames (phase ∷ below)) payloads ≡ steps
steps_on_top [] phase below payloads none = refl
steps_on_top (top ∷ frames) phase below payloads none = steps_in top.progress payloads none

pub asked_step : (old : LaneValue) (answer : Answer) (new : CoreValue)
    → ((slot : Slot) → IsTopSlot old.core.stack.frames slot → ⊥)
    → MakesStep old.core steps answer new
    → AsksTop old answer new
asked_step old answer new none makes n size start cpu lane is =
    let k : HasStateOf n size start old.core lane.core = is.is_core.shows in
    let asks : event_on_top lane.core.frames lane.payloads
    ≡ steps = ap (λ (fs : List Frame). event_on_top fs lane.payloads) k.frames.frames_are
    ∙ steps_on_top old.core.stack.frames old.core.phase old.core.below lane.payloads none in
    subst (λ (e : model.Event). IsStep n size start lane.core e answer new) (sym asks)
    (makes n size start lane.core is.is_core)

-- a slot on top has a place
pub top_has_place : (frames : List stack.Frame) (slot : Slot)
    → IsTopSlot frames slot
    → top_place frames ≡ Some slot.place
top_has_place [] slot none = absurd none
top_has_place (f ∷ frames) slot has = ap place_of has

-- ---- a record that is reserved, and its payload

for_record_is : (kind : Purpose) → IsForRecord kind → (moment : ℕ) × (len : ℕ) × (kind ≡ for_record moment len)
for_record_is (for_record moment len) of = (moment, len, refl)
for_record_is for_close of = absurd of

shown_top : (frames : List stack.Frame) (phase : Phase) (below : List Phase) (slot : Slot)
    → IsTopSlot frames slot
    → (frame : Frame) × (under : List Frame) × (frames_in_phases frames (phase ∷ below) ≡ frame ∷ under)
    × (frame.state ≡ reserved slot.number)
shown_top [] phase below slot top = absurd top
shown_top (f ∷ frames) phase below slot top = (_, _, refl, ap state_of top)

top_payload : (frames : List Frame) (payloads : List (List ℕ)) (frame : Frame) (below : List Frame)
    → frames ≡ frame ∷ below
    → FitFrames frames payloads
    → (payload : List ℕ) × (rest : List (List ℕ)) × (payloads ≡ payload ∷ rest) × FitsKind frame.kind payload
top_payload frames payloads frame below top fit =
    of_top payloads (subst (λ (fs : List Frame). FitFrames fs payloads) top fit)
  where
    of_top : (payloads : List (List ℕ))
        → FitFrames (frame ∷ below) payloads
        → (payload : List ℕ) × (rest : List (List ℕ)) × (payloads ≡ payload ∷ rest) × FitsKind frame.kind payload
    of_top [] fit = absurd fit
    of_top (payload ∷ rest) fit = (payload, rest, refl, fit.0)

-- the payload of the frame on top, whose record is in this slot
pub record HasTopPayload (old : LaneValue) (lane : Lane) (slot : Slot) : Type 0 where
  pub payload : List ℕ
  pub rest : List (List ℕ)
  pub payloads_are : old.payloads ≡ payload ∷ rest
  pub slot_is : slot.place.len ≡ slot_len (length payload)
  pub event_is : event_on_top lane.core.frames lane.payloads ≡ ends (padded payload)

pub has_top_payload : (n size start cpu : ℕ) (old : LaneValue) (lane : Lane) (slot : Slot)
    → IsLane n size start cpu old lane
    → IsTopSlot old.core.stack.frames slot
    → FitsFrame old.core slot
    → HasTopPayload old lane slot
has_top_payload n size start cpu old lane slot is top fits =
    let k : HasStateOf n size start old.core lane.core = is.is_core.shows in
    let r : IsRingKept n size start lane.core = reached_kept n size start lane.core is.is_core.reached in
    let (frame, under, shown, state) = shown_top old.core.stack.frames old.core.phase old.core.below slot top in
    let frames_are : lane.core.frames ≡ frame ∷ under = k.frames.frames_are ∙ shown in
    let agree : FramesAgree (frame ∷ under) = subst FramesAgree frames_are r.stack.agree in
    let may : MayBeIn frame.kind (reserved slot.number) frame.phase =
    subst (λ (s : frames_model.Progress). MayBeIn frame.kind s frame.phase) state agree.0 in
    let (moment, len, kind) = for_record_is frame.kind may.0 in
    let (payload, rest, payloads, long) = top_payload lane.core.frames lane.payloads frame under frames_are is.fit in
    let len_is : length payload ≡ len = subst (λ (x : Purpose). FitsKind x payload) kind long in record {
      payload = payload;
      rest = rest;
      payloads_are = is.payloads_are ∙ payloads;
      slot_is = fits n size start lane.core frame under moment len is.is_core frames_are kind
          ∙ ap slot_len (sym len_is);
      event_is = ap (λ (fs : List Frame). event_on_top fs lane.payloads) frames_are
          ∙ ap (event_in frame.state) payloads
          ∙ ap (λ (s : frames_model.Progress). event_in s (payload ∷ rest)) state;
    }

-- ---- the end of its record

top_is_slot : (s : Stack) (frames : List stack.Frame) (slot : Slot) (part : List ℕ)
    → IsTopSlot frames slot
    → with_top_bytes s frames part ≡ with_slot s slot part
top_is_slot s [] slot part top = absurd top
top_is_slot s (f ∷ frames) slot part top = ap (λ (p : Progress). with_reserved s p part) top

-- this payload is the first one, if there is one
abbrev pub IsFirst : List ℕ → List (List ℕ) → Type 0
IsFirst payload payloads = (first : List ℕ) (rest : List (List ℕ)) → payloads ≡ first ∷ rest → payload ≡ first

-- the index of the last item is one less than their number
pub last_of : {B : Type 0} (f : B → List ℕ) (items : List B) (kept : ℕ) (payload : List ℕ) (rest : List (List ℕ))
    → reverse (map f items) ≡ payload ∷ rest
    → kept ≡ length items
    → kept - 1 + 1 ≡ length items
last_of f items kept payload rest is same =
    omega (arith, same, length-map items f, length-reverse (map f items), ap (λ (l : List (List ℕ)). length l) is)

-- the last one that is kept is the first one that is shown
pub is_first : {B : Type 0} (f : B → List ℕ) (items : List B) (last : ℕ) (x : B)
    → last + 1 ≡ length items
    → x ≡ get_or items last x
    → IsFirst (f x) (reverse (map f items))
is_first f items last x long at first rest is =
    let xs : List (List ℕ) = map f items in
    let as_long : length xs ≡ length items = length-map items f in
    ap f at
    ∙ sym (get_or-map f items last x (f x) (omega (arith, long)))
    ∙ ap (λ (k : ℕ). get_or xs k (f x)) (let e : last ≡ length xs - 1 - 0 = omega (arith, as_long, long) in e)
    ∙ sym (get_or-reverse xs 0 (f x) (omega (arith, as_long, long)))
    ∙ ap (λ (l : List (List ℕ)). get_or l 0 (f x)) is

pub asked_end : (old : LaneValue) (slot : Slot) (payload part : List ℕ) (answer : Answer) (new : CoreValue)
    → IsTopSlot old.core.stack.frames slot
    → FitsFrame old.core slot
    → StaysRing old.core
    → length (top_bytes old.core.stack old.core.stack.frames) ≡ slot.place.len
    → ((part : List ℕ) → length part ≡ slot.place.len
    → top_bytes (with_slot old.core.stack slot part) old.core.stack.frames ≡ part)
    → IsFirst payload old.payloads
    → part ≡ payload ++ replicate (slot.place.len - length payload) 0
    → MakesStep (with_slot_payload old.core slot part)
    (ends (top_bytes (with_slot old.core.stack slot part) (with_slot old.core.stack slot part).frames)) answer new
    → AsksTop old answer new
asked_end old slot payload part answer new top fits stays long written front part_is makes n size start cpu lane is =
    let h : HasTopPayload old lane slot = has_top_payload n size start cpu old lane slot is top fits in
    let same : h.payload ≡ payload = sym (front h.payload h.rest h.payloads_are) in
    let slot_is : slot.place.len ≡ slot_len (length payload) = h.slot_is
    ∙ ap (λ (p : List ℕ). slot_len (length p)) same in
    let whole : part ≡ padded payload = part_is ∙ ap (λ (k : ℕ). payload ++ replicate (k - length payload) 0) slot_is in
    let fills : length part ≡ slot.place.len = ap (λ (p : List ℕ). length p) whole ∙ length-padded payload
    ∙ sym slot_is in
    let core : IsCore n size start (with_slot_payload old.core slot part) lane.core =
    subst (λ (s : Stack). IsCore n size start (record old.core { stack = s }) lane.core)
    (top_is_slot old.core.stack old.core.stack.frames slot part top)
    (stays n size start lane.core part is.is_core (fills ∙ sym long)) in
    let bytes : top_bytes (with_slot old.core.stack slot part) (with_slot old.core.stack slot part).frames
    ≡ padded h.payload =
    ap (top_bytes (with_slot old.core.stack slot part)) (slot_keeps old.core.stack slot part).frames_is
    ∙ written part fills ∙ whole ∙ ap padded (sym same) in
    subst (λ (e : model.Event). IsStep n size start lane.core e answer new) (ap ends bytes ∙ sym h.event_is)
    (makes n size start lane.core core)

-- the payload has room in the slot
pub has_room : (old : LaneValue) (lane : Lane) (slot : Slot) (payload : List ℕ)
    → HasTopPayload old lane slot
    → IsFirst payload old.payloads
    → length payload ≤ slot.place.len
has_room old lane slot payload h front =
    let same : h.payload ≡ payload = sym (front h.payload h.rest h.payloads_are) in
    subst (λ (p : List ℕ). length p ≤ slot.place.len) same
    (let low = slot_len_ge (length h.payload) in let is = h.slot_is in omega arith)
