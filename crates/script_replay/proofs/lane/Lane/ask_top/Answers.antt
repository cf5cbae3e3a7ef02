use Rattle.std.proofs.Common.{◌≡◌, ℕ, ◌+◌, ◌-◌, ◌≤◌, List, ◌++◌, length, replicate, sym, ap, ◌∙◌, subst, arith, Bor}
use Rattle.std.specs.Prelude.{true, false}
use Rattle.trace_model.specs.Steps.{ends}
use Rattle.world_model.specs.Lanes.{Lane}
use Rattle.nested_writer.specs.declared.frame.Slot.{Slot}
use Rattle.nested_writer.specs.Stack.{Stack}
use Rattle.nested_writer.specs.Calls.{IsTopSlot}
use Rattle.ring_frames.specs.Answers.{top_bytes}
use Rattle.ring_core.specs.Lending.{FitsFrame}
use Rattle.ring_core.specs.Steps.{MakesStep}
use Rattle.script_replay.specs.Value.{LaneValue, lane_of}
use Rattle.script_replay.specs.Lanes.{IsLane, IsLaneOf}
use Rattle.script_replay.specs.declared.lane.Lane.TheInside.{Inside}
use Rattle.script_replay.specs.Frames.{AsksTop}
use Rattle.script_replay.proofs.FrameTops.{HasTopPayload, has_top_payload, has_room, last_of, is_first, top_has_place}
use Rattle.script_replay.proofs.FrameTops.{asked_step, asked_end}
use Rattle.script_replay.proofs.lane.Lane.ask_top.Goals as goal

-- ---- the payload of the frame on top, whose record has this slot

abbrev bytes : Bor (List ℕ) → List ℕ
bytes payload = payload.now

top_payload : (inside : Inside) (seen : LaneValue) (slot : Slot)
    → lane_of inside ≡ seen
    → (cpu : ℕ) × IsLaneOf cpu seen
    → IsTopSlot inside.core.stack.frames slot
    → FitsFrame inside.core slot
    → (lane : Lane) × HasTopPayload (lane_of inside) lane slot
top_payload inside seen slot is of top fits =
    let (cpu, (n, size, start, lane, now)) = of in (
      lane,
      has_top_payload n size start cpu (lane_of inside) lane slot
          (subst (λ (x : LaneValue). IsLane n size start cpu x lane) (sym is) now) top fits,
    )

-- this many payloads are kept up to the one of the frame on top
last_kept : (inside : Inside) (slot : Slot) (kept : ℕ)
    → (lane : Lane) × HasTopPayload (lane_of inside) lane slot
    → kept ≡ length inside.payloads.items
    → kept - 1 + 1 ≡ length inside.payloads.items
last_kept inside slot kept has same =
    last_of bytes inside.payloads.items kept has.1.payload has.1.rest has.1.payloads_are same

-- so there is one
one_kept : (inside : Inside) (seen : LaneValue) (slot : Slot) (kept : ℕ)
    → lane_of inside ≡ seen
    → (cpu : ℕ) × IsLaneOf cpu seen
    → IsTopSlot inside.core.stack.frames slot
    → FitsFrame inside.core slot
    → kept ≡ length inside.payloads.items
    → 1 ≤ kept
one_kept inside seen slot kept is of top fits same =
    let last = last_kept inside slot kept (top_payload inside seen slot is of top fits) same in
    omega arith

-- ---- the frame on top has no slot

pub returns-in_default-clause-step : goal.returns-in_default-clause-step
returns-in_default-clause-step g c =
    let v : LaneValue = lane_of c.self.inside in
    subst (λ (x : LaneValue). AsksTop x c.step.result c.step.new.self) c.self.view_is
    (asked_step v c.step.result c.step.new.self
    (λ slot top. let no : false ≡ true =
    c.in_default.ensures.slot.held slot.place (top_has_place v.core.stack.frames slot top) in
    absurd (let e = no in cc)) c.step.ensures.obeys.step)

-- ---- it has one

pub overflow_sub-len : goal.overflow_sub-len
overflow_sub-len g c =
    let ok = c.self.inside.payloads.ok in
    let slot = c.in-Ok.ensures.slot.lent in
    let some =
    one_kept c.self.inside _ slot.slot c.len.result c.self.view_is c.requires slot.on_top
    (c.in-Ok.ensures.fits slot.slot slot.on_top) (c.len.ensures ∙ ok.0) in
    omega (arith, some)

pub index-payload-requires : goal.index-payload-requires
index-payload-requires g c = let ok = c.self.inside.payloads.ok in
    let some = overflow_sub-len g c in
    omega (arith, some, c.len.ensures, ok.0)

pub write_padded-requires : goal.write_padded-requires
write_padded-requires g c =
    let lent = c.in-Ok.ensures.slot.lent in
    let has = top_payload c.self.inside _ lent.slot c.self.view_is c.requires lent.on_top
    (c.in-Ok.ensures.fits lent.slot lent.on_top) in
    let kept = c.self.inside.payloads in
    let last = last_kept c.self.inside lent.slot c.len.result has (c.len.ensures ∙ kept.ok.0) in
    let payload : List ℕ = c.index-payload.result.now.now in
    let place : c.in-Ok.slot.now.place.len ≡ lent.slot.place.len = λ i. (lent.place_is i).len in
    subst (λ (k : ℕ). length payload ≤ k) (sym (c.deref_mut.ensures.len ∙ place))
    (has_room (lane_of c.self.inside) has.0 lent.slot payload has.1
    (is_first bytes kept.items (c.len.result - 1) c.index-payload.result.now last c.index-payload.ensures))

pub returns-clause-step : goal.returns-clause-step
returns-clause-step g c =
    let v : LaneValue = lane_of c.self.inside in
    let lent = c.in-Ok.ensures.slot.lent in
    let fits = c.in-Ok.ensures.fits lent.slot lent.on_top in
    let has = top_payload c.self.inside _ lent.slot c.self.view_is c.requires lent.on_top fits in
    let kept = c.self.inside.payloads in
    let last = last_kept c.self.inside lent.slot c.len.result has (c.len.ensures ∙ kept.ok.0) in
    let payload : List ℕ = c.index-payload.result.now.now in
    let part : List ℕ = c.write_padded.new.slot in
    let place : c.in-Ok.slot.now.place.len ≡ lent.slot.place.len = λ i. (lent.place_is i).len in
    subst (λ (x : LaneValue). AsksTop x c.step-2.result c.step-2.new.self) c.self.view_is
    (asked_end v lent.slot payload part c.step-2.result c.step-2.new.self lent.on_top fits
    (c.in-Ok.ensures.stays lent.slot lent.on_top)
    (ap (λ (l : List ℕ). length l) (sym c.in-Ok.ensures.slot.payload) ∙ lent.long ∙ place)
    (λ bs fills.
    ap (λ (t : Stack). top_bytes t v.core.stack.frames) (sym (lent.in_slot bs))
    ∙ c.in-Ok.ensures.slot.written bs (fills ∙ sym place ∙ sym lent.long))
    (is_first bytes kept.items (c.len.result - 1) c.index-payload.result.now last c.index-payload.ensures)
    (c.write_padded.ensures
    ∙ ap (λ (k : ℕ). payload ++ replicate (k - length payload) 0) (c.deref_mut.ensures.len ∙ place))
    (subst
    (λ (t : Stack).
    MakesStep (record v.core { stack = t }) (ends (top_bytes t t.frames)) c.step-2.result c.step-2.new.self)
    (lent.in_slot part) c.step-2.ensures.obeys.step))
