-- The payload of the frame on top, which is lent and written.
use Rattle.std.proofs.Common.{◌≡◌, ℕ, ◌+◌, ◌-◌, Bool, true, false, cond, eqb, List, [], ◌∷◌, length, length-set, take}
use Rattle.std.proofs.Common.{drop, Option, Some, None, Result, Ok, Err, IfOk, refl, sym, ap, ◌∙◌, subst, arith}
use Rattle.std.specs.Borrow.{MutBor}
use Rattle.std.specs.Prelude.{slice_range, slice_set, slice_index_or}
use Rattle.std.proofs.lemmas.Bool.{cond-true, cond-false, eq-eqb, ne_eqb}
use Rattle.std.proofs.lemmas.List.{get_or-set_same}
use Rattle.std.proofs.lemmas.Option.{slice_get_within, get_or_from_slice_get}
use Rattle.trace_model.specs.Words.{slot_len}
use Rattle.trace_model.specs.Overwriting.{bytes_at}
use Rattle.trace_model.specs.Frames.{for_record, Frame as ModelFrame}
use Rattle.trace_model.specs.History.{HistoryEvent}
use Rattle.trace_model.specs.Ring.{Core}
use Rattle.trace_model.proofs.words.Overwritten.{place-within}
use Rattle.record_words.specs.declared.put.Place.{Place}
use Rattle.page_image.specs.Contents.{Contents}
use Rattle.page_image.specs.Lending.{with_payload}
use Rattle.nested_writer.specs.declared.fault.WriteFault.{WriteFault}
use Rattle.nested_writer.specs.declared.frame.Slot.{Slot}
use Rattle.nested_writer.specs.declared.frame.Progress.TheVariants.{Reserved}
use Rattle.nested_writer.specs.declared.frame.Frame.{Frame}
use Rattle.nested_writer.specs.Stack.{Stack, opened, tail_fill}
use Rattle.nested_writer.specs.Calls.{IsTopSlot}
use Rattle.nested_writer.specs.Next.{pushed_len}
use Rattle.nested_writer.specs.Lent.{Lent, lent_bytes, with_bytes}
use Rattle.nested_writer.specs.Lending.{with_slot, with_top, IsLent}
use Rattle.nested_writer.specs.IsStack.{IsOpenPage, is_tail, is_older, IsStack}
use Rattle.nested_writer.proofs.Ending.{open_page_is}
use Rattle.nested_writer.proofs.Lending.{lent_len}
use Rattle.nested_writer.proofs.Lent.{overwritten_there}
use Rattle.ring_frames.specs.Value.{FramesValue}
use Rattle.ring_frames.specs.AreFrames.{frames_in_phases, AreBelow, AreNotedAlike, AreFrames}
use Rattle.ring_frames.specs.Answers.{open_page, bytes_of_progress, top_bytes}
use Rattle.ring_frames.specs.Lens.{pushed_lens, FitsTop}
use Rattle.ring_frames.specs.Lending.{with_slot_payload}
use Rattle.ring_frames.proofs.Reshown.{reshown}
use Rattle.ring_frames.proofs.Ended.{stands, bytes_are}
use Rattle.ring_frames.proofs.PushedKinds.{first_len}

-- ---- a stack of which pages alone have changed

pub record Keeps (s t : Stack) : Type 0 where
  pages_is : t.pages ≡ s.pages
  size_is : t.size ≡ s.size
  done_is : t.done ≡ s.done
  opened_is : opened t ≡ opened s
  pub frames_is : t.frames ≡ s.frames

keeps_by : (b : Bool) (s t u : Stack) → Keeps s t → Keeps s u → Keeps s (cond b t u)
keeps_by true s t u one other = one
keeps_by false s t u one other = other

pub slot_keeps : (s : Stack) (slot : Slot) (part : List ℕ) → Keeps s (with_slot s slot part)
slot_keeps s slot part =
    let page : Contents = with_payload (slice_index_or s.older (slot.fill - s.done) s.tail) slot.place.start part in
    keeps_by (eqb slot.fill s.tail.fill) s (record s { tail = with_payload s.tail slot.place.start part })
    (record s { older = slice_set s.older (slot.fill - s.done) page })
    record { pages_is = refl; size_is = refl; done_is = refl; opened_is = refl; frames_is = refl }
    record {
      pages_is = refl;
      size_is = refl;
      done_is = refl;
      opened_is = ap (λ (m : ℕ). s.done + m + 1) (length-set s.older (slot.fill - s.done) page);
      frames_is = refl;
    }

-- ---- the slot of the frame on top

-- the frame on top, with its slot
record IsOnTop (s : Stack) (slot : Slot) : Type 0 where
  top : Frame
  rest : List Frame
  stack_is : s.frames ≡ top ∷ rest
  has : top.progress ≡ Reserved slot

on_top : (s : Stack) (slot : Slot) → IsTopSlot s.frames slot → IsOnTop s slot
on_top s slot is = by_frames s.frames refl is
  where
    by_frames : (frames : List Frame) → s.frames ≡ frames → IsTopSlot frames slot → IsOnTop s slot
    by_frames [] same none = absurd none
    by_frames (top ∷ rest) same has = record { top = top; rest = rest; stack_is = same; has = has }

-- the first frames of two lists that are the same are of one kind
same_kind : (a b : ModelFrame) (xs ys : List ModelFrame) → ◌≡◌ {A = List ModelFrame} (a ∷ xs) (b ∷ ys) → a.kind ≡ b.kind
same_kind a b xs ys e = let heads : a ≡ b = cc in ap (λ (f : ModelFrame). f.kind) heads

-- the page of the slot, as it is when bytes are written there
pub page_written : (s : Stack) (slot : Slot) (part : List ℕ) (page : Contents) → s.tail.fill ≡ tail_fill s
    → IsOpenPage s.done s.older s.tail slot.fill page
    → (open_page (with_slot s slot part) slot.fill).bytes ≡ (with_payload page slot.place.start part).bytes
page_written s slot part page tail_is (is_tail at is) =
    let here = eq-eqb slot.fill s.tail.fill (at ∙ sym tail_is) in
    ap (λ (t : Stack). (open_page t slot.fill).bytes) (cond-true _ _ _ here)
    ∙ ap (λ (p : Contents). p.bytes) (cond-true _ _ _ here)
    ∙ ap (λ (p : Contents). (with_payload p slot.place.start part).bytes) (sym is)
page_written s slot part page tail_is (is_older k at is) =
    let inside = slice_get_within s.older k page is in
    let there : slot.fill - s.done ≡ k = omega arith in
    let other = ne_eqb slot.fill s.tail.fill (λ same. omega (arith, same, tail_is)) in
    let old : Contents = with_payload (slice_index_or s.older (slot.fill - s.done) s.tail) slot.place.start part in
    ap (λ (t : Stack). (open_page t slot.fill).bytes) (cond-false _ _ _ other)
    ∙ ap (λ (p : Contents). p.bytes) (cond-false _ _ _ other)
    ∙ ap (λ (p : Contents). p.bytes) (get_or-set_same s.older (slot.fill - s.done) old s.tail (omega arith))
    ∙ ap (λ (j : ℕ). (with_payload (slice_index_or s.older j s.tail) slot.place.start part).bytes) there
    ∙ ap (λ (p : Contents). (with_payload p slot.place.start part).bytes)
    (get_or_from_slice_get s.older k page s.tail is)

module _ (n size start : ℕ) (v : FramesValue) (c : Core) (k : AreFrames n size start v c) (slot : Slot)
    (is : IsTopSlot v.stack.frames slot) where
  t : IsOnTop v.stack slot
  t = on_top v.stack slot is

  model_is : c.frames ≡ frames_in_phases (t.top ∷ t.rest) (v.phase ∷ v.below)
  model_is = k.frames_are ∙ ap (λ (fs : List Frame). frames_in_phases fs (v.phase ∷ v.below)) t.stack_is

  -- what is lent are the bytes in the slot
  pub bytes_lent : (now : List ℕ)
      → ((page : Contents) → IsOpenPage v.stack.done v.stack.older v.stack.tail slot.fill page
      → now ≡ slice_range page.bytes slot.place.start (slot.place.start + slot.place.len))
      → now ≡ top_bytes v.stack v.stack.frames
  bytes_lent now lent =
      let (moment, len, kind, lies) = stands n size start v c k t.top t.rest slot t.stack_is t.has _ _ model_is in
      lent lies.page lies.open_page
      ∙ ap (λ (m : ℕ). take m (drop slot.place.start lies.page.bytes))
      (let same : (slot.place.start + slot.place.len) - slot.place.start ≡ slot.place.len = omega arith in same)
      ∙ sym (bytes_are n size start v c k t.top t.rest slot t.stack_is t.has _ _ model_is lies.page lies.open_page)

  -- there are as many bytes as the slot has room for
  pub top_long : length (top_bytes v.stack v.stack.frames) ≡ slot.place.len
  top_long =
      let (moment, len, kind, lies) = stands n size start v c k t.top t.rest slot t.stack_is t.has _ _ model_is in
      ap length
      (sym
      (bytes_lent (slice_range lies.page.bytes slot.place.start (slot.place.start + slot.place.len)) (λ page there.
      ap (λ (p : Contents). slice_range p.bytes slot.place.start (slot.place.start + slot.place.len))
      (open_page_is v.stack.done v.stack.older v.stack.tail slot.fill lies.page page lies.open_page there))))
      ∙ lent_len start c.history v.stack slot lies.page is lies.open_page k.stack_is

  -- whatever is written there, the frames are those of the same state
  pub written_stays : (part : List ℕ) → length part ≡ slot.place.len
      → ((history : List HistoryEvent) → IsStack start history v.stack → length part ≡ slot.place.len
      → IsStack start history (with_slot v.stack slot part))
      → AreFrames n size start (with_slot_payload v slot part) c
  written_stays part fills written =
      let s : Stack = with_slot v.stack slot part in
      let keeps : Keeps v.stack s = slot_keeps v.stack slot part in
      reshown n size start v c s v.phase v.below c.frames c.history c.held k record {
        pages_is = keeps.pages_is;
        size_is = keeps.size_is;
        done_is = keeps.done_is;
        opened_is = keeps.opened_is;
        stack_is = written c.history k.stack_is fills;
        frames_are =
            k.frames_are ∙ ap (λ (fs : List Frame). frames_in_phases fs (v.phase ∷ v.below)) (sym keeps.frames_is);
        below_are = subst (λ (fs : List Frame). AreBelow fs v.below) (sym keeps.frames_is) k.below_are;
        noted = subst (λ (fs : List Frame). AreNotedAlike fs (v.phase ∷ v.below)) (sym keeps.frames_is) k.noted;
      }

  -- the slot has the room of its frame's record
  pub slot_fits : (frame : ModelFrame) (below : List ModelFrame) (moment len : ℕ) → c.frames ≡ frame ∷ below
      → frame.kind ≡ for_record moment len → slot.place.len ≡ slot_len len
  slot_fits frame below moment len top kind =
      let (moment', len', kind', lies) = stands n size start v c k t.top t.rest slot t.stack_is t.has _ _ model_is in
      let same : for_record moment len ≡ for_record moment' len' =
      sym kind ∙ same_kind frame _ below _ (sym top ∙ model_is) ∙ kind' in
      let lens : len ≡ len' = cc in
      lies.fills_slot ∙ ap slot_len (sym lens)

  -- what is written is what is there afterwards
  pub written_there : (part : List ℕ) → length part ≡ slot.place.len
      → top_bytes (with_slot v.stack slot part) v.stack.frames ≡ part
  written_there part long =
      let (moment, len, kind, lies) = stands n size start v c k t.top t.rest slot t.stack_is t.has _ _ model_is in
      let within = place-within lies.page.bytes slot.place.start slot.place.len lies.place.place in
      ap (λ (fs : List Frame). top_bytes (with_slot v.stack slot part) fs) t.stack_is
      ∙ ap (bytes_of_progress (with_slot v.stack slot part)) t.has
      ∙ ap (bytes_at slot.place.start slot.place.len)
      (page_written v.stack slot part lies.page k.stack_is.holds.tail_is.fill_is lies.open_page)
      ∙ overwritten_there lies.page.bytes slot.place.start slot.place.len part long within

-- ---- what the stack lends

module _ (n size start : ℕ) (v : FramesValue) (c : Core) (k : AreFrames n size start v c) (payload : Lent)
    (lent : IsLent v.stack payload) where
  -- it is what is in the slot of the frame on top
  pub top_lent : lent_bytes payload ≡ top_bytes v.stack v.stack.frames
  top_lent = bytes_lent n size start v c k lent.slot lent.on_top (lent_bytes payload) (λ page there.
      ap (λ (p : Place). slice_range payload.page.bytes p.start (p.start + p.len)) lent.place_is
      ∙ ap (λ (p : Contents). slice_range p.bytes lent.slot.place.start (lent.slot.place.start + lent.slot.place.len))
      (open_page_is v.stack.done v.stack.older v.stack.tail lent.slot.fill payload.page page lent.open_page there))

  -- what is written is what is there afterwards
  pub top_written : (part : List ℕ) → length part ≡ length (lent_bytes payload)
      → top_bytes (with_top v.stack (with_bytes payload part)) v.stack.frames ≡ part
  top_written part fills =
      ap (λ (t : Stack). top_bytes t v.stack.frames) (lent.in_slot part)
      ∙ written_there n size start v c k lent.slot lent.on_top part
      (fills ∙ lent.long ∙ ap (λ (p : Place). p.len) lent.place_is)

-- it is as long as the payload that the frame on top was pushed for takes
pub fits_top : (frames : List Frame) (result : Result (MutBor Lent) WriteFault)
    → ((len : ℕ) → pushed_len frames ≡ Some len → IfOk result (λ p. length (lent_bytes p.now) ≡ slot_len len))
    → IfOk result (λ p. FitsTop (pushed_lens frames) (length (lent_bytes p.now)))
fits_top frames (Err fault) fits = tt
fits_top frames (Ok p) fits = on_top (pushed_lens frames) refl
  where
    on_top : (lens : List (Option ℕ)) → pushed_lens frames ≡ lens → FitsTop lens (length (lent_bytes p.now))
    on_top [] is = tt
    on_top (None ∷ below) is = tt
    on_top (Some len ∷ below) is = fits len (first_len frames len below is)
