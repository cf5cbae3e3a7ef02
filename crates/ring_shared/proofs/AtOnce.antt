-- A record that is written at once: the private steps of it, and the look for the reader's wish after them.
use Rattle.std.proofs.Common.{◌≡◌, ◌≢◌, ℕ, List, [], ◌∷◌, ◌++◌, length, refl, sym, ap, ◌∙◌, subst, arith, append_assoc}
use Rattle.trace_model.specs.declared.numbers.RecordNo.{RecordNo}
use Rattle.trace_model.specs.Words.{padded}
use Rattle.trace_model.specs.Frames.{for_record, left, wishing, Frame}
use Rattle.trace_model.specs.Ring.{Core}
use Rattle.trace_model.specs.Steps as model
use Rattle.trace_model.proofs.steps.StepCases as cases
use Rattle.trace_model.proofs.steps.StepSound.{cases_of}
use Rattle.ring_model.specs.Reached.{IsReached}
use Rattle.ring_model.specs.Seats.{IsPrivate}
use Rattle.ring_model.specs.FrameOutcomes.{IsLeaving}
use Rattle.ring_model.proofs.seats.PrivateSteps.{private_result, changes_privately}
use Rattle.ring_model.proofs.frames.TopSteps.{top_stepped}
use Rattle.nested_writer.specs.declared.frame.Frame as stack
use Rattle.nested_writer.specs.declared.stack.leave.Ended.TheVariants.{Full}
use Rattle.nested_writer.specs.Stack.{Stack, next_number}
use Rattle.ring_frames.specs.declared.answer.Answer.{Answer}
use Rattle.ring_frames.specs.declared.answer.Answer.TheVariants.{Pushed, Going, Reserved, Ended}
use Rattle.ring_frames.specs.declared.phase.Phase.{Phase}
use Rattle.ring_frames.specs.declared.phase.Phase.TheVariants.{Wishing}
use Rattle.ring_frames.specs.Value.{FramesValue}
use Rattle.ring_frames.specs.AreFrames.{frames_in_phases}
use Rattle.ring_frames.specs.Steps.{IsFrames}
use Rattle.ring_frames.specs.Fills.{LooksForWish}
use Rattle.ring_frames.specs.AtOnce.{with_left_frame, IsWriteAtOnce, WritesAtOnce, IsWrittenAlone}
use Rattle.ring_frames.proofs.Reported.{is_going}
use Rattle.ring_steps.specs.declared.rule.Shape.{Shape}
use Rattle.ring_steps.specs.declared.ends.WriterSeat.{WriterSeat}
use Rattle.ring_steps.specs.Made.{WriterMade, writer_made, writer_made_of}
use Rattle.ring_steps.specs.Views.{Writing, writing_of, writing_after}
use Rattle.ring_steps.specs.Seats.{Leads, IsWriterStep}
use Rattle.ring_steps.specs.Ends.{writing_in, passed_in, writer_table, SameSeat}
use Rattle.ring_steps.specs.Paging.{IsTopIn}
use Rattle.ring_steps.specs.Notes.{part_after}
use Rattle.ring_steps.proofs.Made.{reached_on, part_then}
use Rattle.ring_steps.proofs.PartAfter.{part_after_is}
use Rattle.ring_shared.specs.Value.{WriterValue}
use Rattle.ring_shared.specs.Calls.{AreWriterFields, IsCall, MakesSome}
use Rattle.ring_shared.specs.Finishing.{at_once, Reserves, Leaves, is_gone}
use Rattle.ring_shared.specs.WholeWrites.{IsWritten}
use Rattle.ring_shared.proofs.PartAfterWrite.{part_after_write}
use Rattle.ring_shared.proofs.Called.{writer_seen}
use Rattle.ring_shared.proofs.PageMoves.{looks_for_wish}
use Rattle.ring_shared.proofs.Standing.{frames_in}
use Rattle.ring_shared.proofs.Targets.{frames_of}
use Rattle.ring_shared.proofs.Finishes.{reserving_first, reserving_ends, leaves_behind}
use Rattle.ring_shared.proofs.WholeWrites.{HasBegun, has_begun, leaves_below}

-- ---- the look for the reader's wish

-- the frame continues, or is gone, and then there was none below it
pub data Wished (frame : Frame) (below : List Frame) (answer : model.Answer) (after : List Frame) : Type 0 where
  wishes_on : (next : Frame) → answer ≡ model.going → after ≡ next ∷ below → next.kind ≡ frame.kind
      → next.state ≡ frame.state → Wished frame below answer after
  wished_gone : answer ≡ model.gone → after ≡ below → Wished frame below answer after

wish_outcome : (n : ℕ) (c : Core) (frame : Frame) (below : List Frame) (answer : model.Answer) (after : Core)
    → cases.LoadWishStep n c frame below answer after → Wished frame below answer after.frames
wish_outcome n c frame below answer after (cases.grants alone granted a is) =
    wishes_on _ a (ap (λ (d : Core). d.frames) is) refl refl
wish_outcome n c frame below answer after (cases.closes_more alone denied more a is) =
    wishes_on _ a (ap (λ (d : Core). d.frames) is) refl refl
wish_outcome n c frame below answer after (cases.goes_away alone denied last a is) =
    wished_gone a (ap (λ (d : Core). d.frames) is ∙ sym alone)

-- ---- private steps

open_stay : (n size : ℕ) (c : Core) (event : model.Event) (answer : model.Answer) (after : Core) → IsPrivate c event
    → model.Step n size c event answer after → after.open_pages ≡ c.open_pages
open_stay n size c event answer after own step =
    ap (λ (d : Core). d.open_pages)
    (changes_privately c after (private_result n size c event answer after own (cases_of step)))

-- no frame is left
pub none_left : {before after : FramesValue} {moment : ℕ} {payload : List ℕ}
    → IsWrittenAlone before moment payload after → after.stack.frames ≡ []
none_left alone = ap (λ (s : Stack). s.frames) alone.stack ∙ alone.none

module _ (v : WriterValue) (w : AreWriterFields v) (moment : ℕ) (payload : List ℕ) (gone : FramesValue)
    (wrote : WritesAtOnce v.frames moment payload (with_left_frame gone moment (length payload)))
    (alone : IsWrittenAlone v.frames moment payload gone) where
  abbrev pub frames : FramesValue
  frames = with_left_frame gone moment (length payload)

  abbrev n : ℕ
  n = v.shape.pages

  abbrev size : ℕ
  size = v.shape.size

  abbrev start : ℕ
  start = v.shape.start

  abbrev now : Writing
  now = part_after_write v.shape v.part moment payload

  abbrev mid : WriterValue
  mid = record v { part = now; frames = frames }

  -- what is made at once
  abbrev x_push : model.Exchange
  x_push = record { event = model.pushes moment (length payload); answer = model.pushed }

  abbrev x_reserve : model.Exchange
  x_reserve = record { event = model.steps; answer = model.reserved_as (next_number v.frames.stack) }

  abbrev x_end : model.Exchange
  x_end = record { event = model.ends (padded payload); answer = model.full }

  module _ (c : Core) (reached : IsReached n size start c) (is : writing_of (writer_made_of reached) c ≡ v.part) where
    abbrev h : IsWriteAtOnce n size start c moment payload (next_number v.frames.stack) frames
    h = wrote n size start c reached (frames_in v w c is)

    abbrev pushes_made : WriterMade
    pushes_made = writer_made x_push h.pushed

    abbrev reserves_made : WriterMade
    reserves_made = writer_made x_reserve h.reserved

    abbrev ends_made : WriterMade
    ends_made = writer_made x_end h.after

    abbrev made_push : List WriterMade
    made_push = v.part.made ++ pushes_made ∷ []

    abbrev made_reserve : List WriterMade
    made_reserve = made_push ++ reserves_made ∷ []

    abbrev made_end : List WriterMade
    made_end = made_reserve ++ ends_made ∷ []

    made_all : made_end ≡ v.part.made ++ pushes_made ∷ reserves_made ∷ ends_made ∷ []
    made_all =
        ap (λ (made : List WriterMade). made ++ ends_made ∷ [])
        (append_assoc v.part.made (pushes_made ∷ []) (reserves_made ∷ []))
        ∙ append_assoc v.part.made (pushes_made ∷ reserves_made ∷ []) (ends_made ∷ [])

    pushed_part : writing_of made_push h.pushed ≡ part_after v.shape v.part (model.pushes moment (length payload))
    pushed_part =
        part_after_is v.shape v.part (writer_made_of reached) c (model.pushes moment (length payload)) model.pushed
        h.pushed is h.push_private h.push

    reserved_part : writing_of made_reserve h.reserved
        ≡ part_after v.shape (part_after v.shape v.part (model.pushes moment (length payload))) model.steps
    reserved_part = ap (λ (w : Writing). writing_after w.made x_reserve (writing_of [] h.reserved)) pushed_part
        ∙ part_after_is v.shape (part_after v.shape v.part (model.pushes moment (length payload))) made_push h.pushed
        model.steps (model.reserved_as (next_number v.frames.stack)) h.reserved pushed_part h.reserve_private
        h.reserve

    now_part : writing_of made_end h.after ≡ now
    now_part = ap (λ (w : Writing). writing_after w.made x_end (writing_of [] h.after)) reserved_part
        ∙ part_after_is v.shape
        (part_after v.shape (part_after v.shape v.part (model.pushes moment (length payload))) model.steps)
        made_reserve h.reserved (model.ends (padded payload)) model.full h.after reserved_part h.end_private h.end

  pub leads_write : Leads v.shape v.part now
  leads_write = λ c reached is. (
    x_push ∷ x_reserve ∷ x_end ∷ [],
    (h c reached is).after,
    (
      (h c reached is).push_private,
      (h c reached is).pushed,
      (h c reached is).push,
      (
        (h c reached is).reserve_private,
        (h c reached is).reserved,
        (h c reached is).reserve,
        ((h c reached is).end_private, (h c reached is).after, (h c reached is).end, refl),
      ),
    ),
    ap (λ (made : List WriterMade). writing_of made (h c reached is).after) (sym (made_all c reached is))
        ∙ now_part c reached is,
  )

  abbrev first : IsWriteAtOnce n size start w.core moment payload (next_number v.frames.stack) frames
  first = h w.core w.reached w.part_is

  abbrev pushed_reached : IsReached n size start first.pushed
  pushed_reached =
      reached_on n size start w.core (model.pushes moment (length payload)) model.pushed first.pushed w.reached
      first.push

  abbrev reserved_reached : IsReached n size start first.reserved
  reserved_reached =
      reached_on n size start first.pushed model.steps (model.reserved_as (next_number v.frames.stack)) first.reserved
      pushed_reached first.reserve

  abbrev after_reached : IsReached n size start first.after
  after_reached =
      reached_on n size start first.reserved (model.ends (padded payload)) model.full first.after reserved_reached
      first.end

  pages_stay : now.open_pages ≡ v.part.open_pages
  pages_stay = ap (λ (x : Writing). x.open_pages) (sym (now_part w.core w.reached w.part_is))
      ∙ (open_stay n size first.reserved (model.ends (padded payload)) model.full first.after first.end_private
      first.end
      ∙ (open_stay n size first.pushed model.steps (model.reserved_as (next_number v.frames.stack)) first.reserved
      first.reserve_private first.reserve
      ∙ (open_stay n size w.core (model.pushes moment (length payload)) model.pushed first.pushed first.push_private
      first.push
      ∙ ap (λ (x : Writing). x.open_pages) w.part_is)))

  abbrev pushed_as : Writing
  pushed_as = writing_of (made_push w.core w.reached w.part_is) first.pushed

  abbrev reserved_then : Writing
  reserved_then = writing_of (made_reserve w.core w.reached w.part_is) first.reserved

  pushed_here : writing_of (writer_made_of pushed_reached) first.pushed ≡ pushed_as
  pushed_here =
      part_then n size start w.core (model.pushes moment (length payload)) model.pushed first.pushed w.reached
      first.push v.part pushed_as refl w.part_is refl

  reserved_here : writing_of (writer_made_of reserved_reached) first.reserved ≡ reserved_then
  reserved_here =
      part_then n size start first.pushed model.steps (model.reserved_as (next_number v.frames.stack)) first.reserved
      pushed_reached first.reserve pushed_as reserved_then refl pushed_here refl

  -- the writer after them
  writer_mid : AreWriterFields mid
  writer_mid = record {
    core = first.after;
    reached = after_reached;
    part_is =
        part_then n size start first.reserved (model.ends (padded payload)) model.full first.after reserved_reached
        first.end reserved_then now refl reserved_here (now_part w.core w.reached w.part_is);
    frames_are = first.are;
    pages_are = pages_stay ∙ w.pages_are;
  }

  pub frames_mid : IsFrames frames
  frames_mid = (n, size, start, first.after, record { reached = after_reached; are = first.are })

  -- ---- it looks for the wish

  pub wishes_next : frames.phase ≡ Wishing
  wishes_next = alone.closed

  abbrev bottom : Frame
  bottom = record { kind = for_record moment (length payload); state = left; phase = wishing }

  bottom_is : now.frames ≡ bottom ∷ []
  bottom_is = frames_of mid writer_mid
      ∙ (ap (λ (p : Phase). frames_in_phases frames.stack.frames (p ∷ gone.below)) wishes_next
      ∙ ap (λ (ps : List Phase). frames_in_phases frames.stack.frames (Wishing ∷ ps)) alone.below)

  some_mid : frames.stack.frames ≢ []
  some_mid none = let zero = ap (length {A = stack.Frame}) none in absurd (omega arith)

  pub wishing_mid : IsTopIn now.frames wishing
  wishing_mid = subst (λ (fs : List Frame). IsTopIn fs wishing) (sym bottom_is) refl

  -- ---- the record

  abbrev number : RecordNo
  number = record { 0 = next_number v.frames.stack }

  push_call : IsCall v.shape v.part (model.pushes moment (length payload)) Pushed pushed_as
  push_call =
      record {
        core = w.core;
        next = first.pushed;
        answer = model.pushed;
        is_own = refl;
        reached = w.reached;
        before_is = w.part_is;
        step = first.push;
        after_is = refl;
        reports = refl;
      }

  reserve_call : IsCall v.shape pushed_as model.steps (Reserved number) reserved_then
  reserve_call =
      record {
        core = first.pushed;
        next = first.reserved;
        answer = model.reserved_as (next_number v.frames.stack);
        is_own = refl;
        reached = pushed_reached;
        before_is = pushed_here;
        step = first.reserve;
        after_is = refl;
        reports = refl;
      }

  end_call : IsCall v.shape reserved_then (model.ends (padded payload)) (Ended Full) now
  end_call =
      record {
        core = first.reserved;
        next = first.after;
        answer = model.full;
        is_own = refl;
        reached = reserved_reached;
        before_is = reserved_here;
        step = first.end;
        after_is = now_part w.core w.reached w.part_is;
        reports = refl;
      }

  abbrev begun : HasBegun moment (length payload) v.part pushed_as
  begun = (has_begun v.shape v.part pushed_as moment (length payload) Pushed push_call (λ (fault, e). cc)).0

  reserves_it : Reserves v.shape (for_record moment (length payload)) v.part.frames pushed_as (Reserved number)
      reserved_then
  reserves_it =
      subst
      (λ (k : Rattle.trace_model.specs.Frames.Purpose).
      Reserves v.shape k v.part.frames pushed_as (Reserved number) reserved_then) begun.kind_is
      (reserving_ends v.shape begun.frame.kind v.part.frames pushed_as pushed_as reserved_then (Reserved number)
      (reserving_first v.shape begun.frame v.part.frames pushed_as begun.top begun.reserves) reserve_call (λ e. cc))

  none_stood : v.part.frames ≡ []
  none_stood =
      frames_of v w ∙ ap (λ (fs : List stack.Frame). frames_in_phases fs (v.frames.phase ∷ v.frames.below)) alone.none

  written_then : (last : Answer) (after : Writing) → Leaves v.shape [] now last after
      → IsWritten v.shape v.part moment payload after
  written_then last after leaves = record {
    pushed = pushed_as;
    reserved = reserved_then;
    ended = now;
    number = number;
    how = Full;
    push = push_call;
    reserve = reserves_it;
    end = end_call;
    goes = (last, leaves);
    frames = leaves_below v.shape [] now last after leaves ∙ sym none_stood;
  }

  module _ (result : Answer) (after : Writing) (call : IsCall v.shape now model.steps result after) where
    outcome : Wished bottom [] call.answer call.next.frames
    outcome = wish_outcome n call.core bottom [] call.answer call.next
        (top_stepped n size call.core bottom [] wishing call.answer call.next
        (ap (λ (x : Writing). x.frames) call.before_is ∙ bottom_is) refl call.step)

    goes_so : Wished bottom [] call.answer call.next.frames → result ≢ Going → after.frames ≡ []
    goes_so (wishes_on next a top kind state) ne = absurd (ne (is_going size result call.answer call.reports a))
    goes_so (wished_gone a top) ne = ap (λ (x : Writing). x.frames) (sym call.after_is) ∙ top

    -- the frame is gone
    written_at_once : result ≢ Going → IsWritten v.shape v.part moment payload after
    written_at_once ne = written_then result after (is_gone now now after result at_once call (goes_so outcome ne))

    stands_so : Wished bottom [] call.answer call.next.frames → result ≡ Going
        → (next : Frame) × (after.frames ≡ next ∷ []) × IsLeaving next.kind next.state
    stands_so (wishes_on next a top kind state) e = (
      next,
      ap (λ (x : Writing). x.frames) (sym call.after_is) ∙ top,
      subst (λ (s : Rattle.trace_model.specs.Frames.Progress). IsLeaving next.kind s) (sym state)
          (subst (λ (k : Rattle.trace_model.specs.Frames.Purpose). IsLeaving k left) (sym kind) tt),
    )
    stands_so (wished_gone a top) e =
        absurd (let reports =
        subst (λ (x : Answer). Rattle.ring_frames.specs.Answers.IsAnswerOf size x call.answer) e
        call.reports in
        let both : model.going ≡ model.gone = sym reports ∙ a in
        cc)

    -- it goes on
    stands_still : result ≡ Going
        → (next : Frame) × (others : List Frame) × (after.frames ≡ next ∷ others) × IsLeaving next.kind next.state
    stands_still e = let (next, top, leaves) = stands_so outcome e in (next, [], top, leaves)

    -- and makes steps until it is gone
    written_behind : (last : Answer) (end : Writing) → result ≡ Going
        → ((frame : Frame) (below : List Frame) → after.frames ≡ frame ∷ below → Leaves v.shape below after last end)
        → IsWritten v.shape v.part moment payload end
    written_behind last end e rest =
        let (next, top, leaves) = stands_so outcome e in
        written_then last end
        (leaves_behind v.shape [] now after end last
        (subst (λ (x : Answer). IsCall v.shape now model.steps x after) e call) (rest next [] top))

-- ---- the call

-- the writer with another seat and other frames
abbrev pub with_seat : WriterValue → WriterSeat → FramesValue → WriterValue
with_seat v seat frames = record {
  shape = seat.shape;
  table = writer_table seat;
  part = writing_in seat;
  passed = passed_in seat;
  frames = frames;
  pages = v.pages;
}

-- A record was written at once, and the look for the wish after that answers so.
pub record LooksAtOnce (v : WriterValue) (moment : ℕ) (payload : List ℕ) (result : Answer) (new : WriterValue) : Type 0
  where
    pub writer : AreWriterFields v
    pub gone : FramesValue
    pub wrote : WritesAtOnce v.frames moment payload (with_left_frame gone moment (length payload))
    pub alone : IsWrittenAlone v.frames moment payload gone
    pub makes : MakesSome (mid v writer moment payload gone wrote alone) model.steps result new

-- a step from the part that was noted
from_noted : {shape noted : Shape} {part now after : Writing} {sees : Core → Type 0} {answer : model.Answer}
    → noted ≡ shape → part ≡ now → IsWriterStep noted part sees answer after → IsWriterStep shape now sees answer after
from_noted {shape} {noted} {part} {now} {after} {sees} {answer} same is s =
    subst (λ (x : Shape). IsWriterStep x now sees answer after) same
    (subst (λ (x : Writing). IsWriterStep noted x sees answer after) is s)

-- so does a writer whose view is that one
pub looked : {v x : WriterValue} {noted loaded : WriterSeat} → v ≡ x → AreWriterFields x
    → (moment : ℕ) (payload : List ℕ) (gone after : FramesValue) (wish : ℕ) (result : Answer)
    → WritesAtOnce v.frames moment payload (with_left_frame gone moment (length payload))
    → IsWrittenAlone v.frames moment payload gone
    → noted.shape ≡ v.shape
    → writer_table noted ≡ v.table
    → writing_in noted ≡ part_after_write v.shape v.part moment payload
    → SameSeat noted loaded
    → (answer : model.Answer)
    × IsWriterStep noted.shape (writing_in noted) (λ core. core.wish ≡ wish) answer (writing_in loaded)
    → LooksForWish (with_left_frame gone moment (length payload)) wish result after
    → LooksAtOnce x moment payload result (with_seat v loaded after)
looked {v} {x} {noted} {loaded} view_is writer moment payload gone after wish result wrote alone shape_is table_is
    part_is same (answer, loads) looks =
    let w : AreWriterFields v = writer_seen view_is writer in
    subst (λ (y : WriterValue). LooksAtOnce y moment payload result (with_seat v loaded after)) view_is record {
      writer = w;
      gone = gone;
      wrote = wrote;
      alone = alone;
      makes =
          looks_for_wish (mid v w moment payload gone wrote alone) (with_seat v loaded after)
          (writer_mid v w moment payload gone wrote alone) (some_mid v w moment payload gone wrote alone)
          (same.shape ∙ shape_is) (same.table ∙ table_is) _ wish result answer looks refl
          (from_noted shape_is part_is loads) (λ is. is);
    }

module _ {v new : WriterValue} {moment : ℕ} {payload : List ℕ} {result : Answer}
    (l : LooksAtOnce v moment payload result new) where
  -- its frame is gone
  pub looked_gone : result ≢ Going → IsWritten v.shape v.part moment payload new.part
  looked_gone ne = written_at_once v l.writer moment payload l.gone l.wrote l.alone result new.part l.makes.call ne

  -- or it goes on, as one that leaves
  pub looked_on : result ≡ Going
      → (next : Frame) × (others : List Frame) × (new.part.frames ≡ next ∷ others) × IsLeaving next.kind next.state
  looked_on e = stands_still v l.writer moment payload l.gone l.wrote l.alone result new.part l.makes.call e

  -- and makes steps until it is gone
  pub looked_further : (last : Answer) (end : Writing) → result ≡ Going
      → ((frame : Frame) (below : List Frame) → new.part.frames ≡ frame ∷ below
      → Leaves new.shape below new.part last end) → IsWritten v.shape v.part moment payload end
  looked_further last end e leaves =
      written_behind v l.writer moment payload l.gone l.wrote l.alone result new.part l.makes.call last end e
      (λ frame below top.
      subst (λ (s : Shape). Leaves s below new.part last end) l.makes.shape_is (leaves frame below top))
