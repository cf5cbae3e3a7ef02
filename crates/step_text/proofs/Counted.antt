-- The parts after a step follow from those before it, the answer and the ring.
use Rattle.std.proofs.Common.{◌≡◌, ℕ, suc, ◌+◌, ◌<◌, ◌^◌, Bool, if◌then◌else◌, ◌||◌, List, [], ◌∷◌, length, Option}
use Rattle.std.proofs.Common.{Some, None, refl, sym, ap, ◌∙◌, arith}
use Rattle.std.proofs.lemmas.Bool.{and_left, ne_eqb}
use Prim.Native.Nat.compare
use Rattle.trace_model.specs.HistoryLaws.{committed_count}
use Rattle.trace_model.specs.Frames.{Frame}
use Rattle.trace_model.specs.Ring.{Core}
use Rattle.trace_model.specs.Steps as steps
use Rattle.ring_model.proofs.partition.RingsKept.{reached_kept}
use Rattle.ring_model.proofs.contents.RecordCounts.{numbers_fit}
use Rattle.nested_writer.specs.declared.frame.Frame as stack
use Rattle.ring_frames.specs.declared.phase.Phase.{Phase}
use Rattle.ring_frames.specs.declared.reader.TakeState.{TakeState}
use Rattle.ring_frames.specs.ReaderPhases.{reader_phase_of}
use Rattle.ring_frames.specs.Value.{FramesValue}
use Rattle.ring_frames.specs.AreFrames.{frames_in_phases, AreBelow, AreFrames}
use Rattle.ring_frames.specs.declared.answer.Answer.{Answer}
use Rattle.ring_frames.specs.declared.answer.Answer.TheVariants.{Pushed, Going, Reserved, Ended, Gone, Refused, Looking}
use Rattle.ring_frames.specs.declared.answer.Answer.TheVariants.{Empty, Moving, Taken, Wished}
use Rattle.nested_writer.specs.declared.stack.leave.Ended.TheVariants.{Pending, Full}
use Rattle.ring_frames.specs.Answers.{IsAnswerOf}
use Rattle.step_model.specs.Seen.{counts_seen, reader_seen}
use Rattle.step_model.specs.StepCounts.{top_claims, head_after, gives_next, top_moment, all_have_left}
use Rattle.step_text.specs.declared.seen.Counts.{Counts}
use Rattle.step_text.specs.declared.seen.FrameSeen.{FrameSeen}
use Rattle.step_text.specs.declared.seen.Parts.{Parts}
use Rattle.script_replay.specs.Known.{top_frame}
use Rattle.step_text.specs.Seen.{counts_in, reader_in, frame_in, top_in}
use Rattle.step_text.specs.Counting.{some_claims, takes_in, gives_in, top_moment_in, all_have_left_in, IsCounted}

-- ---- bounds

pub head_fits : (p : Parts) (c : Core) → IsCounted p c → p.counts.head < 2 ^ 63
head_fits p c k =
    let kept = (reached_kept k.n k.size k.start c k.reached).links in
    let head = ap (λ s. s.head) k.parts.counts in
    let a = kept.head_le in
    let b = kept.done_lt in
    let fits = kept.fits in
    omega arith

pub records_fit : (p : Parts) (c : Core) → IsCounted p c → p.records < 2 ^ 63
records_fit p c k =
    let few = numbers_fit k.n k.size k.start c (reached_kept k.n k.size k.start c k.reached) k.large in
    let records = k.parts.records in
    omega arith

-- ---- frames

phases_long : (frames : List stack.Frame) (phases : List Phase) → length phases ≡ length frames
    → length (frames_in_phases frames phases) ≡ length frames
phases_long [] phases e = refl
phases_long (f ∷ frames) [] e = absurd (omega arith)
phases_long (f ∷ frames) (phase ∷ phases) e = ap suc (phases_long frames phases (omega arith))

frames_long : (frames : List stack.Frame) (phase : Phase) (below : List Phase) → AreBelow frames below
    → length (frames_in_phases frames (phase ∷ below)) ≡ length frames
frames_long [] phase below none = refl
frames_long (f ∷ frames) phase below e = ap suc (phases_long frames below e)

pub depth_is : (n size start : ℕ) (v : FramesValue) (c : Core) → AreFrames n size start v c
    → length v.stack.frames ≡ length c.frames
depth_is n size start v c are =
    sym (ap length are.frames_are ∙ frames_long v.stack.frames v.phase v.below are.below_are)

pub claims_in : (olds news : List Frame) (depth now : ℕ) (old new : Option FrameSeen) → depth ≡ length olds
    → now ≡ length news → top_in old ≡ top_frame olds → top_in new ≡ top_frame news
    → some_claims depth now old new ≡ top_claims olds news
claims_in [] news depth now None new d e o w = refl
claims_in [] news depth now (Some f) new d e o w = absurd (cc)
claims_in (old ∷ olds) news depth now None new d e o w = absurd (cc)
claims_in (old ∷ olds) [] depth now (Some f) None d e o w = refl
claims_in (old ∷ olds) [] depth now (Some f) (Some g) d e o w = absurd (cc)
claims_in (old ∷ olds) (new ∷ news) depth now (Some f) None d e o w = absurd (cc)
claims_in (old ∷ olds) (new ∷ news) depth now (Some f) (Some g) d e o w =
    let same : frame_in f ≡ old = cc in
    let other : frame_in g ≡ new = cc in
    rw (d, e, ← same, ← other) (rw compare.suc-suc refl)

pub left_in : (frames : List Frame) (depth : ℕ) (top : Option FrameSeen) → depth ≡ length frames
    → top_in top ≡ top_frame frames → all_have_left_in depth top ≡ all_have_left frames
left_in [] depth None d t = refl
left_in [] depth (Some f) d t = absurd (cc)
left_in (frame ∷ below) depth None d t = absurd (cc)
left_in (frame ∷ []) depth (Some f) d t =
    let same : frame_in f ≡ frame = cc in
    rw (d, ← same) refl
left_in (frame ∷ next ∷ below) depth (Some f) d t = and_left _ _ (ne_eqb depth 1 (λ e. absurd (omega arith)))

pub moment_in : (frames : List Frame) (top : Option FrameSeen) → top_in top ≡ top_frame frames
    → top_moment_in top ≡ top_moment frames
moment_in [] None t = refl
moment_in [] (Some f) t = absurd (cc)
moment_in (frame ∷ below) None t = absurd (cc)
moment_in (frame ∷ below) (Some f) t =
    let same : frame_in f ≡ frame = cc in
    rw (← same) refl

pub counts_are : (k : Counts) (c : Core) → k.spare ≡ c.spare → k.done ≡ c.done → k.opened ≡ c.opened → k.wish ≡ c.wish
    → k.head ≡ c.head → k.committed ≡ committed_count c.history → counts_in k ≡ counts_seen c
counts_are k c spare done opened wish head committed =
    λ i.
    record {
      spare = spare i;
      done = done i;
      opened = opened i;
      wish = wish i;
      head = head i;
      committed = committed i;
    }

pub reader_is : (r : TakeState) (c : Core) → reader_phase_of r.phase ≡ c.reader.phase → r.hint ≡ c.reader.hint
    → r.seen ≡ c.reader.seen → r.expected ≡ c.reader.expected → reader_in r ≡ reader_seen c
reader_is r c phase hint seen expected =
    λ i. record { phase = phase i; hint = hint i; seen = seen i; expected = expected i }

-- ---- answers

pub gives : (size count : ℕ) (answer : Answer) (reported : steps.Answer) → IsAnswerOf size answer reported
    → gives_in count answer ≡ gives_next count reported
gives size count Pushed reported is = rw is refl
gives size count Going reported is = rw is refl
gives size count (Reserved number) reported is = rw is refl
gives size count (Ended Pending) reported is = rw is refl
gives size count (Ended Full) reported is = rw is refl
gives size count Gone reported is = rw is refl
gives size count (Refused fault) reported is = rw is refl
gives size count (Looking body) reported is = rw is refl
gives size count (Empty done body) reported is = rw is refl
gives size count (Moving fill body) reported is = rw is refl
gives size count (Taken page missed) reported (t, is, written) = rw is refl
gives size count (Wished fill) reported is = rw is refl

pub head_is : (size : ℕ) (c : Core) (answer : Answer) (reported : steps.Answer) (after : Core) (claims : Bool)
    → IsAnswerOf size answer reported → claims ≡ top_claims c.frames after.frames
    → (if takes_in answer || claims then c.head + 1 else c.head) ≡ head_after c reported after
head_is size c Pushed reported after claims is e = rw (is, e) refl
head_is size c Going reported after claims is e = rw (is, e) refl
head_is size c (Reserved number) reported after claims is e = rw (is, e) refl
head_is size c (Ended Pending) reported after claims is e = rw (is, e) refl
head_is size c (Ended Full) reported after claims is e = rw (is, e) refl
head_is size c Gone reported after claims is e = rw (is, e) refl
head_is size c (Refused fault) reported after claims is e = rw (is, e) refl
head_is size c (Looking body) reported after claims is e = rw (is, e) refl
head_is size c (Empty done body) reported after claims is e = rw (is, e) refl
head_is size c (Moving fill body) reported after claims is e = rw (is, e) refl
head_is size c (Taken page missed) reported after claims (t, is, written) e = rw is refl
head_is size c (Wished fill) reported after claims is e = rw (is, e) refl
