-- The counts after a step follow from its answer and the frame on top.
use Rattle.std.proofs.Common.{◌≡◌, ℕ, suc, ◌+◌, ◌<◌, max, Bool, true, false, if◌then◌else◌, ◌&&◌, ◌==◌, List, [], ◌∷◌}
use Rattle.std.proofs.Common.{◌++◌, length, Some, None, refl, sym, ap, ◌∙◌, subst, inl, inr, arith, append_assoc}
use Rattle.std.proofs.Common.{append-nil}
use Rattle.std.proofs.lemmas.Bool.{cond-true, cond-false, and_from, and_left, and_right, ne_eqb, eq-eqb, true≢false}
use Rattle.std.proofs.lemmas.Option.{slice_get_within}
use Rattle.trace_model.specs.History.{HistoryEvent, push, push_close, open_fill, reserve, leave, wished, PushedFrame}
use Rattle.trace_model.specs.History.{record_frame, last_moment, writer_after, reserved_records, is_settled}
use Rattle.trace_model.specs.HistoryLaws.{committed_count}
use Rattle.trace_model.specs.Frames.{Purpose, for_record, for_close, Progress, waiting, reserved, left, Phase, Frame}
use Rattle.trace_model.specs.Frames.{pushed_frames, pushed_onto}
use Rattle.trace_model.specs.Ring.{ReaderPhase, loading_head, loading_done, storing_spare_link, swapping, Core}
use Rattle.trace_model.specs.Steps.{Event, pushes, pushes_close, steps, ends, reads, wishes, Answer, page_taken}
use Rattle.trace_model.specs.Steps.{leave_answer, end_answer}
use Rattle.trace_model.proofs.histories.OpenNumbers.{HasNumber, open_at, numbers_open}
use Rattle.trace_model.proofs.steps.StepCases.{StepCases, loads_header, loads_update, loads_owed, loads_passed}
use Rattle.trace_model.proofs.steps.StepCases.{finds_none, finds_closed, swaps, swap_fails, ReadStep, push_step}
use Rattle.trace_model.proofs.steps.StepCases.{push_refused, close_step, close_refused as refused_close, frame_step}
use Rattle.trace_model.proofs.steps.StepCases.{frame_lacks, end_step, end_lacks, end_early, read_step, store_wish_step}
use Rattle.trace_model.proofs.steps.StepSound.{cases_of}
use Rattle.ring_model.specs.Seats.{IsOfReader}
use Rattle.ring_model.specs.KeptStack.{FramesAgree}
use Rattle.ring_model.specs.RingKept.{IsRingKept}
use Rattle.ring_model.specs.Appended.{PushAppends, is_pushed, isnt_pushed, EndAppends, TopEndAppends, record_reserved}
use Rattle.ring_model.specs.Appended.{record_refused, record_opens, record_goes_on, close_refused, close_opens}
use Rattle.ring_model.specs.Appended.{close_leaves, close_goes_on, left_opens, left_grants, left_stays, FrameAppends}
use Rattle.ring_model.specs.Appended.{TopAppends, Appends}
use Rattle.ring_model.proofs.histories.StepsAppend.{steps_append}
use Rattle.ring_model.proofs.partition.RingsKept.{ring_step, reached_kept}
use Rattle.step_model.specs.StepCounts.{owns_from, top_claims, head_after, gives_next, top_moment, has_left}
use Rattle.step_model.specs.StepCounts.{all_have_left, records_in}
use Rattle.step_model.specs.StepLaws.{CountsFollowSteps}
use Rattle.step_model.proofs.StepMoves.{takes_page, frame_in, Moves, takes, stays, pushes_one, pops, goes}
use Rattle.step_model.proofs.StepMoves.{owns_none_same, moves}
use Rattle.step_model.proofs.RecordMoves.{Alike, IsQuiet, quiet_more, reserve_more, Commits, none_commits, one_commits}
use Rattle.step_model.proofs.RecordMoves.{two_commit, rests_on}

-- ---- the head

plain_head : (c : Core) (answer : Answer) (after : Core) → takes_page answer ≡ false
    → head_after c answer after ≡ (if top_claims c.frames after.frames then c.head + 1 else c.head)
plain_head c (page_taken t) after plain = absurd (true≢false plain)
plain_head c _ after plain = refl

claims_none_same : (frames : List Frame) → top_claims frames frames ≡ false
claims_none_same [] = refl
claims_none_same (frame ∷ below) = and_right (length below == length below) _ (owns_none_same frame.phase)

claims_none_pushed : (frame : Frame) (frames : List Frame) → top_claims frames (frame ∷ frames) ≡ false
claims_none_pushed frame [] = refl
claims_none_pushed frame (old ∷ below) =
    and_left _ _ (ne_eqb (length below) (suc (length below)) (λ e. absurd (omega arith)))

claims_none_popped : (old : Frame) (frames : List Frame) → top_claims (old ∷ frames) frames ≡ false
claims_none_popped old [] = refl
claims_none_popped old (next ∷ below) =
    and_left _ _ (ne_eqb (suc (length below)) (length below) (λ e. absurd (omega arith)))

claims_as : (below : List Frame) (b : Bool) → (length below == length below && b) ≡ b
claims_as below true = and_from _ _ (eq-eqb (length below) (length below) refl) refl
claims_as below false = and_right (length below == length below) false refl

head_follows : (c : Core) (answer : Answer) (after : Core) → Moves c answer after
    → after.head ≡ head_after c answer after
head_follows c answer after (takes t a frames head) = head ∙ sym (ap (λ (x : Answer). head_after c x after) a)
head_follows c answer after (stays plain frames head) =
    head
    ∙ sym (plain_head c answer after plain
    ∙ cond-false _ _ _ (ap (top_claims c.frames) frames ∙ claims_none_same c.frames))
head_follows c answer after (pushes_one kind plain frames head) =
    head
    ∙ sym (plain_head c answer after plain
    ∙ cond-false _ _ _ (ap (top_claims c.frames) frames ∙ claims_none_pushed _ c.frames))
head_follows c answer after (pops old plain frames head) =
    head
    ∙ sym (plain_head c answer after plain
    ∙ cond-false _ _ _
    (ap (λ (l : List Frame). top_claims l after.frames) frames ∙ claims_none_popped old after.frames))
head_follows c answer after (goes kind state other phase next below plain top frames head) =
    head ∙ sym (plain_head c answer after plain ∙ ap (λ (b : Bool). if b then c.head + 1 else c.head)
    (ap (λ (l : List Frame). top_claims l after.frames) top ∙ ap (top_claims (frame_in kind state phase ∷ below)) frames
    ∙ claims_as below (owns_from phase next)))

-- ---- who has left

onto_left : (kind : Purpose) (state : Progress) → rests_on (pushed_onto kind state []) ≡ has_left state
onto_left kind waiting = refl
onto_left kind (reserved number) = refl
onto_left kind left = refl

onto_more : (kind : Purpose) (state : Progress) (below : List PushedFrame) → (state ≡ left → ⊥)
    → rests_on (pushed_onto kind state below) ≡ false
onto_more kind waiting below stands = refl
onto_more kind (reserved number) below stands = refl
onto_more kind left below stands = absurd (stands refl)

-- the frames have left if and only if none of them is open in the history
settled_as : (frames : List Frame) → FramesAgree frames → rests_on (pushed_frames frames) ≡ all_have_left frames
settled_as [] agree = refl
settled_as (frame ∷ []) agree = onto_left frame.kind frame.state
settled_as (frame ∷ next ∷ below) agree =
    onto_more frame.kind frame.state (pushed_frames (next ∷ below)) (λ e. let none = agree.1 e in cc)

settled_is : (h : List HistoryEvent) (frames : List Frame) → (writer_after h).stack ≡ pushed_frames frames
    → FramesAgree frames → is_settled h ≡ all_have_left frames
settled_is h frames stack agree = ap rests_on stack ∙ settled_as frames agree

-- ---- what is appended

-- by a step with this answer
data Writes (c : Core) (answer : Answer) (appended : List HistoryEvent) : Type 0 where
  writes_none : gives_next (records_in c) answer ≡ false → appended ≡ [] → Writes c answer appended
  writes_quiet : (a : HistoryEvent) → IsQuiet a → gives_next (records_in c) answer ≡ false → appended ≡ a ∷ []
      → Writes c answer appended
  writes_two : (a : HistoryEvent) → IsQuiet a → gives_next (records_in c) answer ≡ false → appended ≡ open_fill ∷ a ∷ []
      → Writes c answer appended
  writes_record : (moment len : ℕ) (below : List PushedFrame)
      → gives_next (records_in c) answer ≡ true
      → top_moment c.frames ≡ moment
      → (writer_after c.history).stack ≡ record_frame moment len None ∷ below
      → appended ≡ reserve ∷ []
      → Writes c answer appended

leave_gives_none : (count : ℕ) (below : List Frame) → gives_next count (leave_answer below) ≡ false
leave_gives_none count [] = refl
leave_gives_none count (next ∷ below) = refl

end_gives_none : (count : ℕ) (below : List Frame) → gives_next count (end_answer below) ≡ false
end_gives_none count [] = refl
end_gives_none count (next ∷ below) = refl

module _ (n size start : ℕ) (c : Core) (answer : Answer) (kept : IsRingKept n size start c) where
  abbrev count : ℕ
  count = records_in c

  plain : (other : Answer) → gives_next count other ≡ false → answer ≡ other → gives_next count answer ≡ false
  plain other none a = ap (gives_next count) a ∙ none

  stack_is : (frames : List Frame) → c.frames ≡ frames → (writer_after c.history).stack ≡ pushed_frames frames
  stack_is frames top = kept.history.stack ∙ ap pushed_frames top

  -- a frame that has reserved has the number of a record
  number_within : (moment len number : ℕ) (phase : Phase) (below : List Frame)
      → c.frames ≡ frame_in (for_record moment len) (reserved number) phase ∷ below → number < count
  number_within moment len number phase below top =
      let has : HasNumber number (writer_after c.history).stack =
      subst (HasNumber number) (sym (stack_is _ top)) (inl refl) in
      let open_yet =
      open_at (reserved_records c.history) (writer_after c.history).stack number
      (numbers_open c.history kept.history.allowed) has in
      slice_get_within (reserved_records c.history) number open_yet.record_is open_yet.at

  by_frame : (kind : Purpose) (state : Progress) (phase : Phase) (below : List Frame) (appended : List HistoryEvent)
      → c.frames ≡ frame_in kind state phase ∷ below → FramesAgree (frame_in kind state phase ∷ below)
      → FrameAppends n c kind state phase below answer appended → Writes c answer appended
  by_frame (for_record moment len) waiting phase below appended top agree (record_reserved a e) =
      writes_record moment len (pushed_frames below) (ap (gives_next count) a ∙ eq-eqb count count refl)
      (ap top_moment top) (stack_is _ top) e
  by_frame (for_record moment len) waiting phase below appended top agree (record_refused (inl a) e) =
      writes_quiet (leave None) tt (plain _ refl a) e
  by_frame (for_record moment len) waiting phase below appended top agree (record_refused (inr a) e) =
      writes_quiet (leave None) tt (plain _ refl a) e
  by_frame (for_record moment len) waiting phase below appended top agree (record_opens opens a e) =
      writes_quiet open_fill tt (plain _ refl a) e
  by_frame (for_record moment len) waiting phase below appended top agree (record_goes_on opens a e) =
      writes_none (plain _ refl a) e
  by_frame for_close waiting phase below appended top agree (close_refused (inl a) e) =
      writes_quiet (leave None) tt (plain _ refl a) e
  by_frame for_close waiting phase below appended top agree (close_refused (inr a) e) =
      writes_quiet (leave None) tt (plain _ refl a) e
  by_frame for_close waiting phase below appended top agree (close_opens opens a e) =
      writes_two (leave None) tt (plain _ (leave_gives_none count below) a) e
  by_frame for_close waiting phase below appended top agree (close_leaves has a e) =
      writes_quiet (leave None) tt (plain _ (leave_gives_none count below) a) e
  by_frame for_close waiting phase below appended top agree (close_goes_on opens wants a e) =
      writes_none (plain _ refl a) e
  by_frame (for_record moment len) (reserved number) phase below appended top agree (a, e) =
      let within = number_within moment len number phase below top in
      writes_none (plain _ (ne_eqb number count (λ same. absurd (omega arith))) a) e
  by_frame for_close (reserved number) phase below appended top agree (a, e) = absurd agree.0.0
  by_frame (for_record moment len) left phase below appended top agree (left_opens opens a e) =
      writes_quiet open_fill tt (plain _ refl a) e
  by_frame (for_record moment len) left phase below appended top agree (left_grants granted a e) =
      writes_quiet wished tt (plain _ refl a) e
  by_frame (for_record moment len) left phase below appended top agree (left_stays opens denied (inl a) e) =
      writes_none (plain _ refl a) e
  by_frame (for_record moment len) left phase below appended top agree (left_stays opens denied (inr a) e) =
      writes_none (plain _ refl a) e
  by_frame for_close left phase below appended top agree (left_opens opens a e) =
      writes_quiet open_fill tt (plain _ refl a) e
  by_frame for_close left phase below appended top agree (left_grants granted a e) =
      writes_quiet wished tt (plain _ refl a) e
  by_frame for_close left phase below appended top agree (left_stays opens denied (inl a) e) =
      writes_none (plain _ refl a) e
  by_frame for_close left phase below appended top agree (left_stays opens denied (inr a) e) =
      writes_none (plain _ refl a) e

  by_top : (frames : List Frame) (appended : List HistoryEvent) → c.frames ≡ frames → FramesAgree frames
      → TopAppends n c frames answer appended → Writes c answer appended
  by_top [] appended top agree (a, e) = writes_none (plain _ refl a) e
  by_top (frame ∷ below) appended top agree adds =
      by_frame frame.kind frame.state frame.phase below appended top agree adds

  by_end_in : (payload : List ℕ) (state : Progress) (below : List Frame) (appended : List HistoryEvent)
      → EndAppends payload state below answer appended → Writes c answer appended
  by_end_in payload waiting below appended (a, e) = writes_none (plain _ refl a) e
  by_end_in payload (reserved number) below appended (a, e) =
      writes_quiet (leave (Some payload)) tt (plain _ (end_gives_none count below) a) e
  by_end_in payload left below appended (a, e) = writes_none (plain _ refl a) e

  by_end : (payload : List ℕ) (frames : List Frame) (appended : List HistoryEvent)
      → TopEndAppends payload frames answer appended → Writes c answer appended
  by_end payload [] appended (a, e) = writes_none (plain _ refl a) e
  by_end payload (frame ∷ below) appended adds = by_end_in payload frame.state below appended adds

  by_push : (event : HistoryEvent) (appended : List HistoryEvent) → IsQuiet event → PushAppends event answer appended
      → Writes c answer appended
  by_push event appended quiet (is_pushed a e) = writes_quiet event quiet (plain _ refl a) e
  by_push event appended quiet (isnt_pushed why a e) = writes_none (plain _ refl a) e

  -- the reader's answers give no number
  read_gives_none : (after : Core) (phase : ReaderPhase) → ReadStep n c phase answer after
      → gives_next count answer ≡ false
  read_gives_none after loading_head (loads_header page fill at a is) = plain _ refl a
  read_gives_none after loading_head (loads_update page lost at a is) = plain _ refl a
  read_gives_none after loading_head (loads_owed page at a is) = plain _ refl a
  read_gives_none after loading_head (loads_passed page fill least at more sum a is) = plain _ refl a
  read_gives_none after (loading_done page fill) (finds_none le a is) = plain _ refl a
  read_gives_none after (loading_done page fill) (finds_closed closed a is) = plain _ refl a
  read_gives_none after (storing_spare_link page fill) step = plain _ refl step.answer_is
  read_gives_none after (swapping page fill) (swaps at a is) = plain _ refl a
  read_gives_none after (swapping page fill) (swap_fails at a is) = plain _ refl a

  reader_gives_none : (event : Event) (after : Core) → IsOfReader event → StepCases n size c event answer after
      → gives_next count answer ≡ false
  reader_gives_none event after by_reader (push_step moment len e few short early a is) = plain _ refl a
  reader_gives_none event after by_reader (push_refused moment len why e refusal a is) = plain _ refl a
  reader_gives_none event after by_reader (close_step e few a is) = plain _ refl a
  reader_gives_none event after by_reader (refused_close e many a is) = plain _ refl a
  reader_gives_none event after by_reader (frame_step frame below e top step) = absurd (subst IsOfReader e by_reader)
  reader_gives_none event after by_reader (frame_lacks e none a is) = plain _ refl a
  reader_gives_none event after by_reader (end_step payload frame below number moment len e top at kind size_is a is) =
      absurd (subst IsOfReader e by_reader)
  reader_gives_none event after by_reader (end_lacks payload e none a is) = plain _ refl a
  reader_gives_none event after by_reader (end_early payload frame below e top none a is) = plain _ refl a
  reader_gives_none event after by_reader (read_step e step) = read_gives_none after c.reader.phase step
  reader_gives_none event after by_reader (store_wish_step e a is) = plain _ refl a

  writes : (event : Event) (after : Core) (appended : List HistoryEvent) → StepCases n size c event answer after
      → Appends n c event answer appended → Writes c answer appended
  writes (pushes moment len) after appended step adds = by_push (push moment len) appended tt adds
  writes pushes_close after appended step adds = by_push push_close appended tt adds
  writes steps after appended step adds = by_top c.frames appended refl kept.stack.agree adds
  writes (ends payload) after appended step adds = by_end payload c.frames appended adds
  writes reads after appended step adds = writes_none (reader_gives_none reads after tt step) adds
  writes wishes after appended step adds = writes_none (reader_gives_none wishes after tt step) adds

-- ---- what follows of the records

record RecordsFollow (c : Core) (answer : Answer) (more : List HistoryEvent) : Type 0 where
  records : length (reserved_records more)
      ≡ (if gives_next (records_in c) answer then records_in c + 1 else records_in c)
  moment : last_moment (reserved_records more) ≡
      (if gives_next (records_in c) answer
      then max (top_moment c.frames) (last_moment (reserved_records c.history))
      else last_moment (reserved_records c.history))
  commits : Commits c.history more

module _ (c : Core) (answer : Answer) where
  alike_follow : (more : List HistoryEvent) → gives_next (records_in c) answer ≡ false
      → Alike (reserved_records c.history) (reserved_records more) → Commits c.history more
      → RecordsFollow c answer more
  alike_follow more none same commits = record {
    records = same.count ∙ sym (cond-false _ _ _ none);
    moment = same.moment ∙ sym (cond-false _ _ _ none);
    commits = commits;
  }

  follow : (appended : List HistoryEvent) → Writes c answer appended → RecordsFollow c answer (c.history ++ appended)
  follow appended (writes_none none e) =
      subst (RecordsFollow c answer) (sym (ap (λ (l : List HistoryEvent). c.history ++ l) e ∙ append-nil c.history))
      (alike_follow c.history none record { count = refl; moment = refl } (none_commits c.history))
  follow appended (writes_quiet a quiet none e) =
      subst (λ (l : List HistoryEvent). RecordsFollow c answer (c.history ++ l)) (sym e)
      (alike_follow (c.history ++ a ∷ []) none (quiet_more c.history a quiet) (one_commits c.history a))
  follow appended (writes_two a quiet none e) =
      subst (λ (l : List HistoryEvent). RecordsFollow c answer (c.history ++ l)) (sym e)
      (alike_follow (c.history ++ open_fill ∷ a ∷ []) none
      (let first = quiet_more c.history open_fill tt in let second = quiet_more (c.history ++ open_fill ∷ []) a quiet in
      subst (λ (h : List HistoryEvent). Alike (reserved_records c.history) (reserved_records h))
      (append_assoc c.history (open_fill ∷ []) (a ∷ []))
      record { count = second.count ∙ first.count; moment = second.moment ∙ first.moment })
      (two_commit c.history a))
  follow appended (writes_record moment len below some top stack e) =
      subst (λ (l : List HistoryEvent). RecordsFollow c answer (c.history ++ l)) (sym e)
      (let more = reserve_more c.history moment len below stack in record {
        records = more.count ∙ sym (cond-true _ _ _ some);
        moment =
            more.last
            ∙ sym (cond-true _ _ _ some ∙ ap (λ (m : ℕ). max m (last_moment (reserved_records c.history))) top);
        commits = one_commits c.history reserve;
      })

-- ---- the law

pub counts_follow_steps : CountsFollowSteps
counts_follow_steps n size start c after event answer reached step =
    let kept = reached_kept n size start c reached in
    let later = ring_step n size start c event answer after kept step in
    let cases = cases_of step in
    let (appended, history, adds) = steps_append n size start c event answer after kept step in
    let f : RecordsFollow c answer after.history =
    subst (RecordsFollow c answer) (sym history)
    (follow c answer appended (writes n size start c answer kept event after appended cases adds)) in
    record {
      head = head_follows c answer after (moves n size c event answer after cases);
      records = f.records;
      moment = f.moment;
      committed =
          f.commits
          ∙ ap (λ (b : Bool). if b then records_in after else committed_count c.history)
          (settled_is after.history after.frames later.history.stack later.stack.agree);
    }
