-- What the frames on the stack are for: a push puts one on top, each step by which the frame on top continues or
-- reserves keeps them, and one that leaves was on top of those that are left.
use Rattle.std.proofs.Common.{◌≡◌, ℕ, ◌≤◌, List, [], ◌∷◌, length, Option, Some, None, refl, sym, ap, ◌∙◌, subst, arith}
use Rattle.trace_model.specs.Frames.{for_record, for_close, Progress, waiting, reserved, left, Phase, idle, looking}
use Rattle.trace_model.specs.Frames.{claiming, looking_next, marking, clearing, opening, releasing, wishing, Frame}
use Rattle.trace_model.specs.Frames as frames_model
use Rattle.trace_model.specs.Ring.{Core}
use Rattle.trace_model.specs.Steps as model
use Rattle.trace_model.proofs.steps.StepCases as cases
use Rattle.trace_model.proofs.steps.StepSound.{cases_of}
use Rattle.nested_writer.specs.declared.frame.Purpose.{Purpose}
use Rattle.nested_writer.specs.declared.frame.Purpose.TheVariants.{Record, Close}
use Rattle.nested_writer.specs.declared.frame.Frame as stack
use Rattle.nested_writer.specs.declared.fault.WriteFault.{WriteFault}
use Rattle.nested_writer.specs.declared.stack.leave.Ended.TheVariants.{Pending}
use Rattle.nested_writer.specs.Stack.{kind_of}
use Rattle.nested_writer.specs.Next.{len_of, pushed_len}
use Rattle.ring_frames.specs.declared.phase.Phase as code
use Rattle.ring_frames.specs.declared.answer.Answer.{Answer}
use Rattle.ring_frames.specs.declared.answer.Answer.TheVariants.{Pushed, Going, Reserved, Ended, Gone, Refused}
use Rattle.ring_frames.specs.Value.{FramesValue}
use Rattle.ring_frames.specs.AreFrames.{frames_in_phases, AreFrames}
use Rattle.ring_frames.specs.Answers.{refusal_of, IsAnswerOf}
use Rattle.ring_frames.specs.Lens.{pushed_lens, lens, IsOneMore, AreOthersLeft, others_left, KeepsLens}
use Rattle.ring_frames.proofs.Refused.{IsPushOrEnd, same_refused}
use Rattle.ring_frames.proofs.Covered.{enough_phases}

-- ---- in the model

abbrev pub kinds_of : List Frame → List frames_model.Purpose
kinds_of [] = []
kinds_of (frame ∷ below) = frame.kind ∷ kinds_of below

-- what is left if the one on top leaves, but the last one stays
abbrev pub others_of : List frames_model.Purpose → List frames_model.Purpose
others_of [] = []
others_of (top ∷ []) = top ∷ []
others_of (top ∷ next ∷ others) = next ∷ others

-- what an answer says of the kinds before and after it
abbrev pub KeepsKinds : model.Answer → List frames_model.Purpose → List frames_model.Purpose → Type 0
KeepsKinds model.pushed before after = Unit {0}
KeepsKinds model.going before after = after ≡ before
KeepsKinds (model.reserved_as number) before after = after ≡ before
KeepsKinds model.pending before after = (top : frames_model.Purpose) × (before ≡ top ∷ after)
KeepsKinds model.full before after = Unit {0}
KeepsKinds model.gone before after = (top : frames_model.Purpose) × (before ≡ top ∷ after)
KeepsKinds (model.refused why) before after = after ≡ others_of before
KeepsKinds model.reading before after = Unit {0}
KeepsKinds (model.empty done) before after = Unit {0}
KeepsKinds (model.moving fill) before after = Unit {0}
KeepsKinds (model.page_taken t) before after = Unit {0}
KeepsKinds (model.wished_for fill) before after = Unit {0}

module _ (n size : ℕ) (c : Core) (frame : Frame) where
  leaves : (below : List Frame)
      → KeepsKinds (model.leave_answer below) (kinds_of (frame ∷ below))
      (kinds_of (model.frames_after_leave c frame below))
  leaves [] = refl
  leaves (next ∷ below) = (frame.kind, refl)

  refused : (below : List Frame)
      → kinds_of (model.frames_after_leave c frame below) ≡ others_of (kinds_of (frame ∷ below))
  refused [] = refl
  refused (next ∷ below) = refl

  ended : (below : List Frame)
      → KeepsKinds (model.end_answer below) (kinds_of (frame ∷ below))
      (kinds_of (model.frames_after_leave c frame below))
  ended [] = tt
  ended (next ∷ below) = (frame.kind, refl)

  begun : (kind : frames_model.Purpose) (state : Progress) (now : Core) (below : List Frame)
      → KeepsKinds (model.begin_answer kind state below) (kinds_of (frame ∷ below))
      (kinds_of ((model.after_begin kind state now frame below).frames))
  begun (for_record moment len) waiting now below = refl
  begun for_close waiting now [] = refl
  begun for_close waiting now (next ∷ below) = (frame.kind, refl)
  begun (for_record moment len) (reserved number) now below = refl
  begun for_close (reserved number) now below = refl
  begun (for_record moment len) left now below = refl
  begun for_close left now below = refl

  module _ (below : List Frame) (top : c.frames ≡ frame ∷ below) (answer : model.Answer) (after : Core) where
    abbrev AreKept : Type 0
    AreKept = KeepsKinds answer (kinds_of (frame ∷ below)) (kinds_of after.frames)

    kept : (a : model.Answer) (next : Core) → answer ≡ a → after ≡ next
        → KeepsKinds a (kinds_of (frame ∷ below)) (kinds_of next.frames) → AreKept
    kept a next a_is next_is keeps =
        subst (λ (x : model.Answer). KeepsKinds x (kinds_of (frame ∷ below)) (kinds_of after.frames)) (sym a_is)
        (subst (λ (d : Core). KeepsKinds a (kinds_of (frame ∷ below)) (kinds_of d.frames)) (sym next_is) keeps)

    again : (noted : ℕ) → cases.BeginsAgain c frame below noted answer after → AreKept
    again noted late = kept _ _ late.answer_is late.after_is (begun frame.kind frame.state c below)

    kept_idle : (state : Progress) → cases.IdleStep n size c frame below state answer after → AreKept
    kept_idle waiting (cases.reserves moment len r kind r_is fits a is) = kept _ _ a is refl
    kept_idle waiting (cases.finds_nothing kind none a is) = kept _ _ a is (leaves below)
    kept_idle waiting (cases.is_crowded needs full a is) = kept _ _ a is (refused below)
    kept_idle waiting (cases.is_worn needs room last a is) = kept _ _ a is (refused below)
    kept_idle waiting (cases.notes needs room small a is) = kept _ _ a is refl
    kept_idle (reserved number) step = kept _ _ step.0 step.1 (ap kinds_of top)
    kept_idle left step = absurd step

    kept_by : (phase : Phase) → cases.FrameStep n size c frame below phase answer after → AreKept
    kept_by idle step = kept_idle frame.state step
    kept_by (looking noted) (cases.load_link_late late) = again noted late
    kept_by (looking noted) (cases.sees_free page at link a is) = kept _ _ a is refl
    kept_by (looking noted) (cases.sees_header page lost at sum link a is) = kept _ _ a is refl
    kept_by (looking noted) (cases.sees_update page lost at sum link a is) = kept _ _ a is refl
    kept_by (claiming noted page) (cases.claim_late late) = again noted late
    kept_by (claiming noted page) (cases.claims lost at sum link a is) = kept _ _ a is refl
    kept_by (claiming noted page) (cases.claim_fails at none a is) = kept _ _ a is refl
    kept_by (looking_next role noted page) (cases.load_next_late helps late) = again noted late
    kept_by (looking_next role noted page) (cases.sees_normal lost next goes sum link a is) = kept _ _ a is refl
    kept_by (looking_next role noted page) (cases.sees_other lost goes sum other a is) = kept _ _ a is refl
    kept_by (marking role noted page next) (cases.mark_late helps late) = again noted late
    kept_by (marking role noted page next) (cases.marks lost goes sum link a is) = kept _ _ a is refl
    kept_by (marking role noted page next) (cases.mark_fails lost goes sum other a is) = kept _ _ a is refl
    kept_by (clearing noted page) (cases.clears lost sum link a is) = kept _ _ a is refl
    kept_by (opening noted page) (cases.open_late late) = again noted late
    kept_by (opening noted page) (cases.opens at a is) =
        kept _ _ a is (begun frame.kind frame.state (model.with_new_tail c page) below)
    kept_by releasing (cases.releases none more a is) = kept _ _ a is (ap kinds_of top)
    kept_by releasing (cases.releases_last none last a is) = kept _ _ a is refl
    kept_by wishing (cases.grants none granted a is) = kept _ _ a is refl
    kept_by wishing (cases.closes_more none not more a is) = kept _ _ a is refl
    kept_by wishing (cases.goes_away none not last a is) =
        kept _ _ a is (frame.kind, ap (λ (fs : List Frame). kinds_of (frame ∷ fs)) none)

    kept_end : (payload : List ℕ) → answer ≡ model.end_answer below
        → after ≡ model.after_leave c frame below (Some payload) → AreKept
    kept_end payload a is = kept _ _ a is (ended below)

module _ (n size : ℕ) (c : Core) (answer : model.Answer) (after : Core) where
  -- a step of the frame on top
  steps_kinds : cases.StepCases n size c model.steps answer after
      → KeepsKinds answer (kinds_of c.frames) (kinds_of after.frames)
  steps_kinds (cases.push_step moment len e few short early a is) = absurd (cc)
  steps_kinds (cases.push_refused moment len why e refused a is) = absurd (cc)
  steps_kinds (cases.close_step e few a is) = absurd (cc)
  steps_kinds (cases.close_refused e many a is) = absurd (cc)
  steps_kinds (cases.frame_step frame below e is step) =
      subst (λ (fs : List Frame). KeepsKinds answer (kinds_of fs) (kinds_of after.frames)) (sym is)
      (kept_by n size c frame below is answer after frame.phase step)
  steps_kinds (cases.frame_lacks e none a is) =
      subst (λ (x : model.Answer). KeepsKinds x (kinds_of c.frames) (kinds_of after.frames)) (sym a)
      (ap (λ (d : Core). kinds_of d.frames) is ∙ ap kinds_of none
      ∙ sym (ap (λ (fs : List Frame). others_of (kinds_of fs)) none))
  steps_kinds (cases.end_step payload frame below number moment len e is x kind slot a after_is) = absurd (cc)
  steps_kinds (cases.end_lacks payload e none a is) = absurd (cc)
  steps_kinds (cases.end_early payload frame below e is none a after_is) = absurd (cc)
  steps_kinds (cases.read_step e step) = absurd (cc)
  steps_kinds (cases.store_wish_step e a is) = absurd (cc)

  -- an end
  ends_kinds : (payload : List ℕ) → cases.StepCases n size c (model.ends payload) answer after → answer ≡ model.pending
      → (top : frames_model.Purpose) × (kinds_of c.frames ≡ top ∷ kinds_of after.frames)
  ends_kinds payload (cases.push_step moment len e few short early a is) reported = absurd (cc)
  ends_kinds payload (cases.push_refused moment len why e refused a is) reported = absurd (cc)
  ends_kinds payload (cases.close_step e few a is) reported = absurd (cc)
  ends_kinds payload (cases.close_refused e many a is) reported = absurd (cc)
  ends_kinds payload (cases.frame_step frame below e is step) reported = absurd (cc)
  ends_kinds payload (cases.frame_lacks e none a is) reported = absurd (cc)
  ends_kinds payload (cases.end_step given frame below number moment len e is x kind slot a after_is) reported =
      subst (λ (fs : List Frame). (top : frames_model.Purpose) × (kinds_of fs ≡ top ∷ kinds_of after.frames)) (sym is)
      (subst (λ (x : model.Answer). KeepsKinds x (kinds_of (frame ∷ below)) (kinds_of after.frames)) reported
      (kept_end n size c frame below is answer after given a after_is))
  ends_kinds payload (cases.end_lacks given e none a is) reported = absurd (cc)
  ends_kinds payload (cases.end_early given frame below e is none a after_is) reported = absurd (cc)
  ends_kinds payload (cases.read_step e step) reported = absurd (cc)
  ends_kinds payload (cases.store_wish_step e a is) reported = absurd (cc)

  -- a push
  push_kinds : (moment len : ℕ) → cases.StepCases n size c (model.pushes moment len) answer after
      → answer ≡ model.pushed → kinds_of after.frames ≡ for_record moment len ∷ kinds_of c.frames
  push_kinds moment len (cases.push_step moment' len' e few short early a is) reported =
      ap (λ (d : Core). kinds_of d.frames) is
      ∙ (let same : for_record moment' len' ≡ for_record moment len = cc in
      ap (λ (k : frames_model.Purpose). k ∷ kinds_of c.frames) same)
  push_kinds moment len (cases.push_refused moment' len' why e refused a is) reported = absurd (cc)
  push_kinds moment len (cases.close_step e few a is) reported = absurd (cc)
  push_kinds moment len (cases.close_refused e many a is) reported = absurd (cc)
  push_kinds moment len (cases.frame_step frame below e is step) reported = absurd (cc)
  push_kinds moment len (cases.frame_lacks e none a is) reported = absurd (cc)
  push_kinds moment len (cases.end_step payload frame below number moment' len' e is x kind slot a after_is) reported =
      absurd (cc)
  push_kinds moment len (cases.end_lacks payload e none a is) reported = absurd (cc)
  push_kinds moment len (cases.end_early payload frame below e is none a after_is) reported = absurd (cc)
  push_kinds moment len (cases.read_step e step) reported = absurd (cc)
  push_kinds moment len (cases.store_wish_step e a is) reported = absurd (cc)

  close_kinds : cases.StepCases n size c model.pushes_close answer after → answer ≡ model.pushed
      → kinds_of after.frames ≡ for_close ∷ kinds_of c.frames
  close_kinds (cases.push_step moment len e few short early a is) reported = absurd (cc)
  close_kinds (cases.push_refused moment len why e refused a is) reported = absurd (cc)
  close_kinds (cases.close_step e few a is) reported = ap (λ (d : Core). kinds_of d.frames) is
  close_kinds (cases.close_refused e many a is) reported = absurd (cc)
  close_kinds (cases.frame_step frame below e is step) reported = absurd (cc)
  close_kinds (cases.frame_lacks e none a is) reported = absurd (cc)
  close_kinds (cases.end_step payload frame below number moment len e is x kind slot a after_is) reported = absurd (cc)
  close_kinds (cases.end_lacks payload e none a is) reported = absurd (cc)
  close_kinds (cases.end_early payload frame below e is none a after_is) reported = absurd (cc)
  close_kinds (cases.read_step e step) reported = absurd (cc)
  close_kinds (cases.store_wish_step e a is) reported = absurd (cc)

-- ---- of a step, by its answer

module _ (n size : ℕ) (c : Core) (answer : model.Answer) (after : Core) where
  pub pushed_kinds : (moment len : ℕ) → model.Step n size c (model.pushes moment len) answer after
      → answer ≡ model.pushed → kinds_of after.frames ≡ for_record moment len ∷ kinds_of c.frames
  pushed_kinds moment len step reported = push_kinds n size c answer after moment len (cases_of step) reported

  pub closing_kinds : model.Step n size c model.pushes_close answer after → answer ≡ model.pushed
      → kinds_of after.frames ≡ for_close ∷ kinds_of c.frames
  closing_kinds step reported = close_kinds n size c answer after (cases_of step) reported

  pub ended_kinds : (payload : List ℕ) → model.Step n size c (model.ends payload) answer after → answer ≡ model.pending
      → (top : frames_model.Purpose) × (kinds_of c.frames ≡ top ∷ kinds_of after.frames)
  ended_kinds payload step reported = ends_kinds n size c answer after payload (cases_of step) reported

  pub stepped_kinds : model.Step n size c model.steps answer after → (a : model.Answer) → answer ≡ a
      → KeepsKinds a (kinds_of c.frames) (kinds_of after.frames)
  stepped_kinds step a is =
      subst (λ (x : model.Answer). KeepsKinds x (kinds_of c.frames) (kinds_of after.frames)) is
      (steps_kinds n size c answer after (cases_of step))

-- ---- of what is said of each kind

abbrev pub map_kinds : (frames_model.Purpose → Option ℕ) → List frames_model.Purpose → List (Option ℕ)
map_kinds f [] = []
map_kinds f (kind ∷ kinds) = f kind ∷ map_kinds f kinds

module _ (f : frames_model.Purpose → Option ℕ) (before after : List frames_model.Purpose) (old new : List (Option ℕ))
    (old_is : old ≡ map_kinds f before) (new_is : new ≡ map_kinds f after) where
  pub same_mapped : after ≡ before → new ≡ old
  same_mapped same = new_is ∙ ap (map_kinds f) same ∙ sym old_is

  pub more_mapped : (top : frames_model.Purpose) → after ≡ top ∷ before → new ≡ f top ∷ old
  more_mapped top more = new_is ∙ ap (map_kinds f) more ∙ ap (λ (others : List (Option ℕ)). f top ∷ others) (sym old_is)

  pub fewer_mapped : (top : frames_model.Purpose) × (before ≡ top ∷ after) → IsOneMore old new
  fewer_mapped (top, fewer) =
      (f top, old_is ∙ ap (map_kinds f) fewer ∙ ap (λ (others : List (Option ℕ)). f top ∷ others) (sym new_is))

  pub left_mapped : after ≡ others_of before → new ≡ others_left old
  left_mapped others_are = new_is ∙ ap (map_kinds f) others_are ∙ by_kinds before ∙ ap others_left (sym old_is)
    where
      by_kinds : (kinds : List frames_model.Purpose) → map_kinds f (others_of kinds) ≡ others_left (map_kinds f kinds)
      by_kinds [] = refl
      by_kinds (one ∷ []) = refl
      by_kinds (one ∷ two ∷ kinds) = refl

  pub others_mapped : after ≡ others_of before → AreOthersLeft old new
  others_mapped others_are top next others is = new_is ∙ by_kinds before after others_are (sym old_is ∙ is)
    where
      by_kinds : (before after : List frames_model.Purpose) → after ≡ others_of before
          → map_kinds f before ≡ top ∷ next ∷ others → map_kinds f after ≡ next ∷ others
      by_kinds [] after are is = absurd (let no : ◌≡◌ {A = List (Option ℕ)} [] (top ∷ next ∷ others) = is in cc)
      by_kinds (one ∷ []) after are is =
          absurd (let no : ◌≡◌ {A = List (Option ℕ)} (f one ∷ []) (top ∷ next ∷ others) = is in cc)
      by_kinds (one ∷ two ∷ kinds) after are is =
          ap (map_kinds f) are
          ∙ (let both : ◌≡◌ {A = List (Option ℕ)} (f one ∷ f two ∷ map_kinds f kinds) (top ∷ next ∷ others) = is in cc)

-- ---- in the frames

abbrev kind_len : frames_model.Purpose → Option ℕ
kind_len (for_record moment len) = Some len
kind_len for_close = None

len_is : (purpose : Purpose) → len_of purpose ≡ kind_len (kind_of purpose)
len_is (Record moment len) = refl
len_is Close = refl

shown_lens : (frames : List stack.Frame) (phases : List code.Phase) → length frames ≤ length phases
    → pushed_lens frames ≡ map_kinds kind_len (kinds_of (frames_in_phases frames phases))
shown_lens [] phases long = refl
shown_lens (top ∷ frames) [] long = absurd (omega (arith, long))
shown_lens (top ∷ frames) (phase ∷ phases) long =
    ap (λ (len : Option ℕ). len ∷ pushed_lens frames) (len_is top.purpose)
    ∙ ap (λ (others : List (Option ℕ)). kind_len (kind_of top.purpose) ∷ others)
    (shown_lens frames phases (omega (arith, long)))

-- the first of the lengths is that of the frame on top
pub first_len : (frames : List stack.Frame) (len : ℕ) (below : List (Option ℕ)) → pushed_lens frames ≡ Some len ∷ below
    → pushed_len frames ≡ Some len
first_len [] len below is = absurd (let no : ◌≡◌ {A = List (Option ℕ)} [] (Some len ∷ below) = is in cc)
first_len (top ∷ frames) len below is =
    let both : ◌≡◌ {A = List (Option ℕ)} (len_of top.purpose ∷ pushed_lens frames) (Some len ∷ below) = is in cc

module _ (n size start : ℕ) (old new : FramesValue) (c after : Core) (before_are : AreFrames n size start old c)
    (after_are : AreFrames n size start new after) where
  lens_shown : (v : FramesValue) (d : Core) → AreFrames n size start v d
      → lens v.stack ≡ map_kinds kind_len (kinds_of d.frames)
  lens_shown v d are =
      shown_lens v.stack.frames (v.phase ∷ v.below) (enough_phases v.stack.frames v.phase v.below are.below_are)
      ∙ ap (λ (fs : List Frame). map_kinds kind_len (kinds_of fs)) (sym are.frames_are)

  old_is : lens old.stack ≡ map_kinds kind_len (kinds_of c.frames)
  old_is = lens_shown old c before_are

  new_is : lens new.stack ≡ map_kinds kind_len (kinds_of after.frames)
  new_is = lens_shown new after after_are

  module _ (result : Answer) (answer : model.Answer) (reports : IsAnswerOf size result answer) where
    reports_so : (to : Answer) → result ≡ to → IsAnswerOf size to answer
    reports_so to is = subst (λ (r : Answer). IsAnswerOf size r answer) is reports

    -- of a step of the frame on top
    pub keeps_lens : model.Step n size c model.steps answer after → KeepsLens result old.stack new.stack
    keeps_lens step = record {
      going =
          λ is.
          same_mapped kind_len (kinds_of c.frames) (kinds_of after.frames) (lens old.stack) (lens new.stack)
          old_is new_is (stepped_kinds n size c answer after step model.going (reports_so Going is));
      reserved =
          λ number is.
          same_mapped kind_len (kinds_of c.frames) (kinds_of after.frames) (lens old.stack) (lens new.stack)
          old_is new_is
          (stepped_kinds n size c answer after step (model.reserved_as number.0)
          (reports_so (Reserved number) is));
      gone =
          λ is.
          fewer_mapped kind_len (kinds_of c.frames) (kinds_of after.frames) (lens old.stack) (lens new.stack)
          old_is new_is (stepped_kinds n size c answer after step model.gone (reports_so Gone is));
      refused =
          λ fault is.
          left_mapped kind_len (kinds_of c.frames) (kinds_of after.frames) (lens old.stack) (lens new.stack)
          old_is new_is
          (stepped_kinds n size c answer after step (model.refused (refusal_of fault))
          (reports_so (Refused fault) is));
    }

    -- a frame that is pushed is for the payload that is asked for
    pub pushes_lens : (moment len : ℕ) → model.Step n size c (model.pushes moment len) answer after → result ≡ Pushed
        → lens new.stack ≡ Some len ∷ lens old.stack
    pushes_lens moment len step is =
        more_mapped kind_len (kinds_of c.frames) (kinds_of after.frames) (lens old.stack) (lens new.stack) old_is new_is
        (for_record moment len) (pushed_kinds n size c answer after moment len step (reports_so Pushed is))

    -- or for none
    pub pushes_none : model.Step n size c model.pushes_close answer after → result ≡ Pushed
        → lens new.stack ≡ None ∷ lens old.stack
    pushes_none step is =
        more_mapped kind_len (kinds_of c.frames) (kinds_of after.frames) (lens old.stack) (lens new.stack) old_is new_is
        for_close (closing_kinds n size c answer after step (reports_so Pushed is))

    -- one that ends above others leaves them
    pub ends_lens : (payload : List ℕ) → model.Step n size c (model.ends payload) answer after → result ≡ Ended Pending
        → IsOneMore (lens old.stack) (lens new.stack)
    ends_lens payload step is =
        fewer_mapped kind_len (kinds_of c.frames) (kinds_of after.frames) (lens old.stack) (lens new.stack) old_is
        new_is (ended_kinds n size c answer after payload step (reports_so (Ended Pending) is))

    -- a push or an end that is refused keeps them
    pub refused_lens : (event : model.Event) → IsPushOrEnd event → model.Step n size c event answer after
        → (fault : WriteFault) → result ≡ Refused fault → lens new.stack ≡ lens old.stack
    refused_lens event may step fault is =
        same_mapped kind_len (kinds_of c.frames) (kinds_of after.frames) (lens old.stack) (lens new.stack) old_is new_is
        (ap (λ (d : Core). kinds_of d.frames)
        (same_refused n size c event answer after may (refusal_of fault) (reports_so (Refused fault) is)
        (cases_of step)))
