-- What is reported of exchanges: of none, and of some after others.
use Rattle.std.proofs.Common.{◌≡◌, ℕ, List, [], ◌∷◌, ◌++◌, Option, Some, None, refl, sym, ap, ◌∙◌, subst, append_assoc}
use Rattle.std.proofs.Common.{append-nil}
use Rattle.std.specs.Prelude.{IfSome}
use Rattle.std.proofs.lemmas.Grind.{flat_map-append}
use Rattle.trace_model.specs.Ring.{Core}
use Rattle.trace_model.specs.Steps as model
use Rattle.trace_model.specs.Steps.{Exchange}
use Rattle.text_model.specs.Log.{LogLine}
use Rattle.world_model.specs.Log.{logged, log_of}
use Rattle.script_replay.specs.log.LogTypes.{shown_log}
use Rattle.step_model.specs.StepTexts.{step_text}
use Rattle.step_model.specs.RunTexts.{Tells}
use Rattle.ring_core.specs.Value.{CoreValue}
use Rattle.ring_frames.specs.declared.answer.Answer.{Answer}
use Rattle.ring_frames.specs.Answers.{IsAnswerOf}
use Rattle.script_replay.specs.declared.asked.Asked.{Asked}
use Rattle.script_replay.specs.Known.{StepTextValue, Knows}
use Rattle.script_replay.specs.Tells.{IsStepOf, IsStepTold, MayTell}
use Rattle.script_replay.specs.Reports.{ReportsValue, AreTold, Reported, KnowsRing, MayReport}
use Rattle.script_replay.specs.Reports.{IsReported}

-- ---- the log

log_of_more : (line cpu : ℕ) (xs ys : List Exchange)
    → log_of line cpu (xs ++ ys) ≡ log_of line cpu xs ++ log_of line cpu ys
log_of_more line cpu xs ys = flat_map-append (λ x. logged line cpu x.answer) xs ys

logged_more : (line cpu : ℕ) (xs ys : List Exchange) (old between new : List LogLine)
    → between ≡ old ++ log_of line cpu xs
    → new ≡ between ++ log_of line cpu ys
    → new ≡ old ++ log_of line cpu (xs ++ ys)
logged_more line cpu xs ys old between new first then_logged = then_logged
    ∙ ap (λ (l : List LogLine). l ++ log_of line cpu ys) first
    ∙ append_assoc old (log_of line cpu xs) (log_of line cpu ys)
    ∙ ap (λ (l : List LogLine). old ++ l) (sym (log_of_more line cpu xs ys))

-- ---- the text of the steps

module _ (n size line cpu : ℕ) where
  tells_more : (before between after : Core) (xs ys : List Exchange) (text more : List ℕ)
      → Tells n size line cpu before xs between text
      → Tells n size line cpu between ys after more
      → Tells n size line cpu before (xs ++ ys) after (text ++ more)
  tells_more before between after [] ys text more first rest =
      subst (λ (l : List ℕ). Tells n size line cpu before ys after (l ++ more)) (sym first.1)
      (subst (λ (c : Core). Tells n size line cpu c ys after more) (sym first.0) rest)
  tells_more before between after (x ∷ xs) ys text more (next, tail, step, is, first) rest = (
    next,
    tail ++ more,
    step,
    ap (λ (l : List ℕ). l ++ more) is
        ∙ append_assoc (step_text line cpu before x.event x.answer next) tail more,
    tells_more next between after xs ys tail more first rest,
  )

  told_none : (c : Core) (steps : Option StepTextValue)
      → IfSome steps (λ s. Knows s cpu c)
      → AreTold n size line cpu c [] c steps steps
  told_none c None knows = tt
  told_none c (Some s) knows = record {
    text = [];
    tells = (refl, refl);
    text_is = sym (append-nil s.text);
    knows = knows;
    others = λ other apart. refl;
  }

  told_more : (before between after : Core) (xs ys : List Exchange) (o p q : Option StepTextValue)
      → AreTold n size line cpu before xs between o p
      → AreTold n size line cpu between ys after p q
      → AreTold n size line cpu before (xs ++ ys) after o q
  told_more before between after xs ys None None None first rest = tt
  told_more before between after xs ys None None (Some q) first rest = absurd rest
  told_more before between after xs ys None (Some p) q first rest = absurd first
  told_more before between after xs ys (Some o) None q first rest = absurd first
  told_more before between after xs ys (Some o) (Some p) None first rest = absurd rest
  told_more before between after xs ys (Some o) (Some p) (Some q) first rest = record {
    text = first.text ++ rest.text;
    tells = tells_more before between after xs ys first.text rest.text first.tells rest.tells;
    text_is = rest.text_is
        ∙ ap (λ (l : List ℕ). l ++ rest.text) first.text_is
        ∙ append_assoc o.text first.text rest.text;
    knows = rest.knows;
    others = λ other apart. rest.others other apart ∙ first.others other apart;
  }

  known_after : (before after : Core) (xs : List Exchange) (o p : Option StepTextValue)
      → AreTold n size line cpu before xs after o p
      → IfSome p (λ s. Knows s cpu after)
  known_after before after xs None None told = tt
  known_after before after xs None (Some p) told = absurd told
  known_after before after xs (Some o) None told = absurd told
  known_after before after xs (Some o) (Some p) told = told.knows

  -- ---- both

  -- nothing is reported of no exchange
  pub reported_none : (c : Core) (reports : ReportsValue)
      → KnowsRing reports cpu c
      → Reported n size line cpu c [] c reports reports
  reported_none c reports knows =
      record { log = sym (append-nil (shown_log reports.log)); steps = told_none c reports.steps knows }

  -- some are reported, and then others
  pub reported_more : (before between after : Core) (xs ys : List Exchange) (old middle new : ReportsValue)
      → Reported n size line cpu before xs between old middle
      → Reported n size line cpu between ys after middle new
      → Reported n size line cpu before (xs ++ ys) after old new
  reported_more before between after xs ys old middle new first rest = record {
    log = logged_more line cpu xs ys (shown_log old.log) (shown_log middle.log) (shown_log new.log)
        first.log rest.log;
    steps = told_more before between after xs ys old.steps middle.steps new.steps first.steps rest.steps;
  }

  -- and then the ring is known
  pub knows_after : (before after : Core) (xs : List Exchange) (old new : ReportsValue)
      → Reported n size line cpu before xs after old new
      → KnowsRing new cpu after
  knows_after before after xs old new reported = known_after before after xs old.steps new.steps reported.steps

-- ---- one step

module _ (line cpu : ℕ) (asked : Asked) (answer : Answer) (ring : CoreValue) (n size start : ℕ) (before after : Core)
    (event : model.Event) (reported : model.Answer)
    (step : IsStepOf n size start before after event reported asked answer ring) where
  may_tell : (steps : Option StepTextValue)
      → IfSome steps (λ s. Knows s cpu before)
      → IfSome steps (λ s. MayTell cpu asked answer ring s)
  may_tell None knows = tt
  may_tell (Some s) knows = record {
    n = n;
    size = size;
    start = start;
    before = before;
    after = after;
    event = event;
    reported = reported;
    knows = knows;
    step = step;
  }

  -- it may be reported, if its ring is known
  pub may_report : (reports : ReportsValue) → KnowsRing reports cpu before → MayReport cpu asked answer ring reports
  may_report reports knows = may_tell reports.steps knows

  told_one : (o p : Option StepTextValue)
      → IfSome o (λ s. Knows s cpu before)
      → IsStepTold line cpu asked answer ring o p
      → AreTold n size line cpu before (record { event = event; answer = reported } ∷ []) after o p
  told_one None None knows told = tt
  told_one None (Some p) knows told = absurd told
  told_one (Some o) None knows told = absurd told
  told_one (Some o) (Some p) knows told =
      let t = told n size start before after event reported knows step in
      record {
        text = step_text line cpu before event reported after;
        tells = (after, [], step.step, sym (append-nil (step_text line cpu before event reported after)), (refl, refl));
        text_is = t.text;
        knows = t.knows;
        others = t.others;
      }

-- what is logged of the answer, and the text of the step, is the report
pub step_reported : (line cpu : ℕ) (asked : Asked) (answer : Answer) (ring : CoreValue) (old new : ReportsValue)
    → IsStepTold line cpu asked answer ring old.steps new.steps
    → ((size : ℕ) (reported : model.Answer)
    → IsAnswerOf size answer reported
    → shown_log new.log ≡ shown_log old.log ++ logged line cpu reported)
    → IsReported line cpu asked answer ring old new
step_reported line cpu asked answer ring old new told says n size start before after event reported knows step =
    record {
      log = says size reported step.reports
          ∙ ap (λ (l : List LogLine). shown_log old.log ++ l) (sym (append-nil (logged line cpu reported)));
      steps =
          told_one line cpu asked answer ring n size start before after event reported step old.steps new.steps knows
          told;
    }
