use Rattle.std.proofs.Common.{ℕ, ◌++◌, drop, refl, sym, subst, ap, ◌∙◌}
use Rattle.trace_model.specs.Words.{time_stamp, time_extend, padding, bytes_of_word}
use Rattle.record_words.specs.Next.{StandsAt, IsWordRead, DataAt, PaddingAt, EndingAt}
use Rattle.record_words.specs.declared.next.Word.{Word}
use Rattle.capture.specs.stamps.Restored.{restored_word}
use Rattle.capture.proofs.Restored.{none-of_fault}
use Rattle.capture.proofs.Steps.{kept-word, kept-record, stamp-end}
use Rattle.capture.proofs.stamps.restore.restore_word.Goals as goal

pub restore_stamp-requires : goal.restore_stamp-requires
restore_stamp-requires c =
    let here : StandsAt c.args.«data».now c.args.reached.at c.in-Ok-Stamp.next (time_stamp c.in-Ok-Stamp.time) =
    subst (λ (w : Word). IsWordRead c.args.«data».now c.args.reached.at w) c.in-Ok-Stamp.field-0-is
    c.in-Ok-Stamp.ensures.word in
    subst (λ (n : ℕ). StandsAt c.args.«data».now c.args.reached.at n (time_stamp c.in-Ok-Stamp.time))
    (sym (stamp-end _ _ _ _ here)) here

pub returns-in-Ok-Data-clause-word : goal.returns-in-Ok-Data-clause-word
returns-in-Ok-Data-clause-word c =
    let here : DataAt c.args.«data».now c.args.reached.at c.in-Ok-Data.delta c.in-Ok-Data.field-0-1 c.in-Ok-Data.next =
    subst (λ (w : Word). IsWordRead c.args.«data».now c.args.reached.at w) c.in-Ok-Data.field-0-is
    c.in-Ok-Data.ensures.word in
    kept-record c.args.«data».now c.args.reached c.past.result here.word c.in-Ok-Data.next c.in-Ok-Data.delta
    here.at_offset here.is_data here.delta_is c.past.ensures.next c.past.ensures.time

pub returns-in-Ok-Extend-clause-word : goal.returns-in-Ok-Extend-clause-word
returns-in-Ok-Extend-clause-word c =
    let here : StandsAt c.args.«data».now c.args.reached.at c.in-Ok-Extend.next (time_extend c.in-Ok-Extend.delta) =
    subst (λ (w : Word). IsWordRead c.args.«data».now c.args.reached.at w) c.in-Ok-Extend.field-0-is
    c.in-Ok-Extend.ensures.word in
    kept-word c.args.«data».now c.args.reached c.past-in-Ok-Extend.result (time_extend c.in-Ok-Extend.delta)
    c.in-Ok-Extend.next c.in-Ok-Extend.delta here refl refl c.past-in-Ok-Extend.ensures.next
    c.past-in-Ok-Extend.ensures.time

pub returns-in-Ok-Pad-clause-word : goal.returns-in-Ok-Pad-clause-word
returns-in-Ok-Pad-clause-word c =
    let here : PaddingAt c.args.«data».now c.args.reached.at c.in-Ok-Pad.next =
    subst (λ (w : Word). IsWordRead c.args.«data».now c.args.reached.at w) c.in-Ok-Pad.field-0-is
    c.in-Ok-Pad.ensures.word in
    kept-word c.args.«data».now c.args.reached c.past-in-Ok-Pad.result (padding here.delta here.skipped)
    c.in-Ok-Pad.next 0 here.at_offset refl refl c.past-in-Ok-Pad.ensures.next c.past-in-Ok-Pad.ensures.time

pub returns-in-Ok-Stamp-clause-word : goal.returns-in-Ok-Stamp-clause-word
returns-in-Ok-Stamp-clause-word c =
    let stamp = c.in-Ok-Stamp.time in
    let here : StandsAt c.args.«data».now c.args.reached.at c.in-Ok-Stamp.next (time_stamp stamp) =
    subst (λ (w : Word). IsWordRead c.args.«data».now c.args.reached.at w) c.in-Ok-Stamp.field-0-is
    c.in-Ok-Stamp.ensures.word in
    record {
      word = time_stamp stamp;
      stands = here;
      front = c.restore_stamp.ensures.front;
      put = c.restore_stamp.ensures.word
          ∙ ap
          (λ (n : ℕ).
          bytes_of_word (restored_word c.args.reached.before (time_stamp stamp)) ++ drop n c.args.«data».now)
          (stamp-end _ _ _ _ here);
      time = c.restore_stamp.ensures.time;
    }

pub returns-in-Ok-End-clause-end : goal.returns-in-Ok-End-clause-end
returns-in-Ok-End-clause-end c = λ ended.
    let here : EndingAt c.args.«data».now c.args.reached.at =
    subst (λ (w : Word). IsWordRead c.args.«data».now c.args.reached.at w) c.in-Ok-End.field-0-is
    c.in-Ok-End.ensures.word in
    here.none_found

pub returns-in-Err-clause-end : goal.returns-in-Err-clause-end
returns-in-Err-clause-end c =
    λ ended. none-of_fault c.args.«data».now c.args.reached.at c.in-Err.field-0 c.in-Err.ensures.fault
