use Rattle.std.proofs.Common.{◌≡◌, drop, [], refl, ap, ◌∙◌}
use Rattle.std.proofs.lemmas.List.{drop_all}
use Rattle.trace_model.specs.Reading.{word_at_front}
use Rattle.trace_model.proofs.words.OneWord.{word_at_front-nil}
use Rattle.capture.proofs.Restored.{restored-end}
use Rattle.capture.proofs.Steps.{step-on}
use Rattle.capture.proofs.stamps.restore.restore_data.Goals as goal

pub loop-reached-preserved : goal.loop-reached-preserved
loop-reached-preserved c =
    let on =
    step-on _ c.loop-reached.«data» c.restore_word.new.«data» c.loop-reached.reached c.in-Some.behind
    c.in-Some.ensures.word c.loop-reached.invariant.done in
    record { within = on.0; done = on.1 }

pub returns-in_default : goal.returns-in_default
returns-in_default c =
    c.in_default.ensures.kept refl
    ∙ restored-end _ c.loop-reached.«data» c.loop-reached.reached.before c.loop-reached.reached.at
    (c.in_default.ensures.end refl) c.loop-reached.invariant.done

pub returns : goal.returns
returns c =
    let none : drop c.loop-reached.reached.at c.loop-reached.«data» ≡ [] = drop_all _ _ c.loop-reached-test.false in
    restored-end _ c.loop-reached.«data» c.loop-reached.reached.before c.loop-reached.reached.at
    (ap word_at_front none ∙ word_at_front-nil) c.loop-reached.invariant.done
