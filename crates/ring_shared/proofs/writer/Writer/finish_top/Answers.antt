use Rattle.std.specs.Prelude.{Option, Some, IfSome, List, []}
use Rattle.std.proofs.Common.{rules, ◌≡◌, ◌≢◌, refl, sym, ◌∙◌, subst}
use Rattle.ring_model.specs.FrameOutcomes.{IsLeaving}
use Rattle.nested_writer.specs.declared.frame.Frame as stack
use Rattle.nested_writer.specs.Calls.{top_of}
use Rattle.nested_writer.specs.declared.frame.Pushed.{Pushed}
use Rattle.nested_writer.specs.PlainTop.{IsPlainTop}
use Rattle.ring_frames.specs.declared.answer.Answer.TheVariants.{Reserved, Gone, Refused}
use Rattle.ring_frames.specs.declared.phase.Phase.TheVariants.{Wishing}
use Rattle.ring_shared.specs.declared.writer.finish.Target.TheVariants as target
use Rattle.ring_shared.specs.Value.{WriterValue}
use Rattle.ring_shared.specs.Calls.{IsWriter}
use Rattle.ring_shared.specs.Finishing.{IsTarget}
use Rattle.ring_shared.specs.contracts.writer.Writer.{the_view}
use Rattle.ring_shared.proofs.Targets.{IsOnTop, reserving_on_top, finishes_reserving, finishes_leaving}
use Rattle.ring_shared.proofs.Depths.{reserving_top}
use Rattle.ring_shared.proofs.Finishes.{reserving_first, reserving_ends}
use Rattle.ring_shared.proofs.Rooms.{reserved_rooms, finished_rooms, finished_gone, finished_refused}
use Rattle.ring_shared.proofs.TopAnswers.{wishing_on_top}
use Rattle.ring_shared.proofs.CallSteps.{finishes_few}
use Rattle.ring_shared.proofs.writer.Writer.finish_top.Goals as goal
use Rattle.ring_shared.proofs.writer.Writer.finish_top.Goals.{in-Wishing, in_default}

-- what holds of what is found
some_in : (found : Option Pushed) (pushed : Pushed) (holds : Pushed → Type 0) → found ≡ Some pushed → IfSome found holds
    → holds pushed
some_in found pushed holds is all = subst (λ (f : Option Pushed). IfSome f holds) is all

pub returns-in-Some-clause-finished : goal.returns-in-Some-clause-finished
unfolding IsWriter
returns-in-Some-clause-finished c =
    let v : WriterValue = c.args.self.now in let new : WriterValue = c.reserve_plain.new.self in
    let plain : IsPlainTop v.frames.stack c.in-Some.pushed =
    subst (λ (x : WriterValue). IsPlainTop x.frames.stack c.in-Some.pushed) c.self.view_is
    (some_in c.plain_top.result c.in-Some.pushed (λ pushed. IsPlainTop c.self.inside.frames.stack pushed)
    c.in-Some.is c.plain_top.ensures) in
    let t =
    reserving_on_top v c.requires.writer
    (subst (λ (fs : List stack.Frame). IsTarget (top_of fs) target.Record) (sym plain.on_top) tt) in
    finishes_reserving v.shape v.part (Reserved c.reserve_plain.result) new.part t
    (λ frame below top. reserving_ends v.shape frame.kind below v.part v.part new.part (Reserved c.reserve_plain.result)
    (reserving_first v.shape frame below v.part top
    (reserving_top v.part.frames t.frame frame t.below below t.top t.is top)) c.reserve_plain.ensures.makes.call
    (λ e. cc))

pub returns-in-Some-clause-slots : goal.returns-in-Some-clause-slots
returns-in-Some-clause-slots c = record {
  payloads = c.reserve_plain.ensures.payloads;
  zeros = c.reserve_plain.ensures.zeros;
  room =
      λ number reserved.
      reserved_rooms _ _ (Reserved c.reserve_plain.result) _ c.reserve_plain.ensures.makes.call number reserved;
  gone = λ gone. absurd (let no : Reserved c.reserve_plain.result ≡ Gone = gone in cc);
  refused = λ fault refused. absurd (let no : Reserved c.reserve_plain.result ≡ Refused fault = refused in cc);
}

-- the frame on top looks for the reader's wish, so that it has left
wishing : (v now : WriterValue) → IsWriter now → v ≡ now → v.frames.stack.frames ≢ [] → v.frames.phase ≡ Wishing
    → IsOnTop now.part.frames IsLeaving
unfolding IsWriter
wishing v now w same some at =
    wishing_on_top now w (subst (λ (x : WriterValue). x.frames.stack.frames ≢ []) same some)
    (subst (λ (x : WriterValue). x.frames.phase ≡ Wishing) same at)

pub finish_wishing-requires-clause-leaving : goal.finish_wishing-requires-clause-leaving
unfolding IsWriter
finish_wishing-requires-clause-leaving c = record {
  writer = search rules;
  top = let t = wishing (the_view c.self.inside) c.args.self.now c.requires.writer c.self.view_is
      (λ none. let yes = c.is_empty.ensures.1 none in let no = c.if-not-is_empty.true in cc)
      (elim c.match-matches.branch [
        | in-Wishing w ↦ sym c.phase.ensures
            ∙ w.in-Wishing.is
        | in_default w ↦ absurd (let no = w.matches-is in let yes = c.if-matches.true in cc)
      ]) in
      (t.frame, t.below, t.top, t.is);
}

pub returns-then-not-is_empty-clause-finished : goal.returns-then-not-is_empty-clause-finished
unfolding IsWriter
returns-then-not-is_empty-clause-finished c =
    let v : WriterValue = c.args.self.now in
    finishes_leaving v.shape v.part c.finish_wishing.result c.finish_wishing.new.self.part
    (wishing (the_view c.self.inside) v c.requires.writer c.self.view_is
    (λ none. let yes = c.is_empty.ensures.1 none in let no = c.if-not-is_empty.true in cc)
    (elim c.match-matches.branch [
      | in-Wishing w ↦ sym c.phase.ensures
          ∙ w.in-Wishing.is
      | in_default w ↦ absurd (let no = w.matches-is in let yes = c.if-matches.true in cc)
    ]))
    c.finish_wishing.ensures.leaves

-- ---- rooms

pub returns-then-not-is_empty-clause-slots : goal.returns-then-not-is_empty-clause-slots
unfolding IsWriter
returns-then-not-is_empty-clause-slots c = record {
  payloads = search rules;
  zeros = search rules;
  room = search rules;
  gone = λ gone. finished_gone _ _ c.finish_wishing.result _ (returns-then-not-is_empty-clause-finished c) gone;
  refused =
      λ fault refused.
      finished_refused _ _ c.finish_wishing.result _ (returns-then-not-is_empty-clause-finished c) fault refused;
}

pub returns-in-Gone-clause-slots : goal.returns-in-Gone-clause-slots
returns-in-Gone-clause-slots c = record {
  payloads = search rules;
  zeros = search rules;
  room = search rules;
  gone = λ gone. finished_gone _ _ Gone _ c.in-Gone.ensures.finished refl;
  refused = search rules;
}

pub returns-in-Ok-clause-slots : goal.returns-in-Ok-clause-slots
returns-in-Ok-clause-slots c = record {
  payloads = search rules;
  zeros = search rules;
  room = λ number reported. let (slot, on_top, finishes) = c.in-Reserved.ensures.finished in
      finished_rooms _ _ _ _ finishes record { 0 = slot.number } refl;
  gone = search rules;
  refused = search rules;
}

pub returns-in-Refused-clause-slots : goal.returns-in-Refused-clause-slots
returns-in-Refused-clause-slots c = record {
  payloads = search rules;
  zeros = search rules;
  room = search rules;
  gone = search rules;
  refused = λ fault refused. finished_refused _ _ (Refused _) _ c.in-Refused.ensures.finished fault refused;
}

-- ---- how many steps these are

pub returns-in-Some-clause-few : goal.returns-in-Some-clause-few
returns-in-Some-clause-few c = finishes_few _ _ _ _ (returns-in-Some-clause-finished c)

pub returns-then-not-is_empty-clause-few : goal.returns-then-not-is_empty-clause-few
returns-then-not-is_empty-clause-few c = finishes_few _ _ _ _ (returns-then-not-is_empty-clause-finished c)

pub returns-in-Gone-clause-few : goal.returns-in-Gone-clause-few
returns-in-Gone-clause-few c = finishes_few _ _ Gone _ c.in-Gone.ensures.finished

pub returns-in-Ok-clause-few : goal.returns-in-Ok-clause-few
returns-in-Ok-clause-few c = let (slot, on_top, finishes) = c.in-Reserved.ensures.finished in
    finishes_few _ _ _ _ finishes

pub returns-in-Refused-clause-few : goal.returns-in-Refused-clause-few
returns-in-Refused-clause-few c = finishes_few _ _ _ _ c.in-Refused.ensures.finished
