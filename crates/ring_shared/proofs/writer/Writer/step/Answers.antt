use Rattle.std.specs.Prelude.{List, Option}
use Rattle.std.proofs.Common.{rules, ◌≡◌, ℕ, [], ◌∷◌, refl, sym, ◌∙◌, subst}
use Rattle.trace_model.specs.Frames.{Frame}
use Rattle.trace_model.specs.Steps.{steps}
use Rattle.ring_model.specs.Seats.{TopIsPrivate}
use Rattle.nested_writer.specs.declared.fault.WriteFault.TheVariants.{NoFrame}
use Rattle.ring_frames.specs.declared.answer.Answer.TheVariants.{Refused}
use Rattle.ring_frames.specs.Phases.{as_answer}
use Rattle.ring_shared.specs.Value.{WriterValue}
use Rattle.ring_shared.specs.Calls.{IsWriter}
use Rattle.ring_shared.proofs.Privately.{seen_call}
use Rattle.ring_shared.proofs.NoFrame.{refuses_step, none_in_part}
use Rattle.ring_shared.proofs.Rooms.{going_rooms, reserved_rooms, gone_rooms, refused_rooms, no_rooms}
use Rattle.ring_shared.proofs.CallSteps.{one_step}
use Rattle.ring_shared.proofs.writer.Writer.step.Goals as goal

pub returns-in-Idle-clause-slots : goal.returns-in-Idle-clause-slots
returns-in-Idle-clause-slots c = record {
  payloads = c.reserve.ensures.payloads;
  zeros = c.reserve.ensures.zeros;
  room = λ number reserved. reserved_rooms _ _ c.reserve.result _ c.reserve.ensures.makes.call number reserved;
  gone = λ gone. gone_rooms _ _ c.reserve.result _ c.reserve.ensures.makes.call gone;
  refused = λ fault refused. refused_rooms _ _ c.reserve.result _ c.reserve.ensures.makes.call fault refused;
}

pub returns-in-Idle-clause-few : goal.returns-in-Idle-clause-few
returns-in-Idle-clause-few c = one_step _ _ _ _ _ c.reserve.ensures.makes.call

pub returns-in-Idle-clause-going : goal.returns-in-Idle-clause-going
returns-in-Idle-clause-going c = λ going. going_rooms _ _ c.reserve.result _ c.reserve.ensures.makes.call going

pub returns-in-Wishing-clause-slots : goal.returns-in-Wishing-clause-slots
returns-in-Wishing-clause-slots c = record {
  payloads = search rules;
  zeros = search rules;
  room = search rules;
  gone =
      λ gone.
      gone_rooms _ _ (as_answer c.load_wish.result) _ c.load_wish.ensures.makes.call
      (sym c.answer.ensures ∙ gone);
  refused =
      λ fault refused.
      refused_rooms _ _ (as_answer c.load_wish.result) _ c.load_wish.ensures.makes.call fault
      (sym c.answer.ensures ∙ refused);
}

pub returns-in-Wishing-clause-few : goal.returns-in-Wishing-clause-few
returns-in-Wishing-clause-few c = one_step _ _ _ _ _ c.load_wish.ensures.makes.call

pub returns-in-Wishing-clause-going : goal.returns-in-Wishing-clause-going
returns-in-Wishing-clause-going c =
    λ going.
    going_rooms _ _ (as_answer c.load_wish.result) _ c.load_wish.ensures.makes.call
    (sym c.answer.ensures ∙ going)

pub returns-in_default-clause-slots : goal.returns-in_default-clause-slots
returns-in_default-clause-slots c = record {
  payloads = search rules;
  zeros = search rules;
  room = search rules;
  gone =
      λ gone.
      gone_rooms _ _ (as_answer c.word_step.result) _ c.word_step.ensures.makes.call
      (sym c.answer-in_default.ensures ∙ gone);
  refused =
      λ fault refused.
      refused_rooms _ _ (as_answer c.word_step.result) _ c.word_step.ensures.makes.call fault
      (sym c.answer-in_default.ensures ∙ refused);
}

pub returns-in_default-clause-few : goal.returns-in_default-clause-few
returns-in_default-clause-few c = one_step _ _ _ _ _ c.word_step.ensures.makes.call

pub returns-in_default-clause-going : goal.returns-in_default-clause-going
returns-in_default-clause-going c =
    λ going.
    going_rooms _ _ (as_answer c.word_step.result) _ c.word_step.ensures.makes.call
    (sym c.answer-in_default.ensures ∙ going)

-- ---- with no frame the step is refused

pub note_step-requires : goal.note_step-requires
unfolding IsWriter
note_step-requires c = record {
  private =
      subst (λ (fs : List Frame). TopIsPrivate fs c.self.inside.seat.ghost_part.now.opened)
      (sym (none_in_part _ (subst IsWriter (sym c.self.view_is) c.requires.writer)
      (c.is_empty.ensures.0 c.if-is_empty.true))) tt;
}

pub returns-then-is_empty-clause-makes : goal.returns-then-is_empty-clause-makes
unfolding IsWriter
returns-then-is_empty-clause-makes c =
    seen_call _ _ (λ _. steps) (Refused NoFrame) _ c.self.view_is c.requires.writer c.note_step.ensures.same.shape
    c.note_step.ensures.same.table c.note_step.ensures.noted refl
    (refuses_step c.self.inside.frames (c.is_empty.ensures.0 c.if-is_empty.true))

pub returns-then-is_empty-clause-few : goal.returns-then-is_empty-clause-few
unfolding IsWriter
returns-then-is_empty-clause-few c = one_step _ _ _ _ _ (returns-then-is_empty-clause-makes c).call

pub returns-then-is_empty-clause-writer : goal.returns-then-is_empty-clause-writer
returns-then-is_empty-clause-writer c = (returns-then-is_empty-clause-makes c).writer

-- none is nearer to its end
pub returns-then-is_empty-clause-nearer : goal.returns-then-is_empty-clause-nearer
unfolding IsWriter
returns-then-is_empty-clause-nearer c =
    let none : c.args.self.now.frames.stack.frames ≡ [] =
    subst (λ (v : WriterValue). v.frames.stack.frames ≡ []) c.self.view_is
    (c.is_empty.ensures.0 c.if-is_empty.true) in
    λ frame below top unnumbered stands.
    absurd (let both : ◌≡◌ {A = List Frame} [] (frame ∷ below) =
    sym (none_in_part c.args.self.now c.requires.writer none) ∙ top in
    cc)

-- with no frame none is below another
pub returns-then-is_empty-clause-slots : goal.returns-then-is_empty-clause-slots
unfolding IsWriter
returns-then-is_empty-clause-slots c =
    let none : c.args.self.now.frames.stack.frames ≡ [] =
    subst (λ (v : WriterValue). v.frames.stack.frames ≡ []) c.self.view_is
    (c.is_empty.ensures.0 c.if-is_empty.true) in
    record {
      payloads = search rules;
      zeros = search rules;
      room = search rules;
      gone = search rules;
      refused =
          λ fault refused top next others is.
          absurd
          (let both : ◌≡◌ {A = List (Option ℕ)} [] (top ∷ next ∷ others) =
          sym (no_rooms c.args.self.now c.requires.writer none) ∙ is in
          cc);
    }
