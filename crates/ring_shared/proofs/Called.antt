-- What a call asks of its writer, stated of the view of the writer's fields.
use Rattle.std.proofs.Common.{◌≡◌, ◌≢◌, [], sym, ap, ◌∙◌, subst}
use Rattle.ring_frames.specs.declared.phase.Phase.{Phase}
use Rattle.ring_frames.specs.Value.{phase_of}
use Rattle.ring_shared.specs.Value.{WriterValue}
use Rattle.ring_shared.specs.Calls.{AreWriterFields}

module _ {v x : WriterValue} (view_is : v ≡ x) where
  pub writer_seen : AreWriterFields x → AreWriterFields v
  writer_seen w = subst AreWriterFields (sym view_is) w

  pub top_seen : x.frames.stack.frames ≢ [] → v.frames.stack.frames ≢ []
  top_seen some = subst (λ (y : WriterValue). y.frames.stack.frames ≢ []) (sym view_is) some

  pub phase_seen : {phase : Phase} → x.frames.phase ≡ phase → phase_of v.frames.phase ≡ phase_of phase
  phase_seen at = ap (λ (y : WriterValue). phase_of y.frames.phase) view_is ∙ ap phase_of at
