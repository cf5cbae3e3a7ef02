-- The reader's fields after a step that takes nothing.
use Rattle.std.proofs.Common.{◌≡◌, ℕ, length, Some, None, sym, ap, ◌∙◌, subst}
use Rattle.atomic_table.specs.Seated.{TableId}
use Rattle.trace_model.specs.Ring as ring
use Rattle.ring_model.proofs.partition.RingsKept.{reached_kept}
use Rattle.ring_frames.specs.ReaderPhases.{reader_phase_of}
use Rattle.ring_frames.specs.declared.reader.TakeState.{TakeState}
use Rattle.ring_steps.specs.declared.rule.Shape.{Shape}
use Rattle.ring_steps.specs.Views.{Reading}
use Rattle.ring_shared.specs.Value.{ReaderValue}
use Rattle.ring_shared.specs.Takes.{IsReaderPart, KeepsSpare, SawPage, KnowsNoneUnread, IsReader}
use Rattle.ring_shared.proofs.TakeSteps.{Stays}

-- the reader as the model has it
abbrev pub AreFields : ring.Reader → TakeState → Type 0
AreFields reader at =
    (reader.phase ≡ reader_phase_of at.phase) × (reader.hint ≡ at.hint) × (reader.seen ≡ at.seen)
    × (reader.expected ≡ at.expected)

module _ (w v : ReaderValue) (same : w ≡ v) (is : IsReader v) where
  pub fields : AreFields v.part.reader w.at
  fields =
      subst (λ (x : ReaderValue). AreFields v.part.reader x.at) (sym same)
      (is.phase_is, is.hint_is, is.seen_is, is.expected_is)

  -- the fields are the reader's part again, after a step that takes nothing or a wish
  pub shown_as : (shape : Shape) (table : TableId) (after : Reading) (reader : ring.Reader) (at : TakeState) (wish : ℕ)
      → shape ≡ w.shape → Stays v.shape (record v.part { wish = wish }) after reader
      → AreFields reader at → KeepsSpare at.phase after.keeps_spare → SawPage at.phase
      → ((done : ℕ) → w.empty_at ≡ Some done
      → KnowsNoneUnread (record w { shape = shape; table = table; part = after; at = at }) done)
      → IsReader (record w { shape = shape; table = table; part = after; at = at })
  shown_as shape table after reader at wish shape_is s (phase, hint, seen, expected) keeps saw empty = record {
    part =
        subst (λ (x : Shape). IsReaderPart x after) (sym (shape_is ∙ ap (λ (x : ReaderValue). x.shape) same)) s.known;
    order_is = s.order_is ∙ (is.order_is ∙ ap (λ (x : ReaderValue). x.order) (sym same));
    spare_is = s.spare_is ∙ (is.spare_is ∙ ap (λ (x : ReaderValue). x.spare) (sym same));
    phase_is = ap (λ (x : ring.Reader). x.phase) s.reader_is ∙ phase;
    hint_is = ap (λ (x : ring.Reader). x.hint) s.reader_is ∙ hint;
    seen_is = ap (λ (x : ring.Reader). x.seen) s.reader_is ∙ seen;
    expected_is = ap (λ (x : ring.Reader). x.expected) s.reader_is ∙ expected;
    keeps = keeps;
    saw = saw;
    empty = empty;
  }

  -- no take has answered that it found nothing
  pub not_empty : v.empty_at ≡ None → (done : ℕ) → w.empty_at ≡ Some done → ⊥
  not_empty again done e = let none : w.empty_at ≡ None = ap (λ (x : ReaderValue). x.empty_at) same ∙ again in
      let both = sym none ∙ e in
      absurd (cc)

  pub shown : (shape : Shape) (table : TableId) (after : Reading) (reader : ring.Reader) (at : TakeState)
      → v.empty_at ≡ None → shape ≡ w.shape → Stays v.shape v.part after reader
      → AreFields reader at → KeepsSpare at.phase after.keeps_spare → SawPage at.phase
      → IsReader (record w { shape = shape; table = table; part = after; at = at })
  shown shape table after reader at again shape_is s fields keeps saw =
      shown_as shape table after reader at v.part.wish shape_is s fields keeps saw
      (λ done e. absurd (not_empty again done e))

-- the order has as many pages as the ring
pub positions : (v : ReaderValue) → IsReader v → length v.order ≡ v.shape.pages
positions v is = let kept = reached_kept v.shape.pages v.shape.size v.shape.start is.part.core is.part.reached in
    ap (length {A = ℕ}) (sym is.order_is ∙ is.part.is.order_is) ∙ kept.links.apart.pages
