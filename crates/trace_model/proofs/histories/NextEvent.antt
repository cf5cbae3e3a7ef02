-- The writer's stack after one more event.
use Rattle.std.proofs.Common.{◌≡◌, List, [], ◌∷◌, ◌++◌, length, Option, Some, None, ap, ◌∙◌, refl, ℕ}
use Rattle.std.specs.Prelude.{IsTrue}
use Rattle.std.proofs.lemmas.List.Sums.{fold-append}
use Rattle.trace_model.specs.History.{HistoryEvent, open_fill, reserve, leave, wished, PushedFrame, record_frame}
use Rattle.trace_model.specs.History.{WriterState, after_event, writer_after, reserved_records, is_settled}

pub writer_snoc : (h : List HistoryEvent) (a : HistoryEvent)
    → writer_after (h ++ a ∷ []) ≡ after_event (writer_after h).stack (writer_after h).records a
writer_snoc h a =
    fold-append (λ (w : WriterState) (x : HistoryEvent). after_event w.stack w.records x)
    record { stack = []; records = [] } h (a ∷ [])

pub opened_stack : (h : List HistoryEvent) (stack : List PushedFrame) → (writer_after h).stack ≡ stack
    → (writer_after (h ++ open_fill ∷ [])).stack ≡ stack
opened_stack h stack e = ap (λ (w : WriterState). w.stack) (writer_snoc h open_fill) ∙ e

pub wished_stack : (h : List HistoryEvent) (stack : List PushedFrame) → (writer_after h).stack ≡ stack
    → (writer_after (h ++ wished ∷ [])).stack ≡ stack
wished_stack h stack e = ap (λ (w : WriterState). w.stack) (writer_snoc h wished) ∙ e

pub left_stack : (h : List HistoryEvent) (f : PushedFrame) (stack : List PushedFrame) (payload : Option (List ℕ))
    → (writer_after h).stack ≡ f ∷ stack → (writer_after (h ++ leave payload ∷ [])).stack ≡ stack
left_stack h f stack payload e =
    ap (λ (w : WriterState). w.stack) (writer_snoc h (leave payload))
    ∙ ap (λ (s : List PushedFrame). (after_event s (writer_after h).records (leave payload)).stack) e

pub reserved_stack : (h : List HistoryEvent) (moment len : ℕ) (stack : List PushedFrame)
    → (writer_after h).stack ≡ record_frame moment len None ∷ stack
    → (writer_after (h ++ reserve ∷ [])).stack ≡ record_frame moment len (Some (length (reserved_records h))) ∷ stack
reserved_stack h moment len stack e =
    ap (λ (w : WriterState). w.stack) (writer_snoc h reserve)
    ∙ ap (λ (s : List PushedFrame). (after_event s (writer_after h).records reserve).stack) e

pub settled_at_rest : (h : List HistoryEvent) → (writer_after h).stack ≡ [] → IsTrue (is_settled h)
settled_at_rest h e = rw (is_settled, e) refl
