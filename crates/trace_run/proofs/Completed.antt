-- What both threads of a ring leave, settled.
use Rattle.std.specs.Prelude.{Bool}
use Rattle.std.proofs.Common.{◌≡◌, ℕ, refl, sym, ap, ◌∙◌, subst}
use Rattle.page_numbers.specs.Parcels.{as_parcels}
use Rattle.ring_steps.specs.declared.rule.Shape.{Shape}
use Rattle.ring_steps.specs.Views.{Writing}
use Rattle.ring_shared.specs.Value.{WriterValue}
use Rattle.trace_run.specs.declared.ledgers.ledger.Ledger.{Ledger}
use Rattle.trace_run.specs.ledgers.Audit.{taken_of}
use Rattle.trace_run.specs.declared.writers.gate.Who.{Who}
use Rattle.trace_run.specs.writers.Asking.{HavePassed}
use Rattle.trace_run.specs.readers.Value.{ReaderEndValue}
use Rattle.trace_run.specs.readers.Ledgers.{writer_in, IsLedger}
use Rattle.trace_run.specs.threaded.Runs.{shape_of}
use Rattle.trace_run.specs.threaded.Asked.{HaveReadersPassed, IsPassedLedger}
use Rattle.trace_run.specs.threaded.Threads.{RunningValue, IsJoined, ArePassedEnds}
use Rattle.trace_run.proofs.Ends.{HasLog}
use Rattle.trace_run.proofs.OneRuns.{one_run_of}

module _ {Gate : Type 0} (answers : Gate → Who → (cpu fill : ℕ) → Bool → Type 0) (v : RunningValue Gate) (gate : Gate)
    (own : ℕ) (ends : WriterValue × ReaderEndValue) (joined : IsJoined v.script v.cpu ends) (gate_is : v.gate ≡ gate)
    (own_is : own ≡ v.cpu) where
  -- the ledger of the ring
  pub is_passed : (ledger : Ledger)
      → ArePassedEnds answers v.gate v.script v.cpu ends
      → IsLedger ends.1.cpu ends.0.shape ledger
      → writer_in ledger ≡ ends.0.part
      → (HaveReadersPassed answers gate own (as_parcels ends.1.taken)
      → HaveReadersPassed answers gate own (taken_of ledger))
      → IsPassedLedger answers gate v.script v.cpu ledger
  is_passed ledger passed is same on =
      let log : HasLog v.script v.cpu (writer_in ledger) =
      subst (λ (w : Writing). HasLog v.script v.cpu w) (sym same) (joined.history, joined.has_made) in
      let is_ledger : IsLedger v.cpu (shape_of v.script) ledger =
      subst (λ (s : Shape). IsLedger v.cpu s ledger) joined.shape_is
      (subst (λ (k : ℕ). IsLedger k ends.0.shape ledger) joined.cpu_is is) in
      let here : ArePassedEnds answers gate v.script v.cpu ends =
      subst (λ (g : Gate). ArePassedEnds answers g v.script v.cpu ends) gate_is passed in
      let done =
      ap (λ (w : Writing). w.done) is_ledger.settled.one_run.writing_is ∙ ap (λ (w : Writing). w.done) same in (
        record {
          history = log.0;
          is_ledger = is_ledger;
          has_made = log.1;
          one_run = one_run_of v.script v.cpu ledger log.0 is_ledger log.1;
          same_run = refl;
        },
        subst (λ (k : ℕ). HavePassed answers gate v.cpu v.script.start k) (sym done) here.0,
        subst (λ (k : ℕ). HaveReadersPassed answers gate k (taken_of ledger)) own_is
            (on (subst (λ (k : ℕ). HaveReadersPassed answers gate k (as_parcels ends.1.taken)) (sym own_is) here.1)),
      )
