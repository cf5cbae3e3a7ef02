-- The ledgers of a run are those of rings.
use Rattle.std.specs.Prelude.{Bool, vec_len, map, Some}
use Rattle.std.specs.List.{slice_get}
use Rattle.std.proofs.Common.{◌≡◌, ℕ, zero, suc, ◌+◌, ◌<◌, List, [], ◌∷◌, length, refl, subst, sym, ap, ◌∙◌, inl, inr}
use Rattle.std.proofs.Common.{arith}
use Rattle.std.proofs.lemmas.Option.{slice_get_cases}
use Rattle.trace_model.specs.History.{HistoryEvent}
use Rattle.trace_model.specs.Links.{normal_link}
use Rattle.trace_model.specs.Ring.{Core, Reader, first_reader}
use Rattle.world_model.specs.World.{parcel_of}
use Rattle.text_model.specs.Script.{Script}
use Rattle.ring_model.specs.Reached.{IsReached}
use Rattle.ring_steps.specs.Views.{Writing}
use Rattle.trace_run.specs.declared.ledgers.ledger.Ledger.{Ledger}
use Rattle.trace_run.specs.ledgers.Audit.{taken_of}
use Rattle.trace_run.specs.declared.threaded.running.Ran.{Ran}
use Rattle.trace_run.specs.declared.writers.gate.Who.{Who}
use Rattle.trace_run.specs.readers.Ledgers.{writer_in}
use Rattle.trace_run.specs.threaded.Runs.{IsRunHistory, ring_of, IsRunOfScript}
use Rattle.trace_run.specs.threaded.Asked.{IsPassedLedger, HaveAllPassed}
use Rattle.trace_run.specs.threaded.Threads.{AreRunLedgers}

-- a state for a CPU that has no ring
no_ring : Core
no_ring = record {
  links = [];
  spare_link = normal_link 0 0;
  done = 0;
  opened = 0;
  wish = 0;
  head = 0;
  held = [];
  frames = [];
  open_pages = [];
  history = [];
  order = [];
  spare = 0;
  reader = first_reader 0;
}

module _ {Gate : Type 0} (answers : Gate → Who → (cpu fill : ℕ) → Bool → Type 0) (gate : Gate) (script : Script) where
  -- the last state of each ring
  abbrev rings_of : (from : ℕ) (ledgers : List Ledger) → AreRunLedgers answers gate script from ledgers → ℕ → Core
  rings_of from [] are k = no_ring
  rings_of from (ledger ∷ ledgers) are zero = ring_of are.0.0
  rings_of from (ledger ∷ ledgers) are (suc k) = rings_of (suc from) ledgers are.1 k

  -- a ledger, and the state that is its ring's
  abbrev IsRunOf : (cpu : ℕ) → Ledger → Core → Type 0
  IsRunOf cpu ledger core = (passed : IsPassedLedger answers gate script cpu ledger) × (core ≡ ring_of passed.0)

  each_of : (from : ℕ) (ledgers : List Ledger) (are : AreRunLedgers answers gate script from ledgers)
      (k cpu : ℕ) (ledger : Ledger)
      → slice_get ledgers k ≡ Some ledger
      → cpu ≡ from + k
      → IsRunOf cpu ledger (rings_of from ledgers are k)
  each_of from [] are k cpu ledger is at = absurd (cc)
  each_of from (first ∷ ledgers) are zero cpu ledger is at =
      let same : first ≡ ledger = cc in
      let here : IsRunOf from first (ring_of are.0.0) = (are.0, refl) in
      let e : from ≡ cpu = omega arith in
      subst (λ (k : ℕ). IsRunOf k ledger (ring_of are.0.0)) e
      (subst (λ (l : Ledger). IsRunOf from l (ring_of are.0.0)) same here)
  each_of from (first ∷ ledgers) are (suc k) cpu ledger is at =
      each_of (suc from) ledgers are.1 k cpu ledger is (omega arith)

  -- ---- a ring's last state

  reached_of : (cpu : ℕ) (ledger : Ledger) (core : Core) → IsRunOf cpu ledger core
      → IsReached script.pages script.size script.start core
  reached_of cpu ledger core (passed, is) =
      let one = passed.0.is_ledger.settled.one_run in
      subst (λ (c : Core). IsReached script.pages script.size script.start c) (sym is) record {
        from = one.from;
        exchanges = one.exchanges;
        may_start = one.may_start;
        is_new = one.is_new;
        run = one.run;
      }

  taken_is : (cpu : ℕ) (ledger : Ledger) (core : Core) → IsRunOf cpu ledger core
      → taken_of ledger ≡ map (parcel_of cpu) core.reader.taken
  taken_is cpu ledger core (passed, is) =
      passed.0.is_ledger.parcels_are
      ∙ ap (λ (r : Reader). map (parcel_of cpu) r.taken) passed.0.is_ledger.settled.one_run.reading_is.reader_is
      ∙ ap (λ (c : Core). map (parcel_of cpu) c.reader.taken) (sym is)

  history_of : (cpu : ℕ) (ledger : Ledger) (core : Core) → IsRunOf cpu ledger core
      → IsRunHistory script cpu core.history
  history_of cpu ledger core (passed, is) =
      let same : core.history ≡ (writer_in ledger).history =
      ap (λ (c : Core). c.history) is
      ∙ ap (λ (w : Writing). w.history) passed.0.is_ledger.settled.one_run.writing_is in
      subst (λ (h : List HistoryEvent). IsRunHistory script cpu h) (sym same) passed.0.history

there : (ledgers : List Ledger) (k : ℕ) → k < length ledgers → (ledger : Ledger) × (slice_get ledgers k ≡ Some ledger)
there ledgers k low =
    elim (slice_get_cases ledgers k).1 [ inl found ↦ (found.0, found.2) | inr past ↦ absurd (omega (arith, past.0)) ]

module _ {Gate : Type 0} (answers : Gate → Who → (cpu fill : ℕ) → Bool → Type 0) (gate : Gate) (script : Script)
    (ran : Ran) (are : AreRunLedgers answers gate script 0 ran.ledgers.items) where
  abbrev ledgers : List Ledger
  ledgers = ran.ledgers.items

  abbrev rings : ℕ → Core
  rings = rings_of answers gate script 0 ledgers are

  each : (cpu : ℕ) (ledger : Ledger)
      → slice_get ledgers cpu ≡ Some ledger
      → IsRunOf answers gate script cpu ledger (rings cpu)
  each cpu ledger is = each_of answers gate script 0 ledgers are cpu cpu ledger is (omega arith)

  pub are_passed : HaveAllPassed answers gate script ran
  are_passed cpu ledger is = (each cpu ledger is).0

  pub is_ran : vec_len ran.collectors ≡ script.collectors
      → vec_len ran.ledgers ≡ script.cpus
      → IsRunOfScript script ran
  is_ran collectors cpus =
      let known : (cpu : ℕ) → cpu < script.cpus → (ledger : Ledger) × (slice_get ledgers cpu ≡ Some ledger) =
      λ cpu low. there ledgers cpu (omega (arith, ran.ledgers.ok.0)) in
      record {
        collectors = collectors;
        cpus = cpus;
        rings = rings;
        each = λ cpu ledger is. let (passed, same) = each cpu ledger is in (passed.0, same);
        are_of_rings = λ cpu ledger is. (
          reached_of answers gate script cpu ledger (rings cpu) (each cpu ledger is),
          taken_is answers gate script cpu ledger (rings cpu) (each cpu ledger is),
        );
        histories = λ cpu low. let (ledger, is) = known cpu low in
            history_of answers gate script cpu ledger (rings cpu) (each cpu ledger is);
      }
