-- What the two threads of a ring return, as their promises say.
use Rattle.std.specs.Prelude.{Bool, false}
use Rattle.std.proofs.Common.{◌≡◌, ℕ, ◌+◌, ◌<◌, ◌≤◌, List, [], length, refl, subst, sym, ap, ◌∙◌, arith}
use Rattle.trace_model.specs.declared.numbers.FillNo.{FillNo}
use Rattle.trace_model.specs.declared.limits.TheConstants.{LINK_FILLS}
use Rattle.trace_model.specs.History.{HistoryEvent, committed_records}
use Rattle.trace_model.specs.Packing.{IsPacked}
use Rattle.text_model.specs.Script.{Command, Script}
use Rattle.line_model.specs.Lines.{IsMadeByLines}
use Rattle.line_model.specs.WriterCalls.{IsReachedByLines, exchanges_to}
use Rattle.line_model.specs.WrittenRecords.{AllWriteOrClose, records_of_lines}
use Rattle.ring_steps.specs.declared.rule.Shape.{Shape}
use Rattle.ring_steps.specs.Views.{Writing}
use Rattle.page_numbers.specs.Parcels.{ParcelValue, as_parcels}
use Rattle.ring_shared.specs.Value.{WriterValue}
use Rattle.ring_shared.specs.Calls.{IsWriter}
use Rattle.ring_shared.specs.Takes.{SameRing}
use Rattle.ring_shared.specs.NewEnds.{AreNewEnds}
use Rattle.ring_shared.proofs.WholeAppends.{writers_have_histories}
use Rattle.trace_script.specs.declared.replay_fault.ReplayFault.{ReplayFault}
use Rattle.trace_script.specs.declared.replay_fault.ReplayFault.TheVariants.{GateShut}
use Rattle.trace_run.specs.declared.writers.gate.Who.{Who}
use Rattle.trace_run.specs.declared.writers.gate.Who.TheVariants as who
use Rattle.trace_run.specs.writers.LineWriters.{writer_in, made_in}
use Rattle.trace_run.specs.writers.Asking.{HavePassed}
use Rattle.trace_run.specs.writers.Obeying.{HasObeyed}
use Rattle.trace_run.specs.readers.Value.{ReaderEndValue}
use Rattle.trace_run.specs.declared.threaded.reading.Stop.{Stop}
use Rattle.trace_run.specs.declared.threaded.reading.Stop.TheVariants.{Shut}
use Rattle.trace_run.specs.threaded.Runs.{shape_of, lines_of, IsRunHistory}
use Rattle.trace_run.specs.threaded.Asked.{HaveReadersPassed}
use Rattle.trace_run.specs.threaded.Taking.{IsStop, TakesOn}
use Rattle.trace_run.specs.threaded.Threads.{RunningValue, IsByGate, IsJoined, ArePassedEnds}

-- ---- the gate

-- the CPU of a thread is one of the script
one_of : {Gate : Type 0} (v w : RunningValue Gate) (cpu : ℕ)
    → v ≡ w
    → cpu ≡ v.cpu
    → v.cpu < v.script.cpus
    → cpu < w.script.cpus
one_of {Gate} v w cpu view own known =
    subst (λ (r : RunningValue Gate). cpu < r.script.cpus) view
    (subst (λ (k : ℕ). k < v.script.cpus) (sym own) known)

-- a writer's thread that ended early was ended by the gate
pub writer_by_gate : {Gate : Type 0} (answers : Gate → Who → (cpu fill : ℕ) → Bool → Type 0) (v w : RunningValue Gate)
    (cpu : ℕ) (fill : FillNo) (fault : ReplayFault)
    → v ≡ w
    → cpu ≡ v.cpu
    → v.cpu < v.script.cpus
    → answers v.gate who.Writer cpu fill.0 false
    → IsByGate answers w.gate w.script.cpus fault
writer_by_gate {Gate} answers v w cpu fill fault view own known shut _ = (
  who.Writer,
  cpu,
  fill.0,
  one_of v w cpu view own known,
  subst (λ (r : RunningValue Gate). answers r.gate who.Writer cpu fill.0 false) view shut,
)

-- and so was a reader's that is reported as ended by it
pub reader_by_gate : {Gate : Type 0} (answers : Gate → Who → (cpu fill : ℕ) → Bool → Type 0) (v w : RunningValue Gate)
    (gate : Gate) (cpu : ℕ) (stop : Stop) (fault : ReplayFault)
    → v ≡ w
    → cpu ≡ v.cpu
    → v.cpu < v.script.cpus
    → gate ≡ v.gate
    → (fault ≡ GateShut → (fill : FillNo) × (stop ≡ Shut fill))
    → IsStop answers gate cpu stop
    → IsByGate answers w.gate w.script.cpus fault
reader_by_gate {Gate} answers v w gate cpu stop fault view own known same reported is shut =
    let (fill, e) = reported shut in
    let here : answers gate who.Reader cpu fill.0 false = subst (λ (s : Stop). IsStop answers gate cpu s) e is in (
      who.Reader,
      cpu,
      fill.0,
      one_of v w cpu view own known,
      subst (λ (g : Gate). answers g who.Reader cpu fill.0 false)
          (same ∙ ap (λ (r : RunningValue Gate). r.gate) view) here,
    )

-- ---- the ends

-- with whole lines alone, it commits their records
abbrev CommitsWhole : Shape → List Command → List HistoryEvent → Type 0
CommitsWhole s lines history = AllWriteOrClose lines
    → s.start + length lines + s.pages ≤ LINK_FILLS
    → committed_records history ≡ records_of_lines s.size 0 lines

module _ (script : Script) (cpu : ℕ) (before after : WriterValue) (new : before.shape ≡ shape_of script)
    (is : IsWriter after) (obeyed : HasObeyed cpu script.commands before after) where
  -- the calls that it has made, and no others
  pub calls : (reached : IsReachedByLines script.pages script.size script.start (lines_of script cpu)
      (writer_in after.part))
      × (made_in after.part ≡ exchanges_to reached)
  calls =
      subst (λ (s : Shape).
      (reached : IsReachedByLines s.pages s.size s.start (lines_of script cpu) (writer_in after.part))
      × (made_in after.part ≡ exchanges_to reached)) new (obeyed.calls, obeyed.has_made)

  -- the history of a writer that has obeyed its lines
  abbrev pub history_obeyed : IsRunHistory script cpu after.part.history
  history_obeyed =
      let known = writers_have_histories after is in
      let size : after.shape.size ≡ script.size = ap (λ (s : Shape). s.size) (obeyed.same.0 ∙ new) in record {
        allowed = known.allowed;
        packed = subst (λ (n : ℕ). IsPacked after.part.history n) size known.packed;
        last = writer_in after.part;
        calls = calls.0;
        at_rest = obeyed.at_rest;
        history_is = refl;
        made = subst (λ (s : Shape). IsMadeByLines s.pages s.size s.start (lines_of script cpu) after.part.history)
            new obeyed.made;
        committed = subst (λ (s : Shape). CommitsWhole s (lines_of script cpu) after.part.history) new obeyed.committed;
      }

-- a history, and what its writer has made
abbrev pub HasLog : Script → (cpu : ℕ) → Writing → Type 0
HasLog script cpu w = (history : IsRunHistory script cpu w.history) × (made_in w ≡ exchanges_to history.calls)

-- both ends, joined
pub ends_joined : {Gate : Type 0} (v w : RunningValue Gate) (cpu : ℕ) (before : WriterValue)
    (was : ReaderEndValue) (after : WriterValue) (end : ReaderEndValue)
    → v ≡ w
    → AreNewEnds (shape_of v.script) before was.reader
    → cpu ≡ v.cpu
    → was.cpu ≡ v.cpu
    → v.cpu < v.script.cpus
    → IsWriter after
    → HasObeyed cpu v.script.commands before after
    → (end.cpu ≡ was.cpu) × SameRing was.reader end.reader
    → IsJoined w.script w.cpu (after, end)
ends_joined {Gate} v w cpu before was after end view new own others low is obeyed took =
    let log : HasLog v.script v.cpu after.part = subst (λ (k : ℕ). HasLog v.script k after.part) own (
      history_obeyed v.script cpu before after new.writer_shape is obeyed,
      (calls v.script cpu before after new.writer_shape is obeyed).1,
    ) in
    let here : IsJoined v.script v.cpu (after, end) = record {
      is_writer = is;
      shape_is = obeyed.same.0 ∙ new.writer_shape;
      at_rest = obeyed.at_rest;
      history = log.0;
      has_made = log.1;
      known = low;
      cpu_is = took.0 ∙ others;
      one_ring = took.1.1 ∙ new.one_table ∙ sym obeyed.same.1;
    } in
    subst (λ (r : RunningValue Gate). IsJoined r.script r.cpu (after, end)) view here

-- both were let pass wherever they asked
pub ends_passed : {Gate : Type 0} (answers : Gate → Who → (cpu fill : ℕ) → Bool → Type 0) (v w : RunningValue Gate)
    (cpu own : ℕ) (gate : Gate) (before : WriterValue) (was : ReaderEndValue) (after : WriterValue)
    (end : ReaderEndValue)
    → v ≡ w
    → AreNewEnds (shape_of v.script) before was.reader
    → cpu ≡ v.cpu
    → own ≡ v.cpu
    → gate ≡ v.gate
    → was.taken ≡ []
    → HavePassed answers v.gate cpu before.part.done after.part.done
    → TakesOn answers gate own was end
    → ArePassedEnds answers w.gate w.script w.cpu (after, end)
ends_passed {Gate} answers v w cpu own gate before was after end view new cpu_is own_is gate_is none passed on =
    let none_taken : HaveReadersPassed answers gate own (as_parcels was.taken) =
    subst (λ (l : List ParcelValue). HaveReadersPassed answers gate own (as_parcels l)) (sym none)
    (λ parcel has. absurd (omega (arith, has.1))) in
    let by_writer : HavePassed answers v.gate v.cpu v.script.start after.part.done =
    subst (λ (k : ℕ). HavePassed answers v.gate k v.script.start after.part.done) cpu_is
    (subst (λ (k : ℕ). HavePassed answers v.gate cpu k after.part.done)
    (ap (λ (p : Writing). p.done) new.writing_is) passed) in
    let by_reader : HaveReadersPassed answers v.gate v.cpu (as_parcels end.taken) =
    subst (λ (g : Gate). HaveReadersPassed answers g v.cpu (as_parcels end.taken)) gate_is
    (subst (λ (k : ℕ). HaveReadersPassed answers gate k (as_parcels end.taken)) own_is (on.passed none_taken)) in
    subst (λ (r : RunningValue Gate). ArePassedEnds answers r.gate r.script r.cpu (after, end)) view
    (by_writer, by_reader)
