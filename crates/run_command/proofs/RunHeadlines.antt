-- What is printed above the lines `audit yes`, by the rings of a run.
use Rattle.std.proofs.Common.{◌≡◌, ◌⊎◌, ⊎_elim, ℕ, zero, suc, ◌+◌, ◌<◌, ◌≤◌, List, [], ◌∷◌, length, map, Some, refl}
use Rattle.std.proofs.Common.{sym, ap, ◌∙◌, subst, inl, inr, arith}
use Rattle.std.specs.Prelude.{Contains, slice_index_or, ◌↔◌}
use Rattle.std.specs.List.{slice_get, AllZip}
use Rattle.std.proofs.lemmas.Option.{slice_get_cases, slice_get_within}
use Rattle.trace_model.specs.Record.{Record}
use Rattle.trace_model.specs.History.{HistoryEvent, committed_records}
use Rattle.trace_model.specs.Window.{RingEvent, history_events_of}
use Rattle.trace_model.specs.Parcel.{Parcel}
use Rattle.trace_model.specs.Collection.{Has, Misses}
use Rattle.trace_model.specs.Ring.{Core, Reader, TakenFill}
use Rattle.ring_model.specs.Reached.{IsReached}
use Rattle.ring_model.specs.RunsAsEvents.{fills_taken}
use Rattle.text_model.specs.Script.{Script}
use Rattle.world_model.specs.World.{parcel_of}
use Rattle.world_model.specs.RunEvents.{AreEventsOfSteps}
use Rattle.world_model.specs.GenuineWorlds.{StandsIn, IsOverwrittenBefore, IsOneOf, AreParcelsOfRing, IsExact}
use Rattle.world_model.specs.Printing.{Shown}
use Rattle.world_model.proofs.Lookups.{element_at, contains_at, get_map, get_from_map}
use Rattle.world_model.proofs.LostFills.{overwritten_same}
use Rattle.world_model.proofs.Cuts.{is_cut}
use Rattle.line_model.specs.WriterCalls.{exchanges_to}
use Rattle.line_model.specs.Shown.{IsShownOf}
use Rattle.ring_steps.specs.Views.{Writing}
use Rattle.ring_shared.specs.Settling.{WasTaken}
use Rattle.collector.specs.Runs.{AreRuns}
use Rattle.collector_text.specs.Prints.{IsPrintOf}
use Rattle.command_io.specs.CommandRun.{SourceRun, SinkRun, WritesOutput, IsCommandRun}
use Rattle.command_io.specs.declared.status.TheConstants.{DONE, REFUSED, END_FAILED}
use Rattle.trace_run.specs.declared.ledgers.ledger.Ledger.{Ledger}
use Rattle.trace_run.specs.ledgers.Audit.{taken_of, taken_in, IsAudited}
use Rattle.trace_run.specs.ledgers.Order.{AreOwn}
use Rattle.trace_run.specs.ledgers.Headline.{IsKept, IsUnknown, IsAuditHeadline}
use Rattle.trace_run.proofs.Flat.{of_one, of_all, in_own}
use Rattle.trace_run.proofs.Sums.{own, is_sum, headline}
use Rattle.run_command.specs.text.Verdicts.{Verdict, IsVerdict}
use Rattle.run_command.specs.text.Printing.{AuditedShown, IsAuditedPrintOf}
use Rattle.trace_run.specs.declared.threaded.running.Ran.{Ran}
use Rattle.trace_run.specs.threaded.Runs.{IsRunHistory, IsOneRunOf, IsRunLedger, ring_of, IsRunOfScript}
use Rattle.trace_run.specs.readers.Ledgers.{writer_in, reader_in}
use Rattle.run_command.specs.Runs.{IsRunPrinting, IsRunOutput, RunGives, IsRingRun, IsRunHeadline, HeadlineGives}

-- a parcel's CPU and fill
abbrev key_of : Parcel → ℕ × ℕ
key_of parcel = (parcel.cpu, parcel.fill)

-- of the same numbers the runs are the same
same_runs : (holds other : ℕ → Type 0) (runs : List (ℕ × ℕ))
    → ((number : ℕ) → holds number ↔ other number)
    → AreRuns holds runs
    → AreRuns other runs
same_runs holds other runs both are = record {
  forward = are.forward;
  apart = are.apart;
  of_them = λ number within. (both number).0 (are.of_them number within);
  whole = λ number has. are.whole number ((both number).1 has);
}

module _ (script : Script) (ran : Ran) (run : IsRunOfScript script ran) where
  abbrev ledgers : List Ledger
  ledgers = ran.ledgers.items

  abbrev fills : List (ℕ × ℕ)
  fills = map key_of (taken_in ledgers)

  own_all : AreOwn ledgers
  own_all = own script.pages script.size script.start run.rings ledgers run.are_of_rings

  -- ---- the events of a CPU

  data Known (cpu : ℕ) : Type 0 where
    known : (ledger : Ledger) → slice_get ledgers cpu ≡ Some ledger → Known cpu
    unknown : script.cpus ≤ cpu → Known cpu

  known_at : (cpu : ℕ) → Known cpu
  known_at cpu =
      elim (slice_get_cases ledgers cpu).1
      [ inl found ↦ known found.0 found.2 | inr past ↦ unknown (omega (arith, past.0, run.cpus, ran.ledgers.ok.0)) ]

  below : (cpu : ℕ) (ledger : Ledger) → slice_get ledgers cpu ≡ Some ledger → cpu < script.cpus
  below cpu ledger at = let within = slice_get_within ledgers cpu ledger at in
      omega (arith, within, run.cpus, ran.ledgers.ok.0)

  -- a ledger's ring
  module _ (cpu : ℕ) (ledger : Ledger) (at : slice_get ledgers cpu ≡ Some ledger) where
    abbrev own_run : IsRunLedger script cpu ledger
    own_run = (run.each cpu ledger at).0

    abbrev last : Core
    last = ring_of own_run

    last_is : run.rings cpu ≡ last
    last_is = (run.each cpu ledger at).1

    abbrev reached : IsReached script.pages script.size script.start last
    reached = record {
      from = own_run.one_run.from;
      exchanges = own_run.one_run.exchanges;
      may_start = own_run.is_ledger.settled.one_run.may_start;
      is_new = own_run.one_run.is_new;
      run = own_run.one_run.run;
    }

    parcels_are : taken_of ledger ≡ map (parcel_of cpu) last.reader.taken
    parcels_are = subst (λ (c : Core). taken_of ledger ≡ map (parcel_of cpu) c.reader.taken) last_is
        (run.are_of_rings cpu ledger at).1

    abbrev cut_of : AreParcelsOfRing script.pages script.size script.start last (taken_of ledger)
    cut_of = is_cut script.pages script.size script.start last reached cpu (taken_of ledger) parcels_are

    -- its run, by this history and these pages
    abbrev IsRunOf : List HistoryEvent → List TakenFill → Type 0
    IsRunOf h taken = (history : IsRunHistory script cpu h)
        × (one : IsOneRunOf script (exchanges_to history.calls) taken last)
        × AreEventsOfSteps script.pages script.size one.from one.exchanges cut_of.events last

    run_of_ring : IsRunOf (history_events_of cut_of.events) last.reader.taken
    run_of_ring =
        let one = own_run.is_ledger.settled.one_run in
        let h : (writer_in ledger).history ≡ history_events_of cut_of.events =
        sym (ap (λ (w : Writing). w.history) one.writing_is) ∙ sym cut_of.reported.history_events in
        let taken : (reader_in ledger).reader.taken ≡ last.reader.taken =
        ap (λ (r : Reader). r.taken) one.reading_is.reader_is in
        subst (λ (ts : List TakenFill). IsRunOf (history_events_of cut_of.events) ts) taken
        (subst (λ (l : List HistoryEvent). IsRunOf l (reader_in ledger).reader.taken) h
        (own_run.history, own_run.one_run, cut_of.run))

    -- a fill that its reader took is among the events
    taken_there : (f : ℕ) → WasTaken (reader_in ledger) f → Contains (fills_taken script.start cut_of.events) f
    taken_there f (k, t, there, is) =
        let taken : List TakenFill = (reader_in ledger).reader.taken in
        subst (λ (l : List ℕ). Contains l f) (sym cut_of.took)
        (subst (λ (ps : List Parcel). Contains (map (λ p. p.fill) ps) f) (sym own_run.is_ledger.parcels_are)
        (subst (λ (g : ℕ). Contains (map (λ (p : Parcel). p.fill) (map (parcel_of cpu) taken)) g) is
        (contains_at (map (λ (p : Parcel). p.fill) (map (parcel_of cpu) taken)) k t.fill
        (get_map (λ (p : Parcel). p.fill) (map (parcel_of cpu) taken) k (parcel_of cpu t)
        (get_map (parcel_of cpu) taken k t there)))))

    -- no closed fill is left
    none_left : (f : ℕ) → script.start ≤ f → f < last.done
        → Contains (fills_taken script.start cut_of.events) f ⊎ (f + script.pages < last.opened)
    none_left f low high =
        let one = own_run.is_ledger.settled.one_run in
        let done : last.done ≡ (writer_in ledger).done = ap (λ (w : Writing). w.done) one.writing_is in
        let opened : last.opened ≡ (writer_in ledger).opened = ap (λ (w : Writing). w.opened) one.writing_is in
        ⊎_elim (λ (was : WasTaken (reader_in ledger) f). inl (taken_there f was))
        (λ (lost : f + script.pages < (writer_in ledger).opened). inr (omega (arith, lost, opened)))
        (own_run.is_ledger.settled.passed f low (omega (arith, high, done)))

  abbrev events_of : (cpu : ℕ) → Known cpu → List RingEvent
  events_of cpu (known ledger at) = (cut_of cpu ledger at).events
  events_of cpu (unknown past) = []

  abbrev events : ℕ → List RingEvent
  events cpu = events_of cpu (known_at cpu)

  ring_run : (cpu : ℕ) (k : Known cpu) → cpu < script.cpus → IsRingRun script cpu (events_of cpu k)
  ring_run cpu (known ledger at) low =
      let (history, one, each) = run_of_ring cpu ledger at in
      record {
        last = last cpu ledger at;
        history = history;
        one_run = one;
        each_step = each;
        none_unread = none_left cpu ledger at;
      }
  ring_run cpu (unknown past) low = absurd (let no : ⊥ = omega (arith, past, low) in no)

  -- ---- what was taken

  key_in : (cpu : ℕ) (parcel : Parcel) → Contains (taken_in ledgers) parcel → parcel.cpu ≡ cpu
      → Contains fills (cpu, parcel.fill)
  key_in cpu parcel has is = let (k, at) = element_at (taken_in ledgers) parcel has in
      subst (λ (j : ℕ). Contains fills (j, parcel.fill)) is
      (contains_at fills k (key_of parcel) (get_map key_of (taken_in ledgers) k parcel at))

  of_key : (cpu fill : ℕ) → Contains fills (cpu, fill)
      → (parcel : Parcel) × Contains (taken_in ledgers) parcel × (parcel.cpu ≡ cpu) × (parcel.fill ≡ fill)
  of_key cpu fill has =
      let (k, at) = element_at fills (cpu, fill) has in
      let (parcel, there, same) = get_from_map key_of (taken_in ledgers) k (cpu, fill) at in (
        parcel,
        contains_at (taken_in ledgers) k parcel there,
        ap (λ (p : ℕ × ℕ). p.0) same,
        ap (λ (p : ℕ × ℕ). p.1) same,
      )

  -- a parcel's CPU has a ledger
  of_a_cpu : (parcel : Parcel) → Contains (taken_in ledgers) parcel → parcel.cpu < script.cpus
  of_a_cpu parcel has =
      let o = of_one ledgers parcel has in
      let (k, there) = element_at (taken_of o.ledger) parcel o.has in
      subst (λ (j : ℕ). j < script.cpus) (sym (own_all o.index o.ledger o.at k parcel there))
      (below o.index o.ledger o.at)

  fill_taken : (cpu : ℕ) (k : Known cpu) (parcel : Parcel) → Contains (taken_in ledgers) parcel → parcel.cpu ≡ cpu
      → Contains (fills_taken script.start (events_of cpu k)) parcel.fill
  fill_taken cpu (known ledger at) parcel has is =
      let (k, there) = element_at (taken_of ledger) parcel (in_own ledgers own_all cpu ledger parcel at is has) in
      subst (λ (l : List ℕ). Contains l parcel.fill) (sym (cut_of cpu ledger at).took)
      (contains_at (map (λ p. p.fill) (taken_of ledger)) k parcel.fill
      (get_map (λ (p : Parcel). p.fill) (taken_of ledger) k parcel there))
  fill_taken cpu (unknown past) parcel has is =
      absurd (let low = of_a_cpu parcel has in let no : ⊥ = omega (arith, past, low, is) in no)

  taken_fill : (cpu : ℕ) (k : Known cpu) (fill : ℕ) → cpu < script.cpus
      → Contains (fills_taken script.start (events_of cpu k)) fill → Contains fills (cpu, fill)
  taken_fill cpu (known ledger at) fill low has =
      let (k, there) =
      element_at (map (λ p. p.fill) (taken_of ledger)) fill
      (subst (λ (l : List ℕ). Contains l fill) (cut_of cpu ledger at).took has) in
      let (parcel, here, is) = get_from_map (λ (p : Parcel). p.fill) (taken_of ledger) k fill there in
      subst (λ (f : ℕ). Contains fills (cpu, f)) is
      (key_in cpu parcel (of_all ledgers cpu ledger parcel at (contains_at (taken_of ledger) k parcel here))
      (own_all cpu ledger at k parcel here))
  taken_fill cpu (unknown past) fill low has = absurd (let no : ⊥ = omega (arith, past, low) in no)

  is_taken : (cpu fill : ℕ) → Contains fills (cpu, fill)
      → (cpu < script.cpus) × Contains (fills_taken script.start (events cpu)) fill
  is_taken cpu fill has =
      let (parcel, there, cpu_is, fill_is) = of_key cpu fill has in (
        subst (λ (j : ℕ). j < script.cpus) cpu_is (of_a_cpu parcel there),
        subst (λ (f : ℕ). Contains (fills_taken script.start (events cpu)) f) fill_is
            (fill_taken cpu (known_at cpu) parcel there cpu_is),
      )

  -- ---- what is shown of a collector that was audited

  module _ (kept : List Parcel) (audited : IsAudited kept (taken_in ledgers)) where
    all : IsAuditHeadline script.pages script.size script.start run.rings kept ledgers
    all =
        headline script.pages script.size script.start run.rings ledgers run.are_of_rings kept
        (is_sum kept (taken_in ledgers) audited)

    -- what it has and misses of a CPU, by that CPU's events
    record IsOf (cpu : ℕ) (of_cpu : List RingEvent) : Type 0 where
      has : (number : ℕ) (r : Record)
          → Has kept cpu number r
          ↔ ((slice_get (committed_records (history_events_of of_cpu)) number ≡ Some r)
          × (fill : ℕ)
          × Contains fills (cpu, fill)
          × StandsIn (history_events_of of_cpu) script.start fill number)
      misses : (number : ℕ)
          → Misses kept cpu number
          ↔ ((fill : ℕ)
          × Contains fills (cpu, fill)
          × IsOverwrittenBefore script.start of_cpu fill number)

    -- the parcel of a key is one of the ledger's
    one_of : (cpu : ℕ) (ledger : Ledger) (fill : ℕ) → slice_get ledgers cpu ≡ Some ledger → Contains fills (cpu, fill)
        → (parcel : Parcel) × IsOneOf (taken_of ledger) cpu parcel × (parcel.fill ≡ fill)
    one_of cpu ledger fill at has =
        let (parcel, there, cpu_is, fill_is) = of_key cpu fill has in
        (parcel, (in_own ledgers own_all cpu ledger parcel at cpu_is there, cpu_is), fill_is)

    key_of_one : (cpu : ℕ) (ledger : Ledger) (parcel : Parcel) → slice_get ledgers cpu ≡ Some ledger
        → IsOneOf (taken_of ledger) cpu parcel → Contains fills (cpu, parcel.fill)
    key_of_one cpu ledger parcel at one = key_in cpu parcel (of_all ledgers cpu ledger parcel at one.0) one.1

    is_of : (cpu : ℕ) (k : Known cpu) → IsOf cpu (events_of cpu k)
    is_of cpu (known ledger at) =
        let c : Core = last cpu ledger at in
        let cut = cut_of cpu ledger at in
        let here : List RingEvent = cut.events in
        let h : List HistoryEvent = history_events_of here in
        let is : IsKept script.pages script.size script.start cpu c kept (taken_of ledger) =
        subst (λ (d : Core). IsKept script.pages script.size script.start cpu d kept (taken_of ledger))
        (last_is cpu ledger at) (all.each cpu ledger at) in
        let e : IsExact h script.start is.cut.events cpu kept (taken_of ledger) =
        subst (λ (l : List HistoryEvent). IsExact l script.start is.cut.events cpu kept (taken_of ledger))
        (sym cut.reported.history_events) is.exact in
        record {
          has = λ number r. (
            λ there. let (committed, parcel, one, stands) = (e.has number r).0 there in
                (committed, parcel.fill, key_of_one cpu ledger parcel at one, stands),
            λ (committed, fill, key, stands). let (parcel, one, same) = one_of cpu ledger fill at key in
                (e.has number r).1
                (committed, parcel, one, subst (λ (f : ℕ). StandsIn h script.start f number) (sym same) stands),
          );
          misses = λ number. (
            λ there. let (parcel, one, over) = (e.misses number).0 there in (
              parcel.fill,
              key_of_one cpu ledger parcel at one,
              overwritten_same script.pages script.start c is.cut.events here is.cut.reported cut.reported
                  parcel.fill number over,
            ),
            λ (fill, key, over). let (parcel, one, same) = one_of cpu ledger fill at key in
                (e.misses number).1 (
                  parcel,
                  one,
                  subst (λ (f : ℕ). IsOverwrittenBefore script.start is.cut.events f number) (sym same)
                      (overwritten_same script.pages script.start c here is.cut.events cut.reported is.cut.reported fill
                      number over),
                ),
          );
        }
    is_of cpu (unknown past) =
        let none : IsUnknown cpu kept = all.no_others cpu (omega (arith, past, run.cpus, ran.ledgers.ok.0)) in
        let no_key : (fill : ℕ) → Contains fills (cpu, fill) → ⊥ =
        λ fill key. (let low = (is_taken cpu fill key).0 in let no : ⊥ = omega (arith, past, low) in no) in
        record {
          has =
              λ number r. (
                λ there. absurd (none.no_record number r there),
                λ (committed, fill, key, stands). absurd (no_key fill key),
              );
          misses =
              λ number.
              (λ there. absurd (none.not_missing number there), λ (fill, key, over). absurd (no_key fill key));
        }

    is_shown : (shown : Shown) → IsPrintOf kept shown → IsShownOf script.start events fills shown
    is_shown shown print = record {
      ordered = print.lines.ordered;
      lines = λ line. let here = is_of line.cpu (known_at line.cpu) in
          let r : Record = record { moment = line.moment; bytes = line.bytes } in (
            λ has. let (k, at) = element_at shown.lines line has in
                (here.has line.number r).0 (print.lines.of_them k line at),
            λ there. let (k, at) = print.lines.whole line.cpu line.number r ((here.has line.number r).1 there) in
                contains_at shown.lines k line at,
          );
      missing =
          λ cpu. same_runs _ _ (slice_index_or shown.runs cpu []) (is_of cpu (known_at cpu)).misses (print.runs cpu);
    }

-- ---- what is printed

-- what is printed is of one collector each
as_many : (taken : List Parcel) (collectors : List (List Parcel)) (shown : List AuditedShown)
    → AllZip (IsAuditedPrintOf taken) collectors shown → length shown ≡ length collectors
as_many taken [] [] all = refl
as_many taken [] (s ∷ shown) all = absurd all
as_many taken (c ∷ collectors) [] all = absurd all
as_many taken (c ∷ collectors) (s ∷ shown) all = ap suc (as_many taken collectors shown all.1)

one_at : (taken : List Parcel) (collectors : List (List Parcel)) (shown : List AuditedShown) (k : ℕ)
    (own : AuditedShown)
    → AllZip (IsAuditedPrintOf taken) collectors shown
    → slice_get shown k ≡ Some own
    → (kept : List Parcel) × IsAuditedPrintOf taken kept own
one_at taken [] [] k own all at = absurd (cc)
one_at taken [] (s ∷ shown) k own all at = absurd all
one_at taken (c ∷ collectors) [] k own all at = absurd all
one_at taken (c ∷ collectors) (s ∷ shown) zero own all at = let same : s ≡ own = cc in
    (c, subst (λ (o : AuditedShown). IsAuditedPrintOf taken c o) same all.0)
one_at taken (c ∷ collectors) (s ∷ shown) (suc k) own all at = one_at taken collectors shown k own all.1 at

headline_of : (script : Script) (bytes : List ℕ) → IsRunPrinting script bytes → IsRunHeadline script bytes
headline_of script bytes p = record {
  events = events script p.ran p.of_script;
  rings = λ cpu low. ring_run script p.ran p.of_script cpu (known_at script p.ran p.of_script cpu) low;
  fills = fills script p.ran p.of_script;
  taken = λ cpu fill. (
    is_taken script p.ran p.of_script cpu fill,
    λ (low, has). taken_fill script p.ran p.of_script cpu (known_at script p.ran p.of_script cpu) fill low has,
  );
  shown = p.shown;
  collectors = as_many _ _ p.shown p.reported ∙ sym p.ran.collectors.ok.0 ∙ p.of_script.collectors;
  exact = λ collector own at is.
      let (kept, printed) = one_at _ _ p.shown collector own p.reported at in
      is_shown script p.ran p.of_script kept
      (subst (λ (v : Verdict). IsVerdict kept (taken_in p.ran.ledgers.items) v) is printed.verdict) own.collector
      printed.reports;
  printed = p.printed;
}

-- what `run` gives with the status 0 has the headline
output_headline : (script : Script) (bytes : List ℕ) (status : ℕ) → IsRunOutput script bytes status → status ≡ DONE
    → IsRunHeadline script bytes
output_headline script bytes status (inl p) is = headline_of script bytes p.0
output_headline script bytes status (inr thread) is =
    absurd (let other : DONE ≡ END_FAILED = sym is ∙ thread.1 in let no : ⊥ = cc in no)

gives_headline : (text bytes : List ℕ) (status : ℕ) → RunGives text bytes status → status ≡ DONE
    → HeadlineGives text bytes status
gives_headline text bytes status (inl p) is = (p.script, p.spelled, output_headline p.script bytes status p.output is)
gives_headline text bytes status (inr f) is =
    absurd (let other : DONE ≡ REFUSED = sym is ∙ f.refused in let no : ⊥ = cc in no)

pub headline_written : (source : SourceRun) (sink : SinkRun) (status : ℕ) → IsCommandRun RunGives source sink status
    → status ≡ DONE
    → WritesOutput HeadlineGives source.unread source.left sink.contents sink.contents_after status
headline_written source sink status run is =
    let (bytes, output, written) = run.finished (inl is) in
    let (text, read, at_end, limited, given) = output in
    (bytes, (text, read, at_end, limited, gives_headline text bytes status given is), written)
