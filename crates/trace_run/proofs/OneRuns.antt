-- What both ends have made, as one run of the model.
use Rattle.std.specs.Prelude.{map}
use Rattle.std.proofs.Common.{◌≡◌, ℕ, Bool, true, false, List, [], ◌∷◌, refl, sym, ap, ◌∙◌, subst}
use Rattle.trace_model.specs.Ring.{Core}
use Rattle.trace_model.specs.Steps.{Event, Exchange, Run}
use Rattle.text_model.specs.Script.{Script}
use Rattle.line_model.specs.WriterCalls.{exchanges_to}
use Rattle.ring_steps.specs.Made.{writer_made, reader_made, trace_of, is_by_reader, is_by_writer, kept_if, made_by}
use Rattle.trace_run.specs.declared.ledgers.ledger.Ledger.{Ledger}
use Rattle.trace_run.specs.writers.LineWriters.{made_in}
use Rattle.trace_run.specs.readers.TakesMade.{AreTakes}
use Rattle.trace_run.specs.readers.Ledgers.{writer_in, reader_in, IsLedger}
use Rattle.trace_run.specs.threaded.Runs.{shape_of, exchanges_by, IsOneRunOf, IsRunHistory}

-- the exchanges of a run that are an end's, as that end has them in what it made
pub made_by_same : {Made : Type 0} → (is : Event → Bool) (made : Exchange → Core → Made) (exchange : Made → Exchange)
    → ((x : Exchange) (c : Core) → exchange (made x c) ≡ x)
    → (n size : ℕ) (before : Core) (exchanges : List Exchange) (after : Core)
    (run : Run n size before exchanges after)
    → exchanges_by is exchanges ≡ map exchange (made_by is made (trace_of n size before exchanges after run))
made_by_same is made exchange names n size before [] after run = refl
made_by_same {Made} is made exchange names n size before (x ∷ exchanges) after (between, step, run) =
    one (made_by_same is made exchange names n size between exchanges after run) (is x.event) refl
  where
    others : List Made
    others = made_by is made (trace_of n size between exchanges after run)

    one : exchanges_by is exchanges ≡ map exchange others
        → (b : Bool)
        → is x.event ≡ b
        → exchanges_by is (x ∷ exchanges) ≡ map exchange (kept_if (is x.event) (made x between) others)
    one same true e =
        rw e (ap (λ (l : List Exchange). x ∷ l) same
        ∙ ap (λ (y : Exchange). y ∷ map exchange others) (sym (names x between)))
    one same false e = rw e same

abbrev pub one_run_of : (script : Script) (cpu : ℕ) (ledger : Ledger)
    (history : IsRunHistory script cpu (writer_in ledger).history) (is : IsLedger cpu (shape_of script) ledger)
    → made_in (writer_in ledger) ≡ exchanges_to history.calls
    → IsOneRunOf script (exchanges_to history.calls) (reader_in ledger).reader.taken is.settled.one_run.last
one_run_of script cpu ledger history is log =
    let one = is.settled.one_run in record {
      from = one.from;
      exchanges = one.exchanges;
      is_new = one.is_new;
      run = one.run;
      by_lines = made_by_same is_by_writer writer_made (λ made. made.exchange) (λ x c. refl)
          script.pages script.size one.from one.exchanges one.last one.run
          ∙ ap (map (λ made. made.exchange)) one.made.by_writer_are ∙ log;
      by_takes = subst (λ (l : List Exchange). AreTakes l (reader_in ledger).reader.taken)
          (sym (made_by_same is_by_reader reader_made (λ made. made.exchange) (λ x c. refl)
          script.pages script.size one.from one.exchanges one.last one.run
          ∙ ap (map (λ made. made.exchange)) one.made.by_reader_are)) is.takes;
    }
