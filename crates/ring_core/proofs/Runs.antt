-- Lists of events on a ring are runs of the model.
use Rattle.std.proofs.Common.{[], ◌∷◌, refl, sym, ◌∙◌, subst, arith}
use Rattle.trace_model.specs.Steps as model
use Rattle.ring_model.proofs.partition.OneNewRing.{new_ring_is_one}
use Rattle.ring_core.specs.Value.{CoreValue}
use Rattle.ring_core.specs.IsCore.{IsCore}
use Rattle.ring_core.specs.Answers.{event_of}
use Rattle.ring_core.specs.Runs.{happens, writes, CallsAreRuns, CallsFromNewAreRuns}

pub calls_are_runs : CallsAreRuns
calls_are_runs n size start from v [] after core same = record {
  exchanges = [];
  state = from;
  reported = tt;
  run = refl;
  is_core = subst (λ (w : CoreValue). IsCore n size start w from) (sym same) core;
}
calls_are_runs n size start from v (happens event answer next ∷ more) after core (makes, calls) =
    let step = makes n size start from core in
    let x : model.Exchange = record { event = event_of v event; answer = step.answer } in
    let rest = calls_are_runs n size start step.after next more after step.is_core calls in record {
      exchanges = x ∷ rest.exchanges;
      state = rest.state;
      reported = (refl, step.reports, rest.reported);
      run = (step.after, step.step, rest.run);
      is_core = rest.is_core;
    }
calls_are_runs n size start from v (writes next ∷ more) after core (stays, calls) =
    let rest = calls_are_runs n size start from next more after (stays n size start from core) calls in record {
      exchanges = rest.exchanges;
      state = rest.state;
      reported = rest.reported;
      run = rest.run;
      is_core = rest.is_core;
    }

pub calls_from_new_are_runs : CallsFromNewAreRuns
calls_from_new_are_runs n size start v happened after (from, is_new, core) calls =
    let some_pages = core.reached.may_start.some_pages in
    let (one, is_start, only) = new_ring_is_one n start (omega arith) in (
      from,
      is_new,
      (λ other is. only other is ∙ sym (only from is_new)),
      calls_are_runs n size start from v happened after core calls,
    )
