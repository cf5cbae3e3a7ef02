-- Two lists of events of one ring lose the same fills.
use Rattle.std.proofs.Common.{ℕ, List, [], sym, ◌∙◌, subst, ⊎_elim}
use Rattle.std.specs.Prelude.{Contains}
use Rattle.trace_model.specs.History.{HistoryEvent}
use Rattle.trace_model.specs.Window.{RingEvent, first_window}
use Rattle.trace_model.specs.Ring.{Core, window_of}
use Rattle.ring_model.specs.RunsAsEvents.{fills_taken, fills_lost, AreEventsOfRun}
use Rattle.ring_model.proofs.histories.WindowRuns.{not_both, passed_by, lost_closed}
use Rattle.world_model.specs.GenuineWorlds.{StandsIn, IsOverwrittenBefore}

module _ (n start : ℕ) (c : Core) (events others : List RingEvent) (reported : AreEventsOfRun n start c events)
    (other : AreEventsOfRun n start c others) where
  taken_same : (f : ℕ) → Contains (fills_taken start others) f → Contains (fills_taken start events) f
  taken_same f has = subst (λ (l : List ℕ). Contains l f) (other.took ∙ sym reported.took) has

  lost_same : (f : ℕ) → Contains (fills_lost start events) f → Contains (fills_lost start others) f
  lost_same f has =
      let (low, high, closed, full) =
      lost_closed n [] (first_window start) (window_of c) events f reported.window has in
      ⊎_elim (λ taken. absurd (not_both start events f (taken_same f taken) has)) (λ lost. lost)
      (passed_by n [] (first_window start) (window_of c) others f other.window low high)

  pub overwritten_same : (fill number : ℕ) → IsOverwrittenBefore start events fill number
      → IsOverwrittenBefore start others fill number
  overwritten_same fill number o = record {
    lost = o.lost;
    was_lost = lost_same o.lost o.was_lost;
    stands =
        subst (λ (h : List HistoryEvent). StandsIn h start o.lost number)
        (reported.history_events ∙ sym other.history_events) o.stands;
    before = o.before;
    after_taken = λ taken has. o.after_taken taken (taken_same taken has);
  }
