use Rattle.std.proofs.Common.{ℕ, List, [], map, sym, subst}
use Rattle.std.proofs.lemmas.List.{take_all}
use Rattle.stream_collector.specs.Stream.{Stream}
use Rattle.fleet_text.specs.declared.run.FleetRun.{FleetRun}
use Rattle.fleet_text.specs.Hidden.{IsNoted}
use Rattle.fleet_text.specs.Runs.{run_seen}
use Rattle.fleet_text.proofs.HiddenNotes.{none_yet, noted_next}
use Rattle.fleet_text.proofs.hidden.noted_of.Goals as goal

pub loop-run-init : goal.loop-run-init
loop-run-init c =
    subst (λ (noted : List (ℕ × Stream)). IsNoted [] c.args.fleet.now noted) (sym c.new-noted.ensures.empty)
    (none_yet c.args.fleet.now)

pub loop-run-preserved : goal.loop-run-preserved
loop-run-preserved c =
    noted_next c.args.runs.now c.loop-run.run-index _ c.args.fleet.now c.loop-run.noted c.note_run.new.noted
    c.loop-run-test.true c.loop-run.invariant c.in_ok-note_run.ensures

pub returns : goal.returns
returns c =
    subst (λ (runs : List FleetRun). IsNoted (map run_seen runs) c.args.fleet.now c.loop-run.noted)
    (take_all c.loop-run.run-index c.args.runs.now c.loop-run-test.false) c.loop-run.invariant
