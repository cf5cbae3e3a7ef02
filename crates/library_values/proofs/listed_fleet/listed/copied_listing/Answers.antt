use Rattle.std.proofs.Common.{rules, ◌≡◌, List, map, ap, sym, ◌∙◌, subst}
use Rattle.std.proofs.lemmas.Result.{IfOk-weaker}
use Rattle.fleet_collector.specs.Listing.{Line, IsFleetListing}
use Rattle.fleet_collector.specs.Lines.{line_seen}
use Rattle.library_values.specs.FleetLines.{lines_of}
use Rattle.library_values.proofs.KeptLines.{kept_fleet_lines}
use Rattle.library_values.proofs.listed_fleet.listed.copied_listing.Goals as goal

pub returns : goal.returns
returns c =
    let lent : c.in_ok-lines.lines.items ≡ c.deref.result.now = search rules in
    IfOk-weaker c.copied.result _ _
    (λ copies is. subst (λ (l : List Line). IsFleetListing c.args.fleet.now l)
    (ap (map line_seen) lent ∙ kept_fleet_lines c.deref.result.now ∙ sym (ap lines_of is)) c.in_ok-lines.ensures)
    c.copied.ensures
