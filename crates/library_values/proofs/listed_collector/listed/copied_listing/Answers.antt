use Rattle.std.proofs.Common.{rules, ◌≡◌, List, map, ap, sym, ◌∙◌, subst}
use Rattle.std.proofs.lemmas.Result.{IfOk-weaker}
use Rattle.trace_model.specs.Listing.{Line, IsListing}
use Rattle.time_merge.specs.Lines.{line_seen}
use Rattle.library_values.specs.CollectorLines.{lines_of}
use Rattle.library_values.proofs.KeptLines.{kept_lines}
use Rattle.library_values.proofs.listed_collector.listed.copied_listing.Goals as goal

pub returns : goal.returns
returns c =
    let lent : c.in_ok-lines.lines.items ≡ c.deref.result.now = search rules in
    IfOk-weaker c.copied.result _ _
    (λ copies is. subst (λ (l : List Line). IsListing c.args.collector.now l)
    (ap (map line_seen) lent ∙ kept_lines c.deref.result.now ∙ sym (ap lines_of is)) c.in_ok-lines.ensures)
    c.copied.ensures
