use Rattle.std.proofs.Common.{sym, ◌∙◌}
use Rattle.collect_command.proofs.PagedParts.{halt_found, halt_past, no_halt}
use Rattle.collect_command.proofs.paged.first_halt.Goals as goal

pub loop-at-preserved : goal.loop-at-preserved
loop-at-preserved g c =
    sym (halt_past c.args.sources.now c.loop-at.at c.index-sources-at.result c.loop-at-test.true c.index-sources-at.is
    (sym c.halt.ensures.halt ∙ c.in_default.is)) ∙ c.loop-at.invariant

pub returns-in-Some : goal.returns-in-Some
returns-in-Some g c =
    sym (halt_found c.args.sources.now c.loop-at.at c.index-sources-at.result c.in-Some.halt c.loop-at-test.true
    c.index-sources-at.is (sym c.halt.ensures.halt ∙ c.in-Some.is)) ∙ c.loop-at.invariant

pub returns : goal.returns
returns g c = sym (no_halt c.args.sources.now c.loop-at.at c.loop-at-test.false) ∙ c.loop-at.invariant
