use Rattle.std.proofs.Common.{map}
use Rattle.std.proofs.lemmas.Result.{err_from_is_err_and}
use Rattle.trace_dat.specs.Parts.{seen}
use Rattle.trace_dat.specs.Entries.{option_seen}
use Rattle.trace_dat.specs.Sections.{place_seen}
use Rattle.trace_dat.proofs.ChainLoop.{chain_start, chain_goes_on, chain_fails}
use Rattle.trace_dat.proofs.sections.chained_options.Goals as goal

pub loop-next-init : goal.loop-next-init
loop-next-init c = rw c.new-options.ensures.items (chain_start c.args.file.now (seen c.args.pointer))

pub returns-in_err-next : goal.returns-in_err-next
returns-in_err-next c =
    let p = err_from_is_err_and c.from_residual.result c.from_residual.ensures.1 in
    rw (p.1, p.2) (chain_fails c.args.file.now (map option_seen c.loop-next.options.items) (place_seen c.in-Some.place)
    c.in_err-next.field-0.0 _ c.in_err-next.ensures.gives (rw c.in-Some.is at c.loop-next.invariant))

pub loop-next-preserved : goal.loop-next-preserved
loop-next-preserved c =
    chain_goes_on c.args.file.now (map option_seen c.loop-next.options.items) _ (place_seen c.in-Some.place) _ _
    c.in_ok-next.ensures.gives c.in_ok-next.ensures.onward c.in_ok-next.ensures.within
    (rw c.in-Some.is at c.loop-next.invariant)
