use Rattle.std.proofs.Common.{◌≡◌, ◌==◌, true, false, length, refl, sym, ap, ◌∙◌}
use Rattle.collect_command.proofs.PagedPrints.{intact_past, broken_at, all_intact}
use Rattle.collect_command.proofs.paged.are_intact.Goals as goal

pub loop-source-init : goal.loop-source-init
loop-source-init g c = λ raws are. refl

pub loop-source-preserved : goal.loop-source-preserved
loop-source-preserved g c = λ raws are.
    let source = c.source-item.result in
    let none : (length source.tally.damaged.items == 0) ≡ true =
    sym (c.is_empty.ensures ∙ ap (λ ds. length ds == 0) c.as_slice.ensures.value
    ∙ ap (λ t. length t.damaged.items == 0) c.tally.ensures.tally)
    ∙ c.if-not-is_empty.false in
    intact_past c.args.sources.now raws c.loop-source.source-index source are c.loop-source-test.true
    c.source-item.is none (c.loop-source.invariant raws are)

pub returns-then-not-is_empty : goal.returns-then-not-is_empty
returns-then-not-is_empty g c raws are =
    let source = c.source-item.result in
    let some : (length source.tally.damaged.items == 0) ≡ false =
    sym (c.is_empty.ensures ∙ ap (λ ds. length ds == 0) c.as_slice.ensures.value
    ∙ ap (λ t. length t.damaged.items == 0) c.tally.ensures.tally)
    ∙ c.if-not-is_empty.true in
    broken_at c.args.sources.now raws c.loop-source.source-index source are c.loop-source-test.true
    c.source-item.is some (c.loop-source.invariant raws are)

pub returns : goal.returns
returns g c raws are =
    all_intact c.args.sources.now raws c.loop-source.source-index are c.loop-source-test.false
    (c.loop-source.invariant raws are)
