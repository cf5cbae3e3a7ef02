use Rattle.std.proofs.Common.{ℕ, Some, is_some, sym, ap, subst}
use Rattle.std.proofs.lemmas.Result.{on_ok_weaker}
use Rattle.std.specs.Ordering.{nat_cmp}
use Rattle.std.specs.BTreeMap.{BTreeMap, Updates}
use Rattle.collector.specs.declared.ranges.Ranges.{Ranges}
use Rattle.collector.specs.declared.index.Index.{Index}
use Rattle.collector.proofs.Spans.{others_stay}
use Rattle.collector.proofs.Indexes.{was_there, was_nothing, all_stated, here_laid, laid_stated, laid_or_refused}
use Rattle.collector.proofs.index.Index.lay.Goals as goal

pub returns-in-Some-clause-stated : goal.returns-in-Some-clause-stated
returns-in-Some-clause-stated c =
    let old = c.args.self.now in
    let cpu = c.args.cpu.0 in
    let before = c.in-Some.ranges.now in
    let after = c.lay.new.self in
    let value = c.in-Some.ensures.value in
    let new : Index = record { cpus = c.get_mut.follows.lender after; alloc = old.alloc } in
    let updates : Updates nat_cmp old.cpus new.cpus cpu (Some after) =
    (c.get_mut.follows.holds after).3 (ap is_some (sym value)) in
    all_stated old new cpu before after (was_there old cpu before (sym value)) updates.1
    (others_stay old.cpus new.cpus cpu (Some after) updates) c.requires.stated
    (laid_or_refused c.lay.result before after c.args.low c.args.first c.args.end c.args.parcel c.requires.some
    c.lay.ensures.laid c.lay.ensures.refused (c.requires.stated cpu before (sym value)))

pub returns-in-Some-clause-laid : goal.returns-in-Some-clause-laid
returns-in-Some-clause-laid c =
    let old = c.args.self.now in
    let cpu = c.args.cpu.0 in
    let before = c.in-Some.ranges.now in
    let after = c.lay.new.self in
    let value = c.in-Some.ensures.value in
    let new : Index = record { cpus = c.get_mut.follows.lender after; alloc = old.alloc } in
    let updates : Updates nat_cmp old.cpus new.cpus cpu (Some after) =
    (c.get_mut.follows.holds after).3 (ap is_some (sym value)) in
    on_ok_weaker c.lay.result
    (here_laid old new cpu before after (was_there old cpu before (sym value)) updates.1
    (others_stay old.cpus new.cpus cpu (Some after) updates) c.args.low c.args.first c.args.end c.args.parcel)
    c.lay.ensures.laid

pub returns-in_ok-insert-in-None-clause-stated : goal.returns-in_ok-insert-in-None-clause-stated
returns-in_ok-insert-in-None-clause-stated c =
    let old = c.args.self.now in
    let cpu = c.args.cpu.0 in
    let before = c.new-ranges.result in
    let after = c.lay-in-None.new.self in
    let new : Index = record { cpus = c.insert.new.self; alloc = old.alloc } in
    let updates = subst (λ (m : BTreeMap ℕ Ranges). Updates nat_cmp m new.cpus cpu (Some after))
    c.get_mut.follows.holds-at-none c.in_ok-insert-in-None.ensures.updates in
    all_stated old new cpu before after
    (was_nothing old cpu before (sym c.in-None.ensures.value) c.new-ranges.ensures.unreported) updates.1
    (others_stay old.cpus new.cpus cpu (Some after) updates) c.requires.stated
    (laid_stated before after c.args.low c.args.first c.args.end c.args.parcel c.requires.some
    c.in_ok-lay-in-None.ensures.laid)

pub returns-in_ok-insert-in-None-clause-laid : goal.returns-in_ok-insert-in-None-clause-laid
returns-in_ok-insert-in-None-clause-laid c =
    let old = c.args.self.now in
    let cpu = c.args.cpu.0 in
    let before = c.new-ranges.result in
    let after = c.lay-in-None.new.self in
    let new : Index = record { cpus = c.insert.new.self; alloc = old.alloc } in
    let updates = subst (λ (m : BTreeMap ℕ Ranges). Updates nat_cmp m new.cpus cpu (Some after))
    c.get_mut.follows.holds-at-none c.in_ok-insert-in-None.ensures.updates in
    here_laid old new cpu before after
    (was_nothing old cpu before (sym c.in-None.ensures.value) c.new-ranges.ensures.unreported) updates.1
    (others_stay old.cpus new.cpus cpu (Some after) updates) c.args.low c.args.first c.args.end c.args.parcel
    c.in_ok-lay-in-None.ensures.laid
