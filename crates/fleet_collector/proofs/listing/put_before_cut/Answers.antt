use Rattle.std.proofs.Common.{◌++◌, ◌∙◌, inl, inr, ap, sym, ℕ, List, length, map, take, Some, arith, append-nil}
use Rattle.std.proofs.lemmas.Grind.{common_steps}
use Rattle.std.proofs.lemmas.Iterator.Consumers.{YieldsList-from_first, YieldsList-so_far, YieldsList-turn}
use Rattle.std.proofs.lemmas.Iterator.Consumers.{YieldsList-end}
use Rattle.std.proofs.lemmas.Option.{slice_get-get_or}
use Rattle.page_borrow.specs.Entries.{numbered_record}
use Rattle.trace_model.specs.Record.{Record}
use Rattle.fleet_collector.specs.Lines.{line_seen, line_of}
use Rattle.fleet_collector.proofs.BeforeCut.{none_above, one_more_below, first_below, listed_before}
use Rattle.fleet_collector.proofs.listing.put_before_cut.Goals as goal

pub loop-entry-init : goal.loop-entry-init
loop-entry-init c = record {
  put = sym (append-nil (map line_seen c.args.lines.now.items));
  low = none_above
      c.cut-cut.result.0;
}

pub loop-entry-preserved : goal.loop-entry-preserved
loop-entry-preserved c = record {
  put = grind (arith, common_steps);
  low = one_more_below c.loop-entry.yielded c.in-Some.entry c.cut-cut.result.0 c.loop-entry.invariant.low
      c.if-entry-cut.false;
}

pub returns-then-entry-cut : goal.returns-then-entry-cut
returns-then-entry-cut c =
    let records = c.records-entry-items.result in
    let yields = YieldsList-from_first numbered_record (λ left. left) records
    c.into_iter-entry-iterator.ensures.into_iter_gives in
    let done = c.loop-entry.yielded in
    let so_far = YieldsList-so_far yields done _ c.loop-entry.yielded_by in
    let turn = YieldsList-turn yields done _ c.loop-entry.yielded_by _ _ c.in-Some.entry c.in-Some.is
    c.next.ensures.steps in
    let was = c.loop-entry.invariant in (
      take (length done) records,
      listed_before c.args.known.now c.args.cpu.0 c.args.moment.0 c.cut-cut.result.0 records (length done)
          c.records-entry-items.ensures c.cut-cut.ensures
          (first_below (map numbered_record done) records c.cut-cut.result.0 (length done) so_far was.low)
          (inr (
            numbered_record c.in-Some.entry,
            slice_get-get_or records (length done) (numbered_record c.in-Some.entry) turn.0
                ∙ ap (λ (x : ℕ × Record). Some x) (sym turn.1),
            c.if-entry-cut.true,
          )),
      was.put
          ∙ ap (λ (rs : List (ℕ × Record)). map line_seen c.args.lines.now.items ++ map
          (line_of c.args.stream.0 c.args.cpu.0) rs) so_far,
    )

pub returns : goal.returns
returns c =
    let records = c.records-entry-items.result in
    let yields = YieldsList-from_first numbered_record (λ left. left) records
    c.into_iter-entry-iterator.ensures.into_iter_gives in
    let done = c.loop-entry.yielded in
    let so_far = YieldsList-so_far yields done _ c.loop-entry.yielded_by in
    let all = YieldsList-end yields done _ c.loop-entry.yielded_by _ _ c.in-None.is c.next.ensures.steps in
    let same = all.1 in
    let was = c.loop-entry.invariant in (
      take (length done) records,
      listed_before c.args.known.now c.args.cpu.0 c.args.moment.0 c.cut-cut.result.0 records (length done)
          c.records-entry-items.ensures c.cut-cut.ensures
          (first_below (map numbered_record done) records c.cut-cut.result.0 (length done) so_far was.low)
          (inl (omega arith)),
      was.put
          ∙ ap (λ (rs : List (ℕ × Record)). map line_seen c.args.lines.now.items ++ map
          (line_of c.args.stream.0 c.args.cpu.0) rs) so_far,
    )
