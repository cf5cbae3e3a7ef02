use Rattle.std.proofs.Common.{◌++◌, ◌∙◌, ap, ℕ, List, map}
use Rattle.std.proofs.lemmas.Iterator.Consumers.{YieldsList-from_first, YieldsList-end}
use Rattle.page_borrow.specs.Entries.{numbered_record}
use Rattle.trace_model.specs.Record.{Record}
use Rattle.time_merge.specs.LineOrder.{line_of}
use Rattle.time_merge.specs.Lines.{line_seen}
use Rattle.time_merge.proofs.lines.put_lines_of.Goals as goal

pub returns : goal.returns
returns c =
    let records = c.records-entry-items.result in
    let given = c.into_iter-entry-iterator.ensures.into_iter_gives in
    let all = YieldsList-end (YieldsList-from_first numbered_record (λ left. left) records given) c.loop-entry.yielded _
    c.loop-entry.yielded_by _ _ c.in-None.is c.next.ensures.steps in (
      records,
      c.records-entry-items.ensures,
      c.loop-entry.invariant
          ∙ ap (λ (rs : List (ℕ × Record)). map line_seen c.args.lines.now.items ++ map (line_of c.args.cpu.0) rs)
          all.0,
    )
