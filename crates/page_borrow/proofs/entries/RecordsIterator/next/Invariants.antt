use Rattle.std.proofs.Common.{◌-◌, ◌≡◌, ◌*◌, ◌≤◌, length}
use Rattle.page_borrow.specs.Entries.{entries_left}
use Rattle.page_borrow.proofs.entries.RecordsIterator.next.Given as goal

abbrev pub invariant-loop-self : goal.invariant-loop-self
invariant-loop-self l = record {
  few : 4 * l.self-inside.reached.count ≤ l.self-inside.reached.at;
  same_left :
      entries_left l.self-inside.data.now l.self-inside.reached l.self-inside.number l.self-inside.end
      ≡ entries_left l.initial.self-inside.data.now l.initial.self-inside.reached l.initial.self-inside.number
      l.initial.self-inside.end;
}

abbrev pub decreases-loop-self : goal.decreases-loop-self
decreases-loop-self l = length l.self-inside.data.now - l.self-inside.reached.at
