use Rattle.std.proofs.Common.{◌≡◌, ◌-◌, ◌++◌}
use Rattle.trace_model.specs.declared.limits.TheConstants.{MAX_CPUS}
use Rattle.command_line.specs.ListWords.{marks_from}
use Rattle.command_line.proofs.lists.marks_of.Given as goal

-- the marks so far come first, and then those of the CPUs left
abbrev pub invariant-loop-cpu : goal.invariant-loop-cpu
invariant-loop-cpu l =
    marks_from l.list 0 MAX_CPUS ≡ l.marks.items ++ marks_from l.list l.cpu (MAX_CPUS - l.cpu)
