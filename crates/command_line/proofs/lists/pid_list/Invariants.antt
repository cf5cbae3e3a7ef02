use Rattle.std.proofs.Common.{◌≡◌, ◌++◌}
use Rattle.std.specs.Prelude.{option_map}
use Rattle.command_line.specs.ListWords.{parts_behind, pid_list, pids_in}
use Rattle.command_line.proofs.ListParts.{bytes_left}
use Rattle.command_line.proofs.lists.pid_list.Given as goal

-- the processes so far come first, and then those of the parts left
abbrev pub invariant-loop-left : goal.invariant-loop-left
invariant-loop-left l =
    pid_list l.list
    ≡ option_map (λ rest. l.pids.items ++ rest) (pids_in (parts_behind (option_map (λ t. t.now) l.left)))

abbrev pub decreases-loop-left : goal.decreases-loop-left
decreases-loop-left l = bytes_left (option_map (λ t. t.now) l.left)
