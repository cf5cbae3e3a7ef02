use Rattle.std.proofs.Common.{◌≡◌}
use Rattle.std.specs.Prelude.{is_some, option_map}
use Rattle.command_line.specs.ListWords.{parts_behind, pid_list, pids_in}
use Rattle.command_line.proofs.ListParts.{bytes_left}
use Rattle.command_line.proofs.lists.is_pid_list.Given as goal

-- the parts left are processes if all are
abbrev pub invariant-loop-left : goal.invariant-loop-left
invariant-loop-left l =
    is_some (pids_in (parts_behind (option_map (λ t. t.now) l.left))) ≡ is_some (pid_list l.list)

abbrev pub decreases-loop-left : goal.decreases-loop-left
decreases-loop-left l = bytes_left (option_map (λ t. t.now) l.left)
