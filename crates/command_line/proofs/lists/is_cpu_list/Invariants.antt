use Rattle.std.proofs.Common.{◌≡◌}
use Rattle.std.specs.Prelude.{is_some, option_map}
use Rattle.std.specs.List.{list_all}
use Rattle.command_line.specs.ListWords.{is_cpu_list, parts_behind, range_in}
use Rattle.command_line.proofs.ListParts.{bytes_left}
use Rattle.command_line.proofs.lists.is_cpu_list.Given as goal

-- the parts left are ranges if all are
abbrev pub invariant-loop-left : goal.invariant-loop-left
invariant-loop-left l =
    list_all (λ part. is_some (range_in part)) (parts_behind (option_map (λ t. t.now) l.left)) ≡ is_cpu_list l.list

abbrev pub decreases-loop-left : goal.decreases-loop-left
decreases-loop-left l = bytes_left (option_map (λ t. t.now) l.left)
