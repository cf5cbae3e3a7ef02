use Rattle.std.proofs.Common.{◌≡◌}
use Rattle.std.specs.Prelude.{option_map}
use Rattle.std.specs.List.{list_any}
use Rattle.command_line.specs.ListWords.{is_listed, is_within, parts_behind, range_in}
use Rattle.command_line.proofs.ListParts.{bytes_left}
use Rattle.command_line.proofs.lists.is_listed.Given as goal

-- one of the parts left has the CPU if one of all has it
abbrev pub invariant-loop-left : goal.invariant-loop-left
invariant-loop-left l =
    list_any (λ part. is_within l.cpu (range_in part)) (parts_behind (option_map (λ t. t.now) l.left))
    ≡ is_listed l.list l.cpu

abbrev pub decreases-loop-left : goal.decreases-loop-left
decreases-loop-left l = bytes_left (option_map (λ t. t.now) l.left)
