use Rattle.std.proofs.Common.{◌≡◌, ◌<◌, ℕ, [], get_or}
use Rattle.ring_region.specs.declared.regions.Region.{Region}
use Rattle.collect_command.proofs.recovery.print.are_sound.Given as goal

-- none of those before is damaged
abbrev pub invariant-loop-region : goal.invariant-loop-region
invariant-loop-region l = (k : ℕ) (d : Region) → k < l.region-index → (get_or l.regions k d).damaged.items ≡ []
