use Rattle.ring_steps.specs.Views.{writing}
use Rattle.ring_steps.proofs.ghost_part.ghost_part_known.Given as goal

abbrev pub ghosts-ghost_part_of : goal.ghosts-ghost_part_of
ghosts-ghost_part_of a = record { now = writing a.given.now.me.0 }
