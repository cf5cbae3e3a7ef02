use Rattle.world_model.proofs.GenuineWorlds.{world_genuine}
use Rattle.world_model.proofs.laws.worlds.worlds_are_genuine.Goals as goal

pub returns : goal.returns
returns c =
    record { behind = world_genuine; whole = λ script w limits of. world_genuine script script.commands w limits of }
