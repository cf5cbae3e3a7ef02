use Rattle.world_model.proofs.OneWorld.{one_world, behind_next}
use Rattle.world_model.proofs.laws.worlds.one_world.Goals as goal

pub returns : goal.returns
returns c = record {
  behind = one_world;
  whole = λ script one other limits a b. one_world script script.commands one other limits a b;
  next = behind_next;
}
