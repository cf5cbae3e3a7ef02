use Rattle.ring_model.proofs.partition.RingsKept.{taken_partition}
use Rattle.ring_model.proofs.partition.UnreadRest.{rest_is_unread}
use Rattle.ring_model.proofs.partition.SettledRest.{tail_is_the_rest}
use Rattle.ring_model.proofs.laws.histories.taken_fills_partition_committed.Goals as goal

pub returns : goal.returns
returns c = record {
  partition = λ n size start core r. (taken_partition n size start core r, r.partition.firsts);
  fills = λ n size start core r. r.partition.fills;
  rest = rest_is_unread;
  tail = tail_is_the_rest;
}
