use Rattle.std.proofs.Common.{[], inl}
use Rattle.fleet_text.specs.Listed.{shown_of}
use Rattle.collect_command.proofs.recovery.print.list_fleet.Goals as goal

pub returns-in-Ok-clause-listed : goal.returns-in-Ok-clause-listed
returns-in-Ok-clause-listed g c = λ start has. inl record {
  shown = shown_of c.in-Ok.listed;
  is_shown = c.in-Ok.ensures;
  wanted = c.ending_for.result;
  wanted_is = c.ending_for.ensures;
  written = c.finish.ensures.written start _ (c.put_damaged.ensures start _ (c.put.ensures start [] has));
}
