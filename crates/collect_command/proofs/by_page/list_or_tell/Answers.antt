use Rattle.std.proofs.Common.{Option, List, ℕ, subst, ap, ◌∙◌}
use Rattle.collect_command.specs.Runs.{IsMemoryLine}
use Rattle.collect_command.proofs.PagedGiven.{memory_told}
use Rattle.collect_command.proofs.by_page.list_or_tell.Goals as goal

pub tell_memory-requires : goal.tell_memory-requires
tell_memory-requires g c = ap g.W.Sink.failed c.in-Err.ensures.refused ∙ c.requires.sound

pub returns-in-Err : goal.returns-in-Err
returns-in-Err g c =
    memory_told g.R.Source.remaining g.R.Source.failed c.args.collecting.now c.args.sources.items _ _ _
    c.nothing.result c.tell_memory.result c.nothing.ensures.ending
    (subst (λ (before : Option (List ℕ)). IsMemoryLine before (g.W.Sink.contents c.tell_memory.new.writer)
    (g.W.Sink.failed c.tell_memory.new.writer) c.tell_memory.result)
    (ap g.W.Sink.contents c.in-Err.ensures.refused) c.tell_memory.ensures)
