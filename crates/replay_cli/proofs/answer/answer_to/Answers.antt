use Rattle.std.proofs.Common.{◌≡◌, map, string_bytes}
use Rattle.replay_cli.specs.Words.{AskForReplay}
use Rattle.replay_cli.proofs.answer.answer_to.Goals as goal

pub returns-in-Some-clause-refused : goal.returns-in-Some-clause-refused
returns-in-Some-clause-refused g c =
    let asks : AskForReplay c.in-Some.log (map string_bytes c.in-Ok.words.items) =
    rw c.deref.ensures.value at c.log_asked.ensures.words c.in-Some.log c.in-Some.is in
    record {
      only_usage = λ other. absurd ((rw c.in-Ok.is at other) c.in-Some.log asks);
      only_line = λ refused. absurd (cc);
    }

pub returns-in-None-clause-replay : goal.returns-in-None-clause-replay
returns-in-None-clause-replay g c = λ log asks.
    let given : AskForReplay log (map string_bytes c.in-Ok.words.items) = rw c.in-Ok.is at asks in
    let found = c.log_asked.ensures.asked log (rw c.deref.ensures.value given) in
    absurd (cc)

pub returns-in-Some-clause-replay : goal.returns-in-Some-clause-replay
returns-in-Some-clause-replay g c = λ log asks.
    let given : AskForReplay log (map string_bytes c.in-Ok.words.items) = rw c.in-Ok.is at asks in
    let found = c.log_asked.ensures.asked log (rw c.deref.ensures.value given) in
    let same : c.in-Some.log ≡ log = cc in
    rw same at c.replay_to.ensures.output
