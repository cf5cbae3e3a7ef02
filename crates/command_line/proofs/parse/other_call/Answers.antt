use Rattle.std.proofs.Common.{ap, ◌∙◌, Err, rules}
use Rattle.clap.specs.Words.{found_of}
use Rattle.command_line.proofs.CommandLineLemmas.{call_of_matches-words, no_recover-words, recovered-words}
use Rattle.command_line.proofs.parse.other_call.Goals as goal

pub returns-in-Ok : goal.returns-in-Ok
returns-in-Ok c = λ words has accepted other.
    recovered-words words c.args.matches.now (found_of c.in-Some.found.now) c.in-Ok.call has accepted (search rules)
    c.in-Some.ensures.rows c.in-Ok.ensures.asked

pub returns-in-Err : goal.returns-in-Err
returns-in-Err c = λ words has accepted other.
    no_recover-words words c.args.matches.now (found_of c.in-Some.found.now) c.in-Err.fault has (search rules)
    c.in-Some.ensures.rows (λ is. c.recover_call.ensures.unread (c.in-Err.is ∙ ap Err is))

pub returns-in-None : goal.returns-in-None
returns-in-None c = λ words has accepted other.
    rw c.ok_or.ensures.value
    (call_of_matches-words words c.args.matches.now c.call_of_matches.result has accepted other (search rules)
    c.call_of_matches.ensures.named c.call_of_matches.ensures.none c.call_of_matches.ensures.log
    c.call_of_matches.ensures.no_log)
