use Rattle.std.proofs.Common.{codes, rules, drop, map}
use Rattle.std.proofs.lemmas.List.{take_rest}
use Rattle.replay_cli.proofs.Mapped.{map-more}
use Rattle.replay_cli.proofs.words.log_asked.Goals as goal

pub returns-in-len2-up-clause-words : goal.returns-in-len2-up-clause-words
returns-in-len2-up-clause-words g c = λ log is.
    let words = map-more g.S.AsStr.text c.args.words.now c.command-item.result (codes "replay")
    c.in-len2-up.len_at_least c.command-item.is (search rules) in
    let asked = rw (take_rest c.args.words.now 2) at c.log_among.ensures.options log is in
    (words.0, (map g.S.AsStr.text (drop 2 c.args.words.now), words.1, asked))
