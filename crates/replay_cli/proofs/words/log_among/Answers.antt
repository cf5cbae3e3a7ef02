use Rattle.std.proofs.Common.{◌≡◌, Bool, true, codes, inr, map, rules, subst}
use Rattle.replay_cli.proofs.Mapped.{map-two}
use Rattle.replay_cli.specs.Words.{AreOptions}
use Rattle.replay_cli.proofs.words.log_among.Goals as goal

pub returns-in-len2-clause-options : goal.returns-in-len2-clause-options
returns-in-len2-clause-options g c = λ log is.
    let same : true ≡ log = cc in
    let words = map-two g.S.AsStr.text c.args.options.now c.flag-item.result c.end-item.result (codes "--log")
    (codes "--") c.in-len2.len_at_least c.in-len2.len_below c.flag-item.is c.end-item.is (search rules)
    (search rules) in
    subst (λ (l : Bool). AreOptions l (map g.S.AsStr.text c.args.options.now)) same (inr words)
