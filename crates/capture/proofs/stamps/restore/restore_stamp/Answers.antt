use Rattle.std.proofs.Common.{◌+◌, ◌++◌, List, ℕ, drop, refl, sym, ap, ◌∙◌, arith}
use Rattle.trace_model.specs.Words.{Word, bytes_of_word, time_extend}
use Rattle.trace_model.proofs.words.Lengths.{length-bytes_of_extend}
use Rattle.capture.proofs.Puts.{put_at}
use Rattle.capture.proofs.Restored.{restored-late}
use Rattle.capture.proofs.stamps.restore.restore_stamp.Goals as goal

pub returns-clause-word : goal.returns-clause-word
returns-clause-word c =
    let was : List ℕ = c.args.«data».now in
    let at = c.args.at in
    let delta = c.time_until-delta.result in
    put_at was c.put_extend.new.out (bytes_of_word (time_extend delta)) at _
    (let within = c.requires.within in omega arith) refl c.put_extend.ensures
    ∙ ap (λ (n : ℕ). bytes_of_word (time_extend delta) ++ drop (at + n) was) (length-bytes_of_extend delta)
    ∙ ap (λ (n : ℕ). bytes_of_word (time_extend n) ++ drop (at + 8) was) c.time_until-delta.ensures
    ∙ ap (λ (w : Word). bytes_of_word w ++ drop (at + 8) was)
    (sym (restored-late c.args.before c.args.stamp c.if-before-lt-TIME_LIMIT.false))
