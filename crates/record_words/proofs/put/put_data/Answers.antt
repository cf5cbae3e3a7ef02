use Rattle.std.proofs.Common.{◌≡◌, ℕ, sym, rules, arith, replicate, ◌∙◌}
use Rattle.std.proofs.lemmas.List.{places, length-replicate}
use Rattle.record_words.proofs.Headers.{bytes-data_word, length-data_header, puts_part}
use Rattle.record_words.proofs.put.put_data.Goals as goal

pub returns-clause-put : goal.returns-clause-put
returns-clause-put c =
    let zeros : c.fill.new.self ≡ replicate {A = ℕ} c.args.slot 0 = search (rules, places) in
    rw (bytes-data_word c.args.delta c.args.slot, zeros)
    (puts_part _ _ _ _ _ _ (c.put_header-start.ensures.len ∙ sym (length-data_header c.args.delta c.args.slot))
    (omega (arith, length-replicate {A = ℕ} c.args.slot 0)) c.put_header-start.ensures.put)
