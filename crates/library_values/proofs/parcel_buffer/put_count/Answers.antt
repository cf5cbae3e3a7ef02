use Rattle.std.proofs.Common.{◌+◌, ◌++◌, ℕ, List, take, sym, ap, ◌∙◌}
use Rattle.library_values.proofs.Fronts.{stored_is, stored_len}
use Rattle.library_values.proofs.parcel_buffer.put_count.Goals as goal

pub returns-then-stored-clause-put : goal.returns-then-stored-clause-put
returns-then-stored-clause-put c = λ contents size is.
    c.put_number.ensures.put
    ∙ ap (λ (l : List ℕ). take c.args.at c.args.out.now ++ l)
    (sym (stored_is contents c.args.missed size (sym is ∙ c.if-stored.true)))

pub returns-then-stored-clause-end : goal.returns-then-stored-clause-end
returns-then-stored-clause-end c = λ contents size is.
    ap (λ (n : ℕ). c.args.at + n) (sym (stored_len contents c.args.missed size (sym is ∙ c.if-stored.true)))
