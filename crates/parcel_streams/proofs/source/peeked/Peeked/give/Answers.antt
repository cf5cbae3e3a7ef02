use Rattle.std.proofs.Common.{◌≡◌, ℕ, ◌+◌, ◌-◌, ◌≤◌, List, ◌++◌, length, take, drop, sym, ap, ◌∙◌, arith}
use Rattle.std.proofs.lemmas.List.{drop-take}
use Rattle.parcel_streams.proofs.Peeks.{gives_front}
use Rattle.parcel_streams.proofs.source.peeked.Peeked.give.Goals as goal

pub returns-clause-taken : goal.returns-clause-taken
returns-clause-taken g c =
    let first : List ℕ = c.args.self.now.first in
    let len : ℕ = c.args.self.now.len in
    let given : ℕ = c.args.self.now.given in
    let count : ℕ = c.min-count.result in
    let behind : List ℕ = drop count c.args.buf.now in
    let some : given ≤ len = c.args.self.now.some in
    let part : drop given (take len first) ≡ take (len - given) (drop given first) =
    ap (λ (n : ℕ). drop given (take n first)) (omega arith) ∙ drop-take given (len - given) first in
    let copied : c.copy_from_slice.new.self ≡ take count (drop given (take len first)) =
    c.copy_from_slice.ensures.after ∙ ap (take count) (sym part) in
    let fits : count ≤ length (drop given (take len first)) = omega (arith, ap length part, c.min-count.ensures) in
    gives_front (take len first) behind given count fits
    ∙ (λ i. take count (sym copied i ++ behind) ++ drop (given + count) (take len first))
