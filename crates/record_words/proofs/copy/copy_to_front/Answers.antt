use Rattle.std.proofs.Common.{◌≡◌, ◌++◌, List, ℕ, length, drop, rules, ap}
use Rattle.std.proofs.lemmas.List.{places}
use Rattle.record_words.proofs.copy.copy_to_front.Goals as goal

pub returns-then-len-gt-SHORT_LIMIT : goal.returns-then-len-gt-SHORT_LIMIT
returns-then-len-gt-SHORT_LIMIT c =
    let payload : List ℕ = c.args.payload.now in
    let copied : c.copy_from_slice.new.self ≡ payload = search (rules, places) in
    ap (λ (copy : List ℕ). copy ++ drop (length payload) c.args.out.now) copied
