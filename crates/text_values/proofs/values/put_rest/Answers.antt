use Rattle.std.proofs.Common.{◌++◌, ◌-◌, [], ◌∷◌, length, get_or, take, drop, ◌∙◌, List, ℕ, ap, refl}
use Rattle.std.proofs.lemmas.Result.{on_ok_weaker}
use Rattle.text_values.specs.Digits.{pairs_of}
use Rattle.text_values.proofs.Behind.{behind_behind}
use Rattle.text_values.proofs.Hexadecimal.{eight_and_rest, part_more}
use Rattle.text_values.proofs.values.put_rest.Goals as goal

pub returns-in-len8-up-clause-text : goal.returns-in-len8-up-clause-text
returns-in-len8-up-clause-text c =
    let bytes = c.args.bytes.now in
    let whole = part_more bytes
    (get_or bytes 0 0 ∷ get_or bytes 1 0 ∷ get_or bytes 2 0 ∷ get_or bytes 3 0 ∷ get_or bytes 4 0 ∷ get_or bytes 5 0
    ∷ get_or bytes 6 0 ∷ get_or bytes 7 0 ∷ []) (take (length bytes - 8) (drop 8 bytes))
    (c.args.out.now.items ++ pairs_of bytes) c.args.out.now.items c.extend_from_slice.new.self.items
    (eight_and_rest bytes c.in-len8-up.len_at_least) refl
    (c.in_ok-extend_from_slice.ensures.items
    ∙ ap (λ (ds : List ℕ). c.args.out.now.items ++ ds) c.eight_pairs.ensures) in
    on_ok_weaker c.put_few.result (λ text. text ∙ whole) c.put_few.ensures.text

pub returns-in-len8-up-clause-behind : goal.returns-in-len8-up-clause-behind
returns-in-len8-up-clause-behind c =
    behind_behind c.args.out.now.items c.extend_from_slice.new.self.items c.put_few.new.out.items
    (_, c.in_ok-extend_from_slice.ensures.items) c.put_few.ensures.behind

pub returns-clause-text : goal.returns-clause-text
returns-clause-text c = c.put_few-2.ensures.text

pub returns-clause-behind : goal.returns-clause-behind
returns-clause-behind c = c.put_few-2.ensures.behind
