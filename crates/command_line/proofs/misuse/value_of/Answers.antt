use Rattle.std.proofs.Common.{◌≡◌, true, false, bytes_eq, codes, sym, ◌∙◌}
use Rattle.command_line.proofs.WordLists.{next_word, same_word, value_after, value_behind}
use Rattle.command_line.proofs.misuse.value_of.Goals as goal

pub returns-then-is_next : goal.returns-then-is_next
returns-then-is_next g c =
    let next = next_word g.S.AsStr.text c.args.words.now c.loop-word.word-index c.word-item.result
    c.loop-word-test.true c.word-item.is in
    c.loop-word.invariant.next c.if-is_next.true c.as_str-word.result.now
    (rw (next, c.as_str-word.ensures) (same_word (g.S.AsStr.text c.word-item.result)))

pub loop-word-preserved : goal.loop-word-preserved
loop-word-preserved g c =
    let word = g.S.AsStr.text c.word-item.result in
    let option = c.args.option.now in
    let next = next_word g.S.AsStr.text c.args.words.now c.loop-word.word-index c.word-item.result
    c.loop-word-test.true c.word-item.is in
    let other : bytes_eq word (codes "--") ≡ false = rw c.as_str-word.ensures at (sym c.eq.ensures ∙ c.if-eq.false) in
    record {
      left = λ value has. c.loop-word.invariant.left value (rw next (value_behind option value word _ other has));
      next = λ is value begins.
          let named : bytes_eq word option ≡ true = rw c.as_str-word.ensures at (sym c.eq-is_next.ensures ∙ is) in
          c.loop-word.invariant.left value (rw next (value_after option value word _ other named begins));
    }
