use Rattle.std.proofs.Common.{◌≡◌, ℕ, ◌+◌, List, true, drop, map, rules, subst, sym}
use Rattle.command_line.proofs.WordLists.{next_word, word_here}
use Rattle.command_line.specs.Causes.{has_word}
use Rattle.command_line.proofs.misuse.file_misuse.Goals as goal

pub returns-then-not-has_files : goal.returns-then-not-has_files
returns-then-not-has_files g c =
    let next = next_word g.S.AsStr.text c.args.words.now c.loop-word.word-index c.word-item.result
    c.loop-word-test.true c.word-item.is in
    let word = g.S.AsStr.text c.word-item.result in
    let behind = map g.S.AsStr.text (drop (c.loop-word.word-index + 1) c.args.words.now) in (
      c.loop-word.invariant.words c.as_str-word.result.now
          (subst (λ (w : List ℕ). has_word w (map g.S.AsStr.text (drop c.loop-word.word-index c.args.words.now)) ≡ true)
          (sym c.as_str-word.ensures) (rw next (word_here word behind))),
      search rules,
    )

pub returns-in_default : goal.returns-in_default
returns-in_default g c =
    let next = next_word g.S.AsStr.text c.args.words.now c.loop-word.word-index c.word-item.result
    c.loop-word-test.true c.word-item.is in
    let word = g.S.AsStr.text c.word-item.result in
    let behind = map g.S.AsStr.text (drop (c.loop-word.word-index + 1) c.args.words.now) in (
      c.loop-word.invariant.words c.as_str-word.result.now
          (subst (λ (w : List ℕ). has_word w (map g.S.AsStr.text (drop c.loop-word.word-index c.args.words.now)) ≡ true)
          (sym c.as_str-word.ensures) (rw next (word_here word behind))),
      (c.loop-word.position, c.path_of.ensures c.in_default.is),
    )
