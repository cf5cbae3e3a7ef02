use Rattle.std.proofs.Common.{sym, ◌∙◌}
use Rattle.event_fields.proofs.TypeWords.{same_word, other_word, longer_text, ends_together, differs, agrees}
use Rattle.event_fields.proofs.types.is_named.Goals as goal

pub returns-in_default-next_word : goal.returns-in_default-next_word
returns-in_default-next_word c =
    sym (longer_text c.loop-word.left.now c.loop-word.named.now c.in-Some.word.now c.in-Some.rest.now
    c.in-Some.ensures.words c.in_default-next_word.ensures.words)
    ∙ c.loop-word.invariant

pub returns-then-ne : goal.returns-then-ne
returns-then-ne c =
    sym (other_word c.loop-word.left.now c.loop-word.named.now c.in-Some.word.now c.in-Some-next_word.wanted.now
    c.in-Some.rest.now c.in-Some-next_word.others.now c.in-Some.ensures.words c.in-Some-next_word.ensures.words
    (differs _ (sym c.ne.ensures ∙ c.if-ne.true)))
    ∙ c.loop-word.invariant

pub loop-word-preserved : goal.loop-word-preserved
loop-word-preserved c =
    sym (same_word c.loop-word.left.now c.loop-word.named.now c.in-Some.word.now c.in-Some-next_word.wanted.now
    c.in-Some.rest.now c.in-Some-next_word.others.now c.in-Some.ensures.words c.in-Some-next_word.ensures.words
    (agrees _ (sym c.ne.ensures ∙ c.if-ne.false)))
    ∙ c.loop-word.invariant

pub returns : goal.returns
returns c =
    ends_together c.loop-word.left.now c.loop-word.named.now c.next_word-2.result c.is_none.result
    c.in_default.ensures.words c.next_word-2.ensures.words c.is_none.ensures
    ∙ c.loop-word.invariant
