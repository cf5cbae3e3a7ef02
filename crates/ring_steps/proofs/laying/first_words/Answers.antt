use Rattle.std.proofs.Common.{rules, ℕ, ◌+◌, set, sym, subst}
use Rattle.ring_steps.specs.NewRings.{AreFirstWords}
use Rattle.ring_steps.proofs.FirstParts.{link_laid}
use Rattle.ring_steps.proofs.laying.first_words.Goals as goal

pub loop-page-preserved : goal.loop-page-preserved
loop-page-preserved c =
    subst
    (λ (at : ℕ).
    AreFirstWords c.args.shape (c.loop-page.page + 1) (set c.loop-page.words.items at c.first_link_word.result))
    (sym c.place-in-loop-page.ensures)
    (link_laid c.args.shape c.loop-page.page c.first_link_word.result c.loop-page.words.items (search rules)
    c.first_link_word.ensures c.loop-page.invariant)
