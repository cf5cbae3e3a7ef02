use Rattle.ring_steps.specs.NewRings.{AreFirstWords}
use Rattle.ring_steps.proofs.laying.first_words.Given as goal

abbrev pub invariant-loop-page : goal.invariant-loop-page
invariant-loop-page l = AreFirstWords l.shape l.page l.words.items
