use Rattle.std.proofs.Common.{rules, refl, subst}
use Rattle.std.specs.BinaryHeap.{heap_items}
use Rattle.line_follower.specs.declared.follower.Waiting.{Waiting}
use Rattle.line_follower.specs.Known.{IsFinal}
use Rattle.line_follower.proofs.Steps.{gives_final, none_final, same_first}
use Rattle.line_follower.proofs.follower.Follower.next_final.Goals as goal

pub returns-then-not-is_final-clause-given : goal.returns-then-not-is_final-clause-given
returns-then-not-is_final-clause-given g c = (
  refl,
  rw (← c.self.view_is)
      (none_final c.self.inside.bounds (heap_items c.self.inside.waiting) c.self.inside.last c.in_ok-first.field-0.now
      (c.in_ok-first.ensures.greatest c.self.invariant)
      (λ final. let wrong = c.if-not-is_final.ensures.is_not final in search rules)),
)

pub returns-clause-given : goal.returns-clause-given
returns-clause-given g c =
    let same = same_first (heap_items c.self.inside.waiting) (heap_items c.pop.new.self) c.in_ok-first.field-0.now
    c.in_ok-waiting.waiting c.in_ok-first.ensures.lookup c.in_ok-waiting.ensures.top
    c.in_ok-waiting.ensures.permutation in
    let final : IsFinal c.self.inside.bounds.cpus c.in_ok-first.field-0.now.place.0 =
    c.if-not-is_final.ensures.is_final (search rules) in
    rw (← c.self.view_is)
    (gives_final c.self.inside.bounds (heap_items c.self.inside.waiting) (heap_items c.pop.new.self)
    c.self.inside.last c.say.new.last c.in_ok-waiting.waiting c.say.result c.in_ok-waiting.ensures.permutation
    (c.in_ok-waiting.ensures.below_top c.self.invariant) c.say.ensures.said c.say.ensures.last
    (subst (λ (w : Waiting g.row.T.Denot). IsFinal c.self.inside.bounds.cpus w.place.0) same final))
