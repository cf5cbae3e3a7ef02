use Rattle.std.proofs.Common.{List, [], ◌∷◌, ◌++◌, ap, ◌∙◌, append_assoc, arith}
use Rattle.line_follower.specs.declared.lines.Said.{Said}
use Rattle.line_follower.specs.Following.{Gives}
use Rattle.line_follower.proofs.Steps.{gives_more, one_less}
use Rattle.line_follower.proofs.follower.Follower.take_rest.Goals as goal

pub loop-said-smaller : goal.loop-said-smaller
loop-said-smaller g c =
    let one = one_less c.loop-said.self c.in-Some.said c.next_waiting.new.self c.in-Some.ensures.given in omega arith

pub unreachable-requires : goal.unreachable-requires
unreachable-requires g c =
    let one = one_less c.loop-said.self c.in-Some.said c.next_waiting.new.self c.in-Some.ensures.given in
    omega (arith, c.in-Err.ensures.full, c.loop-said.invariant.room)

pub loop-said-preserved : goal.loop-said-preserved
loop-said-preserved g c =
    let before = c.loop-said.invariant in
    let one = one_less c.loop-said.self c.in-Some.said c.next_waiting.new.self c.in-Some.ensures.given in
    record {
      room = omega (arith, c.in-Ok.ensures.len, c.in-Ok.ensures.capacity, before.room);
      said = before.said ++ c.in-Some.said ∷ [];
      items =
          c.in-Ok.ensures.items
          ∙ ap (λ (items : List (Said g.row.T.Denot)). items ++ c.in-Some.said ∷ []) before.items
          ∙ append_assoc c.args.given.now.items before.said (c.in-Some.said ∷ []);
      gives =
          gives_more Gives c.args.self.now before.said c.loop-said.self c.in-Some.said c.next_waiting.new.self
          before.gives
          c.in-Some.ensures.given;
      count = c.next_waiting.ensures.count ∙ before.count;
    }
