use Rattle.std.proofs.Common.{length, refl, subst, arith, List}
use Rattle.std.proofs.lemmas.Option.{slice_get_read}
use Rattle.time_merge.specs.Heads.{HaveEnded, IsAtTurn}
use Rattle.time_merge.proofs.Heads.{have_ended, goes_first}
use Rattle.time_merge.proofs.merge.Merged.at_turn.Goals as goal

pub returns-then-source-len-clause-none : goal.returns-then-source-len-clause-none
returns-then-source-len-clause-none g c none =
    let sources = c.self.inside.sources in
    let whole = sources.ok.0 in
    let len = c.len.ensures in
    subst (HaveEnded g.S.LineSource.head) c.self.view_is
    (have_ended g.S.LineSource.head sources.items c.self.inside.order c.self.inside.turn c.self.invariant (omega arith))

pub returns-clause-some : goal.returns-clause-some
returns-clause-some g c =
    let sources = c.self.inside.sources in
    let whole = sources.ok.0 in
    let few = c.len.type_inv in
    let len = c.len.ensures in
    let at =
    slice_get_read sources.items (length sources.items) c.self.inside.turn.first.source c.index.result.now refl
    (omega arith) c.index.ensures in
    let step =
    goes_first g.S.LineSource.head sources.items c.self.inside.order c.self.inside.turn c.index.result.now
    c.self.invariant (omega arith) (omega arith) at in
    subst (λ (ss : List _). IsAtTurn g.S.LineSource.head ss c.index.result.now) c.self.view_is record {
      index = c.self.inside.turn.first.source;
      line = step.0;
      goes = step.1;
    }
