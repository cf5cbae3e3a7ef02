use Rattle.std.proofs.Common.{◌∙◌, inl, inr, length, refl, subst, arith}
use Rattle.std.proofs.lemmas.List.{get_or-set_same}
use Rattle.std.proofs.lemmas.Option.{slice_get_read}
use Rattle.time_merge.specs.Heads.{head_list, HaveEnded}
use Rattle.time_merge.specs.Sources.{IsRankOf}
use Rattle.time_merge.proofs.Heads.{goes_first, have_ended, heads_go_on, heads_turn, on_both_err, on_both_ok, turned}
use Rattle.time_merge.proofs.merge.Merged.advance.Goals as goal

pub invariant_of-self : goal.invariant_of-self
invariant_of-self g c =
    let head = g.S.LineSource.head in
    let sources = c.self.inside.sources in
    let turn = c.self.inside.turn in
    let whole = sources.ok.0 in
    let len = c.len.ensures in
    let source = turn.first.source in
    let later = c.advance-outcome.new.self in
    let changed =
    c.index.ensures ∙ get_or-set_same sources.items source later c.index.result.now (omega arith) in
    heads_go_on head sources.items c.self.inside.order turn later c.rank_of-rank.result c.self.invariant (omega arith)
    (subst (λ s. IsRankOf source (head_list (head s)) c.rank_of-rank.result) changed c.rank_of-rank.ensures)
    (c.lasts.ensures.before c.if-lasts.true) (c.lasts.ensures.some c.if-lasts.true)

pub invariant_of-self-2 : goal.invariant_of-self-2
invariant_of-self-2 g c =
    let head = g.S.LineSource.head in
    let sources = c.self.inside.sources in
    let turn = c.self.inside.turn in
    let whole = sources.ok.0 in
    let few = c.len.type_inv in
    let len = c.len.ensures in
    let source = turn.first.source in
    let later = c.advance-outcome.new.self in
    let changed =
    c.index.ensures ∙ get_or-set_same sources.items source later c.index.result.now (omega arith) in
    heads_turn head sources.items c.self.inside.order c.turn-self-inside.new.self turn c.turn-self-inside.result later
    c.rank_of-rank.result c.self.invariant (omega arith)
    (subst (λ s. IsRankOf source (head_list (head s)) c.rank_of-rank.result) changed c.rank_of-rank.ensures)
    c.turn-self-inside.ensures

pub returns-then-source-len-clause-goes : goal.returns-then-source-len-clause-goes
returns-then-source-len-clause-goes g c =
    let head = g.S.LineSource.head in
    let sources = c.self.inside.sources in
    let whole = sources.ok.0 in
    let len = c.len.ensures in
    inl (
      subst (HaveEnded head) c.self.view_is
          (have_ended head sources.items c.self.inside.order c.self.inside.turn c.self.invariant (omega arith)),
      refl,
    )

pub returns-then-lasts-clause-goes : goal.returns-then-lasts-clause-goes
returns-then-lasts-clause-goes g c =
    let head = g.S.LineSource.head in
    let sources = c.self.inside.sources in
    let turn = c.self.inside.turn in
    let whole = sources.ok.0 in
    let few = c.len.type_inv in
    let len = c.len.ensures in
    let at =
    slice_get_read sources.items (length sources.items) turn.first.source c.index_mut.result.now refl (omega arith)
    c.index_mut.ensures.value in
    let step =
    goes_first head sources.items c.self.inside.order turn c.index_mut.result.now c.self.invariant (omega arith)
    (omega arith) at in
    on_both_ok c.advance-outcome.result _ _ _
    (λ goes ends. inr
    (turned sources.items c.args.self.now turn.first.source c.index_mut.result.now c.advance-outcome.new.self step.0
    c.self.view_is step.1 (goes step.0 step.1.head_is, ends step.0 step.1.head_is)))
    c.advance-outcome.ensures.goes c.advance-outcome.ensures.ends

pub returns-clause-goes : goal.returns-clause-goes
returns-clause-goes g c =
    let head = g.S.LineSource.head in
    let sources = c.self.inside.sources in
    let turn = c.self.inside.turn in
    let whole = sources.ok.0 in
    let few = c.len.type_inv in
    let len = c.len.ensures in
    let at =
    slice_get_read sources.items (length sources.items) turn.first.source c.index_mut.result.now refl (omega arith)
    c.index_mut.ensures.value in
    let step =
    goes_first head sources.items c.self.inside.order turn c.index_mut.result.now c.self.invariant (omega arith)
    (omega arith) at in
    on_both_ok c.advance-outcome.result _ _ _
    (λ goes ends. inr
    (turned sources.items c.args.self.now turn.first.source c.index_mut.result.now c.advance-outcome.new.self step.0
    c.self.view_is step.1 (goes step.0 step.1.head_is, ends step.0 step.1.head_is)))
    c.advance-outcome.ensures.goes c.advance-outcome.ensures.ends

pub returns-clause-stops : goal.returns-clause-stops
returns-clause-stops g c =
    let head = g.S.LineSource.head in
    let sources = c.self.inside.sources in
    let turn = c.self.inside.turn in
    let whole = sources.ok.0 in
    let few = c.len.type_inv in
    let len = c.len.ensures in
    let at =
    slice_get_read sources.items (length sources.items) turn.first.source c.index_mut.result.now refl (omega arith)
    c.index_mut.ensures.value in
    let step =
    goes_first head sources.items c.self.inside.order turn c.index_mut.result.now c.self.invariant (omega arith)
    (omega arith) at in
    on_both_err c.advance-outcome.result _ _ _
    (λ stops none.
    turned sources.items c.args.self.now turn.first.source c.index_mut.result.now c.advance-outcome.new.self step.0
    c.self.view_is step.1 (stops, none))
    c.advance-outcome.ensures.stops c.advance-outcome.ensures.none
