use Rattle.std.proofs.Common.{rules, ◌≡◌, sym, ap, ◌∙◌, subst, arith}
use Rattle.link_marks.specs.declared.link.Mark.TheVariants.{Normal}
use Rattle.link_marks.specs.ModelLinks.{link_of}
use Rattle.ring_core.specs.Value.{CoreValue}
use Rattle.ring_core.specs.Steps.{IsReachedCore}
use Rattle.ring_core.proofs.ReaderSteps.{turn_fits, fill_fits, link_loaded, SeesBy, sees, makes_read}
use Rattle.ring_core.proofs.ring.Core.load_head.Goals as goal

pub head_seen-requires-clause-fits : goal.head_seen-requires-clause-fits
head_seen-requires-clause-fits c =
    fill_fits c.args.self.now c.requires.ring c.self.inside.reader.hint (link_of c.link_into-link.result)
    c.link_into-link.ensures

pub head_seen-requires-clause-passed : goal.head_seen-requires-clause-passed
unfolding IsReachedCore
head_seen-requires-clause-passed c is other =
    let v : CoreValue = c.args.self.now in
    let hint : c.self.inside.reader.hint ≡ v.reader.hint = ap (λ (w : CoreValue). w.reader.hint) c.self.view_is in
    let turn =
    turn_fits v c.requires.ring c.link_into-link.result.page c.link_into-link.result.fill
    (link_loaded v c.self.inside.reader.hint c.link_into-link.result Normal hint c.link_into-link.ensures is)
    (λ e. other (e ∙ sym hint)) in
    let positions = c.positions.ensures.positions in omega arith

pub returns-in-Head : goal.returns-in-Head
returns-in-Head c = let seen = c.head_seen.ensures in makes_read _ _ _ _
    (λ n size start state core.
    rw c.reader_at.ensures (subst (SeesBy n size start c.args.self.now state c.args.body) c.in-Head.is
    (sees n size start c.args.self.now state core c.args.body c.self.inside.reader.hint c.positions.result
    c.link_into-link.result c.head_seen.result
    c.requires.phase (ap (λ (w : CoreValue). w.reader.hint) c.self.view_is) c.positions.ensures.positions
    c.link_into-link.ensures seen.header seen.update seen.owed seen.passed))) (search rules) (search rules)

pub returns-in-Unfinished : goal.returns-in-Unfinished
returns-in-Unfinished c = let seen = c.head_seen.ensures in makes_read _ _ _ _
    (λ n size start state core.
    rw c.reader_at-in-Unfinished.ensures
    (subst (SeesBy n size start c.args.self.now state c.args.body) c.in-Unfinished.is
    (sees n size start c.args.self.now state core c.args.body c.self.inside.reader.hint c.positions.result
    c.link_into-link.result c.head_seen.result
    c.requires.phase (ap (λ (w : CoreValue). w.reader.hint) c.self.view_is) c.positions.ensures.positions
    c.link_into-link.ensures seen.header seen.update seen.owed seen.passed))) (search rules) (search rules)

pub returns-in-Passed : goal.returns-in-Passed
returns-in-Passed c = let seen = c.head_seen.ensures in makes_read _ _ _ _
    (λ n size start state core.
    rw c.reader_at-in-Passed.ensures (subst (SeesBy n size start c.args.self.now state c.args.body) c.in-Passed.is
    (sees n size start c.args.self.now state core c.args.body c.self.inside.reader.hint c.positions.result
    c.link_into-link.result c.head_seen.result
    c.requires.phase (ap (λ (w : CoreValue). w.reader.hint) c.self.view_is) c.positions.ensures.positions
    c.link_into-link.ensures seen.header seen.update seen.owed seen.passed))) (search rules) (search rules)
