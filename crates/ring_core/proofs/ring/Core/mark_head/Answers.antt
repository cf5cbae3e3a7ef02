use Rattle.std.proofs.Common.{◌≡◌, ℕ, suc, ◌+◌, ◌-◌, ◌↔◌, IsTrue, true, length, refl, sym, ap, ◌∙◌, subst, arith}
use Rattle.trace_model.specs.Links.{Link, normal_link, header_link}
use Rattle.trace_model.specs.Ring.{link_into, links_with}
use Rattle.trace_model.specs.Steps.{MayContinue}
use Rattle.nested_writer.specs.Stack.{opened}
use Rattle.ring_frames.specs.declared.phase.Phase.TheVariants.{Marking}
use Rattle.ring_frames.specs.declared.phase.Role.{Role}
use Rattle.ring_frames.specs.declared.phase.Role.TheVariants.{Helper}
use Rattle.ring_frames.specs.Value.{role_of}
use Rattle.ring_core.specs.Value.{CoreValue}
use Rattle.ring_core.proofs.HeadMoves.{is_late, gone_on, round_mark, mark_exchanged}
use Rattle.ring_core.specs.Steps.{IsReachedCore}
use Rattle.ring_core.proofs.ring.Core.mark_head.Goals as goal

pub begin_again-requires-clause-late : goal.begin_again-requires-clause-late
begin_again-requires-clause-late c =
    let (helps, passed) = c.stops.ensures.stops c.if-stops.true in
    is_late c.args.self.now (Marking Helper c.args.noted c.args.page c.args.next) c.args.noted
    (c.requires.phase ∙ ap (λ (r : Role). Marking r c.args.noted c.args.page c.args.next) helps) refl (λ own. own)
    (λ e. passed (e ∙ sym (ap (λ (x : CoreValue). opened x.stack) c.self.view_is)))

pub overflow_sub-after_lost : goal.overflow_sub-after_lost
unfolding IsReachedCore
overflow_sub-after_lost c =
    let (n, size, start, s, core) = c.requires.ring in
    let round =
    round_mark n size start c.args.self.now s core c.requires.top c.args.role c.args.noted c.args.page c.args.next
    c.requires.phase in
    omega (arith, c.positions.ensures.positions)

pub returns-clause-makes : goal.returns-clause-makes
returns-clause-makes c = λ n size start s old.
    let v = c.args.self.now in
    let round =
    round_mark n size start v s old c.requires.top c.args.role c.args.noted c.args.page c.args.next
    c.requires.phase in
    let wide = c.positions.ensures.positions in
    let lost : ℕ = c.args.noted - c.positions.result in
    let sum : lost + length v.links ≡ c.args.noted = omega arith in
    let after_lost : ℕ = lost + 1 in
    let is : after_lost ≡ suc lost = omega arith in
    let with_link : ℕ → Link → CoreValue =
    λ (f : ℕ) (l : Link). record v { links = links_with (length v.links) v.links f l } in
    let met : IsTrue c.compare_exchange.result
    ↔ (link_into (length v.links) v.links after_lost ≡ normal_link c.args.next after_lost) = (
      (λ yes. c.compare_exchange.ensures.met.0 yes ∙ c.normal.ensures),
      (λ e. c.compare_exchange.ensures.met.1 (e ∙ sym c.normal.ensures)),
    ) in
    let exchanged : c.compare_exchange.result ≡ true
    → c.compare_exchange.new.self ≡ with_link after_lost (header_link c.args.next after_lost) =
    λ yes. c.compare_exchange.ensures.exchanged yes ∙ ap (with_link after_lost) c.header.ensures in
    gone_on n size start s c.compare_exchange.new.self c.go_on.new.self c.after_next.result c.go_on.result
    c.go_on.ensures.answer c.go_on.ensures.phase
    (mark_exchanged n size start v s old c.requires.top c.args.role c.args.noted c.args.page c.args.next lost
    c.after_next.result c.compare_exchange.result c.compare_exchange.new.self c.requires.phase
    (subst (MayContinue (role_of c.args.role) c.args.noted) (ap (λ (x : CoreValue). opened x.stack) c.self.view_is)
    (c.stops.ensures.goes_on c.if-stops.false)) sum c.after_next.ensures
    (subst
    (λ (f : ℕ). IsTrue c.compare_exchange.result ↔ (link_into (length v.links) v.links f ≡ normal_link c.args.next f))
    is met)
    (subst
    (λ (f : ℕ).
    c.compare_exchange.result ≡ true → c.compare_exchange.new.self ≡ with_link f (header_link c.args.next f)) is
    exchanged)
    c.compare_exchange.ensures.kept)
