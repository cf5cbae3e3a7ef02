use Rattle.std.proofs.Common.{rules, ◌≡◌, ◌≢◌, ℕ, ◌+◌, ◌-◌, ◌<◌, ◌≤◌, length, set, Some, None, sym, ap, ◌∙◌, subst}
use Rattle.std.proofs.Common.{arith}
use Rattle.trace_model.specs.Links.{Link, header_link, normal_link}
use Rattle.trace_model.specs.Ring.{link_into, links_with}
use Rattle.link_marks.specs.ModelLinks.{link_of}
use Rattle.std.specs.List.{slice_get}
use Rattle.std.proofs.lemmas.List.{length-map}
use Rattle.trace_model.specs.Steps as model
use Rattle.nested_writer.specs.Stack.{blank_page}
use Rattle.ring_frames.specs.declared.answer.Answer.{Answer}
use Rattle.ring_frames.specs.declared.answer.Answer.TheVariants.{Taken}
use Rattle.ring_core.specs.Value.{CoreValue}
use Rattle.ring_core.specs.Steps.{IsReachedCore, IsStep}
use Rattle.ring_core.specs.Taking.{with_spare_home, with_head_taken}
use Rattle.ring_core.proofs.Taking.{turn_has_number, fails, takes, value_after, homes_low, written_of, never_none}
use Rattle.ring_core.proofs.Taking.{expected_low, numbers_low}
use Rattle.ring_core.proofs.ring.Core.swap_head.Goals as goal

pub overflow_add-fill : goal.overflow_add-fill
unfolding IsReachedCore
overflow_add-fill c = let (n, size, start, state, core) = c.requires.ring in
    let below = turn_has_number n size start c.args.self.now state core c.args.page c.args.fill c.requires.phase in
    let positions = c.positions.ensures.positions in let wide = core.shows.positions in omega arith

pub returns-then-not-compare_exchange : goal.returns-then-not-compare_exchange
returns-then-not-compare_exchange c = record {
  step = λ n size start state core.
      let v : CoreValue = c.args.self.now in
      let ne : link_into (length v.links) v.links c.args.fill ≢ header_link c.args.page c.args.fill =
      λ e.
      (let met = c.compare_exchange.ensures.met.1 (e ∙ sym c.header.ensures) in
      let not = c.if-not-compare_exchange.true in
      cc) in
      rw (c.reader_at.ensures, c.compare_exchange.ensures.kept c.if-not-compare_exchange.true)
      (fails n size start v state core c.args.page c.args.fill c.requires.phase c.args.body ne);
  given_back = search rules;
  stack = search rules;
}

pub bring_home-requires : goal.bring_home-requires
unfolding IsReachedCore
bring_home-requires c =
    let (n, size, start, state, core) = c.requires.ring in
    let v : CoreValue = c.args.self.now in
    let wide : length v.homes ≡ length v.links + 1 =
    subst (λ (w : CoreValue). length w.homes ≡ length w.links + 1) c.self.view_is
    (c.self.invariant.homes ∙ ap (λ (k : ℕ). k + 1) (sym (length-map c.self.inside.links.items link_of))) in
    let low =
    homes_low n size start v state core c.args.page c.args.fill c.requires.phase
    (c.compare_exchange.ensures.met.0 c.if-not-compare_exchange.false ∙ c.header.ensures) wide in
    let exchanged = sym (c.compare_exchange.ensures.exchanged c.if-not-compare_exchange.false) in
    record {
      spare = subst (λ (x : CoreValue). x.spare < length x.homes) exchanged low.0;
      page = subst (λ (x : CoreValue). c.args.page < length x.homes) exchanged low.1;
    }

pub take-requires : goal.take-requires
unfolding IsReachedCore
take-requires c =
    let (n, size, start, state, core) = c.requires.ring in
    let v : CoreValue = c.args.self.now in
    let link = c.compare_exchange.ensures.met.0 c.if-not-compare_exchange.false ∙ c.header.ensures in
    let gone =
    subst
    (λ (x : CoreValue).
    slice_get (with_spare_home x (length c.args.body)) c.args.page ≡ Some c.bring_home.result)
    (c.compare_exchange.ensures.exchanged c.if-not-compare_exchange.false) c.bring_home.ensures.page in
    let w =
    written_of n size start v state core c.args.page c.args.fill c.requires.phase link
    (Some (blank_page (length c.args.body) 0 0)) c.in-Some.taken (gone ∙ ap Some c.in-Some.is) in
    let low = expected_low n size start v state core c.args.page c.args.fill c.requires.phase link c.in-Some.taken w in
    record {
      next = let below = turn_has_number n size start v state core c.args.page c.args.fill c.requires.phase in
          let positions = c.positions.ensures.positions in
          let some = c.positions.ensures.some in
          let wide = core.shows.positions in
          omega arith;
      expected =
          subst (λ (x : CoreValue). x.reader.expected ≤ c.in-Some.taken.first) (sym (c.bring_home.ensures.homes))
          (subst (λ (x : CoreValue). x.reader.expected ≤ c.in-Some.taken.first)
          (sym (c.compare_exchange.ensures.exchanged c.if-not-compare_exchange.false)) low);
      numbers =
          let few =
          numbers_low n size start v state core c.args.page c.args.fill c.requires.phase link c.in-Some.taken w in
          omega arith;
    }

pub unreachable-requires : goal.unreachable-requires
unfolding IsReachedCore
unreachable-requires c =
    let (n, size, start, state, core) = c.requires.ring in
    let gone =
    subst
    (λ (x : CoreValue).
    slice_get (with_spare_home x (length c.args.body)) c.args.page ≡ Some c.bring_home.result)
    (c.compare_exchange.ensures.exchanged c.if-not-compare_exchange.false) c.bring_home.ensures.page in
    never_none n size start c.args.self.now state core c.args.page c.args.fill c.requires.phase
    (c.compare_exchange.ensures.met.0 c.if-not-compare_exchange.false ∙ c.header.ensures)
    (Some (blank_page (length c.args.body) 0 0)) (gone ∙ ap Some c.in-None.is)

pub returns : goal.returns
returns c = record {
  step = λ n size start state core.
      let v : CoreValue = c.args.self.now in
      let at = c.requires.phase in
      let link = c.compare_exchange.ensures.met.0 c.if-not-compare_exchange.false ∙ c.header.ensures in
      let wide : length v.homes ≡ length v.links + 1 =
      subst (λ (w : CoreValue). length w.homes ≡ length w.links + 1) c.self.view_is
      (c.self.invariant.homes ∙ ap (λ (k : ℕ). k + 1) (sym (length-map c.self.inside.links.items link_of))) in
      let gone =
      subst
      (λ (x : CoreValue).
      slice_get (with_spare_home x (length c.args.body)) c.args.page ≡ Some c.bring_home.result)
      (c.compare_exchange.ensures.exchanged c.if-not-compare_exchange.false) c.bring_home.ensures.page in
      let w =
      written_of n size start v state core c.args.page c.args.fill at link
      (Some (blank_page (length c.args.body) 0 0)) c.in-Some.taken (gone ∙ ap Some c.in-Some.is) in
      let behind : Link = link_of c.normal-behind.result in
      let spare : c.self.inside.spare ≡ v.spare = ap (λ (x : CoreValue). x.spare) c.self.view_is in
      let behind_is : behind ≡ normal_link v.spare (c.args.fill + length v.links) =
      c.normal-behind.ensures ∙ (λ i. normal_link (spare i) (c.args.fill + c.positions.ensures.positions i)) in
      let expected : ℕ = c.in-Some.taken.first + c.in-Some.taken.count in
      let x : CoreValue = record v { links = links_with (length v.links) v.links c.args.fill behind } in
      let homed =
      c.bring_home.ensures.homes
      ∙ ap
      (λ (y : CoreValue). let z : CoreValue =
      record y { homes = set (with_spare_home y (length c.args.body)) c.args.page None } in
      z) (c.compare_exchange.ensures.exchanged c.if-not-compare_exchange.false) in
      let new : c.take.new.self ≡ value_after v behind (length c.args.body) c.args.page c.args.fill expected =
      c.take.ensures.swapped ∙ ap (λ (y : CoreValue). with_head_taken y c.args.page c.args.fill expected) homed in
      let answer : c.take.result ≡ Taken c.in-Some.taken (c.in-Some.taken.first - v.reader.expected) =
      c.take.ensures.taken
      ∙ ap (λ (y : CoreValue). Taken c.in-Some.taken (c.in-Some.taken.first - y.reader.expected)) homed in
      subst (λ (r : Answer). IsStep n size start state model.reads r c.take.new.self) (sym answer)
      (subst (IsStep n size start state model.reads (Taken c.in-Some.taken (c.in-Some.taken.first - v.reader.expected)))
      (sym new)
      (takes n size start v state core c.args.page c.args.fill at link behind (length c.args.body) c.in-Some.taken
      behind_is wide c.requires.size w));
  given_back = search rules;
  stack = search rules;
}
