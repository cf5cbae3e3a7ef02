use Rattle.std.proofs.Common.{ℕ, ◌<◌, List, [], ◌∷◌, ◌++◌, sym, ap, subst, ◌∙◌, All}
use Rattle.std.proofs.lemmas.List.Elements.{All-head, All-tail}
use Rattle.line_follower.specs.declared.lines.Said.{Said}
use Rattle.line_follower.specs.declared.whole.Event.{Event as Happening}
use Rattle.line_follower.specs.Following.{nothing_read}
use Rattle.line_follower.specs.Events.{cpu_of, event_seen}
use Rattle.line_follower.proofs.Runs.{all_is_followed}
use Rattle.line_follower.proofs.Events.{run_more, given_more, parted_more, all_parted, none_left}
use Rattle.line_follower.proofs.whole.follow.Goals as goal

pub happen-requires : goal.happen-requires
happen-requires g c =
    let before = c.loop-event.invariant in
    subst (λ (count : ℕ). cpu_of c.in-Some.event < count) (sym before.cpus)
    (All-head (λ (event : Happening g.row.T.Denot). cpu_of event < c.args.count) c.in-Some.event
    c.pop_front.new.self.items
    (subst (All (λ (event : Happening g.row.T.Denot). cpu_of event < c.args.count)) c.in-Some.ensures.items
    before.there))

pub loop-event-preserved : goal.loop-event-preserved
loop-event-preserved g c =
    let before = c.loop-event.invariant in
    let event = c.in-Some.event in
    let given = c.in_ok-take_final.ensures.given in
    record {
      steps = before.steps ++ (event_seen event, given.0) ∷ [];
      run =
          run_more (nothing_read c.args.count) before.steps c.loop-event.follower (event_seen event) given.0
          c.take_final.new.self before.run
          record {
            taken = c.happen.new.follower;
            takes = c.in_ok-happen.ensures.taken;
            gives = given.2;
            none = c.in_ok-take_final.ensures.none;
          };
      parted =
          parted_more before.steps event given.0 c.loop-event.events.items c.pop_front.new.self.items _
          c.in-Some.ensures.items before.parted;
      items =
          given.1 ∙ ap (λ (items : List (Said g.row.T.Denot)). items ++ given.0) before.items
          ∙ sym (given_more before.steps (event_seen event) given.0);
      there =
          All-tail (λ (e : Happening g.row.T.Denot). cpu_of e < c.args.count) event c.pop_front.new.self.items
          (subst (All (λ (e : Happening g.row.T.Denot). cpu_of e < c.args.count)) c.in-Some.ensures.items before.there);
      cpus = c.take_final.ensures.count ∙ c.happen.ensures.count ∙ before.cpus;
    }

pub returns : goal.returns
returns g c =
    let before = c.loop-event.invariant in
    let given = c.in_ok-take_rest.ensures.given in
    let none =
    none_left c.loop-event.events.items (c.in_default.ensures.items ∙ c.in_default.ensures.rest) in (
      before.steps,
      given.0,
      all_parted before.steps c.loop-event.events.items _ none before.parted,
      given.1 ∙ ap (λ (items : List (Said g.row.T.Denot)). items ++ given.0) before.items,
      all_is_followed c.args.count before.steps given.0
          record {
            end = c.loop-event.follower;
            run = before.run;
            left = c.take_rest.new.self;
            gives = given.2;
            none = c.in_ok-take_rest.ensures.none;
          },
    )
