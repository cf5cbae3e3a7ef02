use Rattle.std.proofs.Common.{◌∙◌, ◌<◌, ap, subst, ℕ, map, length, slice_set, arith}
use Rattle.std.proofs.lemmas.List.{length-map, map-set}
use Rattle.live_listing.specs.Pages.{Reached, reached, reached_with, records_read, AreLinesOf}
use Rattle.live_listing.specs.Live.{reached_of}
use Rattle.live_listing.proofs.Cpus.{reached_there, number_there}
use Rattle.live_listing.proofs.listing.LiveListing.page.Goals as goal

pub returns-in-Ok : goal.returns-in-Ok
returns-in-Ok c =
    let read = c.in_ok-lines.ensures.read in
    let given = c.in-Ok.ensures.follows in
    let cpus = c.self.inside.cpus.items in
    let k = c.args.cpu.0 in
    let before = c.index_mut.result.now in
    let below : k < length cpus = omega (arith, c.requires, c.self.invariant.0) in
    let there = reached_there cpus k before below c.index_mut.ensures.value in
    let number = number_there cpus k before below c.self.invariant.2 c.index_mut.ensures.value in
    rw (← c.self.view_is) (
      given.0,
      given.1,
      record {
        there = rw length-map (omega (arith, below));
        value = read.0;
        is_page = read.1;
        lines = c.in_ok-lines.lines.items;
        are_lines = subst
            (λ (n : ℕ).
            AreLinesOf n c.in_ok-lines.lines.items (records_read (reached_of (map reached cpus) k) read.0))
            number
            (subst (λ (r : Reached). AreLinesOf before.cpu.0 c.in_ok-lines.lines.items (records_read r read.0)) there
            read.2);
        follows = given.2;
        reached_is = map-set reached cpus k c.read_page.new.self
            ∙ ap (slice_set (map reached cpus) k) (read.3 ∙ ap (λ (r : Reached). reached_with r read.0) there);
      },
    )
