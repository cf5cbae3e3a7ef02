use Rattle.rows.proofs.rings.value.Value.new.Goals as goal

pub invariant_of-result : goal.invariant_of-result
invariant_of-result c =
    let (core, starts, is) = c.in_ok-core.ensures.fresh in
    (c.in_ok-core.ensures.ring, is.shows.frames.size_is)
