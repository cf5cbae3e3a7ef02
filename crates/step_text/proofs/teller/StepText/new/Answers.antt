use Rattle.std.proofs.Common.{◌∙◌, ◌<◌, ◌++◌, Some, length, sym, ap, arith}
use Rattle.std.proofs.lemmas.Option.{slice_get-get_or}
use Rattle.ring_model.proofs.partition.OneNewRing.{new_ring_is_one}
use Rattle.world_model.proofs.Lookups.{get_map}
use Rattle.step_model.specs.RunTexts.{new_rings_text, trace_line}
use Rattle.step_text.specs.Known.{known_in, ring_in}
use Rattle.step_text.proofs.Telling.{ring_of, ring_is}
use Rattle.step_text.proofs.teller.StepText.new.Goals as goal

-- a new ring has pages, since there is one
pub put_new_rings-requires : goal.put_new_rings-requires
put_new_rings-requires c =
    let n = c.args.script.now.pages in
    let start = c.args.script.now.start in
    let (new, is_new, only) = new_ring_is_one n start c.in_ok-known.ensures.pages in
    let known = c.in_ok-known.ensures.known new is_new in
    omega (arith, ap length known.order, is_new.pages, c.in_ok-known.ensures.pages)

pub returns-clause-text : goal.returns-clause-text
returns-clause-text c lanes count new =
    c.in_ok-put_new_rings.ensures c.args.script.now.pages c.args.script.now.start lanes
    (count ∙ sym c.cpus.ensures.cpus) new c.in_ok-known.ensures.known
    ∙ ap (λ text. text ++ new_rings_text lanes)
    (c.in_ok-put_trace_line.ensures ∙ ap (λ text. text ++ trace_line c.args.script.now) c.new-text.ensures.items)

pub returns-clause-knows : goal.returns-clause-knows
returns-clause-knows c cpu lane below new =
    let within : cpu < length c.in_ok-rings.rings.items =
    omega (arith, c.in_ok-rings.ensures.count, c.cpus-2.ensures.cpus) in
    let at = slice_get-get_or c.in_ok-rings.rings.items cpu c.in_ok-known.known within in
    get_map ring_of c.in_ok-rings.rings.items cpu _ at
    ∙ ap (λ known. Some (ring_in known)) (c.in_ok-rings.ensures.each cpu c.in_ok-known.known within)
    ∙ ap Some (ring_is (known_in c.in_ok-known.known) lane.core (c.in_ok-known.ensures.known lane.core new.0))
