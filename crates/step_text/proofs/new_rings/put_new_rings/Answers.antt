use Rattle.std.proofs.Common.{◌∙◌, ◌++◌, ◌<◌, ◌≤◌, length, flat_map, sym, ap, refl, append-nil, drop_of_length-le}
use Rattle.std.proofs.Common.{arith}
use Rattle.std.specs.List.{enumerate_from}
use Rattle.step_model.specs.RunTexts.{new_ring_text}
use Rattle.step_text.proofs.OneRingMore.{one_ring_more}
use Rattle.step_text.proofs.new_rings.put_new_rings.Goals as goal

pub loop-cpu-init : goal.loop-cpu-init
loop-cpu-init c n start lanes count new known = refl

pub loop-cpu-preserved : goal.loop-cpu-preserved
loop-cpu-preserved c n start lanes count new known =
    let within : c.loop-cpu.cpu < length lanes = omega arith in
    one_ring_more n start lanes c.loop-cpu.cpu c.loop-cpu.out.items c.put_new_ring.new.out.items _ within new
    (λ core is_start.
    c.in_ok-put_new_ring.ensures n start core is_start (known core is_start)
    ∙ ap (λ cpu. c.loop-cpu.out.items ++ new_ring_text cpu core) c.from.ensures)
    (c.loop-cpu.invariant n start lanes count new known)

pub returns : goal.returns
returns c n start lanes count new known =
    let past : length lanes ≤ c.loop-cpu.cpu = omega arith in
    sym (append-nil c.loop-cpu.out.items)
    ∙ ap
    (λ left.
    c.loop-cpu.out.items
    ++ flat_map (λ pair. new_ring_text pair.0 pair.1.core) (enumerate_from c.loop-cpu.cpu left))
    (sym (drop_of_length-le lanes past))
    ∙ c.loop-cpu.invariant n start lanes count new known
