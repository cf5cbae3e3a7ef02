use Rattle.std.proofs.Common.{[], ◌∷◌, codes, refl, arith}
use Rattle.trace_script.specs.declared.kept.Kind.TheVariants.{Deliver}
use Rattle.trace_script.proofs.ValueLemmas.{below_limit, both_with}
use Rattle.trace_script.proofs.UsualLemmas.{begins_asked, delivery_joined}
use Rattle.trace_script.proofs.usual.delivery_line.Goals as goal

pub returns : goal.returns
returns c =
    let k = c.in_ok-collector.ensures in
    let x = c.in_ok-cpu.ensures in
    let f = c.in_ok-fill.ensures in
    let collector = c.in_ok-collector.collector.number in (
      collector ∷ [],
      c.in-Ok.ensures.items,
      begins_asked c.args.cpus c.args.collectors c.args.text.now c.in_ok-fill.fill.rest.now (collector ∷ []) Deliver
          c.in_ok-cpu.cpu.number c.in_ok-fill.fill.number c.asked.result
          (codes "d" ∷ k.digits ∷ x.field ∷ f.digits ∷ [])
          c.asked.ensures (
            k.digits,
            x.field,
            f.digits,
            refl,
            below_limit c.args.collectors k.digits collector k.spells (omega arith),
            x.spells,
            f.spells,
          )
          (delivery_joined k.digits x.field f.digits c.args.text.now _ c.in_ok-collector.collector.rest.now
          c.in_ok-cpu.cpu.rest.now c.in_ok-fill.fill.rest.now
          (both_with c.args.text.now 100 32 c.in-len2-up.len_at_least c.if-word-ne100.false c.if-space-ne32.false)
          k.are x.are f.are),
    )
