use Rattle.std.proofs.Common.{◌≡◌, ◌<◌, ◌-◌, ℕ, sym, ap, ◌∙◌, arith, vec_len}
use Rattle.std.proofs.lemmas.Grind.{common_steps}
use Rattle.trace_model.specs.Image.{counted}
use Rattle.capture.specs.files.Losses.{missed_in, counted_losses, unknown_losses}
use Rattle.capture.proofs.LossSums.{capture-missed, capture-fits, capture-unknown, capture-whole, capture-broken}
use Rattle.capture.proofs.LossSums.{loss-known, loss-not-one, loss-damaged, loss-low}
use Rattle.capture.proofs.files.settle.loss_in.Goals as goal
use Rattle.capture.proofs.files.settle.loss_in.Goals.{then-len-ne1-via-then-len-ne1}
use Rattle.capture.proofs.files.settle.loss_in.Goals.{then-len-ne1-via-else-len-ne1+then-not-is_empty}

pub returns-then-len-ne1 : goal.returns-then-len-ne1
returns-then-len-ne1 c = λ pages is.
    elim c.then-len-ne1.branch [
      | then-len-ne1-via-then-len-ne1 w ↦
          let ok = c.args.capture.now.unknown.ok.0 in
          sym (loss-not-one c.args.overrun pages
          (λ one.
          w.if-len-ne1.true (let same : c.len.result ≡ 1 =
          omega (
            arith,
            c.len.ensures,
            ok,
            one,
            capture-unknown c.args.capture.now pages is,
          ) in
          same)))
      | then-len-ne1-via-else-len-ne1+then-not-is_empty w ↦
          let ok = c.args.capture.now.damaged.ok.0 in
          let some : 0 < vec_len c.args.capture.now.damaged = grind (arith, common_steps) in
          sym (loss-damaged c.args.overrun pages (capture-broken c.args.capture.now pages is (omega (arith, some, ok))))
    ]

pub missed_of_all-counted-requires : goal.missed_of_all-counted-requires
missed_of_all-counted-requires c =
    let is = c.requires.1 in
    let same = ap missed_in c.as_slice.ensures.value in
    omega (arith, same, capture-fits c.args.capture.now c.requires.0 is, is.fit.numbers)

pub overflow_sub-counted : goal.overflow_sub-counted
overflow_sub-counted c =
    let is = c.requires.1 in
    let ok = c.args.capture.now.unknown.ok.0 in
    let same = ap missed_in c.as_slice.ensures.value in
    omega (
      arith,
      same,
      c.missed_of_all-counted.ensures,
      c.len.ensures,
      ok,
      c.if-len-ne1.false,
      capture-unknown c.args.capture.now c.requires.0 is,
      capture-missed c.args.capture.now c.requires.0 is,
    )

pub returns-then-counted-overrun : goal.returns-then-counted-overrun
returns-then-counted-overrun c = λ pages is.
    let ok = c.args.capture.now.unknown.ok.0 in
    let ok_damaged = c.args.capture.now.damaged.ok.0 in
    let same = ap missed_in c.as_slice.ensures.value in
    let none : vec_len c.args.capture.now.damaged ≡ 0 = grind (arith, common_steps) in
    let one : unknown_losses pages ≡ 1 =
    omega (arith, c.len.ensures, ok, c.if-len-ne1.false, capture-unknown c.args.capture.now pages is) in
    let total : c.missed_of_all-counted.result - 1 ≡ counted_losses pages =
    omega (arith, same, c.missed_of_all-counted.ensures, one, capture-missed c.args.capture.now pages is) in
    ap (λ (n : ℕ). counted (c.args.overrun - n)) total
    ∙ sym (loss-known c.args.overrun pages one
    (capture-whole c.args.capture.now pages is (omega (arith, none, ok_damaged)))
    (omega (arith, total, c.if-counted-overrun.true)))

pub returns-else-counted-overrun : goal.returns-else-counted-overrun
returns-else-counted-overrun c = λ pages is.
    let ok = c.args.capture.now.unknown.ok.0 in
    let same = ap missed_in c.as_slice.ensures.value in
    let one : unknown_losses pages ≡ 1 =
    omega (arith, c.len.ensures, ok, c.if-len-ne1.false, capture-unknown c.args.capture.now pages is) in
    let total : c.missed_of_all-counted.result - 1 ≡ counted_losses pages =
    omega (arith, same, c.missed_of_all-counted.ensures, one, capture-missed c.args.capture.now pages is) in
    sym (loss-low c.args.overrun pages (omega (arith, total, c.if-counted-overrun.false)))
