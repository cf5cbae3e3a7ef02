use Rattle.std.proofs.Common.{◌∷◌, List, ℕ, ◌∙◌, ap, arith}
use Rattle.trace_script.proofs.ValueLemmas.{cpu_read, first_and_rest}
use Rattle.trace_script.proofs.values.cpu_cut.Goals as goal

pub returns : goal.returns
returns c =
    let number = c.in_ok-cpu.ensures in
    record {
      field = 99 ∷ number.digits;
      are =
          first_and_rest c.args.text.now 99 (omega arith) c.if-letter-ne99.false
          ∙ ap (λ (bs : List ℕ). 99 ∷ bs) number.are;
      spells = cpu_read c.args.cpus number.digits c.in_ok-cpu.cpu.number number.spells (omega arith);
      small = omega arith;
    }
