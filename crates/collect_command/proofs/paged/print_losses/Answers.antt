use Rattle.std.proofs.Common.{◌∙◌, ◌++◌, List, ℕ, ap, subst, append_assoc}
use Rattle.text_values.specs.Putting.{HasPut}
use Rattle.capture_text.specs.Printed.{bounds_of}
use Rattle.collect_command.specs.Paged.{raw_runs, raw_unknown, raw_damaged}
use Rattle.collect_command.proofs.paged.print_losses.Goals as goal

pub returns : goal.returns
returns g c raws are start text put =
    let form = c.args.printer.now.form in
    let bounds = bounds_of c.args.printer.now in
    let runs = raw_runs form bounds raws in
    let unknown = raw_unknown form bounds raws in
    let damaged = raw_damaged form bounds c.args.size raws in
    let all =
    c.print_damaged.ensures raws are start ((text ++ runs) ++ unknown)
    (c.print_unknown.ensures raws are start (text ++ runs) (c.print_runs.ensures raws are start text put)) in
    subst (λ (t : List ℕ). HasPut start t c.print_damaged.new.out)
    (ap (λ (t : List ℕ). t ++ damaged) (append_assoc text runs unknown)
    ∙ append_assoc text (runs ++ unknown) damaged) all
