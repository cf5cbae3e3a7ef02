use Rattle.std.proofs.Common.{◌++◌, ap, ◌∙◌}
use Rattle.std.specs.Prelude.{ℕ}
use Rattle.std.specs.Fmt.{decimal}
use Rattle.text_values.proofs.Chains.{put_as}
use Rattle.capture_text.specs.declared.form.Form.TheVariants.{Json}
use Rattle.capture_text.specs.LossSums.{sum_line}
use Rattle.capture_text.proofs.LossSums.{json_sum}
use Rattle.capture_text.proofs.sums.put_json_sum.Goals as goal

pub returns : goal.returns
returns g c = λ start text has.
    let ring = c.args.ring in
    put_as start _ _ _
    (json_sum text (decimal c.from.result) (decimal c.args.missing) (decimal c.args.unknown) (decimal ring.overrun)
    (decimal ring.commit_overrun) (decimal ring.dropped)
    ∙ ap (λ (n : ℕ). text ++ sum_line Json n c.args.missing c.args.unknown ring) c.from.ensures)
    (c.put.ensures start _ (c.put_numbered-5.ensures start _ (c.put_numbered-4.ensures start _
    (c.put_numbered-3.ensures start _ (c.put_numbered-2.ensures start _ (c.put_wide.ensures start _
    (c.put_numbered.ensures start text has)))))))
