use Rattle.std.specs.Fmt.{decimal}
use Rattle.text_values.proofs.Chains.{put_as}
use Rattle.capture_text.proofs.Pieces.{json_run}
use Rattle.capture_text.proofs.losses.put_json_run.Goals as goal

pub returns : goal.returns
returns g c = λ start text has.
    put_as start _ _ _ (json_run text (decimal c.args.cpu) (decimal c.args.first.0) (decimal c.args.last.0))
    (c.put_between-2.ensures start _ (c.put_number.ensures start _ (c.put_between.ensures start text has)))
