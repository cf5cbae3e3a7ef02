use Rattle.std.specs.Option.{option_map}
use Rattle.text_values.proofs.Chains.{put_then, put_same}
use Rattle.capture_text.specs.Window.{bound_seen}
use Rattle.capture_text.specs.Listed.{listed_loss}
use Rattle.capture_text.proofs.SaidNumbers.{losses_more}
use Rattle.capture_text.proofs.losses.put_losses.Goals as goal

pub loop-number-preserved : goal.loop-number-preserved
loop-number-preserved g c =
    put_same _ _
    (losses_more (listed_loss c.args.form (option_map bound_seen c.args.bound) c.args.cpu.0) c.args.numbers.now
    c.loop-number.number-index _ c.loop-number-test.true)
    (put_then _ _ c.loop-number.invariant c.put_listed_loss.ensures)
