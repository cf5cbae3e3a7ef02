use Rattle.std.specs.Option.{option_map}
use Rattle.text_values.proofs.Chains.{put_then, put_same}
use Rattle.capture_text.specs.Window.{bound_seen}
use Rattle.capture_text.specs.Listed.{listed_page}
use Rattle.capture_text.proofs.Damages.{lines_more}
use Rattle.capture_text.proofs.losses.put_damages.Goals as goal

pub loop-damaged-preserved : goal.loop-damaged-preserved
loop-damaged-preserved g c =
    put_same _ _
    (lines_more (listed_page c.args.form (option_map bound_seen c.args.bound) c.args.parts.now c.args.cpu.0)
    c.args.pages.now c.loop-damaged.damaged-index _ c.loop-damaged-test.true)
    (put_then _ _ c.loop-damaged.invariant c.put_listed_damage.ensures)
