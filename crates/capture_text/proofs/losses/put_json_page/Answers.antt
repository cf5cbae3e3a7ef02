use Rattle.std.specs.Fmt.{decimal}
use Rattle.dump_command.specs.ImageFaults.{reader_fault_text}
use Rattle.text_values.proofs.Chains.{put_as}
use Rattle.capture_text.proofs.Pieces.{json_page}
use Rattle.capture_text.proofs.losses.put_json_page.Goals as goal

pub returns : goal.returns
returns g c = λ start text has.
    let damaged = c.args.damaged.now in
    let front = c.put_between-3.ensures start _
    (c.put_between-2.ensures start _ (c.put_between.ensures start text has)) in
    put_as start _ _ _
    (json_page text (decimal c.args.cpu) (decimal damaged.number.0) (decimal damaged.page) (decimal c.args.offset)
    (reader_fault_text damaged.fault))
    (c.put-2.ensures start _
    (c.put_fault.ensures start _ (c.put.ensures start _ (c.put_offset.ensures start _ front))))
