use Rattle.std.specs.Option.{option_map}
use Rattle.trace_dat.specs.kernel_texts.Names.{event_seen}
use Rattle.text_values.proofs.Chains.{put_none, put_then, put_same}
use Rattle.capture_text.proofs.Events.{json_print_put, no_json_print_put}
use Rattle.capture_text.proofs.names.put_json_print.Goals as goal

pub returns-then-is_print : goal.returns-then-is_print
returns-then-is_print g c =
    put_same _ _
    (json_print_put (option_map event_seen c.args.event) c.args.bytes.now _ c.is_print.ensures c.if-is_print.true _
    c.print_text.ensures)
    (put_then _ _ c.put.ensures c.put_quoted.ensures)

pub returns-else-is_print : goal.returns-else-is_print
returns-else-is_print g c =
    put_same _ _
    (no_json_print_put (option_map event_seen c.args.event) c.args.bytes.now _ c.is_print.ensures c.if-is_print.false)
    (put_none _)
