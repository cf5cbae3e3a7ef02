use Rattle.stream_collector.proofs.StreamLaws.{unknown_first}
use Rattle.stream_collector.proofs.laws.the_watermark_is_unknown_first.Goals as goal

pub returns : goal.returns
returns c = unknown_first
