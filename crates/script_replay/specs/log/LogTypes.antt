-- The log's Rust types, in the words of the models.
use Rattle.std.specs.Prelude.{List, Option, Some, None, map}
use Rattle.text_model.specs.Log as model
use Rattle.ring_frames.specs.Answers.{refusal_of}
use Rattle.script_replay.specs.declared.log.line.LogLine.{LogLine}
use Rattle.script_replay.specs.declared.log.line.LogLine.TheVariants.{Refused, Taken, Empty, Moving, Asks, New, Known}
use Rattle.script_replay.specs.declared.log.line.LogLine.TheVariants.{NotTaken}

-- a line of the log
abbrev pub shown_log_line : LogLine → model.LogLine
shown_log_line (Refused fault cpu line) = model.refused line cpu.0 (refusal_of fault)
shown_log_line (Taken count cpu line fill first missed) = model.taken line cpu.0 fill.0 first.0 count missed
shown_log_line (Empty cpu line) = model.empty line cpu.0
shown_log_line (Moving cpu line fill) = model.moving line cpu.0 fill.0
shown_log_line (Asks cpu line fill) = model.asks line cpu.0 fill.0
shown_log_line (New cpu line collector fill) = model.new_delivery line collector cpu.0 fill.0
shown_log_line (Known cpu line collector fill) = model.known_delivery line collector cpu.0 fill.0
shown_log_line (NotTaken cpu line collector fill) = model.untaken_delivery line collector cpu.0 fill.0

-- what is logged, if anything
abbrev pub shown_logged : Option LogLine → Option model.LogLine
shown_logged None = None
shown_logged (Some line) = Some (shown_log_line line)

-- the log, line by line
abbrev pub shown_log : List LogLine → List model.LogLine
shown_log log = map shown_log_line log
