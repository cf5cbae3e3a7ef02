-- The words of the contracts of `scripts`.

-- what a text spells
pub use Rattle.text_model.specs.Script.{ParsesScript}
pub use Rattle.text_model.specs.ScriptLimits.{IsWithinLimits}
pub use Rattle.text_model.specs.ScriptReading.{script_in}
pub use Rattle.trace_script.specs.ScriptFaults.{GivesAt, ReportsFirstFault, script_fault_text}
pub use Rattle.trace_script.specs.ScriptTypes.{shown_line}
-- what a script's world is, and the text of its steps
pub use Rattle.script_replay.specs.Replay.{IsHeadline}
pub use Rattle.step_model.specs.RunTexts.{IsStepText}
-- what a run leaves, and what an audit compares
pub use Rattle.trace_run.specs.threaded.Asked.{HaveAllPassed}
pub use Rattle.trace_run.specs.threaded.Runs.{IsRunOfScript}
pub use Rattle.trace_run.specs.ledgers.Audit.{IsAudited, IsLacking, IsLeast, IsStray, WereTaken, taken_in}
pub use Rattle.trace_run.specs.ledgers.Headline.{AreOfRings, IsAuditHeadline}
