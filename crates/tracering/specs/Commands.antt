-- The words of the contracts of `commands`.

-- what a command does with its ends
pub use Rattle.command_io.specs.CommandRun.{IsCommandRun, WritesOutput, sink_run, source_run}
-- what each command writes
pub use Rattle.replay_command.specs.Commands.{AccountGives, ReplayGives}
pub use Rattle.step_text.specs.Steps.{StepsGives}
pub use Rattle.run_command.specs.Runs.{HeadlineGives, RunGives}
pub use Rattle.dump_command.specs.Dumps.{DumpGives}
pub use Rattle.collect_command.specs.Runs.{IsCollectRun}
pub use Rattle.collect_command.specs.Statuses.{status_for, status_of_run}
pub use Rattle.parcel_streams.specs.source.Readers.{source_of}
pub use Rattle.collect_command.specs.streams.Reading.{IsFresh}
pub use Rattle.collect_command.specs.streams.Runs.{IsPrintRun, IsStreamRun}
pub use Rattle.collect_command.specs.recovery.Runs.{IsRecoverRun}
