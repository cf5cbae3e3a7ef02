-- Definitions of accounts and of a writer's lines. The laws lead from one to the next: `steps_make`,
-- `calls_make_events`, `line_calls_make_parts`, `writers_make_lines`; `line_runs_are_calls` makes of a `LineRun` the
-- calls of its line.
pub mod Due
pub mod Accounts
pub mod Shown
pub mod WholeScripts
pub mod Lines
pub mod WriterCalls
pub mod CallEvents
pub mod LineParts
pub mod SingleFrames
pub mod WrittenRecords
pub mod WriterHistories
pub mod LineExamples
pub mod ReplayedLines
