-- What the program gives for what its command line asks for.
use Rattle.std.specs.Prelude.{◌≡◌, ℕ, false, true, List, ⊤}
use Rattle.std.specs.Io.KnownBytes.{Appends}
use Rattle.command_io.specs.CommandRun.{AppendsPrefix, SourceRun, SinkRun}
use Rattle.command_io.specs.declared.status.TheConstants.{DONE, END_FAILED}
use Rattle.command_line.specs.declared.call.Call.{Call}
use Rattle.command_line.specs.declared.call.Call.TheVariants.{Replay, Run, Steps, Dump, Collect, Recover, Version, Help}
use Rattle.dump_command.specs.Dumps.{DumpGives}
use Rattle.replay_command.specs.Commands.{ReplayGives}
use Rattle.run_command.specs.Runs.{RunGives}
use Rattle.step_text.specs.Steps.{StepsGives}

-- the call needs no files of its own: it reads one source, or none
abbrev pub HasNoFiles : Call → Type 0
HasNoFiles (Collect call) = ⊥
HasNoFiles (Recover call) = ⊥
HasNoFiles _ = ⊤

-- what a call's command gives for a text; `collect` and `recover` have files of their own, and the version and the help
-- read none
abbrev pub CallGives : Call → List ℕ → List ℕ → ℕ → Type 0
CallGives (Replay log) = ReplayGives log
CallGives Run = RunGives
CallGives Steps = StepsGives
CallGives Dump = DumpGives
CallGives (Collect call) = λ text bytes status. ⊥
CallGives (Recover call) = λ text bytes status. ⊥
CallGives Version = λ text bytes status. ⊥
CallGives Help = λ text bytes status. ⊥

-- The text is all that is written; if a write fails, a beginning of it.
pub record OnlyText (text : List ℕ) (sink : SinkRun) (status : ℕ) : Type 0 where
  pub written : sink.failed ≡ false → (status ≡ DONE) × Appends sink.contents sink.contents_after text
  pub fault : sink.failed ≡ true
      → (status ≡ END_FAILED) × AppendsPrefix sink.contents sink.contents_after text

-- neither a read nor a write has failed
pub record AreSound (source : SourceRun) (sink : SinkRun) : Type 0 where
  pub source_sound : source.failed ≡ false
  pub sink_sound : sink.failed ≡ false
