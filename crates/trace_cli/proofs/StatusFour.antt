-- Where a command ends with the status 4 and neither end failed.
use Rattle.std.proofs.Common.{◌≡◌, ◌⊎◌, inl, inr, ◌<◌, ◌≤◌, ℕ, Bool, true, List, refl, subst, arith}
use Rattle.std.specs.Io.KnownBytes.{Appends}
use Rattle.trace_model.specs.declared.limits.TheConstants.{MAX_INPUT}
use Rattle.command_io.specs.CommandRun.{SourceRun, SinkRun, IsInputTooLong, IsCommandRun, WritesOutput}
use Rattle.command_io.specs.declared.output.TheConstants.{THREAD_LINE}
use Rattle.command_io.specs.declared.status.TheConstants.{END_FAILED}
use Rattle.dump_command.specs.Dumps.{DumpGives}
use Rattle.replay_command.specs.Commands.{PrintsReplay, PrintsFault, ReplayGives}
use Rattle.replay_command.proofs.OneOutput.{cases_given}
use Rattle.text_model.specs.Script.{Script}
use Rattle.trace_cli.specs.Answers.{AreSound}
use Rattle.run_command.specs.Runs.{IsRunOutput, RunGives}

-- what it may be then
abbrev Causes : (gives : List ℕ → List ℕ → ℕ → Type 0) → SourceRun → SinkRun → Type 0
Causes gives source sink = (source.failed ≡ true) ⊎ (sink.failed ≡ true) ⊎ IsInputTooLong source sink
    ⊎ WritesOutput gives source.unread source.left sink.contents sink.contents_after END_FAILED

-- no output of `replay` has it
no_replay : (asked : Bool) (text bytes : List ℕ) → ReplayGives asked text bytes END_FAILED → ⊥
no_replay asked text bytes given = no_case (cases_given asked text bytes END_FAILED given)
  where
    no_case : PrintsReplay asked text bytes END_FAILED ⊎ PrintsFault text bytes END_FAILED → ⊥
    no_case (inl a) = let is = a.done in cc
    no_case (inr a) = let is = a.refused in cc

-- nor of `dump`
no_dump : (text bytes : List ℕ) → DumpGives text bytes END_FAILED → ⊥
no_dump text bytes (inl a) = let is = a.done in cc
no_dump text bytes (inr a) = let is = a.refused in cc

-- and an output of `run` that has it is the line of a thread that could not be started
of_run : (script : Script) (bytes : List ℕ) → IsRunOutput script bytes END_FAILED → bytes ≡ THREAD_LINE.now
of_run script bytes (inl done) = absurd (let is = done.1 in cc)
of_run script bytes (inr failed) = failed.0

thread_line : (text bytes : List ℕ) → RunGives text bytes END_FAILED → bytes ≡ THREAD_LINE.now
thread_line text bytes (inl a) = of_run a.script bytes a.output
thread_line text bytes (inr a) = absurd (let is = a.refused in cc)

module _ (source : SourceRun) (sink : SinkRun) (sound : AreSound source sink) where
  too_long : (gives : List ℕ → List ℕ → ℕ → Type 0) → ((text bytes : List ℕ) → gives text bytes END_FAILED → ⊥)
      → Causes gives source sink → MAX_INPUT < source.count_after
  too_long gives none (inl h) = absurd (let is = sound.source_sound in cc)
  too_long gives none (inr (inl h)) = absurd (let is = sound.sink_sound in cc)
  too_long gives none (inr (inr (inl h))) = h.0.3
  too_long gives none (inr (inr (inr (bytes, output, written)))) = absurd (none output.0 bytes output.4)

  pub replay_reported : (asked : Bool) → IsCommandRun (ReplayGives asked) source sink END_FAILED
      → MAX_INPUT < source.count_after
  replay_reported asked h = too_long (ReplayGives asked) (no_replay asked) (h.end_fault refl)

  pub dump_reported : IsCommandRun DumpGives source sink END_FAILED → MAX_INPUT < source.count_after
  dump_reported h = too_long DumpGives no_dump (h.end_fault refl)

  line_written : source.count_after ≤ MAX_INPUT → Causes RunGives source sink
      → Appends sink.contents sink.contents_after THREAD_LINE.now
  line_written short (inl h) = absurd (let is = sound.source_sound in cc)
  line_written short (inr (inl h)) = absurd (let is = sound.sink_sound in cc)
  line_written short (inr (inr (inl h))) = absurd (let long = h.0.3 in omega arith)
  line_written short (inr (inr (inr (bytes, output, written)))) =
      subst (λ (bytes : List ℕ). Appends sink.contents sink.contents_after bytes) (thread_line output.0 bytes output.4)
      written

  pub run_reported : IsCommandRun RunGives source sink END_FAILED → source.count_after ≤ MAX_INPUT
      → Appends sink.contents sink.contents_after THREAD_LINE.now
  run_reported h short = line_written short (h.end_fault refl)
