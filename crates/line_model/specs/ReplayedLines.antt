-- What a replay makes of a CPU's writer lines is a history of these lines, as statements.
use Rattle.std.specs.Prelude.{◌≡◌, ℕ, ◌+◌, ◌≤◌, List, [], length, map, All, Some}
use Rattle.std.specs.List.{slice_get}
use Rattle.trace_model.specs.declared.limits.TheConstants.{LINK_FILLS}
use Rattle.trace_model.specs.History.{committed_records}
use Rattle.trace_model.specs.Steps.{Exchange}
use Rattle.text_model.specs.Script.{Command, Script}
use Rattle.text_model.specs.ScriptLimits.{IsCommandWithin, IsWithinLimits}
use Rattle.ring_model.specs.Reached.{IsReached}
use Rattle.world_model.specs.Lanes.{Lane, HasPayloads, LineRun}
use Rattle.world_model.specs.World.{World, WorldBehind, WorldOf}
use Rattle.line_model.specs.Lines.{writer_lines, IsBegunByLines, IsMadeByLines}
use Rattle.line_model.specs.WriterCalls.{writer_of, LineCalls}
use Rattle.line_model.specs.WrittenRecords.{AllWriteOrClose, records_of_lines}

-- What a replay's line has with its ring are, for the ring's writer, the calls of that line.
abbrev pub LineRunsAreCalls : Type 0
LineRunsAreCalls = (n size start cpus collectors : ℕ) (line : Command) (before after : Lane)
    (exchanges : List Exchange)
    → IsReached n size start before.core
    → HasPayloads before
    → IsCommandWithin cpus collectors line
    → LineRun n size line before exchanges after
    → (made : List Exchange)
    × LineCalls n size start line (writer_of before.core) before.payloads made (writer_of after.core) after.payloads

-- the commands of lines
abbrev pub commands_of : List (ℕ × Command) → List Command
commands_of lines = map (λ line. line.1) lines

-- these lines of its writer have begun a ring's history; and if no frame is on the stack, they have made it
abbrev pub IsOfLines : Script → List Command → Lane → Type 0
IsOfLines script lines lane =
    IsBegunByLines script.pages script.size script.start lines lane.core.history
    × (lane.core.frames ≡ [] → IsMadeByLines script.pages script.size script.start lines lane.core.history)

-- After any lines of a script, this holds of each CPU's writer lines and lane.
abbrev pub HoldsOfLanes : (Script → List Command → Lane → Type 0) → Type 0
HoldsOfLanes Says = (script : Script) (lines : List (ℕ × Command)) (w : World) (cpu : ℕ) (lane : Lane)
    → IsWithinLimits script
    → All (λ line. IsCommandWithin script.cpus script.collectors line.1) lines
    → WorldBehind script lines w
    → slice_get w.lanes cpu ≡ Some lane
    → Says script (writer_lines cpu (commands_of lines)) lane

-- After any lines of a script, the history of a CPU's ring is begun, or made, by the lines of its writer.
abbrev pub ReplayMakesLines : Type 0
ReplayMakesLines = HoldsOfLanes IsOfLines

-- For a CPU with `w` and `c` lines alone, at most as many as there are numbers left for fills, the committed records
-- are exactly those of its `w` lines that are neither too long nor too late, in order, moments raised.
abbrev pub ReplayCommitsWholeLines : Type 0
ReplayCommitsWholeLines = HoldsOfLanes (λ script lines lane. AllWriteOrClose lines
    → script.start + length lines + script.pages ≤ LINK_FILLS
    → committed_records lane.core.history ≡ records_of_lines script.size 0 lines)

-- After all lines of a script its CPUs' histories are begun, or made, by the lines of their writers.
abbrev pub WorldsMakeLines : Type 0
WorldsMakeLines = (script : Script) (w : World) (cpu : ℕ) (lane : Lane)
    → IsWithinLimits script
    → WorldOf script w
    → slice_get w.lanes cpu ≡ Some lane
    → IsOfLines script (writer_lines cpu (commands_of script.commands)) lane
