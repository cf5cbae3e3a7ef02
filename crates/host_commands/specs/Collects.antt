-- How files are listed that a call of `collect` asks for.
use Rattle.std.specs.Prelude.{◌≡◌, ℕ, ◌-◌, ◌^◌, List, [], Option, Some, None, if◌then◌else◌}
use Rattle.std.specs.Borrow.{Bor}
use Rattle.std.specs.Option.{option_map}
use Rattle.command_line.specs.Calls.{page_bytes}
use Rattle.command_line.specs.declared.call.CollectCall.{CollectCall}
use Rattle.capture_text.specs.declared.form.Form.{Form}
use Rattle.capture_text.specs.Selection.{Selected, selection_seen}
use Rattle.collect_command.specs.declared.collect.Collecting.{Collecting}
use Rattle.collect_command.specs.declared.collect.Detail.{Detail}
use Rattle.collect_command.specs.declared.collect.Detail.TheVariants.{Payload, Names, Fields}

-- what a line says of its record
abbrev pub detail_for : CollectCall → Detail
detail_for asked = if asked.fields then Fields else if asked.names then Names else Payload

-- the bytes of a word that may be given
abbrev pub given_bytes : Option (Bor (List ℕ)) → List ℕ
given_bytes None = []
given_bytes (Some word) = word.now

-- a number that may be given, or else this one
abbrev pub given_or : (otherwise : ℕ) → Option ℕ → ℕ
given_or otherwise None = otherwise
given_or otherwise (Some number) = number

-- which records are listed, but for the events, which a pattern names
abbrev pub selected_for : CollectCall → Selected
selected_for asked = record {
  cpus = option_map (λ marks. marks.items) asked.cpus;
  since = given_or 0 asked.since;
  until = given_or (2 ^ 64 - 1) asked.until;
  events = None;
  pids = option_map (λ pids. pids.items) asked.pids;
}

-- The files are listed as the call asks for, with the formats and names that are given to it.
pub record CollectsAs (asked : CollectCall) (collecting : Collecting) : Type 0 where
  pub form : collecting.form ≡ (if asked.json then Form.Json else Form.Text)
  pub page : collecting.page ≡ page_bytes asked.page
  pub buffer : collecting.buffer.now ≡ given_bytes asked.instance
  pub detail : collecting.detail ≡ detail_for asked
  pub selection : selection_seen collecting.selection ≡ selected_for asked
  pub pattern : option_map (λ text. text.now) collecting.pattern ≡ option_map (λ word. word.now) asked.event
