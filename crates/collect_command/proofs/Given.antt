-- What is read and given beside the pages.
use Rattle.std.proofs.Common.{◌≡◌, ℕ, List, Option, Some, None, Bor, refl, ap}
use Rattle.std.proofs.Common.{is_some}
use Rattle.std.specs.Option.{option_map}
use Rattle.trace_dat.specs.Contents.{EventFormat}
use Rattle.trace_dat.specs.kernel_texts.Names.{Event, events_of, HasEvents}
use Rattle.trace_dat.specs.declared.kernel_texts.names.EventNames.{EventNames}
use Rattle.capture.specs.files.Files.{if_wanted}
use Rattle.collect_command.specs.Patterns.{marks_of}
use Rattle.collect_command.specs.Listings.{marks_by}
use Rattle.collect_command.specs.Runs.{lines_for, text_in}

-- the marks of the events that a pattern names, by the events or by their formats
pub marks_are : (pattern : Option (List ℕ)) (names : EventNames) (formats : List EventFormat)
    → HasEvents names formats
    → option_map (λ p. marks_of p (events_of names)) pattern ≡ marks_by pattern formats
marks_are pattern names formats are =
    ap (λ (event_by : ℕ → Option Event). option_map (λ p. marks_of p event_by) pattern) (λ i id. are id i)

-- lines that are read only if they are asked for
pub lines_asked : (given : Option (Bor (List ℕ))) (known : List (List ℕ))
    → lines_for (text_in given) (if_wanted (is_some given) known) ≡ lines_for (text_in given) known
lines_asked None known = refl
lines_asked (Some text) known = refl
