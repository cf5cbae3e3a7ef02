-- The text of what is given: of each line what was lost before it, that it comes late if it does, and the line.
use Rattle.std.specs.Prelude.{◌≡◌, ℕ, ◌-◌, ◌^◌, nat_lt, min, Bool, true, false, if◌then◌else◌, List, [], ◌∷◌, ◌++◌}
use Rattle.std.specs.Prelude.{flat_map, map, count_by, Option}
use Rattle.trace_model.specs.Listing.{Line as ModelLine}
use Rattle.line_follower.specs.declared.lines.Line.{Line}
use Rattle.line_follower.specs.declared.lines.Said.{Said}
use Rattle.line_follower.specs.declared.lines.Said.TheVariants.{InOrder, Late}
use Rattle.line_follower.specs.Order.{line_of}
use Rattle.capture.specs.declared.part.Part.{Part}
use Rattle.capture_text.specs.declared.form.Form.{Form}
use Rattle.capture_text.specs.declared.printer.Printer.{Printer}
use Rattle.capture_text.specs.Printing.{Detail}
use Rattle.capture_text.specs.Printed.{IsDetail}
use Rattle.capture_text.specs.Selection.{Selected, selection_seen}
use Rattle.capture_text.specs.Window.{KnownBound, bound_at, bound_by, listed_bound}
use Rattle.capture_text.specs.Listed.{is_listed_cut, listed_run, listed_losses, listed_page, listed_late, listed_line}
use Rattle.live_listing.specs.Gaps.{Lost, gap_seen}
use Rattle.live_listing.specs.declared.pages.Content.{Content}

-- all pages of a CPU, of this size
abbrev pub all_pages : (size : ℕ) → Part
all_pages size = record { size = size; length = 2 ^ 64 - 1 }

-- what was lost of a CPU: the run of missing numbers, then the losses of unknown number, then the damaged pages
abbrev pub gap_text : Form → Option KnownBound → (size cpu : ℕ) → Lost → List ℕ
gap_text form bound size cpu lost =
    (if nat_lt lost.from lost.until then listed_run form bound cpu (lost.from, lost.until - 1) else [])
    ++ listed_losses form bound cpu lost.unknown
    ++ flat_map (listed_page form bound (all_pages size ∷ []) cpu) lost.damaged

-- the line, as a listing has it
abbrev pub listed_of : Line Content → ModelLine
listed_of line = record {
  moment = line.place.moment.0;
  cpu = line.place.cpu.0;
  number = line.place.number.0;
  bytes = line.content.bytes.items;
}

-- what is known of a CPU that is listed, by the lines that were printed
abbrev pub bound_after : Selected → List ModelLine → (cpu : ℕ) → Option KnownBound
bound_after selected before cpu = listed_bound selected (λ c. bound_by selected c before) cpu

-- a line, behind what was lost before it; `before` were printed
abbrev pub line_text : Form → Detail → Selected → (size : ℕ) → (before : List ModelLine) → Line Content
    → (is_late : Bool) → List ℕ
line_text form detail selected size before line is_late =
    gap_text form (bound_after selected before line.place.cpu.0) size line.place.cpu.0 (gap_seen line.content.gap)
    ++ (if is_late then listed_late form selected (listed_of line) else [])
    ++ listed_line form detail selected (listed_of line)

-- the lines that are given, as a listing has them
abbrev pub listed_all : List (Said Content) → List ModelLine
listed_all given = map (λ said. listed_of (line_of said)) given

-- whether a line is late
abbrev pub is_late : Said Content → Bool
is_late (InOrder line) = false
is_late (Late line) = true

-- the text of lines that are given, one after the other
abbrev pub said_texts : Form → Detail → Selected → (size : ℕ) → (before : List ModelLine) → List (Said Content)
    → List ℕ
said_texts form detail selected size before [] = []
said_texts form detail selected size before (said ∷ others) =
    line_text form detail selected size before (line_of said) (is_late said)
    ++ said_texts form detail selected size (before ++ listed_of (line_of said) ∷ []) others

-- A printer has printed these lines, in this form and detail.
pub record HasPrinted (form : Form) (detail : Detail) (selected : Selected) (before : List ModelLine)
    (printer : Printer) : Type 0 where
  pub form_is : printer.form ≡ form
  pub detail_is : IsDetail printer.naming detail
  pub selected_is : selection_seen printer.selection ≡ selected
  pub bounds_are : (cpu : ℕ) → bound_at printer.window cpu ≡ bound_by selected cpu before
  pub cut_is : printer.cut ≡ min (count_by (is_listed_cut detail selected) before) (2 ^ 64 - 1)

-- some lines, or none
abbrev pub HasPrintedSome : Printer → Type 0
HasPrintedSome printer =
    (form : Form) × (detail : Detail) × (selected : Selected) × (before : List ModelLine)
    × HasPrinted form detail selected before printer
