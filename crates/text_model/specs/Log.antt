-- The log of a replay: what its commands met, in their order. docs/formats/program.md, "Log".
use Rattle.std.specs.Prelude.{ℕ}
use Rattle.trace_model.specs.Frames.{WriteFault}

-- A line of the log. line: the number of the script's line. refused: a push, a step, or a line without a frame. taken:
-- a page of that fill, its first record's number, how many records it has, and how many records were missed before
-- them. empty: no closed page was unread. moving: a writer moves the head, and all fills below this one are taken or
-- lost. asks: the reader asks for the page after this many closed ones. The last three are of a delivery: of a page
-- that the collector hasn't yet, of one that it has, and of none, since that fill wasn't taken.
pub data LogLine : Type 0 where
  refused : (line cpu : ℕ) (why : WriteFault) → LogLine
  taken : (line cpu fill first count missed : ℕ) → LogLine
  empty : (line cpu : ℕ) → LogLine
  moving asks : (line cpu fill : ℕ) → LogLine
  new_delivery known_delivery untaken_delivery : (line collector cpu fill : ℕ) → LogLine

-- what a delivery brings: a page that the collector hasn't, one that it has, or none
pub data Delivery : Type 0 where
  new_page known_page no_page : Delivery

-- what is logged of a delivery
abbrev pub delivery_line : (line collector cpu fill : ℕ) → Delivery → LogLine
delivery_line line collector cpu fill new_page = new_delivery line collector cpu fill
delivery_line line collector cpu fill known_page = known_delivery line collector cpu fill
delivery_line line collector cpu fill no_page = untaken_delivery line collector cpu fill
