-- The log of a replay: what its lines met, in their order. docs/formats/program.md, "Log".
use Rattle.std.specs.Prelude.{ℕ, List, [], ◌∷◌, length, flat_map}
use Rattle.trace_model.specs.Steps.{Answer, refused, empty, moving, page_taken, wished_for, Exchange}
use Rattle.text_model.specs.Log.{LogLine}
use Rattle.text_model.specs.Log as log

-- What is logged of an answer of the ring of a CPU, in the script's line of this number. Of a page that was taken: its
-- fill, its first record's number, how many records it has, and how many were lost before them.
abbrev pub logged : (line cpu : ℕ) → Answer → List LogLine
logged line cpu (refused why) = log.refused line cpu why ∷ []
logged line cpu (empty done) = log.empty line cpu ∷ []
logged line cpu (moving fill) = log.moving line cpu fill ∷ []
logged line cpu (page_taken t) = log.taken line cpu t.fill t.held.first (length t.held.records) t.skipped ∷ []
logged line cpu (wished_for fill) = log.asks line cpu fill ∷ []
logged line cpu _ = []

-- what is logged of a line's exchanges, in their order
abbrev pub log_of : (line cpu : ℕ) → List Exchange → List LogLine
log_of line cpu exchanges = flat_map (λ x. logged line cpu x.answer) exchanges
