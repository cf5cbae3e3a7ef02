-- The step text of a script: what its lines do to its rings, step by step, and what is delivered.
-- docs/formats/program.md, "Step text".
use Rattle.std.specs.Prelude.{◌≡◌, ℕ, ◌-◌, ◌%◌, if◌then◌else◌, ◌==◌, List, [], ◌∷◌, ◌++◌, length, flat_map, codes}
use Rattle.std.specs.Fmt.{decimal}
use Rattle.std.specs.List.{enumerate_from}
use Rattle.trace_model.specs.Ring.{Core}
use Rattle.trace_model.specs.Steps.{Step, Exchange}
use Rattle.trace_model.specs.Parcel.{Parcel}
use Rattle.text_model.specs.Text.{line_feed}
use Rattle.text_model.specs.Log.{Delivery, new_page, known_page, no_page, delivery_line}
use Rattle.text_model.specs.Printing.{printed_log_line}
use Rattle.text_model.specs.Script.{Command, begin_frame, step_frame, finish_frame, write, close, step_reader}
use Rattle.text_model.specs.Script.{take_page, wish, deliver, Script}
use Rattle.world_model.specs.Lanes.{Lane}
use Rattle.world_model.specs.World.{World, IsNewWorld, RunsLine, DeliversTaken, DeliversNothing}
use Rattle.step_model.specs.Seen.{ring_seen}
use Rattle.step_model.specs.Changes.{all_keys}
use Rattle.step_model.specs.StepTexts.{change_text, key_line, spaced, step_text}

-- ---- steps

-- The exchanges are steps of the ring, one after the other, and this is their text, in the script's line of this
-- number.
abbrev pub Tells : (n size line cpu : ℕ) → Core → List Exchange → Core → (text : List ℕ) → Type 0
Tells n size line cpu before [] after text = (before ≡ after) × (text ≡ [])
Tells n size line cpu before (x ∷ exchanges) after text =
    (between : Core)
    × (rest : List ℕ)
    × Step n size before x.event x.answer between
    × (text ≡ step_text line cpu before x.event x.answer between ++ rest)
    × Tells n size line cpu between exchanges after rest

-- ---- what a collector gets

-- Numbers of a CPU, as many from this one on, that a collector has or misses from now on.
pub data Gain : Type 0 where
  has_run misses_run : (cpu first count : ℕ) → Gain

abbrev pub gain_text : Gain → List ℕ
gain_text (has_run cpu first count) = key_line (codes "has" ++ spaced cpu) (decimal first ++ spaced count)
gain_text (misses_run cpu first count) = key_line (codes "missing" ++ spaced cpu) (decimal first ++ spaced count)

-- this run, unless it is empty
abbrev pub unless_none : (count : ℕ) → Gain → List Gain
unless_none count gain = if count == 0 then [] else gain ∷ []

-- what a page brings: its records, and the numbers that are missing before them
abbrev pub gains_of : Parcel → List Gain
gains_of parcel = let count = length parcel.records in
    unless_none count (has_run parcel.cpu parcel.first count)
    ++ unless_none parcel.missed (misses_run parcel.cpu (parcel.first - parcel.missed) parcel.missed)

-- a page that a collector has brings nothing
abbrev pub brought : Delivery → Parcel → List Gain
brought new_page parcel = gains_of parcel
brought known_page parcel = []
brought no_page parcel = []

abbrev pub delivery_step_text : (line collector cpu fill : ℕ) → Delivery → Parcel → List ℕ
delivery_step_text line collector cpu fill delivery parcel =
    printed_log_line (delivery_line line collector cpu fill delivery) ++ flat_map gain_text (brought delivery parcel)

-- the text of a delivery, in the script's line of this number
pub data TellsDelivery (line collector cpu fill : ℕ) (before after : World) (text : List ℕ) : Type 0 where
  tells_page : (d : DeliversTaken line collector cpu fill before after)
      → text ≡ delivery_step_text line collector cpu fill d.delivery d.parcel
      → TellsDelivery line collector cpu fill before after text
  tells_none : DeliversNothing line collector cpu fill before after
      → text ≡ printed_log_line (delivery_line line collector cpu fill no_page)
      → TellsDelivery line collector cpu fill before after text

-- ---- lines

-- what a line does to the ring of this CPU, and the text of its steps
pub record TellsRing (script : Script) (line : ℕ) (command : Command) (cpu : ℕ) (before after : World) (text : List ℕ)
    : Type 0 where
  pub runs : RunsLine script line command cpu before after
  pub tells : Tells script.pages script.size line cpu runs.lane.core runs.exchanges runs.next.core text

-- what a command does, in the script's line of this number, and its text
abbrev pub TellsLine : Script → (line : ℕ) → Command → World → World → (text : List ℕ) → Type 0
TellsLine script line (begin_frame cpu moment payload) before after text =
    TellsRing script line (begin_frame cpu moment payload) cpu before after text
TellsLine script line (step_frame cpu count) before after text =
    TellsRing script line (step_frame cpu count) cpu before after text
TellsLine script line (finish_frame cpu) before after text =
    TellsRing script line (finish_frame cpu) cpu before after text
TellsLine script line (write cpu moment payload) before after text =
    TellsRing script line (write cpu moment payload) cpu before after text
TellsLine script line (close cpu) before after text = TellsRing script line (close cpu) cpu before after text
TellsLine script line (step_reader cpu count) before after text =
    TellsRing script line (step_reader cpu count) cpu before after text
TellsLine script line (take_page cpu) before after text =
    TellsRing script line (take_page cpu) cpu before after text
TellsLine script line (wish cpu) before after text = TellsRing script line (wish cpu) cpu before after text
TellsLine script line (deliver collector cpu fill) before after text =
    TellsDelivery line collector cpu fill before after text

-- the commands are obeyed, one after the other, and this is their text
abbrev pub TellsAll : Script → List (ℕ × Command) → World → World → (text : List ℕ) → Type 0
TellsAll script [] before after text = (before ≡ after) × (text ≡ [])
TellsAll script (line ∷ lines) before after text =
    (between : World)
    × (first rest : List ℕ)
    × TellsLine script line.0 line.1 before between first
    × (text ≡ first ++ rest)
    × TellsAll script lines between after rest

-- ---- the whole

-- the first line: how many pages the rings have, of how many bytes of data, how many CPUs and collectors there are, and
-- the number of the first fill
abbrev pub trace_line : Script → List ℕ
trace_line script =
    codes "trace" ++ spaced script.pages ++ spaced script.size ++ spaced script.cpus ++ spaced script.collectors
    ++ spaced script.start ++ line_feed ∷ []

-- the ring of a CPU before the first line, by all its keys, with its first fill
abbrev pub new_ring_text : (cpu : ℕ) → Core → List ℕ
new_ring_text cpu c =
    codes "- c" ++ decimal cpu ++ codes " new" ++ line_feed ∷ flat_map change_text (all_keys (ring_seen c))
    ++ key_line (codes "fill" ++ spaced c.head) (decimal (c.head % length c.order) ++ spaced 0)

-- the rings of all CPUs
abbrev pub new_rings_text : List Lane → List ℕ
new_rings_text lanes = flat_map (λ pair. new_ring_text pair.0 pair.1.core) (enumerate_from 0 lanes)

-- The step text of a script, whose lines lead to this world.
pub record IsStepText (script : Script) (after : World) (text : List ℕ) : Type 0 where
  pub new : World
  pub is_new : IsNewWorld script new
  pub rest : List ℕ
  pub tells : TellsAll script script.commands new after rest
  pub text_is : text ≡ trace_line script ++ new_rings_text new.lanes ++ rest
