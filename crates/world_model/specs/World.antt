-- The world of a script: what its lines lead to, one after the other, by their exchanges with the rings.
-- docs/formats/program.md, "Script" and "Log".
use Rattle.std.specs.Prelude.{◌≡◌, ℕ, List, [], ◌∷◌, ◌++◌, length, map, flat_map, All, Contains, slice_set, Some}
use Rattle.std.specs.List.{slice_get}
use Rattle.trace_model.specs.History.{as_record}
use Rattle.trace_model.specs.Ring.{TakenFill}
use Rattle.trace_model.specs.Steps.{Answer, page_taken, Exchange}
use Rattle.trace_model.specs.Parcel.{Parcel}
use Rattle.trace_model.specs.Collection.{IsBelow}
use Rattle.text_model.specs.Log.{LogLine, Delivery, new_page, known_page, no_page, delivery_line}
use Rattle.text_model.specs.Script.{Command, begin_frame, step_frame, finish_frame, write, close, step_reader}
use Rattle.text_model.specs.Script.{take_page, wish, deliver, Script}
use Rattle.world_model.specs.Lanes.{Lane, IsNewLane, LineRun}
use Rattle.world_model.specs.Log.{log_of}

-- Between two lines: the ring of each CPU; the parcels taken so far, in order; what was delivered to each collector so
-- far, in order and with its repeats; the log so far.
pub record World : Type 0 where
  pub lanes : List Lane
  pub taken : List Parcel
  pub delivered : List (List Parcel)
  pub log : List LogLine

-- The world before the first line: rings that are new, and collectors to which nothing was delivered.
pub record IsNewWorld (script : Script) (w : World) : Type 0 where
  pub cpus : length w.lanes ≡ script.cpus
  pub new : All (IsNewLane script.pages script.start) w.lanes
  pub none_taken : w.taken ≡ []
  pub collectors : length w.delivered ≡ script.collectors
  pub none_delivered : All (λ parcels. parcels ≡ []) w.delivered
  pub no_log : w.log ≡ []

-- ---- what is taken

-- a page that was taken from the ring of a CPU
abbrev pub parcel_of : (cpu : ℕ) → TakenFill → Parcel
parcel_of cpu t = let held = t.held in
    record { cpu = cpu; fill = t.fill; first = held.first; missed = t.skipped; records = map as_record held.records }

-- the page that an answer brings, if it is a take's
abbrev pub parcels_in : (cpu : ℕ) → Answer → List Parcel
parcels_in cpu (page_taken t) = parcel_of cpu t ∷ []
parcels_in cpu _ = []

-- the pages that a line's exchanges bring
abbrev pub parcels_of : (cpu : ℕ) → List Exchange → List Parcel
parcels_of cpu exchanges = flat_map (λ x. parcels_in cpu x.answer) exchanges

-- ---- what a line does

-- A line of the ring of this CPU: its exchanges with it, what they bring and what is logged of them. The other rings
-- and the collectors stay.
pub record RunsLine (script : Script) (line : ℕ) (command : Command) (cpu : ℕ) (before after : World) : Type 0 where
  pub lane : Lane
  pub lane_is : slice_get before.lanes cpu ≡ Some lane
  pub exchanges : List Exchange
  pub next : Lane
  pub run : LineRun script.pages script.size command lane exchanges next
  pub after_is : after ≡ record {
    lanes = slice_set before.lanes cpu next;
    taken = before.taken ++ parcels_of cpu exchanges;
    delivered = before.delivered;
    log = before.log ++ log_of line cpu exchanges;
  }

-- the parcel is the page of this fill of the CPU
abbrev pub IsFill : (cpu fill : ℕ) → Parcel → Type 0
IsFill cpu fill parcel = (parcel.cpu ≡ cpu) × (parcel.fill ≡ fill)

-- what a delivery brings to a collector to which these were delivered: something that it hasn't, or nothing new
abbrev pub Brings : List Parcel → Parcel → Delivery → Type 0
Brings earlier parcel new_page = IsBelow (parcel ∷ []) earlier → ⊥
Brings earlier parcel known_page = IsBelow (parcel ∷ []) earlier
Brings earlier parcel no_page = ⊥

-- the page of this fill was taken, and the collector gets it
pub record DeliversTaken (line collector cpu fill : ℕ) (before after : World) : Type 0 where
  pub parcel : Parcel
  pub was_taken : Contains before.taken parcel
  pub fill_is : IsFill cpu fill parcel
  pub earlier : List Parcel
  pub earlier_are : slice_get before.delivered collector ≡ Some earlier
  pub delivery : Delivery
  pub brings : Brings earlier parcel delivery
  pub after_is : after ≡ record before {
    delivered = slice_set before.delivered collector (earlier ++ parcel ∷ []);
    log = before.log ++ delivery_line line collector cpu fill delivery ∷ [];
  }

-- no page of this fill was taken, and the collector stays as it is
pub record DeliversNothing (line collector cpu fill : ℕ) (before after : World) : Type 0 where
  pub not_taken : All (λ parcel. IsFill cpu fill parcel → ⊥) before.taken
  pub after_is : after ≡ record before { log = before.log ++ delivery_line line collector cpu fill no_page ∷ [] }

-- a delivery, in the script's line of this number
pub data DeliversFill (line collector cpu fill : ℕ) (before after : World) : Type 0 where
  delivers : DeliversTaken line collector cpu fill before after → DeliversFill line collector cpu fill before after
  lacks : DeliversNothing line collector cpu fill before after → DeliversFill line collector cpu fill before after

-- what a command does, in the script's line of this number
abbrev pub Obeys : Script → (line : ℕ) → Command → World → World → Type 0
Obeys script line (begin_frame cpu moment payload) before after =
    RunsLine script line (begin_frame cpu moment payload) cpu before after
Obeys script line (step_frame cpu count) before after = RunsLine script line (step_frame cpu count) cpu before after
Obeys script line (finish_frame cpu) before after = RunsLine script line (finish_frame cpu) cpu before after
Obeys script line (write cpu moment payload) before after =
    RunsLine script line (write cpu moment payload) cpu before after
Obeys script line (close cpu) before after = RunsLine script line (close cpu) cpu before after
Obeys script line (step_reader cpu count) before after = RunsLine script line (step_reader cpu count) cpu before after
Obeys script line (take_page cpu) before after = RunsLine script line (take_page cpu) cpu before after
Obeys script line (wish cpu) before after = RunsLine script line (wish cpu) cpu before after
Obeys script line (deliver collector cpu fill) before after = DeliversFill line collector cpu fill before after

-- the commands are obeyed, one after the other, and lead from one world to another
abbrev pub ObeysAll : Script → List (ℕ × Command) → World → World → Type 0
ObeysAll script [] before after = before ≡ after
ObeysAll script (line ∷ lines) before after =
    (between : World) × Obeys script line.0 line.1 before between × ObeysAll script lines between after

-- A world after these lines of a script, from one before the first line on.
pub record WorldBehind (script : Script) (lines : List (ℕ × Command)) (w : World) : Type 0 where
  pub new : World
  pub is_new : IsNewWorld script new
  pub obeyed : ObeysAll script lines new w

-- the world of a script: that after all of its lines
abbrev pub WorldOf : Script → World → Type 0
WorldOf script w = WorldBehind script script.commands w
