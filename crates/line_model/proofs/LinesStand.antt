-- Each line of a script, from a ring that matches an account: it is one of the account, and the ring matches again.
use Rattle.std.proofs.Common.{◌≡◌, ◌≢◌, ℕ, List, [], refl, inl, inr}
use Rattle.std.specs.Prelude.{⊤}
use Rattle.trace_model.specs.Window.{RingEvent}
use Rattle.trace_model.specs.Steps.{Exchange}
use Rattle.text_model.specs.Script.{Command, begin_frame, step_frame, finish_frame, write, close, step_reader}
use Rattle.text_model.specs.Script.{take_page, wish, deliver, Script}
use Rattle.text_model.specs.ScriptLimits.{IsCommandWithin}
use Rattle.world_model.specs.Lanes.{Lane, LineRun}
use Rattle.line_model.specs.Accounts.{CpuState, Adds, IsLine}
use Rattle.line_model.proofs.Standing.{Stands}
use Rattle.line_model.proofs.RecordsStand.{HasRecords}
use Rattle.line_model.proofs.ReaderStands.{PartStands, none_due, reads_stand, takes_stand, asks_stand}
use Rattle.line_model.proofs.WriterStands.{begins_stand, steps_stand, finish_stands, write_stands, close_stands}

-- the line is one of this CPU's ring
abbrev pub IsOn : (cpu : ℕ) → Command → Type 0
IsOn cpu (begin_frame at moment payload) = at ≡ cpu
IsOn cpu (step_frame at count) = at ≡ cpu
IsOn cpu (finish_frame at) = at ≡ cpu
IsOn cpu (write at moment payload) = at ≡ cpu
IsOn cpu (close at) = at ≡ cpu
IsOn cpu (step_reader at count) = at ≡ cpu
IsOn cpu (take_page at) = at ≡ cpu
IsOn cpu (wish at) = at ≡ cpu
IsOn cpu (deliver collector at fill) = ⊥

-- the line is one of another ring, or a delivery
abbrev pub NotOn : (cpu : ℕ) → Command → Type 0
NotOn cpu (begin_frame at moment payload) = at ≢ cpu
NotOn cpu (step_frame at count) = at ≢ cpu
NotOn cpu (finish_frame at) = at ≢ cpu
NotOn cpu (write at moment payload) = at ≢ cpu
NotOn cpu (close at) = at ≢ cpu
NotOn cpu (step_reader at count) = at ≢ cpu
NotOn cpu (take_page at) = at ≢ cpu
NotOn cpu (wish at) = at ≢ cpu
NotOn cpu (deliver collector at fill) = ⊤

module _ (script : Script) (cpu : ℕ) where
  -- it adds nothing
  adds_none : (command : Command) (state : CpuState) → NotOn cpu command → Adds script cpu command state [] state
  adds_none (begin_frame at moment payload) state apart = inr (apart, (refl, refl))
  adds_none (step_frame at count) state apart = inr (apart, (refl, refl))
  adds_none (finish_frame at) state apart = inr (apart, (refl, refl))
  adds_none (write at moment payload) state apart = inr (apart, (refl, refl))
  adds_none (close at) state apart = inr (apart, (refl, refl))
  adds_none (step_reader at count) state apart = inr (apart, (refl, refl))
  adds_none (take_page at) state apart = inr (apart, (refl, refl))
  adds_none (wish at) state apart = inr (apart, (refl, refl))
  adds_none (deliver collector at fill) state apart = (refl, refl)

  pub no_line : (command : Command) (state : CpuState) → NotOn cpu command → IsLine script cpu command state state
  no_line command state apart = record {
    own = [];
    adds = adds_none command state apart;
    due = none_due script state.wish state.events;
  }

-- A line of the account, after which the ring matches it.
pub record LineStands (script : Script) (cpu : ℕ) (command : Command) (state : CpuState) (next : Lane) : Type 0 where
  pub after : CpuState
  pub line : IsLine script cpu command state after
  pub stands : Stands script next after

module _ (script : Script) (cpu : ℕ) (lane next : Lane) (state : CpuState)
    (stands : Stands script lane state) (are : HasRecords lane) (xs : List Exchange) where
  -- a part, as that of the line
  as_line : {Part : CpuState → List RingEvent → CpuState → Type 0} (command : Command)
      → ((own : List RingEvent) (after : CpuState) → Part state own after → Adds script cpu command state own after)
      → PartStands script Part state next
      → LineStands script cpu command state next
  as_line command adds p = record {
    after = p.after;
    line = record { own = p.own; adds = adds p.own p.after p.part; due = p.due };
    stands = p.stands;
  }

  pub line_stands : (command : Command)
      → IsOn cpu command
      → IsCommandWithin script.cpus script.collectors command
      → LineRun script.pages script.size command lane xs next
      → LineStands script cpu command state next
  line_stands (begin_frame at moment payload) on within (x, is, p) =
      as_line (begin_frame at moment payload) (λ own after part. inl (on, part))
      (begins_stand script lane state stands moment payload x next p)
  line_stands (step_frame at count) on within run =
      as_line (step_frame at count) (λ own after part. inl (on, part))
      (steps_stand script lane state stands count next xs are run)
  line_stands (finish_frame at) on within run =
      as_line (finish_frame at) (λ own after part. inl (on, part))
      (finish_stands script lane state stands next xs are run)
  line_stands (write at moment payload) on within run =
      as_line (write at moment payload) (λ own after part. inl (on, part))
      (write_stands script lane next state xs moment payload stands run)
  line_stands (close at) on within run =
      as_line (close at) (λ own after part. inl (on, part))
      (close_stands script lane next state xs stands run)
  line_stands (step_reader at count) on within run =
      as_line (step_reader at count) (λ own after part. inl (on, part))
      (reads_stand script lane next state stands xs (step_reader at count) run run.0 count run.1)
  line_stands (take_page at) on within run =
      as_line (take_page at) (λ own after part. inl (on, part))
      (takes_stand script lane next state stands xs (take_page at) run run.0 run.1)
  line_stands (wish at) on within run =
      as_line (wish at) (λ own after part. inl (on, part)) (asks_stand script lane next state stands xs at run)
  line_stands (deliver collector at fill) on within run = absurd on
