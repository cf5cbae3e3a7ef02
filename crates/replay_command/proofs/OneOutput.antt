-- A text has one output: what a command gives for it are the same bytes, with the same exit status.
use Rattle.std.proofs.Common.{◌≡◌, ◌⊎◌, ℕ, Bool, List, Ok, inl, inr, refl, sym, ap, subst, ◌∙◌}
use Rattle.std.specs.Prelude.{Result, Err}
use Rattle.std.specs.List.{AllZip}
use Rattle.text_model.specs.ScriptLines.{LineFault}
use Rattle.text_model.specs.Printing.{printed_fault}
use Rattle.text_model.specs.Script.{Script}
use Rattle.text_model.specs.ScriptLimits.{IsWithinLimits}
use Rattle.text_model.proofs.Readings.{same_ok, same_err, ok_is_no_err}
use Rattle.text_model.proofs.ReadLimits.{script_in-within}
use Rattle.text_model.specs.ScriptReading.{script_in}
use Rattle.world_model.specs.World.{World}
use Rattle.world_model.specs.GenuineWorlds.{IsGenuineWorld}
use Rattle.world_model.proofs.GenuineWorlds.{world_genuine}
use Rattle.world_model.specs.Printing.{printed_world}
use Rattle.world_model.proofs.OneWorld.{one_world}
use Rattle.collector_text.specs.Prints.{IsPrintOf}
use Rattle.collector_text.proofs.OneText.{one_world_text}
use Rattle.replay_command.specs.Commands.{IsPrinting, PrintsReading, PrintsReplay, PrintsFault, ReplayGives}

-- ---- what `replay` gives for a text, by its two cases

reading_cases : (asked : Bool) (text bytes : List ℕ) (status : ℕ) (r : Result Script (ℕ × LineFault))
    → script_in text ≡ r
    → PrintsReading asked r bytes status → PrintsReplay asked text bytes status ⊎ PrintsFault text bytes status
reading_cases asked text bytes status (Ok script) is (printing, done) =
    inl record { script = script; spelled = is; printing = printing; done = done }
reading_cases asked text bytes status (Err fault) is (printed, refused) =
    inr record { number = fault.0; fault = fault.1; first = is; printed = printed; refused = refused }

pub cases_given : (asked : Bool) (text bytes : List ℕ) (status : ℕ) → ReplayGives asked text bytes status
    → PrintsReplay asked text bytes status ⊎ PrintsFault text bytes status
cases_given asked text bytes status given = reading_cases asked text bytes status (script_in text) refl given

pub given_by_cases : (asked : Bool) (text bytes : List ℕ) (status : ℕ)
    → PrintsReplay asked text bytes status ⊎ PrintsFault text bytes status → ReplayGives asked text bytes status
given_by_cases asked text bytes status (inl a) =
    subst (λ (r : Result Script (ℕ × LineFault)). PrintsReading asked r bytes status) (sym a.spelled)
    (a.printing, a.done)
given_by_cases asked text bytes status (inr a) =
    subst (λ (r : Result Script (ℕ × LineFault)). PrintsReading asked r bytes status) (sym a.first)
    (a.printed, a.refused)

-- ---- one output

-- a script has one world, whose collectors have one text
one_printing : (script : Script) (asked : Bool) (bytes others : List ℕ) → IsWithinLimits script
    → IsPrinting script asked bytes → IsPrinting script asked others → bytes ≡ others
one_printing script asked bytes others limits a b =
    let same : a.world ≡ b.world =
    one_world script script.commands a.world b.world limits a.of_script b.of_script in
    let also : AllZip IsPrintOf a.world.delivered b.shown =
    subst (λ (w : World). AllZip IsPrintOf w.delivered b.shown) (sym same) b.reported in
    a.printed
    ∙ one_world_text a.world.delivered a.shown b.shown asked a.world.log a.reported also
    ∙ ap (λ (w : World). printed_world asked w.log b.shown) same
    ∙ sym b.printed

-- the world of a printing is genuine
pub genuine_replay : (asked : Bool) (text bytes : List ℕ) (status : ℕ) (replay : PrintsReplay asked text bytes status)
    → IsGenuineWorld replay.script replay.printing.world
genuine_replay asked text bytes status replay =
    world_genuine replay.script replay.script.commands replay.printing.world
    (script_in-within text replay.script replay.spelled) replay.printing.of_script

same_replays : (asked : Bool) (text bytes others : List ℕ) (status other : ℕ) → PrintsReplay asked text bytes status
    → PrintsReplay asked text others other → (bytes ≡ others) × (status ≡ other)
same_replays asked text bytes others status other a b =
    let same : a.script ≡ b.script =
    same_ok a.script b.script
    (sym a.spelled ∙ b.spelled) in
    let printing = subst (λ (s : Script). IsPrinting s asked bytes) same a.printing in (
      one_printing b.script asked bytes others (script_in-within text b.script b.spelled) printing b.printing,
      a.done ∙ sym b.done,
    )

same_faults : (text bytes others : List ℕ) (status other : ℕ) → PrintsFault text bytes status
    → PrintsFault text others other → (bytes ≡ others) × (status ≡ other)
same_faults text bytes others status other a b =
    let same : (a.number, a.fault) ≡ (b.number, b.fault) =
    same_err (a.number, a.fault) (b.number, b.fault)
    (sym a.first ∙ b.first) in
    (a.printed ∙ ap (λ (e : ℕ × LineFault). printed_fault e.0 e.1) same ∙ sym b.printed, a.refused ∙ sym b.refused)

-- a text that spells a script has no fault
not_both : (asked : Bool) (text bytes others : List ℕ) (status other : ℕ) → PrintsReplay asked text bytes status
    → PrintsFault text others other → ⊥
not_both asked text bytes others status other a b =
    ok_is_no_err a.script (b.number, b.fault)
    (sym a.spelled ∙ b.first)

one_case : (asked : Bool) (text bytes others : List ℕ) (status other : ℕ)
    → PrintsReplay asked text bytes status ⊎ PrintsFault text bytes status
    → PrintsReplay asked text others other ⊎ PrintsFault text others other
    → (bytes ≡ others) × (status ≡ other)
one_case asked text bytes others status other (inl a) (inl b) = same_replays asked text bytes others status other a b
one_case asked text bytes others status other (inl a) (inr b) =
    absurd (not_both asked text bytes others status other a b)
one_case asked text bytes others status other (inr a) (inl b) =
    absurd (not_both asked text others bytes other status b a)
one_case asked text bytes others status other (inr a) (inr b) = same_faults text bytes others status other a b

pub one_replay : (asked : Bool) (text bytes others : List ℕ) (status other : ℕ) → ReplayGives asked text bytes status
    → ReplayGives asked text others other → (bytes ≡ others) × (status ≡ other)
one_replay asked text bytes others status other a b = one_case asked text bytes others status other
    (cases_given asked text bytes status a) (cases_given asked text others other b)
