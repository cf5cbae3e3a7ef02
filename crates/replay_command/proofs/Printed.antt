-- What is stated of collectors is stated of what was delivered to them, since they have and miss the same; so what is
-- printed of them is the printing of the script's world.
use Rattle.std.proofs.Common.{◌≡◌, ℕ, zero, suc, Bool, List, [], ◌∷◌, length, Some, refl, ap, ◌∙◌, arith}
use Rattle.std.specs.List.{slice_get, AllZip}
use Rattle.trace_model.specs.Parcel.{Parcel}
use Rattle.trace_model.specs.Collection.{IsSame}
use Rattle.text_model.specs.Log.{LogLine}
use Rattle.text_model.specs.Script.{Script}
use Rattle.world_model.specs.Printing.{Shown, printed_world}
use Rattle.collector_text.specs.Prints.{IsPrintOf}
use Rattle.collector_text.proofs.OneText.{same_are_reported}
use Rattle.script_replay.specs.declared.log.line.LogLine as logged
use Rattle.script_replay.specs.log.LogTypes.{shown_log}
use Rattle.script_replay.specs.Replay.{IsHeadline}
use Rattle.replay_command.specs.Commands.{IsPrinting}

pub all_report : (collectors delivered : List (List Parcel)) (shown : List Shown) → length collectors ≡ length delivered
    → ((collector : ℕ) (kept parcels : List Parcel) → slice_get collectors collector ≡ Some kept
    → slice_get delivered collector ≡ Some parcels → IsSame kept parcels)
    → AllZip IsPrintOf collectors shown → AllZip IsPrintOf delivered shown
all_report [] [] [] count same all = tt
all_report [] [] (s ∷ shown) count same all = absurd all
all_report [] (d ∷ delivered) shown count same all = absurd (omega arith)
all_report (c ∷ collectors) [] shown count same all = absurd (omega arith)
all_report (c ∷ collectors) (d ∷ delivered) [] count same all = absurd all
all_report (c ∷ collectors) (d ∷ delivered) (s ∷ shown) count same all = (
  same_are_reported c d s (same zero c d refl refl) all.0,
  all_report collectors delivered shown (omega arith) (λ k kept parcels at bt. same (suc k) kept parcels at bt) all.1,
)

pub printing : (script : Script) (collectors : List (List Parcel)) (log : List logged.LogLine) (asked : Bool)
    (bytes : List ℕ)
    → IsHeadline script collectors log
    → (shown : List Shown) × AllZip IsPrintOf collectors shown × (bytes ≡ printed_world asked (shown_log log) shown)
    → IsPrinting script asked bytes
printing script collectors log asked bytes h (shown, reported, printed) = record {
  world = h.world;
  of_script = h.replay.world;
  shown = shown;
  reported = all_report collectors h.world.delivered shown h.replay.collectors_are.count
      (λ k kept parcels at bt. (h.replay.collectors_are.each k kept parcels at bt).same) reported;
  printed = printed ∙ ap (λ (lines : List LogLine). printed_world asked lines shown) h.replay.log_is;
}
