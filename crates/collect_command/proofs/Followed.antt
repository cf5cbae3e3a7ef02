-- What a listing of inputs that are read while they are written stands on.
use Rattle.std.proofs.Common.{◌≡◌, ℕ, Bool, List, Option, inl, inr, sym, subst}
use Rattle.collect_command.specs.Following.{IsFollowed}
use Rattle.collect_command.specs.Listings.{AreTexts}
use Rattle.collect_command.specs.declared.collect.Texts.{Texts}
use Rattle.collect_command.specs.declared.follow.LiveCollected.{LiveCollected}
use Rattle.kernel_names.specs.declared.symbol_names.SymbolNames.{SymbolNames}
use Rattle.kernel_names.specs.declared.tasks.TaskNames.{TaskNames}
use Rattle.trace_model.specs.declared.numbers.CpuId.{CpuId}
use Rattle.trace_dat.specs.Contents.{EventFormat}
use Rattle.trace_dat.specs.declared.kernel_texts.names.EventNames.{EventNames}
use Rattle.trace_dat.specs.kernel_texts.Names.{HasEvents}
use Rattle.live_listing.specs.declared.following.Happening.{Happening}
use Rattle.capture_text.specs.declared.form.Form.{Form}
use Rattle.capture_text.specs.Lent.{tasks_lent, symbols_lent}
use Rattle.capture_text.specs.Printing.{Detail as LineDetail}
use Rattle.capture_text.specs.Printed.{AreTasks, AreSymbols}
use Rattle.capture_text.specs.Selection.{Selected}

-- what names records is what was given
pub texts_given : (texts : Texts) (names : EventNames) (formats : List EventFormat) (own_tasks : Option TaskNames)
    (own_symbols : Option SymbolNames) (tasks symbols : Option (List (List ℕ)))
    → texts.names.now ≡ names
    → tasks_lent texts.tasks ≡ own_tasks
    → symbols_lent texts.symbols ≡ own_symbols
    → HasEvents names formats
    → AreTasks own_tasks tasks
    → AreSymbols own_symbols symbols
    → AreTexts texts formats tasks symbols
texts_given texts names formats own_tasks own_symbols tasks symbols same_names same_tasks same_symbols names_are
    tasks_are symbols_are = record {
      names_are = subst (λ (n : EventNames). HasEvents n formats) (sym same_names) names_are;
      tasks_are = subst (λ (t : Option TaskNames). AreTasks t tasks) (sym same_tasks) tasks_are;
      symbols_are = subst (λ (s : Option SymbolNames). AreSymbols s symbols) (sym same_symbols) symbols_are;
    }

-- whether the pattern names no event is said of the same listing
pub with_unnamed : {S : Type 0} {gives : S → Happening → S → Type 0} {cpus : List CpuId} {size : ℕ} {form : Form}
    {detail : LineDetail} {selected : Selected} {source source_now : S} {contents after : Option (List ℕ)}
    {failed : Bool} (is_unnamed : Bool) (collected : LiveCollected)
    → IsFollowed gives cpus size form detail selected source source_now contents after failed collected
    → IsFollowed gives cpus size form detail selected source source_now contents after failed
    (record { listed = record collected.listed { is_unnamed = is_unnamed }; late = collected.late })
with_unnamed is_unnamed collected is = record {
  told = elim is.told [
    | inl all ↦ inl (record {
      sound = all.sound;
      printer = all.printer;
      nothing = all.nothing;
      printer_now = all.printer_now;
      followed = all.followed;
      follows = all.follows;
      ending_is = all.ending_is;
      late_is = all.late_is;
      cut_is = all.cut_is;
      malformed_are = all.malformed_are;
    })
    | inr part ↦ inr (record {
      printer = part.printer;
      nothing = part.nothing;
      printer_now = part.printer_now;
      between = part.between;
      had_failed = part.had_failed;
      part = part.part;
      stop = part.stop;
      told = part.told;
      none_late = part.none_late;
      none_cut = part.none_cut;
      none_malformed = part.none_malformed;
    })
  ];
}
