use Rattle.std.proofs.Common.{[], refl, sym, ap, subst}
use Rattle.kernel_names.specs.Tasks.{HasTasks}
use Rattle.kernel_names.specs.SymbolNames.{HasSymbols}
use Rattle.capture.proofs.NameLists.{wanted-none}
use Rattle.capture.specs.files.Captures.{texts_held}
use Rattle.capture.proofs.FilesMore.{as-captured}
use Rattle.capture.proofs.files.inputs.new_captured.Goals as goal

pub returns-clause-none : goal.returns-clause-none
returns-clause-none c = λ page name. record {
  parts = [];
  parts_are = refl;
  cpus_are = as-captured [] _ c.in_ok-new_cpus.ensures;
  names_are = c.new.ensures;
  others_are = ap texts_held c.new-2.ensures.items;
  found_is = refl;
  tasks_are = subst (HasTasks c.new-3.result) (sym (wanted-none c.args.wanted.tasks)) c.new-3.ensures;
  symbols_are = subst (HasSymbols c.new-4.result) (sym (wanted-none c.args.wanted.symbols)) c.new-4.ensures;
  machine_is = refl;
  cut_is = refl;
  of_one = refl;
}
