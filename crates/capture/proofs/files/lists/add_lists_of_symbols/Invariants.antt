use Rattle.std.proofs.Common.{ℕ, List, ◌++◌, map, take}
use Rattle.kernel_names.specs.SymbolNames.{HasSymbols}
use Rattle.capture.specs.files.Files.{lines_of}
use Rattle.capture.proofs.files.lists.add_lists_of_symbols.Given as goal

abbrev pub invariant-loop-text : goal.invariant-loop-text
invariant-loop-text l =
    (known : List (List ℕ)) → HasSymbols l.fn.symbols known
    → HasSymbols l.symbols (known ++ lines_of (map (λ text. text.now) (take l.text-index l.texts)))
