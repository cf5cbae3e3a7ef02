use Rattle.std.proofs.Common.{◌++◌, map, take, sym, subst, append-nil}
use Rattle.std.proofs.lemmas.List.{take_all}
use Rattle.kernel_names.specs.SymbolNames.{HasSymbols}
use Rattle.capture.specs.files.Files.{lines_of}
use Rattle.capture.proofs.NameLists.{lines-next}
use Rattle.capture.proofs.files.lists.add_lists_of_symbols.Goals as goal

pub loop-text-init : goal.loop-text-init
loop-text-init c = λ known has. subst (HasSymbols c.args.symbols.now) (sym (append-nil known)) has

pub loop-text-preserved : goal.loop-text-preserved
loop-text-preserved c = λ known has.
    subst (HasSymbols c.add.new.self)
    (lines-next (λ text. text.now) known c.args.texts.now c.loop-text.text-index _ c.loop-text-test.true)
    (c.in_ok-add.ensures
    (known ++ lines_of (map (λ text. text.now) (take c.loop-text.text-index c.args.texts.now)))
    (c.loop-text.invariant known has))

pub returns : goal.returns
returns c = λ known has.
    subst (λ texts. HasSymbols c.loop-text.symbols (known ++ lines_of (map (λ text. text.now) texts)))
    (take_all c.loop-text.text-index c.args.texts.now c.loop-text-test.false) (c.loop-text.invariant known has)
