use Rattle.std.proofs.Common.{◌≡◌, ◌++◌, drop, map}
use Rattle.trace_dat.specs.kernel_texts.Counters.{texts_from, texts_of}
use Rattle.trace_dat.proofs.kernel_texts.counters.counters_of.Given as goal

abbrev pub invariant-loop-text : goal.invariant-loop-text
invariant-loop-text l =
    map (λ text. text.now) l.own.items
    ++ texts_from l.buffer l.name (map (λ text. text.now) (drop l.text-index l.texts))
    ≡ texts_of l.name (map (λ text. text.now) l.texts)
