use Rattle.std.proofs.Common.{rules, ◌≡◌, ◌+◌, ◌-◌, drop, Some, None, ap, sym, ◌∙◌, arith}
use Rattle.std.specs.Option.{option_map}
use Rattle.kernel_names.specs.Symbols.{name_at}
use Rattle.kernel_names.specs.SymbolNames.{known_name, symbol_seen}
use Rattle.kernel_names.proofs.SymbolPlaces.{none_up_to, name_at_or_below}
use Rattle.kernel_names.proofs.symbol_names.SymbolNames.symbol_at.Goals as goal

pub name_from-requires : goal.name_from-requires
name_from-requires c =
    let ended = c.args.self.now.ended c.in_ok-start.start c.in_ok-start.at c.in_ok-start.ensures.there in
    omega (arith, ended, c.as_slice.ensures.len)

pub returns-in_err-start-clause-name : goal.returns-in_err-start-clause-name
returns-in_err-start-clause-name c =
    let names = c.args.self.now.names.items in
    let none : c.from_residual.result ≡ None = search rules in
    ap (option_map symbol_seen) none
    ∙ sym (none_up_to (known_name c.args.self.now) c.args.address
    (λ q below. ap (option_map (λ at. name_at (drop at names))) (c.in_err-start.ensures.none q below)))

pub returns-clause-name : goal.returns-clause-name
returns-clause-name c =
    let names = c.args.self.now.names.items in
    let start = c.in_ok-start.start in
    let up_to = c.in_ok-start.ensures.up_to in
    let sum : start + (c.args.address - start) ≡ c.args.address = omega (arith, up_to) in
    let name : name_at (drop c.in_ok-start.at names) ≡ c.name_from.result.now =
    ap (λ ns. name_at (drop c.in_ok-start.at ns)) (sym c.as_slice.ensures.value) ∙ sym c.name_from.ensures in
    sym (name_at_or_below (known_name c.args.self.now) start c.name_from.result.now (c.args.address - start)
    c.args.address sum
    (ap (option_map (λ at. name_at (drop at names))) c.in_ok-start.ensures.there ∙ ap (λ n. Some n) name)
    (λ q behind below. ap (option_map (λ at. name_at (drop at names))) (c.in_ok-start.ensures.last q behind below)))
