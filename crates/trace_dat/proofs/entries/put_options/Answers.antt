use Rattle.std.proofs.Common.{◌≡◌, ◌∷◌, [], ◌++◌, Some, None, Ok, map, sym, subst, ap, ◌∙◌}
use Rattle.std.proofs.lemmas.Result.{err_from_is_err_and}
use Rattle.std.proofs.lemmas.List.{map_push}
use Rattle.std.specs.Option.{option_map}
use Rattle.trace_dat.specs.Parts.{seen}
use Rattle.trace_dat.specs.Fields.{with_front}
use Rattle.trace_dat.specs.Entries.{option_seen, option_at, options_at}
use Rattle.trace_dat.proofs.OptionLoop.{IsReadTo, options_start, option_goes_on, options_end, option_fails}
use Rattle.trace_dat.proofs.entries.put_options.Goals as goal

pub loop-option-init : goal.loop-option-init
loop-option-init c = options_start (map option_seen c.args.options.now.items) (seen c.args.part)

pub returns-in_err-option : goal.returns-in_err-option
returns-in_err-option c =
    let p = err_from_is_err_and c.from_residual.result c.from_residual.ensures.1 in
    rw (p.1, p.2) (option_fails (map option_seen c.loop-option.options.items) (seen c.loop-option.rest)
    c.in_err-option.field-0.0 _ c.in_err-option.ensures.gives c.loop-option.invariant)

pub returns-in_default : goal.returns-in_default
returns-in_default c =
    let e : option_at (seen c.loop-option.rest) ≡ Ok (None, seen c.in_ok-option.behind) =
    c.in_ok-option.ensures.gives
    ∙ ap (λ o. Ok (option_map option_seen o, seen c.in_ok-option.behind)) c.in_default.is in
    options_end (map option_seen c.loop-option.options.items) (seen c.loop-option.rest) (seen c.in_ok-option.behind) _
    e c.loop-option.invariant

pub loop-option-preserved : goal.loop-option-preserved
loop-option-preserved c =
    let e : option_at (seen c.loop-option.rest) ≡ Ok (Some (option_seen c.in-Some.option), seen c.in_ok-option.behind) =
    c.in_ok-option.ensures.gives ∙ ap (λ o. Ok (option_map option_seen o, seen c.in_ok-option.behind)) c.in-Some.is in
    let more : map option_seen c.push.new.self.items
    ≡ map option_seen c.loop-option.options.items ++ option_seen c.in-Some.option ∷ [] =
    rw c.in_ok-push.ensures.items (map_push _ c.loop-option.options.items c.in-Some.option) in
    subst (λ xs. IsReadTo xs (seen c.in_ok-option.behind)
    (with_front (map option_seen c.args.options.now.items) (options_at (seen c.args.part)))) (sym more)
    (option_goes_on (map option_seen c.loop-option.options.items) (seen c.loop-option.rest) (seen c.in_ok-option.behind)
    (option_seen c.in-Some.option) _ e c.in_ok-option.ensures.shorter c.loop-option.invariant)
