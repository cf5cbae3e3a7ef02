use Rattle.std.proofs.Common.{◌≡◌, ap, [], map, subst, ◌∙◌, Err, rules, ◌⊎◌, inl, inr}
use Rattle.clap.specs.Words.{App, HasMatchesOf, app_of, fault_of, found_of, is_simple_and_free, kind_of}
use Rattle.command_line.specs.CommandLine.{IsAccepted, command_line}
use Rattle.command_line.proofs.CommandLineLemmas.{collect_call-words, command_line_is_free, failed-words}
use Rattle.command_line.proofs.CommandLineLemmas.{no_collect-words}
use Rattle.command_line.proofs.parse.parse_words.Goals as goal

only : {P : Type 0} → P ⊎ ⊥ → P
only (inl p) = p
only (inr none) = absurd none

pub returns-in_err-matches : goal.returns-in_err-matches
returns-in_err-matches g c =
    let built : app_of c.in_ok-program.field-0 ≡ command_line = c.in_ok-program.ensures in
    let free = ap is_simple_and_free built ∙ command_line_is_free in
    let kinds = c.in_err-matches.ensures.kinds free in
    let words = map g.S.AsStr.text c.args.words.now in
    failed-words words c.from_residual-in_err-matches.result (kind_of c.in_err-matches.field-0.0)
    c.from_residual-in_err-matches.ensures.1
    (λ accepted. let none : fault_of (app_of c.in_ok-program.field-0) words ≡ [] =
    ap (λ (a : App). fault_of a words) built ∙ accepted in
    only (rw none at kinds))

pub returns-in-Ok : goal.returns-in-Ok
returns-in-Ok g c =
    let words = map g.S.AsStr.text c.args.words.now in
    let built : app_of c.in_ok-program.field-0 ≡ command_line = c.in_ok-program.ensures in
    let m = c.in_ok-matches.matches in
    let has : HasMatchesOf command_line words m =
    subst (λ (a : App). HasMatchesOf a words m) built c.in_ok-matches.ensures.matches in
    let accepted : IsAccepted words =
    subst (λ (a : App). fault_of a words ≡ []) built
    (c.in_ok-matches.ensures.kinds (ap is_simple_and_free built ∙ command_line_is_free)) in
    collect_call-words words m (found_of c.in-Some.found.now) c.in-Ok.call has accepted (search rules)
    c.in-Some.ensures.rows c.in-Ok.ensures.asked c.in-Ok.ensures.together

pub returns-in-Some : goal.returns-in-Some
returns-in-Some g c =
    let words = map g.S.AsStr.text c.args.words.now in
    let built : app_of c.in_ok-program.field-0 ≡ command_line = c.in_ok-program.ensures in
    let m = c.in_ok-matches.matches in
    let has : HasMatchesOf command_line words m =
    subst (λ (a : App). HasMatchesOf a words m) built c.in_ok-matches.ensures.matches in
    no_collect-words words m (found_of c.in-Some.found.now) c.in-Err.fault has (search rules) c.in-Some.ensures.rows
    (λ is. c.collect_call.ensures.unread (c.in-Err.is ∙ ap Err is))

pub returns : goal.returns
returns g c =
    let words = map g.S.AsStr.text c.args.words.now in
    let built : app_of c.in_ok-program.field-0 ≡ command_line = c.in_ok-program.ensures in
    let m = c.in_ok-matches.matches in
    let has : HasMatchesOf command_line words m =
    subst (λ (a : App). HasMatchesOf a words m) built c.in_ok-matches.ensures.matches in
    let accepted : IsAccepted words =
    subst (λ (a : App). fault_of a words ≡ []) built
    (c.in_ok-matches.ensures.kinds (ap is_simple_and_free built ∙ command_line_is_free)) in
    c.other_call.ensures words has accepted (search rules)
