-- What is final stays final.
use Rattle.std.proofs.Common.{◌≡◌, ⊎_elim, ℕ, ◌<◌, ◌≤◌, inl, inr, true, false, List, [], ◌∷◌, ◌++◌, max}
use Rattle.std.proofs.Common.{length, get_or, set, refl, sym, ap, subst, ◌∙◌, arith, length-set}
use Rattle.std.proofs.lemmas.Bool.{cases_lt, cases_eq}
use Rattle.std.proofs.lemmas.List.{get_or-set_other}
use Rattle.std.proofs.lemmas.Grind.{get_or-set_at}
use Rattle.line_follower.specs.declared.bounds.Progress.{Progress}
use Rattle.line_follower.specs.declared.lines.Place.{Place}
use Rattle.line_follower.specs.declared.lines.Line.{Line}
use Rattle.line_follower.specs.Known.{Known, Event, page, quiet, ended, known_after, greatest_of, unknown, read_by}
use Rattle.line_follower.specs.Known.{quiet_by, ended_by, with_cpu, IsUpTo, IsFinal}
use Rattle.line_follower.specs.Runs.{known_from}
use Rattle.line_follower.proofs.Orders.{up_to_trans}

at_least : {T : Type 0} (least : ℕ) (lines : List (Line T)) → least ≤ greatest_of least lines
at_least least [] = omega arith
at_least least (line ∷ lines) = let more = at_least (max least line.place.moment.0) lines in omega arith

up_to_more : (place : Place) (moment more cpu : ℕ) → moment ≤ more → IsUpTo place moment cpu → IsUpTo place more cpu
up_to_more place moment more cpu h up =
    up_to_trans place.moment.0 place.cpu.0 moment cpu more cpu up
    (⊎_elim (λ (lt : moment < more). inl lt) (λ (ge : more ≤ moment). inr (omega arith, omega arith))
    (cases_lt moment more))

final_kept : (cpus : List Progress) (at : ℕ) (change : Progress → Progress) (place : Place)
    → ((p : Progress) → p.bound.0 ≤ (change p).bound.0)
    → ((p : Progress) → (change p).is_open ≡ true → p.is_open ≡ true)
    → IsFinal cpus place
    → IsFinal (with_cpu cpus at change) place
final_kept cpus at change place grows keeps final = λ cpu lt d still.
    let new = change (get_or cpus at unknown) in
    let within : cpu < length cpus = subst (λ (n : ℕ). cpu < n) (length-set cpus at new) lt in
    ⊎_elim
    (λ (here : cpu ≡ at).
    let there : at < length cpus = omega arith in
    let is : get_or (set cpus at new) cpu d ≡ new = get_or-set_at cpus at cpu new d here there in
    let opened : new.is_open ≡ true = ap (λ (p : Progress). p.is_open) (sym is) ∙ still in
    subst (λ (p : Progress). IsUpTo place p.bound.0 cpu) (sym is)
    (up_to_more place (get_or cpus at unknown).bound.0 new.bound.0 cpu (grows (get_or cpus at unknown))
    (subst (λ (n : ℕ). IsUpTo place (get_or cpus at unknown).bound.0 n) (sym here)
    (final at there unknown (keeps (get_or cpus at unknown) opened)))))
    (λ (other : cpu ≡ at → ⊥).
    let is : get_or (set cpus at new) cpu d ≡ get_or cpus cpu d = get_or-set_other cpus at cpu new d other in
    subst (λ (p : Progress). IsUpTo place p.bound.0 cpu) (sym is)
    (final cpu within d (ap (λ (p : Progress). p.is_open) (sym is) ∙ still)))
    (cases_eq cpu at)

-- whatever happens, what is final stays final
pub stays_final : {T : Type 0} (known : Known) (event : Event T) (place : Place) → IsFinal known.cpus place
    → IsFinal (known_after known event).cpus place
stays_final {T} known (page cpu lines) place final =
    final_kept known.cpus cpu (read_by lines) place (λ p. at_least p.bound.0 lines) (λ p h. h) final
stays_final {T} known (quiet cpu) place final =
    final_kept known.cpus cpu (quiet_by known.greatest) place (λ p. omega arith) (λ p h. h) final
stays_final {T} known (ended cpu) place final =
    final_kept known.cpus cpu ended_by place (λ p. omega arith)
    (λ p h. let wrong : false ≡ true = h in cc) final

-- what is known after one more event
pub one_more_known : {T : Type 0} (known : Known) (events : List (Event T)) (event : Event T)
    → known_from known (events ++ event ∷ []) ≡ known_after (known_from known events) event
one_more_known known [] event = refl
one_more_known known (first ∷ events) event = one_more_known (known_after known first) events event
