-- The first of what can still come of several CPUs.
use Rattle.std.proofs.Common.{◌≡◌, ⊎_elim, ◌⊎◌, ℕ, ◌<◌, ◌≤◌, ◌-◌, ◌^◌, inl, inr, true, List, length}
use Rattle.std.proofs.Common.{get_or, sym, subst, arith}
use Rattle.std.proofs.lemmas.Bool.{cases_lt}
use Rattle.line_follower.specs.declared.bounds.Progress.{Progress}
use Rattle.line_follower.specs.declared.bounds.Front.{Front}
use Rattle.line_follower.specs.declared.lines.Place.{Place}
use Rattle.line_follower.specs.Known.{IsUpTo, IsFinal}
use Rattle.line_follower.specs.Inside.{IsAt, IsFront}

up_to_end : (m c : ℕ) → m < 2 ^ 64 → c < 2 ^ 64 → (m < 2 ^ 64 - 1) ⊎ ((m ≡ 2 ^ 64 - 1) × (c ≤ 2 ^ 64 - 1))
up_to_end m c small few =
    ⊎_elim (λ (lt : m < 2 ^ 64 - 1). inl lt) (λ (ge : 2 ^ 64 - 1 ≤ m). inr (omega arith, omega arith))
    (cases_lt m (2 ^ 64 - 1))

up_to_one : (place : Place) (front : Front) (progress : Progress) (cpu : ℕ) → IsAt front progress cpu
    → IsUpTo place progress.bound.0 cpu
    → IsUpTo place front.moment front.cpu
up_to_one place front progress cpu at up =
    subst (λ (m : ℕ). IsUpTo place m front.cpu) (sym at.moment)
    (subst (λ (c : ℕ). IsUpTo place progress.bound.0 c) (sym at.cpu_is) up)

some_progress : Progress
some_progress = record { bound = record { 0 = 0 }; seen = record { 0 = 0 }; is_open = true }

-- and nothing else
pub front_from_final : (cpus : List Progress) (front : Front) (place : Place) → place.moment.0 < 2 ^ 64
    → place.cpu.0 < 2 ^ 64
    → IsFront cpus front
    → IsFinal cpus place
    → IsUpTo place front.moment front.cpu
front_from_final cpus front place small few is final = ⊎_elim
    (λ (end : (front.moment ≡ 2 ^ 64 - 1) × (front.cpu ≡ 2 ^ 64 - 1)).
    subst (λ (m : ℕ). IsUpTo place m front.cpu) (sym end.0)
    (subst (λ (c : ℕ). IsUpTo place (2 ^ 64 - 1) c) (sym end.1) (up_to_end place.moment.0 place.cpu.0 small few)))
    (λ (one : (cpu : ℕ) × (cpu < length cpus) × ((d : Progress) → IsAt front (get_or cpus cpu d) cpu)).
    let at = one.2 some_progress in
    up_to_one place front (get_or cpus one.0 some_progress) one.0 at (final one.0 one.1 some_progress at.is_open))
    is.of_one
