-- Fills and positions: of n fills in a row exactly one is at each of n positions.
use Rattle.std.proofs.Common.{◌≡◌, ◌≢◌, ℕ, zero, suc, ◌+◌, ◌%◌, ◌<◌, ◌≤◌, List, length, get_or, set, refl, sym, ap, ◌∙◌}
use Rattle.std.proofs.Common.{mod-lt, mod-eq_of_lt, arith}
use Rattle.std.proofs.Math.Nat.{add-mod_right}
use Rattle.std.proofs.lemmas.List.{get_or-set_same, get_or-set_other}
use mathlib.Core.Logic.{dite}
use native.Mathlib.Decide.{ℕ_discrete}
use Rattle.trace_model.specs.Links.{Link, normal_link}
use Rattle.trace_model.specs.Ring.{link_into, links_with, page_at}

-- each position has one of n fills in a row
pub at_position : (h n p : ℕ) → p < n → (f : ℕ) × (h ≤ f) × (f < h + n) × (f % n ≡ p)
at_position zero n p below = (p, omega arith, omega arith, mod-eq_of_lt below)
at_position (suc h) n p below = let (f, low, high, at) = at_position h n p below in
    dite (ℕ_discrete f h) (λ e. (f + n, omega arith, omega arith, add-mod_right f n ∙ at))
    (λ e. (f, omega arith, omega arith, at))

-- the fill at the position of a fill, one turn earlier if that is the last of the row
earlier : (h n f : ℕ) → suc h ≤ f → f < suc h + n
    → (g : ℕ) × (h ≤ g) × (g < h + n) × (g % n ≡ f % n) × ((f ≡ h + n) → g ≡ h) × ((f ≢ h + n) → g ≡ f)
earlier h n f low high = dite (ℕ_discrete f (h + n))
    (λ e. (
      h,
      omega arith,
      omega arith,
      sym (ap (λ (k : ℕ). k % n) e ∙ add-mod_right h n),
      (λ _. refl),
      (λ ne. absurd (ne e)),
    ))
    (λ ne. (f, omega arith, omega arith, refl, (λ e. absurd (ne e)), (λ _. refl)))

pub one_position : (h n f g : ℕ) → h ≤ f → f < h + n → h ≤ g → g < h + n → f % n ≡ g % n → f ≡ g
one_position zero n f g lf hf lg hg e =
    sym (mod-eq_of_lt (let p : f < n = omega arith in p)) ∙ e ∙ mod-eq_of_lt (let p : g < n = omega arith in p)
one_position (suc h) n f g lf hf lg hg e =
    let (f', lf', hf', ef, f_last, f_else) = earlier h n f lf hf in
    let (g', lg', hg', eg, g_last, g_else) = earlier h n g lg hg in
    let same : f' ≡ g' = one_position h n f' g' lf' hf' lg' hg' (ef ∙ e ∙ sym eg) in
    dite (ℕ_discrete f (h + n))
    (λ is.
    dite (ℕ_discrete g (h + n)) (λ it. is ∙ sym it)
    (λ ne. let a : f' ≡ h = f_last is in let b : g' ≡ g = g_else ne in absurd (omega arith)))
    (λ ne.
    dite (ℕ_discrete g (h + n))
    (λ it. let a : f' ≡ f = f_else ne in let b : g' ≡ h = g_last it in absurd (omega arith))
    (λ it. sym (f_else ne) ∙ same ∙ g_else it))

-- two fills of the row lie at different positions
pub apart : (h n f g : ℕ) → h ≤ f → f < h + n → h ≤ g → g < h + n → f ≢ g → f % n ≢ g % n
apart h n f g lf hf lg hg ne e = ne (one_position h n f g lf hf lg hg e)

-- ---- links

pub link_round : (n : ℕ) (links : List Link) (f : ℕ) → link_into n links (f + n) ≡ link_into n links f
link_round n links f = ap (λ (k : ℕ). get_or links k (normal_link 0 0)) (add-mod_right f n)

pub page_turn : (n : ℕ) (order : List ℕ) (f : ℕ) → page_at n order (f + n) ≡ page_at n order f
page_turn n order f = ap (λ (k : ℕ). get_or order k 0) (add-mod_right f n)

pub link_here : (n : ℕ) (links : List Link) (f : ℕ) (l : Link) → 1 ≤ n → length links ≡ n
    → link_into n (links_with n links f l) f ≡ l
link_here n links f l some wide =
    get_or-set_same links (f % n) l (normal_link 0 0) (let low : f % n < n = mod-lt f some in omega arith)

pub link_else : (h n : ℕ) (links : List Link) (f g : ℕ) (l : Link) → h ≤ f → f < h + n → h ≤ g → g < h + n → f ≢ g
    → link_into n (links_with n links g l) f ≡ link_into n links f
link_else h n links f g l lf hf lg hg ne =
    get_or-set_other links (g % n) (f % n) l (normal_link 0 0) (apart h n f g lf hf lg hg ne)

-- ---- the order of pages

pub page_here : (n : ℕ) (order : List ℕ) (f p : ℕ) → 1 ≤ n → length order ≡ n → page_at n (set order (f % n) p) f ≡ p
page_here n order f p some wide = get_or-set_same order (f % n) p 0 (let low : f % n < n = mod-lt f some in omega arith)

pub page_else : (h n : ℕ) (order : List ℕ) (f g p : ℕ) → h ≤ f → f < h + n → h ≤ g → g < h + n → f ≢ g
    → page_at n (set order (g % n) p) f ≡ page_at n order f
page_else h n order f g p lf hf lg hg ne = get_or-set_other order (g % n) (f % n) p 0 (apart h n f g lf hf lg hg ne)
