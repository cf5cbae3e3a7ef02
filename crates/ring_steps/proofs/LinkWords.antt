-- The words of a ring, as the link into one of its positions is set.
use Rattle.std.proofs.Common.{◌≡◌, ◌≢◌, ℕ, ◌+◌, ◌-◌, ◌%◌, ◌<◌, ◌≤◌, List, length, get_or, set, sym, ap, ◌∙◌, mod-lt}
use Rattle.std.proofs.Common.{arith, length-set}
use Rattle.std.proofs.Math.Nat.{add-mod_right, mod-add-mod}
use Rattle.std.proofs.lemmas.List.{get_or-set_same, get_or-set_other}
use mathlib.Core.Logic.{dite}
use native.Mathlib.Decide.{ℕ_discrete}
use Rattle.trace_model.specs.Links.{Link, word_of, normal_link}
use Rattle.trace_model.specs.Ring.{Core, AreApart, links_with}
use Rattle.ring_steps.specs.Shown.{page_before, AreWords}
use Rattle.ring_steps.specs.Words.{opened_word, done_word, wish_word, page_word}

-- ---- two fills, and the positions before theirs

shifted : (n k f g : ℕ) → f % n ≡ g % n → (f + k) % n ≡ (g + k) % n
shifted n k f g e = sym (mod-add-mod f n k) ∙ (ap (λ (i : ℕ). (i + k) % n) e ∙ mod-add-mod g n k)

-- fills at one position have one before them
pub one_before : (n f g : ℕ) → 1 ≤ n → f % n ≡ g % n → (f + n - 1) % n ≡ (g + n - 1) % n
one_before n f g some e =
    ap (λ (i : ℕ). i % n) (let s : f + n - 1 ≡ f + (n - 1) = omega arith in s)
    ∙ (shifted n (n - 1) f g e ∙ ap (λ (i : ℕ). i % n) (let s : g + (n - 1) ≡ g + n - 1 = omega arith in s))

-- and the other way round
pub one_behind : (n f g : ℕ) → 1 ≤ n → (f + n - 1) % n ≡ (g + n - 1) % n → f % n ≡ g % n
one_behind n f g some e =
    sym (add-mod_right f n)
    ∙ (ap (λ (i : ℕ). i % n) (let s : f + n ≡ f + n - 1 + 1 = omega arith in s)
    ∙ (shifted n 1 (f + n - 1) (g + n - 1) e
    ∙ (ap (λ (i : ℕ). i % n) (let s : g + n - 1 + 1 ≡ g + n = omega arith in s) ∙ add-mod_right g n)))

-- the links into different positions are on different pages
pub befores_differ : (n : ℕ) (order : List ℕ) (spare f g : ℕ) → 1 ≤ n → AreApart n order spare → f % n ≢ g % n
    → page_before n order f ≢ page_before n order g
befores_differ n order spare f g some a ne same =
    ne (one_behind n f g some
    (a.differ ((f + n - 1) % n) ((g + n - 1) % n) (mod-lt (f + n - 1) some) (mod-lt (g + n - 1) some) same))

pub before_below : (n : ℕ) (order : List ℕ) (spare f : ℕ) → 1 ≤ n → AreApart n order spare
    → page_before n order f < n + 1
before_below n order spare f some a = a.each ((f + n - 1) % n) (mod-lt (f + n - 1) some)

-- ---- a link is set

pub with_link_word : (n : ℕ) (c : Core) (words : List ℕ) (f : ℕ) (l : Link)
    → 1 ≤ n
    → length c.links ≡ n
    → AreApart n c.order c.spare
    → AreWords n c words
    → AreWords n (record c { links = links_with n c.links f l })
    (set words (page_word (page_before n c.order f)) (word_of l))
with_link_word n c words f l some wide apart a =
    let word : ℕ = page_word (page_before n c.order f) in
    let count = a.count in
    let below = before_below n c.order c.spare f some apart in record {
      count = length-set words word (word_of l) ∙ a.count;
      opened = get_or-set_other words word opened_word (word_of l) 0 (λ e. omega arith) ∙ a.opened;
      done = get_or-set_other words word done_word (word_of l) 0 (λ e. omega arith) ∙ a.done;
      wish = get_or-set_other words word wish_word (word_of l) 0 (λ e. omega arith) ∙ a.wish;
      links = λ g. dite (ℕ_discrete (g % n) (f % n))
          (λ e.
          ap (λ (i : ℕ). get_or (set words word (word_of l)) (page_word (get_or c.order i 0)) 0)
          (one_before n g f some e)
          ∙ (get_or-set_same words word (word_of l) 0 (omega arith)
          ∙ ap word_of (sym (ap (λ (i : ℕ). get_or (links_with n c.links f l) i (normal_link 0 0)) e
          ∙ get_or-set_same c.links (f % n) l (normal_link 0 0) (let low : f % n < n = mod-lt f some in omega arith)))))
          (λ ne. get_or-set_other words word (page_word (page_before n c.order g)) (word_of l) 0
          (λ e.
          befores_differ n c.order c.spare g f some apart ne
          (let s : page_before n c.order g ≡ page_before n c.order f = omega arith in s))
          ∙ (a.links g ∙ ap word_of (sym (get_or-set_other c.links (f % n) (g % n) l (normal_link 0 0) ne))));
      spare = get_or-set_other words word (page_word c.spare) (word_of l) 0
          (λ e.
          apart.spare_differs ((f + n - 1) % n) (mod-lt (f + n - 1) some)
          (let s : page_before n c.order f ≡ c.spare = omega arith in s))
          ∙ a.spare;
    }
