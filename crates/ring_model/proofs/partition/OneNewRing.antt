-- There is one new ring of n positions for each number of its first fill.
use Rattle.std.proofs.Common.{◌≡◌, ◌≢◌, ℕ, zero, suc, ◌+◌, ◌%◌, ◌<◌, ◌≤◌, ◌⊎◌, inl, inr, if◌then◌else◌, ◌==◌, List, []}
use Rattle.std.proofs.Common.{◌∷◌, length, get_or, refl, sym, ap, ◌∙◌, subst, mod-lt, arith}
use Rattle.std.proofs.lemmas.Bool.{cases_lt, eq-eqb, ne_eqb}
use Rattle.std.proofs.lemmas.List.{ext_get_or}
use mathlib.Core.Logic.{dite}
use native.Mathlib.Decide.{ℕ_discrete}
use Rattle.trace_model.specs.Links.{Link, normal_link, header_link}
use Rattle.trace_model.specs.Ring.{first_reader, Core, IsStart, link_into}
use Rattle.ring_model.specs.RingLaws.{NewRingIsOne}
use Rattle.trace_model.proofs.Positions.{at_position, one_position}

-- ---- lists by their entries

made : {A : Type 0} → (ℕ → A) → (from count : ℕ) → List A
made f from zero = []
made f from (suc count) = f from ∷ made f (suc from) count

made_length : {A : Type 0} (f : ℕ → A) (from count : ℕ) → length (made f from count) ≡ count
unfolding made
made_length f from zero = refl
made_length f from (suc count) = ap suc (made_length f (suc from) count)

made_at : {A : Type 0} (f : ℕ → A) (from count i : ℕ) (d : A) → i < count
    → get_or (made f from count) i d ≡ f (from + i)
unfolding made
made_at f from zero i d low = absurd (omega arith)
made_at f from (suc count) zero d low = ap f (let e : from ≡ from + 0 = omega arith in e)
made_at f from (suc count) (suc i) d low =
    made_at f (suc from) count i d (omega arith) ∙ ap f (let e : suc from + i ≡ from + suc i = omega arith in e)

-- ---- the new ring

-- the first round's fill at a position
fill_by : (n start position : ℕ) → (position < n) ⊎ (n ≤ position) → ℕ
fill_by n start position (inl low) = (at_position start n position low).0
fill_by n start position (inr past) = 0

fill_at : ℕ → ℕ → ℕ → ℕ
fill_at n start position = fill_by n start position (cases_lt position n)

fill_by_is : (n start f : ℕ) → 1 ≤ n → start ≤ f → f < start + n → (side : (f % n < n) ⊎ (n ≤ f % n))
    → fill_by n start (f % n) side ≡ f
unfolding fill_by
fill_by_is n start f some low high (inl below) = let (g, g_low, g_high, position) = at_position start n (f % n) below in
    one_position start n g f g_low g_high low high position
fill_by_is n start f some low high (inr past) = let below = mod-lt f some in absurd (omega arith)

fill_at_is : (n start f : ℕ) → 1 ≤ n → start ≤ f → f < start + n → fill_at n start (f % n) ≡ f
unfolding fill_at
fill_at_is n start f some low high = fill_by_is n start f some low high (cases_lt (f % n) n)

link_of : ℕ → ℕ → ℕ → Link
link_of start position fill = if fill == start then header_link position fill else normal_link position fill

link_first : (start position : ℕ) → link_of start position start ≡ header_link position start
unfolding link_of
link_first start position =
    ap (λ b. if b then header_link position start else normal_link position start) (eq-eqb start start refl)

link_else : (start position fill : ℕ) → fill ≢ start → link_of start position fill ≡ normal_link position fill
unfolding link_of
link_else start position fill ne =
    ap (λ b. if b then header_link position fill else normal_link position fill) (ne_eqb fill start ne)

link_at : ℕ → ℕ → ℕ → Link
link_at n start position = link_of start position (fill_at n start position)

abbrev new_ring : ℕ → ℕ → Core
new_ring n start = record {
  links = made (link_at n start) 0 n;
  order = made (λ position. position) 0 n;
  spare = n;
  spare_link = normal_link 0 0;
  head = start;
  done = start;
  opened = start + 1;
  wish = 0;
  frames = [];
  open_pages = (start % n) ∷ [];
  reader = first_reader start;
  held = made (λ page. record { first = 0; records = [] }) 0 (n + 1);
  history = [];
}

module _ (n start : ℕ) (some : 1 ≤ n) where
  link_is : (f : ℕ) → start ≤ f → f < start + n → link_into n (made (link_at n start) 0 n) f ≡ link_of start (f % n) f
  unfolding link_at
  link_is f low high =
      made_at (link_at n start) 0 n (f % n) (normal_link 0 0) (mod-lt f some)
      ∙ ap (link_at n start) (let e : 0 + f % n ≡ f % n = omega arith in e)
      ∙ ap (link_of start (f % n)) (fill_at_is n start f some low high)

  new_ring_starts : IsStart n start (new_ring n start)
  new_ring_starts = record {
    positions = made_length (link_at n start) 0 n;
    first_link = link_is start (omega arith) (omega arith) ∙ link_first start (start % n);
    links = λ f low high. link_is f (omega arith) high ∙ link_else start (f % n) f (λ e. omega arith);
    pages = made_length (λ position. position) 0 n;
    order = λ position low. made_at (λ p. p) 0 n position 0 low ∙ (let e : 0 + position ≡ position = omega arith in e);
    spare = refl;
    spare_link = refl;
    head = refl;
    done = refl;
    opened = refl;
    wish = refl;
    frames = refl;
    open_pages = refl;
    reader = refl;
    bodies = made_length (λ page. record { first = 0; records = [] }) 0 (n + 1);
    held =
        λ page low.
        made_at (λ p. record { first = 0; records = [] }) 0 (n + 1) page record { first = 0; records = [] } low;
    history = refl;
  }

  -- ---- any other is the same

  module _ (c d : Core) (s : IsStart n start c) (t : IsStart n start d) where
    links_same : c.links ≡ d.links
    links_same =
        ext_get_or (normal_link 0 0) c.links d.links (s.positions ∙ sym t.positions)
        (λ i low. let wide = s.positions in same i (omega arith))
      where
        same : (i : ℕ) → i < n → get_or c.links i (normal_link 0 0) ≡ get_or d.links i (normal_link 0 0)
        same i low = let (f, f_low, f_high, position) = at_position start n i low in
            subst (λ (j : ℕ). get_or c.links j (normal_link 0 0) ≡ get_or d.links j (normal_link 0 0)) position
            (dite (ℕ_discrete f start)
            (λ e. ap (link_into n c.links) e ∙ s.first_link ∙ sym t.first_link ∙ ap (link_into n d.links) (sym e))
            (λ ne. s.links f (omega arith) f_high ∙ sym (t.links f (omega arith) f_high)))

    order_same : c.order ≡ d.order
    order_same =
        ext_get_or 0 c.order d.order (s.pages ∙ sym t.pages)
        (λ i low. let wide = s.pages in s.order i (omega arith) ∙ sym (t.order i (omega arith)))

    held_same : c.held ≡ d.held
    held_same =
        ext_get_or record { first = 0; records = [] } c.held d.held (s.bodies ∙ sym t.bodies)
        (λ i low. let wide = s.bodies in s.held i (omega arith) ∙ sym (t.held i (omega arith)))

    pub same_ring : c ≡ d
    same_ring = λ i. record {
      links = links_same i;
      order = order_same i;
      spare = (s.spare ∙ sym t.spare) i;
      spare_link = (s.spare_link ∙ sym t.spare_link) i;
      head = (s.head ∙ sym t.head) i;
      done = (s.done ∙ sym t.done) i;
      opened = (s.opened ∙ sym t.opened) i;
      wish = (s.wish ∙ sym t.wish) i;
      frames = (s.frames ∙ sym t.frames) i;
      open_pages = (s.open_pages ∙ sym t.open_pages) i;
      reader = (s.reader ∙ sym t.reader) i;
      held = held_same i;
      history = (s.history ∙ sym t.history) i;
    }

pub new_ring_is_one : NewRingIsOne
new_ring_is_one n start some = (
  new_ring n start,
  new_ring_starts n start some,
  λ other t. same_ring n start some other (new_ring n start) t (new_ring_starts n start some),
)
