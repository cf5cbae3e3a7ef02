-- The fill of the first round at a position.
use Rattle.std.proofs.Common.{◌≡◌, ◌≢◌, ℕ, ◌+◌, ◌-◌, ◌%◌, ◌<◌, ◌≤◌, sym, ap, ◌∙◌, subst, mod-lt, mod-eq_of_lt, arith}
use Rattle.std.proofs.Math.Nat.{add-mod_right, add-mod-mod, mod-add-mod}
use Rattle.trace_model.specs.declared.limits.TheConstants.{MAX_PAGES, LINK_FILLS}
use Rattle.trace_model.specs.Links.{Mark, Link, normal_link, header_link, FitsWord}
use Rattle.trace_model.proofs.Positions.{one_position}
use Rattle.link_marks.specs.FirstLinks.{IsFirstLink}

abbrev pub first_fill : (n start position : ℕ) → ℕ
first_fill n start position = start + (position + n - start % n) % n

module _ (n start position : ℕ) (low : position < n) where
  lies_there : first_fill n start position % n ≡ position
  lies_there = let within = mod-lt start (let some : 1 ≤ n = omega arith in some) in
      add-mod-mod start (position + n - start % n) n
      ∙ sym (mod-add-mod start n (position + n - start % n))
      ∙ ap (λ (k : ℕ). k % n) (let sum : start % n + (position + n - start % n) ≡ position + n = omega arith in sum)
      ∙ add-mod_right position n
      ∙ mod-eq_of_lt low

  is_it : (f : ℕ) → start ≤ f → f < start + n → f % n ≡ position → first_fill n start position ≡ f
  is_it f from to at = let within = mod-lt (position + n - start % n) (let some : 1 ≤ n = omega arith in some) in
      one_position start n (first_fill n start position) f (omega arith) (omega arith) from to (lies_there ∙ sym at)

  pub first_header : (link : Link) → first_fill n start position ≡ start
      → link ≡ header_link position (first_fill n start position) → IsFirstLink n start position link
  first_header link is at = record {
    first = λ e. at ∙ ap (header_link position) is;
    others = λ f from to there. let same = is_it f (omega arith) to there in absurd (omega arith);
  }

  pub first_normal : (link : Link) → first_fill n start position ≢ start
      → link ≡ normal_link position (first_fill n start position) → IsFirstLink n start position link
  first_normal link ne at = record {
    first = λ e. absurd (ne (is_it start (omega arith) (omega arith) (sym e)));
    others = λ f from to there. at ∙ ap (normal_link position) (is_it f (omega arith) to there);
  }

  -- both fit a word
  first_below : start + n < LINK_FILLS → first_fill n start position < LINK_FILLS
  first_below numbers = let within = mod-lt (position + n - start % n) (let some : 1 ≤ n = omega arith in some) in
      omega arith

  pub first_fits : n ≤ MAX_PAGES → start + n < LINK_FILLS → (mark : Mark) (link : Link)
      → link ≡ record { mark = mark; page = position; fill = first_fill n start position } → FitsWord link
  first_fits most numbers mark link at = let below = first_below numbers in
      subst FitsWord (sym at) record { page_fits = omega arith; fill_fits = below }
