-- What is written of lists, one element after the other.
use Rattle.std.proofs.Common.{◌≡◌, ◌∙◌, ℕ, Bool, true, false, ◌+◌, ◌<◌, ◌≤◌, ◌==◌, min, List, [], ◌∷◌, ◌++◌, length}
use Rattle.std.proofs.Common.{map, get_or, drop, flat_map, refl, sym, ap, ap₂, append_assoc, add-one, append-nil, arith}
use Rattle.std.proofs.Math.Seq.{drop-cons}
use Rattle.std.proofs.lemmas.Grind.{flat_map-append}
use Rattle.std.proofs.lemmas.Bool.{false≢true, true≢false}
use Rattle.trace_model.specs.Links.{same_link}
use Rattle.link_marks.specs.declared.link.Link.{Link}
use Rattle.link_marks.specs.declared.link.Mark.TheVariants.{Normal}
use Rattle.link_marks.specs.ModelLinks.{link_of}
use Rattle.step_model.specs.Seen.{Change, link_is, page_is}
use Rattle.step_model.specs.Changes.{all_links, all_pages, link_changes, page_changes, unless_same}
use Rattle.step_model.specs.StepTexts.{change_text}

-- what is read past the end of links
abbrev pub past_end : Link
past_end = record { mark = Normal; page = 0; fill = 0 }

-- what is left to write begins with these, and they are written
pub written_next : {X : Type 0} (f : X → List ℕ) (out more whole : List ℕ) (rest next later : List X)
    → out ++ flat_map f rest ≡ whole → rest ≡ next ++ later → more ≡ out ++ flat_map f next
    → more ++ flat_map f later ≡ whole
written_next f out more whole rest next later was begins is =
    ap (λ o. o ++ flat_map f later) is ∙ append_assoc out (flat_map f next) (flat_map f later)
    ∙ ap (λ r. out ++ r) (sym (flat_map-append f next later)) ∙ ap (λ r. out ++ flat_map f r) (sym begins) ∙ was

-- these are written, and then those
pub written_both : {X : Type 0} (f : X → List ℕ) (out between more : List ℕ) (first second : List X)
    → between ≡ out ++ flat_map f first → more ≡ between ++ flat_map f second
    → more ≡ out ++ flat_map f (first ++ second)
written_both f out between more first second a b =
    b ∙ ap (λ o. o ++ flat_map f second) a ∙ append_assoc out (flat_map f first) (flat_map f second)
    ∙ ap (λ text. out ++ text) (sym (flat_map-append f first second))

-- these are written, and then this one
pub written_one : (out between more : List ℕ) (before : List Change) (change : Change)
    → between ≡ out ++ flat_map change_text before → more ≡ between ++ change_text change
    → more ≡ out ++ flat_map change_text (before ++ change ∷ [])
written_one out between more before change a b =
    written_both change_text out between more before (change ∷ []) a
    (b ∙ ap (λ line. between ++ line) (sym (append-nil (change_text change))))

-- a change is written, unless nothing is new
pub written_new : (out more : List ℕ) (same : Bool) (change : Change) → same ≡ false → more ≡ out ++ change_text change
    → more ≡ out ++ flat_map change_text (unless_same same change)
written_new out more true change new is = absurd (true≢false new)
written_new out more false change new is = is ∙ ap (λ line. out ++ line) (sym (append-nil (change_text change)))

pub written_same : (out more : List ℕ) (same : Bool) (change : Change) → same ≡ true → more ≡ out
    → more ≡ out ++ flat_map change_text (unless_same same change)
written_same out more true change old is = is ∙ sym (append-nil out)
written_same out more false change old is = absurd (false≢true old)

-- ---- all of them

pub next_link : (links : List Link) (i : ℕ) (d : Link) → i < length links
    → all_links i (map link_of (drop i links))
    ≡ (link_is i (link_of (get_or links i d)) ∷ []) ++ all_links (i + 1) (map link_of (drop (i + 1) links))
next_link links i d h = rw add-one (ap (λ ls. all_links i (map link_of ls)) (drop-cons links i d h))

pub next_page : (pages : List ℕ) (i d : ℕ) → i < length pages
    → all_pages i (drop i pages) ≡ (page_is i (get_or pages i d) ∷ []) ++ all_pages (i + 1) (drop (i + 1) pages)
next_page pages i d h = rw add-one (ap (all_pages i) (drop-cons pages i d h))

-- ---- those that are new

pub next_link_change : (olds news : List Link) (i : ℕ) (d : Link) → i < min (length olds) (length news)
    → link_changes i (map link_of (drop i olds)) (map link_of (drop i news))
    ≡ unless_same (same_link (link_of (get_or olds i d)) (link_of (get_or news i d)))
    (link_is i (link_of (get_or news i d)))
    ++ link_changes (i + 1) (map link_of (drop (i + 1) olds)) (map link_of (drop (i + 1) news))
next_link_change olds news i d h =
    rw add-one
    (ap₂ (λ xs ys. link_changes i (map link_of xs) (map link_of ys)) (drop-cons olds i d (omega arith))
    (drop-cons news i d (omega arith)))

pub next_page_change : (olds news : List ℕ) (i d : ℕ) → i < min (length olds) (length news)
    → page_changes i (drop i olds) (drop i news)
    ≡ unless_same (get_or olds i d == get_or news i d) (page_is i (get_or news i d))
    ++ page_changes (i + 1) (drop (i + 1) olds) (drop (i + 1) news)
next_page_change olds news i d h =
    rw add-one (ap₂ (page_changes i) (drop-cons olds i d (omega arith)) (drop-cons news i d (omega arith)))

-- none are left
pub no_link_changes : (i : ℕ) (olds news : List Link) → min (length olds) (length news) ≤ 0
    → link_changes i (map link_of olds) (map link_of news) ≡ []
no_link_changes i [] news none = refl
no_link_changes i (old ∷ olds) [] none = refl
no_link_changes i (old ∷ olds) (new ∷ news) none = absurd (omega arith)

pub no_page_changes : (i : ℕ) (olds news : List ℕ) → min (length olds) (length news) ≤ 0 → page_changes i olds news ≡ []
no_page_changes i [] news none = refl
no_page_changes i (old ∷ olds) [] none = refl
no_page_changes i (old ∷ olds) (new ∷ news) none = absurd (omega arith)
