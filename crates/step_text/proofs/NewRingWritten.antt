-- The text of a new ring, by what is kept of it.
use Rattle.std.proofs.Common.{◌≡◌, ◌∙◌, ℕ, ◌%◌, List, [], ◌∷◌, ◌++◌, length, flat_map, codes, ap, append_assoc}
use Rattle.std.specs.Fmt.{decimal}
use Rattle.text_model.specs.Text.{line_feed}
use Rattle.trace_model.specs.Ring.{Core}
use Rattle.link_marks.specs.ModelLinks.{link_of}
use Rattle.step_model.specs.Seen.{Change, reader_is, spare_link_is}
use Rattle.step_model.specs.Changes.{all_counts, all_links, all_pages}
use Rattle.step_model.specs.StepTexts.{change_text, key_line, spaced}
use Rattle.step_model.specs.RunTexts.{new_ring_text}
use Rattle.step_text.specs.Seen.{counts_in, reader_in}
use Rattle.step_text.specs.Known.{KnownValue, IsKnownOf}

-- all keys of a ring of which this is kept, and its first fill
abbrev pub keys_in : KnownValue → List Change
keys_in known =
    all_links 0 known.links ++ spare_link_is (link_of known.parts.spare_link) ∷ all_pages 0 known.order
    ++ all_counts (counts_in known.parts.counts) ++ reader_is (reader_in known.parts.reader) ∷ []

abbrev pub first_fill_in : KnownValue → List ℕ
first_fill_in known =
    key_line (codes "fill" ++ spaced known.parts.counts.head)
    (decimal (known.parts.counts.head % length known.order) ++ spaced 0)

regroup : (out name keys fill : List ℕ)
    → ((out ++ (name ++ line_feed ∷ [])) ++ keys) ++ fill ≡ out ++ ((name ++ line_feed ∷ keys) ++ fill)
regroup out name keys fill = simp append_assoc

pub ring_written : (cpu : ℕ) (known : KnownValue) (c : Core) (out named keyed filled : List ℕ) → IsKnownOf known c
    → named ≡ out ++ (codes "- c" ++ decimal cpu ++ codes " new" ++ line_feed ∷ [])
    → keyed ≡ named ++ flat_map change_text (keys_in known) → filled ≡ keyed ++ first_fill_in known
    → filled ≡ out ++ new_ring_text cpu c
ring_written cpu known c out named keyed filled k names keys fills =
    fills
    ∙ ap (λ text. text ++ first_fill_in known)
    (keys ∙ ap (λ text. text ++ flat_map change_text (keys_in known)) names)
    ∙ regroup out (codes "- c" ++ decimal cpu ++ codes " new") (flat_map change_text (keys_in known))
    (first_fill_in known)
    ∙ (λ i.
    out ++ (codes "- c" ++ decimal cpu ++ codes " new" ++ line_feed ∷ flat_map change_text (
    all_links 0 (k.links i) ++ spare_link_is (k.parts.spare_link i) ∷ all_pages 0 (k.order i)
    ++ all_counts (k.parts.counts i) ++ reader_is (k.parts.reader i) ∷ [])
    ++ key_line (codes "fill" ++ spaced (k.parts.counts i).head)
    (decimal ((k.parts.counts i).head % length (k.order i)) ++ spaced 0)))
