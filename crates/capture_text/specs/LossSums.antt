-- The line of the losses of a CPU in sum.
use Rattle.std.specs.Prelude.{ℕ, suc, ◌-◌, ◌^◌, ◌==◌, ◌&&◌, not, Bool, if◌then◌else◌, List, [], ◌∷◌, ◌++◌, codes}
use Rattle.std.specs.Prelude.{sum_by}
use Rattle.std.specs.Fmt.{decimal}
use Rattle.text_model.specs.Text.{line_feed, space}
use Rattle.capture_text.specs.declared.form.Form.{Form}
use Rattle.capture_text.specs.declared.form.Form.TheVariants.{Text, Json}
use Rattle.capture_text.specs.declared.sums.RingLosses.{RingLosses}
use Rattle.capture_text.specs.Selection.{Selected, is_marked}

-- how many numbers runs have, each of which is given by its first and its last one
abbrev pub run_length : ℕ × ℕ → ℕ
run_length run = suc run.1 - run.0

abbrev pub missing_count : List (ℕ × ℕ) → ℕ
missing_count runs = sum_by run_length runs

-- The losses of a CPU in sum: how many numbers are missing, how many losses of unknown number there are, and what the
-- kernel counted of its ring.
abbrev pub sum_line : Form → (cpu missing unknown : ℕ) → RingLosses → List ℕ
sum_line Text cpu missing unknown ring =
    codes "losses " ++ decimal cpu ++ space ∷ decimal missing ++ space ∷ decimal unknown
    ++ space ∷ decimal ring.overrun ++ space ∷ decimal ring.commit_overrun ++ space ∷ decimal ring.dropped
    ++ line_feed ∷ []
sum_line Json cpu missing unknown ring =
    codes "{\"losses\":{\"cpu\":" ++ decimal cpu ++ codes ",\"missing\":" ++ decimal missing
    ++ codes ",\"unknown\":" ++ decimal unknown ++ codes ",\"overrun\":" ++ decimal ring.overrun
    ++ codes ",\"commit_overrun\":" ++ decimal ring.commit_overrun ++ codes ",\"dropped\":" ++ decimal ring.dropped
    ++ codes "}}" ++ line_feed ∷ []

-- all moments are selected
abbrev pub has_all_moments : Selected → Bool
has_all_moments selected = selected.since == 0 && selected.until == 2 ^ 64 - 1

-- nothing was lost
abbrev pub is_no_loss : (missing unknown : ℕ) → RingLosses → Bool
is_no_loss missing unknown ring =
    missing == 0 && (unknown == 0 && (ring.overrun == 0 && (ring.commit_overrun == 0 && ring.dropped == 0)))

-- The line is listed if the CPU is, something was lost, and all moments are selected: it is of the whole.
abbrev pub listed_sum : Form → Selected → (cpu missing unknown : ℕ) → RingLosses → List ℕ
listed_sum form selected cpu missing unknown ring =
    if is_marked selected.cpus cpu && (has_all_moments selected && not (is_no_loss missing unknown ring))
    then sum_line form cpu missing unknown ring else []
