-- The texts of new rings, one after the other.
use Rattle.std.proofs.Common.{◌≡◌, ◌∙◌, ℕ, ◌+◌, ◌<◌, List, [], ◌∷◌, ◌++◌, length, get_or, drop, flat_map, All, sym, ap}
use Rattle.std.proofs.Common.{add-one, append-nil, arith}
use Rattle.std.proofs.Math.Seq.{drop-cons}
use Rattle.std.specs.List.{enumerate_from}
use Rattle.trace_model.specs.Ring.{Core, IsStart}
use Rattle.world_model.specs.Lanes.{Lane, IsNewLane}
use Rattle.step_model.specs.RunTexts.{new_ring_text}
use Rattle.step_text.proofs.OneAfterOne.{written_next}

-- the text of the rings from this CPU on
abbrev pub rings_text_from : ℕ → List Lane → List ℕ
rings_text_from cpu lanes = flat_map (λ pair. new_ring_text pair.0 pair.1.core) (enumerate_from cpu (drop cpu lanes))

next_lane : (lanes : List Lane) (i : ℕ) (d : Lane) → i < length lanes
    → enumerate_from i (drop i lanes) ≡ ((i, get_or lanes i d) ∷ []) ++ enumerate_from (i + 1) (drop (i + 1) lanes)
next_lane lanes i d h =
    ap (enumerate_from i) (drop-cons lanes i d h)
    ∙ ap (λ k. (i, get_or lanes i d) ∷ enumerate_from (i + 1) (drop k lanes)) (sym (add-one i))

pub one_ring_more : (n start : ℕ) (lanes : List Lane) (i : ℕ) (out more whole : List ℕ) → i < length lanes
    → All (IsNewLane n start) lanes → ((c : Core) → IsStart n start c → more ≡ out ++ new_ring_text i c)
    → out ++ rings_text_from i lanes ≡ whole → more ++ rings_text_from (i + 1) lanes ≡ whole
one_ring_more n start [] i out more whole within new each was = absurd (omega arith)
one_ring_more n start (lane ∷ lanes) i out more whole within new each was =
    let here = get_or (lane ∷ lanes) i lane in
    written_next (λ pair. new_ring_text pair.0 pair.1.core) out more whole
    (enumerate_from i (drop i (lane ∷ lanes)))
    ((i, here) ∷ [])
    (enumerate_from (i + 1) (drop (i + 1) (lane ∷ lanes)))
    was
    (next_lane (lane ∷ lanes) i lane within)
    (each here.core (new i lane within).0 ∙ ap (λ text. out ++ text) (sym (append-nil (new_ring_text i here.core))))
