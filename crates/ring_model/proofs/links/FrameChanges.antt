-- The frames change, and no word of the ring.
use Rattle.std.proofs.Common.{◌≡◌, ℕ, ◌+◌, ◌<◌, ◌≤◌, ◌⊎◌, List, [], ◌∷◌, ◌++◌, map, Option, Some, None, refl, sym, ◌∙◌}
use Rattle.std.proofs.Common.{subst, inl, inr, ⊎_elim, arith}
use Rattle.std.specs.Prelude.{◌==◌}
use Rattle.std.proofs.lemmas.Bool.{cond_both, eqb-false}
use Rattle.trace_model.specs.History.{HistoryEvent, leave}
use Rattle.trace_model.specs.Links.{Link}
use Rattle.trace_model.specs.Frames.{Purpose, for_record, for_close, Progress, waiting, reserved, left, Phase, idle}
use Rattle.trace_model.specs.Frames.{releasing, wishing, Frame, owned_update}
use Rattle.trace_model.specs.Ring.{PageRecords, Core}
use Rattle.trace_model.specs.Steps.{after_leave, after_begin, closing_phase, held_with_payload, own_number}
use Rattle.ring_model.specs.KeptLinks.{HasMover, MoversDiffer, PhaseKept, FramesKept, LinkKept, is_normal, is_header}
use Rattle.ring_model.specs.KeptLinks.{is_update, LinksKept}
use Rattle.ring_model.proofs.links.FramePhases.{none_some, knows_idle, knows_releasing, knows_wishing}

pub link_stays : (n : ℕ) (links : List Link) (order : List ℕ) (head : ℕ) (frames frames' : List Frame) (f : ℕ)
    → ((g : ℕ) → HasMover frames g → HasMover frames' g) → LinkKept n links order head frames f
    → LinkKept n links order head frames' f
link_stays n links order head frames frames' f stays (is_normal e owed) =
    is_normal e (λ at. let (lost, is, st) = owed at in (lost, is, stays (lost + n) st))
link_stays n links order head frames frames' f stays (is_header e here) = is_header e here
link_stays n links order head frames frames' f stays (is_update lost sum e st) = is_update lost sum e (stays f st)

-- other frames, which own the same UPDATEs
pub restacked : (n : ℕ) (c : Core) (frames : List Frame) (held : List PageRecords) (history : List HistoryEvent)
    → LinksKept n c → FramesKept n c.links c.order c.head c.done c.opened frames → MoversDiffer frames
    → ((f : ℕ) → HasMover c.frames f → HasMover frames f)
    → LinksKept n (record c { frames = frames; held = held; history = history })
restacked n c frames held history k kept differ stays =
    assumption (
      (λ (f : ℕ) (low : c.head ≤ f) (high : f < c.head + n).
          link_stays n c.links c.order c.head c.frames frames f stays (k.each f low high)),
      kept,
      differ,
      k,
    )

module _ (n : ℕ) (c : Core) (frame : Frame) (below : List Frame) (k : LinksKept n c) (top : c.frames ≡ frame ∷ below)
  where
    pub top_kept : PhaseKept n c.links c.order c.head c.done c.opened frame.phase
    top_kept = (subst (FramesKept n c.links c.order c.head c.done c.opened) top k.frames).0

    pub below_kept : FramesKept n c.links c.order c.head c.done c.opened below
    below_kept = (subst (FramesKept n c.links c.order c.head c.done c.opened) top k.frames).1

    pub top_alone : (f : ℕ) → owned_update frame.phase ≡ Some f → HasMover below f → ⊥
    top_alone = (subst MoversDiffer top k.movers).0

    pub below_differ : MoversDiffer below
    below_differ = (subst MoversDiffer top k.movers).1

    pub stands_top : (f : ℕ) → HasMover c.frames f → (owned_update frame.phase ≡ Some f) ⊎ HasMover below f
    stands_top f st = subst (λ (fs : List Frame). HasMover fs f) top st

    -- the frame on top goes on, with the UPDATE that it had
    pub rephased : (next : Frame) (held : List PageRecords) (history : List HistoryEvent)
        → PhaseKept n c.links c.order c.head c.done c.opened next.phase
        → owned_update next.phase ≡ owned_update frame.phase
        → LinksKept n (record c { frames = next ∷ below; held = held; history = history })
    rephased next held history facts same = restacked n c (next ∷ below) held history k (facts, below_kept)
        ((λ f at st. top_alone f (sym same ∙ at) st), below_differ)
        (λ f st. ⊎_elim (λ at. inl (same ∙ at)) (λ b. inr b) (stands_top f st))

    -- the frame on top owns no UPDATE, and is gone
    pub popped : (held : List PageRecords) (history : List HistoryEvent) → owned_update frame.phase ≡ None
        → LinksKept n (record c { frames = below; held = held; history = history })
    popped held history none =
        restacked n c below held history k below_kept below_differ
        (λ f st. ⊎_elim (λ at. absurd (none_some (sym none ∙ at))) (λ b. b) (stands_top f st))

-- what a frame that has left knows, if it closes fills or looks for a wish
pub knows_closing : (n : ℕ) (c : Core) → LinksKept n c
    → PhaseKept n c.links c.order c.head c.done c.opened (closing_phase c)
knows_closing n c k = let behind = k.done_lt in
    cond_both ((c.done + 1) == c.opened) wishing releasing (PhaseKept n c.links c.order c.head c.done c.opened)
    (λ last. knows_wishing n c.links c.order c.head c.done c.opened)
    (λ more. let ne = eqb-false (c.done + 1) c.opened more in
    knows_releasing n c.links c.order c.head c.done c.opened (omega arith))

pub closing_owns : (c : Core) → owned_update (closing_phase c) ≡ None
closing_owns c =
    cond_both ((c.done + 1) == c.opened) wishing releasing (λ (p : Phase). owned_update p ≡ None) (λ _. refl)
    (λ _. refl)

-- The frame on top owns no UPDATE, and leaves.
pub leaves_kept : (n : ℕ) (c : Core) (frame : Frame) (below : List Frame) (payload : Option (List ℕ)) → LinksKept n c
    → c.frames ≡ frame ∷ below → owned_update frame.phase ≡ None → LinksKept n (after_leave c frame below payload)
leaves_kept n c frame [] payload k top none =
    rephased n c frame [] k top (record frame { state = left; phase = closing_phase c })
    (map (held_with_payload (own_number frame.kind frame.state) payload) c.held) (c.history ++ leave payload ∷ [])
    (knows_closing n c k) (closing_owns c ∙ sym none)
leaves_kept n c frame (next ∷ below) payload k top none =
    popped n c frame (next ∷ below) k top (map (held_with_payload (own_number frame.kind frame.state) payload) c.held)
    (c.history ++ leave payload ∷ []) none

-- A fill was begun by another frame: the one on top tries again, or leaves, or goes on to close fills.
pub after_begin_kept : (n : ℕ) (c : Core) (kind : Purpose) (state : Progress) (frame : Frame) (below : List Frame)
    → LinksKept n c → c.frames ≡ frame ∷ below → owned_update frame.phase ≡ None
    → LinksKept n (after_begin kind state c frame below)
after_begin_kept n c (for_record moment len) waiting frame below k top none =
    rephased n c frame below k top (record frame { phase = idle }) c.held c.history
    (knows_idle n c.links c.order c.head c.done c.opened) (sym none)
after_begin_kept n c for_close waiting frame below k top none = leaves_kept n c frame below None k top none
after_begin_kept n c kind (reserved number) frame below k top none =
    rephased n c frame below k top (record frame { phase = idle }) c.held c.history
    (knows_idle n c.links c.order c.head c.done c.opened) (sym none)
after_begin_kept n c kind left frame below k top none =
    rephased n c frame below k top (record frame { phase = closing_phase c }) c.held c.history (knows_closing n c k)
    (closing_owns c ∙ sym none)
