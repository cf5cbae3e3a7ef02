-- What keys make of what is seen of a ring, one kind of key after the other.
use Rattle.std.proofs.Common.{◌≡◌, ℕ, suc, ◌+◌, ◌-◌, ◌<◌, ◌≤◌, Bool, true, false, ◌&&◌, ◌==◌, List, [], ◌∷◌, ◌++◌}
use Rattle.std.proofs.Common.{length, drop, refl, sym, ap, ◌∙◌, arith, length-append, append_assoc}
use Rattle.std.specs.Prelude.{slice_set}
use Rattle.std.proofs.lemmas.Bool.{cond-true, cond-false, eqb-true, lt-ltb, le-ltb, and_parts}
use Rattle.std.proofs.lemmas.List.Sums.{fold-append}
use Rattle.std.proofs.Math.Seq.{set-append_seam}
use Rattle.trace_model.specs.Links.{Link, same_link}
use Rattle.trace_model.specs.Frames.{Purpose, Progress, waiting, Phase, idle, Frame}
use Rattle.trace_model.proofs.steps.StepSound.{same_link_true}
use Rattle.step_model.specs.Seen.{ReaderSeen, CountsSeen, RingSeen, CountKey, spare_key, done_key, opened_key, wish_key}
use Rattle.step_model.specs.Seen.{head_key, committed_key, Change, link_is, spare_link_is, page_is, count_is, phase_is}
use Rattle.step_model.specs.Seen.{reader_is, frames_below, with_top_at, assigned, all_assigned}
use Rattle.step_model.specs.Changes.{same_state, same_phase, same_reader, unless_same, link_changes, page_changes}
use Rattle.step_model.specs.Changes.{count_change, count_changes, frame_changes, all_links, all_pages}
use Rattle.step_model.proofs.StepMoves.{frame_in}
use Rattle.step_model.proofs.SameSeen.{state_is, phase_is_one, reader_is_one}

-- some keys, and then more
pub and_then : (some more : List Change) (v w x : RingSeen) → all_assigned some v ≡ w → all_assigned more w ≡ x
    → all_assigned (some ++ more) v ≡ x
and_then some more v w x first second =
    fold-append (λ (w : RingSeen) (change : Change). assigned change w) v some more ∙ ap (all_assigned more) first
    ∙ second

-- a key, unless its value is the same
pub unless : (same : Bool) (change : Change) (v w : RingSeen) → (same ≡ true → v ≡ w) → assigned change v ≡ w
    → all_assigned (unless_same same change) v ≡ w
unless true change v w stays is = stays refl
unless false change v w stays is = is

module _ (v : RingSeen) where
  -- ---- links

  abbrev pub with_links : List Link → RingSeen
  with_links links = record v { links = links }

  pub links_lead : (position : ℕ) (front olds news : List Link) → position ≡ length front → length olds ≡ length news
      → all_assigned (link_changes position olds news) (with_links (front ++ olds)) ≡ with_links (front ++ news)
  links_lead position front [] [] at same = refl
  links_lead position front [] (new ∷ news) at same = absurd (omega arith)
  links_lead position front (old ∷ olds) [] at same = absurd (omega arith)
  links_lead position front (old ∷ olds) (new ∷ news) at same =
      and_then (unless_same (same_link old new) (link_is position new)) (link_changes (suc position) olds news)
      (with_links (front ++ old ∷ olds)) (with_links (front ++ new ∷ olds)) (with_links (front ++ new ∷ news))
      (unless (same_link old new) (link_is position new) (with_links (front ++ old ∷ olds))
      (with_links (front ++ new ∷ olds))
      (λ e. ap (λ (l : Link). with_links (front ++ l ∷ olds)) (same_link_true old new e))
      (ap with_links (ap (λ (k : ℕ). slice_set (front ++ old ∷ olds) k new) at ∙ set-append_seam front old olds new)))
      (ap (λ (l : List Link). all_assigned (link_changes (suc position) olds news) (with_links l))
      (sym (append_assoc front (new ∷ []) olds))
      ∙ links_lead (suc position) (front ++ new ∷ []) olds news (omega (arith, length-append front (new ∷ [])))
      (omega arith)
      ∙ ap with_links (append_assoc front (new ∷ []) news))

  pub links_all : (position : ℕ) (front olds news : List Link) → position ≡ length front → length olds ≡ length news
      → all_assigned (all_links position news) (with_links (front ++ olds)) ≡ with_links (front ++ news)
  links_all position front [] [] at same = refl
  links_all position front [] (new ∷ news) at same = absurd (omega arith)
  links_all position front (old ∷ olds) [] at same = absurd (omega arith)
  links_all position front (old ∷ olds) (new ∷ news) at same =
      ap (λ (l : List Link). all_assigned (all_links (suc position) news) (with_links l))
      (ap (λ (k : ℕ). slice_set (front ++ old ∷ olds) k new) at ∙ set-append_seam front old olds new
      ∙ sym (append_assoc front (new ∷ []) olds))
      ∙ links_all (suc position) (front ++ new ∷ []) olds news (omega (arith, length-append front (new ∷ [])))
      (omega arith)
      ∙ ap with_links (append_assoc front (new ∷ []) news)

  -- ---- pages

  abbrev pub with_order : List ℕ → RingSeen
  with_order order = record v { order = order }

  pub pages_lead : (position : ℕ) (front olds news : List ℕ) → position ≡ length front → length olds ≡ length news
      → all_assigned (page_changes position olds news) (with_order (front ++ olds)) ≡ with_order (front ++ news)
  pages_lead position front [] [] at same = refl
  pages_lead position front [] (new ∷ news) at same = absurd (omega arith)
  pages_lead position front (old ∷ olds) [] at same = absurd (omega arith)
  pages_lead position front (old ∷ olds) (new ∷ news) at same =
      and_then (unless_same (old == new) (page_is position new)) (page_changes (suc position) olds news)
      (with_order (front ++ old ∷ olds)) (with_order (front ++ new ∷ olds)) (with_order (front ++ new ∷ news))
      (unless (old == new) (page_is position new) (with_order (front ++ old ∷ olds)) (with_order (front ++ new ∷ olds))
      (λ e. ap (λ (p : ℕ). with_order (front ++ p ∷ olds)) (eqb-true old new e))
      (ap with_order (ap (λ (k : ℕ). slice_set (front ++ old ∷ olds) k new) at ∙ set-append_seam front old olds new)))
      (ap (λ (l : List ℕ). all_assigned (page_changes (suc position) olds news) (with_order l))
      (sym (append_assoc front (new ∷ []) olds))
      ∙ pages_lead (suc position) (front ++ new ∷ []) olds news (omega (arith, length-append front (new ∷ [])))
      (omega arith)
      ∙ ap with_order (append_assoc front (new ∷ []) news))

  pub pages_all : (position : ℕ) (front olds news : List ℕ) → position ≡ length front → length olds ≡ length news
      → all_assigned (all_pages position news) (with_order (front ++ olds)) ≡ with_order (front ++ news)
  pages_all position front [] [] at same = refl
  pages_all position front [] (new ∷ news) at same = absurd (omega arith)
  pages_all position front (old ∷ olds) [] at same = absurd (omega arith)
  pages_all position front (old ∷ olds) (new ∷ news) at same =
      ap (λ (l : List ℕ). all_assigned (all_pages (suc position) news) (with_order l))
      (ap (λ (k : ℕ). slice_set (front ++ old ∷ olds) k new) at ∙ set-append_seam front old olds new
      ∙ sym (append_assoc front (new ∷ []) olds))
      ∙ pages_all (suc position) (front ++ new ∷ []) olds news (omega (arith, length-append front (new ∷ [])))
      (omega arith)
      ∙ ap with_order (append_assoc front (new ∷ []) news)

  -- ---- counts

  abbrev pub with_counts : (spare done opened wish head committed : ℕ) → RingSeen
  with_counts spare done opened wish head committed = record v {
    counts = record { spare = spare; done = done; opened = opened; wish = wish; head = head; committed = committed };
  }

  pub count_leads : (key : CountKey) (old new : ℕ) (place : ℕ → RingSeen)
      → ((k l : ℕ) → assigned (count_is key l) (place k) ≡ place l)
      → all_assigned (count_change key old new) (place old) ≡ place new
  count_leads key old new place puts =
      unless (old == new) (count_is key new) (place old) (place new) (λ e. ap place (eqb-true old new e)) (puts old new)

  pub counts_lead : (old new : CountsSeen)
      → all_assigned (count_changes old new) (record v { counts = old }) ≡ record v { counts = new }
  counts_lead old new =
      let spares : List Change = count_change spare_key old.spare new.spare in
      let closings : List Change = spares ++ count_change done_key old.done new.done in
      let openings : List Change = closings ++ count_change opened_key old.opened new.opened in
      let wishes : List Change = openings ++ count_change wish_key old.wish new.wish in
      let heads : List Change = wishes ++ count_change head_key old.head new.head in
      let a : RingSeen = record v { counts = old } in
      let b : RingSeen = with_counts new.spare old.done old.opened old.wish old.head old.committed in
      let c : RingSeen = with_counts new.spare new.done old.opened old.wish old.head old.committed in
      let d : RingSeen = with_counts new.spare new.done new.opened old.wish old.head old.committed in
      let e : RingSeen = with_counts new.spare new.done new.opened new.wish old.head old.committed in
      let f : RingSeen = with_counts new.spare new.done new.opened new.wish new.head old.committed in
      let to_b : all_assigned spares a ≡ b =
      count_leads spare_key old.spare new.spare
      (λ k. with_counts k old.done old.opened old.wish old.head old.committed) (λ k l. refl) in
      let to_c : all_assigned closings a ≡ c =
      and_then spares _ a b c to_b
      (count_leads done_key old.done new.done
      (λ k. with_counts new.spare k old.opened old.wish old.head old.committed) (λ k l. refl)) in
      let to_d : all_assigned openings a ≡ d =
      and_then closings _ a c d to_c
      (count_leads opened_key old.opened new.opened
      (λ k. with_counts new.spare new.done k old.wish old.head old.committed) (λ k l. refl)) in
      let to_e : all_assigned wishes a ≡ e =
      and_then openings _ a d e to_d
      (count_leads wish_key old.wish new.wish
      (λ k. with_counts new.spare new.done new.opened k old.head old.committed) (λ k l. refl)) in
      let to_f : all_assigned heads a ≡ f =
      and_then wishes _ a e f to_e
      (count_leads head_key old.head new.head
      (λ k. with_counts new.spare new.done new.opened new.wish k old.committed) (λ k l. refl)) in
      and_then heads (count_change committed_key old.committed new.committed) a f (record v { counts = new }) to_f
      (count_leads committed_key old.committed new.committed
      (λ k. with_counts new.spare new.done new.opened new.wish new.head k) (λ k l. refl))

  -- ---- frames

  abbrev pub with_frames : List Frame → RingSeen
  with_frames frames = record v { frames = frames }

  all_below : (depth : ℕ) (frames : List Frame) → length frames < depth → frames_below depth frames ≡ frames
  all_below depth frames le =
      ap (λ (k : ℕ). drop k frames) (let none : (length frames + 1) - depth ≡ 0 = omega arith in none)

  pub pushed_leads : (kind : Purpose) (frames : List Frame)
      → all_assigned (frame_changes frames (frame_in kind waiting idle ∷ frames)) (with_frames frames)
      ≡ with_frames (frame_in kind waiting idle ∷ frames)
  pushed_leads kind frames = let new : Frame = frame_in kind waiting idle in
      ap (λ (cs : List Change). all_assigned cs (with_frames frames))
      (cond-true _ _ _ (lt-ltb (length frames) (suc (length frames)) (omega arith)))
      ∙ ap (λ (l : List Frame). assigned (phase_is (suc (length frames)) waiting idle) (with_frames (new ∷ l)))
      (all_below (suc (length frames)) frames (omega arith))
      ∙ ap (λ (l : List Frame). with_frames (with_top_at waiting idle l))
      (all_below (suc (length frames) + 1) (new ∷ frames) (omega arith))

  pub popped_leads : (old : Frame) (frames : List Frame)
      → all_assigned (frame_changes (old ∷ frames) frames) (with_frames (old ∷ frames)) ≡ with_frames frames
  popped_leads old frames =
      ap (λ (cs : List Change). all_assigned cs (with_frames (old ∷ frames)))
      (cond-false _ _ _ (le-ltb (suc (length frames)) (length frames) (omega arith))
      ∙ cond-true _ _ _ (lt-ltb (length frames) (suc (length frames)) (omega arith)))
      ∙ ap (λ (k : ℕ). with_frames (drop k (old ∷ frames)))
      (let one : (suc (length frames) + 1) - suc (length frames) ≡ 1 = omega arith in one)

  pub top_leads : (kind : Purpose) (state other : Progress) (phase next : Phase) (below : List Frame)
      → all_assigned (frame_changes (frame_in kind state phase ∷ below) (frame_in kind other next ∷ below))
      (with_frames (frame_in kind state phase ∷ below)) ≡ with_frames (frame_in kind other next ∷ below)
  top_leads kind state other phase next below =
      let old : Frame = frame_in kind state phase in
      let length_le : suc (length below) ≤ suc (length below) = omega arith in
      let short = le-ltb (suc (length below)) (suc (length below)) length_le in
      ap (λ (cs : List Change). all_assigned cs (with_frames (old ∷ below)))
      (cond-false _ _ _ short ∙ cond-false _ _ _ short)
      ∙ unless (same_state state other && same_phase phase next) (phase_is (suc (length below)) other next)
      (with_frames (old ∷ below)) (with_frames (frame_in kind other next ∷ below))
      (λ e. let (s, p) = and_parts (same_state state other) (same_phase phase next) e in
      (λ i. with_frames (frame_in kind (state_is state other s i) (phase_is_one phase next p i) ∷ below)))
      (ap (λ (l : List Frame). with_frames (with_top_at other next l))
      (all_below (suc (length below) + 1) (old ∷ below) (omega arith)))

  same_top : (frame : Frame) (below : List Frame)
      → all_assigned (frame_changes (frame ∷ below) (frame ∷ below)) (with_frames (frame ∷ below))
      ≡ with_frames (frame ∷ below)
  same_top frame below = top_leads frame.kind frame.state frame.state frame.phase frame.phase below

  pub same_leads : (frames : List Frame)
      → all_assigned (frame_changes frames frames) (with_frames frames) ≡ with_frames frames
  same_leads [] = refl
  same_leads (frame ∷ below) = same_top frame below

  -- ---- the reader

  pub reader_leads : (old new : ReaderSeen)
      → all_assigned (unless_same (same_reader old new) (reader_is new)) (record v { reader = old })
      ≡ record v { reader = new }
  reader_leads old new =
      unless (same_reader old new) (reader_is new) (record v { reader = old }) (record v { reader = new })
      (λ e. ap (λ (r : ReaderSeen). record v { reader = r }) (reader_is_one old new e)) refl

  pub spare_link_leads : (old new : Link)
      → all_assigned (unless_same (same_link old new) (spare_link_is new)) (record v { spare_link = old })
      ≡ record v { spare_link = new }
  spare_link_leads old new =
      unless (same_link old new) (spare_link_is new) (record v { spare_link = old }) (record v { spare_link = new })
      (λ e. ap (λ (l : Link). record v { spare_link = l }) (same_link_true old new e)) refl
