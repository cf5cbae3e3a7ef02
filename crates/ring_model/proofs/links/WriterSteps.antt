-- Each step of a frame keeps what is known of links, counts, frames and the reader.
use Rattle.std.proofs.Common.{◌≡◌, ◌≢◌, ℕ, suc, ◌+◌, ◌<◌, List, ◌∷◌, Some, None, sym, ap, ◌∙◌, subst, inl, inr, ⊎_elim}
use Rattle.std.proofs.Common.{arith, length-set}
use mathlib.Core.Logic.{dite}
use native.Mathlib.Decide.{ℕ_discrete}
use Rattle.trace_model.specs.declared.limits.TheConstants.{LINK_FILLS}
use Rattle.trace_model.specs.Links.{Link, normal_link, header_link, update_link}
use Rattle.trace_model.specs.Frames.{owner, Phase, looking_next, opening, Frame, owned_update}
use Rattle.trace_model.specs.Ring.{Core, link_into, links_with, page_at}
use Rattle.trace_model.specs.Steps.{with_link, with_new_tail, with_released}
use Rattle.ring_model.specs.KeptLinks.{HasMover, MoversDiffer, PhaseKept, FramesKept, LinkKept, is_normal, is_header}
use Rattle.ring_model.specs.KeptLinks.{is_update, LinksKept}
use Rattle.trace_model.proofs.Positions.{link_here, link_else, page_turn}
use Rattle.ring_model.proofs.links.FramePhases.{none_some, some_is, normal_ne_header, normal_ne_update}
use Rattle.ring_model.proofs.links.FramePhases.{header_ne_update, Noted, Passed, Owned, knows_looking_next}
use Rattle.ring_model.proofs.links.FramePhases.{relink_phase, map_frames, map_others, map_reader, after_set}
use Rattle.ring_model.proofs.links.LinkFills.{header_inside, next_inside, owned_by}
use Rattle.ring_model.proofs.links.FrameChanges.{link_stays, below_kept, below_differ, top_alone, stands_top}

-- ---- the claim: the head is lost

lost_link : (n : ℕ) (links : List Link) (order : List ℕ) (head : ℕ) (frames frames' : List Frame) (f : ℕ) → head < f
    → HasMover frames' (head + n) → ((g : ℕ) → HasMover frames g → HasMover frames' g)
    → LinkKept n links order head frames f
    → LinkKept n links order (head + 1) frames' f
lost_link n links order head frames frames' f more st stays (is_normal e owed) =
    is_normal e (λ at. (head, omega arith, st))
lost_link n links order head frames frames' f more st stays (is_header e here) = absurd (omega arith)
lost_link n links order head frames frames' f more st stays (is_update lost sum e s) = is_update lost sum e (stays f s)

-- the link of the model, set at another fill of the row
pub moved_link : (n : ℕ) (links links' : List Link) (order : List ℕ) (head : ℕ) (frames : List Frame) (f : ℕ)
    → link_into n links' f ≡ link_into n links f → LinkKept n links order head frames f
    → LinkKept n links' order head frames f
moved_link n links links' order head frames f same (is_normal e owed) = is_normal (same ∙ e) owed
moved_link n links links' order head frames f same (is_header e here) = is_header (same ∙ e) here
moved_link n links links' order head frames f same (is_update lost sum e st) = is_update lost sum (same ∙ e) st

pub claims_kept : (n : ℕ) (c : Core) (frame : Frame) (below : List Frame) (noted page lost : ℕ) → LinksKept n c
    → c.frames ≡ frame ∷ below → owned_update frame.phase ≡ None → Noted n c.done c.opened noted → noted ≡ c.opened
    → lost + n ≡ noted
    → link_into n c.links noted ≡ header_link page lost
    → LinksKept n
    (record (with_link n c noted (update_link page lost))
    { head = c.head + 1; frames = record frame { phase = looking_next owner noted page } ∷ below })
claims_kept n c frame below noted page lost k top none facts now sum at =
    let some_pages = k.some_pages in
    let wide = k.positions in
    let unread = k.head_le in
    let behind = k.done_lt in
    let within = k.opened_le in
    let (open_yet, begun_yet, room, small) = facts in
    let (is, page_is, head_at) = header_inside n c k noted page lost (omega arith) (omega arith) sum at in
    let new : Link = update_link page lost in
    let frames : List Frame = record frame { phase = looking_next owner noted page } ∷ below in
    let stands : HasMover frames (c.head + n) = inl (ap Some (let e : noted ≡ c.head + n = omega arith in e)) in
    let stays =
    λ (g : ℕ) (st : HasMover c.frames g). let it : HasMover frames g =
    ⊎_elim (λ e. absurd (none_some (sym none ∙ e))) (λ b. inr b) (stands_top n c frame below k top g st) in
    it in
    let here : link_into n (links_with n c.links noted new) noted ≡ new =
    link_here n c.links noted new (omega arith) wide in
    let page_now : page ≡ page_at n c.order noted =
    page_is
    ∙ sym
    (ap (page_at n c.order) (let e : noted ≡ c.head + n = omega arith in e) ∙ page_turn n c.order c.head) in
    let owned : Owned n (links_with n c.links noted new) c.order (c.head + 1) c.done noted =
    (lost, sum, omega arith, open_yet, here ∙ ap (λ (p : ℕ). update_link p lost) page_now) in
    record {
      some_pages = k.some_pages;
      positions = length-set c.links _ new ∙ k.positions;
      apart = k.apart;
      head_le = omega arith;
      done_lt = k.done_lt;
      opened_le = omega arith;
      fits = k.fits;
      each = λ f low high. dite (ℕ_discrete f noted)
          (λ e.
          is_update lost (sum ∙ sym e)
          (ap (link_into n (links_with n c.links noted new)) e ∙ here
          ∙ ap (λ (p : ℕ). update_link p lost) (page_now ∙ ap (page_at n c.order) (sym e)))
          (inl (ap Some (sym e))))
          (λ ne. moved_link n c.links (links_with n c.links noted new) c.order (c.head + 1) frames f
          (link_else (c.head + 1) n c.links f noted new low high (omega arith) (omega arith) ne)
          (lost_link n c.links c.order c.head c.frames frames f (omega arith) stands stays
          (k.each f (omega arith) (omega arith))));
      frames = (
        knows_looking_next n (links_with n c.links noted new) c.order (c.head + 1) c.done c.opened owner noted page
            facts (open_yet, omega arith, page_now) (λ _. owned),
        map_frames n c.links (links_with n c.links noted new) c.order c.order c.head (c.head + 1) c.done c.done c.opened
            c.opened below
            (λ phase.
            relink_phase n c.links c.order c.head (c.head + 1) c.done c.opened noted (header_link page lost) new
            phase (omega arith) wide (omega arith) at
            (λ o p u _ _. header_ne_update page lost p u)
            (λ seen u _ e. normal_ne_update seen (suc u) page lost (sym e)))
            (below_kept n c frame below k top),
      );
      movers = (
        λ f is_f st. let (u, u_sum, u_below, u_open, u_at) =
            owned_by n c k f (subst (λ (fs : List Frame). HasMover fs f) (sym top) (inr st)) in
            let same : noted ≡ f = some_is noted f is_f in absurd (omega arith),
        below_differ n c frame below k top,
      );
      hint_le = let le = k.hint_le in omega arith;
      seen_le = k.seen_le;
      wish_le = k.wish_le;
      spare_fits = k.spare_fits;
      reader =
          map_reader n c.links (links_with n c.links noted new) c.order c.spare_link c.head (c.head + 1) c.done c.done
          c.reader.hint c.reader.phase (omega arith)
          (λ p f seen. let it = seen.fill_is in
          let le = k.hint_le in
          record { fill_is = seen.fill_is; stays = λ e. absurd (omega arith) })
          k.reader;
    }

-- ---- the mark: the HEADER that is owed

pub marks_kept : (n : ℕ) (c : Core) (lost next : ℕ) → LinksKept n c → lost < c.head → c.done < lost + n
    → link_into n c.links (suc lost) ≡ normal_link next (suc lost)
    → LinksKept n (with_link n c (suc lost) (header_link next (suc lost)))
marks_kept n c lost next k below_head open_yet at =
    let some_pages = k.some_pages in let wide = k.positions in
    let (is, page_is) = next_inside n c k lost next below_head open_yet at in
    let new : Link = header_link next (suc lost) in
    let here : link_into n (links_with n c.links (suc lost) new) (suc lost) ≡ new =
    link_here n c.links (suc lost) new (omega arith) wide in
    record {
      some_pages = k.some_pages;
      positions = length-set c.links _ new ∙ k.positions;
      apart = k.apart;
      head_le = k.head_le;
      done_lt = k.done_lt;
      opened_le = k.opened_le;
      fits = k.fits;
      each = λ f low high. dite (ℕ_discrete f (suc lost))
          (λ e.
          is_header
          (ap (link_into n (links_with n c.links (suc lost) new)) e ∙ here
          ∙ (λ i. header_link (page_is i) (suc lost))
          ∙ ap (λ (g : ℕ). header_link (page_at n c.order g) g) (sym e)) (e ∙ is))
          (λ ne.
          moved_link n c.links (links_with n c.links (suc lost) new) c.order c.head c.frames f
          (link_else c.head n c.links f (suc lost) new low high (omega arith) (omega arith) ne)
          (k.each f low high));
      frames =
          map_frames n c.links (links_with n c.links (suc lost) new) c.order c.order c.head c.head c.done c.done
          c.opened c.opened c.frames
          (λ phase.
          relink_phase n c.links c.order c.head c.head c.done c.opened (suc lost) (normal_link next (suc lost)) new
          phase (omega arith) wide (omega arith) at
          (λ o p u _ _. normal_ne_update next (suc lost) p u)
          (λ seen u _ e. normal_ne_header seen (suc u) next (suc lost) (sym e)))
          k.frames;
      movers = k.movers;
      hint_le = k.hint_le;
      seen_le = k.seen_le;
      wish_le = k.wish_le;
      spare_fits = k.spare_fits;
      reader =
          map_reader n c.links (links_with n c.links (suc lost) new) c.order c.spare_link c.head c.head c.done c.done
          c.reader.hint c.reader.phase (omega arith)
          (λ p f seen.
          record {
            fill_is = seen.fill_is;
            stays =
                λ e.
                absurd (normal_ne_header next (suc lost) p f
                (sym at ∙ ap (link_into n c.links) (is ∙ sym e) ∙ seen.stays e));
          })
          k.reader;
    }

-- ---- the clear: the UPDATE of the frame on top

cleared_link : (n : ℕ) (links : List Link) (order : List ℕ) (head : ℕ) (frames frames' : List Frame) (lost f : ℕ)
    → f ≢ lost + n
    → ((g : ℕ) → g ≢ lost + n → HasMover frames g → HasMover frames' g)
    → (suc lost ≡ head → f ≡ head → (seen : ℕ) → link_into n links (suc lost) ≢ normal_link seen (suc lost))
    → LinkKept n links order head frames f
    → LinkKept n links order head frames' f
cleared_link n links order head frames frames' lost f other stays is_set (is_normal e owed) =
    is_normal e (λ here. let (u, is, st) = owed here in (
      u,
      is,
      stays (u + n)
          (λ same. let it : suc lost ≡ head = omega arith in
          is_set it here (page_at n order f)
          (ap (link_into n links) (it ∙ sym here) ∙ e ∙ ap (normal_link (page_at n order f)) (here ∙ sym it))) st,
    ))
cleared_link n links order head frames frames' lost f other stays is_set (is_header e here) = is_header e here
cleared_link n links order head frames frames' lost f other stays is_set (is_update u sum e st) =
    is_update u sum e (stays f other st)

pub clears_kept : (n : ℕ) (c : Core) (frame : Frame) (below : List Frame) (noted page lost : ℕ) → LinksKept n c
    → c.frames ≡ frame ∷ below → owned_update frame.phase ≡ Some noted → Passed n c.order c.head c.done noted page
    → PhaseKept n (links_with n c.links noted (normal_link page noted)) c.order c.head c.done c.opened
    (opening noted page)
    → ((seen : ℕ) → link_into n c.links (suc lost) ≢ normal_link seen (suc lost))
    → lost + n ≡ noted → link_into n c.links noted ≡ update_link page lost
    → LinksKept n
    (record (with_link n c noted (normal_link page noted))
    { frames = record frame { phase = opening noted page } ∷ below })
clears_kept n c frame below noted page lost k top own passed facts is_set sum at =
    let some_pages = k.some_pages in let wide = k.positions in let unread = k.head_le in
    let (open_yet, inside, page_is) = passed in
    let new : Link = normal_link page noted in
    let frames : List Frame = record frame { phase = opening noted page } ∷ below in
    let here : link_into n (links_with n c.links noted new) noted ≡ new =
    link_here n c.links noted new (omega arith) wide in
    let stays =
    λ (g : ℕ) (ne : g ≢ lost + n) (st : HasMover c.frames g). let it : HasMover frames g =
    ⊎_elim (λ e. absurd (ne (sym (some_is noted g (sym own ∙ e)) ∙ sym sum))) (λ b. inr b)
    (stands_top n c frame below k top g st) in
    it in
    record {
      some_pages = k.some_pages;
      positions = length-set c.links _ new ∙ k.positions;
      apart = k.apart;
      head_le = k.head_le;
      done_lt = k.done_lt;
      opened_le = k.opened_le;
      fits = k.fits;
      each = λ f low high. dite (ℕ_discrete f noted)
          (λ e.
          is_normal
          (ap (link_into n (links_with n c.links noted new)) e ∙ here ∙ (λ i. normal_link (page_is i) noted)
          ∙ ap (λ (g : ℕ). normal_link (page_at n c.order g) g) (sym e)) (λ at_head. absurd (omega arith)))
          (λ ne. moved_link n c.links (links_with n c.links noted new) c.order c.head frames f
          (link_else c.head n c.links f noted new low high (omega arith) (omega arith) ne)
          (cleared_link n c.links c.order c.head c.frames frames lost f (λ e. ne (e ∙ sum)) stays (λ _ _. is_set)
          (k.each f low high)));
      frames = (
        facts,
        map_others n c.links (links_with n c.links noted new) c.order c.order c.head c.head c.done c.done c.opened
            c.opened noted below (top_alone n c frame below k top noted own)
            (λ phase others.
            relink_phase n c.links c.order c.head c.head c.done c.opened noted (update_link page lost) new phase
            (omega arith) wide (omega arith) at
            (λ o p u is u_sum e. let fills : lost ≡ u = ap (λ (l : Link). l.fill) e in
            others (is ∙ ap Some (let same : o ≡ noted = omega arith in same)))
            (λ seen u below_head e. let fills : noted ≡ suc u = ap (λ (l : Link). l.fill) e in absurd (omega arith)))
            (below_kept n c frame below k top),
      );
      movers = (λ f is_f st. absurd (none_some is_f), below_differ n c frame below k top);
      hint_le = k.hint_le;
      seen_le = k.seen_le;
      wish_le = k.wish_le;
      spare_fits = k.spare_fits;
      reader =
          map_reader n c.links (links_with n c.links noted new) c.order c.spare_link c.head c.head c.done c.done
          c.reader.hint c.reader.phase (omega arith)
          (λ p f seen.
          record {
            fill_is = seen.fill_is;
            stays =
                λ e.
                after_set n c.links noted f (update_link page lost) new (header_link p f) at
                (λ same. header_ne_update p f page lost (sym same)) (seen.stays e);
          })
          k.reader;
    }

-- ---- the opening of a fill

opened_phase : (n : ℕ) (links : List Link) (order : List ℕ) (head done opened : ℕ) (phase : Phase)
    → PhaseKept n links order head done opened phase → PhaseKept n links order head done (opened + 1) phase
opened_phase n links order head done opened phase k = record {
  noted = λ o is. let (a, b, c, d) = k.noted o is in (a, omega arith, c, d);
  passed = k.passed;
  moves = k.moves;
  marks = k.marks;
  clears = k.clears;
  releases = λ is. let more = k.releases is in omega arith;
}

pub begun_kept : (n : ℕ) (c : Core) (page : ℕ) → LinksKept n c → c.opened < c.head + n → c.opened + n < LINK_FILLS
    → LinksKept n (with_new_tail c page)
begun_kept n c page k room small = record {
  some_pages = k.some_pages;
  positions = k.positions;
  apart = k.apart;
  head_le = k.head_le;
  done_lt = let behind = k.done_lt in omega arith;
  opened_le = omega arith;
  fits = omega arith;
  each = k.each;
  frames =
      map_frames n c.links c.links c.order c.order c.head c.head c.done c.done c.opened (c.opened + 1) c.frames
      (opened_phase n c.links c.order c.head c.done c.opened) k.frames;
  movers = k.movers;
  hint_le = k.hint_le;
  seen_le = k.seen_le;
  wish_le = k.wish_le;
  spare_fits = k.spare_fits;
  reader = k.reader;
}

-- ---- the release of a fill: the frame is alone

pub released_kept : (n : ℕ) (c : Core) (frames : List Frame) → LinksKept n c → c.done + 1 < c.opened
    → ((f : ℕ) → HasMover c.frames f → ⊥) → FramesKept n c.links c.order c.head (c.done + 1) c.opened frames
    → MoversDiffer frames
    → LinksKept n (record (with_released c) { frames = frames })
released_kept n c frames k more none facts differ = record {
  some_pages = k.some_pages;
  positions = k.positions;
  apart = k.apart;
  head_le = let le = k.head_le in omega arith;
  done_lt = more;
  opened_le = k.opened_le;
  fits = k.fits;
  each =
      λ f low high.
      link_stays n c.links c.order c.head c.frames frames f (λ g st. absurd (none g st)) (k.each f low high);
  frames = facts;
  movers = differ;
  hint_le = k.hint_le;
  seen_le = let le = k.seen_le in omega arith;
  wish_le = k.wish_le;
  spare_fits = k.spare_fits;
  reader =
      map_reader n c.links c.links c.order c.spare_link c.head c.head c.done (c.done + 1) c.reader.hint c.reader.phase
      (omega arith) (λ page fill seen. seen) k.reader;
}
