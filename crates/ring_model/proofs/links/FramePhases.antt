-- What a frame knows in its phase: how it gets to know it, and that it stays so if links are set.
use Rattle.std.proofs.Common.{◌≡◌, ◌≢◌, ℕ, suc, ◌+◌, ◌%◌, ◌<◌, ◌≤◌, List, [], ◌∷◌, length, get_or, set, Option, Some}
use Rattle.std.proofs.Common.{None, refl, sym, ap, ◌∙◌, subst, inl, inr, arith}
use Rattle.std.specs.Prelude.{unwrap_or}
use Rattle.std.proofs.lemmas.List.{get_or-set_other}
use mathlib.Core.Logic.{dite}
use native.Mathlib.Decide.{ℕ_discrete}
use Rattle.trace_model.specs.declared.limits.TheConstants.{LINK_FILLS}
use Rattle.trace_model.specs.Links.{normal, header, update, Link, normal_link, header_link, update_link}
use Rattle.trace_model.specs.Frames.{Role, owner, helper, Phase, idle, looking, claiming, looking_next, marking}
use Rattle.trace_model.specs.Frames.{clearing, opening, releasing, wishing, Frame, noted_fill, owned_update}
use Rattle.trace_model.specs.Ring.{link_into, links_with, page_at, ReaderPhase, loading_head, loading_done}
use Rattle.trace_model.specs.Ring.{storing_spare_link, swapping}
use Rattle.ring_model.specs.KeptLinks.{Spot, spot, HasMover, HasSeen, ReaderKept, PhaseKept, FramesKept, passed_spot}
use Rattle.ring_model.specs.KeptLinks.{marking_spot, clearing_fill}
use Rattle.trace_model.proofs.Positions.{link_here}

-- ---- constructors differ

pub none_some : {A : Type 0} {x : A} → ◌≡◌ {A = Option A} None (Some x) → ⊥
none_some e = cc

pub some_is : (a b : ℕ) → Some a ≡ Some b → a ≡ b
some_is a b e = cc

pub pair_is : (a b c d : ℕ) → Some (spot a b) ≡ Some (spot c d) → (a ≡ c) × (b ≡ d)
pair_is a b c d e = (
  ap (λ (o : Option Spot). (unwrap_or o (spot 0 0)).fill) e,
  ap (λ (o : Option Spot). (unwrap_or o (spot 0 0)).page) e,
)

pub normal_ne_header : (p f q g : ℕ) → normal_link p f ≢ header_link q g
normal_ne_header p f q g e = let m : normal ≡ header = ap (λ (l : Link). l.mark) e in cc

pub normal_ne_update : (p f q g : ℕ) → normal_link p f ≢ update_link q g
normal_ne_update p f q g e = let m : normal ≡ update = ap (λ (l : Link). l.mark) e in cc

pub header_ne_update : (p f q g : ℕ) → header_link p f ≢ update_link q g
header_ne_update p f q g e = let m : header ≡ update = ap (λ (l : Link). l.mark) e in cc

-- ---- one link is set

-- what is found now, and wasn't set, was there before
pub before_set : (n : ℕ) (links : List Link) (g f : ℕ) (new l : Link) → 1 ≤ n → length links ≡ n → new ≢ l
    → link_into n (links_with n links g new) f ≡ l → link_into n links f ≡ l
before_set n links g f new l some wide differ at = dite (ℕ_discrete (f % n) (g % n))
    (λ e.
    absurd (differ (sym (link_here n links g new some wide)
    ∙ ap (λ (k : ℕ). get_or (links_with n links g new) k (normal_link 0 0)) (sym e) ∙ at)))
    (λ ne. sym (get_or-set_other links (g % n) (f % n) new (normal_link 0 0) ne) ∙ at)

-- what was there, and isn't what was set over, is there now
pub after_set : (n : ℕ) (links : List Link) (g f : ℕ) (old new l : Link) → link_into n links g ≡ old → old ≢ l
    → link_into n links f ≡ l → link_into n (links_with n links g new) f ≡ l
after_set n links g f old new l was differ at = dite (ℕ_discrete (f % n) (g % n))
    (λ e. absurd (differ (sym was ∙ ap (λ (k : ℕ). get_or links k (normal_link 0 0)) (sym e) ∙ at)))
    (λ ne. get_or-set_other links (g % n) (f % n) new (normal_link 0 0) ne ∙ at)

-- ---- what a frame knows, phase by phase

abbrev pub Noted : ℕ → ℕ → ℕ → ℕ → Type 0
Noted n done opened o = (done < o) × (o ≤ opened) × (o < done + n) × (o + n < LINK_FILLS)

abbrev pub Passed : ℕ → List ℕ → ℕ → ℕ → ℕ → ℕ → Type 0
Passed n order head done o page = (done < o) × (o < head + n) × (page ≡ page_at n order o)

abbrev pub Owned : ℕ → List Link → List ℕ → ℕ → ℕ → ℕ → Type 0
Owned n links order head done o =
    (lost : ℕ) × (lost + n ≡ o) × (lost < head) × (done < o)
    × (link_into n links o ≡ update_link (page_at n order o) lost)

module _ (n : ℕ) (links : List Link) (order : List ℕ) (head done opened : ℕ) where
  -- a phase in which nothing is known
  pub knows_nothing : (phase : Phase) → noted_fill phase ≡ None → passed_spot phase ≡ None → owned_update phase ≡ None
      → marking_spot phase ≡ None → clearing_fill phase ≡ None → (phase ≡ releasing → done + 1 < opened)
      → PhaseKept n links order head done opened phase
  knows_nothing phase a b c d e f = record {
    noted = λ o is. absurd (none_some (sym a ∙ is));
    passed = λ o page is. absurd (none_some (sym b ∙ is));
    moves = λ o is. absurd (none_some (sym c ∙ is));
    marks = λ o next lost is sum. absurd (none_some (sym d ∙ is));
    clears = λ o lost is sum. absurd (none_some (sym e ∙ is));
    releases = f;
  }

  pub knows_idle : PhaseKept n links order head done opened idle
  knows_idle = knows_nothing idle refl refl refl refl refl (λ e. absurd (cc))

  pub knows_wishing : PhaseKept n links order head done opened wishing
  knows_wishing = knows_nothing wishing refl refl refl refl refl (λ e. absurd (cc))

  pub knows_releasing : done + 1 < opened → PhaseKept n links order head done opened releasing
  knows_releasing more = knows_nothing releasing refl refl refl refl refl (λ e. more)

  noted_is : (o o' : ℕ) → Noted n done opened o → Some o ≡ Some o' → Noted n done opened o'
  noted_is o o' facts e = subst (Noted n done opened) (some_is o o' e) facts

  passed_is : (o page o' page' : ℕ) → Passed n order head done o page → Some (spot o page) ≡ Some (spot o' page')
      → Passed n order head done o' page'
  passed_is o page o' page' facts e = let (a, b) = pair_is o page o' page' e in
      subst (λ (k : ℕ). Passed n order head done o' k) b (subst (λ (k : ℕ). Passed n order head done k page) a facts)

  owned_is : (o o' : ℕ) → Owned n links order head done o → Some o ≡ Some o' → Owned n links order head done o'
  owned_is o o' facts e = subst (Owned n links order head done) (some_is o o' e) facts

  pub knows_looking : (o : ℕ) → Noted n done opened o → PhaseKept n links order head done opened (looking o)
  knows_looking o facts = record {
    noted = λ o' is. noted_is o o' facts is;
    passed = λ o' page is. absurd (none_some is);
    moves = λ o' is. absurd (none_some is);
    marks = λ o' next lost is sum. absurd (none_some is);
    clears = λ o' lost is sum. absurd (none_some is);
    releases = λ e. absurd (cc);
  }

  pub knows_claiming : (o page : ℕ) → Noted n done opened o → PhaseKept n links order head done opened (claiming o page)
  knows_claiming o page facts = record {
    noted = λ o' is. noted_is o o' facts is;
    passed = λ o' page' is. absurd (none_some is);
    moves = λ o' is. absurd (none_some is);
    marks = λ o' next lost is sum. absurd (none_some is);
    clears = λ o' lost is sum. absurd (none_some is);
    releases = λ e. absurd (cc);
  }

  pub knows_looking_next : (role : Role) (o page : ℕ) → Noted n done opened o → Passed n order head done o page
      → (owned_update (looking_next role o page) ≡ Some o → Owned n links order head done o)
      → PhaseKept n links order head done opened (looking_next role o page)
  knows_looking_next owner o page facts passed owned = record {
    noted = λ o' is. noted_is o o' facts is;
    passed = λ o' page' is. passed_is o page o' page' passed is;
    moves = λ o' is. owned_is o o' (owned refl) is;
    marks = λ o' next lost is sum. absurd (none_some is);
    clears = λ o' lost is sum. absurd (none_some is);
    releases = λ e. absurd (cc);
  }
  knows_looking_next helper o page facts passed owned = record {
    noted = λ o' is. noted_is o o' facts is;
    passed = λ o' page' is. passed_is o page o' page' passed is;
    moves = λ o' is. absurd (none_some is);
    marks = λ o' next lost is sum. absurd (none_some is);
    clears = λ o' lost is sum. absurd (none_some is);
    releases = λ e. absurd (cc);
  }

  abbrev pub Waits : ℕ → ℕ → Type 0
  Waits lost next =
      (lost < head) × ((seen : ℕ) → link_into n links (suc lost) ≡ normal_link seen (suc lost) → next ≡ seen)

  waits_is : (o next lost o' next' lost' : ℕ) → lost + n ≡ o → Waits lost next
      → Some (spot o next) ≡ Some (spot o' next') → lost' + n ≡ o' → Waits lost' next'
  waits_is o next lost o' next' lost' sum facts e sum' = let (a, b) = pair_is o next o' next' e in
      let same : lost ≡ lost' = omega arith in
      subst (λ (k : ℕ). Waits lost' k) b (subst (λ (k : ℕ). Waits k next) same facts)

  pub knows_marking : (role : Role) (o page next lost : ℕ) → Noted n done opened o → Passed n order head done o page
      → (owned_update (marking role o page next) ≡ Some o → Owned n links order head done o) → lost + n ≡ o
      → Waits lost next
      → PhaseKept n links order head done opened (marking role o page next)
  knows_marking owner o page next lost facts passed owned sum waits = record {
    noted = λ o' is. noted_is o o' facts is;
    passed = λ o' page' is. passed_is o page o' page' passed is;
    moves = λ o' is. owned_is o o' (owned refl) is;
    marks = λ o' next' lost' is sum'. waits_is o next lost o' next' lost' sum waits is sum';
    clears = λ o' lost' is sum'. absurd (none_some is);
    releases = λ e. absurd (cc);
  }
  knows_marking helper o page next lost facts passed owned sum waits = record {
    noted = λ o' is. noted_is o o' facts is;
    passed = λ o' page' is. passed_is o page o' page' passed is;
    moves = λ o' is. absurd (none_some is);
    marks = λ o' next' lost' is sum'. waits_is o next lost o' next' lost' sum waits is sum';
    clears = λ o' lost' is sum'. absurd (none_some is);
    releases = λ e. absurd (cc);
  }

  abbrev pub IsSet : ℕ → Type 0
  IsSet lost = (lost < head) × ((seen : ℕ) → link_into n links (suc lost) ≢ normal_link seen (suc lost))

  pub knows_clearing : (o page lost : ℕ) → Noted n done opened o → Passed n order head done o page
      → Owned n links order head done o → lost + n ≡ o → IsSet lost
      → PhaseKept n links order head done opened (clearing o page)
  knows_clearing o page lost facts passed owned sum set = record {
    noted = λ o' is. noted_is o o' facts is;
    passed = λ o' page' is. passed_is o page o' page' passed is;
    moves = λ o' is. owned_is o o' owned is;
    marks = λ o' next' lost' is sum'. absurd (none_some is);
    clears = λ o' lost' is sum'. let at : o ≡ o' = some_is o o' is in
        let same : lost ≡ lost' = omega arith in
        subst IsSet same set;
    releases = λ e. absurd (cc);
  }

  pub knows_opening : (o page : ℕ) → Noted n done opened o → Passed n order head done o page
      → PhaseKept n links order head done opened (opening o page)
  knows_opening o page facts passed = record {
    noted = λ o' is. noted_is o o' facts is;
    passed = λ o' page' is. passed_is o page o' page' passed is;
    moves = λ o' is. absurd (none_some is);
    marks = λ o' next' lost' is sum'. absurd (none_some is);
    clears = λ o' lost' is sum'. absurd (none_some is);
    releases = λ e. absurd (cc);
  }

-- ---- what a frame knows stays so

-- where one link is set that is no UPDATE of the frame's, to one that isn't the next link that it saw
pub relink_phase : (n : ℕ) (links : List Link) (order : List ℕ) (head head' done opened g : ℕ) (old new : Link)
    (phase : Phase) → 1 ≤ n → length links ≡ n → head ≤ head'
    → link_into n links g ≡ old
    → ((o page lost : ℕ) → owned_update phase ≡ Some o → lost + n ≡ o → old ≢ update_link page lost)
    → ((seen lost : ℕ) → lost < head → new ≢ normal_link seen (suc lost))
    → PhaseKept n links order head done opened phase
    → PhaseKept n (links_with n links g new) order head' done opened phase
relink_phase n links order head head' done opened g old new phase some wide le was differ fresh k = record {
  noted = k.noted;
  passed = λ o page is. let (a, b, c) = k.passed o page is in (a, omega arith, c);
  moves = λ o is. let (lost, sum, below, open_yet, at) = k.moves o is in (
    lost,
    sum,
    omega arith,
    open_yet,
    after_set n links g o old new (update_link (page_at n order o) lost) was
        (differ o (page_at n order o) lost is sum) at,
  );
  marks = λ o next lost is sum. let (below, same) = k.marks o next lost is sum in (
    omega arith,
    λ seen at.
        same seen
        (before_set n links g (suc lost) new (normal_link seen (suc lost)) some wide (fresh seen lost below)
        at),
  );
  clears = λ o lost is sum. let (below, gone) = k.clears o lost is sum in (
    omega arith,
    λ seen at.
        gone seen
        (before_set n links g (suc lost) new (normal_link seen (suc lost)) some wide (fresh seen lost below)
        at),
  );
  releases = k.releases;
}

pub map_frames : (n : ℕ) (links links' : List Link) (order order' : List ℕ) (head head' done done' opened opened' : ℕ)
    (frames : List Frame)
    → ((phase : Phase) → PhaseKept n links order head done opened phase
    → PhaseKept n links' order' head' done' opened' phase)
    → FramesKept n links order head done opened frames
    → FramesKept n links' order' head' done' opened' frames
map_frames n links links' order order' head head' done done' opened opened' [] step k = tt
map_frames n links links' order order' head head' done done' opened opened' (frame ∷ below) step k =
    (step frame.phase k.0, map_frames n links links' order order' head head' done done' opened opened' below step k.1)

-- frames are kept after a change, if none of them has set the UPDATE at the position of fill f
pub map_others : (n : ℕ) (links links' : List Link) (order order' : List ℕ) (head head' done done' opened opened' f : ℕ)
    (frames : List Frame)
    → (HasMover frames f → ⊥)
    → ((phase : Phase) → (owned_update phase ≡ Some f → ⊥) → PhaseKept n links order head done opened phase
    → PhaseKept n links' order' head' done' opened' phase)
    → FramesKept n links order head done opened frames
    → FramesKept n links' order' head' done' opened' frames
map_others n links links' order order' head head' done done' opened opened' f [] none step k = tt
map_others n links links' order order' head head' done done' opened opened' f (frame ∷ below) none step k = (
  step frame.phase (λ is. none (inl is)) k.0,
  map_others n links links' order order' head head' done done' opened opened' f below (λ st. none (inr st)) step k.1,
)

-- an UPDATE that is set is one of the frames' own
pub stands_owned : (n : ℕ) (links : List Link) (order : List ℕ) (head done opened : ℕ) (frames : List Frame) (f : ℕ)
    → FramesKept n links order head done opened frames → HasMover frames f → Owned n links order head done f
stands_owned n links order head done opened [] f k st = absurd st
stands_owned n links order head done opened (frame ∷ below) f k (inl is) = k.0.moves f is
stands_owned n links order head done opened (frame ∷ below) f k (inr st) =
    stands_owned n links order head done opened below f k.1 st

-- what the reader knows stays so, if what it has seen does
pub map_reader : (n : ℕ) (links links' : List Link) (order : List ℕ) (spare_link : Link)
    (head head' done done' hint : ℕ) (phase : ReaderPhase) → done ≤ done'
    → ((page fill : ℕ) → HasSeen n links head hint page fill → HasSeen n links' head' hint page fill)
    → ReaderKept n links order spare_link head done hint phase
    → ReaderKept n links' order spare_link head' done' hint phase
map_reader n links links' order spare_link head head' done done' hint loading_head le step k = tt
map_reader n links links' order spare_link head head' done done' hint (loading_done page fill) le step k =
    step page fill k
map_reader n links links' order spare_link head head' done done' hint (storing_spare_link page fill) le step k =
    (step page fill k.0, let below = k.1 in omega arith)
map_reader n links links' order spare_link head head' done done' hint (swapping page fill) le step k =
    (step page fill k.0, (let below = k.1 in omega arith), k.2)
