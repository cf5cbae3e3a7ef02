-- A new ring as a value is the model's new ring.
use Rattle.std.proofs.Common.{◌≡◌, ◌≢◌, ℕ, ◌+◌, ◌%◌, ◌<◌, ◌≤◌, List, [], ◌∷◌, length, get_or, map, Some, None, refl}
use Rattle.std.proofs.Common.{sym, ap, ◌∙◌, subst, mod-lt, arith}
use Rattle.std.specs.Prelude.{replicate}
use Rattle.std.proofs.lemmas.List.{length-map, get_or-map, length-replicate, get_or-replicate}
use Rattle.std.proofs.lemmas.Option.{slice_get-get_or}
use Rattle.trace_model.specs.declared.limits.TheConstants.{MIN_PAGES, LINK_FILLS}
use Rattle.trace_model.specs.Links.{normal_link}
use Rattle.trace_model.specs.Ring.{empty_page, Core, IsStart, first_reader, link_into, page_at}
use Rattle.link_marks.specs.declared.link.Link as code
use Rattle.link_marks.specs.declared.link.Mark.TheVariants.{Normal}
use Rattle.link_marks.specs.ModelLinks.{link_of}
use Rattle.trace_model.proofs.Positions.{apart}
use Rattle.ring_frames.specs.declared.reader.TakeState.{TakeState}
use Rattle.ring_frames.specs.declared.reader.ReaderPhase.TheVariants.{LoadingHead}
use Rattle.ring_frames.specs.FirstPages.{AreFirstPages}
use Rattle.ring_frames.specs.Steps.{AreNew}
use Rattle.ring_frames.specs.ReaderPhases.{reader_phase_of}
use Rattle.ring_core.specs.Value.{CoreValue, frames_of}
use Rattle.ring_core.specs.IsCore.{HasBody, HasStateOf}
use Rattle.ring_core.specs.Steps.{IsNewRing}
use Rattle.link_marks.specs.FirstLinks.{IsFirstLink}
use Rattle.ring_core.specs.NewRing.{AreFirstLinks, AreFirstHomes}

-- the parts of a new ring
pub record HasFirstParts (n size start : ℕ) (laid : List code.Link) (v : CoreValue) : Type 0 where
  pub frames : AreNew n size start (frames_of v)
  pub links_are : v.links ≡ map link_of laid
  pub positions : length laid ≡ n
  pub links : AreFirstLinks n start laid
  pub spare_link : v.spare_link ≡ normal_link 0 0
  pub pages : length v.order ≡ n
  pub order : AreFirstPages v.order
  pub spare : v.spare ≡ n
  pub homes_are : length v.homes ≡ n + 1
  pub homes : AreFirstHomes n size (start % n) v.homes
  pub wish : v.wish ≡ 0
  pub reader : v.reader ≡ record { phase = LoadingHead; hint = start; seen = start; expected = 0 }

module _ (n size start : ℕ) (laid : List code.Link) (v : CoreValue) (some : MIN_PAGES ≤ n)
    (numbers : start + n < LINK_FILLS) (p : HasFirstParts n size start laid v) where
  no_link : code.Link
  no_link = record { mark = Normal; page = 0; fill = 0 }

  link_at : (f : ℕ) → IsFirstLink n start (f % n) (link_into n v.links f)
  link_at f = let low : f % n < n = mod-lt f (omega arith) in
      let wide = p.positions in
      let inside : f % n < length laid = omega arith in
      subst (IsFirstLink n start (f % n))
      (sym (get_or-map link_of laid (f % n) no_link (normal_link 0 0) inside)
      ∙ ap (λ ls. get_or ls (f % n) (normal_link 0 0)) (sym p.links_are))
      (p.links (f % n) (get_or laid (f % n) no_link) (slice_get-get_or laid (f % n) no_link inside))

  page_is : (position : ℕ) → position < n → get_or v.order position 0 ≡ position
  page_is position low = let wide = p.pages in
      p.order position (get_or v.order position 0) (slice_get-get_or v.order position 0 (omega arith))

  abbrev first_core : Core
  first_core = record {
    links = v.links;
    spare_link = v.spare_link;
    done = start;
    opened = start + 1;
    wish = 0;
    head = start;
    held = replicate (n + 1) empty_page;
    frames = [];
    open_pages = (start % n) ∷ [];
    history = [];
    order = v.order;
    spare = v.spare;
    reader = first_reader start;
  }

  starts : IsStart n start first_core
  starts = record {
    positions = ap (λ ls. length ls) p.links_are ∙ length-map laid link_of ∙ p.positions;
    first_link = (link_at start).first refl;
    links = λ f low high. (link_at f).others f low high refl;
    pages = p.pages;
    order = page_is;
    spare = p.spare;
    spare_link = p.spare_link;
    head = refl;
    done = refl;
    opened = refl;
    wish = refl;
    frames = refl;
    open_pages = refl;
    reader = refl;
    bodies = length-replicate (n + 1) empty_page;
    held = λ page low. get_or-replicate (n + 1) page empty_page empty_page low;
    history = refl;
  }

  free : (f : ℕ) → start + 1 ≤ f → f < start + n → HasBody v.homes size (page_at n v.order f)
  free f low high = let below : f % n < n = mod-lt f (omega arith) in let wide = p.homes_are in
      let ne : f % n ≢ start % n =
      apart start n f start (omega arith) high (omega arith) (omega arith) (λ e. omega arith) in
      let there = slice_get-get_or v.homes (f % n) None (omega arith) in
      let (body, home, sized) = p.homes (f % n) (get_or v.homes (f % n) None) there below ne in
      subst (HasBody v.homes size) (sym (page_is (f % n) below)) (body, there ∙ ap Some home, sized)

  first_shown : HasStateOf n size start v first_core
  first_shown = record {
    frames = p.frames first_core starts;
    positions = starts.positions;
    links_are = refl;
    spare_link_is = refl;
    order_is = refl;
    spare_is = refl;
    wish_is = sym p.wish;
    reader_phase_is = ap (λ (r : TakeState). reader_phase_of r.phase) (sym p.reader);
    hint_is = ap (λ (r : TakeState). r.hint) (sym p.reader);
    seen_is = ap (λ (r : TakeState). r.seen) (sym p.reader);
    expected_is = ap (λ (r : TakeState). r.expected) (sym p.reader);
    closed = λ f low high. absurd (omega arith);
    free = free;
  }

  pub new_core : IsNewRing n size start v
  new_core = (
    first_core,
    starts,
    record {
      reached =
          record {
            from = first_core;
            exchanges = [];
            may_start = record { some_pages = some; numbers_left = omega arith };
            is_new = starts;
            run = refl;
          };
      shows = first_shown;
    },
  )
