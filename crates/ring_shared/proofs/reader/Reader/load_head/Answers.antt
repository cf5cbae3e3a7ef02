use Rattle.std.specs.Prelude.{Bool, true, false, ◌==◌}
use Rattle.std.proofs.Common.{rules, ◌≡◌, ◌≢◌, ℕ, ◌+◌, ◌-◌, ◌<◌, None, length, refl, sym, ap, ◌∙◌, subst, arith}
use Rattle.std.proofs.lemmas.Bool.{eqb-true, eq-eqb}
use Rattle.atomic_table.specs.Seated.{TableId}
use Rattle.trace_model.specs.declared.limits.TheConstants.{LINK_PAGES}
use Rattle.trace_model.specs.Ring as ring
use Rattle.trace_model.specs.Steps as model
use Rattle.link_marks.specs.ModelLinks.{link_of}
use Rattle.link_marks.specs.declared.link.Link.{Link}
use Rattle.link_marks.specs.declared.link.Mark.{Mark}
use Rattle.link_marks.specs.declared.link.Mark.TheVariants.{Normal, Header, Update}
use Rattle.ring_frames.specs.ReaderPhases.{reader_phase_of}
use Rattle.ring_frames.specs.declared.looking.HeadSeen.{HeadSeen}
use Rattle.ring_frames.specs.declared.looking.HeadSeen.TheVariants.{Head, Unfinished, Passed}
use Rattle.ring_frames.specs.declared.reader.ReaderPhase.{ReaderPhase}
use Rattle.ring_frames.specs.declared.reader.ReaderPhase.TheVariants.{LoadingHead}
use Rattle.ring_steps.specs.declared.rule.Shape.{Shape}
use Rattle.ring_steps.specs.Views.{Reading}
use Rattle.ring_steps.specs.Ends.{reading_in, reader_table}
use Rattle.ring_steps.specs.Taking.{LinkLoaded}
use Rattle.ring_shared.specs.Value.{ReaderValue}
use Rattle.ring_shared.specs.Takes.{KeepsSpare, SawPage, TakesNothing, IsReader}
use Rattle.ring_shared.proofs.TakeSteps.{nothing, passed_below_hint, so, loaded}
use Rattle.ring_shared.proofs.Fields.{fields, positions, shown}
use Rattle.ring_shared.proofs.reader.Reader.load_head.Goals as goal

-- the load has this answer, and the reader goes on in this phase, with this hint
abbrev Goes : ReaderValue → Link → Reading → model.Answer → ring.ReaderPhase → ℕ → Type 0
Goes v link after reported phase hint = LinkLoaded v.shape v.part (link_of link) reported phase hint after

-- by what was seen
abbrev GoesBy : ReaderValue → Link → Reading → HeadSeen → Type 0
GoesBy v link after (Head page fill) =
    (page ≡ link.page) × Goes v link after model.reading (ring.loading_done page fill) fill
GoesBy v link after (Unfinished fill) = Goes v link after (model.moving fill) ring.loading_head fill
GoesBy v link after (Passed fill) = Goes v link after model.reading ring.loading_head fill

module _ {w v : ReaderValue} (same : w ≡ v) (is : IsReader v) where
  -- the fields of a reader that is seen as this value
  hint_seen : w.part.reader.hint ≡ w.at.hint
  hint_seen = ap (λ (x : ReaderValue). x.part.reader.hint) same ∙ (fields w v same is).1

  pages_seen : length w.order ≡ w.shape.pages
  pages_seen =
      ap (λ (x : ReaderValue). length x.order) same
      ∙ (positions v is ∙ ap (λ (x : ReaderValue). x.shape.pages) (sym same))

  module _ (link : Link) (after : Reading) (n : ℕ) (seen : HeadSeen) (pages : n ≡ length w.order)
      (header : link.mark ≡ Header → seen ≡ Head link.page link.fill)
      (update : link.mark ≡ Update → seen ≡ Unfinished (link.fill + 1))
      (owed : link.mark ≡ Normal → link.fill ≡ w.at.hint → seen ≡ Unfinished w.at.hint)
      (passed : link.mark ≡ Normal → link.fill ≢ w.at.hint → seen ≡ Passed (link.fill + 1 - n))
      (at_header : link.mark ≡ Header
      → Goes w link after model.reading (ring.loading_done link.page link.fill) link.fill)
      (at_update : link.mark ≡ Update
      → Goes w link after (model.moving (link.fill + 1)) ring.loading_head (link.fill + 1))
      (at_owed : link.mark ≡ Normal → link.fill ≡ w.part.reader.hint
      → Goes w link after (model.moving link.fill) ring.loading_head link.fill)
      (at_passed : link.mark ≡ Normal → link.fill ≢ w.part.reader.hint
      → Goes w link after model.reading ring.loading_head (link.fill + 1 - w.shape.pages)) where
    normal : link.mark ≡ Normal → (test : Bool) → (link.fill == w.at.hint) ≡ test → GoesBy w link after seen
    normal at true test = let here = eqb-true link.fill w.at.hint test in
        subst (GoesBy w link after) (sym (owed at here))
        (subst (λ (fill : ℕ). Goes w link after (model.moving fill) ring.loading_head fill) here
        (at_owed at (here ∙ sym hint_seen)))
    normal at false test =
        let other : link.fill ≢ w.at.hint = λ e. let holds = eq-eqb link.fill w.at.hint e in
        absurd (let both = sym holds ∙ test in cc) in
        subst (GoesBy w link after) (sym (passed at other))
        (subst (λ (k : ℕ). Goes w link after model.reading ring.loading_head (link.fill + 1 - k))
        (sym (pages ∙ pages_seen)) (at_passed at (λ e. other (e ∙ hint_seen))))

    marked : (mark : Mark) → link.mark ≡ mark → GoesBy w link after seen
    marked Header at = subst (GoesBy w link after) (sym (header at)) (refl, at_header at)
    marked Update at = subst (GoesBy w link after) (sym (update at)) (at_update at)
    marked Normal at = normal at (link.fill == w.at.hint) refl

    goes : GoesBy v link after seen
    goes = subst (λ (x : ReaderValue). GoesBy x link after seen) same (marked link.mark refl)

  -- the reader after it, which still looks for the head
  still : w.at.phase ≡ LoadingHead → v.empty_at ≡ None
      → (shape : Shape) (table : TableId) (link : Link) (after : Reading) (answer : model.Answer) (fill : ℕ)
      → shape ≡ w.shape
      → Goes v link after answer ring.loading_head fill
      → IsReader (record w { shape = shape; table = table; part = after; at = record w.at { hint = fill } })
  still at again shape table link after answer fill shape_is h =
      let old = fields w v same is in
      shown w v same is shape table after (record v.part.reader { phase = ring.loading_head; hint = fill })
      (record w.at { hint = fill }) again shape_is
      (loaded v.shape v.part (link_of link) answer ring.loading_head fill after h)
      (ap reader_phase_of (sym at), refl, old.2, old.3)
      (subst (λ (p : ReaderPhase). KeepsSpare p after.keeps_spare) (sym at) tt) (subst SawPage (sym at) tt)

-- nothing is taken, and the model answers so
none_taken : (v : ReaderValue) (link : Link) (after : Reading) (answer : model.Answer) (phase : ring.ReaderPhase)
    (fill : ℕ) → Goes v link after answer phase fill → TakesNothing v.part after
none_taken v link after answer phase fill h =
    nothing v.shape v.part after (record v.part.reader { phase = phase; hint = fill })
    (loaded v.shape v.part (link_of link) answer phase fill after h) refl refl h.hint_le (omega arith)

pub head_seen-requires-clause-passed : goal.head_seen-requires-clause-passed
head_seen-requires-clause-passed c is other =
    let pages = c.len-pages.ensures ∙ (c.self.inside.order.ok.0 ∙ pages_seen c.self.view_is c.requires.taking.reader) in
    let low = c.load_head-link.ensures.behind is (λ e. other (e ∙ hint_seen c.self.view_is c.requires.taking.reader)) in
    omega arith

pub returns-in-Head : goal.returns-in-Head
returns-in-Head c =
    let v : ReaderValue = c.args.self.now in
    let new = c.load_head-link.new.self in let after : Reading = reading_in new in
    let seen = c.head_seen.ensures in let reported = c.load_head-link.ensures in
    let (page, h) = subst (GoesBy v c.load_head-link.result after) c.in-Head.is
    (goes c.self.view_is c.requires.taking.reader c.load_head-link.result after c.len-pages.result c.head_seen.result
    (c.len-pages.ensures ∙ c.self.inside.order.ok.0)
    seen.header seen.update seen.owed seen.passed reported.header reported.update reported.owed reported.passed) in
    let reader : ring.Reader =
    record v.part.reader { phase = ring.loading_done c.in-Head.page c.in-Head.fill; hint = c.in-Head.fill } in
    let old = fields _ v c.self.view_is c.requires.taking.reader in
    record {
      looked = (
        none_taken v c.load_head-link.result after model.reading (ring.loading_done c.in-Head.page c.in-Head.fill)
            c.in-Head.fill h,
        so v.shape v.part after _ model.reading h.step,
      );
      empty_at = search rules;
      ring = search rules;
      reader =
          shown _ v c.self.view_is c.requires.taking.reader new.shape (reader_table new) after reader _
          c.requires.taking.again reported.same.shape
          (loaded v.shape v.part (link_of c.load_head-link.result) model.reading
          (ring.loading_done c.in-Head.page c.in-Head.fill) c.in-Head.fill after h)
          (refl, refl, old.2, old.3) reported.spare
          (subst (λ (p : ℕ). p < LINK_PAGES) (sym page) reported.fits.page_fits);
    }

pub returns-in-Unfinished : goal.returns-in-Unfinished
returns-in-Unfinished c =
    let v : ReaderValue = c.args.self.now in
    let new = c.load_head-link.new.self in let after : Reading = reading_in new in
    let seen = c.head_seen.ensures in let reported = c.load_head-link.ensures in
    let h = subst (GoesBy v c.load_head-link.result after) c.in-Unfinished.is
    (goes c.self.view_is c.requires.taking.reader c.load_head-link.result after c.len-pages.result c.head_seen.result
    (c.len-pages.ensures ∙ c.self.inside.order.ok.0)
    seen.header seen.update seen.owed seen.passed reported.header reported.update reported.owed reported.passed) in
    let hint =
    ap (λ (x : ring.Reader). x.hint)
    (loaded v.shape v.part (link_of c.load_head-link.result) (model.moving c.in-Unfinished.fill)
    ring.loading_head c.in-Unfinished.fill after h).reader_is in
    record {
      looked = (
        record {
          nothing =
              none_taken v c.load_head-link.result after (model.moving c.in-Unfinished.fill) ring.loading_head
              c.in-Unfinished.fill h;
          hint_le = h.hint_le;
          hint_is = hint;
          passed = passed_below_hint v.shape after c.in-Unfinished.fill hint;
        },
        so v.shape v.part after _ (model.moving c.in-Unfinished.fill) h.step,
      );
      empty_at = search rules;
      ring = search rules;
      reader =
          still c.self.view_is c.requires.taking.reader
          (ap (λ (w : ReaderValue). w.at.phase) c.self.view_is ∙ c.requires.phase) c.requires.taking.again new.shape
          (reader_table new) c.load_head-link.result after (model.moving c.in-Unfinished.fill) c.in-Unfinished.fill
          reported.same.shape h;
    }

pub returns-in-Passed : goal.returns-in-Passed
returns-in-Passed c =
    let v : ReaderValue = c.args.self.now in
    let new = c.load_head-link.new.self in let after : Reading = reading_in new in
    let seen = c.head_seen.ensures in let reported = c.load_head-link.ensures in
    let h = subst (GoesBy v c.load_head-link.result after) c.in-Passed.is
    (goes c.self.view_is c.requires.taking.reader c.load_head-link.result after c.len-pages.result c.head_seen.result
    (c.len-pages.ensures ∙ c.self.inside.order.ok.0)
    seen.header seen.update seen.owed seen.passed reported.header reported.update reported.owed reported.passed) in
    record {
      looked = (
        none_taken v c.load_head-link.result after model.reading ring.loading_head c.in-Passed.fill h,
        so v.shape v.part after _ model.reading h.step,
      );
      empty_at = search rules;
      ring = search rules;
      reader =
          still c.self.view_is c.requires.taking.reader
          (ap (λ (w : ReaderValue). w.at.phase) c.self.view_is ∙ c.requires.phase) c.requires.taking.again new.shape
          (reader_table new) c.load_head-link.result after model.reading c.in-Passed.fill reported.same.shape h;
    }
