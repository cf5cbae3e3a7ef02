-- What each step of a take makes of the reader's part: it is determined by what the step finds.
use Rattle.std.specs.Prelude.{⊤}
use Rattle.std.proofs.Common.{◌≡◌, ◌≢◌, ℕ, suc, ◌+◌, ◌-◌, ◌%◌, ◌<◌, ◌≤◌, List, [], ◌∷◌, ◌++◌, get_or, take, map, Bool}
use Rattle.std.proofs.Common.{true, false, refl, sym, ap, ◌∙◌, subst, arith, mod-lt}
use mathlib.Core.Logic.{dite}
use native.Mathlib.Decide.{dec_le}
use Rattle.trace_model.specs.Record.{Record}
use Rattle.trace_model.specs.History.{as_record, reserved_records}
use Rattle.trace_model.specs.Links.{Link, word_of, normal_link, header_link, update_link, FitsWord}
use Rattle.trace_model.specs.Ring.{Core, Reader, ReaderPhase, loading_head, loading_done, storing_spare_link, swapping}
use Rattle.trace_model.specs.Ring.{link_into, page_at}
use Rattle.trace_model.specs.Steps as model
use Rattle.trace_model.proofs.steps.StepCases as cases
use Rattle.trace_model.proofs.steps.StepIs.{step_by}
use Rattle.trace_model.proofs.words.LinkWords.{word_reports}
use Rattle.link_marks.specs.ModelLinks.{link_of}
use Rattle.link_marks.specs.declared.link.Link as code
use Rattle.link_marks.specs.declared.link.Mark.{Mark}
use Rattle.link_marks.specs.declared.link.Mark.TheVariants.{Normal, Header, Update}
use Rattle.ring_model.specs.KeptLinks.{ReaderKept}
use Rattle.ring_model.specs.RingKept.{IsRingKept}
use Rattle.ring_model.proofs.frames.AnswersRight.{moving_right}
use Rattle.ring_model.proofs.links.LinkFills.{fill_at, normal_reports, header_reports}
use Rattle.trace_model.proofs.Positions.{at_position, one_position}
use Rattle.ring_model.proofs.partition.RingsKept.{reached_kept}
use Rattle.ring_model.proofs.steps.StepsDetermined.{steps_are_determined}
use Rattle.ring_steps.specs.declared.rule.Shape.{Shape}
use Rattle.ring_steps.specs.Views.{Reading, reading_made, reading_after}
use Rattle.ring_steps.specs.Seats.{IsReaderStep}
use Rattle.ring_steps.specs.Taking.{IsReadStep, IsWordInto, page_found, fill_found, IsStoringLink, LinkLoaded}
use Rattle.ring_steps.specs.Taking.{DoneLoaded, SpareLinked}
use Rattle.ring_steps.proofs.Taking.{gone_on}

-- this part, as the one after a step of a take
abbrev after_read : Reading → model.Answer → Reading → Reading
after_read before answer part = reading_after before.made record { event = model.reads; answer = answer } part

-- the step is seen as one of which less is stated, and that has this answer
pub seen_as : (shape : Shape) (before : Reading) (sees other : Core → Type 0) (event : model.Event)
    (answer reported : model.Answer) (after : Reading)
    → (r : IsReaderStep shape before sees event answer after)
    → other r.core
    → answer ≡ reported
    → IsReaderStep shape before other event reported after
seen_as shape before sees other event answer reported after r seen e = record {
  core = r.core;
  next = r.next;
  reached = r.reached;
  before_is = r.before_is;
  seen = seen;
  of_reader = r.of_reader;
  step = subst (λ (a : model.Answer). model.Step shape.pages shape.size r.core event a r.next) e r.step;
  after_is = r.after_is;
  made_is = r.made_is;
  one_more =
      r.one_more
      ∙ ap (λ (a : model.Answer). before.made ++ reading_made record { event = event; answer = a } after ∷ []) e;
  in_time = r.in_time;
  lessons_are = r.lessons_are;
}

module _ (shape : Shape) (before after : Reading) (sees : Core → Type 0) (answer : model.Answer)
    (r : IsReaderStep shape before sees model.reads answer after) where
  -- ---- the state before the step

  kept : IsRingKept shape.pages shape.size shape.start r.core
  kept = reached_kept shape.pages shape.size shape.start r.core r.reached

  reader_is : before.reader ≡ r.core.reader
  reader_is = r.before_is.reader_is

  pub hint_is : before.reader.hint ≡ r.core.reader.hint
  hint_is = ap (λ (x : Reader). x.hint) reader_is

  seen_low : before.reader.seen ≤ r.core.done
  seen_low = let same = ap (λ (x : Reader). x.seen) reader_is in let low = kept.links.seen_le in omega arith

  phase_in : (phase : ReaderPhase) → before.reader.phase ≡ phase → phase ≡ r.core.reader.phase
  phase_in phase at = sym at ∙ ap (λ (x : Reader). x.phase) reader_is

  pub facts : (phase : ReaderPhase) → before.reader.phase ≡ phase
      → ReaderKept shape.pages r.core.links r.core.order r.core.spare_link r.core.head r.core.done r.core.reader.hint
      phase
  facts phase at =
      subst
      (λ (p : ReaderPhase).
      ReaderKept shape.pages r.core.links r.core.order r.core.spare_link r.core.head r.core.done
      r.core.reader.hint p) (sym (phase_in phase at)) kept.links.reader

  -- ---- the state after it

  -- the step is this one
  is_step : (phase : ReaderPhase) (reported : model.Answer) (next : Core) → before.reader.phase ≡ phase
      → cases.ReadStep shape.pages r.core phase reported next → (answer ≡ reported) × (r.next ≡ next)
  is_step phase reported next at step =
      steps_are_determined shape.pages shape.size r.core model.reads answer reported r.next next r.step
      (step_by (cases.read_step refl
      (subst (λ (p : ReaderPhase). cases.ReadStep shape.pages r.core p reported next) (phase_in phase at)
      step)))

  -- the model answers it so
  so : (reported : model.Answer) → answer ≡ reported → IsReaderStep shape before sees model.reads reported after
  so reported e = seen_as shape before sees sees model.reads answer reported after r r.seen e

  -- the reader's part, after a step by which nothing is taken
  part_is : (reader : Reader) (link : Link) (keeps : Bool) (reported : model.Answer) → answer ≡ reported
      → r.next ≡ gone_on r.core reader link → reader.expected ≡ r.core.reader.expected → after.keeps_spare ≡ keeps
      → after ≡ after_read before reported (record before { spare_link = link; reader = reader; keeps_spare = keeps })
  part_is reader link keeps reported answered is expected slot =
      let order = r.after_is.order_is ∙ (ap (λ (d : Core). d.order) is ∙ sym r.before_is.order_is) in
      let spare = r.after_is.spare_is ∙ (ap (λ (d : Core). d.spare) is ∙ sym r.before_is.spare_is) in
      let spare_link = r.after_is.spare_link_is ∙ ap (λ (d : Core). d.spare_link) is in
      let reader_on = r.after_is.reader_is ∙ ap (λ (d : Core). d.reader) is in
      let wish = r.after_is.wish_is ∙ (ap (λ (d : Core). d.wish) is ∙ sym r.before_is.wish_is) in
      let observed = r.after_is.observed_is
      ∙ (ap
      (λ (d : Core). let observed : List Record =
      take d.reader.expected (map as_record (reserved_records d.history)) in
      observed) is
      ∙ (ap
      (λ (e : ℕ). let observed : List Record = take e (map as_record (reserved_records r.core.history)) in
      observed) expected ∙ sym r.before_is.observed_is)) in
      (λ i. record after { made = r.one_more i })
      ∙ (ap (after_read before answer) (λ i. record {
        order = order i;
        spare = spare i;
        spare_link = spare_link i;
        reader = reader_on i;
        wish = wish i;
        observed = observed i;
        keeps_spare = slot i;
        made = [];
        lessons = r.lessons_are i;
      })
      ∙ ap
      (λ (a : model.Answer).
      after_read before a (record before { spare_link = link; reader = reader; keeps_spare = keeps })) answered)

  -- which keeps the spare's link
  part_like : (reader : Reader) (keeps : Bool) (reported : model.Answer) → answer ≡ reported
      → r.next ≡ gone_on r.core reader r.core.spare_link → reader.expected ≡ r.core.reader.expected
      → after.keeps_spare ≡ keeps
      → after ≡ after_read before reported (record before { reader = reader; keeps_spare = keeps })
  part_like reader keeps reported answered is expected slot =
      subst
      (λ (link : Link).
      after
      ≡ after_read before reported
      (record before { spare_link = link; reader = reader; keeps_spare = keeps }))
      (sym r.before_is.spare_link_is)
      (part_is reader r.core.spare_link keeps reported answered is expected slot)

  -- ---- a store of the spare's link

  pub stores : (link : Link) → IsStoringLink before
      → link ≡ header_link (page_at shape.pages before.order (fill_found before + 1)) (fill_found before + 1)
      → after.keeps_spare ≡ true
      → SpareLinked shape before link after
  stores link at is slot =
      let page : ℕ = page_found before in
      let fill : ℕ = fill_found before in
      let behind : Link = model.next_header shape.pages r.core fill in
      let on : suc fill ≡ fill + 1 = omega arith in
      let same : link ≡ behind =
      is ∙ (λ i. header_link (page_at shape.pages (r.before_is.order_is i) (sym on i)) (sym on i)) in
      let next : Core =
      gone_on r.core (record r.core.reader { phase = swapping page fill; hint = r.core.reader.hint }) behind in
      let (reported, next_is) =
      is_step (storing_spare_link page fill) model.reading next at record { answer_is = refl; after_is = refl } in
      record {
        step = seen_as shape before sees (λ _. ⊤) model.reads answer model.reading after r tt reported;
        after_is =
            subst
            (λ (l : Link).
            after
            ≡ after_read before model.reading
            (record before {
              spare_link = l;
              reader = record before.reader { phase = swapping page fill };
              keeps_spare = true;
            })) (sym same)
            (subst
            (λ (x : Reader).
            after
            ≡ after_read before model.reading
            (record before {
              spare_link = behind;
              reader = record x { phase = swapping page fill };
              keeps_spare = true;
            })) (sym reader_is)
            (part_is (record r.core.reader { phase = swapping page fill }) behind true model.reading reported next_is
            refl slot));
      }

-- ---- a load of a link

-- the link that is loaded is that into the position of the hint
abbrev SeesLinkAtHint : Shape → Reading → Link → Core → Type 0
SeesLinkAtHint shape before link core = link_into shape.pages core.links before.reader.hint ≡ link

module _ (shape : Shape) (before after : Reading) (link : Link) (answer : model.Answer)
    (r : IsReaderStep shape before (SeesLinkAtHint shape before link) model.reads answer after)
    (at : before.reader.phase ≡ loading_head) (slot : after.keeps_spare ≡ false) where
  -- the reader goes on in this phase, with this hint
  loads : (reported : model.Answer) (phase : ReaderPhase) (hint : ℕ)
      → cases.LoadHeadStep shape.pages r.core reported (model.reader_at r.core phase hint) → before.reader.hint ≤ hint
      → LinkLoaded shape before link reported phase hint after
  loads reported phase hint step low =
      let (reported_is, next_is) =
      is_step shape before after (SeesLinkAtHint shape before link) answer r loading_head reported
      (model.reader_at r.core phase hint) at step in
      record {
        step = so shape before after (SeesLinkAtHint shape before link) answer r reported reported_is;
        hint_le = low;
        after_is =
            subst
            (λ (x : Reader).
            after
            ≡ after_read before reported
            (record before { reader = record x { phase = phase; hint = hint }; keeps_spare = false }))
            (sym (reader_is shape before after (SeesLinkAtHint shape before link) answer r))
            (part_like shape before after (SeesLinkAtHint shape before link) answer r
            (record r.core.reader { phase = phase; hint = hint }) false reported reported_is next_is refl slot);
      }

  k : IsRingKept shape.pages shape.size shape.start r.core
  k = kept shape before after (SeesLinkAtHint shape before link) answer r

  same_hint : before.reader.hint ≡ r.core.reader.hint
  same_hint = hint_is shape before after (SeesLinkAtHint shape before link) answer r

  here : (l : Link) → link ≡ l → link_into shape.pages r.core.links r.core.reader.hint ≡ l
  here l is = ap (link_into shape.pages r.core.links) (sym same_hint) ∙ (r.seen ∙ is)

  pub sees_header : (page fill : ℕ) → link ≡ header_link page fill
      → LinkLoaded shape before link model.reading (loading_done page fill) fill after
  sees_header page fill is =
      let (g, low, high, same, into) = fill_at shape.pages r.core k.links before.reader.hint in
      let reported =
      header_reports shape.pages r.core.links r.core.order r.core.head r.core.frames g page fill into
      (same ∙ (r.seen ∙ is)) in
      let fill_is = reported.0 in let head_is = reported.1 in let behind = k.links.hint_le in let hint = same_hint in
      loads model.reading (loading_done page fill) fill
      (cases.loads_header page fill (here (header_link page fill) is) refl refl) (omega arith)

  pub sees_update : (page lost : ℕ) → link ≡ update_link page lost
      → LinkLoaded shape before link (model.moving (lost + 1)) loading_head (lost + 1) after
  sees_update page lost is =
      let step : cases.LoadHeadStep shape.pages r.core (model.moving (suc lost))
      (model.reader_at r.core loading_head (suc lost)) =
      cases.loads_update page lost (here (update_link page lost) is) refl refl in
      let next : suc lost ≡ lost + 1 = omega arith in
      let reported =
      is_step shape before after (SeesLinkAtHint shape before link) answer r loading_head (model.moving (suc lost))
      (model.reader_at r.core loading_head (suc lost)) at step in
      let way =
      (moving_right shape.pages shape.size shape.start r.core model.reads (suc lost) r.next k
      (subst (λ (a : model.Answer). model.Step shape.pages shape.size r.core model.reads a r.next) reported.0
      r.step)).0 in
      let low = way.hint_le in let same = same_hint in
      subst (λ (hint : ℕ). LinkLoaded shape before link (model.moving hint) loading_head hint after) next
      (loads (model.moving (suc lost)) loading_head (suc lost) step (omega arith))

  pub sees_owed : (page : ℕ) → link ≡ normal_link page before.reader.hint
      → LinkLoaded shape before link (model.moving before.reader.hint) loading_head before.reader.hint after
  sees_owed page is =
      let same = same_hint in
      subst (λ (hint : ℕ). LinkLoaded shape before link (model.moving hint) loading_head hint after) (sym same)
      (loads (model.moving r.core.reader.hint) loading_head r.core.reader.hint
      (cases.loads_owed page (here (normal_link page before.reader.hint) is ∙ ap (normal_link page) same) refl refl)
      (omega arith))

  -- the position has a fill from the head on, at least a whole round after the hint
  far : (page fill : ℕ) → link ≡ normal_link page fill → fill ≢ before.reader.hint
      → (before.reader.hint + shape.pages ≤ fill) × (1 ≤ shape.pages)
  far page fill is other =
      let some_pages = k.links.some_pages in let behind = k.links.hint_le in let same = same_hint in
      let hint : ℕ = before.reader.hint in
      let (g, low, high, position) =
      at_position r.core.head shape.pages (hint % shape.pages) (mod-lt hint (omega arith)) in
      let reported : fill ≡ g =
      (normal_reports shape.pages r.core.links r.core.order r.core.head r.core.frames g page fill
      (k.links.each g low high)
      (ap (λ (i : ℕ). get_or r.core.links i (normal_link 0 0)) position ∙ (r.seen ∙ is))).0 in (
        dite (dec_le (hint + shape.pages) fill) (λ yes. yes)
            (λ no. let one =
            one_position hint shape.pages g hint (omega arith) (omega arith) (omega arith) (omega arith)
            position in
            absurd (other (reported ∙ one))),
        omega arith,
      )

  pub sees_passed : (page fill : ℕ) → link ≡ normal_link page fill → fill ≢ before.reader.hint
      → LinkLoaded shape before link model.reading loading_head (fill + 1 - shape.pages) after
      × (before.reader.hint + shape.pages ≤ fill)
  sees_passed page fill is other =
      let (behind, some_pages) = far page fill is other in let same = same_hint in (
        loads model.reading loading_head (fill + 1 - shape.pages)
            (cases.loads_passed page fill (fill + 1 - shape.pages) (here (normal_link page fill) is) (omega arith)
            (omega arith) refl refl) (omega arith),
        behind,
      )

-- a step at the hint, by the mark of a link whose word was found
module _ (shape : Shape) (before after : Reading) (found : ℕ)
    (read : IsReadStep shape before (IsWordInto shape before.reader.hint found) after)
    (at : before.reader.phase ≡ loading_head) (slot : after.keeps_spare ≡ false) (l : code.Link)
    (fits : FitsWord (link_of l)) (word : word_of (link_of l) ≡ found) where
  seen : IsReaderStep shape before (SeesLinkAtHint shape before (link_of l)) model.reads read.0 after
  seen = let r = read.1 in
      seen_as shape before (IsWordInto shape before.reader.hint found) (SeesLinkAtHint shape before (link_of l))
      model.reads read.0 read.0 after r
      (word_reports (link_into shape.pages r.core.links before.reader.hint) (link_of l) r.seen.fits fits
      (r.seen.word_is ∙ sym word)) refl

  is_marked : (mark : Mark) → l.mark ≡ mark → link_of l ≡ link_of record { mark = mark; page = l.page; fill = l.fill }
  is_marked mark is = ap (λ (m : Mark). link_of record { mark = m; page = l.page; fill = l.fill }) is

  pub at_header : l.mark ≡ Header
      → LinkLoaded shape before (link_of l) model.reading (loading_done l.page l.fill) l.fill after
  at_header is = sees_header shape before after (link_of l) read.0 seen at slot l.page l.fill (is_marked Header is)

  pub at_update : l.mark ≡ Update
      → LinkLoaded shape before (link_of l) (model.moving (l.fill + 1)) loading_head (l.fill + 1) after
  at_update is = sees_update shape before after (link_of l) read.0 seen at slot l.page l.fill (is_marked Update is)

  pub at_owed : l.mark ≡ Normal → l.fill ≡ before.reader.hint
      → LinkLoaded shape before (link_of l) (model.moving l.fill) loading_head l.fill after
  at_owed is same =
      subst (λ (hint : ℕ). LinkLoaded shape before (link_of l) (model.moving hint) loading_head hint after) (sym same)
      (sees_owed shape before after (link_of l) read.0 seen at slot l.page
      (is_marked Normal is ∙ ap (normal_link l.page) same))

  pub at_passed : l.mark ≡ Normal → l.fill ≢ before.reader.hint
      → LinkLoaded shape before (link_of l) model.reading loading_head (l.fill + 1 - shape.pages) after
      × (before.reader.hint + shape.pages ≤ l.fill)
  at_passed is other =
      sees_passed shape before after (link_of l) read.0 seen at slot l.page l.fill (is_marked Normal is) other

-- ---- a load of the number of closed fills

module _ (shape : Shape) (before after : Reading) (done : ℕ) (answer : model.Answer)
    (r : IsReaderStep shape before (λ core. core.done ≡ done) model.reads answer after)
    (page fill : ℕ) (at : before.reader.phase ≡ loading_done page fill) (slot : after.keeps_spare ≡ before.keeps_spare)
  where
    saw : (reported : model.Answer) (phase : ReaderPhase)
        → cases.LoadDoneStep r.core page fill reported (model.reader_saw r.core phase)
        → DoneLoaded shape before done reported phase after
    saw reported phase step =
        let sees : Core → Type 0 = λ core. core.done ≡ done in
        let (reported_is, next_is) =
        is_step shape before after sees answer r (loading_done page fill) reported (model.reader_saw r.core phase) at
        step in
        let low = seen_low shape before after sees answer r in let same : r.core.done ≡ done = r.seen in record {
          step = so shape before after sees answer r reported reported_is;
          seen_le = omega arith;
          after_is =
              subst
              (λ (d : ℕ).
              after
              ≡ after_read before reported
              (record before { reader = record before.reader { phase = phase; seen = d } })) same
              (subst
              (λ (x : Reader).
              after
              ≡ after_read before reported
              (record before { reader = record x { phase = phase; seen = r.core.done } }))
              (sym (reader_is shape before after sees answer r))
              (part_like shape before after sees answer r (record r.core.reader { phase = phase; seen = r.core.done })
              before.keeps_spare reported reported_is next_is refl slot));
        }

    pub finds_closed : fill < done → DoneLoaded shape before done model.reading (storing_spare_link page fill) after
    finds_closed below = let same : r.core.done ≡ done = r.seen in
        saw model.reading (storing_spare_link page fill) (cases.finds_closed (omega arith) refl refl)

    pub finds_none : done ≤ fill
        → DoneLoaded shape before done (model.empty done) loading_head after × (before.reader.hint ≡ done)
    finds_none le =
        let sees : Core → Type 0 = λ core. core.done ≡ done in
        let k = kept shape before after sees answer r in let same : r.core.done ≡ done = r.seen in
        let fill_is = (facts shape before after sees answer r (loading_done page fill) at).fill_is in
        let behind = k.links.hint_le in
        let unread = k.links.head_le in
        let hint = hint_is shape before after sees answer r in (
          subst (λ (d : ℕ). DoneLoaded shape before done (model.empty d) loading_head after) same
              (saw (model.empty r.core.done) loading_head (cases.finds_none (omega arith) refl refl)),
          omega arith,
        )
