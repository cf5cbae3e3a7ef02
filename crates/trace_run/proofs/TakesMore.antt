-- One more take, among what a reader made.
use Rattle.std.proofs.Common.{◌≡◌, ℕ, List, [], ◌∷◌, ◌++◌, length, refl, sym, ap, ◌∙◌, subst, arith, append_assoc}
use Rattle.std.proofs.Common.{append-nil, length-append}
use Rattle.std.specs.Prelude.{map}
use Rattle.std.proofs.lemmas.List.{map-append}
use Rattle.trace_model.specs.Ring.{TakenFill, Reader, Core}
use Rattle.trace_model.specs.Steps as model
use Rattle.trace_model.specs.Steps.{Exchange}
use Rattle.page_image.specs.Contents.{Contents}
use Rattle.trace_model.specs.declared.numbers.FillNo.{FillNo}
use Rattle.ring_model.proofs.frames.AnswersRight.{swapped_right}
use Rattle.ring_model.proofs.partition.RingsKept.{reached_kept}
use Rattle.ring_steps.specs.declared.rule.Shape.{Shape}
use Rattle.ring_steps.specs.Views.{Reading, reading_made}
use Rattle.ring_steps.specs.Seats.{IsReaderStep}
use Rattle.ring_shared.specs.declared.take.Take.{Take}
use Rattle.ring_shared.specs.declared.take.Take.TheVariants.{Page, Empty, Moving}
use Rattle.ring_shared.specs.Takes.{IsPageTaken, ReadsSo, ReadsOn, no_step, one_more, TakesSteps, has_answer, has_none}
use Rattle.trace_run.specs.readers.TakesMade.{reads_in, AreReadingOn, AnswersPages, AreTakes, answered, put_off}

-- a step of the reader is the one exchange that it has made more
read_one : (shape : Shape) (before : Reading) (sees : Core → Type 0) (event : model.Event) (answer : model.Answer)
    (after : Reading)
    → IsReaderStep shape before sees event answer after
    → reads_in after ≡ reads_in before ++ record { event = event; answer = answer } ∷ []
read_one shape before sees event answer after s =
    ap (map (λ made. made.exchange)) s.one_more
    ∙ map-append (λ made. made.exchange) before.made
    (reading_made record { event = event; answer = answer } after ∷ [])

reading_more : (xs : List Exchange)
    → AreReadingOn xs
    → AreReadingOn (xs ++ record { event = model.reads; answer = model.reading } ∷ [])
reading_more [] are = (refl, tt)
reading_more (x ∷ xs) (is, are) = (is, reading_more xs are)

-- reading on
record HasReadOn (before after : Reading) : Type 0 where
  looks : List Exchange
  are : AreReadingOn looks
  has_made : reads_in after ≡ reads_in before ++ looks

reads_on : (shape : Shape) (before : Reading) (steps : ℕ) (after : Reading)
    → ReadsOn shape before steps after
    → HasReadOn before after
reads_on shape before _ _ no_step = record { looks = []; are = tt; has_made = sym (append-nil (reads_in before)) }
reads_on shape before _ _ (one_more steps between after reads step) =
    let x : Exchange = record { event = model.reads; answer = model.reading } in
    let h = reads_on shape before steps between reads in
    record {
      looks = h.looks ++ x ∷ [];
      are = reading_more h.looks h.are;
      has_made = read_one shape between _ model.reads model.reading after step
          ∙ ap (λ (l : List Exchange). l ++ x ∷ []) h.has_made
          ∙ append_assoc (reads_in before) h.looks (x ∷ []);
    }

-- the last ones of equal lists are equal
pub last_same : {A : Type 0} → (xs ys : List A) (x y : A) → xs ++ x ∷ [] ≡ ys ++ y ∷ [] → x ≡ y
last_same [] [] x y e = cc
last_same {A} [] (b ∷ ys) x y e =
    absurd (let long = ap (λ (l : List A). length l) e in
    let more = length-append ys (y ∷ []) in omega (arith, long, more))
last_same {A} (a ∷ xs) [] x y e =
    absurd (let long = ap (λ (l : List A). length l) e in
    let more = length-append xs (x ∷ []) in omega (arith, long, more))
last_same (a ∷ xs) (b ∷ ys) x y e = last_same xs ys x y cc

-- ---- a take

module _ (shape : Shape) (before : Reading) (result : Take) (after : Reading)
    (takes : AreTakes (reads_in before) before.reader.taken) where
  -- it has an answer
  by_answer : (answer : model.Answer) (pages : List TakenFill) (between : Reading) (steps : ℕ)
      → ReadsOn shape before steps between
      → ReadsSo shape between answer after
      → AnswersPages answer pages
      → after.reader.taken ≡ before.reader.taken ++ pages
      → AreTakes (reads_in after) after.reader.taken
  by_answer answer pages between steps on step answers taken =
      let x : Exchange = record { event = model.reads; answer = answer } in
      let h = reads_on shape before steps between on in
      let all : reads_in after ≡ reads_in before ++ (h.looks ++ x ∷ []) =
      read_one shape between _ model.reads answer after step
      ∙ ap (λ (l : List Exchange). l ++ x ∷ []) h.has_made
      ∙ append_assoc (reads_in before) h.looks (x ∷ []) in
      subst (λ (l : List Exchange). AreTakes l after.reader.taken) (sym all)
      (subst (λ (l : List TakenFill). AreTakes (reads_in before ++ (h.looks ++ x ∷ [])) l) (sym taken)
      (answered (reads_in before) before.reader.taken h.looks answer pages takes h.are answers))

  -- it is put off
  by_none : (steps : ℕ)
      → ReadsOn shape before steps after
      → after.reader.taken ≡ before.reader.taken
      → AreTakes (reads_in after) after.reader.taken
  by_none steps on taken =
      let h = reads_on shape before steps after on in
      subst (λ (l : List Exchange). AreTakes l after.reader.taken) (sym h.has_made)
      (subst (λ (l : List TakenFill). AreTakes (reads_in before ++ h.looks) l) (sym taken)
      (put_off (reads_in before) before.reader.taken h.looks takes h.are))

-- the page that a step answered is the one that was taken
page_is : (shape : Shape) (between : Reading) (t : TakenFill) (after : Reading) (front : List TakenFill) (u : TakenFill)
    → ReadsSo shape between (model.page_taken t) after
    → after.reader.taken ≡ front ++ u ∷ []
    → u ≡ t
page_is shape between t after front u s is =
    let right = swapped_right shape.pages shape.size shape.start s.core model.reads t s.next
    (reached_kept shape.pages shape.size shape.start s.core s.reached) s.step in
    last_same front s.core.reader.taken u t
    (sym is ∙ ap (λ (r : Reader). r.taken) s.after_is.reader_is ∙ right.3)

pub page_more : (shape : Shape) (before : Reading) (page : Contents) (missed : ℕ) (after : Reading)
    → AreTakes (reads_in before) before.reader.taken
    → TakesSteps shape before (Page page missed) after
    → IsPageTaken shape before page missed after
    → AreTakes (reads_in after) after.reader.taken
page_more shape before page missed after takes (has_answer steps between few on a) is =
    let (t, reported, taken) = a.reports in
    let step = subst (λ (x : model.Answer). ReadsSo shape between x after) reported a.step in
    let same : is.taken ≡ t = page_is shape between t after before.reader.taken is.taken step is.one_more in
    by_answer shape before (Page page missed) after takes (model.page_taken t) (t ∷ []) between steps on step refl
    (is.one_more ∙ ap (λ (x : TakenFill). before.reader.taken ++ x ∷ []) same)
page_more shape before page missed after takes (has_none fill back on hint e) is = absurd (let no : ⊥ = cc in no)

pub none_more : (shape : Shape) (before : Reading) (done : ℕ) (back : List ℕ) (after : Reading)
    → AreTakes (reads_in before) before.reader.taken
    → TakesSteps shape before (Empty done back) after
    → after.reader.taken ≡ before.reader.taken
    → AreTakes (reads_in after) after.reader.taken
none_more shape before done back after takes (has_answer steps between few on a) taken =
    by_answer shape before (Empty done back) after takes (model.empty done) [] between steps on
    (subst (λ (x : model.Answer). ReadsSo shape between x after) a.reports a.step) refl
    (taken ∙ sym (append-nil before.reader.taken))
none_more shape before done back after takes (has_none fill other on hint e) taken = absurd (let no : ⊥ = cc in no)

pub moving_more : (shape : Shape) (before : Reading) (fill : FillNo) (back : List ℕ) (after : Reading)
    → AreTakes (reads_in before) before.reader.taken
    → TakesSteps shape before (Moving fill back) after
    → after.reader.taken ≡ before.reader.taken
    → AreTakes (reads_in after) after.reader.taken
moving_more shape before fill back after takes (has_answer steps between few on a) taken =
    by_answer shape before (Moving fill back) after takes (model.moving fill.0) [] between steps on
    (subst (λ (x : model.Answer). ReadsSo shape between x after) a.reports a.step) refl
    (taken ∙ sym (append-nil before.reader.taken))
moving_more shape before fill back after takes (has_none other again on hint e) taken =
    by_none shape before (Moving fill back) after takes _ on taken
