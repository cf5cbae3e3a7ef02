use Rattle.std.proofs.Common.{◌≡◌, ◌<◌, ℕ, List, None, Err, length, refl, ap, ◌∙◌, subst, sym, rules}
use Rattle.trace_model.specs.Steps as model
use Rattle.ring_steps.specs.declared.rule.Shape.{Shape}
use Rattle.ring_steps.specs.Views.{Reading}
use Rattle.ring_shared.specs.declared.take.Look.TheVariants as look
use Rattle.ring_shared.specs.declared.take.Take.{Take}
use Rattle.ring_shared.specs.declared.take.Take.TheVariants.{Page, Empty, Moving}
use Rattle.ring_shared.specs.Value.{ReaderValue}
use Rattle.ring_shared.specs.Takes.{IsReader, TakesNothing, IsTake, IsMovingFound, ReadsSo, IsAnswered, most_steps}
use Rattle.ring_shared.specs.Takes.{ReadsOn, no_step, one_more, TakesSteps, has_answer, has_none, SameRing}
use Rattle.ring_shared.specs.Takes.{MakesLook, MakesSwap}
use Rattle.ring_shared.proofs.Fields.{positions}
use Rattle.ring_shared.proofs.Onward.{nothing_yet, nothing_more, answered, given_up}
use Rattle.ring_shared.proofs.reader.Reader.take_by_steps.Goals.{in-Continues, in-Found+in-Err}
use Rattle.ring_shared.proofs.reader.Reader.take_by_steps.Goals as goal

-- ---- a step after which the take continues, with this body

record Continues (l : ReaderValue) (had : List ℕ) (new : ReaderValue) (back : List ℕ) : Type 0 where
  nothing : TakesNothing l.part new.part
  reads : ReadsSo l.shape l.part model.reading new.part
  empty_at : new.empty_at ≡ None
  ring : SameRing l new
  reader : IsReader new
  body : length back ≡ length had

by_look : (l new : ReaderValue) (had : List ℕ) → MakesLook l look.Continues new → Continues l had new had
by_look l new had m = record {
  nothing = m.looked.0;
  reads = m.looked.1;
  empty_at = m.empty_at;
  ring = m.ring;
  reader = m.reader;
  body = refl;
}

by_swap : (l found new : ReaderValue) (had back : List ℕ) → found ≡ l → MakesSwap found had (Err back) new
    → Continues l had new back
by_swap l found new had back same m =
    subst (λ (w : ReaderValue). Continues w had new back) same
    record {
      nothing = m.swapped.1;
      reads = m.swapped.2;
      empty_at = m.empty_at;
      ring = m.ring;
      reader = m.reader;
      body = m.swapped.0;
    }

-- ---- the step that has the take's answer, after others that took nothing

module _ (v l : ReaderValue) (ring : l.shape ≡ v.shape) (result : Take) (after : Reading) where
  took : (body had : List ℕ) → TakesNothing v.part l.part → length had ≡ length body
      → IsTake l.shape l.part had result after → IsTake v.shape v.part body result after
  took body had nothing same t =
      subst (λ (shape : Shape). IsTake shape v.part body result after) ring
      (answered l.shape v.part l.part after body had result nothing same t)

  steps : (made : ℕ) → made < most_steps v.shape → ReadsOn v.shape v.part made l.part
      → IsAnswered l.shape l.part result after → TakesSteps v.shape v.part result after
  steps made few reads a =
      has_answer made l.part few reads (subst (λ (shape : Shape). IsAnswered shape l.part result after) ring a)

-- ---- the loop

pub loop-made-init : goal.loop-made-init
loop-made-init c =
    record {
      reader = c.requires.taking.reader;
      ring = (refl, refl);
      made = no_step;
      nothing = nothing_yet c.args.self.now.part;
      empty_at = c.requires.taking.again;
      body = refl;
    }

pub loop-made-preserved : goal.loop-made-preserved
loop-made-preserved c =
    let kept = c.loop-made.invariant in
    let s : Continues c.loop-made.self c.loop-made.body c.match-look.self c.match-look.body =
    elim c.match-look.branch [
      | in-Continues w ↦ rw (w.self-is, w.body-is)
          (by_look c.loop-made.self c.look.new.self c.loop-made.body w.in-Continues.ensures)
      | in-Found+in-Err w ↦ rw (w.self-is, w.body-is)
          (by_swap c.loop-made.self c.look.new.self w.swap_head.new.self c.loop-made.body w.in-Err.back
          w.in-Found.ensures.looked.0 w.in-Err.ensures)
    ] in
    record {
      reader = s.reader;
      ring = (s.ring.0 ∙ kept.ring.0, s.ring.1 ∙ kept.ring.1);
      made =
          one_more c.loop-made.made c.loop-made.self.part c.match-look.self.part kept.made
          (subst (λ (shape : Shape). ReadsSo shape c.loop-made.self.part model.reading c.match-look.self.part)
          kept.ring.0 s.reads);
      nothing = nothing_more c.args.self.now.part c.loop-made.self.part c.match-look.self.part kept.nothing s.nothing;
      empty_at = s.empty_at;
      body = s.body ∙ kept.body;
    }

-- ---- what is answered

pub returns-in-Empty-clause-took : goal.returns-in-Empty-clause-took
returns-in-Empty-clause-took c = let kept = c.loop-made.invariant in
    took c.args.self.now c.loop-made.self kept.ring.0 (Empty c.in-Empty.done c.loop-made.body) c.look.new.self.part
    c.args.body c.loop-made.body kept.nothing kept.body (refl, c.in-Empty.ensures.looked.0)

pub returns-in-Moving-clause-took : goal.returns-in-Moving-clause-took
returns-in-Moving-clause-took c = let kept = c.loop-made.invariant in
    took c.args.self.now c.loop-made.self kept.ring.0 (Moving c.in-Moving.fill c.loop-made.body) c.look.new.self.part
    c.args.body c.loop-made.body kept.nothing kept.body (refl, c.in-Moving.ensures.looked.0)

pub returns-in-Ok-clause-took : goal.returns-in-Ok-clause-took
returns-in-Ok-clause-took c = let kept = c.loop-made.invariant in
    let result : Take = Page c.in-Ok.taken c.in-Ok.missed in
    let after : Reading = c.swap_head.new.self.part in
    took c.args.self.now c.loop-made.self kept.ring.0 result after c.args.body c.loop-made.body kept.nothing kept.body
    (subst (λ (w : ReaderValue). IsTake w.shape w.part c.loop-made.body result after) c.in-Found.ensures.looked.0
    c.in-Ok.ensures.swapped.0)

pub returns-clause-took : goal.returns-clause-took
returns-clause-took c = let kept = c.loop-made.invariant in
    let hint = kept.reader.hint_is ∙ ap (λ (v : ReaderValue). v.at.hint) (sym c.self-2.view_is) in (
      kept.body,
      subst (λ (shape : Shape). IsMovingFound shape c.args.self.now.part c.self-2.inside.at.hint c.loop-made.self.part)
          kept.ring.0
          (given_up c.loop-made.self.shape c.args.self.now.part c.loop-made.self.part c.self-2.inside.at.hint
          kept.nothing hint),
    )

pub returns-in-Empty-clause-steps : goal.returns-in-Empty-clause-steps
returns-in-Empty-clause-steps c = let kept = c.loop-made.invariant in
    steps c.args.self.now c.loop-made.self kept.ring.0 (Empty c.in-Empty.done c.loop-made.body) c.look.new.self.part
    c.loop-made.made (search rules) kept.made
    record { reported = model.empty c.in-Empty.done; step = c.in-Empty.ensures.looked.1; reports = refl }

pub returns-in-Moving-clause-steps : goal.returns-in-Moving-clause-steps
returns-in-Moving-clause-steps c = let kept = c.loop-made.invariant in
    steps c.args.self.now c.loop-made.self kept.ring.0 (Moving c.in-Moving.fill c.loop-made.body) c.look.new.self.part
    c.loop-made.made (search rules) kept.made
    record { reported = model.moving c.in-Moving.fill.0; step = c.in-Moving.ensures.looked.1; reports = refl }

pub returns-in-Ok-clause-steps : goal.returns-in-Ok-clause-steps
returns-in-Ok-clause-steps c = let kept = c.loop-made.invariant in
    let result : Take = Page c.in-Ok.taken c.in-Ok.missed in
    let after : Reading = c.swap_head.new.self.part in
    steps c.args.self.now c.loop-made.self kept.ring.0 result after c.loop-made.made (search rules) kept.made
    (subst (λ (w : ReaderValue). IsAnswered w.shape w.part result after) c.in-Found.ensures.looked.0
    c.in-Ok.ensures.swapped.1)

pub returns-clause-steps : goal.returns-clause-steps
returns-clause-steps c = let kept = c.loop-made.invariant in
    let v : ReaderValue = c.args.self.now in
    let pages : c.len.result ≡ v.shape.pages =
    c.len.ensures
    ∙ (c.self.inside.order.ok.0
    ∙ (ap (λ (w : ReaderValue). length w.order) c.self.view_is ∙ positions v c.requires.taking.reader)) in
    let all : c.loop-made.made ≡ most_steps v.shape = search rules in
    has_none record { 0 = c.self-2.inside.at.hint } c.loop-made.body
    (subst (λ (steps : ℕ). ReadsOn v.shape v.part steps c.loop-made.self.part) all kept.made)
    (sym (kept.reader.hint_is ∙ ap (λ (w : ReaderValue). w.at.hint) (sym c.self-2.view_is)))
    refl
