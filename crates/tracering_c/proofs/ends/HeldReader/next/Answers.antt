use Rattle.std.proofs.Common.{rules, Option, IfSome, refl, sym, ap, ◌∙◌, subst}
use Rattle.ring_steps.specs.declared.rule.Shape.{Shape}
use Rattle.tracering_c.specs.declared.ends.Unadded.{Unadded}
use Rattle.tracering_c.specs.Ends.{IsUnadded}
use Rattle.tracering_c.specs.Calls.{is_taken, is_empty, is_moving}
use Rattle.tracering_c.proofs.ends.HeldReader.next.Goals as goal

pub returns-in-Page-clause-next : goal.returns-in-Page-clause-next
returns-in-Page-clause-next c =
    let answers = c.in-Page.ensures in
    let took = answers.took in (
      is_taken (sym c.take.ensures.value ∙ c.in_default.is) took
          (record { steps = answers.steps; empty_at = answers.empty_at }),
      record {
        page = took.is.written.page_reads;
        size_is = answers.size.1 ∙ sym (ap (λ (s : Shape). s.size) answers.ring.0);
        numbers_fit = took.numbers_fit;
        missed_fit = took.missed_fit;
        taken_last = answers.empty_at;
      },
    )

pub returns-in-Empty-clause-next : goal.returns-in-Empty-clause-next
returns-in-Empty-clause-next c =
    let answers = c.in-Empty.ensures in
    let size = ap (λ (s : Shape). s.size) answers.ring.0 in (
      is_empty c.in-Empty.field-0 c.in-Empty.back refl (sym c.take.ensures.value ∙ c.in_default.is) answers.took.1
          (record { steps = answers.steps; empty_at = answers.empty_at }),
      record {
        cpu = c.requires.cpu;
        reader = answers.reader;
        limit = search rules;
        unadded = subst (λ (o : Option Unadded). IfSome o (IsUnadded c.take-3.new.self)) (sym c.take.ensures.after) tt;
        body = λ none. answers.size ∙ sym size;
      },
    )

pub returns-in-Moving-clause-next : goal.returns-in-Moving-clause-next
returns-in-Moving-clause-next c =
    let answers = c.in-Moving.ensures in
    let size = ap (λ (s : Shape). s.size) answers.ring.0 in (
      is_moving c.in-Moving.field-0 c.in-Moving.back refl (sym c.take.ensures.value ∙ c.in_default.is) answers.took.1
          (record { steps = answers.steps; empty_at = answers.empty_at }),
      record {
        cpu = c.requires.cpu;
        reader = answers.reader;
        limit = search rules;
        unadded = subst (λ (o : Option Unadded). IfSome o (IsUnadded c.take-3.new.self)) (sym c.take.ensures.after) tt;
        body = λ none. answers.size ∙ sym size;
      },
    )
