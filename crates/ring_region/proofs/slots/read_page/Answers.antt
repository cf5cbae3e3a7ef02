use Rattle.std.proofs.Common.{ℕ, ◌+◌, ◌≤◌, length, take, IfOk, sym, ap, ◌∙◌, subst, arith}
use Rattle.std.proofs.lemmas.List.{length-take-le}
use Rattle.ring_region.specs.Slots.{IsSlotOf, IsUnmissed, IsCommitted}
use Rattle.ring_region.specs.Answers.{reading_seen}
use Rattle.ring_region.proofs.OnePage.{number-take, committed_unmissed}
use Rattle.ring_region.proofs.Reported.{committed_reported}
use Rattle.ring_region.proofs.slots.read_page.Goals as goal

pub read_committed-requires-clause-commit : goal.read_committed-requires-clause-commit
read_committed-requires-clause-commit c =
    let bytes = c.args.slot.now in
    let n = c.number_at-commit.result in
    let there : 48 + n ≤ length bytes = omega arith in
    ap (λ (k : ℕ). 48 + k) (number-take bytes (48 + n) 40 (omega arith) ∙ sym c.number_at-commit.ensures)
    ∙ sym (length-take-le (48 + n) bytes there)

pub returns-clause-reading : goal.returns-clause-reading
returns-clause-reading c =
    let bytes = c.args.slot.now in
    let cpu = c.args.cpu.0 in
    let commit = c.number_at-commit.ensures in
    let is : IsCommitted cpu bytes = record {
      unmissed = record {
        of_cpu = record {
          some = λ none. c.if-commit-eq0.false (commit ∙ none);
          cpu_is = sym c.number_at.ensures ∙ c.if-number_at-from.false ∙ c.from.ensures;
        };
        none_missed = sym c.number_at-2.ensures ∙ c.if-number_at-ne0.false;
      };
      there = let low : 48 + c.number_at-commit.result ≤ length bytes = omega arith in
          subst (λ (k : ℕ). 48 + k ≤ length bytes) commit low;
    } in
    committed_reported cpu bytes c.read_committed.result is
    (subst
    (λ (k : ℕ).
    IsUnmissed cpu (take (48 + k) bytes)
    → IfOk c.read_committed.result (λ read. IsSlotOf cpu (take (48 + k) bytes) (reading_seen cpu read))) commit
    (c.read_committed.ensures.reading cpu c.requires.cpu)
    (committed_unmissed cpu bytes is.unmissed))
