use Rattle.std.proofs.Common.{ℕ, ◌*◌, ◌≤◌, List, length, take, drop, refl, ap, ◌∙◌, subst}
use Rattle.std.proofs.lemmas.List.{take_rest}
use Rattle.std.proofs.lemmas.Result.{err_from_is_err_and}
use Rattle.trace_model.specs.Image.{ReportsMissed}
use Rattle.page_image.specs.Counting.{IsCounted, IsFirstWordFault}
use Rattle.page_image.specs.Images.{missed_of, commit_with}
use Rattle.page_image.proofs.ImageReads.{word_faulty, outlined}
use Rattle.page_image.proofs.image.read_outline.Goals as goal

pub returns-in_err-count-clause-fault : goal.returns-in_err-count-clause-fault
returns-in_err-count-clause-fault c =
    let p = err_from_is_err_and c.from_residual-in_err-count.result c.from_residual-in_err-count.ensures.1 in
    let header = c.in_ok-header.header in
    rw (p.1, p.2)
    (word_faulty c.args.bytes.now header (missed_of c.in_ok-missed.missed) c.in_err-count.field-0.0
    c.in_ok-header.ensures.ok
    (λ ignored.
    subst (λ (b : List ℕ). ReportsMissed (commit_with header.commit ignored) b (missed_of c.in_ok-missed.missed))
    (c.split_at.ensures.back ∙ ap (drop header.commit.size) (take_rest c.args.bytes.now 16))
    (c.in_ok-missed.ensures.reported ignored))
    (subst (λ (b : List ℕ). IsFirstWordFault b header.time c.in_err-count.field-0.0)
    (c.split_at.ensures.front ∙ ap (take header.commit.size) (take_rest c.args.bytes.now 16))
    c.in_err-count.ensures.fault))

pub returns-clause-reads : goal.returns-clause-reads
returns-clause-reads c =
    let header = c.in_ok-header.header in
    outlined c.args.bytes.now _ header.commit refl c.in_ok-header.ensures.ok
    (λ ignored.
    subst (λ (b : List ℕ). ReportsMissed (commit_with header.commit ignored) b (missed_of c.in_ok-missed.missed))
    (c.split_at.ensures.back ∙ ap (drop header.commit.size) (take_rest c.args.bytes.now 16))
    (c.in_ok-missed.ensures.reported ignored))
    c.in_ok-header.ensures.there
    (subst (λ (b : List ℕ). IsCounted b header.time c.in_ok-count.count)
    (c.split_at.ensures.front ∙ ap (take header.commit.size) (take_rest c.args.bytes.now 16))
    c.in_ok-count.ensures.reads)
    (subst (λ (b : List ℕ). 4 * c.in_ok-count.count ≤ length b)
    (c.split_at.ensures.front ∙ ap (take header.commit.size) (take_rest c.args.bytes.now 16))
    c.in_ok-count.ensures.few)
