-- There is one verdict on a collector, and so a run has one text.
use Rattle.std.proofs.Common.{◌≡◌, ℕ, ◌+◌, List, [], ◌∷◌, ◌++◌, flat_map, refl, ap, ◌∙◌, arith}
use Rattle.std.specs.List.{AllZip, enumerate_from}
use Rattle.trace_model.specs.Parcel.{Parcel}
use Rattle.trace_run.specs.ledgers.Audit.{IsLeast}
use Rattle.collector_text.proofs.OneText.{one_text}
use Rattle.world_model.specs.Printing.{printed_collector}
use Rattle.run_command.specs.text.Verdicts.{Verdict, IsVerdict, yes, stray, lacks}
use Rattle.run_command.specs.text.Printing.{AuditedShown, IsAuditedPrintOf, printed_audit, printed_audited, printed_run}

-- two least places have the same CPU
same_cpu : (these : Parcel → Type 0) (cpu fill other_cpu other_fill : ℕ) → IsLeast these cpu fill
    → IsLeast these other_cpu other_fill → cpu ≡ other_cpu
same_cpu these cpu fill other_cpu other_fill a b =
    let up = (a.least b.parcel b.is_one).cpu_le in
    let down = (b.least a.parcel a.is_one).cpu_le in
    let own = a.cpu_is in
    let others = b.cpu_is in
    omega arith

-- and the same fill
same_fill : (these : Parcel → Type 0) (cpu fill other_cpu other_fill : ℕ) → IsLeast these cpu fill
    → IsLeast these other_cpu other_fill → fill ≡ other_fill
same_fill these cpu fill other_cpu other_fill a b =
    let same = same_cpu these cpu fill other_cpu other_fill a b in
    let own = a.cpu_is in
    let others = b.cpu_is in
    let up = (a.least b.parcel b.is_one).fill_le (omega arith) in
    let down = (b.least a.parcel a.is_one).fill_le (omega arith) in
    let own_fill = a.fill_is in
    let others_fill = b.fill_is in
    omega arith

pub one_verdict : (kept taken : List Parcel) (verdict other : Verdict) → IsVerdict kept taken verdict
    → IsVerdict kept taken other → verdict ≡ other
one_verdict kept taken yes yes a b = refl
one_verdict kept taken yes (stray cpu fill) a b = absurd (b.is_one.1 (a.were_taken b.parcel b.is_one.0))
one_verdict kept taken yes (lacks cpu fill) a b = absurd (b.1.is_one.1 (a.are_held b.1.parcel b.1.is_one.0))
one_verdict kept taken (stray cpu fill) yes a b = absurd (a.is_one.1 (b.were_taken a.parcel a.is_one.0))
one_verdict kept taken (stray cpu fill) (stray other_cpu other_fill) a b =
    rw (same_cpu _ cpu fill other_cpu other_fill a b, same_fill _ cpu fill other_cpu other_fill a b) refl
one_verdict kept taken (stray cpu fill) (lacks other_cpu other_fill) a b =
    absurd (a.is_one.1 (b.0 a.parcel a.is_one.0))
one_verdict kept taken (lacks cpu fill) yes a b = absurd (a.1.is_one.1 (b.are_held a.1.parcel a.1.is_one.0))
one_verdict kept taken (lacks cpu fill) (stray other_cpu other_fill) a b =
    absurd (b.is_one.1 (a.0 b.parcel b.is_one.0))
one_verdict kept taken (lacks cpu fill) (lacks other_cpu other_fill) a b =
    rw (same_cpu _ cpu fill other_cpu other_fill a.1 b.1, same_fill _ cpu fill other_cpu other_fill a.1 b.1) refl

-- a collector and its audit have one text
one_audited : (taken kept : List Parcel) (number : ℕ) (shown other : AuditedShown) → IsAuditedPrintOf taken kept shown
    → IsAuditedPrintOf taken kept other → printed_audited number shown ≡ printed_audited number other
one_audited taken kept number shown other a b =
    ap (λ (text : List ℕ). text ++ printed_audit shown.verdict)
    (one_text kept shown.collector other.collector number a.reports b.reports)
    ∙ ap (λ (verdict : Verdict). printed_collector number other.collector ++ printed_audit verdict)
    (one_verdict kept taken shown.verdict other.verdict a.verdict b.verdict)

-- the text of collectors from this number on
abbrev text_of_all : ℕ → List AuditedShown → List ℕ
text_of_all number shown =
    flat_map (λ (pair : ℕ × AuditedShown). printed_audited pair.0 pair.1) (enumerate_from number shown)

one_text_of_all : (taken : List Parcel) (number : ℕ) (collectors : List (List Parcel)) (shown other : List AuditedShown)
    → AllZip (IsAuditedPrintOf taken) collectors shown → AllZip (IsAuditedPrintOf taken) collectors other
    → text_of_all number shown ≡ text_of_all number other
one_text_of_all taken number [] [] [] a b = refl
one_text_of_all taken number [] [] (o ∷ os) a b = absurd b
one_text_of_all taken number [] (s ∷ ss) other a b = absurd a
one_text_of_all taken number (c ∷ cs) [] other a b = absurd a
one_text_of_all taken number (c ∷ cs) (s ∷ ss) [] a b = absurd b
one_text_of_all taken number (c ∷ cs) (s ∷ ss) (o ∷ os) a b =
    let first = one_audited taken c number s o a.0 b.0 in
    let rest = one_text_of_all taken (number + 1) cs ss os a.1 b.1 in
    ap (λ (text : List ℕ). text ++ text_of_all (number + 1) ss) first
    ∙ ap (λ (text : List ℕ). printed_audited number o ++ text) rest

pub one_run : (taken : List Parcel) (collectors : List (List Parcel)) (shown other : List AuditedShown)
    → AllZip (IsAuditedPrintOf taken) collectors shown → AllZip (IsAuditedPrintOf taken) collectors other
    → printed_run shown ≡ printed_run other
one_run taken collectors shown other a b = one_text_of_all taken 0 collectors shown other a b
