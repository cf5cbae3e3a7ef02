use Rattle.std.proofs.Common.{◌≡◌, ◌∙◌, inr, ℕ, Option, Err, map, sym, ap, subst, arith}
use Rattle.std.proofs.lemmas.Grind.{common_steps}
use Rattle.trace_model.specs.Image.{unknown}
use Rattle.page_image.specs.Images.{missed_of}
use Rattle.page_image.specs.declared.image.Missed.TheVariants.{Unknown}
use Rattle.capture.specs.declared.pages.CaptureFault.TheVariants.{Numbers}
use Rattle.capture.specs.declared.files.captured.CpuCapture.{CpuCapture}
use Rattle.capture.specs.files.Files.{parts_of_cpu}
use Rattle.capture.specs.files.Losses.{loss_of}
use Rattle.capture.specs.files.Captures.{IsCpuRead, IsCpuPast}
use Rattle.capture.specs.files.Giving.{part_seen}
use Rattle.capture.proofs.Settled.{captured-as, captured-again, plain-capture}
use Rattle.capture.proofs.files.settle.settle_cpu.Goals as goal

pub returns-then-eq-clause-settled : goal.returns-then-eq-clause-settled
returns-then-eq-clause-settled c = λ cpu own.
    let loss = c.loss_in-known.ensures own.pages (plain-capture _ _ _ own) in
    let same : c.loss_in-known.result ≡ Unknown = grind (arith, common_steps) in
    let none : unknown ≡ loss_of c.args.overrun own.pages =
    sym (ap missed_of same) ∙ loss ∙ ap (λ (o : Option ℕ). loss_of o own.pages) (sym c.in-Some.is) in
    captured-as unknown cpu c.args.overrun _ c.args.found.now own none

pub returns-in_err-found-clause-past : goal.returns-in_err-found-clause-past
returns-in_err-found-clause-past c = λ cpu own numbers.
    let loss = c.loss_in-known.ensures own.pages (plain-capture _ _ _ own) in
    let known : missed_of c.loss_in-known.result ≡ loss_of c.args.overrun own.pages =
    loss ∙ ap (λ (o : Option ℕ). loss_of o own.pages) (sym c.in-Some.is) in
    let reported : c.add_own.result ≡ Err Numbers = grind (arith, common_steps) in (
      missed_of c.loss_in-known.result,
      inr (own.pages, own.cut, known),
      subst (λ (n : ℕ). IsCpuPast (missed_of c.loss_in-known.result) n (map part_seen c.args.parts.now)) own.cpu_is
          (c.add_own.ensures.past reported),
    )

pub returns-clause-settled : goal.returns-clause-settled
returns-clause-settled c = λ cpu own.
    let loss = c.loss_in-known.ensures own.pages (plain-capture _ _ _ own) in
    let known : missed_of c.loss_in-known.result ≡ loss_of c.args.overrun own.pages =
    loss ∙ ap (λ (o : Option ℕ). loss_of o own.pages) (sym c.in-Some.is) in
    let new : CpuCapture = c.in_ok-found.field-0 in
    let read : IsCpuRead (missed_of c.loss_in-known.result) cpu (parts_of_cpu cpu (map part_seen c.args.parts.now))
    new =
    subst
    (λ (n : ℕ).
    IsCpuRead (missed_of c.loss_in-known.result) n (parts_of_cpu n (map part_seen c.args.parts.now)) new)
    own.cpu_is c.in_ok-found.ensures.read in
    captured-again (missed_of c.loss_in-known.result) cpu c.args.overrun _ c.args.found.now new own read known
