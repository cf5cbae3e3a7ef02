use Rattle.std.proofs.Common.{◌≡◌, ◌++◌, ◌+◌, List, Err, take, drop, map, sym, subst, arith}
use Rattle.std.proofs.lemmas.Grind.{common_steps}
use Rattle.std.proofs.lemmas.List.{take_all}
use Rattle.trace_model.specs.Image.{unknown}
use Rattle.capture.specs.declared.pages.CaptureFault.TheVariants.{Numbers}
use Rattle.capture.specs.files.Files.{ModelPart}
use Rattle.capture.specs.files.Captures.{AreCpusRead, IsCpuPast}
use Rattle.capture.specs.files.Giving.{part_seen}
use Rattle.capture.proofs.CpuLists.{parts-next, parts-rest, past-more}
use Rattle.capture.proofs.files.cpus.add_parts.Goals as goal

pub add_to-requires-clause-known : goal.add_to-requires-clause-known
add_to-requires-clause-known c = (
  c.requires.known.0 ++ map part_seen (take c.loop-part.part-index c.args.parts.now),
  c.loop-part.invariant c.requires.known.0 c.requires.known.1,
)

pub returns-in_err-add_to-clause-past : goal.returns-in_err-add_to-clause-past
returns-in_err-add_to-clause-past c = λ before was numbers.
    let reported : c.add_to.result ≡ Err Numbers = grind (arith, common_steps) in
    let next =
    parts-next before c.args.parts.now c.loop-part.part-index c.part-item.result c.loop-part-test.true
    c.part-item.is in
    let past =
    c.add_to.ensures.past (before ++ map part_seen (take c.loop-part.part-index c.args.parts.now))
    (c.loop-part.invariant before was) reported in
    let here : IsCpuPast unknown past.0 (before ++ map part_seen (take (c.loop-part.part-index + 1) c.args.parts.now)) =
    subst (λ (ps : List ModelPart). IsCpuPast unknown past.0 ps) (sym next) past.1 in (
      past.0,
      subst (λ (ps : List ModelPart). IsCpuPast unknown past.0 ps)
          (parts-rest before c.args.parts.now (c.loop-part.part-index + 1))
          (past-more unknown past.0 (before ++ map part_seen (take (c.loop-part.part-index + 1) c.args.parts.now))
          (map part_seen (drop (c.loop-part.part-index + 1) c.args.parts.now)) here),
    )

pub loop-part-preserved : goal.loop-part-preserved
loop-part-preserved c = λ before was.
    let next =
    parts-next before c.args.parts.now c.loop-part.part-index c.part-item.result c.loop-part-test.true
    c.part-item.is in
    subst (λ (ps : List ModelPart). AreCpusRead unknown ps c.add_to.new.cpus) (sym next)
    (c.in_ok-add_to.ensures.read (before ++ map part_seen (take c.loop-part.part-index c.args.parts.now))
    (c.loop-part.invariant before was))

pub returns-clause-read : goal.returns-clause-read
returns-clause-read c = λ before was.
    subst (λ ps. AreCpusRead unknown (before ++ map part_seen ps) c.loop-part.cpus)
    (take_all c.loop-part.part-index c.args.parts.now c.loop-part-test.false) (c.loop-part.invariant before was)
