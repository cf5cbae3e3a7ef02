use Rattle.std.proofs.Common.{◌≡◌, ◌++◌, ◌+◌, ◌∷◌, [], ℕ, List, Err, take, drop, map, sym, subst, arith}
use Rattle.std.proofs.lemmas.Grind.{common_steps}
use Rattle.page_image.specs.Images.{missed_of}
use Rattle.capture.specs.declared.pages.CaptureFault.TheVariants.{Numbers}
use Rattle.capture.specs.files.Files.{ModelPart, parts_of_cpu}
use Rattle.capture.specs.files.Captures.{IsCpuRead, IsPartPast, IsCpuPast}
use Rattle.capture.specs.files.Giving.{part_seen}
use Rattle.capture.proofs.CpuLists.{parts-next, parts-rest, cpu-past, past-more}
use Rattle.capture.proofs.files.settle.add_own.Goals as goal

pub loop-part-init : goal.loop-part-init
loop-part-init c = record {
  cpu = c.new-found.ensures.cpu;
  read = c.new-found.ensures.none (missed_of c.args.known);
}

pub returns-in_err-add_part-clause-past : goal.returns-in_err-add_part-clause-past
returns-in_err-add_part-clause-past c = λ numbers.
    let reported : c.add_part.result ≡ Err Numbers = grind (arith, common_steps) in
    let cpu : ℕ = c.args.cpu.0 in
    let part : ModelPart = part_seen c.part-item.result in
    let so_far : List ModelPart = map part_seen (take c.loop-part.part-index c.args.parts.now) in
    let own : part.cpu ≡ cpu = c.if-part-cpu.true in
    let next =
    parts-next [] c.args.parts.now c.loop-part.part-index c.part-item.result c.loop-part-test.true c.part-item.is in
    let past : IsPartPast (missed_of c.args.known) (parts_of_cpu cpu so_far) part =
    subst (λ (n : ℕ). IsPartPast (missed_of c.args.known) (parts_of_cpu n so_far) part) own
    (c.add_part.ensures.past part.cpu (parts_of_cpu part.cpu so_far)
    (subst (λ (n : ℕ). IsCpuRead (missed_of c.args.known) n (parts_of_cpu n so_far) c.loop-part.found)
    (sym own) c.loop-part.invariant.read) reported) in
    let here : IsCpuPast (missed_of c.args.known) cpu (so_far ++ part ∷ []) =
    subst (λ (n : ℕ). IsCpuPast (missed_of c.args.known) n (so_far ++ part ∷ [])) own
    (cpu-past (missed_of c.args.known) so_far part
    (subst (λ (n : ℕ). IsPartPast (missed_of c.args.known) (parts_of_cpu n so_far) part) (sym own) past)) in
    let there : IsCpuPast (missed_of c.args.known) cpu
    (map part_seen (take (c.loop-part.part-index + 1) c.args.parts.now)) =
    subst (IsCpuPast (missed_of c.args.known) cpu) (sym next) here in
    subst (IsCpuPast (missed_of c.args.known) cpu) (parts-rest [] c.args.parts.now (c.loop-part.part-index + 1))
    (past-more (missed_of c.args.known) cpu (map part_seen (take (c.loop-part.part-index + 1) c.args.parts.now))
    (map part_seen (drop (c.loop-part.part-index + 1) c.args.parts.now)) there)
