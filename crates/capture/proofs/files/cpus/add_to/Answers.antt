use Rattle.std.proofs.Common.{◌≡◌, ◌<◌, ℕ, Some, get_or, arith}
use Rattle.std.specs.List.{slice_get}
use Rattle.std.proofs.lemmas.Option.{slice_get-get_or}
use Rattle.trace_model.specs.declared.limits.TheConstants.{MAX_CPUS}
use Rattle.capture.specs.declared.files.captured.CpuCapture.{CpuCapture}
use Rattle.capture.specs.files.Files.{parts_of_cpu}
use Rattle.capture.specs.files.Giving.{part_seen}
use Rattle.capture.proofs.Answers.{on_ok}
use Rattle.capture.proofs.CpuLists.{cpus-more, cpu-past}
use Rattle.capture.proofs.files.cpus.add_to.Goals as goal

pub add_part-requires-clause-cpu : goal.add_part-requires-clause-cpu
add_part-requires-clause-cpu c =
    let cpu : ℕ = c.args.part.now.cpu.0 in
    let within : cpu < MAX_CPUS = c.args.part.now.known in
    let found : CpuCapture = get_or c.args.cpus.now cpu c.index-cpus-part.result in
    let at : slice_get c.args.cpus.now cpu ≡ Some found =
    slice_get-get_or c.args.cpus.now cpu c.index-cpus-part.result (omega (arith, within, c.requires.count)) in
    let read = c.requires.known.1.each cpu found at in
    omega (arith, read.cpu_is, within)

pub returns-clause-past : goal.returns-clause-past
returns-clause-past c = λ parts was numbers.
    let cpu : ℕ = c.args.part.now.cpu.0 in
    let within : cpu < MAX_CPUS = c.args.part.now.known in
    let found : CpuCapture = get_or c.args.cpus.now cpu c.index-cpus-part.result in
    let at : slice_get c.args.cpus.now cpu ≡ Some found =
    slice_get-get_or c.args.cpus.now cpu c.index-cpus-part.result (omega (arith, within, c.requires.count)) in
    let past = c.add_part.ensures.past cpu (parts_of_cpu cpu parts) (was.each cpu found at) numbers in
    (cpu, cpu-past _ parts (part_seen c.args.part.now) past)

pub returns-clause-read : goal.returns-clause-read
returns-clause-read c = λ parts was.
    let cpu : ℕ = c.args.part.now.cpu.0 in
    let within : cpu < MAX_CPUS = c.args.part.now.known in
    let found : CpuCapture = get_or c.args.cpus.now cpu c.index-cpus-part.result in
    let at : slice_get c.args.cpus.now cpu ≡ Some found =
    slice_get-get_or c.args.cpus.now cpu c.index-cpus-part.result (omega (arith, within, c.requires.count)) in
    on_ok c.add_part.result
    (λ read. cpus-more _ parts (part_seen c.args.part.now) c.args.cpus.now c.add_part.new.self was read)
    (c.add_part.ensures.read cpu (parts_of_cpu cpu parts) (was.each cpu found at))
