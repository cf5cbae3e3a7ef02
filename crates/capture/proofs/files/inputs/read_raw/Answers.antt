use Rattle.std.proofs.Common.{◌≡◌, ◌++◌, ◌∙◌, ℕ, false, List, Err, Some, length, take, sym, ap, arith, refl}
use Rattle.std.specs.List.{slice_get}
use Rattle.std.proofs.lemmas.Option.{slice_get-get_or}
use Rattle.std.proofs.lemmas.Result.{err_from_is_err_and}
use Rattle.trace_model.specs.Image.{unknown}
use Rattle.capture.specs.declared.files.captured.CpuCapture.{CpuCapture}
use Rattle.capture.specs.files.Files.{File, ModelPart, is_dat, parts_of_cpu}
use Rattle.capture.proofs.CpuLists.{cpus-more, cpu-past}
use Rattle.capture.proofs.FilesMore.{as-read, raw-added, raw-past, smaller-raw}
use Rattle.capture.proofs.Prefixes.{raw-more}
use Rattle.capture.proofs.RestFaults.{not-failed, raw-fault}
use Rattle.capture.proofs.files.inputs.read_raw.Goals as goal

pub add_raw-requires-clause-cpu : goal.add_raw-requires-clause-cpu
add_raw-requires-clause-cpu g c =
    let was = c.requires.known.3 in
    let cpu : ℕ = c.args.cpu.0 in
    let items : List CpuCapture = c.args.captured.now.cpus.items in
    let found : CpuCapture = c.index_mut.result.now in
    let here : slice_get items cpu ≡ Some found =
    slice_get-get_or items cpu found (omega (arith, c.requires.cpu, was.cpus_are.count))
    ∙ ap Some (sym c.index_mut.ensures.value) in
    let own = (as-read was.parts items was.cpus_are).each cpu found here in
    omega (arith, own.cpu_is, c.requires.cpu)

pub add_raw-requires-clause-known : goal.add_raw-requires-clause-known
add_raw-requires-clause-known g c =
    let was = c.requires.known.3 in
    let cpu : ℕ = c.args.cpu.0 in
    let items : List CpuCapture = c.args.captured.now.cpus.items in
    let found : CpuCapture = c.index_mut.result.now in
    let here : slice_get items cpu ≡ Some found =
    slice_get-get_or items cpu found (omega (arith, c.requires.cpu, was.cpus_are.count))
    ∙ ap Some (sym c.index_mut.ensures.value) in
    let own = (as-read was.parts items was.cpus_are).each cpu found here in
    (cpu, parts_of_cpu cpu was.parts, own)

pub returns-in_err-add_raw-clause-fault : goal.returns-in_err-add_raw-clause-fault
returns-in_err-add_raw-clause-fault g c = λ losses name files first_raw was.
    let cpu : ℕ = c.args.cpu.0 in
    let items : List CpuCapture = c.args.captured.now.cpus.items in
    let found : CpuCapture = c.index_mut.result.now in
    let here : slice_get items cpu ≡ Some found =
    slice_get-get_or items cpu found (omega (arith, c.requires.cpu, was.cpus_are.count))
    ∙ ap Some (sym c.index_mut.ensures.value) in
    let own = (as-read was.parts items was.cpus_are).each cpu found here in
    let first : List ℕ = take c.args.filled c.args.piece.now in
    let p = err_from_is_err_and c.from_residual.result c.from_residual.ensures.1 in
    rw (p.1, p.2) (raw-fault losses (length c.args.piece.now) name cpu first _ _ _ files c.in_err-add_raw.field-0.0
    (λ broken. c.add_raw.ensures.read_fault.1 (c.in_err-add_raw.was ∙ ap Err broken))
    (λ other.
    not-failed _ (λ failed. other (let e = sym c.in_err-add_raw.was ∙ c.add_raw.ensures.read_fault.0 failed in cc)))
    (λ smaller is.
    let shown = c.add_raw.ensures.smaller smaller (c.in_err-add_raw.was ∙ ap Err is) in
    let file : File = record { cpu = cpu; bytes = first ++ shown.more } in
    let raw : is_dat name file.bytes ≡ false =
    raw-more (length c.args.piece.now) name first shown.more c.requires.some shown.no_more first_raw in (
      shown.more,
      shown.taken,
      smaller-raw (length c.args.piece.now) name files file smaller raw shown.smaller_is,
      λ dat. absurd (let e = sym raw ∙ dat in cc),
    ))
    (λ numbers.
    let past = c.add_raw.ensures.past cpu (parts_of_cpu cpu was.parts) own (c.in_err-add_raw.was ∙ ap Err numbers) in
    let file : File = record { cpu = cpu; bytes = first ++ past.more } in
    let raw : is_dat name file.bytes ≡ false =
    raw-more (length c.args.piece.now) name first past.more c.requires.some past.rest.no_more first_raw in (
      past.more,
      past.rest.taken,
      raw-past losses (length c.args.piece.now) name files file c.args.captured.now was raw past.rest.none_smaller
          (cpu-past unknown was.parts (record { cpu = cpu; size = length c.args.piece.now; bytes = file.bytes })
          past.past),
    )))

pub returns-clause-read : goal.returns-clause-read
returns-clause-read g c = λ losses name files first_raw was.
    let cpu : ℕ = c.args.cpu.0 in
    let items : List CpuCapture = c.args.captured.now.cpus.items in
    let found : CpuCapture = c.index_mut.result.now in
    let here : slice_get items cpu ≡ Some found =
    slice_get-get_or items cpu found (omega (arith, c.requires.cpu, was.cpus_are.count))
    ∙ ap Some (sym c.index_mut.ensures.value) in
    let own = (as-read was.parts items was.cpus_are).each cpu found here in
    let first : List ℕ = take c.args.filled c.args.piece.now in
    let adds = c.in_ok-add_raw.ensures.read cpu (parts_of_cpu cpu was.parts) own in
    let file : File = record { cpu = cpu; bytes = first ++ adds.more } in
    let part : ModelPart = record { cpu = cpu; size = length c.args.piece.now; bytes = file.bytes } in
    let raw : is_dat name file.bytes ≡ false =
    raw-more (length c.args.piece.now) name first adds.more c.requires.some adds.rest.no_more first_raw in
    record {
      more = adds.more;
      taken = adds.rest.taken;
      added = raw-added losses (length c.args.piece.now) name files file c.args.captured.now _ was raw
          adds.rest.none_smaller
          (cpus-more unknown was.parts part items c.add_raw.new.found (as-read was.parts items was.cpus_are) adds.read)
          refl refl refl refl refl refl refl refl;
    }
