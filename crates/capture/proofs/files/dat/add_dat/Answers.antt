use Rattle.std.proofs.Common.{◌≡◌, ◌∙◌, ◌++◌, Vec, Global, Bor, ℕ, Bool, false, List, [], Err, length, map, sym, ap}
use Rattle.std.proofs.Common.{subst}
use Rattle.std.proofs.Common.{arith}
use Rattle.std.proofs.Common.{ap₂, true, Option, None}
use Rattle.std.specs.Prelude.{◌||◌, if◌then◌else◌}
use Rattle.std.specs.Option.{option_map, option_or}
use Rattle.kernel_names.specs.Tasks.{HasTasks}
use Rattle.kernel_names.specs.SymbolNames.{HasSymbols}
use Rattle.capture.specs.declared.files.captured.Wanted.{Wanted}
use Rattle.capture.specs.files.Files.{cut_at, cut_in, texts_unless}
use Rattle.capture.specs.files.Files.{is_same_machine, tasks_of, symbols_of, lines_of, all_lines, if_wanted}
use Rattle.std.proofs.lemmas.Result.{err_from_is_err_and}
use Rattle.std.proofs.lemmas.Grind.{common_steps}
use Rattle.trace_model.specs.Image.{unknown}
use Rattle.trace_dat.specs.Contents.{EventFormat, Contents, buffer_seen, contents_seen}
use Rattle.trace_dat.specs.kernel_texts.Names.{HasEvents}
use Rattle.trace_dat.specs.declared.contents.Buffer.{Buffer}
use Rattle.trace_dat.specs.declared.fault.Fault.{Fault}
use Rattle.capture.specs.declared.files.cpu_part.CpuPart.{CpuPart}
use Rattle.capture.specs.declared.files.captured.CpuCapture.{CpuCapture}
use Rattle.capture.specs.files.Files.{File, ModelPart, names_of_others, has_named, counters_of, all_formats}
use Rattle.capture.specs.files.Losses.{cpu_counters_of, overrun_by}
use Rattle.capture.specs.files.Captures.{AreCpusRead, AreCpusCaptured, IsCpuPast, IsOwnPast, texts_held}
use Rattle.capture.specs.files.Giving.{part_seen}
use Rattle.capture.proofs.Answers.{written-back}
use Rattle.capture.proofs.FilesMore.{parts-of-dat, held-dat, as-read, file-added, added-fault, settled-fault}
use Rattle.capture.proofs.FilesMore.{alone-parts, ok-not-err}
use Rattle.capture.proofs.files.dat.add_dat.Goals as goal

pub add_parts-requires : goal.add_parts-requires
add_parts-requires c =
    let was = c.requires.known.3 in
    record {
      known = (
        was.parts,
        subst (AreCpusRead unknown was.parts) (sym c.as_mut_slice-cpus.ensures.value)
            (as-read was.parts _ was.cpus_are),
      );
    }

pub returns-in_err-add_parts-clause-fault : goal.returns-in_err-add_parts-clause-fault
returns-in_err-add_parts-clause-fault c = λ page cpu files alone was.
    let name : List ℕ = c.args.name.now in
    let file : File = record { cpu = cpu; bytes = c.args.file.now } in
    let own : List ModelPart = map part_seen c.in_ok-parts.parts.items in
    let is =
    parts-of-dat page name file (contents_seen c.in_ok-dat.dat) own c.requires.dat c.in_ok-dat.ensures
    c.in_ok-parts.ensures in
    let same =
    ap₂ is_same_machine (sym was.machine_is)
    (held-dat (λ (contents : Contents). contents.machine) None file (contents_seen c.in_ok-dat.dat) c.in_ok-dat.ensures)
    ∙ sym c.is_same_machine.ensures
    ∙ (let here : c.is_same_machine.result ≡ true = grind (arith, common_steps) in here) in
    let read : AreCpusRead unknown was.parts c.as_mut_slice-cpus.result.now =
    subst (AreCpusRead unknown was.parts) (sym c.as_mut_slice-cpus.ensures.value)
    (as-read was.parts _ was.cpus_are) in
    let p = err_from_is_err_and c.from_residual-in_err-add_parts.result c.from_residual-in_err-add_parts.ensures.1 in
    rw (p.1, p.2) (added-fault c.args.losses page name files file own c.args.captured.now was
    c.in_err-add_parts.field-0.0 is same
    (λ numbers. let past = c.add_parts.ensures.past was.parts read (c.in_err-add_parts.was ∙ ap Err numbers) in (
      past.0,
      subst (λ (ps : List CpuPart). IsCpuPast unknown past.0 (was.parts ++ map part_seen ps)) c.as_slice-2.ensures.value
          past.1,
    )))

pub settle_by-requires : goal.settle_by-requires
settle_by-requires c = λ settled.
    let was = c.requires.known.3 in
    let none : was.parts ≡ [] = alone-parts c.args.losses _ _ _ was.parts settled c.requires.known.2 was.parts_are in
    let read : AreCpusRead unknown was.parts c.as_mut_slice-cpus.result.now =
    subst (AreCpusRead unknown was.parts) (sym c.as_mut_slice-cpus.ensures.value)
    (as-read was.parts _ was.cpus_are) in
    subst (λ (ps : List CpuPart). AreCpusRead unknown (map part_seen ps) c.add_parts.new.cpus)
    (c.as_slice-2.ensures.value ∙ sym c.as_slice-3.ensures.value)
    (subst
    (λ (ps : List ModelPart). AreCpusRead unknown (ps ++ map part_seen c.as_slice-2.result.now) c.add_parts.new.cpus)
    none
    (c.in_ok-add_parts.ensures.read was.parts read))

pub returns-in_err-settle_by-clause-fault : goal.returns-in_err-settle_by-clause-fault
returns-in_err-settle_by-clause-fault c = λ page cpu files alone was.
    let name : List ℕ = c.args.name.now in
    let file : File = record { cpu = cpu; bytes = c.args.file.now } in
    let own : List ModelPart = map part_seen c.in_ok-parts.parts.items in
    let is =
    parts-of-dat page name file (contents_seen c.in_ok-dat.dat) own c.requires.dat c.in_ok-dat.ensures
    c.in_ok-parts.ensures in
    let same =
    ap₂ is_same_machine (sym was.machine_is)
    (held-dat (λ (contents : Contents). contents.machine) None file (contents_seen c.in_ok-dat.dat) c.in_ok-dat.ensures)
    ∙ sym c.is_same_machine.ensures
    ∙ (let here : c.is_same_machine.result ≡ true = grind (arith, common_steps) in here) in
    let contents : Contents = contents_seen c.in_ok-dat.dat in
    let texts : map (λ text. text.now) c.as_slice-4.result.now ≡ counters_of name file =
    ap (map (λ text. text.now)) c.as_slice-4.ensures.value ∙ c.in_ok-counters.ensures
    ∙ ap (λ (ts : List (Bor (List ℕ))). texts_unless c.cut_in-cut.result name (map (λ text. text.now) ts))
    c.as_slice.ensures.value
    ∙ ap (λ (cut : Option Fault). texts_unless cut name contents.counters) (c.cut_in-cut.ensures ∙ ap (λ (bs : List Buffer). cut_in name (map buffer_seen bs)) c.deref.ensures.value)
    ∙ sym
    (held-dat (λ (contents : Contents). texts_unless (cut_in name contents.buffers) name contents.counters) [] file
    contents c.in_ok-dat.ensures) in
    let p = err_from_is_err_and c.from_residual-in_err-settle_by.result c.from_residual-in_err-settle_by.ensures.1 in
    rw (p.1, p.2)
    (settled-fault c.args.losses page name files file own c.args.captured.now was c.in_err-settle_by.field-0.0 alone
    is same
    (λ kept.
    ok-not-err c.settle_by.result c.in_err-settle_by.field-0.0 (c.settle_by.ensures.kept kept).1
    c.in_err-settle_by.was)
    (λ settled numbers. let past = c.settle_by.ensures.past settled (c.in_err-settle_by.was ∙ ap Err numbers) in (
      past.0,
      subst (λ (ts : List (List ℕ)). IsOwnPast (overrun_by (cpu_counters_of past.0 ts)) past.0 own) texts
          (subst
          (λ (ps : List CpuPart).
          IsOwnPast (overrun_by (cpu_counters_of past.0 (map (λ text. text.now) c.as_slice-4.result.now))) past.0
          (map part_seen ps))
          c.as_slice-3.ensures.value past.1),
    )))

pub returns-clause-read : goal.returns-clause-read
returns-clause-read c = λ page cpu files alone count was.
    let name : List ℕ = c.args.name.now in
    let file : File = record { cpu = cpu; bytes = c.args.file.now } in
    let own : List ModelPart = map part_seen c.in_ok-parts.parts.items in
    let is =
    parts-of-dat page name file (contents_seen c.in_ok-dat.dat) own c.requires.dat c.in_ok-dat.ensures
    c.in_ok-parts.ensures in
    let same =
    ap₂ is_same_machine (sym was.machine_is)
    (held-dat (λ (contents : Contents). contents.machine) None file (contents_seen c.in_ok-dat.dat) c.in_ok-dat.ensures)
    ∙ sym c.is_same_machine.ensures
    ∙ (let here : c.is_same_machine.result ≡ true = grind (arith, common_steps) in here) in
    let contents : Contents = contents_seen c.in_ok-dat.dat in
    let texts : map (λ text. text.now) c.as_slice-4.result.now ≡ counters_of name file =
    ap (map (λ text. text.now)) c.as_slice-4.ensures.value ∙ c.in_ok-counters.ensures
    ∙ ap (λ (ts : List (Bor (List ℕ))). texts_unless c.cut_in-cut.result name (map (λ text. text.now) ts))
    c.as_slice.ensures.value
    ∙ ap (λ (cut : Option Fault). texts_unless cut name contents.counters) (c.cut_in-cut.ensures ∙ ap (λ (bs : List Buffer). cut_in name (map buffer_seen bs)) c.deref.ensures.value)
    ∙ sym
    (held-dat (λ (contents : Contents). texts_unless (cut_in name contents.buffers) name contents.counters) [] file
    contents c.in_ok-dat.ensures) in
    let formats =
    held-dat (λ (contents : Contents). contents.formats) [] file (contents_seen c.in_ok-dat.dat) c.in_ok-dat.ensures in
    let others =
    held-dat (λ (contents : Contents). names_of_others name contents.buffers) [] file (contents_seen c.in_ok-dat.dat)
    c.in_ok-dat.ensures in
    let wanted : Wanted = c.args.captured.now.wanted in
    let tasks =
    held-dat (λ (contents : Contents). contents.tasks) [] file (contents_seen c.in_ok-dat.dat) c.in_ok-dat.ensures in
    let symbols =
    held-dat (λ (contents : Contents). contents.symbols) [] file (contents_seen c.in_ok-dat.dat) c.in_ok-dat.ensures in
    let machine =
    held-dat (λ (contents : Contents). contents.machine) None file (contents_seen c.in_ok-dat.dat)
    c.in_ok-dat.ensures in
    let found =
    held-dat (λ (contents : Contents). has_named name contents.buffers) false file (contents_seen c.in_ok-dat.dat)
    c.in_ok-dat.ensures in
    let read : AreCpusRead unknown was.parts c.as_mut_slice-cpus.result.now =
    subst (AreCpusRead unknown was.parts) (sym c.as_mut_slice-cpus.ensures.value)
    (as-read was.parts _ was.cpus_are) in
    let back : c.add_texts.new.captured.cpus.items ≡ c.settle_by.new.cpus =
    ap (λ (v : Vec CpuCapture Global). v.items) c.in_ok-add_texts.ensures.cpus
    ∙ (let len = c.args.captured.now.cpus.ok.0 in
    let long : length c.settle_by.new.cpus ≡ c.args.captured.now.cpus.len = grind (arith, common_steps) in
    written-back c.args.captured.now.cpus.len c.settle_by.new.cpus c.args.captured.now.cpus.items long
    (omega (arith, len))) in
    file-added c.args.losses page name files file own c.args.captured.now c.add_texts.new.captured
    c.add_parts.new.cpus c.args.index alone
    was is
    (subst (λ (ps : List CpuPart). AreCpusRead unknown (was.parts ++ map part_seen ps) c.add_parts.new.cpus)
    c.as_slice-2.ensures.value
    (c.in_ok-add_parts.ensures.read was.parts read))
    (λ kept. back ∙ (c.settle_by.ensures.kept kept).0)
    (λ settled.
    subst (λ (cs : List CpuCapture). AreCpusCaptured (λ n. cpu_counters_of n (counters_of name file)) own cs) (sym back)
    (subst (λ (ts : List (List ℕ)). AreCpusCaptured (λ n. cpu_counters_of n ts) own c.settle_by.new.cpus) texts
    (subst (λ (ps : List CpuPart).
    AreCpusCaptured (λ n. cpu_counters_of n (map (λ text. text.now) c.as_slice-4.result.now)) (map part_seen ps)
    c.settle_by.new.cpus)
    c.as_slice-3.ensures.value (c.in_ok-settle_by.ensures.settled settled))))
    (subst (λ (fs : List EventFormat). HasEvents c.add_texts.new.captured.names (all_formats files ++ fs)) (sym formats)
    (c.in_ok-add_texts.ensures.names (all_formats files) was.names_are))
    (c.in_ok-add_texts.ensures.others
    ∙ ap (λ (ns : List (List ℕ)). texts_held c.args.captured.now.others.items ++ ns) (sym others))
    (c.in_ok-add_texts.ensures.found ∙ ap (λ (b : Bool). c.args.captured.now.found || b) (sym found))
    c.add_texts.ensures.wanted
    (subst (λ (ts : List (List ℕ)). HasTasks c.add_texts.new.captured.tasks
    (if wanted.tasks then if_wanted wanted.tasks (all_lines tasks_of files) ++ lines_of ts
    else if_wanted wanted.tasks (all_lines tasks_of files))) (sym tasks)
    (c.in_ok-add_texts.ensures.tasks (if_wanted wanted.tasks (all_lines tasks_of files)) was.tasks_are))
    (subst (λ (ts : List (List ℕ)). HasSymbols c.add_texts.new.captured.symbols
    (if wanted.symbols then if_wanted wanted.symbols (all_lines symbols_of files) ++ lines_of ts
    else if_wanted wanted.symbols (all_lines symbols_of files))) (sym symbols)
    (c.in_ok-add_texts.ensures.symbols (if_wanted wanted.symbols (all_lines symbols_of files)) was.symbols_are))
    (c.in_ok-add_texts.ensures.machine
    ∙ ap (option_or (option_map (λ (v : Vec ℕ Global). v.items) c.args.captured.now.machine)) (sym machine))
    count
    (c.in_ok-add_texts.ensures.cut
    ∙ ap (λ (cut : Option Fault). option_or c.args.captured.now.cut (option_map (cut_at c.args.index) cut))
    (c.cut_in-cut.ensures ∙ ap (λ (bs : List Buffer). cut_in name (map buffer_seen bs)) c.deref.ensures.value
    ∙ sym
    (held-dat (λ (contents : Contents). cut_in name contents.buffers) None file (contents_seen c.in_ok-dat.dat)
    c.in_ok-dat.ensures)))
    same
