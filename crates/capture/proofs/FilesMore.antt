-- Files, and one more.
use Rattle.std.proofs.Common.{◌≡◌, ◌≢◌, ◌∙◌, ℕ, inl, Bool, true, false, List, [], ◌∷◌, ◌++◌, length, Ok}
use Rattle.std.proofs.Common.{Err, refl, sym, ap, subst, append-nil, append_assoc, Vec, Global}
use Rattle.std.specs.Prelude.{Option, Some, None, ◌||◌, if◌then◌else◌, Result, IsOk}
use Rattle.std.specs.Option.{option_map, option_or}
use Rattle.trace_model.specs.Image.{unknown}
use Rattle.trace_dat.specs.Fields.{Reading}
use Rattle.trace_dat.specs.Contents.{EventFormat, Contents}
use Rattle.trace_dat.specs.Versions.{reading_of}
use Rattle.trace_dat.specs.declared.kernel_texts.names.EventNames.{EventNames}
use Rattle.trace_dat.specs.kernel_texts.Names.{HasEvents}
use Rattle.capture.specs.declared.pages.CaptureFault.{CaptureFault}
use Rattle.capture.specs.declared.pages.CaptureFault.TheVariants as captures
use Rattle.capture.specs.declared.files.captured.CpuCapture.{CpuCapture}
use Rattle.capture.specs.declared.files.captured.Captured.{Captured}
use Rattle.capture.specs.declared.files.captured.CutFile.{CutFile}
use Rattle.capture.specs.declared.files.dat.Losses.{Losses}
use Rattle.capture.specs.declared.files.dat.Losses.TheVariants.{Kept, Settled}
use Rattle.capture.specs.files.Files.{Checked, ◌>>=◌, File, ModelPart, is_dat, formatted, parts_in, parts_of, held}
use Rattle.capture.specs.Smaller.{smaller_pages}
use Rattle.capture.specs.declared.files.fault.FileFault.TheVariants.{SmallerPages}
use Rattle.capture.specs.files.Files.{unless_smaller, raw_parts}
use Rattle.capture.specs.files.Files.{held_by, formats_of, others_of, names_of_others, has_named, has_listed}
use Rattle.capture.specs.files.Files.{counters_of, ArePartsOf, all_formats, all_others, is_in_any}
use Rattle.capture.specs.files.Losses.{cpu_counters_of, overrun_by}
use Rattle.capture.specs.files.Captures.{AreCpusRead, AreCpusCaptured, IsCpuPast, IsOwnPast, AreFilesRead}
use Rattle.capture.specs.files.Captures.{AreFilesPast, unsaid, texts_held}
use Rattle.capture.specs.files.Giving.{input_fault}
use Rattle.capture.specs.files.FilesRead.{said_by, IsAlone, AddsFile, IsFileFault}
use Rattle.capture.specs.declared.files.captured.Wanted.{Wanted}
use Rattle.capture.specs.files.Files.{tasks_of, symbols_of, machine_of, lines_of, all_lines, if_wanted, machine_in}
use Rattle.capture.specs.files.Files.{is_same_machine, parts_after, cut_at, cut_in, cut_of, texts_unless}
use Rattle.kernel_names.specs.declared.tasks.TaskNames.{TaskNames}
use Rattle.kernel_names.specs.declared.symbol_names.SymbolNames.{SymbolNames}
use Rattle.kernel_names.specs.Tasks.{HasTasks}
use Rattle.kernel_names.specs.SymbolNames.{HasSymbols}
use Rattle.capture.proofs.NameLists.{wanted-next, lines-stay, machine-more, of-one-more, same-unsaid, machine-stays}
use Rattle.capture.proofs.NameLists.{own-fault}
use Rattle.capture.proofs.CutFiles.{cut-next, cut-stays}
use Rattle.capture.proofs.Prefixes.{raw-reading}

-- ---- what a file of trace-cmd holds

formatted-ok : (reading : Reading Contents) (contents : Contents) → formatted reading ≡ Ok contents
    → reading ≡ Ok contents
formatted-ok (Ok x) contents e = cc
formatted-ok (Err f) contents e = absurd cc

pub parts-of-dat : (page : ℕ) (name : List ℕ) (file : File) (contents : Contents) (own : List ModelPart)
    → is_dat name file.bytes ≡ true
    → formatted (reading_of file.bytes) ≡ Ok contents → parts_in name (length file.bytes) contents ≡ Ok own
    → parts_of page name file ≡ Ok own
parts-of-dat page name file contents own dat reads parts =
    ap (λ (b : Bool). if b then (formatted (reading_of file.bytes) >>= parts_in name (length file.bytes))
    else raw_parts page file) dat
    ∙ ap (λ (r : Checked Contents). r >>= parts_in name (length file.bytes)) reads ∙ parts

pub held-dat : {A : Type 0} (of : Contents → A) (otherwise : A) (file : File) (contents : Contents)
    → formatted (reading_of file.bytes) ≡ Ok contents → held_by of otherwise file ≡ of contents
held-dat {A = A} of otherwise file contents reads =
    ap (λ (r : Reading Contents). held of otherwise r) (formatted-ok (reading_of file.bytes) contents reads)

-- ---- one file more

parts-more : (page : ℕ) (name : List ℕ) (files : List File) (parts : List ModelPart) (file : File)
    (own : List ModelPart)
    → ArePartsOf page name files parts
    → parts_of page name file ≡ Ok own → ArePartsOf page name (files ++ file ∷ []) (parts ++ own)
parts-more page name [] parts file own none is =
    (own, [], subst (λ (ps : List ModelPart). ps ++ own ≡ own ++ []) (sym none) (sym (append-nil own)), is, refl)
parts-more page name (first ∷ files) parts file own (front, others, joined, here, rest) is = (
  front,
  others ++ own,
  ap (λ (ps : List ModelPart). ps ++ own) joined ∙ append_assoc front others own,
  here,
  parts-more page name files others file own rest is,
)

formats-more : (files : List File) (file : File)
    → all_formats (files ++ file ∷ []) ≡ all_formats files ++ formats_of file
formats-more [] file = append-nil (formats_of file)
formats-more (first ∷ files) file =
    ap (λ (fs : List EventFormat). formats_of first ++ fs) (formats-more files file)
    ∙ sym (append_assoc (formats_of first) (all_formats files) (formats_of file))

others-more : (name : List ℕ) (files : List File) (file : File)
    → all_others name (files ++ file ∷ []) ≡ all_others name files ++ others_of name file
others-more name [] file = append-nil (others_of name file)
others-more name (first ∷ files) file =
    ap (λ (ns : List (List ℕ)). others_of name first ++ ns) (others-more name files file)
    ∙ sym (append_assoc (others_of name first) (all_others name files) (others_of name file))

or-more : (a b c : Bool) → (a || (b || c)) ≡ ((a || b) || c)
or-more true b c = refl
or-more false b c = refl

or-none : (a : Bool) → (a || false) ≡ a
or-none true = refl
or-none false = refl

found-more : (name : List ℕ) (files : List File) (file : File)
    → is_in_any name (files ++ file ∷ []) ≡ (is_in_any name files || has_listed name file)
found-more name [] file = or-none (has_listed name file)
found-more name (first ∷ files) file =
    ap (λ (b : Bool). has_listed name first || b) (found-more name files file)
    ∙ or-more (has_listed name first) (is_in_any name files) (has_listed name file)

-- nothing is said of what was overwritten
pub as-captured : (parts : List ModelPart) (cpus : List CpuCapture) → AreCpusRead unknown parts cpus
    → AreCpusCaptured unsaid parts cpus
as-captured parts cpus read = record {
  count = read.count;
  each = λ cpu found at.
      let r = read.each cpu found at in
      record {
        pages = r.pages;
        cut = r.cut;
        cpu_is = r.cpu_is;
        capture_is = r.capture_is;
        counters_are = r.counters_are;
        parts_are = r.parts_are;
        bytes_are = r.bytes_are;
        bytes_fit = r.bytes_fit;
      };
}

pub as-read : (parts : List ModelPart) (cpus : List CpuCapture) → AreCpusCaptured unsaid parts cpus
    → AreCpusRead unknown parts cpus
as-read parts cpus captured = record {
  count = captured.count;
  each = λ cpu found at.
      let r = captured.each cpu found at in
      record {
        pages = r.pages;
        cut = r.cut;
        cpu_is = r.cpu_is;
        capture_is = r.capture_is;
        counters_are = r.counters_are;
        parts_are = r.parts_are;
        bytes_are = r.bytes_are;
        bytes_fit = r.bytes_fit;
      };
}

no-files : (page : ℕ) (name : List ℕ) (files : List File) (parts : List ModelPart) → files ≡ []
    → ArePartsOf page name files parts
    → parts ≡ []
no-files page name [] parts none are = are
no-files page name (file ∷ files) parts none are = absurd cc

-- what is read of all CPUs, with one file more
cpus-said : (losses : Losses) (page : ℕ) (name : List ℕ) (files : List File) (parts : List ModelPart) (file : File)
    (own : List ModelPart) (mid new : List CpuCapture)
    → IsAlone losses files → ArePartsOf page name files parts → AreCpusRead unknown (parts ++ own) mid
    → (losses ≡ Kept → new ≡ mid)
    → (losses ≡ Settled → AreCpusCaptured (λ cpu. cpu_counters_of cpu (counters_of name file)) own new)
    → AreCpusCaptured (said_by losses name file) (parts ++ own) new
cpus-said Kept page name files parts file own mid new alone are read kept settled =
    subst (AreCpusCaptured unsaid (parts ++ own)) (sym (kept refl)) (as-captured (parts ++ own) mid read)
cpus-said Settled page name files parts file own mid new alone are read kept settled =
    subst (λ (ps : List ModelPart). AreCpusCaptured (said_by Settled name file) (ps ++ own) new)
    (sym (no-files page name files parts alone are)) (settled refl)

pub file-added : (losses : Losses) (page : ℕ) (name : List ℕ) (files : List File) (file : File) (own : List ModelPart)
    (old new : Captured) (mid : List CpuCapture) (index : ℕ)
    → IsAlone losses files → (was : AreFilesRead unsaid page name files old) → parts_of page name file ≡ Ok own
    → AreCpusRead unknown (was.parts ++ own) mid
    → (losses ≡ Kept → new.cpus.items ≡ mid)
    → (losses ≡ Settled → AreCpusCaptured (λ cpu. cpu_counters_of cpu (counters_of name file)) own new.cpus.items)
    → HasEvents new.names (all_formats files ++ formats_of file)
    → texts_held new.others.items ≡ texts_held old.others.items ++ others_of name file
    → new.found ≡ (old.found || has_listed name file) → new.wanted ≡ old.wanted
    → HasTasks new.tasks (if old.wanted.tasks
    then if_wanted old.wanted.tasks (all_lines tasks_of files) ++ lines_of (tasks_of file)
    else if_wanted old.wanted.tasks (all_lines tasks_of files))
    → HasSymbols new.symbols (if old.wanted.symbols
    then if_wanted old.wanted.symbols (all_lines symbols_of files) ++ lines_of (symbols_of file)
    else if_wanted old.wanted.symbols (all_lines symbols_of files))
    → option_map (λ (v : Vec ℕ Global). v.items) new.machine
    ≡ option_or (option_map (λ (v : Vec ℕ Global). v.items) old.machine) (machine_of file)
    → length files ≡ index → new.cut ≡ option_or old.cut (option_map (cut_at index) (cut_of name file))
    → is_same_machine (machine_in files) (machine_of file) ≡ true
    → AddsFile losses page name files file new
file-added losses page name files file own old new mid index alone was is read kept settled names others found
    wanted tasks symbols machine count cut same =
    let all : texts_held new.others.items ≡ all_others name (files ++ file ∷ []) =
    others ∙ ap (λ (ns : List (List ℕ)). ns ++ others_of name file) was.others_are
    ∙ sym (others-more name files file) in
    record {
      parts = was.parts ++ own;
      parts_are = parts-more page name files was.parts file own was.parts_are is;
      cpus_are = cpus-said losses page name files was.parts file own mid new.cpus.items alone was.parts_are read kept
          settled;
      names_are = subst (HasEvents new.names) (sym (formats-more files file)) names;
      others_are = all;
      found_is =
          found ∙ ap (λ (b : Bool). b || has_listed name file) was.found_is ∙ sym (found-more name files file);
      tasks_are = subst (λ (w : Wanted).
          HasTasks new.tasks (if_wanted w.tasks (all_lines tasks_of (files ++ file ∷ []))))
          (sym wanted) (subst (HasTasks new.tasks) (wanted-next old.wanted.tasks tasks_of files file) tasks);
      symbols_are = subst (λ (w : Wanted).
          HasSymbols new.symbols (if_wanted w.symbols (all_lines symbols_of (files ++ file ∷ []))))
          (sym wanted) (subst (HasSymbols new.symbols) (wanted-next old.wanted.symbols symbols_of files file) symbols);
      machine_is = machine ∙ ap (λ (known : Option (List ℕ)). option_or known (machine_of file)) was.machine_is
          ∙ sym (machine-more None files file);
      cut_is = cut ∙ ap (λ (known : Option CutFile). option_or known (option_map (cut_at index) (cut_of name file)))
          was.cut_is
          ∙ sym (cut-next name files file index count);
      of_one = of-one-more files file was.of_one same;
    }

-- ---- faults

-- numbers don't fit while nothing is known of losses
pub added-fault : (losses : Losses) (page : ℕ) (name : List ℕ) (files : List File) (file : File)
    (own : List ModelPart) (old : Captured)
    (was : AreFilesRead unsaid page name files old)
    (fault : CaptureFault) → parts_of page name file ≡ Ok own
    → is_same_machine (machine_in files) (machine_of file) ≡ true
    → (fault ≡ captures.Numbers → (cpu : ℕ) × IsCpuPast unknown cpu (was.parts ++ own))
    → IsFileFault losses page name files file (input_fault fault)
added-fault losses page name files file own old was captures.NoMemory is same past = tt
added-fault losses page name files file own old was captures.Numbers is same past = record {
  parts = was.parts ++ own;
  parts_are = parts-more page name files was.parts file own was.parts_are is;
  of_one = of-one-more files file was.of_one same;
  cpu = (past refl).0;
  past = (unknown, inl refl, (past refl).1);
}

-- or once losses are settled
pub settled-fault : (losses : Losses) (page : ℕ) (name : List ℕ) (files : List File) (file : File)
    (own : List ModelPart)
    (old : Captured) (was : AreFilesRead unsaid page name files old)
    (fault : CaptureFault) → IsAlone losses files → parts_of page name file ≡ Ok own
    → is_same_machine (machine_in files) (machine_of file) ≡ true → losses ≢ Kept
    → (losses ≡ Settled → fault ≡ captures.Numbers → (cpu : ℕ)
    × IsOwnPast (overrun_by (cpu_counters_of cpu (counters_of name file))) cpu own)
    → IsFileFault losses page name files file (input_fault fault)
settled-fault losses page name files file own old was captures.NoMemory alone is same not past = tt
settled-fault Kept page name files file own old was captures.Numbers alone is same not past = absurd (not refl)
settled-fault Settled page name files file own old was captures.Numbers alone is same not past = record {
  parts = was.parts ++ own;
  parts_are = parts-more page name files was.parts file own was.parts_are is;
  of_one = of-one-more files file was.of_one same;
  cpu = (past refl refl).0;
  past =
      subst (λ (ps : List ModelPart).
      IsOwnPast (overrun_by (cpu_counters_of (past refl refl).0 (counters_of name file))) (past refl refl).0
      (ps ++ own))
      (sym (no-files page name files was.parts alone was.parts_are)) (past refl refl).1;
}

pub alone-parts : (losses : Losses) (page : ℕ) (name : List ℕ) (files : List File) (parts : List ModelPart)
    → losses ≡ Settled
    → IsAlone losses files
    → ArePartsOf page name files parts → parts ≡ []
alone-parts Kept page name files parts e alone are = absurd cc
alone-parts Settled page name files parts e alone are = no-files page name files parts alone are

pub ok-not-err : {A E : Type 0} (result : Result A E) (e : E) → IsOk result → result ≡ Err e → ⊥
ok-not-err (Ok x) e ok is = cc
ok-not-err (Err f) e ok is = cc

-- ---- a raw file

-- what is read of it, by what its pages show
raw-by : (page : ℕ) (name : List ℕ) (file : File) (shown : Option ℕ) → is_dat name file.bytes ≡ false
    → smaller_pages page file.bytes ≡ shown
    → parts_of page name file ≡ unless_smaller shown (record { cpu = file.cpu; size = page; bytes = file.bytes } ∷ [])
raw-by page name file shown raw is =
    ap (λ (b : Bool). if b then (formatted (reading_of file.bytes) >>= parts_in name (length file.bytes))
    else raw_parts page file) raw
    ∙ ap (λ (o : Option ℕ). unless_smaller o (record { cpu = file.cpu; size = page; bytes = file.bytes } ∷ [])) is

pub parts-of-raw : (page : ℕ) (name : List ℕ) (file : File) → is_dat name file.bytes ≡ false
    → smaller_pages page file.bytes ≡ None
    → parts_of page name file ≡ Ok (record { cpu = file.cpu; size = page; bytes = file.bytes } ∷ [])
parts-of-raw page name file raw none = raw-by page name file None raw none

pub smaller-raw : (page : ℕ) (name : List ℕ) (files : List File) (file : File) (smaller : ℕ)
    → is_dat name file.bytes ≡ false
    → smaller_pages page file.bytes ≡ Some smaller → parts_after page name files file ≡ Err (SmallerPages smaller)
smaller-raw page name files file smaller raw shown =
    own-fault page name files file (SmallerPages smaller) (raw-by page name file (Some smaller) raw shown)

pub held-raw : {A : Type 0} (of : Contents → A) (otherwise : A) (name : List ℕ) (file : File)
    → is_dat name file.bytes ≡ false → held_by of otherwise file ≡ otherwise
held-raw of otherwise name file raw = ap (λ (r : Reading Contents). held of otherwise r)
    (raw-reading name file.bytes raw)

raw-unsaid : (name : List ℕ) (file : File) → is_dat name file.bytes ≡ false → machine_of file ≡ None
raw-unsaid name file raw = held-raw (λ (contents : Contents). contents.machine) None name file raw

raw-said : (losses : Losses) (name : List ℕ) (file : File) (parts : List ModelPart) (cpus : List CpuCapture)
    → is_dat name file.bytes ≡ false → AreCpusRead unknown parts cpus
    → AreCpusCaptured (said_by losses name file) parts cpus
raw-said Kept name file parts cpus raw read = as-captured parts cpus read
raw-said Settled name file parts cpus raw read =
    subst (λ (ts : List (List ℕ)). AreCpusCaptured (λ cpu. cpu_counters_of cpu ts) parts cpus)
    (sym (held-raw (λ (contents : Contents). texts_unless (cut_in name contents.buffers) name contents.counters) [] name
    file raw))
    (as-captured parts cpus read)

pub raw-added : (losses : Losses) (page : ℕ) (name : List ℕ) (files : List File) (file : File) (old new : Captured)
    (was : AreFilesRead unsaid page name files old)
    → is_dat name file.bytes ≡ false → smaller_pages page file.bytes ≡ None
    → AreCpusRead unknown (was.parts ++ record { cpu = file.cpu; size = page; bytes = file.bytes } ∷ []) new.cpus.items
    → new.names ≡ old.names → new.others ≡ old.others → new.found ≡ old.found → new.wanted ≡ old.wanted
    → new.tasks ≡ old.tasks → new.symbols ≡ old.symbols → new.machine ≡ old.machine → new.cut ≡ old.cut
    → AddsFile losses page name files file new
raw-added losses page name files file old new was raw none_smaller read names others found wanted
    tasks symbols machine cut =
    let none : others_of name file ≡ [] =
    held-raw (λ (contents : Contents). names_of_others name contents.buffers) [] name file raw in
    let lacks : has_listed name file ≡ false =
    held-raw (λ (contents : Contents). has_named name contents.buffers) false name file raw in
    let all : all_others name files ≡ all_others name (files ++ file ∷ []) =
    sym (others-more name files file
    ∙ ap (λ (ns : List (List ℕ)). all_others name files ++ ns) none ∙ append-nil (all_others name files)) in
    record {
      parts = was.parts ++ record { cpu = file.cpu; size = page; bytes = file.bytes } ∷ [];
      parts_are = parts-more page name files was.parts file _ was.parts_are
          (parts-of-raw page name file raw none_smaller);
      cpus_are = raw-said losses name file _ new.cpus.items raw read;
      names_are = subst (λ (n : EventNames). HasEvents n (all_formats (files ++ file ∷ []))) (sym names)
          (subst (HasEvents old.names) (sym (formats-more files file
          ∙ ap (λ (fs : List EventFormat). all_formats files ++ fs)
          (held-raw (λ (contents : Contents). contents.formats) [] name file raw)
          ∙ append-nil (all_formats files))) was.names_are);
      others_are = ap (λ (v : Vec (Vec ℕ Global) Global). texts_held v.items) others ∙ was.others_are ∙ all;
      found_is = found ∙ was.found_is
          ∙ sym (found-more name files file ∙ ap (λ (b : Bool). is_in_any name files || b) lacks
          ∙ or-none (is_in_any name files));
      tasks_are = subst (λ (t : TaskNames).
          HasTasks t (if_wanted new.wanted.tasks (all_lines tasks_of (files ++ file ∷ [])))) (sym tasks)
          (subst (λ (w : Wanted). HasTasks old.tasks (if_wanted w.tasks (all_lines tasks_of (files ++ file ∷ []))))
          (sym wanted)
          (subst (λ (ls : List (List ℕ)). HasTasks old.tasks (if_wanted old.wanted.tasks ls))
          (lines-stay tasks_of files file
          (held-raw (λ (contents : Contents). contents.tasks) [] name file raw)) was.tasks_are));
      symbols_are = subst (λ (t : SymbolNames).
          HasSymbols t (if_wanted new.wanted.symbols (all_lines symbols_of (files ++ file ∷ [])))) (sym symbols)
          (subst (λ (w : Wanted).
          HasSymbols old.symbols (if_wanted w.symbols (all_lines symbols_of (files ++ file ∷ []))))
          (sym wanted)
          (subst (λ (ls : List (List ℕ)). HasSymbols old.symbols (if_wanted old.wanted.symbols ls))
          (lines-stay symbols_of files file
          (held-raw (λ (contents : Contents). contents.symbols) [] name file raw)) was.symbols_are));
      machine_is = ap (option_map (λ (v : Vec ℕ Global). v.items)) machine ∙ was.machine_is
          ∙ machine-stays files file (raw-unsaid name file raw);
      cut_is = cut ∙ was.cut_is
          ∙ cut-stays name files file
          (held-raw (λ (contents : Contents). cut_in name contents.buffers) None name file raw);
      of_one = of-one-more files file was.of_one
          (same-unsaid (machine_in files) file (raw-unsaid name file raw));
    }

pub raw-past : (losses : Losses) (page : ℕ) (name : List ℕ) (files : List File) (file : File) (old : Captured)
    (was : AreFilesRead unsaid page name files old)
    → is_dat name file.bytes ≡ false → smaller_pages page file.bytes ≡ None
    → IsCpuPast unknown file.cpu (was.parts ++ record { cpu = file.cpu; size = page; bytes = file.bytes } ∷ [])
    → AreFilesPast (said_by losses name file) page name (files ++ file ∷ [])
raw-past losses page name files file old was raw none_smaller past = record {
  parts = was.parts ++ record { cpu = file.cpu; size = page; bytes = file.bytes } ∷ [];
  parts_are = parts-more page name files was.parts file _ was.parts_are (parts-of-raw page name file raw none_smaller);
  of_one = of-one-more files file was.of_one (same-unsaid (machine_in files) file (raw-unsaid name file raw));
  cpu = file.cpu;
  past = (unknown, inl refl, past);
}
