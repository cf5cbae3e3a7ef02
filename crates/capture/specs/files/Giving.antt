-- What a reader of a file answers, in the words of the definitions.
use Rattle.std.specs.Prelude.{◌≡◌, List, ◌++◌, Result, Ok, Err, ⊤}
use Rattle.capture.specs.declared.pages.CaptureFault.{CaptureFault}
use Rattle.capture.specs.declared.pages.CaptureFault.TheVariants as captures
use Rattle.capture.specs.declared.read.ReadFault.{ReadFault}
use Rattle.capture.specs.declared.read.ReadFault.TheVariants as reads
use Rattle.capture.specs.declared.files.cpu_part.CpuPart.{CpuPart}
use Rattle.capture.specs.declared.files.fault.InputFault.{InputFault}
use Rattle.capture.specs.declared.files.fault.InputFault.TheVariants as faults
use Rattle.capture.specs.declared.files.fault.FileFault.TheVariants.{SmallerPages}
use Rattle.capture.specs.files.Files.{Checked, ◌>>=◌, ModelPart}

-- a part without its place in memory
abbrev pub part_seen : CpuPart → ModelPart
part_seen part = record { cpu = part.cpu.0; size = part.size.bytes; bytes = part.pages.now }

-- a list after what was read before it
abbrev pub with_list : {A : Type 0} → List A → Checked (List A) → Checked (List A)
with_list before reading = reading >>= λ xs. Ok (before ++ xs)

-- the fault of a reading, or refused memory
abbrev pub Fails : {A : Type 0} → InputFault → Checked A → Type 0
Fails faults.Read reading = ⊥
Fails (faults.File fault) reading = reading ≡ Err fault
Fails faults.Numbers reading = ⊥
Fails faults.NoMemory reading = ⊤

-- the answer is what the reading is, as `view` shows it
abbrev pub Gives : {X A : Type 0} → (X → A) → Result X InputFault → Checked A → Type 0
Gives view (Ok x) reading = reading ≡ Ok (view x)
Gives view (Err fault) reading = Fails fault reading

-- why a file isn't read, if a capture can't be
abbrev pub input_fault : CaptureFault → InputFault
input_fault captures.Numbers = faults.Numbers
input_fault captures.NoMemory = faults.NoMemory

-- a read failed, or memory was refused
abbrev pub IsReadOrMemory : InputFault → Type 0
IsReadOrMemory faults.Read = ⊤
IsReadOrMemory (faults.File fault) = ⊥
IsReadOrMemory faults.Numbers = ⊥
IsReadOrMemory faults.NoMemory = ⊤

-- why a file isn't read, if its pages can't be
abbrev pub read_fault : ReadFault → InputFault
read_fault reads.Read = faults.Read
read_fault (reads.Capture fault) = input_fault fault
read_fault (reads.SmallerPages size) = faults.File (SmallerPages size)
