-- The line that is printed in place of a listing. docs/formats/program.md, "Captures".
use Rattle.std.specs.Prelude.{ℕ, List, [], ◌∷◌, ◌++◌, codes}
use Rattle.std.specs.Fmt.{decimal}
use Rattle.text_model.specs.Text.{line_feed}
use Rattle.trace_dat.specs.declared.fault.Cause.{Cause}
use Rattle.trace_dat.specs.declared.fault.Cause.TheVariants.{Cut, NotTraceDat, BadVersion, OtherMachine, Compressed}
use Rattle.trace_dat.specs.declared.fault.Cause.TheVariants.{Misplaced, OutsideFile, Backward}
use Rattle.capture.specs.declared.files.fault.FileFault.{FileFault}
use Rattle.capture.specs.declared.files.fault.FileFault.TheVariants.{Format, BadCpu, BadPage, Overlap}
use Rattle.capture.specs.declared.files.fault.FileFault.TheVariants.{OtherHost, SmallerPages}

-- what is wrong with a file of trace-cmd
abbrev pub cause_text : Cause → List ℕ
cause_text Cut = codes "Cut"
cause_text NotTraceDat = codes "NotTraceDat"
cause_text BadVersion = codes "BadVersion"
cause_text OtherMachine = codes "OtherMachine"
cause_text Compressed = codes "Compressed"
cause_text Misplaced = codes "Misplaced"
cause_text OutsideFile = codes "OutsideFile"
cause_text Backward = codes "Backward"

-- and where, or with which number
abbrev pub fault_text : FileFault → List ℕ
fault_text (Format fault) = cause_text fault.cause ++ (codes " at " ++ decimal fault.at)
fault_text (BadCpu cpu) = codes "BadCpu " ++ decimal cpu
fault_text (BadPage size) = codes "BadPage " ++ decimal size
fault_text Overlap = codes "Overlap"
fault_text OtherHost = codes "OtherHost"
fault_text (SmallerPages size) = codes "SmallerPages " ++ decimal size

-- what the file is
abbrev pub file_text : FileFault → List ℕ
file_text (Format fault) = codes "trace.dat: "
file_text (BadCpu cpu) = codes "trace.dat: "
file_text (BadPage size) = codes "trace.dat: "
file_text Overlap = codes "trace.dat: "
file_text OtherHost = codes "trace.dat: "
file_text (SmallerPages size) = codes "pages: "

-- the line of a file's fault
abbrev pub fault_line : FileFault → List ℕ
fault_line fault = file_text fault ++ (fault_text fault ++ line_feed ∷ [])

-- the line for numbers that don't fit
abbrev pub numbers_line : List ℕ
numbers_line = codes "numbers" ++ line_feed ∷ []
