-- Files that were cut short, and one file more.
use Rattle.std.proofs.Common.{◌≡◌, ◌∙◌, ℕ, suc, ◌+◌, List, [], ◌∷◌, ◌++◌, length, Option, Some, None, refl, sym, ap, arith}
use Rattle.std.specs.Option.{option_map, option_or}
use Rattle.capture.specs.declared.files.captured.CutFile.{CutFile}
use Rattle.capture.specs.files.Files.{File, cut_at, cut_of, first_cut}

or_none : (known : Option CutFile) → option_or known None ≡ known
or_none None = refl
or_none (Some cut) = refl

or_or : (a b c : Option CutFile) → option_or a (option_or b c) ≡ option_or (option_or a b) c
or_or None b c = refl
or_or (Some cut) b c = refl

from_index : (name : List ℕ) (file : File) (index other : ℕ) → index ≡ other
    → option_map (cut_at index) (cut_of name file) ≡ option_map (cut_at other) (cut_of name file)
from_index name file index other same = ap (λ (n : ℕ). option_map (cut_at n) (cut_of name file)) same

cut_more : (name : List ℕ) (index : ℕ) (files : List File) (file : File)
    → first_cut name index (files ++ file ∷ [])
    ≡ option_or (first_cut name index files) (option_map (cut_at (index + length files)) (cut_of name file))
cut_more name index [] file =
    or_none (option_map (cut_at index) (cut_of name file)) ∙ from_index name file index (index + 0) (omega arith)
cut_more name index (first ∷ files) file =
    let own = option_map (cut_at index) (cut_of name first) in
    let others = first_cut name (suc index) files in
    ap (option_or own) (cut_more name (suc index) files file
    ∙ ap (option_or others) (from_index name file (suc index + length files) (index + suc (length files)) (omega arith)))
    ∙ or_or own others (option_map (cut_at (index + suc (length files))) (cut_of name file))

pub cut-next : (name : List ℕ) (files : List File) (file : File) (index : ℕ) → length files ≡ index
    → first_cut name 0 (files ++ file ∷ [])
    ≡ option_or (first_cut name 0 files) (option_map (cut_at index) (cut_of name file))
cut-next name files file index count =
    cut_more name 0 files file
    ∙ ap (option_or (first_cut name 0 files)) (from_index name file (0 + length files) index (omega (arith, count)))

-- a file that wasn't cut short
pub cut-stays : (name : List ℕ) (files : List File) (file : File) → cut_of name file ≡ None
    → first_cut name 0 files ≡ first_cut name 0 (files ++ file ∷ [])
cut-stays name files file none =
    sym (cut_more name 0 files file
    ∙ ap (λ cut. option_or (first_cut name 0 files) (option_map (cut_at (0 + length files)) cut)) none
    ∙ or_none (first_cut name 0 files))
