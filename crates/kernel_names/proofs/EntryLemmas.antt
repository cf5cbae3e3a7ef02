-- The entries of a table, part by part.
use Rattle.std.proofs.Common.{◌≡◌, true, List, Option, Some, Bor, ap, ◌∙◌}
use Rattle.std.proofs.lemmas.Bool.{cond-true}
use Rattle.std.specs.Prelude.{ℕ}
use Rattle.event_fields.specs.Texts.{parts_of}
use Rattle.kernel_names.specs.Entries.{Entry, ends_table, entries_after}
use Rattle.kernel_names.proofs.PartLemmas.{IsCut, cut_parts}

pub table_ends : (entries : List Entry) (left part : List ℕ) (rest : Option (Bor (List ℕ))) → IsCut 125 left part rest
    → ends_table part ≡ true → entries_after entries (parts_of 125 left) ≡ Some entries
table_ends entries left part rest cut is =
    ap (entries_after entries) (cut_parts 125 left part rest cut) ∙ cond-true _ _ _ is
