use Rattle.std.proofs.Common.{List, ℕ, codes, map, ap, sym, ◌∙◌}
use Rattle.std.specs.Prelude.{option_and_then, option_map}
use Rattle.std.specs.Borrow.{Bor}
use Rattle.clap.specs.Words.{found_of}
use Rattle.clap.proofs.WalkLemmas.{raw_values-rows}
use Rattle.command_line.specs.FileWords.{path_list}
use Rattle.command_line.proofs.recover.matched_paths.Goals as goal

pub returns-in-Some-clause-paths : goal.returns-in-Some-clause-paths
returns-in-Some-clause-paths c =
    let words =
    sym (c.get_strs.ensures ∙ raw_values-rows (found_of c.args.found.now) (codes "file"))
    ∙ ap (option_map (λ (s : Bor (List (Bor (List ℕ)))). map (λ (w : Bor (List ℕ)). w.now) s.now))
    c.in-Some.is in
    rw words c.paths_of.ensures.paths

pub returns-in-Some-clause-unread : goal.returns-in-Some-clause-unread
returns-in-Some-clause-unread c = λ failed.
    let words =
    sym (c.get_strs.ensures ∙ raw_values-rows (found_of c.args.found.now) (codes "file"))
    ∙ ap (option_map (λ (s : Bor (List (Bor (List ℕ)))). map (λ (w : Bor (List ℕ)). w.now) s.now))
    c.in-Some.is in
    ap (option_and_then path_list) words ∙ c.paths_of.ensures.unread failed

pub returns-in-None-clause-unread : goal.returns-in-None-clause-unread
returns-in-None-clause-unread c = λ _.
    let words =
    sym (c.get_strs.ensures ∙ raw_values-rows (found_of c.args.found.now) (codes "file"))
    ∙ ap (option_map (λ (s : Bor (List (Bor (List ℕ)))). map (λ (w : Bor (List ℕ)). w.now) s.now))
    c.in-None.is in
    ap (option_and_then path_list) words
