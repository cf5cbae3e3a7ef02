-- A listing that ends before its files do.
use Rattle.std.proofs.Common.{◌≡◌, ℕ, suc, ◌+◌, ◌<◌, ◌≤◌, Bool, true, false, List, [], ◌∷◌, ◌++◌, length, drop}
use Rattle.std.proofs.Common.{get_or, inl, inr, map, Option, Some, None, refl, sym, ap, ap₂, ◌∙◌, subst, arith}
use Rattle.std.proofs.Common.{append-nil}
use Rattle.std.proofs.lemmas.List.{drop_all}
use Rattle.trace_model.specs.Listing.{Line as ModelLine}
use Rattle.time_merge.specs.Heads.{AllBegin, HaveEnded, first_in}
use Rattle.time_merge.specs.Merging.{merged_lists}
use Rattle.time_merge.specs.SourceWalks.{AllPass, WalksAll, WalksPart, each_joined}
use Rattle.time_merge.specs.Walks.{TakesAll}
use Rattle.command_io.specs.Written.{IsTextWritten}
use Rattle.page_lines.specs.declared.source.Halt.{Halt}
use Rattle.page_lines.specs.declared.source.Halt.TheVariants as halts
use Rattle.page_lines.specs.Sources.{Reading, IsHalted, PassesLine}
use Rattle.collect_command.specs.declared.ending.Ending.{Ending}
use Rattle.collect_command.specs.declared.ending.Ending.TheVariants.{NotWritten}
use Rattle.collect_command.specs.Paged.{AreLeft, GoFirst, IsToTheEnd, first_halt, halt_ending, halted_at}
use Rattle.collect_command.proofs.PagedPrints.{left_at}

-- ---- how it ends

-- no halt is an end that is reached
pub halts_early : (halt : Option (ℕ × Halt)) → IsToTheEnd (halt_ending halt) → ⊥
halts_early None to_end = to_end
halts_early (Some (index, halts.NoMemory)) to_end = to_end
halts_early (Some (index, halts.NotRead)) to_end = to_end
halts_early (Some (index, halts.NotRaw)) to_end = to_end
halts_early (Some (index, halts.SmallerPages)) to_end = to_end
halts_early (Some (index, halts.Falls)) to_end = to_end
halts_early (Some (index, halts.Numbers)) to_end = to_end

early_so : (contents after : Option (List ℕ)) (failed is_failed : Bool) (text : List ℕ) (wanted ending : Ending)
    → failed ≡ is_failed → IsTextWritten NotWritten contents after failed text wanted ending
    → (IsToTheEnd wanted → ⊥) → IsToTheEnd ending → ⊥
early_so contents after failed false text wanted ending is written early to_end =
    early (subst IsToTheEnd (written.all is).1 to_end)
early_so contents after failed true text wanted ending is written early to_end =
    subst IsToTheEnd (written.cut_off is).1 to_end

-- nor is a write that failed
pub ends_early : (contents after : Option (List ℕ)) (failed : Bool) (text : List ℕ) (wanted ending : Ending)
    → IsTextWritten NotWritten contents after failed text wanted ending
    → (IsToTheEnd wanted → ⊥) → IsToTheEnd ending → ⊥
ends_early contents after failed text wanted ending written early to_end =
    early_so contents after failed failed text wanted ending refl written early to_end

-- ---- the lines that go first

module _ {R : Type 0} (remaining : R → Option (List ℕ)) where
  pub none_pass : (sources : List (Reading R))
      → AllPass (PassesLine remaining) sources (map (λ (s : Reading R). []) sources) sources
  none_pass [] = tt
  none_pass (source ∷ sources) = (refl, none_pass sources)

  -- no line was given
  unfoldable pub none_first : (sources : List (Reading R)) → GoFirst remaining sources []
  none_first sources = record {
    lists = map (λ (s : Reading R). []) sources;
    between = sources;
    pass = none_pass sources;
    first = λ others begin. (merged_lists (each_joined (map (λ (s : Reading R). []) sources) others), refl);
  }

  pub pass_count : (olds : List (Reading R)) (lists : List (List ModelLine)) (news : List (Reading R))
      → AllPass (PassesLine remaining) olds lists news → length lists ≡ length news
  pass_count [] [] [] pass = refl
  pass_count (old ∷ olds) (lines ∷ lists) (new ∷ news) pass = ap suc (pass_count olds lists news pass.1)
  pass_count [] [] (new ∷ news) pass = absurd pass
  pass_count [] (lines ∷ lists) news pass = absurd pass
  pass_count (old ∷ olds) [] news pass = absurd pass
  pass_count (old ∷ olds) (lines ∷ lists) [] pass = absurd pass

  no_line : (lines : List ModelLine) → first_in lines ≡ None → lines ≡ []
  no_line [] none = refl
  no_line (line ∷ lines) none = absurd cc

  -- nothing comes behind the lines of sources that have ended
  pub joined_none : (news : List (Reading R)) (lists others : List (List ModelLine)) → length lists ≡ length news
      → AllBegin (λ (s : Reading R). first_in s.left) news others
      → HaveEnded (λ (s : Reading R). first_in s.left) news → each_joined lists others ≡ lists
  joined_none [] [] others count begin ended = refl
  joined_none [] (lines ∷ lists) others count begin ended = absurd (omega (arith, count))
  joined_none (new ∷ news) [] others count begin ended = refl
  joined_none (new ∷ news) (lines ∷ lists) [] count begin ended =
      absurd (let few = begin.count in omega (arith, few))
  joined_none (new ∷ news) (lines ∷ lists) (more ∷ others) count begin ended =
      let none : more ≡ [] = no_line more (begin.each 0 new more refl refl ∙ ended 0 new refl) in
      let few = begin.count in
      ap₂ (λ (own : List ModelLine) (rest : List (List ModelLine)). own ∷ rest)
      (ap (λ (ls : List ModelLine). lines ++ ls) none ∙ append-nil lines)
      (joined_none news lists others (omega (arith, count))
      (record {
        count = omega (arith, few);
        each = λ k s ls at here. begin.each (suc k) s ls at here;
      })
      (λ k s at. ended (suc k) s at))

  -- all lines of sources that have ended
  unfoldable pub all_first : (olds : List (Reading R)) (lists : List (List ModelLine)) (news : List (Reading R))
      → AllPass (PassesLine remaining) olds lists news
      → HaveEnded (λ (s : Reading R). first_in s.left) news
      → GoFirst remaining olds (merged_lists lists)
  all_first olds lists news pass ended = record {
    lists = lists;
    between = news;
    pass = pass;
    first = λ others begin. (
      [],
      ap merged_lists (joined_none news lists others (pass_count olds lists news pass) begin ended)
          ∙ sym (append-nil (merged_lists lists)),
    );
  }

-- ---- the first source that can't go on

module _ {R : Type 0} where
  pub halt_found : (sources : List (Reading R)) (k : ℕ) (source : Reading R) (halt : Halt) → k < length sources
      → source ≡ get_or sources k source → source.halt ≡ Some halt
      → first_halt k (drop k sources) ≡ Some (k, halt)
  halt_found sources k source halt below at is =
      ap (first_halt k) (sym (left_at sources k source below at))
      ∙ ap (λ (h : Option Halt). halted_at k h (first_halt (suc k) (drop (k + 1) sources))) is

  pub halt_past : (sources : List (Reading R)) (k : ℕ) (source : Reading R) → k < length sources
      → source ≡ get_or sources k source → source.halt ≡ None
      → first_halt k (drop k sources) ≡ first_halt (k + 1) (drop (k + 1) sources)
  halt_past sources k source below at is =
      ap (first_halt k) (sym (left_at sources k source below at))
      ∙ ap (λ (h : Option Halt). halted_at k h (first_halt (suc k) (drop (k + 1) sources))) is
      ∙ ap (λ (n : ℕ). first_halt n (drop (k + 1) sources)) (let same : suc k ≡ k + 1 = omega arith in same)

  pub no_halt : (sources : List (Reading R)) (k : ℕ) → length sources ≤ k
      → first_halt k (drop k sources) ≡ None
  no_halt sources k past = ap (first_halt k) (drop_all k sources past)

-- ---- a walk that ended

-- These lines were taken, they go first, and the sources were left like this.
pub record Walked {R T : Type 0} (remaining : R → Option (List ℕ)) (takes : T → ModelLine → T → Type 0)
    (olds : List (Reading R)) (start : T) (news : List (Reading R)) (finish : T) : Type 0 where
  pub front : List ModelLine
  pub taken : TakesAll takes start front finish
  pub goes : GoFirst remaining olds front
  pub are_left : AreLeft goes.between news

module _ {R T : Type 0} (remaining : R → Option (List ℕ)) (takes : T → ModelLine → T → Type 0)
    (olds : List (Reading R)) (start : T) (news : List (Reading R)) (finish : T) where
  abbrev head : Reading R → Option ModelLine
  head source = first_in source.left

  pub walked_by : (is_whole whole : Bool) → is_whole ≡ whole
      → (is_whole ≡ true → WalksAll head (PassesLine remaining) takes olds start news finish)
      → (is_whole ≡ false
      → WalksPart head (PassesLine remaining) (λ source. IsHalted source) takes olds start news finish)
      → Walked remaining takes olds start news finish
  unfolding all_first
  walked_by is_whole true is all part =
      let walk = all is in
      record {
        front = merged_lists walk.lists;
        taken = walk.taken;
        goes = all_first remaining olds walk.lists news walk.pass walk.ended;
        are_left = inl refl;
      }
  walked_by is_whole false is all part =
      let walk = part is in
      record {
        front = walk.front;
        taken = walk.taken;
        goes = record {
          lists = walk.lists;
          between = walk.between;
          pass = walk.pass;
          first = walk.first;
        };
        are_left = inr (walk.index, walk.source, walk.is_stopped, walk.news_are);
      }
