-- The world after each number of a script's lines.
use Rattle.std.proofs.Common.{◌≡◌, ℕ, zero, suc, List, [], ◌∷◌, length}
use Rattle.text_model.specs.Script.{Command, Script}
use Rattle.world_model.specs.World.{World, ObeysAll}
use Rattle.world_model.proofs.WorldsKept.{IsWorldKept, obeys_kept}

-- the lines after the first one
abbrev pub other_lines : List (ℕ × Command) → List (ℕ × Command)
other_lines [] = []
other_lines (line ∷ lines) = lines

module _ (script : Script) where
  -- the world after the first line, and what the others make of it
  abbrev pub second_world : (lines : List (ℕ × Command)) (before after : World) → ObeysAll script lines before after
      → World
  second_world [] before after all = before
  second_world (line ∷ lines) before after all = all.0

  abbrev pub others_obeyed : (lines : List (ℕ × Command)) (before after : World)
      (all : ObeysAll script lines before after)
      → ObeysAll script (other_lines lines) (second_world lines before after all) after
  others_obeyed [] before after all = all
  others_obeyed (line ∷ lines) before after all = all.2

  abbrev pub world_at : (lines : List (ℕ × Command)) (before after : World) → ObeysAll script lines before after → ℕ
      → World
  world_at lines before after all zero = before
  world_at lines before after all (suc k) =
      world_at (other_lines lines) (second_world lines before after all) after (others_obeyed lines before after all) k

  abbrev pub second_kept : (lines : List (ℕ × Command)) (before after : World)
      (all : ObeysAll script lines before after)
      → IsWorldKept script before
      → IsWorldKept script (second_world lines before after all)
  second_kept [] before after all kept = kept
  second_kept (line ∷ lines) before after all kept = obeys_kept script line.0 line.1 before all.0 kept all.1

  pub kept_at : (lines : List (ℕ × Command)) (before after : World) (all : ObeysAll script lines before after)
      → IsWorldKept script before → (k : ℕ) → IsWorldKept script (world_at lines before after all k)
  kept_at lines before after all kept zero = kept
  kept_at lines before after all kept (suc k) =
      kept_at (other_lines lines) (second_world lines before after all) after (others_obeyed lines before after all)
      (second_kept lines before after all kept) k

  -- after all lines it is the last one
  pub world_last : (lines : List (ℕ × Command)) (before after : World) (all : ObeysAll script lines before after)
      → world_at lines before after all (length lines) ≡ after
  world_last [] before after all = all
  world_last (line ∷ lines) before after all = world_last lines all.0 after all.2
