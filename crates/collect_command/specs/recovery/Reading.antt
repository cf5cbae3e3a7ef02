-- How inputs are read: each whole, as a region.
use Rattle.std.specs.Prelude.{◌≡◌, ◌≢◌, ◌≤◌, ℕ, Bool, true, false, List, [], ◌∷◌, ◌++◌, length, Option, ⊤}
use Rattle.std.specs.Io.KnownBytes.{Consumes, IsAtEnd}
use Rattle.command_io.specs.CommandRun.{TakesAtMost, TakesMoreThan}
use Rattle.trace_model.specs.declared.limits.TheConstants.{MAX_INPUT}
use Rattle.ring_region.specs.Headers.{IsRegionFault}
use Rattle.ring_region.specs.Regions.{IsRegion}
use Rattle.ring_region.specs.Answers.{region_seen}
use Rattle.ring_region.specs.declared.regions.Region.{Region}
use Rattle.ring_region.specs.declared.faults.RegionFault.TheVariants.{NoMemory as IsNoFault}
use Rattle.collect_command.specs.declared.recovery.read.Unread.{Unread}
use Rattle.collect_command.specs.declared.recovery.read.Unread.TheVariants.{Read, TooLong, Fault, NoMemory}
use Rattle.collect_command.specs.declared.recovery.read.Stopped.{Stopped}

module _ {R : Type 0} (remaining : R → Option (List ℕ)) (count : R → ℕ) (has_failed : R → Bool) where
  -- An input was read to its end, and it has these bytes.
  pub record IsWhole (old new : R) (bytes : List ℕ) : Type 0 where
    pub taken : Consumes (remaining old) (remaining new) bytes
    pub end : IsAtEnd (remaining new)
    pub short : length bytes ≤ MAX_INPUT
    pub sound : has_failed new ≡ false

  -- An input was read to its end, and it is this region.
  pub record ReadsRegion (old new : R) (region : Region) : Type 0 where
    pub bytes : List ℕ
    pub whole : IsWhole old new bytes
    pub is_region : IsRegion bytes (region_seen region)

  -- each of them was, and they are these regions
  abbrev pub AreRead : (old new : List R) → List Region → Type 0
  AreRead [] [] [] = ⊤
  AreRead (old ∷ olds) (new ∷ news) (region ∷ regions) = ReadsRegion old new region × AreRead olds news regions
  AreRead [] [] (region ∷ regions) = ⊥
  AreRead [] (new ∷ news) regions = ⊥
  AreRead (old ∷ olds) [] regions = ⊥
  AreRead (old ∷ olds) (new ∷ news) [] = ⊥

  -- Why an input gives no region: a read failed; more was read than may be; its bytes, all of which were read, have
  -- this first fault; or memory was refused, and no more was read than may be.
  abbrev pub IsWhy : (old new : R) → Unread → Type 0
  IsWhy old new Read = has_failed new ≡ true
  IsWhy old new TooLong = TakesMoreThan MAX_INPUT (remaining old) (remaining new) (count new)
  IsWhy old new (Fault fault) =
      (fault ≢ IsNoFault) × ((bytes : List ℕ) × IsWhole old new bytes × IsRegionFault bytes fault)
  IsWhy old new NoMemory = TakesAtMost MAX_INPUT (remaining old) (remaining new)

  -- An input gives no region: those before it are regions, and those after it are untouched.
  pub record StopsReading (old new : List R) (stopped : Stopped) : Type 0 where
    pub front : List R
    pub front_new : List R
    pub this : R
    pub this_new : R
    pub behind : List R
    pub old_is : old ≡ front ++ this ∷ behind
    pub new_is : new ≡ front_new ++ this_new ∷ behind
    pub input_is : stopped.input ≡ length front
    pub regions : List Region
    pub are_read : AreRead front front_new regions
    pub why : IsWhy this this_new stopped.why
