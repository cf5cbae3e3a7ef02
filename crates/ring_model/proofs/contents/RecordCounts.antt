-- How many records a ring's run can reserve.
use Rattle.std.proofs.Common.{◌≡◌, ℕ, ◌-◌, ◌*◌, ◌^◌, ◌<◌, ◌≤◌, List, length, flat_map, subst, arith}
use Rattle.trace_model.specs.declared.limits.TheConstants.{MAX_SIZE}
use Rattle.trace_model.specs.History.{Reservation, reserved_records}
use Rattle.trace_model.specs.Packing.{opens_of, fills_of}
use Rattle.trace_model.specs.Ring.{Core}
use Rattle.trace_model.proofs.packing.FillCuts.{length-cut_from}
use Rattle.trace_model.proofs.packing.FillsJoined.{joined_all}
use Rattle.trace_model.proofs.packing.FillSizes.{fills_hold}
use Rattle.ring_model.specs.RingKept.{IsRingKept}
use Rattle.ring_model.proofs.contents.PackedRuns.{runs_packed}

module _ (n size start : ℕ) (c : Core) (kept : IsRingKept n size start c) where
  joined : flat_map (λ fill. fill) (fills_of c.history) ≡ reserved_records c.history
  joined = joined_all 0 (opens_of c.history) (reserved_records c.history) kept.contents.rising

  begun : length (fills_of c.history) ≡ c.opened - start
  begun = let count = kept.contents.begun in
      omega (arith, length-cut_from 0 (opens_of c.history) (reserved_records c.history))

  few_for : (room : ℕ) → size ≤ room → 8 * length (reserved_records c.history) ≤ room * (c.opened - start)
  few_for room le = subst (λ (k : ℕ). 8 * length (reserved_records c.history) ≤ room * k) begun
      (subst (λ (l : List Reservation). 8 * length l ≤ room * length (fills_of c.history)) joined
      (fills_hold room (fills_of c.history)
      (λ k low. let fits = (runs_packed n size start c kept).rooms k low in omega arith)))

  pub records_few : 8 * length (reserved_records c.history) ≤ size * (c.opened - start)
  records_few = few_for size (omega arith)

  pub numbers_fit : size ≤ MAX_SIZE → length (reserved_records c.history) < 2 ^ 61
  numbers_fit le = let few = few_for MAX_SIZE le in let last = kept.links.fits in omega arith
