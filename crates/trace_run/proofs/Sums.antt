-- What an audit without a fault says: the collector is the sum of what was taken.
use Rattle.std.proofs.Common.{◌≡◌, ℕ, ◌≤◌, List, length, Some, refl, sym, ap, subst}
use Rattle.std.specs.List.{slice_get}
use Rattle.trace_model.specs.Record.{Record}
use Rattle.trace_model.specs.Parcel.{Parcel}
use Rattle.trace_model.specs.Collection.{Has, Misses, Agree, IsBelow, IsSame}
use Rattle.trace_model.specs.Ring.{Core}
use Rattle.trace_model.proofs.collections.Collections.{below_more, below_below, below_both}
use Rattle.trace_model.proofs.collections.Joined.{below_agrees}
use Rattle.ring_model.specs.Reached.{IsReached}
use Rattle.world_model.specs.World.{parcel_of}
use Rattle.world_model.specs.GenuineWorlds.{IsExact}
use Rattle.world_model.proofs.Lookups.{element_at, contains_at, get_from_map}
use Rattle.world_model.proofs.Cuts.{is_cut, is_exact, page_of_one}
use Rattle.trace_run.specs.declared.ledgers.ledger.Ledger.{Ledger}
use Rattle.trace_run.specs.ledgers.Audit.{taken_of, taken_in, AreHeld, IsAudited}
use Rattle.trace_run.specs.ledgers.Order.{AreOwn}
use Rattle.trace_run.specs.ledgers.Headline.{AreOfRings, IsKept, IsUnknown, IsAuditHeadline}
use Rattle.trace_run.proofs.Flat.{of_all, in_own, in_none}

-- what holds of each parcel holds of all
each_below : (kept taken : List Parcel) → AreHeld kept taken → IsBelow taken kept
each_below kept taken held = record {
  has =
      λ cpu number r h.
      (held h.parcel (contains_at taken h.index h.parcel h.at)).has cpu number r
      record { index = 0; parcel = h.parcel; at = refl; pair = h.pair };
  misses =
      λ cpu number m.
      (held m.parcel (contains_at taken m.index m.parcel m.at)).misses cpu number
      record { index = 0; parcel = m.parcel; at = refl; missing = m.missing };
}

pub is_sum : (kept taken : List Parcel) → IsAudited kept taken → IsSame kept taken
is_sum kept taken audited =
    below_both kept taken (below_more kept taken audited.were_taken) (each_below kept taken audited.are_held)

pub are_same : (kept others taken : List Parcel) → IsAudited kept taken → IsAudited others taken → IsSame kept others
are_same kept others taken one other =
    let a = is_sum kept taken one in let b = is_sum others taken other in
    below_both kept others (below_below kept taken others a.below b.above)
    (below_below others taken kept b.below a.above)

pub taken_agree : (kept taken : List Parcel) → IsAudited kept taken → Agree kept → Agree taken
taken_agree kept taken audited agree = below_agrees taken kept (is_sum kept taken audited).above agree

-- ---- the headline

module _ (n size start : ℕ) (cores : ℕ → Core) (ledgers : List Ledger) (rings : AreOfRings n size start cores ledgers)
  where
    pub own : AreOwn ledgers
    own cpu ledger at k parcel there =
        let (t, here, is) =
        get_from_map (parcel_of cpu) (cores cpu).reader.taken k parcel
        (subst (λ (l : List Parcel). slice_get l k ≡ Some parcel) (rings cpu ledger at).1 there) in
        sym (ap (λ (p : Parcel). p.cpu) is)

    module _ (kept : List Parcel) (same : IsSame kept (taken_in ledgers)) where
      module _ (cpu : ℕ) (ledger : Ledger) (at : slice_get ledgers cpu ≡ Some ledger) where
        abbrev taken : List Parcel
        taken = taken_of ledger

        reached : IsReached n size start (cores cpu)
        reached = (rings cpu ledger at).0

        -- of this CPU, all that was taken is in its ledger
        has_own : (number : ℕ) (r : Record) → Has (taken_in ledgers) cpu number r → Has taken cpu number r
        has_own number r h =
            let (k, there) =
            element_at taken h.parcel
            (in_own ledgers own cpu ledger h.parcel at (sym h.pair.cpu_is)
            (contains_at (taken_in ledgers) h.index h.parcel h.at)) in
            record { index = k; parcel = h.parcel; at = there; pair = h.pair }

        misses_own : (number : ℕ) → Misses (taken_in ledgers) cpu number → Misses taken cpu number
        misses_own number m =
            let (k, there) =
            element_at taken m.parcel
            (in_own ledgers own cpu ledger m.parcel at (sym m.missing.cpu_is)
            (contains_at (taken_in ledgers) m.index m.parcel m.at)) in
            record { index = k; parcel = m.parcel; at = there; missing = m.missing }

        all : IsBelow taken (taken_in ledgers)
        all = below_more taken (taken_in ledgers) (λ p has. of_all ledgers cpu ledger p at has)

        exact : IsExact (cores cpu).history start
            (is_cut n size start (cores cpu) reached cpu taken (rings cpu ledger at).1).events cpu taken taken
        exact =
            is_exact n size start (cores cpu) reached cpu taken
            (λ parcel one.
            page_of_one n size start (cores cpu) reached cpu taken (rings cpu ledger at).1 parcel one.0)

        pub is_kept : IsKept n size start cpu (cores cpu) kept taken
        is_kept = record {
          cut = is_cut n size start (cores cpu) reached cpu taken (rings cpu ledger at).1;
          exact = record {
            has = λ number r. (
              λ h. (exact.has number r).0 (has_own number r (same.below.has cpu number r h)),
              λ stands. same.above.has cpu number r (all.has cpu number r ((exact.has number r).1 stands)),
            );
            misses = λ number. (
              λ m. (exact.misses number).0 (misses_own number (same.below.misses cpu number m)),
              λ over. same.above.misses cpu number (all.misses cpu number ((exact.misses number).1 over)),
            );
          };
        }

      nothing : (cpu : ℕ) → length ledgers ≤ cpu → IsUnknown cpu kept
      nothing cpu past = record {
        no_record = λ number r h. let o = same.below.has cpu number r h in
            in_none ledgers own o.parcel (subst (λ (c : ℕ). length ledgers ≤ c) o.pair.cpu_is past)
            (contains_at (taken_in ledgers) o.index o.parcel o.at);
        not_missing = λ number m. let o = same.below.misses cpu number m in
            in_none ledgers own o.parcel (subst (λ (c : ℕ). length ledgers ≤ c) o.missing.cpu_is past)
            (contains_at (taken_in ledgers) o.index o.parcel o.at);
      }

      pub headline : IsAuditHeadline n size start cores kept ledgers
      headline = record { each = is_kept; no_others = nothing }
