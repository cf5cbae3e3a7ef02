-- The numbers below bounds are noted, run by run.
use Rattle.std.proofs.Common.{◌≡◌, ◌↔◌, ◌⊎◌, inl, inr, ⊎_elim, ℕ, ◌+◌, ◌<◌, ◌≤◌, min, List, [], ◌∷◌, ◌++◌, length}
use Rattle.std.proofs.Common.{map, take, get_or, refl, sym, ap, ◌∙◌, subst, arith}
use Rattle.std.proofs.lemmas.Bool.{cases_eq}
use Rattle.std.proofs.lemmas.List.{map-append, take_more}
use Rattle.std.proofs.lemmas.Option.{none-some}
use Rattle.trace_model.specs.Collection.{Misses}
use Rattle.trace_model.proofs.collections.Elements.{get_in_front, get_behind, get_in_either}
use Rattle.stream_collector.specs.Stream.{Stream, bound_of}
use Rattle.stream_collector.specs.GivenUp.{GivesUp, AllGivenUp, IsInRun}
use Rattle.stream_collector.specs.declared.added.Marked.{Marked}
use Rattle.stream_collector.specs.declared.added.Marked.TheVariants.{New, Known}
use Rattle.fleet_collector.specs.Fleet.{stream_at, or_empty, KeepsOthers}
use Rattle.fleet_text.specs.Cpus.{IsAmong}
use Rattle.fleet_text.specs.declared.run.FleetRun.{FleetRun}
use Rattle.fleet_text.specs.Runs.{Run, run_seen}
use Rattle.fleet_text.specs.Hidden.{IsBelowBound, NotesOne, IsNoted}
use Rattle.fleet_text.proofs.CpuSets.{only}

-- ---- one run

record IsOfRun (run : Run) (fleet : List (ℕ × Stream)) (s c n : ℕ) : Type 0 where
  stream_is : s ≡ run.stream
  cpu_is : c ≡ run.cpu
  from : run.first ≤ n
  to : n ≤ run.last
  below : n < bound_of (stream_at fleet run.stream) run.cpu

of_run : (run : Run) (fleet : List (ℕ × Stream)) (s c n : ℕ) → IsBelowBound (run ∷ []) fleet s c n
    → IsOfRun run fleet s c n
of_run run fleet s c n h =
    let is : run ≡ h.in_run.run = only run h.in_run.among.0 h.in_run.run h.in_run.among.1 in
    let stream_is : s ≡ run.stream = sym h.in_run.stream_is ∙ sym (ap (λ (r : Run). r.stream) is) in
    let cpu_is : c ≡ run.cpu = sym h.in_run.cpu_is ∙ sym (ap (λ (r : Run). r.cpu) is) in
    record {
      stream_is = stream_is;
      cpu_is = cpu_is;
      from = subst (λ (r : Run). r.first ≤ n) (sym is) h.in_run.from;
      to = subst (λ (r : Run). n ≤ r.last) (sym is) h.in_run.to;
      below = subst (λ (q : ℕ). n < bound_of (stream_at fleet run.stream) q) cpu_is
          (subst (λ (q : ℕ). n < bound_of (stream_at fleet q) c) stream_is h.below);
    }

is_below : (run : Run) (fleet : List (ℕ × Stream)) (s c n : ℕ) → IsOfRun run fleet s c n
    → IsBelowBound (run ∷ []) fleet s c n
is_below run fleet s c n h = record {
  in_run = record {
    run = run;
    among = (0, refl);
    stream_is = sym h.stream_is;
    cpu_is = sym h.cpu_is;
    from = h.from;
    to = h.to;
  };
  below = subst (λ (q : ℕ). n < bound_of (stream_at fleet q) c) (sym h.stream_is)
      (subst (λ (q : ℕ). n < bound_of (stream_at fleet run.stream) q) (sym h.cpu_is) h.below);
}

-- its numbers are noted up to its end, or up to the bound
pub one_noted : (run : Run) (fleet old new : List (ℕ × Stream)) (bound end : ℕ) (marked : Marked)
    → bound ≡ bound_of (stream_at fleet run.stream) run.cpu
    → end ≡ min (run.last + 1) bound
    → (marked ≡ Known → new ≡ old)
    → KeepsOthers old new run.stream
    → (marked ≡ Known → AllGivenUp (stream_at old run.stream).given_up run.cpu run.first end)
    → (marked ≡ New
    → GivesUp (stream_at old run.stream).given_up (stream_at new run.stream).given_up run.cpu run.first end)
    → (stream_at new run.stream).parcels ≡ (stream_at old run.stream).parcels
    → NotesOne run fleet old new
one_noted run fleet old new bound end Known is end_is unchanged others known given_up parcels = record {
  noted = λ s c n. (
    λ m. inl (subst (λ (f : List (ℕ × Stream)). Misses (stream_at f s).given_up c n) (unchanged refl) m),
    λ either. subst (λ (f : List (ℕ × Stream)). Misses (stream_at f s).given_up c n) (sym (unchanged refl))
        (⊎_elim (λ m. m)
        (λ b. let o = of_run run fleet s c n b in
        let to = o.to in
        let below = o.below in
        subst (λ (q : ℕ). Misses (stream_at old q).given_up c n) (sym o.stream_is)
        (subst (λ (q : ℕ). Misses (stream_at old run.stream).given_up q n) (sym o.cpu_is)
        (known refl n o.from (omega arith))))
        either),
  );
  parcels = λ s. ap (λ (f : List (ℕ × Stream)). (stream_at f s).parcels) (unchanged refl);
}
one_noted run fleet old new bound end New is end_is unchanged others known given_up parcels = record {
  noted = λ s c n. ⊎_elim
      (λ (here : s ≡ run.stream).
      subst (λ (q : ℕ). Misses (stream_at new q).given_up c n
      ↔ (Misses (stream_at old q).given_up c n ⊎ IsBelowBound (run ∷ []) fleet q c n)) (sym here) (at_run c n))
      (λ (apart : s ≡ run.stream → ⊥).
      let same : stream_at new s ≡ stream_at old s = ap or_empty (others s apart) in (
        λ m. inl (subst (λ (k : Stream). Misses k.given_up c n) same m),
        λ either. subst (λ (k : Stream). Misses k.given_up c n) (sym same)
            (⊎_elim (λ m. m) (λ b. absurd (apart (of_run run fleet s c n b).stream_is)) either),
      ))
      (cases_eq s run.stream);
  parcels = λ s. ⊎_elim
      (λ (here : s ≡ run.stream).
      subst (λ (q : ℕ). (stream_at new q).parcels ≡ (stream_at old q).parcels) (sym here) parcels)
      (λ (apart : s ≡ run.stream → ⊥). ap (λ o. (or_empty o).parcels) (others s apart))
      (cases_eq s run.stream);
}
  where
    at_run : (c n : ℕ) → (Misses (stream_at new run.stream).given_up c n
        ↔ (Misses (stream_at old run.stream).given_up c n ⊎ IsBelowBound (run ∷ []) fleet run.stream c n))
    at_run c n = (
      λ m. ⊎_elim (λ was. inl was)
          (λ (r : IsInRun run.cpu run.first end c n).
          let from = r.from in
          let below = r.below in
          inr (is_below run fleet run.stream c n record {
            stream_is = refl;
            cpu_is = r.cpu_is;
            from = r.from;
            to = omega arith;
            below = omega arith;
          }))
          ((given_up refl c n).0 m),
      λ either. (given_up refl c n).1 (⊎_elim (λ was. inl was)
          (λ b. let o = of_run run fleet run.stream c n b in
          let to = o.to in
          let below = o.below in
          inr record { cpu_is = o.cpu_is; from = o.from; below = omega arith })
          either),
    )

-- ---- all runs

pub none_yet : (fleet : List (ℕ × Stream)) → IsNoted [] fleet []
none_yet fleet = record {
  exactly = λ s c n. (
    λ m. absurd (none-some m.parcel m.at),
    λ b. absurd (none-some b.in_run.run b.in_run.among.1),
  );
  no_parcels = λ s. refl;
}

pub noted_more : (runs : List Run) (run : Run) (fleet old new : List (ℕ × Stream)) → IsNoted runs fleet old
    → NotesOne run fleet old new → IsNoted (runs ++ run ∷ []) fleet new
noted_more runs run fleet old new was one = record {
  exactly = λ s c n. (
    λ m. ⊎_elim
        (λ before. let b = (was.exactly s c n).0 before in
        let r = b.in_run in
        record {
          in_run = record {
            run = r.run;
            among = (r.among.0, get_in_front runs (run ∷ []) r.among.0 r.run r.among.1);
            stream_is = r.stream_is;
            cpu_is = r.cpu_is;
            from = r.from;
            to = r.to;
          };
          below = b.below;
        })
        (λ (b : IsBelowBound (run ∷ []) fleet s c n). let r = b.in_run in
        record {
          in_run = record {
            run = r.run;
            among = (length runs + r.among.0, get_behind runs (run ∷ []) r.among.0 ∙ r.among.1);
            stream_is = r.stream_is;
            cpu_is = r.cpu_is;
            from = r.from;
            to = r.to;
          };
          below = b.below;
        })
        ((one.noted s c n).0 m),
    λ b. let r = b.in_run in
        (one.noted s c n).1 (⊎_elim
        (λ (front : IsAmong runs r.run). inl ((was.exactly s c n).1 record {
          in_run = record {
            run = r.run;
            among = front;
            stream_is = r.stream_is;
            cpu_is = r.cpu_is;
            from = r.from;
            to = r.to;
          };
          below = b.below;
        }))
        (λ (back : IsAmong (run ∷ []) r.run). inr record {
          in_run = record {
            run = r.run;
            among = back;
            stream_is = r.stream_is;
            cpu_is = r.cpu_is;
            from = r.from;
            to = r.to;
          };
          below = b.below;
        })
        (get_in_either runs (run ∷ []) r.among.0 r.run r.among.1)),
  );
  no_parcels = λ s. one.parcels s ∙ was.no_parcels s;
}

-- the next run of a list
pub noted_next : (runs : List FleetRun) (n : ℕ) (none : FleetRun) (fleet old new : List (ℕ × Stream))
    → n < length runs → IsNoted (map run_seen (take n runs)) fleet old
    → NotesOne (run_seen (get_or runs n none)) fleet old new → IsNoted (map run_seen (take (n + 1) runs)) fleet new
noted_next runs n none fleet old new within was one =
    let run = get_or runs n none in
    let more : take (n + 1) runs ≡ take n runs ++ run ∷ [] = take_more runs n none within in
    subst (λ (rs : List Run). IsNoted rs fleet new)
    (sym (ap (λ (rs : List FleetRun). map run_seen rs) more ∙ map-append run_seen (take n runs) (run ∷ [])))
    (noted_more (map run_seen (take n runs)) (run_seen run) fleet old new was one)
