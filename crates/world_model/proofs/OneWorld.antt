-- A script has one world at most.
use Rattle.std.proofs.Common.{◌≡◌, ℕ, suc, ◌<◌, ◌≤◌, List, [], ◌∷◌, ◌++◌, get_or, Some, refl, sym, ap, ◌∙◌, subst}
use Rattle.std.proofs.Common.{⊎_elim, arith}
use Rattle.std.specs.Prelude.{Contains, slice_set, ◌==◌}
use Rattle.std.specs.List.{slice_get}
use Rattle.std.proofs.lemmas.Bool.{eq-eqb}
use Rattle.std.proofs.lemmas.Option.{slice_get_cases}
use Rattle.std.proofs.lemmas.List.{same_lists}
use Rattle.std.proofs.lemmas.List.Elements.{All-contains}
use mathlib.Core.Logic.{dite}
use native.Mathlib.Decide.{dec_le}
use Rattle.trace_model.specs.Ring.{TakenFill, Core, IsStart, AreFillsOf}
use Rattle.trace_model.specs.Parcel.{Parcel}
use Rattle.trace_model.proofs.collections.Elements.{some_is}
use Rattle.text_model.specs.Log.{Delivery, new_page, known_page, no_page, delivery_line}
use Rattle.text_model.specs.Script.{Command, begin_frame, step_frame, finish_frame, write, close, step_reader}
use Rattle.text_model.specs.Script.{take_page, wish, deliver, Script}
use Rattle.text_model.specs.ScriptLimits.{IsWithinLimits}
use Rattle.ring_model.proofs.partition.OneNewRing.{new_ring_is_one}
use Rattle.ring_model.proofs.partition.RingsKept.{reached_kept}
use Rattle.world_model.specs.Lanes.{Lane, IsNewLane, LineRun}
use Rattle.world_model.specs.Log.{log_of}
use Rattle.world_model.specs.World.{World, IsNewWorld, parcel_of, parcels_of, RunsLine, IsFill, Brings, DeliversTaken}
use Rattle.world_model.specs.World.{DeliversNothing, DeliversFill, delivers, lacks, Obeys, ObeysAll, WorldBehind}
use Rattle.world_model.specs.GenuineWorlds.{parcels_from}
use Rattle.world_model.proofs.Lookups.{element_at, kept_by, get_from_map}
use Rattle.world_model.proofs.LineIsOne.{line_one}
use Rattle.world_model.proofs.WorldsKept.{IsWorldKept, new_kept, obeys_kept}

-- ---- the start

same_start : (n start : ℕ) (c d : Core) → 1 ≤ n → IsStart n start c → IsStart n start d → c ≡ d
same_start n start c d some s t = let (ring, is_new, only) = new_ring_is_one n start some in only c s ∙ sym (only d t)

same_new_lane : (n start : ℕ) (a b : Lane) → 1 ≤ n → IsNewLane n start a → IsNewLane n start b → a ≡ b
same_new_lane n start a b some (s, none) (t, none') = let cores = same_start n start a.core b.core some s t in
    λ i. record { core = cores i; payloads = (none ∙ sym none') i }

same_new : (script : Script) (a b : World) → IsWithinLimits script → IsNewWorld script a → IsNewWorld script b → a ≡ b
same_new script a b limits new other =
    let some : 1 ≤ script.pages = (let pages = limits.min_pages in omega arith) in
    let lanes : a.lanes ≡ b.lanes = same_lists a.lanes b.lanes (new.cpus ∙ sym other.cpus)
    (λ k d low.
    same_new_lane script.pages script.start (get_or a.lanes k d) (get_or b.lanes k d) some (new.new k d low)
    (other.new k d (let p = new.cpus in let q = other.cpus in omega arith))) in
    let delivered : a.delivered ≡ b.delivered =
    same_lists a.delivered b.delivered (new.collectors ∙ sym other.collectors)
    (λ k d low.
    new.none_delivered k d low
    ∙ sym (other.none_delivered k d (let p = new.collectors in let q = other.collectors in omega arith))) in
    λ i.
    record {
      lanes = lanes i;
      taken = (new.none_taken ∙ sym other.none_taken) i;
      delivered = delivered i;
      log = (new.no_log ∙ sym other.no_log) i;
    }

-- ---- a parcel of a CPU and a fill

module _ (script : Script) (w : World) (kept : IsWorldKept script w) where
  -- a parcel that was taken is a page that the reader of its CPU took
  pub record IsTakenBy (parcel : Parcel) (cpu : ℕ) (lane : Lane) : Type 0 where
    pub index : ℕ
    pub page : TakenFill
    pub in_place : slice_get (parcels_from cpu w.taken) index ≡ Some parcel
    pub page_at : slice_get lane.core.reader.taken index ≡ Some page
    pub parcel_is : parcel_of cpu page ≡ parcel

  pub taken_by_reader : (cpu : ℕ) (lane : Lane) (parcel : Parcel) → slice_get w.lanes cpu ≡ Some lane → parcel.cpu ≡ cpu
      → Contains w.taken parcel → IsTakenBy parcel cpu lane
  taken_by_reader cpu lane parcel at is has =
      let (k, there) = element_at w.taken parcel has in
      let (j, place) = kept_by (λ p. p.cpu == cpu) w.taken k parcel there (eq-eqb parcel.cpu cpu is) in
      let (page, page_at, same) =
      get_from_map (parcel_of cpu) lane.core.reader.taken j parcel
      (subst (λ (l : List Parcel). slice_get l j ≡ Some parcel) (kept.taken cpu lane at) place) in
      record { index = j; page = page; in_place = place; page_at = page_at; parcel_is = same }

  pub lane_of : (cpu : ℕ) → cpu < script.cpus → (lane : Lane) × (slice_get w.lanes cpu ≡ Some lane)
  lane_of cpu low =
      ⊎_elim (λ (lane, within, at, is). (lane, at))
      (λ (past, none). let count = kept.cpus in absurd (let no : ⊥ = omega arith in no))
      (slice_get_cases w.lanes cpu).1

  one_fill : (start : ℕ) (c : Core) (j k : ℕ) (t u : TakenFill) → AreFillsOf start c.history c.reader.taken
      → slice_get c.reader.taken j ≡ Some t → slice_get c.reader.taken k ≡ Some u → t.fill ≡ u.fill → t ≡ u
  one_fill start c j k t u fills at_j at_k same = dite (dec_le (suc j) k)
      (λ low. absurd (let less = fills.rising j k t u low at_j at_k in let no : ⊥ = omega arith in no))
      (λ high. dite (dec_le (suc k) j)
      (λ low. absurd (let less = fills.rising k j u t low at_k at_j in let no : ⊥ = omega arith in no))
      (λ high'. let e : j ≡ k = omega arith in some_is t u (sym at_j ∙ ap (slice_get c.reader.taken) e ∙ at_k)))

  one_parcel : (cpu fill : ℕ) (p q : Parcel) → Contains w.taken p → Contains w.taken q → IsFill cpu fill p
      → IsFill cpu fill q → p ≡ q
  one_parcel cpu fill p q has has' is is' =
      let (lane, at) = lane_of cpu (let low = kept.of_a_cpu p has in let e = is.0 in omega arith) in
      let a = taken_by_reader cpu lane p at is.0 has in let b = taken_by_reader cpu lane q at is'.0 has' in
      let fills =
      (reached_kept script.pages script.size script.start lane.core (kept.reached cpu lane at)).partition.fills in
      let one = one_fill script.start lane.core a.index b.index a.page b.page fills a.page_at b.page_at
      (ap (λ (x : Parcel). x.fill) a.parcel_is ∙ is.1 ∙ sym is'.1 ∙ ap (λ (x : Parcel). x.fill) (sym b.parcel_is)) in
      sym a.parcel_is ∙ ap (parcel_of cpu) one ∙ b.parcel_is

-- ---- a line

one_line : (script : Script) (line : ℕ) (command : Command) (cpu : ℕ) (before one other : World)
    → RunsLine script line command cpu before one → RunsLine script line command cpu before other → one ≡ other
one_line script line command cpu before one other r s =
    let lane : s.lane ≡ r.lane = some_is s.lane r.lane (sym s.lane_is ∙ r.lane_is) in
    let (exchanges, next) =
    line_one script.pages script.size command r.lane r.next s.next r.exchanges s.exchanges r.run
    (subst (λ (l : Lane). LineRun script.pages script.size command l s.exchanges s.next) lane s.run) in
    r.after_is
    ∙ (λ i. record {
      lanes = slice_set before.lanes cpu (next i);
      taken = before.taken ++ parcels_of cpu (exchanges i);
      delivered = before.delivered;
      log = before.log ++ log_of line cpu (exchanges i);
    })
    ∙ sym s.after_is

-- what a delivery brings is one
one_delivery : (earlier : List Parcel) (parcel : Parcel) (a b : Delivery) → Brings earlier parcel a
    → Brings earlier parcel b → a ≡ b
one_delivery earlier parcel new_page new_page x y = refl
one_delivery earlier parcel new_page known_page x y = absurd (x y)
one_delivery earlier parcel new_page no_page x y = absurd y
one_delivery earlier parcel known_page new_page x y = absurd (y x)
one_delivery earlier parcel known_page known_page x y = refl
one_delivery earlier parcel known_page no_page x y = absurd y
one_delivery earlier parcel no_page b x y = absurd x

module _ (script : Script) (line collector cpu fill : ℕ) (before one other : World) (kept : IsWorldKept script before)
  where
    one_taken : DeliversTaken line collector cpu fill before one → DeliversTaken line collector cpu fill before other
        → one ≡ other
    one_taken d e =
        let parcel : d.parcel ≡ e.parcel =
        one_parcel script before kept cpu fill d.parcel e.parcel d.was_taken e.was_taken d.fill_is e.fill_is in
        let earlier : e.earlier ≡ d.earlier = some_is e.earlier d.earlier (sym e.earlier_are ∙ d.earlier_are) in
        let brings : Brings d.earlier d.parcel e.delivery =
        subst (λ (p : Parcel). Brings d.earlier p e.delivery) (sym parcel)
        (subst (λ (l : List Parcel). Brings l e.parcel e.delivery) earlier e.brings) in
        let delivery = one_delivery d.earlier d.parcel d.delivery e.delivery d.brings brings in
        d.after_is
        ∙ (λ i. record before {
          delivered = slice_set before.delivered collector (sym earlier i ++ parcel i ∷ []);
          log = before.log ++ delivery_line line collector cpu fill (delivery i) ∷ [];
        })
        ∙ sym e.after_is

    not_both : DeliversTaken line collector cpu fill before one → DeliversNothing line collector cpu fill before other
        → ⊥
    not_both d e =
        All-contains (λ parcel. IsFill cpu fill parcel → ⊥) before.taken d.parcel e.not_taken d.was_taken d.fill_is

one_filled : (script : Script) (line collector cpu fill : ℕ) (before one other : World) → IsWorldKept script before
    → DeliversFill line collector cpu fill before one → DeliversFill line collector cpu fill before other → one ≡ other
one_filled script line collector cpu fill before one other kept (delivers d) (delivers e) =
    one_taken script line collector cpu fill before one other kept d e
one_filled script line collector cpu fill before one other kept (delivers d) (lacks e) =
    absurd (not_both script line collector cpu fill before one other kept d e)
one_filled script line collector cpu fill before one other kept (lacks d) (delivers e) =
    absurd (not_both script line collector cpu fill before other one kept e d)
one_filled script line collector cpu fill before one other kept (lacks d) (lacks e) = d.after_is ∙ sym e.after_is

-- ---- the whole

obeys_one : (script : Script) (line : ℕ) (command : Command) (before one other : World) → IsWorldKept script before
    → Obeys script line command before one → Obeys script line command before other → one ≡ other
obeys_one script line (begin_frame cpu moment payload) before one other kept r s =
    one_line script line _ cpu before one other r s
obeys_one script line (step_frame cpu count) before one other kept r s = one_line script line _ cpu before one other r s
obeys_one script line (finish_frame cpu) before one other kept r s = one_line script line _ cpu before one other r s
obeys_one script line (write cpu moment payload) before one other kept r s =
    one_line script line _ cpu before one other r s
obeys_one script line (close cpu) before one other kept r s = one_line script line _ cpu before one other r s
obeys_one script line (step_reader cpu count) before one other kept r s =
    one_line script line _ cpu before one other r s
obeys_one script line (take_page cpu) before one other kept r s = one_line script line _ cpu before one other r s
obeys_one script line (wish cpu) before one other kept r s = one_line script line _ cpu before one other r s
obeys_one script line (deliver collector cpu fill) before one other kept r s =
    one_filled script line collector cpu fill before one other kept r s

obeys_all_one : (script : Script) (lines : List (ℕ × Command)) (before one other : World) → IsWorldKept script before
    → ObeysAll script lines before one → ObeysAll script lines before other → one ≡ other
obeys_all_one script [] before one other kept all all' = sym all ∙ all'
obeys_all_one script (line ∷ lines) before one other kept (between, obeys, all) (between', obeys', all') =
    let same = obeys_one script line.0 line.1 before between between' kept obeys obeys' in
    obeys_all_one script lines between one other (obeys_kept script line.0 line.1 before between kept obeys) all
    (subst (λ (b : World). ObeysAll script lines b other) (sym same) all')

pub one_world : (script : Script) (lines : List (ℕ × Command)) (one other : World) → IsWithinLimits script
    → WorldBehind script lines one → WorldBehind script lines other → one ≡ other
one_world script lines one other limits a b =
    let same = same_new script a.new b.new limits a.is_new b.is_new in
    obeys_all_one script lines a.new one other (new_kept script a.new limits a.is_new) a.obeyed
    (subst (λ (w : World). ObeysAll script lines w other) (sym same) b.obeyed)

-- one line more is obeyed
obeys_more : (script : Script) (lines : List (ℕ × Command)) (line : ℕ) (command : Command) (new w after : World)
    → ObeysAll script lines new w → Obeys script line command w after
    → ObeysAll script (lines ++ (line, command) ∷ []) new after
obeys_more script [] line command new w after all obeys =
    (after, subst (λ (v : World). Obeys script line command v after) (sym all) obeys, refl)
obeys_more script (first ∷ lines) line command new w after (between, one, all) obeys =
    (between, one, obeys_more script lines line command between w after all obeys)

pub behind_next : (script : Script) (lines : List (ℕ × Command)) (line : ℕ) (command : Command) (w after : World)
    → WorldBehind script lines w → Obeys script line command w after
    → WorldBehind script (lines ++ (line, command) ∷ []) after
behind_next script lines line command w after b obeys =
    record {
      new = b.new;
      is_new = b.is_new;
      obeyed = obeys_more script lines line command b.new w after b.obeyed obeys;
    }
