-- What was delivered to a collector is what lines of the script deliver, of the pages that were taken by then.
use Rattle.std.proofs.Common.{◌≡◌, ℕ, zero, suc, ◌⊎◌, List, [], ◌∷◌, ◌++◌, Some, refl, sym, ap, ◌∙◌, subst, inl, inr}
use Rattle.std.proofs.Common.{⊎_elim, arith}
use Rattle.std.specs.Prelude.{Contains, slice_set}
use Rattle.std.specs.List.{slice_get}
use Rattle.std.proofs.lemmas.Option.{none-some, slice_get_within, get_or_from_slice_get}
use Rattle.std.proofs.lemmas.List.Elements.{Contains-append_left, Contains-push_cases}
use mathlib.Core.Logic.{dite}
use native.Mathlib.Decide.{ℕ_discrete}
use Rattle.trace_model.specs.Parcel.{Parcel}
use Rattle.trace_model.proofs.collections.Elements.{some_is}
use Rattle.text_model.specs.Script.{Command, begin_frame, step_frame, finish_frame, write, close, step_reader}
use Rattle.text_model.specs.Script.{take_page, wish, deliver, Script}
use Rattle.world_model.specs.World.{World, RunsLine, IsFill, DeliversFill, delivers, lacks, Obeys, ObeysAll, WorldOf}
use Rattle.world_model.proofs.Lookups.{element_at, contains_at, get_set_here, get_set_other}
use Rattle.world_model.proofs.WorldsAt.{world_at}

-- the parcel was delivered to this collector
abbrev pub HasGot : World → (collector : ℕ) → Parcel → Type 0
HasGot w collector parcel =
    (parcels : List Parcel) × (slice_get w.delivered collector ≡ Some parcels) × Contains parcels parcel

-- the command delivers it, and it was taken
abbrev Hands : World → Command → (collector : ℕ) → Parcel → Type 0
Hands w command collector parcel = (command ≡ deliver collector parcel.cpu parcel.fill) × Contains w.taken parcel

-- the last element of a list is in the list
has_last : (earlier : List Parcel) (parcel : Parcel) → Contains (earlier ++ parcel ∷ []) parcel
has_last [] parcel = contains_at (parcel ∷ []) 0 parcel refl
has_last (first ∷ earlier) parcel =
    let (k, at) =
    element_at (earlier ++ parcel ∷ []) parcel (has_last earlier parcel) in
    contains_at (first ∷ earlier ++ parcel ∷ []) (suc k) parcel at

module _ (script : Script) (line : ℕ) where
  by_ring : (command : Command) (cpu : ℕ) (before after : World) (collector : ℕ) (parcel : Parcel)
      → RunsLine script line command cpu before after → HasGot after collector parcel → HasGot before collector parcel
  by_ring command cpu before after collector parcel r (parcels, at, has) =
      (parcels, ap (λ (w : World). slice_get w.delivered collector) (sym r.after_is) ∙ at, has)

  by_delivery : (to cpu fill : ℕ) (before after : World) (collector : ℕ) (parcel : Parcel)
      → DeliversFill line to cpu fill before after → HasGot after collector parcel
      → HasGot before collector parcel ⊎ Hands before (deliver to cpu fill) collector parcel
  by_delivery to cpu fill before after collector parcel (lacks d) (parcels, at, has) =
      inl (parcels, ap (λ (w : World). slice_get w.delivered collector) (sym d.after_is) ∙ at, has)
  by_delivery to cpu fill before after collector parcel (delivers d) (parcels, at, has) = dite (ℕ_discrete collector to)
      (λ e. let now =
      sym (get_set_here before.delivered to (d.earlier ++ d.parcel ∷ [])
      (slice_get_within before.delivered to d.earlier d.earlier_are))
      ∙ subst (λ (j : ℕ). slice_get (slice_set before.delivered to (d.earlier ++ d.parcel ∷ [])) j ≡ Some parcels)
      e there in
      ⊎_elim
      (λ old.
      inl (d.earlier, subst (λ (j : ℕ). slice_get before.delivered j ≡ Some d.earlier) (sym e) d.earlier_are, old))
      (λ is. inr (commands e is, subst (Contains before.taken) is d.was_taken))
      (Contains-push_cases d.earlier d.parcel parcel
      (subst (λ (l : List Parcel). Contains l parcel) (sym (some_is (d.earlier ++ d.parcel ∷ []) parcels now)) has)))
      (λ apart.
      inl (
        parcels,
        sym (get_set_other before.delivered to collector (d.earlier ++ d.parcel ∷ []) apart) ∙ there,
        has,
      ))
    where
      there : slice_get (slice_set before.delivered to (d.earlier ++ d.parcel ∷ [])) collector ≡ Some parcels
      there = ap (λ (w : World). slice_get w.delivered collector) (sym d.after_is) ∙ at

      commands : collector ≡ to → d.parcel ≡ parcel → deliver to cpu fill ≡ deliver collector parcel.cpu parcel.fill
      commands e is =
          λ i.
          deliver (sym e i) ((sym d.fill_is.0 ∙ ap (λ (p : Parcel). p.cpu) is) i)
          ((sym d.fill_is.1 ∙ ap (λ (p : Parcel). p.fill) is) i)

  by_line : (command : Command) (before after : World) (collector : ℕ) (parcel : Parcel)
      → Obeys script line command before after → HasGot after collector parcel
      → HasGot before collector parcel ⊎ Hands before command collector parcel
  by_line (begin_frame cpu moment payload) before after collector parcel r got =
      inl (by_ring _ cpu before after collector parcel r got)
  by_line (step_frame cpu count) before after collector parcel r got =
      inl (by_ring _ cpu before after collector parcel r got)
  by_line (finish_frame cpu) before after collector parcel r got =
      inl (by_ring _ cpu before after collector parcel r got)
  by_line (write cpu moment payload) before after collector parcel r got =
      inl (by_ring _ cpu before after collector parcel r got)
  by_line (close cpu) before after collector parcel r got = inl (by_ring _ cpu before after collector parcel r got)
  by_line (step_reader cpu count) before after collector parcel r got =
      inl (by_ring _ cpu before after collector parcel r got)
  by_line (take_page cpu) before after collector parcel r got = inl (by_ring _ cpu before after collector parcel r got)
  by_line (wish cpu) before after collector parcel r got = inl (by_ring _ cpu before after collector parcel r got)
  by_line (deliver to cpu fill) before after collector parcel r got =
      by_delivery to cpu fill before after collector parcel r got

  -- ---- what was delivered stays

  keeps_ring : (command : Command) (cpu : ℕ) (before after : World) (collector : ℕ) (parcel : Parcel)
      → RunsLine script line command cpu before after → HasGot before collector parcel → HasGot after collector parcel
  keeps_ring command cpu before after collector parcel r (parcels, at, has) =
      (parcels, ap (λ (w : World). slice_get w.delivered collector) r.after_is ∙ at, has)

  keeps_delivery : (to cpu fill : ℕ) (before after : World) (collector : ℕ) (parcel : Parcel)
      → DeliversFill line to cpu fill before after → HasGot before collector parcel → HasGot after collector parcel
  keeps_delivery to cpu fill before after collector parcel (lacks d) (parcels, at, has) =
      (parcels, ap (λ (w : World). slice_get w.delivered collector) d.after_is ∙ at, has)
  keeps_delivery to cpu fill before after collector parcel (delivers d) (parcels, at, has) =
      dite (ℕ_discrete collector to)
      (λ e. let same : parcels ≡ d.earlier =
      some_is parcels d.earlier (sym at ∙ ap (slice_get before.delivered) e ∙ d.earlier_are) in (
        d.earlier ++ d.parcel ∷ [],
        ap (λ (w : World). slice_get w.delivered collector) d.after_is
            ∙ ap (slice_get (slice_set before.delivered to (d.earlier ++ d.parcel ∷ []))) e
            ∙ get_set_here before.delivered to (d.earlier ++ d.parcel ∷ [])
            (slice_get_within before.delivered to d.earlier d.earlier_are),
        Contains-append_left d.earlier (d.parcel ∷ []) parcel (subst (λ (l : List Parcel). Contains l parcel) same has),
      ))
      (λ apart. (
        parcels,
        ap (λ (w : World). slice_get w.delivered collector) d.after_is
            ∙ get_set_other before.delivered to collector (d.earlier ++ d.parcel ∷ []) apart ∙ at,
        has,
      ))

  keeps_line : (command : Command) (before after : World) (collector : ℕ) (parcel : Parcel)
      → Obeys script line command before after → HasGot before collector parcel → HasGot after collector parcel
  keeps_line (begin_frame cpu moment payload) before after collector parcel r got =
      keeps_ring _ cpu before after collector parcel r got
  keeps_line (step_frame cpu count) before after collector parcel r got =
      keeps_ring _ cpu before after collector parcel r got
  keeps_line (finish_frame cpu) before after collector parcel r got =
      keeps_ring _ cpu before after collector parcel r got
  keeps_line (write cpu moment payload) before after collector parcel r got =
      keeps_ring _ cpu before after collector parcel r got
  keeps_line (close cpu) before after collector parcel r got = keeps_ring _ cpu before after collector parcel r got
  keeps_line (step_reader cpu count) before after collector parcel r got =
      keeps_ring _ cpu before after collector parcel r got
  keeps_line (take_page cpu) before after collector parcel r got = keeps_ring _ cpu before after collector parcel r got
  keeps_line (wish cpu) before after collector parcel r got = keeps_ring _ cpu before after collector parcel r got
  keeps_line (deliver to cpu fill) before after collector parcel r got =
      keeps_delivery to cpu fill before after collector parcel r got

  -- a fill that was taken is handed over
  hands : (collector cpu fill : ℕ) (before after : World) (parcel : Parcel)
      → DeliversFill line collector cpu fill before after → Contains before.taken parcel → IsFill cpu fill parcel
      → (other : Parcel) × IsFill cpu fill other × HasGot after collector other
  hands collector cpu fill before after parcel (lacks d) has is = let (k, at) = element_at before.taken parcel has in
      absurd (d.not_taken k parcel (slice_get_within before.taken k parcel at)
      (subst (IsFill cpu fill) (sym (get_or_from_slice_get before.taken k parcel parcel at)) is))
  hands collector cpu fill before after parcel (delivers d) has is = (
    d.parcel,
    d.fill_is,
    (
      d.earlier ++ d.parcel ∷ [],
      ap (λ (w : World). slice_get w.delivered collector) d.after_is
          ∙ get_set_here before.delivered collector (d.earlier ++ d.parcel ∷ [])
          (slice_get_within before.delivered collector d.earlier d.earlier_are),
      has_last d.earlier d.parcel,
    ),
  )

module _ (script : Script) where
  -- a line delivers it, and it was taken before that
  abbrev pub IsHanded : (lines : List (ℕ × Command)) (before after : World) → ObeysAll script lines before after
      → (collector : ℕ) → Parcel → Type 0
  IsHanded lines before after all collector parcel = (k line : ℕ)
      × (slice_get lines k ≡ Some (line, deliver collector parcel.cpu parcel.fill))
      × Contains (world_at script lines before after all k).taken parcel

  by_lines : (lines : List (ℕ × Command)) (before after : World) (all : ObeysAll script lines before after)
      (collector : ℕ) (parcel : Parcel) → HasGot after collector parcel
      → HasGot before collector parcel ⊎ IsHanded lines before after all collector parcel
  by_lines [] before after all collector parcel got =
      inl (subst (λ (w : World). HasGot w collector parcel) (sym all) got)
  by_lines (line ∷ lines) before after (between, obeys, all) collector parcel got =
      ⊎_elim
      (λ here.
      ⊎_elim (λ old. inl old) (λ (is, taken). inr (0, line.0, ap (λ (c : Command). Some (line.0, c)) is, taken))
      (by_line script line.0 line.1 before between collector parcel obeys here))
      (λ (k, number, at, taken). inr (suc k, number, at, taken))
      (by_lines lines between after all collector parcel got)

  keeps_lines : (lines : List (ℕ × Command)) (before after : World) → ObeysAll script lines before after
      → (collector : ℕ) (parcel : Parcel) → HasGot before collector parcel → HasGot after collector parcel
  keeps_lines [] before after all collector parcel got = subst (λ (w : World). HasGot w collector parcel) all got
  keeps_lines (line ∷ lines) before after (between, obeys, all) collector parcel got =
      keeps_lines lines between after all collector parcel
      (keeps_line script line.0 line.1 before between collector parcel obeys got)

  pub hands_lines : (lines : List (ℕ × Command)) (before after : World) (all : ObeysAll script lines before after)
      (k number collector cpu fill : ℕ) (parcel : Parcel)
      → slice_get lines k ≡ Some (number, deliver collector cpu fill)
      → Contains (world_at script lines before after all k).taken parcel
      → IsFill cpu fill parcel
      → (other : Parcel) × IsFill cpu fill other × HasGot after collector other
  hands_lines [] before after all k number collector cpu fill parcel at has is =
      absurd (none-some (number, deliver collector cpu fill) at)
  hands_lines (line ∷ lines) before after (between, obeys, all) zero number collector cpu fill parcel at has is =
      let (other, same, got) = hands script number collector cpu fill before between parcel
      (subst (λ (l : ℕ × Command). Obeys script l.0 l.1 before between)
      (some_is line (number, deliver collector cpu fill) at) obeys) has is in
      (other, same, keeps_lines lines between after all collector other got)
  hands_lines (line ∷ lines) before after (between, obeys, all) (suc k) number collector cpu fill parcel at has is =
      hands_lines lines between after all k number collector cpu fill parcel at has is

-- each parcel that was delivered was handed over by a line
pub handed_by_lines : (script : Script) (w : World) (collector : ℕ) (parcels : List Parcel) (parcel : Parcel)
    (of : WorldOf script w)
    → slice_get w.delivered collector ≡ Some parcels → Contains parcels parcel
    → IsHanded script script.commands of.new w of.obeyed collector parcel
handed_by_lines script w collector parcels parcel of at has =
    ⊎_elim (λ (first, there, one). absurd (none_new first there one)) (λ is. is)
    (by_lines script script.commands of.new w of.obeyed collector parcel (parcels, at, has))
  where
    nothing : Contains [] parcel → ⊥
    nothing (k, low, is) = omega (arith, low)

    none_new : (first : List Parcel) → slice_get of.new.delivered collector ≡ Some first → Contains first parcel → ⊥
    none_new first there one = nothing (subst (λ (l : List Parcel). Contains l parcel)
        (sym (get_or_from_slice_get of.new.delivered collector first first there)
        ∙ of.is_new.none_delivered collector first (slice_get_within of.new.delivered collector first there)) one)

pub delivered_by_lines : (script : Script) (w : World) (collector : ℕ) (parcels : List Parcel) (parcel : Parcel)
    → WorldOf script w
    → slice_get w.delivered collector ≡ Some parcels → Contains parcels parcel
    → (line : ℕ) × Contains script.commands (line, deliver collector parcel.cpu parcel.fill)
delivered_by_lines script w collector parcels parcel of at has =
    let (k, line, there, taken) = handed_by_lines script w collector parcels parcel of at has in
    (line, contains_at script.commands k (line, deliver collector parcel.cpu parcel.fill) there)
