-- A script has one step text: each line has one text, from a world that is one.
use Rattle.std.proofs.Common.{◌≡◌, ℕ, List, [], ◌∷◌, ◌++◌, Some, refl, sym, ap, ◌∙◌, subst}
use Rattle.std.specs.List.{slice_get}
use Rattle.std.proofs.lemmas.Option.{slice_get_within}
use Rattle.std.proofs.lemmas.List.{append_cancel_left}
use Rattle.std.proofs.lemmas.List.Elements.{All-contains}
use Rattle.trace_model.specs.Ring.{Core}
use Rattle.trace_model.specs.Steps.{Exchange}
use Rattle.trace_model.specs.Parcel.{Parcel}
use Rattle.trace_model.proofs.collections.Elements.{some_is}
use Rattle.text_model.specs.Log.{Delivery, new_page, known_page, no_page}
use Rattle.text_model.specs.Script.{Command, begin_frame, step_frame, finish_frame, write, close, step_reader}
use Rattle.text_model.specs.Script.{take_page, wish, deliver, Script}
use Rattle.text_model.specs.ScriptLimits.{IsWithinLimits}
use Rattle.ring_model.proofs.steps.StepsDetermined.{steps_are_determined}
use Rattle.world_model.specs.Lanes.{Lane, LineRun}
use Rattle.world_model.specs.World.{World, IsNewWorld, IsFill, Brings, DeliversTaken, DeliversNothing, WorldBehind}
use Rattle.world_model.proofs.Lookups.{get_set_here}
use Rattle.world_model.proofs.LineIsOne.{line_one}
use Rattle.world_model.proofs.OneWorld.{one_world, behind_next}
use Rattle.step_model.specs.StepTexts.{step_text}
use Rattle.step_model.specs.RunTexts.{Tells, delivery_step_text, TellsDelivery, tells_page, tells_none, TellsRing}
use Rattle.step_model.specs.RunTexts.{TellsLine, TellsAll, trace_line, new_rings_text}
use Rattle.step_model.specs.StepLaws.{TextsAreOne}
use Rattle.step_model.proofs.WorldsTold.{told_line}

-- ---- a line of a ring

tells_one : (n size line cpu : ℕ) (before after other : Core) (xs : List Exchange) (text others : List ℕ)
    → Tells n size line cpu before xs after text → Tells n size line cpu before xs other others → text ≡ others
tells_one n size line cpu before after other [] text others (same, none) (same', none') = none ∙ sym none'
tells_one n size line cpu before after other (x ∷ xs) text others (between, rest, step, is, tells)
    (between', rest', step', is', tells') =
    let state : between ≡ between' =
    (steps_are_determined n size before x.event x.answer x.answer between between' step step').1 in
    let rests : rest ≡ rest' =
    tells_one n size line cpu between after other xs rest rest' tells
    (subst (λ (c : Core). Tells n size line cpu c xs other rest') (sym state) tells') in
    is ∙ (λ i. step_text line cpu before x.event x.answer (state i) ++ rests i) ∙ sym is'

ring_told : (script : Script) (line : ℕ) (command : Command) (cpu : ℕ) (before one other : World) (text others : List ℕ)
    → TellsRing script line command cpu before one text → TellsRing script line command cpu before other others
    → text ≡ others
ring_told script line command cpu before one other text others t u =
    let r = t.runs in let s = u.runs in
    let lane : s.lane ≡ r.lane = some_is s.lane r.lane (sym s.lane_is ∙ r.lane_is) in
    let exchanges : s.exchanges ≡ r.exchanges =
    sym
    (line_one script.pages script.size command r.lane r.next s.next r.exchanges s.exchanges r.run
    (subst (λ (l : Lane). LineRun script.pages script.size command l s.exchanges s.next) lane s.run)).0 in
    tells_one script.pages script.size line cpu r.lane.core r.next.core s.next.core r.exchanges text others t.tells
    (subst (λ (xs : List Exchange). Tells script.pages script.size line cpu r.lane.core xs s.next.core others) exchanges
    (subst (λ (l : Lane). Tells script.pages script.size line cpu l.core s.exchanges s.next.core others) lane u.tells))

-- ---- a delivery

-- what a delivery brings is one
one_delivery : (earlier : List Parcel) (parcel : Parcel) (a b : Delivery) → Brings earlier parcel a
    → Brings earlier parcel b → a ≡ b
one_delivery earlier parcel new_page new_page x y = refl
one_delivery earlier parcel new_page known_page x y = absurd (x y)
one_delivery earlier parcel new_page no_page x y = absurd y
one_delivery earlier parcel known_page new_page x y = absurd (y x)
one_delivery earlier parcel known_page known_page x y = refl
one_delivery earlier parcel known_page no_page x y = absurd y
one_delivery earlier parcel no_page b x y = absurd x

same_last : (xs : List Parcel) (p q : Parcel) → xs ++ p ∷ [] ≡ xs ++ q ∷ [] → p ≡ q
same_last xs p q e = let last = append_cancel_left xs (p ∷ []) (q ∷ []) e in cc

module _ (line collector cpu fill : ℕ) (before : World) where
  -- what the collector has then
  has_then : (after : World) (d : DeliversTaken line collector cpu fill before after)
      → slice_get after.delivered collector ≡ Some (d.earlier ++ d.parcel ∷ [])
  has_then after d = ap (λ (w : World). slice_get w.delivered collector) d.after_is
      ∙ get_set_here before.delivered collector (d.earlier ++ d.parcel ∷ [])
      (slice_get_within before.delivered collector d.earlier d.earlier_are)

  -- to one world a page is delivered in one way
  pages_same : (one other : World) → one ≡ other
      → (d : DeliversTaken line collector cpu fill before one) (e : DeliversTaken line collector cpu fill before other)
      → delivery_step_text line collector cpu fill d.delivery d.parcel
      ≡ delivery_step_text line collector cpu fill e.delivery e.parcel
  pages_same one other same d e =
      let earlier : e.earlier ≡ d.earlier = some_is e.earlier d.earlier (sym e.earlier_are ∙ d.earlier_are) in
      let lists : d.earlier ++ d.parcel ∷ [] ≡ e.earlier ++ e.parcel ∷ [] =
      some_is (d.earlier ++ d.parcel ∷ []) (e.earlier ++ e.parcel ∷ [])
      (sym (has_then one d) ∙ ap (λ (w : World). slice_get w.delivered collector) same ∙ has_then other e) in
      let parcel : d.parcel ≡ e.parcel =
      same_last d.earlier d.parcel e.parcel (lists ∙ ap (λ (l : List Parcel). l ++ e.parcel ∷ []) earlier) in
      let brings : Brings d.earlier d.parcel e.delivery =
      subst (λ (p : Parcel). Brings d.earlier p e.delivery) (sym parcel)
      (subst (λ (l : List Parcel). Brings l e.parcel e.delivery) earlier e.brings) in
      let delivery : d.delivery ≡ e.delivery = one_delivery d.earlier d.parcel d.delivery e.delivery d.brings brings in
      λ i. delivery_step_text line collector cpu fill (delivery i) (parcel i)

  not_both : (one other : World) → DeliversTaken line collector cpu fill before one
      → DeliversNothing line collector cpu fill before other → ⊥
  not_both one other d e =
      All-contains (λ parcel. IsFill cpu fill parcel → ⊥) before.taken d.parcel e.not_taken d.was_taken d.fill_is

  delivery_told : (one other : World) (text others : List ℕ) → one ≡ other
      → TellsDelivery line collector cpu fill before one text
      → TellsDelivery line collector cpu fill before other others → text ≡ others
  delivery_told one other text others same (tells_page d is) (tells_page e is') =
      is ∙ pages_same one other same d e ∙ sym is'
  delivery_told one other text others same (tells_page d is) (tells_none e is') = absurd (not_both one other d e)
  delivery_told one other text others same (tells_none d is) (tells_page e is') = absurd (not_both other one e d)
  delivery_told one other text others same (tells_none d is) (tells_none e is') = is ∙ sym is'

-- ---- the whole

line_told : (script : Script) (line : ℕ) (command : Command) (before one other : World) (text others : List ℕ)
    → one ≡ other → TellsLine script line command before one text → TellsLine script line command before other others
    → text ≡ others
line_told script line (begin_frame cpu moment payload) before one other text others same t u =
    ring_told script line (begin_frame cpu moment payload) cpu before one other text others t u
line_told script line (step_frame cpu count) before one other text others same t u =
    ring_told script line (step_frame cpu count) cpu before one other text others t u
line_told script line (finish_frame cpu) before one other text others same t u =
    ring_told script line (finish_frame cpu) cpu before one other text others t u
line_told script line (write cpu moment payload) before one other text others same t u =
    ring_told script line (write cpu moment payload) cpu before one other text others t u
line_told script line (close cpu) before one other text others same t u =
    ring_told script line (close cpu) cpu before one other text others t u
line_told script line (step_reader cpu count) before one other text others same t u =
    ring_told script line (step_reader cpu count) cpu before one other text others t u
line_told script line (take_page cpu) before one other text others same t u =
    ring_told script line (take_page cpu) cpu before one other text others t u
line_told script line (wish cpu) before one other text others same t u =
    ring_told script line (wish cpu) cpu before one other text others t u
line_told script line (deliver collector cpu fill) before one other text others same t u =
    delivery_told line collector cpu fill before one other text others same t u

module _ (script : Script) (limits : IsWithinLimits script) where
  -- after these lines of the script
  all_told : (lines behind : List (ℕ × Command)) (before after other : World) (text others : List ℕ)
      → WorldBehind script behind before → TellsAll script lines before after text
      → TellsAll script lines before other others → text ≡ others
  all_told [] behind before after other text others is (same, none) (same', none') = none ∙ sym none'
  all_told (line ∷ lines) behind before after other text others is (between, first, rest, one, cut, all)
      (between', first', rest', one', cut', all') =
      let then : WorldBehind script (behind ++ line ∷ []) between =
      behind_next script behind line.0 line.1 before between is
      (told_line script line.0 line.1 before between first one) in
      let then' : WorldBehind script (behind ++ line ∷ []) between' =
      behind_next script behind line.0 line.1 before between' is
      (told_line script line.0 line.1 before between' first' one') in
      let same : between ≡ between' = one_world script (behind ++ line ∷ []) between between' limits then then' in
      let firsts : first ≡ first' = line_told script line.0 line.1 before between between' first first' same one one' in
      let rests : rest ≡ rest' =
      all_told lines (behind ++ line ∷ []) between after other rest rest' then all
      (subst (λ (w : World). TellsAll script lines w other rest') (sym same) all') in
      cut ∙ (λ i. firsts i ++ rests i) ∙ sym cut'

  none_behind : (new : World) → IsNewWorld script new → WorldBehind script [] new
  none_behind new is_new = record { new = new; is_new = is_new; obeyed = refl }

pub texts_are_one : TextsAreOne
texts_are_one script after other text others limits t u =
    let new : u.new ≡ t.new =
    one_world script [] u.new t.new limits (none_behind script limits u.new u.is_new)
    (none_behind script limits t.new t.is_new) in
    let rests : t.rest ≡ u.rest =
    all_told script limits script.commands [] t.new after other t.rest u.rest
    (none_behind script limits t.new t.is_new) t.tells
    (subst (λ (w : World). TellsAll script script.commands w other u.rest) new u.tells) in
    t.text_is ∙ (λ i. trace_line script ++ new_rings_text (sym new i).lanes ++ rests i) ∙ sym u.text_is
