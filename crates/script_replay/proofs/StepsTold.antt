-- The text of a replay's steps, from one line to the next.
use Rattle.std.proofs.Common.{rules, ◌≡◌, ◌≢◌, ℕ, ◌<◌, List, [], ◌∷◌, ◌++◌, Option, Some, None, refl, sym, ap, ◌∙◌}
use Rattle.std.proofs.Common.{subst, append_assoc, append-nil}
use Rattle.std.specs.Prelude.{All, IfSome, IsSome, flat_map, slice_set}
use Rattle.std.specs.List.{slice_get}
use Rattle.std.proofs.lemmas.Option.{slice_get_within, get_or_from_slice_get}
use mathlib.Core.Logic.{dite}
use native.Mathlib.Decide.{ℕ_discrete}
use Rattle.trace_model.specs.Ring.{Core}
use Rattle.trace_model.specs.Steps.{Exchange}
use Rattle.trace_model.specs.Parcel.{Parcel}
use Rattle.trace_model.proofs.collections.Elements.{some_is}
use Rattle.text_model.specs.Log.{new_page, known_page, no_page, delivery_line}
use Rattle.text_model.specs.Printing.{printed_log_line}
use Rattle.text_model.specs.Script.{Command, begin_frame, step_frame, finish_frame, write, close, step_reader}
use Rattle.text_model.specs.Script.{take_page, wish, deliver, Script}
use Rattle.world_model.specs.Lanes.{Lane, IsNewLane}
use Rattle.world_model.specs.World.{World, IsNewWorld, RunsLine, DeliversTaken, DeliversNothing}
use Rattle.world_model.proofs.Lookups.{get_set_here, get_set_other}
use Rattle.collector.specs.declared.added.Added.{Added}
use Rattle.collector.specs.declared.added.Added.TheVariants.{New, Known}
use Rattle.step_model.specs.RunTexts.{gain_text, gains_of, delivery_step_text, tells_page, tells_none, TellsRing}
use Rattle.step_model.specs.RunTexts.{TellsLine, TellsAll, trace_line, new_rings_text}
use Rattle.script_replay.specs.Known.{StepTextValue, Knows}
use Rattle.script_replay.specs.RingCommands.{IsOfRing, cpu_of}
use Rattle.script_replay.specs.Collected.{delivery_of}
use Rattle.script_replay.specs.Tells.{IsTextTold}
use Rattle.script_replay.specs.Reports.{AreTold}
use Rattle.script_replay.specs.Replay.{IsNewText, IsToldSoFar}

-- ---- one line more

told_line_more : (script : Script) (lines : List (ℕ × Command)) (line : ℕ) (command : Command) (new w after : World)
    (text more : List ℕ)
    → TellsAll script lines new w text
    → TellsLine script line command w after more
    → TellsAll script (lines ++ (line, command) ∷ []) new after (text ++ more)
told_line_more script [] line command new w after text more all tells = (
  after,
  more,
  [],
  subst (λ (v : World). TellsLine script line command v after more) (sym all.0) tells,
  ap (λ (l : List ℕ). l ++ more) all.1 ∙ sym (append-nil more),
  (refl, refl),
)
told_line_more script (first ∷ lines) line command new w after text more (between, one, rest, told, is, all) tells = (
  between,
  one,
  rest ++ more,
  told,
  ap (λ (l : List ℕ). l ++ more) is ∙ append_assoc one rest more,
  told_line_more script lines line command between w after rest more all tells,
)

so_far_more : (script : Script) (lines : List (ℕ × Command)) (line : ℕ) (command : Command) (w after : World)
    (more : List ℕ) (old new : StepTextValue)
    → IsToldSoFar script lines w old
    → TellsLine script line command w after more
    → new.text ≡ old.text ++ more
    → ((cpu : ℕ) (lane : Lane) → slice_get after.lanes cpu ≡ Some lane → Knows new cpu lane.core)
    → IsToldSoFar script (lines ++ (line, command) ∷ []) after new
so_far_more script lines line command w after more old new so_far tells is knows =
    let front : List ℕ = trace_line script ++ new_rings_text so_far.new.lanes in
    record {
      new = so_far.new;
      is_new = so_far.is_new;
      text = so_far.text ++ more;
      tells = told_line_more script lines line command so_far.new w after so_far.text more so_far.tells tells;
      text_is = is ∙ ap (λ (l : List ℕ). l ++ more) so_far.text_is ∙ append_assoc front so_far.text more;
      knows = knows;
    }

-- ---- before the first line

element : {A : Type 0} (P : A → Type 0) (xs : List A) (k : ℕ) (x : A) → All P xs → slice_get xs k ≡ Some x → P x
element P xs k x all at = subst P (get_or_from_slice_get xs k x x at) (all k x (slice_get_within xs k x at))

pub told_first : (script : Script) (w : World) (steps : Option StepTextValue)
    → IsNewWorld script w
    → IfSome steps (λ s. IsNewText script s)
    → IfSome steps (λ s. IsToldSoFar script [] w s)
told_first script w None is_new text = tt
told_first script w (Some s) is_new text = record {
  new = w;
  is_new = is_new;
  text = [];
  tells = (refl, refl);
  text_is = text.text w.lanes is_new.cpus is_new.new
      ∙ sym (append-nil (trace_line script ++ new_rings_text w.lanes));
  knows = λ cpu lane at.
      text.knows cpu lane (subst (λ (k : ℕ). cpu < k) is_new.cpus (slice_get_within w.lanes cpu lane at))
      (new_lane cpu lane at);
}
  where
    new_lane : (cpu : ℕ) (lane : Lane) → slice_get w.lanes cpu ≡ Some lane → IsNewLane script.pages script.start lane
    new_lane cpu lane at = element (IsNewLane script.pages script.start) w.lanes cpu lane is_new.new at

-- ---- a line of a ring

-- the ring of a CPU is known
pub known_lane : (script : Script) (lines : List (ℕ × Command)) (w : World) (steps : Option StepTextValue) (cpu : ℕ)
    (lane : Lane)
    → IfSome steps (λ s. IsToldSoFar script lines w s)
    → slice_get w.lanes cpu ≡ Some lane
    → IfSome steps (λ s. Knows s cpu lane.core)
known_lane script lines w None cpu lane so_far at = tt
known_lane script lines w (Some s) cpu lane so_far at = so_far.knows cpu lane at

tells_ring : (script : Script) (line cpu : ℕ) (command : Command) (before after : World) (text : List ℕ)
    → IsOfRing command
    → cpu_of command ≡ cpu
    → TellsRing script line command cpu before after text
    → TellsLine script line command before after text
tells_ring script line cpu command before after text ring is t =
    tells command ring (subst (λ (k : ℕ). TellsRing script line command k before after text) (sym is) t)
  where
    tells : (command : Command)
        → IsOfRing command
        → TellsRing script line command (cpu_of command) before after text
        → TellsLine script line command before after text
    tells (begin_frame own moment payload) ring t = t
    tells (step_frame own count) ring t = t
    tells (finish_frame own) ring t = t
    tells (write own moment payload) ring t = t
    tells (close own) ring t = t
    tells (step_reader own count) ring t = t
    tells (take_page own) ring t = t
    tells (wish own) ring t = t
    tells (deliver collector own fill) ring t = absurd ring

module _ (script : Script) (lines : List (ℕ × Command)) (line cpu : ℕ) (command : Command) (w after : World)
    (ring : IsOfRing command) (is : cpu_of command ≡ cpu)
    (runs : RunsLine script line command cpu w after) where
  lanes_known : (old new : StepTextValue)
      → ((other : ℕ) → other ≢ cpu → slice_get new.rings other ≡ slice_get old.rings other)
      → Knows new cpu runs.next.core
      → ((other : ℕ) (lane : Lane) → slice_get w.lanes other ≡ Some lane → Knows old other lane.core)
      → (other : ℕ) (lane : Lane)
      → slice_get after.lanes other ≡ Some lane
      → Knows new other lane.core
  lanes_known old new others here before other lane at =
      let set_at : slice_get (slice_set w.lanes cpu runs.next) other ≡ Some lane =
      ap (λ (v : World). slice_get v.lanes other) (sym runs.after_is) ∙ at in
      dite (ℕ_discrete other cpu)
      (λ e. let next_is : runs.next ≡ lane =
      some_is runs.next lane
      (sym (get_set_here w.lanes cpu runs.next (slice_get_within w.lanes cpu runs.lane runs.lane_is))
      ∙ subst (λ (j : ℕ). slice_get (slice_set w.lanes cpu runs.next) j ≡ Some lane) e set_at) in
      subst (λ (j : ℕ). Knows new j lane.core) (sym e) (subst (λ (l : Lane). Knows new cpu l.core) next_is here))
      (λ apart.
      others other apart ∙ before other lane (sym (get_set_other w.lanes cpu other runs.next apart) ∙ set_at))

  pub told_ring : (old new : Option StepTextValue)
      → AreTold script.pages script.size line cpu runs.lane.core runs.exchanges runs.next.core old new
      → IfSome old (λ s. IsToldSoFar script lines w s)
      → IfSome new (λ s. IsToldSoFar script (lines ++ (line, command) ∷ []) after s)
  told_ring None None told so_far = tt
  told_ring None (Some new) told so_far = absurd told
  told_ring (Some old) None told so_far = absurd told
  told_ring (Some old) (Some new) told so_far =
      so_far_more script lines line command w after told.text old new so_far
      (tells_ring script line cpu command w after told.text ring is record { runs = runs; tells = told.tells })
      told.text_is
      (lanes_known old new told.others told.knows so_far.knows)

pub still_told : (n size line cpu : ℕ) (before after : Core) (exchanges : List Exchange)
    (old new : Option StepTextValue)
    → AreTold n size line cpu before exchanges after old new
    → IsSome old
    → IsSome new
still_told n size line cpu before after exchanges None None told some = some
still_told n size line cpu before after exchanges None (Some new) told some = absurd told
still_told n size line cpu before after exchanges (Some old) None told some = absurd told
still_told n size line cpu before after exchanges (Some old) (Some new) told some = search rules

-- ---- a delivery

pub text_more : (text more : List ℕ) (old middle new : Option StepTextValue)
    → IsTextTold text old middle
    → IsTextTold more middle new
    → IsTextTold (text ++ more) old new
text_more text more None None None one rest = tt
text_more text more None None (Some new) one rest = absurd rest
text_more text more None (Some middle) new one rest = absurd one
text_more text more (Some old) None new one rest = absurd one
text_more text more (Some old) (Some middle) None one rest = absurd rest
text_more text more (Some old) (Some middle) (Some new) one rest = (
  rest.0 ∙ ap (λ (l : List ℕ). l ++ more) one.0 ∙ append_assoc old.text text more,
  rest.1 ∙ one.1,
)

pub text_kept : (text : List ℕ) (old new : Option StepTextValue)
    → IsTextTold text old new
    → IsTextTold (text ++ []) old new
text_kept text old new told = subst (λ (l : List ℕ). IsTextTold l old new) (sym (append-nil text)) told

pub still_text : (text : List ℕ) (old new : Option StepTextValue) → IsTextTold text old new → IsSome old → IsSome new
still_text text None None told some = some
still_text text None (Some new) told some = absurd told
still_text text (Some old) None told some = absurd told
still_text text (Some old) (Some new) told some = search rules

told_delivery : (script : Script) (lines : List (ℕ × Command)) (line : ℕ) (command : Command) (w after : World)
    (text : List ℕ) (old new : Option StepTextValue)
    → TellsLine script line command w after text
    → after.lanes ≡ w.lanes
    → IsTextTold text old new
    → IfSome old (λ s. IsToldSoFar script lines w s)
    → IfSome new (λ s. IsToldSoFar script (lines ++ (line, command) ∷ []) after s)
told_delivery script lines line command w after text None None tells lanes told so_far = tt
told_delivery script lines line command w after text None (Some new) tells lanes told so_far = absurd told
told_delivery script lines line command w after text (Some old) None tells lanes told so_far = absurd told
told_delivery script lines line command w after text (Some old) (Some new) tells lanes told so_far =
    so_far_more script lines line command w after text old new so_far tells told.0
    (λ cpu lane at.
    (λ i. slice_get (told.1 i) cpu)
    ∙ so_far.knows cpu lane (ap (λ (ls : List Lane). slice_get ls cpu) (sym lanes) ∙ at))

pub told_page : (script : Script) (lines : List (ℕ × Command)) (line collector cpu fill : ℕ) (w after : World)
    (old new : Option StepTextValue)
    → (d : DeliversTaken line collector cpu fill w after)
    → IsTextTold (delivery_step_text line collector cpu fill d.delivery d.parcel) old new
    → IfSome old (λ s. IsToldSoFar script lines w s)
    → IfSome new (λ s. IsToldSoFar script (lines ++ (line, deliver collector cpu fill) ∷ []) after s)
told_page script lines line collector cpu fill w after old new d told so_far =
    told_delivery script lines line (deliver collector cpu fill) w after
    (delivery_step_text line collector cpu fill d.delivery d.parcel) old new (tells_page d refl)
    (ap (λ (v : World). v.lanes) d.after_is) told so_far

pub told_none : (script : Script) (lines : List (ℕ × Command)) (line collector cpu fill : ℕ) (w after : World)
    (old new : Option StepTextValue)
    → DeliversNothing line collector cpu fill w after
    → IsTextTold (printed_log_line (delivery_line line collector cpu fill no_page)) old new
    → IfSome old (λ s. IsToldSoFar script lines w s)
    → IfSome new (λ s. IsToldSoFar script (lines ++ (line, deliver collector cpu fill) ∷ []) after s)
told_none script lines line collector cpu fill w after old new d told so_far =
    told_delivery script lines line (deliver collector cpu fill) w after
    (printed_log_line (delivery_line line collector cpu fill no_page)) old new (tells_none d refl)
    (ap (λ (v : World). v.lanes) d.after_is) told so_far

-- the text of a page that the collector has
pub known_told : (line collector cpu fill : ℕ) (added : Added) (parcel : Parcel) (old new : Option StepTextValue)
    → added ≡ Known
    → IsTextTold (printed_log_line (delivery_line line collector cpu fill (delivery_of added))) old new
    → IsTextTold (delivery_step_text line collector cpu fill (delivery_of added) parcel) old new
known_told line collector cpu fill New parcel old new is told = absurd (let e = is in cc)
known_told line collector cpu fill Known parcel old new is told =
    text_kept (printed_log_line (delivery_line line collector cpu fill known_page)) old new told

-- and of one that it hasn't
pub new_told : (line collector cpu fill : ℕ) (added : Added) (parcel : Parcel) (old middle new : Option StepTextValue)
    → added ≡ New
    → IsTextTold (printed_log_line (delivery_line line collector cpu fill (delivery_of added))) old middle
    → IsTextTold (flat_map gain_text (gains_of parcel)) middle new
    → IsTextTold (delivery_step_text line collector cpu fill (delivery_of added) parcel) old new
new_told line collector cpu fill New parcel old middle new is told more =
    text_more (printed_log_line (delivery_line line collector cpu fill new_page)) (flat_map gain_text (gains_of parcel))
    old middle new told more
new_told line collector cpu fill Known parcel old middle new is told more = absurd (let e = is in cc)
