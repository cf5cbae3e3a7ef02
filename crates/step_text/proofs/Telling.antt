-- What the text of a step rests on: the stack is not deep, and a ring keeps its number of positions.
use Rattle.std.proofs.Common.{zero, suc, [], ◌∷◌, map, get_or, Some, slice_get, slice_set, ◌≡◌, ℕ, ◌<◌, ◌^◌, List}
use Rattle.std.proofs.Common.{length, ◌++◌, append_assoc, sym, ap, ◌∙◌, subst, arith}
use Rattle.std.proofs.lemmas.List.{map-set}
use Rattle.std.proofs.lemmas.Option.{slice_get_within}
use Rattle.ring_core.proofs.Homes.{get_set_same, get_set_other}
use Rattle.trace_model.specs.Ring.{Core}
use Rattle.trace_model.specs.Steps as model
use Rattle.ring_model.specs.Reached.{IsReached}
use Rattle.ring_model.proofs.partition.RingsKept.{reached_kept}
use Rattle.ring_core.specs.Value.{CoreValue}
use Rattle.ring_core.specs.IsCore.{IsCore}
use Rattle.ring_frames.specs.declared.answer.Answer.{Answer}
use Rattle.script_replay.specs.declared.asked.Asked.{Asked}
use Rattle.step_text.specs.declared.teller.Known.{Known}
use Rattle.step_text.specs.declared.teller.StepText.TheInside.{Inside}
use Rattle.step_text.specs.declared.seen.Parts.{Parts}
use Rattle.step_text.specs.Seen.{ArePartsOf}
use Rattle.script_replay.specs.Known.{RingKnown, StepTextValue, ring_known}
use Rattle.script_replay.specs.Tells.{IsTold}
use Rattle.step_text.specs.Known.{KnownValue, known_in, ring_in, step_text_of, IsKnownOf}
use Rattle.step_text.specs.Tells.{IsToldOf, MayTellOf}

pub depth_fits : (n size start : ℕ) (p : Parts) (c : Core) → IsReached n size start c → ArePartsOf p c
    → p.depth < 2 ^ 63
depth_fits n size start p c reached parts =
    let few = (reached_kept n size start c reached).stack.few in
    let depth = parts.depth in
    omega arith

module _ (asked : Asked) (answer : Answer) (ring : CoreValue) (k : KnownValue) (may : MayTellOf asked answer ring k)
  where
    pub links_alike : length k.links ≡ length ring.links
    links_alike =
        let old = (reached_kept may.n may.size may.start may.before may.step.reached).links.positions in
        ap length may.known.links ∙ old ∙ sym may.step.is_core.shows.positions

    pub order_alike : length k.order ≡ length ring.order
    order_alike =
        let old = (reached_kept may.n may.size may.start may.before may.step.reached).links.apart.pages in
        let new = (reached_kept may.n may.size may.start may.after may.step.is_core.reached).links.apart.pages in
        ap length may.known.order ∙ old ∙ sym new ∙ ap length may.step.is_core.shows.order_is

-- after a step this is known
pub knows_after : (n size start : ℕ) (ring : CoreValue) (parts : Parts) (k : KnownValue) (c : Core)
    → IsCore n size start ring c → ArePartsOf parts c
    → k ≡ record { links = ring.links; order = ring.order; parts = parts } → IsKnownOf k c
knows_after n size start ring parts k c core are is = subst (λ (x : KnownValue). IsKnownOf x c) (sym is) record {
  links = sym core.shows.links_are;
  order = sym core.shows.order_is;
  parts = are;
}

pub join_told : (o p q r line changes a b c d : List ℕ) → p ≡ o ++ line → q ≡ p ++ changes → r ≡ q ++ (a ++ b ++ c ++ d)
    → r ≡ o ++ (line ++ changes ++ a ++ b ++ c ++ d)
join_told o p q r line changes a b c d e f g = rw (g, f, e) (simp append_assoc)

-- ---- in the terms of the teller

pub known_of : (k : KnownValue) (c : Core) → ring_in k ≡ ring_known c → IsKnownOf k c
known_of k c is = record {
  links = λ i. (is i).links;
  order = λ i. (is i).order;
  parts = record {
    spare_link = λ i. (is i).spare_link;
    counts = λ i. (is i).counts;
    depth = λ i. (is i).depth;
    top = λ i. (is i).top;
    reader = λ i. (is i).reader;
    records = λ i. (is i).records;
    moment = λ i. (is i).last_moment;
  };
}

pub ring_is : (k : KnownValue) (c : Core) → IsKnownOf k c → ring_in k ≡ ring_known c
ring_is k c known = λ i. record {
  links = known.links i;
  spare_link = known.parts.spare_link i;
  order = known.order i;
  counts = known.parts.counts i;
  depth = known.parts.depth i;
  top = known.parts.top i;
  reader = known.parts.reader i;
  records = known.parts.records i;
  last_moment = known.parts.moment i;
}

-- ---- of all rings

abbrev pub ring_of : Known → RingKnown
ring_of item = ring_in (known_in item)

-- the ring of a CPU, of which this item says what is known, is in this state
pub item_known : (rings : List Known) (cpu : ℕ) (item : Known) (c : Core) → item ≡ get_or rings cpu item
    → slice_get (map ring_of rings) cpu ≡ Some (ring_known c) → IsKnownOf (known_in item) c
item_known [] cpu item c e at = absurd (cc)
item_known (ring ∷ rings) zero item c e at =
    let same : ring_of ring ≡ ring_known c = cc in known_of (known_in item) c (ap ring_of e ∙ same)
item_known (ring ∷ rings) (suc cpu) item c e at = item_known rings cpu item c e at

-- the text, and what is known of the rings, if only the ring of one CPU is another one
abbrev pub with_ring : Inside → (cpu : ℕ) → List ℕ → Known → StepTextValue
with_ring w cpu text item = record { text = text; rings = map ring_of (slice_set w.rings.items cpu item) }

-- the step's text is appended, and of its ring alone something new is known
pub is_told : (w : Inside) (cpu line : ℕ) (more : List ℕ) (item : Known) (before after : Core)
    (event : model.Event) (reported : model.Answer)
    → slice_get (step_text_of w).rings cpu ≡ Some (ring_known before)
    → IsToldOf line cpu before after event reported w.text.items more (known_in item)
    → IsTold line cpu before after event reported (step_text_of w) (with_ring w cpu more item)
is_told w cpu line more item before after event reported at told =
    subst (λ (rings : List RingKnown).
    IsTold line cpu before after event reported (step_text_of w) record { text = more; rings = rings })
    (sym (map-set ring_of w.rings.items cpu item))
    record {
      text = told.text;
      knows =
          get_set_same (step_text_of w).rings cpu (ring_of item)
          (slice_get_within (step_text_of w).rings cpu (ring_known before) at)
          ∙ ap Some (ring_is (known_in item) after told.known);
      others = λ other differs. get_set_other (step_text_of w).rings cpu (ring_of item) other differs;
    }
