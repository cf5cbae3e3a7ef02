-- A new ring is in the one state that a new ring may be in.
use Rattle.std.proofs.Common.{◌≡◌, ◌∙◌, length, map, sym, ap, subst, arith}
use Rattle.trace_model.specs.History.{last_moment, reserved_records}
use Rattle.trace_model.specs.HistoryLaws.{committed_count}
use Rattle.trace_model.specs.Ring.{IsStart}
use Rattle.link_marks.specs.ModelLinks.{link_of}
use Rattle.ring_model.proofs.partition.OneNewRing.{new_ring_is_one}
use Rattle.script_replay.specs.Known.{top_frame}
use Rattle.step_text.specs.Seen.{ArePartsOf, reader_in}
use Rattle.step_text.specs.Known.{IsKnownOf}
use Rattle.step_text.proofs.new_rings.new_ring.Goals as goal

pub returns-clause-known : goal.returns-clause-known
returns-clause-known c other is_same =
    let (new, is_new, core) = c.in_ok-ring.ensures.fresh in
    let v = core.shows in
    let some_pages = core.reached.may_start.some_pages in
    let n = c.pages.result in
    let start = c.start-start.result.0 in
    let is_other : IsStart n start other =
    subst (λ m. IsStart m start other) (sym c.pages.ensures.pages)
    (subst (λ s. IsStart c.args.script.now.pages s other) (sym c.start-start.ensures.start) is_same) in
    let (one, is_start, only) = new_ring_is_one n start (omega arith) in
    let links : c.in_ok-links.links.items ≡ c.links.result.now =
    c.in_ok-links.ensures.items_if_clones_equal (λ x y same. same) in
    let order : c.in_ok-order.order.items ≡ c.order.result.now =
    c.in_ok-order.ensures.items_if_clones_equal (λ x y same. same) in
    let parts : ArePartsOf _ new = record {
      spare_link = c.spare_link.ensures ∙ sym v.spare_link_is;
      counts = λ i. record {
        spare = (c.spare.ensures ∙ sym v.spare_is) i;
        done = (c.done.ensures ∙ sym v.frames.done_is) i;
        opened = (c.opened.ensures ∙ sym v.frames.opened_is) i;
        wish = (c.wish.ensures ∙ sym v.wish_is) i;
        head = sym is_new.head i;
        committed = ap committed_count (sym is_new.history) i;
      };
      depth = ap length (sym is_new.frames);
      top = ap top_frame (sym is_new.frames);
      reader = ap reader_in c.reader.ensures ∙ (λ i. record {
        phase = sym v.reader_phase_is i;
        hint = sym v.hint_is i;
        seen = sym v.seen_is i;
        expected = sym v.expected_is i;
      });
      records = ap (λ history. length (reserved_records history)) (sym is_new.history);
      moment = ap (λ history. last_moment (reserved_records history)) (sym is_new.history);
    } in
    subst (IsKnownOf _) (only new is_new ∙ sym (only other is_other)) (record {
      links = ap (map link_of) links ∙ c.links.ensures.links ∙ sym v.links_are;
      order = order ∙ c.order.ensures.order ∙ sym v.order_is;
      parts = parts;
    })
