-- The text has the step of the CPU's ring, and the others stay as they were.
use Rattle.std.proofs.Common.{◌≡◌, Some, sym, subst, slice_get}
use Rattle.std.proofs.lemmas.Result.{IfOk-weaker}
use Rattle.script_replay.specs.Known.{StepTextValue, ring_known}
use Rattle.script_replay.specs.Tells.{IsTold}
use Rattle.step_text.proofs.Telling.{item_known, is_told, with_ring}
use Rattle.step_text.proofs.teller.StepTextTeller.tell.Goals as goal

pub tell-requires : goal.tell-requires
tell-requires c =
    let may = c.requires in
    let at =
    subst (λ (v : StepTextValue). slice_get v.rings c.args.at.cpu.0 ≡ Some (ring_known may.before)) (sym c.self.view_is)
    may.knows in
    record {
      n = may.n;
      size = may.size;
      start = may.start;
      before = may.before;
      after = may.after;
      event = may.event;
      reported = may.reported;
      known = item_known c.self.inside.rings.items _ _ may.before c.index_mut.ensures.value at;
      step = may.step;
    }

pub returns : goal.returns
returns c = IfOk-weaker c.tell.result _ _ (λ u tells n size start before after event reported knows step.
    let at =
    subst (λ (v : StepTextValue). slice_get v.rings c.args.at.cpu.0 ≡ Some (ring_known before)) (sym c.self.view_is)
    knows in
    let known = item_known c.self.inside.rings.items _ _ before c.index_mut.ensures.value at in
    let told = tells n size start before after event reported known step in
    subst (λ (v : StepTextValue). IsTold c.args.at.line c.args.at.cpu.0 before after event reported v
    (with_ring c.self.inside c.args.at.cpu.0 c.tell.new.text.items c.tell.new.self))
    c.self.view_is
    (is_told c.self.inside c.args.at.cpu.0 c.args.at.line c.tell.new.text.items c.tell.new.self before after
    event reported at told))
    c.tell.ensures
