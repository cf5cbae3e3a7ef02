use Rattle.std.proofs.Common.{refl, sym, subst}
use Rattle.stream_collector.specs.declared.fault.MarkFault.TheVariants.{NoMemory}
use Rattle.std.proofs.Common.{Err}
use Rattle.fleet_collector.specs.declared.change.Change.{Change}
use Rattle.fleet_collector.specs.Changes.{IsChangedBy}
use Rattle.fleet_collector.proofs.Marked.{cpus_changed, end_new, run_new, bound_new, lost_new}
use Rattle.fleet_collector.proofs.change.apply.Goals as goal

pub returns-in-End-clause-cpus : goal.returns-in-End-clause-cpus
returns-in-End-clause-cpus c =
    let a = c.set_end.ensures in
    cpus_changed c.set_end.result c.args.known.now c.set_end.new.self c.args.cpu.0 c.requires
    (λ e. end_new c.args.known.now c.set_end.new.self c.args.cpu.0 c.in-End.count.0 (a.ended e)) a.unchanged a.refused

pub returns-in-End-clause-no_memory : goal.returns-in-End-clause-no_memory
returns-in-End-clause-no_memory c e =
    let a = c.set_end.ensures in
    subst (λ (change : Change). IsChangedBy change c.args.cpu.0 c.args.known.now c.args.known.now (Err NoMemory))
    (sym c.in-End.is)
    record {
      known = (λ is. cc, λ end. let first = a.first e in cc);
      unchanged = λ is. cc;
      first = λ is. cc;
      ended = λ is. cc;
      nothing_beyond = λ is. cc;
      fault = (a.first e, a.nothing_beyond e);
      refused = refl;
    }

pub returns-in-Forgotten-clause-cpus : goal.returns-in-Forgotten-clause-cpus
returns-in-Forgotten-clause-cpus c =
    let a = c.forgotten.ensures in
    cpus_changed c.forgotten.result c.args.known.now c.forgotten.new.self c.args.cpu.0 c.requires
    (λ e. bound_new c.args.known.now c.forgotten.new.self c.args.cpu.0 c.in-Forgotten.bound.0 (a.raises.raised e)
    (a.given_up e))
    a.raises.unchanged a.raises.refused

pub returns-in-Forget-clause-cpus : goal.returns-in-Forget-clause-cpus
returns-in-Forget-clause-cpus c =
    let a = c.forget.ensures in
    cpus_changed c.forget.result c.args.known.now c.forget.new.self c.args.cpu.0 c.requires
    (λ e. bound_new c.args.known.now c.forget.new.self c.args.cpu.0 c.in-Forget.bound.0 (a.raises.raised e)
    (a.given_up e))
    a.raises.unchanged a.raises.refused

pub returns-in-GiveUp-clause-cpus : goal.returns-in-GiveUp-clause-cpus
returns-in-GiveUp-clause-cpus c =
    let a = c.give_up.ensures in
    cpus_changed c.give_up.result c.args.known.now c.give_up.new.self c.args.cpu.0 c.requires
    (λ e. lost_new c.args.known.now c.give_up.new.self c.args.cpu.0 c.in-GiveUp.bound.0 (a.raises.raised e)
    (a.given_up e))
    a.raises.unchanged a.raises.refused

pub returns-in-Undelivered-clause-cpus : goal.returns-in-Undelivered-clause-cpus
returns-in-Undelivered-clause-cpus c =
    let a = c.mark_undelivered.ensures in
    cpus_changed c.mark_undelivered.result c.args.known.now c.mark_undelivered.new.self c.args.cpu.0 c.requires
    (λ e. run_new c.args.known.now c.mark_undelivered.new.self c.args.cpu.0 c.in-Undelivered.first.0
    c.in-Undelivered.end.0 a.parcels a.marks (a.given_up e))
    a.unchanged a.refused
