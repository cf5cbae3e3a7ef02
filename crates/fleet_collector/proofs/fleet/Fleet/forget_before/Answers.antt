use Rattle.std.proofs.Common.{◌∙◌, ℕ, ◌<◌, List, length, sym, subst, arith}
use Rattle.std.specs.List.Sorted.{IsStrictlyIncreasing}
use Rattle.std.proofs.lemmas.Option.{slice_get-get_or}
use Rattle.stream_collector.specs.Stream.{Stream}
use Rattle.fleet_collector.specs.Frontier.{SomeForgottenBefore}
use Rattle.fleet_collector.proofs.Forgotten.{forget_begins, forget_goes_on, forget_ends}
use Rattle.fleet_collector.proofs.fleet.Fleet.forget_before.Goals as goal

pub loop-id-init : goal.loop-id-init
loop-id-init c = forget_begins c.deref-id-items.result.now c.args.self.now c.args.moment.0

pub loop-id-preserved : goal.loop-id-preserved
loop-id-preserved c =
    let ids = c.deref-id-items.result.now in
    let rising : IsStrictlyIncreasing ids = subst IsStrictlyIncreasing (sym c.deref-id-items.ensures.value)
    c.in_ok-ids.ensures.rising in
    let within : c.loop-id.id-index < length ids = omega arith in
    forget_goes_on ids c.args.self.now c.loop-id.self c.forget_of.new.self c.args.moment.0 c.loop-id.id-index _ rising
    (slice_get-get_or ids c.loop-id.id-index 0 within) c.loop-id.invariant c.in_ok-forget_of.ensures.forgotten
    c.in_ok-forget_of.ensures.others

pub returns-in_err-forget_of-clause-some : goal.returns-in_err-forget_of-clause-some
returns-in_err-forget_of-clause-some c =
    subst (λ (f : List (ℕ × Stream)). SomeForgottenBefore c.args.self.now f c.args.moment.0)
    (sym c.in_err-forget_of.ensures.refused) c.loop-id.invariant.some

pub returns-clause-forgotten : goal.returns-clause-forgotten
returns-clause-forgotten c =
    let ids = c.deref-id-items.result.now in
    forget_ends ids c.args.self.now c.loop-id.self c.args.moment.0 c.loop-id.id-index
    (c.deref-id-items.ensures.value ∙ c.in_ok-ids.ensures.ids) (omega arith) c.loop-id.invariant

pub returns-clause-some : goal.returns-clause-some
returns-clause-some c = c.loop-id.invariant.some
