use Rattle.std.proofs.Common.{◌≡◌, ◌∙◌, ℕ, ◌+◌, ap, ap₂, sym, subst, List, length, replicate, arith}
use Rattle.std.proofs.lemmas.List.{length-replicate}
use Rattle.trace_model.specs.declared.limits.TheConstants.{MAX_CPUS}
use Rattle.line_follower.specs.Known.{unknown}
use Rattle.line_follower.specs.Following.{Following}
use Rattle.live_listing.specs.declared.pages.Content.{Content}
use Rattle.live_listing.specs.Pages.{Reached, nothing_reached}
use Rattle.trace_model.specs.declared.numbers.CpuId.{CpuId}
use Rattle.live_listing.proofs.Cpus.{AreNew, none_new, one_new}
use Rattle.live_listing.proofs.listing.LiveListing.new.Goals as goal

pub loop-cpu-init : goal.loop-cpu-init
loop-cpu-init c = subst (AreNew 0) (sym c.new-cpus.ensures.items) none_new

pub loop-cpu-preserved : goal.loop-cpu-preserved
loop-cpu-preserved c =
    subst (AreNew (c.loop-cpu.cpu + 1)) (sym c.in_ok-push.ensures.items)
    (one_new c.loop-cpu.cpu c.loop-cpu.cpus.items c.new.result c.loop-cpu.invariant
    (ap (λ (cpu : CpuId). cpu.0) c.new.ensures.cpu) c.new.ensures.nothing)

pub invariant_of-result : goal.invariant_of-result
invariant_of-result c =
    let are = c.loop-cpu.invariant in
    let all : c.loop-cpu.cpu ≡ MAX_CPUS = omega (arith, c.loop-cpu-test.false, c.loop-cpu.auto.cpu-end) in (
      are.long ∙ all,
      ap (λ (f : Following Content). length f.known.cpus) c.in_ok-follower.ensures
          ∙ length-replicate MAX_CPUS unknown,
      are.order,
    )

pub returns : goal.returns
returns c =
    let are = c.loop-cpu.invariant in
    let all : c.loop-cpu.cpu ≡ MAX_CPUS = omega (arith, c.loop-cpu-test.false, c.loop-cpu.auto.cpu-end) in
    ap₂ (λ (f : Following Content) (cpus : List Reached). record { following = f; cpus = cpus })
    c.in_ok-follower.ensures
    (are.nothing ∙ ap (λ (n : ℕ). replicate n nothing_reached) all)
