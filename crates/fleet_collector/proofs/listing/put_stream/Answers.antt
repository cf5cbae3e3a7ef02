use Rattle.std.proofs.Common.{◌++◌, ◌∙◌, [], ◌∷◌, ℕ, List, length, append-nil, append_assoc, ap, sym, subst, map}
use Rattle.std.proofs.lemmas.List.{map-append}
use Rattle.std.proofs.lemmas.Iterator.Consumers.{YieldsList-from_first, YieldsList-so_far, YieldsList-turn}
use Rattle.std.proofs.lemmas.Iterator.Consumers.{YieldsList-end}
use Rattle.collector.specs.Known.{cpu_number}
use Rattle.fleet_collector.specs.Listing.{Line}
use Rattle.fleet_collector.specs.Lines.{line_seen, line_of, AreLinesOf, HasAmong}
use Rattle.fleet_collector.proofs.ByNumber.{AreFewer, stream_none, stream_more, stream_all, fewer_next}
use Rattle.fleet_collector.proofs.listing.put_stream.Goals as goal

pub loop-cpu-init : goal.loop-cpu-init
loop-cpu-init c = (
  [],
  stream_none c.args.before c.args.stream.0 c.args.known.now,
  sym
      (append-nil (map line_seen c.args.lines.now.items)),
)

pub loop-cpu-preserved : goal.loop-cpu-preserved
loop-cpu-preserved c =
    let cpus = c.known_cpus-cpu-items.result in
    let begun = c.into_iter-cpu-iterator.ensures.into_iter_gives in
    let yields = YieldsList-from_first cpu_number (λ left. left) cpus begun in
    let done = c.loop-cpu.yielded in
    let so_far = YieldsList-so_far yields done _ c.loop-cpu.yielded_by in
    let turn = YieldsList-turn yields done _ c.loop-cpu.yielded_by _ _ c.in-Some.cpu c.in-Some.is
    c.next.ensures.steps in
    let low = subst (λ (cs : List ℕ). AreFewer cs c.in-Some.cpu.0) (sym so_far)
    (fewer_next cpus c.known_cpus-cpu-items.ensures.rising (length done) c.in-Some.cpu.0 turn.0 turn.1) in
    let before = c.loop-cpu.invariant in
    let put = c.in_ok-put_cpu.ensures in
    let more = map (line_of c.args.stream.0 c.in-Some.cpu.0) put.0 in (
      before.0 ++ more,
      subst (λ (cs : List ℕ). AreLinesOf (HasAmong c.args.before c.args.stream.0 c.args.known.now cs) (before.0
          ++ more))
          (sym (map-append cpu_number done (c.in-Some.cpu ∷ [])))
          (stream_more c.args.before c.args.stream.0 c.args.known.now
          (map cpu_number done) c.in-Some.cpu.0 before.0 put.0 low put.1
          before.1),
      put.2 ∙ ap (λ (ls : List Line). ls ++ more) before.2 ∙ append_assoc (map line_seen c.args.lines.now.items)
          before.0 more,
    )

pub returns : goal.returns
returns c =
    let cpus = c.known_cpus-cpu-items.result in
    let begun = c.into_iter-cpu-iterator.ensures.into_iter_gives in
    let yields = YieldsList-from_first cpu_number (λ left. left) cpus begun in
    let all = YieldsList-end yields c.loop-cpu.yielded _ c.loop-cpu.yielded_by _ _ c.in-None.is c.next.ensures.steps in
    let put = c.loop-cpu.invariant in (
      put.0,
      stream_all c.args.before c.args.stream.0 c.args.known.now cpus put.0 c.known_cpus-cpu-items.ensures
          (subst (λ (cs : List ℕ). AreLinesOf (HasAmong c.args.before c.args.stream.0 c.args.known.now cs) put.0)
          all.0 put.1),
      put.2,
    )
