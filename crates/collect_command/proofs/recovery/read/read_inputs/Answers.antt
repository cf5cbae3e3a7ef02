use Rattle.std.proofs.Common.{◌≡◌, ◌+◌, ◌<◌, false, List, [], ◌∷◌, ◌++◌, length, slice_set, if◌then◌else◌, sym, ap, ◌∙◌}
use Rattle.std.proofs.Common.{subst, arith}
use Rattle.ring_region.specs.declared.regions.Region.{Region}
use Rattle.collect_command.specs.declared.recovery.read.Unread.TheVariants.{NoMemory}
use Rattle.collect_command.specs.recovery.Reading.{ReadsRegion, IsWhy}
use Rattle.collect_command.proofs.AllRead.{AreReadSoFar, none_read, next_input, as_first, one_read, stops_here}
use Rattle.collect_command.proofs.AllRead.{taken_whole}
use Rattle.collect_command.proofs.recovery.read.read_inputs.Goals as goal

pub loop-input-init : goal.loop-input-init
loop-input-init g c =
    let inputs = c.args.inputs.now in
    subst
    (λ (regions : List Region). AreReadSoFar g.R.Source.remaining g.R.Source.count g.R.Source.failed inputs inputs 0
    regions) (sym c.new-regions.ensures.items)
    (none_read g.R.Source.remaining g.R.Source.count g.R.Source.failed inputs)

pub read_input-requires : goal.read_input-requires
read_input-requires g c =
    let below : c.loop-input.input < length c.loop-input.inputs = omega
    (arith, c.loop-input-test.true, c.loop-input.auto.inputs) in
    let this = c.index-inputs-input.result in
    let regions = c.loop-input.regions.items in
    let so_far = c.loop-input.invariant in
    let next = next_input g.R.Source.remaining g.R.Source.count g.R.Source.failed c.args.inputs.now c.loop-input.inputs
    c.loop-input.input regions this so_far below c.index-inputs-input.is in
    let first = as_first g.R.Source.remaining g.R.Source.count g.R.Source.failed c.args.inputs.now c.loop-input.inputs
    c.loop-input.input regions this so_far next in
    subst (λ reader. g.R.Source.failed reader ≡ false) (first.0 ∙ c.index-inputs-input.is)
    (c.requires c.loop-input.input this first.1)

pub returns-then-is_err-clause-stopped : goal.returns-then-is_err-clause-stopped
returns-then-is_err-clause-stopped g c =
    let below : c.loop-input.input < length c.loop-input.inputs = omega
    (arith, c.loop-input-test.true, c.loop-input.auto.inputs) in
    let this = c.index-inputs-input.result in
    let regions = c.loop-input.regions.items in
    let so_far = c.loop-input.invariant in
    let next = next_input g.R.Source.remaining g.R.Source.count g.R.Source.failed c.args.inputs.now c.loop-input.inputs
    c.loop-input.input regions this so_far below c.index-inputs-input.is in
    let read = subst (λ reader. ReadsRegion g.R.Source.remaining g.R.Source.count g.R.Source.failed reader
    c.read_input.new.reader c.in-Ok.region) (sym c.index-inputs-input.is) c.in-Ok.ensures.region in
    stops_here g.R.Source.remaining g.R.Source.count g.R.Source.failed c.args.inputs.now c.loop-input.inputs
    c.loop-input.input regions this c.read_input.new.reader NoMemory so_far next
    (taken_whole g.R.Source.remaining g.R.Source.count g.R.Source.failed this c.read_input.new.reader c.in-Ok.region
    read)

pub returns-in-Err-clause-stopped : goal.returns-in-Err-clause-stopped
returns-in-Err-clause-stopped g c =
    let below : c.loop-input.input < length c.loop-input.inputs = omega
    (arith, c.loop-input-test.true, c.loop-input.auto.inputs) in
    let this = c.index-inputs-input.result in
    let regions = c.loop-input.regions.items in
    let so_far = c.loop-input.invariant in
    let next = next_input g.R.Source.remaining g.R.Source.count g.R.Source.failed c.args.inputs.now c.loop-input.inputs
    c.loop-input.input regions this so_far below c.index-inputs-input.is in
    stops_here g.R.Source.remaining g.R.Source.count g.R.Source.failed c.args.inputs.now c.loop-input.inputs
    c.loop-input.input regions this c.read_input.new.reader c.in-Err.why so_far next
    (subst (λ reader. IsWhy g.R.Source.remaining g.R.Source.count g.R.Source.failed reader c.read_input.new.reader
    c.in-Err.why) (sym c.index-inputs-input.is) c.in-Err.ensures.unread)

pub loop-input-preserved : goal.loop-input-preserved
loop-input-preserved g c =
    let below : c.loop-input.input < length c.loop-input.inputs = omega
    (arith, c.loop-input-test.true, c.loop-input.auto.inputs) in
    let this = c.index-inputs-input.result in
    let regions = c.loop-input.regions.items in
    let so_far = c.loop-input.invariant in
    let next = next_input g.R.Source.remaining g.R.Source.count g.R.Source.failed c.args.inputs.now c.loop-input.inputs
    c.loop-input.input regions this so_far below c.index-inputs-input.is in
    let read = subst (λ reader. ReadsRegion g.R.Source.remaining g.R.Source.count g.R.Source.failed reader
    c.read_input.new.reader c.in-Ok.region) (sym c.index-inputs-input.is) c.in-Ok.ensures.region in
    let more : c.push.new.self.items ≡ regions ++ c.in-Ok.region ∷ [] =
    c.push.ensures.items
    ∙ ap (λ b. if b then regions ++ c.in-Ok.region ∷ [] else regions) c.if-is_err.ensures.negation in
    subst (λ (all : List Region). AreReadSoFar g.R.Source.remaining g.R.Source.count g.R.Source.failed c.args.inputs.now
    (slice_set c.loop-input.inputs c.loop-input.input c.read_input.new.reader) (c.loop-input.input + 1) all) (sym more)
    (one_read g.R.Source.remaining g.R.Source.count g.R.Source.failed c.args.inputs.now c.loop-input.inputs
    c.loop-input.input regions this c.read_input.new.reader c.in-Ok.region so_far next read)
