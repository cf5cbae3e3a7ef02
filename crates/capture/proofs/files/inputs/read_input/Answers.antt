use Rattle.std.proofs.Common.{◌≡◌, ℕ, false, List, length, take, sym, subst, arith}
use Rattle.std.specs.Io.KnownBytes.{Consumes}
use Rattle.std.proofs.lemmas.Grind.{common_steps}
use Rattle.capture.specs.files.Files.{is_dat}
use Rattle.capture.specs.files.Captures.{AreFilesRead, unsaid}
use Rattle.capture.proofs.Answers.{on_ok}
use Rattle.capture.proofs.RestFaults.{if_err, added-before, fault-before, added-sized, fault-sized}
use Rattle.capture.proofs.files.inputs.read_input.Goals as goal

pub returns-then-is_dat-clause-read : goal.returns-then-is_dat-clause-read
returns-then-is_dat-clause-read g c = λ files alone count was.
    let first : List ℕ = take c.in-Ok.filled c.deref-then-is_dat.result.now in
    let same : take c.in-Ok.filled c.fill_piece.new.piece ≡ first = grind (arith, common_steps) in
    on_ok c.read_dat.result
    (added-before c.args.losses c.args.page c.args.name.now c.args.input.now.cpu.0 first _ _ _ files
    c.read_dat.new.captured
    (subst (Consumes _ _) same c.in-Ok.ensures.taken))
    (c.read_dat.ensures.read c.args.page c.args.input.now.cpu.0 files alone count was)

pub returns-then-is_dat-clause-fault : goal.returns-then-is_dat-clause-fault
returns-then-is_dat-clause-fault g c = λ files alone was.
    let first : List ℕ = take c.in-Ok.filled c.deref-then-is_dat.result.now in
    let same : take c.in-Ok.filled c.fill_piece.new.piece ≡ first = grind (arith, common_steps) in
    if_err c.read_dat.result
    (fault-before c.args.losses c.args.page c.args.name.now c.args.input.now.cpu.0 first _ _ _ _ files
    (subst (Consumes _ _) same c.in-Ok.ensures.taken))
    (c.read_dat.ensures.fault c.args.page c.args.input.now.cpu.0 files alone was)

pub returns-clause-read : goal.returns-clause-read
returns-clause-read g c = λ files alone count was.
    let piece : List ℕ = c.as_mut_slice-2.result.now in
    let first : List ℕ = take c.in-Ok.filled piece in
    let same : take c.in-Ok.filled c.fill_piece.new.piece ≡ first = grind (arith, common_steps) in
    let long : length piece ≡ c.args.page = grind (arith, common_steps) in
    let raw : is_dat c.args.name.now first ≡ false = grind (arith, common_steps) in
    on_ok c.read_raw.result
    (added-sized c.args.losses (length piece) c.args.page c.args.name.now c.args.input.now.cpu.0 first _ _ _ files
    c.read_raw.new.captured long (subst (Consumes _ _) same c.in-Ok.ensures.taken))
    (c.read_raw.ensures.read c.args.losses c.args.name.now files raw
    (subst (λ (n : ℕ). AreFilesRead unsaid n c.args.name.now files c.args.captured.now) (sym long) was))

pub returns-clause-fault : goal.returns-clause-fault
returns-clause-fault g c = λ files alone was.
    let piece : List ℕ = c.as_mut_slice-2.result.now in
    let first : List ℕ = take c.in-Ok.filled piece in
    let same : take c.in-Ok.filled c.fill_piece.new.piece ≡ first = grind (arith, common_steps) in
    let long : length piece ≡ c.args.page = grind (arith, common_steps) in
    let raw : is_dat c.args.name.now first ≡ false = grind (arith, common_steps) in
    if_err c.read_raw.result
    (fault-sized c.args.losses
    (length piece) c.args.page c.args.name.now c.args.input.now.cpu.0 first _ _ _ _ files long
    (subst (Consumes _ _) same c.in-Ok.ensures.taken))
    (c.read_raw.ensures.fault c.args.losses c.args.name.now files raw
    (subst (λ (n : ℕ). AreFilesRead unsaid n c.args.name.now files c.args.captured.now) (sym long) was))
