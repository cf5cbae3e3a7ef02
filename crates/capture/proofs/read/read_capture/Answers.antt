use Rattle.std.proofs.Common.{◌≡◌, Err, [], List, ℕ, length, take, subst, arith}
use Rattle.std.specs.Io.KnownBytes.{Consumes}
use Rattle.std.proofs.lemmas.Grind.{common_steps}
use Rattle.capture.specs.Reading.{IsReadOn, IsReadOnPast, IsReadOnSmaller}
use Rattle.capture.specs.declared.pages.CaptureFault.TheVariants.{Numbers}
use Rattle.capture.specs.declared.read.ReadFault.TheVariants.{Capture as CaptureIs, SmallerPages}
use Rattle.capture.proofs.ReadingOn.{read-whole, read-whole-past, read-whole-smaller}
use Rattle.capture.proofs.read.read_capture.Goals as goal

pub returns-in_err-read_on-clause-numbers : goal.returns-in_err-read_on-clause-numbers
returns-in_err-read_on-clause-numbers g c = λ numbers.
    let reported : c.read_on.result ≡ Err (CaptureIs Numbers) = grind (arith, common_steps) in
    let piece : List ℕ = c.as_mut_slice-2.result.now in
    let same : take c.in-Ok.filled c.fill_piece.new.piece ≡ take c.in-Ok.filled piece = grind (arith, common_steps) in
    let long : length piece ≡ c.args.size = grind (arith, common_steps) in
    read-whole-past c.args.size (take c.in-Ok.filled piece) _ _ _ (subst (Consumes _ _) same c.in-Ok.ensures.taken)
    (subst (λ (n : ℕ).
    IsReadOnPast n (take c.in-Ok.filled piece) (g.R.Source.remaining c.fill_piece.new.reader)
    (g.R.Source.remaining c.read_on.new.reader) [])
    long (c.read_on.ensures.numbers [] c.new-capture.ensures.none reported))

pub returns-in_err-read_on-clause-smaller : goal.returns-in_err-read_on-clause-smaller
returns-in_err-read_on-clause-smaller g c = λ smaller is.
    let reported : c.read_on.result ≡ Err (SmallerPages smaller) = grind (arith, common_steps) in
    let piece : List ℕ = c.as_mut_slice-2.result.now in
    let same : take c.in-Ok.filled c.fill_piece.new.piece ≡ take c.in-Ok.filled piece = grind (arith, common_steps) in
    let long : length piece ≡ c.args.size = grind (arith, common_steps) in
    read-whole-smaller c.args.size (take c.in-Ok.filled piece) _ _ _ smaller
    (subst (Consumes _ _) same c.in-Ok.ensures.taken)
    (subst (λ (n : ℕ).
    IsReadOnSmaller n (take c.in-Ok.filled piece) (g.R.Source.remaining c.fill_piece.new.reader)
    (g.R.Source.remaining c.read_on.new.reader) smaller)
    long (c.read_on.ensures.smaller smaller reported))

pub returns-clause-read : goal.returns-clause-read
returns-clause-read g c =
    let piece : List ℕ = c.as_mut_slice-2.result.now in
    let same : take c.in-Ok.filled c.fill_piece.new.piece ≡ take c.in-Ok.filled piece = grind (arith, common_steps) in
    let long : length piece ≡ c.args.size = grind (arith, common_steps) in
    read-whole c.args.size (take c.in-Ok.filled piece) _ _ _ c.read_on.new.capture c.in_ok-read_on.field-0
    (subst (Consumes _ _) same c.in-Ok.ensures.taken)
    (subst (λ (n : ℕ).
    IsReadOn n (take c.in-Ok.filled piece) (g.R.Source.remaining c.fill_piece.new.reader)
    (g.R.Source.remaining c.read_on.new.reader) [] c.read_on.new.capture c.in_ok-read_on.field-0)
    long (c.in_ok-read_on.ensures.read [] c.new-capture.ensures.none))
