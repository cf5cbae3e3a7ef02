use Rattle.std.proofs.Common.{◌≡◌, ◌++◌, ◌∙◌, [], List, ℕ, take, sym, ap, subst, append-nil, arith}
use Rattle.std.specs.Io.KnownBytes.{Consumes}
use Rattle.std.proofs.KnownBytes.{Consumes-nil}
use Rattle.std.proofs.lemmas.Grind.{common_steps}
use Rattle.capture.proofs.FirstRead.{rest-more, still-sound}
use Rattle.capture.proofs.files.first.read_rest.Goals as goal

pub loop-count-init : goal.loop-count-init
loop-count-init g c = record {
  read = (
    [],
    c.in_ok-extend_from_slice.ensures.items ∙ ap (λ (xs : List ℕ). xs ++ c.args.first.now) c.new-file.ensures.items
        ∙ sym (append-nil c.args.first.now),
    Consumes-nil (g.R.Source.remaining c.args.reader.now),
  );
  roomy = c.in_ok-chunk.ensures.len;
  sound = c.requires;
}

pub returns-then-count-lt-READ_CHUNK-clause-whole : goal.returns-then-count-lt-READ_CHUNK-clause-whole
returns-then-count-lt-READ_CHUNK-clause-whole g c =
    let same : take c.in-Ok.count c.fill_piece.new.piece ≡ take c.in-Ok.count c.deref.result.now =
    grind (arith, common_steps) in
    rest-more _ c.loop-count.file.items _ (take c.in-Ok.count c.deref.result.now) _ _ _ c.loop-count.invariant.read
    c.in_ok-extend_from_slice-2.ensures.items (subst (Consumes _ _) same c.in-Ok.ensures.taken)

pub loop-count-preserved : goal.loop-count-preserved
loop-count-preserved g c =
    let same : take c.in-Ok.count c.fill_piece.new.piece ≡ take c.in-Ok.count c.deref.result.now =
    grind (arith, common_steps) in
    record {
      read =
          rest-more _ c.loop-count.file.items _ (take c.in-Ok.count c.deref.result.now) _ _ _
          c.loop-count.invariant.read
          c.in_ok-extend_from_slice-2.ensures.items (subst (Consumes _ _) same c.in-Ok.ensures.taken);
      roomy = c.loop-count.invariant.roomy;
      sound = still-sound _ c.in-Ok.ensures.fails.0;
    }
