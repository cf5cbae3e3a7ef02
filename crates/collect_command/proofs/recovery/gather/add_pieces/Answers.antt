use Rattle.std.proofs.Common.{suc, ◌+◌, ◌-◌, ◌^◌, min, List, [], ◌∷◌, ◌++◌, length, take, drop, sym, ap, ◌∙◌}
use Rattle.std.proofs.Common.{subst}
use Rattle.parcel_streams.specs.declared.piece.Piece.{Piece}
use Rattle.fleet_collector.specs.Pieces.{IsRefusal}
use Rattle.collect_command.specs.recovery.Gathering.{gathering_of, AddsOne, AddsAll, AreCounted}
use Rattle.collect_command.proofs.Adds.{adds_more, counted_more, cut_at, next_taken}
use Rattle.collect_command.proofs.recovery.gather.add_pieces.Goals as goal

pub returns-in_default-clause-stopped : goal.returns-in_default-clause-stopped
returns-in_default-clause-stopped g c =
    let ps = c.args.pieces.now in
    let k = c.loop-piece.piece-index in
    let item = c.piece-item.result in
    record {
      front = take k ps;
      piece = item;
      behind = drop (suc k) ps;
      pieces_are = cut_at ps k item c.loop-piece-test.true c.piece-item.is;
      adds = c.loop-piece.invariant.added;
      why = tt;
    }

pub returns-in-Err-clause-stopped : goal.returns-in-Err-clause-stopped
returns-in-Err-clause-stopped g c =
    let ps = c.args.pieces.now in
    let k = c.loop-piece.piece-index in
    let item = c.piece-item.result in
    let inv = c.loop-piece.invariant in
    let start = gathering_of c.args.fleet.now c.args.out.now in
    record {
      front = take k ps;
      piece = item;
      behind = drop (suc k) ps;
      pieces_are = cut_at ps k item c.loop-piece-test.true c.piece-item.is;
      adds = subst (AddsAll (take k ps) start) (sym c.in-Err.ensures.unchanged) inv.added;
      why = (
        inv.counted,
        c.origin_of.ensures,
        subst (λ (p : Piece). IsRefusal c.add_piece.new.fleet p c.in-Err.refusal) c.in-Ok.ensures.piece
            c.in-Err.ensures.refused,
      );
    }

pub loop-piece-preserved : goal.loop-piece-preserved
loop-piece-preserved g c =
    let ps = c.args.pieces.now in
    let k = c.loop-piece.piece-index in
    let item = c.piece-item.result in
    let inv = c.loop-piece.invariant in
    let start = gathering_of c.args.fleet.now c.args.out.now in
    let mid = gathering_of c.loop-piece.fleet c.loop-piece.out in
    let now = gathering_of c.add_piece.new.fleet c.add_piece.new.out in
    let next = next_taken ps k item c.loop-piece-test.true c.piece-item.is in
    let one : AddsOne item mid now =
    subst (λ (p : Piece). AddsOne p mid now) c.in-Ok.ensures.piece c.in_default-add_piece.ensures.added in
    let more = counted_more (take k ps) item c.loop-piece.index c.loop-piece.at inv.counted in
    let len = c.len.ensures ∙ sym c.deref.ensures.len ∙ ap length (c.deref.ensures.value ∙ c.in-Ok.ensures.bytes) in
    let counted : AreCounted (take k ps ++ item ∷ []) c.saturating_add-index.result c.saturating_add-at.result =
    record {
      index_is = c.saturating_add-index.ensures ∙ more.index_is;
      at_is = c.saturating_add-at.ensures ∙ ap (λ n. min (c.loop-piece.at + n) (2 ^ 64 - 1)) len ∙ more.at_is;
    } in
    record {
      added = subst (λ (xs : List Piece). AddsAll xs start now) next
          (adds_more (take k ps) start mid now item inv.added c.in-Ok.ensures.sound one);
      counted = subst (λ (xs : List Piece). AreCounted xs c.saturating_add-index.result c.saturating_add-at.result) next
          counted;
    }
