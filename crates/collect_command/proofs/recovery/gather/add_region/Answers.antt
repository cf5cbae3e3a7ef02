use Rattle.std.proofs.Common.{List, All, sym, subst}
use Rattle.parcel_streams.specs.Answers.{pieces_seen}
use Rattle.parcel_streams.specs.declared.piece.Piece.{Piece}
use Rattle.collect_command.specs.recovery.Telling.{IsToldBy, MayBeTold}
use Rattle.collect_command.specs.recovery.Gathering.{gathering_of, StopsAmong}
use Rattle.collect_command.proofs.Told.{region_told}
use Rattle.collect_command.proofs.Adds.{on_err, stops_in_region}
use Rattle.collect_command.proofs.recovery.gather.add_region.Goals as goal

pub add_pieces-requires : goal.add_pieces-requires
add_pieces-requires g c =
    let told : IsToldBy c.args.region.now (pieces_seen c.in-Ok.pieces.items) =
    record { ended = c.in-Ok.ensures.ended; unended = c.in-Ok.ensures.open } in
    subst (λ (ps : List Piece). All MayBeTold ps) (sym c.deref.ensures.value)
    (region_told c.args.region.now c.in-Ok.pieces.items c.requires told)

pub returns-in-Ok-clause-stopped : goal.returns-in-Ok-clause-stopped
returns-in-Ok-clause-stopped g c =
    let told : IsToldBy c.args.region.now (pieces_seen c.in-Ok.pieces.items) =
    record { ended = c.in-Ok.ensures.ended; unended = c.in-Ok.ensures.open } in
    let old = gathering_of c.args.fleet.now c.args.out.now in
    let new = gathering_of c.add_pieces.new.fleet c.add_pieces.new.out in
    on_err c.add_pieces.result c.add_pieces.ensures.stopped
    (λ stop s. stops_in_region c.args.region.now c.in-Ok.pieces.items old new stop told
    (subst (λ (ps : List Piece). StopsAmong ps old new stop) c.deref.ensures.value s))
