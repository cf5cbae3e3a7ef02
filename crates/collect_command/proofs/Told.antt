-- The pieces that regions state.
use Rattle.std.proofs.Common.{◌≡◌, ◌<◌, ℕ, Bool, true, false, true≢false, List, [], ◌∷◌, ◌++◌, map, append_assoc}
use Rattle.std.proofs.Common.{append-nil, Option, Some, None, All, refl, sym, ap, ◌∙◌, subst}
use Rattle.std.proofs.lemmas.List.Elements.{All-nil, All-cons}
use Rattle.trace_model.specs.declared.limits.TheConstants.{MAX_CPUS}
use Rattle.page_numbers.specs.Parcels.{ParcelValue}
use Rattle.parcel_streams.specs.Pieces.{Packed}
use Rattle.parcel_streams.specs.Answers.{piece_seen, pieces_seen, piece_of_parcel}
use Rattle.parcel_streams.specs.declared.piece.Mark.TheVariants.{End, Forgotten, Undelivered}
use Rattle.parcel_streams.specs.declared.piece.Piece.{Piece}
use Rattle.parcel_streams.specs.declared.piece.Piece.TheVariants.{Parcel as ParcelPiece, Mark as MarkPiece}
use Rattle.ring_region.specs.declared.faults.Damaged.{Damaged}
use Rattle.ring_region.specs.declared.headers.Header.{Header}
use Rattle.ring_region.specs.declared.regions.Region.{Region}
use Rattle.ring_region.specs.Regions.{count_in}
use Rattle.ring_region.specs.Answers.{region_seen, pieces_of, end_pieces}
use Rattle.collect_command.specs.recovery.Telling.{IsToldBy, AreToldBy, MayBeTold}

-- the pieces of one region more
pub told_more : (front : List Region) (pieces : List Piece) (region : Region) (own : List Piece)
    → AreToldBy front pieces → IsToldBy region (pieces_seen own) → AreToldBy (front ++ region ∷ []) (pieces ++ own)
told_more [] pieces region own none told =
    (own, [], ap (λ ps. ps ++ own) none ∙ sym (append-nil own), told, refl)
told_more (r ∷ rs) pieces region own (first, others, is, one, more) told = (
  first,
  others ++ own,
  ap (λ ps. ps ++ own) is ∙ append_assoc first others own,
  one,
  told_more rs others region own more told,
)

-- whether a region is clean, its pieces are those that it has with some count of records, or with none
told_some : (region : Region) (pieces : List Packed) → IsToldBy region pieces
    → (count : Option ℕ) × (pieces ≡ pieces_of region count)
told_some region pieces told = by region.header.ended region.damaged.items refl refl
  where
    by : (ended : Bool) (damaged : List Damaged) → region.header.ended ≡ ended → region.damaged.items ≡ damaged
        → (count : Option ℕ) × (pieces ≡ pieces_of region count)
    by true [] is none = (Some (count_in (region_seen region)), told.ended record { ended = is; undamaged = none })
    by true (x ∷ xs) is some =
        (None, told.unended (λ clean. let wrong : [] ≡ x ∷ xs = sym clean.undamaged ∙ some in absurd (cc)))
    by false damaged is some = (None, told.unended (λ clean. true≢false (sym clean.ended ∙ is)))

mark_told : (header : Header) (piece : Piece) (pieces : List Piece) (count : Option ℕ) → header.cpu.0 < MAX_CPUS
    → piece_seen piece ∷ pieces_seen pieces ≡ end_pieces header count → MayBeTold piece × (pieces ≡ [])
mark_told header piece pieces None known is = absurd (cc)
mark_told header (ParcelPiece stream parcel) pieces (Some count) known is = absurd (cc)
mark_told header (MarkPiece stream cpu (End end)) [] (Some count) known is =
    let same : cpu.0 ≡ header.cpu.0 = cc in (subst (λ n. n < MAX_CPUS) (sym same) known, refl)
mark_told header (MarkPiece stream cpu (End end)) (x ∷ xs) (Some count) known is = absurd (cc)
mark_told header (MarkPiece stream cpu (Forgotten bound)) pieces (Some count) known is = absurd (cc)
mark_told header (MarkPiece stream cpu (Undelivered first end)) pieces (Some count) known is = absurd (cc)

parcel_told : (stream : ℕ) (piece : Piece) (pieces : List Piece) (parcel : ParcelValue) (rest : List Packed)
    → piece_seen piece ∷ pieces_seen pieces ≡ piece_of_parcel stream parcel ∷ rest
    → MayBeTold piece × (pieces_seen pieces ≡ rest)
parcel_told stream (ParcelPiece of own) pieces parcel rest is = (tt, cc)
parcel_told stream (MarkPiece of cpu mark) pieces parcel rest is = absurd (cc)

-- Each of a region's pieces is one that a region may state.
pieces_told : (header : Header) (pieces : List Piece) (parcels : List ParcelValue) (count : Option ℕ)
    → header.cpu.0 < MAX_CPUS
    → pieces_seen pieces ≡ map (piece_of_parcel header.stream.0) parcels ++ end_pieces header count
    → All MayBeTold pieces
pieces_told header [] parcels count known is = All-nil MayBeTold
pieces_told header (piece ∷ pieces) [] count known is =
    let last = mark_told header piece pieces count known is in
    All-cons MayBeTold piece pieces last.0 (subst (All MayBeTold) (sym last.1) (All-nil MayBeTold))
pieces_told header (piece ∷ pieces) (parcel ∷ parcels) count known is =
    let one = parcel_told header.stream.0 piece pieces parcel
    (map (piece_of_parcel header.stream.0) parcels ++ end_pieces header count) is in
    All-cons MayBeTold piece pieces one.0 (pieces_told header pieces parcels count known one.1)

pub region_told : (region : Region) (pieces : List Piece) → region.header.cpu.0 < MAX_CPUS
    → IsToldBy region (pieces_seen pieces) → All MayBeTold pieces
region_told region pieces known told =
    let some = told_some region (pieces_seen pieces) told in
    pieces_told region.header pieces region.parcels.items some.0 known some.1
