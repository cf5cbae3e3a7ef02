use Rattle.std.proofs.Common.{◌≡◌, ℕ, ◌<◌, ◌≤◌, false, ⊎_elim, List, Result, Ok, Err, length, sym, ap, ◌∙◌, subst}
use Rattle.std.proofs.Common.{arith}
use Rattle.std.proofs.lemmas.Bool.{true≢false, eq-eqb}
use Rattle.std.specs.Prelude.{◌==◌, is_err, OnOk}
use Rattle.std.proofs.lemmas.Bool.{cases_lt}
use Rattle.std.proofs.lemmas.Result.{err_from_is_err_and}
use Rattle.std.specs.Io.KnownBytes.{Keeps, prepend_known}
use Rattle.parcel_streams.specs.declared.fault.PieceFault.{PieceFault}
use Rattle.parcel_streams.specs.declared.fault.PieceFault.TheVariants.{NoMemory}
use Rattle.parcel_streams.specs.Faults.{FirstPieceFault}
use Rattle.parcel_streams.specs.Pieces.{BeginsWith}
use Rattle.parcel_streams.specs.Answers.{piece_fault, piece_seen, HasPiece}
use Rattle.parcel_streams.specs.declared.source.fault.ReadPieceFault.{ReadPieceFault}
use Rattle.parcel_streams.specs.declared.source.fault.ReadPieceFault.TheVariants.{Piece as PieceIs}
use Rattle.parcel_streams.specs.source.Held.{held_unread}
use Rattle.parcel_streams.specs.source.Reading.{IsEnough}
use Rattle.parcel_streams.specs.source.Readers.{left_of}
use Rattle.parcel_streams.proofs.Left.{reads_kept, gives_piece, fault_ahead, piece_ahead}
use Rattle.parcel_streams.proofs.source.reader.PieceReader.next.Goals as goal

same_err : {T : Type 0} (e f : ReadPieceFault) → (let r : Result T ReadPieceFault = Err e in r) ≡ Err f → e ≡ f
same_err e f is = cc

same_piece : (e f : PieceFault) → PieceIs e ≡ PieceIs f → e ≡ f
same_piece e f is = cc

some_there : (unread shown : List ℕ) → shown ≡ unread → false ≡ (length shown == 0) → 0 < length unread
some_there unread shown is test = ⊎_elim
    (λ (none : length unread < 1).
    absurd (true≢false (sym (eq-eqb (length shown) 0 (ap length is ∙ omega arith)) ∙ sym test)))
    (λ (some : 1 ≤ length unread). omega arith)
    (cases_lt (length unread) 1)

ok_holds : {T E : Type 0} (r : Result T E) (P : Type 0) → false ≡ is_err r → OnOk r P → P
ok_holds (Ok x) P test holds = holds
ok_holds (Err e) P test holds = absurd (true≢false (sym test))

pub returns-in_err-piece-clause-fault : goal.returns-in_err-piece-clause-fault
returns-in_err-piece-clause-fault g c = λ cause e.
    let remaining = g.R.Source.remaining in
    let unread : List ℕ = held_unread c.fill.new.window in
    let old = left_of remaining c.args.self.now in
    let kept : Keeps old (prepend_known unread (remaining c.fill.new.source)) =
    reads_kept (held_unread c.args.self.now.window) (held_unread c.give.new.self) unread
    (remaining c.args.self.now.source) (remaining c.fill.new.source) c.give.ensures.unread c.fill.ensures.read in
    let more : 0 < length unread = some_there unread c.unread.result.now c.unread.ensures c.if-is_empty.ensures in
    let p = err_from_is_err_and c.from_residual.result c.from_residual.ensures.1 in
    let is : c.in_err-piece.field-0.0 ≡ piece_fault cause = same_piece _ _ (sym p.2 ∙ same_err _ _ (sym p.1 ∙ e)) in
    let first : FirstPieceFault unread cause =
    subst (λ (b : List ℕ). FirstPieceFault b cause) c.unread-2.ensures
    ((c.in_err-piece.ensures.fault cause).0 (ap Err is)) in
    let enough : IsEnough unread (remaining c.fill.new.source) = ok_holds c.fill.result _ c.if-is_err.ensures.value
    c.fill.ensures.enough in
    fault_ahead unread (remaining c.fill.new.source) old cause kept enough more first

pub returns-in_err-piece-clause-no_memory : goal.returns-in_err-piece-clause-no_memory
returns-in_err-piece-clause-no_memory g c = λ e.
    let remaining = g.R.Source.remaining in
    let unread : List ℕ = held_unread c.fill.new.window in
    let old = left_of remaining c.args.self.now in
    let kept : Keeps old (prepend_known unread (remaining c.fill.new.source)) =
    reads_kept (held_unread c.args.self.now.window) (held_unread c.give.new.self) unread
    (remaining c.args.self.now.source) (remaining c.fill.new.source) c.give.ensures.unread c.fill.ensures.read in
    let p = err_from_is_err_and c.from_residual.result c.from_residual.ensures.1 in
    let is : c.in_err-piece.field-0.0 ≡ NoMemory = same_piece _ _ (sym p.2 ∙ same_err _ _ (sym p.1 ∙ e)) in
    let has : HasPiece unread = subst HasPiece c.unread-2.ensures (c.in_err-piece.ensures.no_memory (ap Err is)) in
    piece_ahead unread (remaining c.fill.new.source) old kept has

pub returns-clause-piece : goal.returns-clause-piece
returns-clause-piece g c =
    let remaining = g.R.Source.remaining in
    let unread : List ℕ = held_unread c.fill.new.window in
    let old = left_of remaining c.args.self.now in
    let kept : Keeps old (prepend_known unread (remaining c.fill.new.source)) =
    reads_kept (held_unread c.args.self.now.window) (held_unread c.give.new.self) unread
    (remaining c.args.self.now.source) (remaining c.fill.new.source) c.give.ensures.unread c.fill.ensures.read in
    let piece = piece_seen c.in_ok-piece.piece in
    let begins : BeginsWith unread piece =
    subst (λ (b : List ℕ). BeginsWith b piece) c.unread-2.ensures c.in_ok-piece.ensures.piece in
    gives_piece unread (held_unread c.give-2.new.self) (remaining c.fill.new.source) old piece c.in_ok-piece.len kept
    begins c.in_ok-piece.ensures.len c.give-2.ensures.unread
