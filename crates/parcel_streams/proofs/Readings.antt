-- A piece at the front of some bytes: what the bytes state decides it.
use Rattle.std.proofs.Common.{◌≡◌, ℕ, ◌+◌, ◌-◌, ◌<◌, ◌≤◌, List, ◌++◌, length, drop, refl, sym, ap, ◌∙◌, subst, arith}
use Rattle.std.proofs.Common.{length-drop, length-take-le}
use Rattle.std.proofs.lemmas.List.{drop-drop}
use Rattle.trace_model.specs.FirstFault.{AreBytes}
use Rattle.trace_model.specs.Image.{le64, from_le64, commit_word, commit_of, stored_count, filled, image_of}
use Rattle.trace_model.specs.Parcel.{Parcel as ParcelSeen}
use Rattle.trace_model.specs.ParcelBytes.{bytes_of_parcel, DecodesParcel, FirstParcelFault}
use Rattle.trace_model.proofs.words.OneWord.{AreBytes-drop, AreBytes-take}
use Rattle.trace_model.proofs.images.ImageParts.{from_le64-le64, from_le64_lt, drop-le64}
use Rattle.trace_model.proofs.images.Images.{length-image_of}
use Rattle.trace_model.proofs.images.ParcelParts.{HasNumbers-are}
use Rattle.trace_model.proofs.images.Parcels.{length-bytes_of_parcel, DecodesParcel-bytes_of_parcel}
use Rattle.trace_model.proofs.images.Parcels.{DecodesParcel-unique}
use Rattle.parcel_streams.specs.declared.piece.Mark.{Mark}
use Rattle.parcel_streams.specs.declared.piece.Piece.{Piece}
use Rattle.parcel_streams.specs.declared.frame.Frame.{Frame}
use Rattle.parcel_streams.specs.declared.fault.PieceFault.{PieceFault}
use Rattle.parcel_streams.specs.declared.fault.PieceFault.TheVariants.{NotPacked, Cut, BadVersion, BadLength, BadSum}
use Rattle.parcel_streams.specs.declared.fault.PieceFault.TheVariants.{BadKind, Parcel, Loose, BadMark, NoMemory}
use Rattle.parcel_streams.specs.Pieces.{Packed, parcel_piece, mark_piece, kind_of_mark, numbers_of_mark, sealed}
use Rattle.parcel_streams.specs.Pieces.{bytes_of_piece, IsParcelPiece, IsPiece, BeginsWith}
use Rattle.parcel_streams.specs.Faults.{length_in, kind_in, stream_in, body_in, IsSealed, HoldsParcel, IsFitted}
use Rattle.parcel_streams.specs.Faults.{IsLoose, IsBadMark}
use Rattle.parcel_streams.specs.Answers.{piece_seen, HasPiece, IsPieceFault, HasFrame, HasBody, IsBodyFault}
use Rattle.parcel_streams.specs.Answers.{mark_stated, IsMarkBody}
use Rattle.parcel_streams.proofs.Frames.{length-sealed, FrameIs, frame_is, sealed_there}
use Rattle.parcel_streams.proofs.Fitted.{filled_is, fitted_from, IsTight-from}
use Rattle.parcel_streams.proofs.Marks.{kind_least, kind_most, length-mark, mark_least, mark_most, stated_is}

-- ---- from a frame

pub body_len : (bytes : List ℕ) → IsSealed bytes → length (body_in bytes) ≡ length_in bytes - 40
body_len bytes seal =
    let there = seal.whole.there in
    let least = seal.whole.stated.least in
    length-take-le (length_in bytes - 32 - 8) (drop 32 bytes) (omega (arith, length-drop 32 bytes)) ∙ omega arith

pub AreBytes-body : (bytes : List ℕ) → AreBytes bytes → AreBytes (body_in bytes)
AreBytes-body bytes small = AreBytes-take (length_in bytes - 32 - 8) (drop 32 bytes) (AreBytes-drop 32 bytes small)

-- the bytes begin with what their head states
pub begins : (bytes : List ℕ) (piece : Packed) → AreBytes bytes → IsSealed bytes → IsPiece piece
    → bytes_of_piece piece ≡ sealed (kind_in bytes) (stream_in bytes) (body_in bytes) → BeginsWith bytes piece
begins bytes piece small seal sound is = record {
  sound = sound;
  rest = drop (length_in bytes) bytes;
  whole = sealed_there bytes small seal ∙ ap (λ (b : List ℕ). b ++ drop (length_in bytes) bytes) (sym is);
}

framed : (bytes : List ℕ) (frame : Frame) → HasFrame bytes frame
    → sealed frame.kind frame.stream.0 frame.body.now ≡ sealed (kind_in bytes) (stream_in bytes) (body_in bytes)
framed bytes frame h = (λ i. sealed (h.kind_is i) (h.stream_is i) (h.body_is i))

pub begins_framed : (bytes : List ℕ) (frame : Frame) (piece : Piece) → AreBytes bytes → HasFrame bytes frame
    → HasBody frame piece → BeginsWith bytes (piece_seen piece)
begins_framed bytes frame piece small h b = begins bytes (piece_seen piece) small h.seal b.sound
    (b.bytes_are ∙ framed bytes frame h)

pub len_framed : (bytes : List ℕ) (frame : Frame) (piece : Piece) → HasFrame bytes frame → HasBody frame piece
    → frame.len ≡ length (bytes_of_piece (piece_seen piece))
len_framed bytes frame piece h b =
    let least = h.seal.whole.stated.least in
    let len = h.len_is in
    let whole = ap length b.bytes_are in
    let body = ap length h.body_is in
    omega (arith, body_len bytes h.seal, length-sealed frame.kind frame.stream.0 frame.body.now)

-- ---- a parcel or a mark that is stated

pub has_parcel : (bytes : List ℕ) (parcel : ParcelSeen) → AreBytes bytes → HoldsParcel bytes
    → DecodesParcel (body_in bytes) parcel → IsFitted (body_in bytes) parcel → HasPiece bytes
has_parcel bytes parcel small h d fitted =
    let body : List ℕ = body_in bytes in
    let fit = fitted_from body parcel d (IsTight-from body parcel d fitted) in
    let own : List ℕ = drop 48 body in
    let piece : Packed = parcel_piece (stream_in bytes) parcel d.image.time own in (
      piece,
      begins bytes piece small h.seal (record {
        stream_fits = from_le64_lt (drop 24 bytes) (AreBytes-drop 24 bytes small);
        sound = d.sound;
        fill_fits = fit.fill_fits;
        time_fits = fit.time_fits;
        size_fits = fit.size_fits;
        reads = fit.reads;
      }) (λ i. sealed (sym h.kind_is i) (stream_in bytes) (sym fit.body_is i)),
    )

pub has_mark : (bytes : List ℕ) (cpu : ℕ) (mark : Mark) → AreBytes bytes → IsSealed bytes
    → IsMarkBody (kind_in bytes) (body_in bytes) cpu mark → HasPiece bytes
has_mark bytes cpu mark small seal is =
    let piece : Packed = mark_piece (stream_in bytes) cpu mark in (
      piece,
      begins bytes piece small seal (record {
        stream_fits = from_le64_lt (drop 24 bytes) (AreBytes-drop 24 bytes small);
        cpu_known = is.cpu_known;
        sound = is.sound;
      }) (λ i. sealed (is.kind_is i) (stream_in bytes) (sym is.body_is i)),
    )

-- ---- faults of what a kind has of its own

holds_parcel : (bytes : List ℕ) (frame : Frame) → HasFrame bytes frame → frame.kind ≡ 0 → HoldsParcel bytes
holds_parcel bytes frame h is = record { seal = h.seal; kind_is = sym h.kind_is ∙ is }

pub fault_framed : (bytes : List ℕ) (frame : Frame) (fault : PieceFault) → AreBytes bytes → HasFrame bytes frame
    → IsBodyFault frame.kind frame.body.now fault → IsPieceFault bytes fault
fault_framed bytes frame NotPacked small h b = absurd b
fault_framed bytes frame Cut small h b = absurd b
fault_framed bytes frame BadVersion small h b = absurd b
fault_framed bytes frame BadLength small h b = absurd b
fault_framed bytes frame BadSum small h b = absurd b
fault_framed bytes frame BadKind small h b = (h.seal, subst (λ (k : ℕ). 3 < k) h.kind_is b)
fault_framed bytes frame (Parcel fault) small h b =
    (b.1.0, b.1.1, (holds_parcel bytes frame h b.0, subst (λ (x : List ℕ). FirstParcelFault x b.1.0) h.body_is b.1.2))
fault_framed bytes frame Loose small h b = (holds_parcel bytes frame h b.0, subst IsLoose h.body_is b.1)
fault_framed bytes frame BadMark small h b = (
  record {
    seal = h.seal;
    kind_least = subst (λ (k : ℕ). 1 ≤ k) h.kind_is b.0;
    kind_most = subst (λ (k : ℕ). k ≤ 3) h.kind_is b.1;
  },
  subst (IsBadMark (kind_in bytes)) h.body_is (subst (λ (k : ℕ). IsBadMark k frame.body.now) h.kind_is b.2),
)
fault_framed bytes frame NoMemory small h b =
    has_parcel bytes b.1.0 small (holds_parcel bytes frame h b.0)
    (subst (λ (x : List ℕ). DecodesParcel x b.1.0) h.body_is b.1.1)
    (subst (λ (x : List ℕ). IsFitted x b.1.0) h.body_is b.1.2)

-- ---- what the bytes of a piece state

pub length-body : (parcel : ParcelSeen) (time : ℕ) (contents : List ℕ)
    → length (bytes_of_parcel parcel time contents (length contents)) ≡ 48 + length contents
length-body parcel time contents = length-bytes_of_parcel parcel time contents (length contents) (omega arith)

pub parcel_frame : (bytes : List ℕ) (stream : ℕ) (parcel : ParcelSeen) (time : ℕ) (contents : List ℕ)
    (b : BeginsWith bytes (parcel_piece stream parcel time contents))
    → FrameIs bytes 0 stream (bytes_of_parcel parcel time contents (length contents)) b.rest
parcel_frame bytes stream parcel time contents b =
    let fits = b.sound.size_fits in
    let len = length-body parcel time contents in
    frame_is bytes 0 stream (bytes_of_parcel parcel time contents (length contents)) b.rest b.whole (omega arith)
    b.sound.stream_fits (omega arith) (omega arith)

pub mark_frame : (bytes : List ℕ) (stream cpu : ℕ) (mark : Mark) (b : BeginsWith bytes (mark_piece stream cpu mark))
    → FrameIs bytes (kind_of_mark mark) stream (le64 cpu ++ numbers_of_mark mark) b.rest
mark_frame bytes stream cpu mark b =
    let kind : ℕ = kind_of_mark mark in
    let low = kind_least mark in
    let high = kind_most mark in
    let len = length-mark cpu mark in
    let least = mark_least kind low high in
    let most = mark_most kind low high in
    frame_is bytes kind stream (le64 cpu ++ numbers_of_mark mark) b.rest b.whole (omega arith) b.sound.stream_fits
    (omega arith) (omega arith)

pub decodes : (stream : ℕ) (parcel : ParcelSeen) (time : ℕ) (contents : List ℕ)
    → IsParcelPiece stream parcel time contents
    → DecodesParcel (bytes_of_parcel parcel time contents (length contents)) parcel
decodes stream parcel time contents is =
    let fits = is.size_fits in
    DecodesParcel-bytes_of_parcel parcel time contents (length contents) is.sound is.fill_fits is.time_fits
    (omega arith) (omega arith) is.reads

-- the time and the data that a parcel's bytes were written with
pub record WrittenWith (body : List ℕ) (time : ℕ) (contents : List ℕ) : Type 0 where
  pub time_is : time ≡ from_le64 (drop 32 body)
  pub contents_are : contents ≡ drop 48 body

pub written_with : (stream : ℕ) (parcel : ParcelSeen) (time : ℕ) (contents : List ℕ)
    → IsParcelPiece stream parcel time contents
    → WrittenWith (bytes_of_parcel parcel time contents (length contents)) time contents
written_with stream parcel time contents is =
    let size : ℕ = length contents in
    let body : List ℕ = bytes_of_parcel parcel time contents size in
    let image : List ℕ = image_of time contents parcel.missed size in
    let cpu_known = is.sound.cpu_known in
    let numbers_fit = is.sound.numbers_fit in
    let missed_fit = is.sound.missed_fit in
    let image_len = length-image_of time contents parcel.missed size (omega arith) in
    let numbers = HasNumbers-are body parcel.cpu parcel.fill parcel.first parcel.missed image (record {
      whole = refl;
      cpu_fits = omega arith;
      fill_fits = is.fill_fits;
      first_fits = omega arith;
      missed_fits = omega arith;
      long = omega arith;
    }) in
    let word : ℕ = commit_word (commit_of contents parcel.missed size) in
    let rest : List ℕ = filled contents (stored_count contents parcel.missed size) size in
    let forty : drop 40 body ≡ le64 word ++ rest = sym (drop-drop 8 32 body) ∙ ap (drop 8) (sym numbers.image_is)
    ∙ drop-le64 time (le64 word ++ rest) in
    record {
      time_is = sym (ap from_le64 (sym numbers.image_is) ∙ from_le64-le64 time (le64 word ++ rest) is.time_fits);
      contents_are = sym (sym (drop-drop 8 40 body) ∙ ap (drop 8) forty ∙ drop-le64 word rest
          ∙ filled_is contents parcel.missed);
    }

-- ---- one piece

same_parcels : (bytes : List ℕ) (stream other : ℕ) (parcel parcel' : ParcelSeen) (time time' : ℕ)
    (contents contents' : List ℕ) → BeginsWith bytes (parcel_piece stream parcel time contents)
    → BeginsWith bytes (parcel_piece other parcel' time' contents')
    → parcel_piece stream parcel time contents ≡ parcel_piece other parcel' time' contents'
same_parcels bytes stream other parcel parcel' time time' contents contents' b c =
    let one = parcel_frame bytes stream parcel time contents b in
    let two = parcel_frame bytes other parcel' time' contents' c in
    let bodies : bytes_of_parcel parcel time contents (length contents) ≡ bytes_of_parcel parcel' time' contents'
    (length contents') = sym one.body_is ∙ two.body_is in
    let parcels = DecodesParcel-unique (bytes_of_parcel parcel' time' contents' (length contents')) parcel parcel'
    (subst (λ (x : List ℕ). DecodesParcel x parcel) bodies (decodes stream parcel time contents b.sound))
    (decodes other parcel' time' contents' c.sound) in
    let own = written_with stream parcel time contents b.sound in
    let that = written_with other parcel' time' contents' c.sound in
    let times : time ≡ time' = own.time_is ∙ ap (λ (x : List ℕ). from_le64 (drop 32 x)) bodies ∙ sym that.time_is in
    let datas : contents ≡ contents' = own.contents_are ∙ ap (drop 48) bodies ∙ sym that.contents_are in
    let streams : stream ≡ other = sym one.stream_is ∙ two.stream_is in
    (λ i. parcel_piece (streams i) (parcels i) (times i) (datas i))

same_marks : (bytes : List ℕ) (stream other cpu cpu' : ℕ) (mark mark' : Mark)
    → BeginsWith bytes (mark_piece stream cpu mark) → BeginsWith bytes (mark_piece other cpu' mark')
    → mark_piece stream cpu mark ≡ mark_piece other cpu' mark'
same_marks bytes stream other cpu cpu' mark mark' b c =
    let one = mark_frame bytes stream cpu mark b in
    let two = mark_frame bytes other cpu' mark' c in
    let own = b.sound.cpu_known in
    let that = c.sound.cpu_known in
    let kinds : kind_of_mark mark ≡ kind_of_mark mark' = sym one.kind_is ∙ two.kind_is in
    let bodies : le64 cpu ++ numbers_of_mark mark ≡ le64 cpu' ++ numbers_of_mark mark' =
    sym one.body_is ∙ two.body_is in
    let cpus : cpu ≡ cpu' = sym (from_le64-le64 cpu (numbers_of_mark mark) (omega arith)) ∙ ap from_le64 bodies
    ∙ from_le64-le64 cpu' (numbers_of_mark mark') (omega arith) in
    let marks : mark ≡ mark' = sym (stated_is cpu mark b.sound.sound) ∙ (λ i. mark_stated (kinds i) (bodies i))
    ∙ stated_is cpu' mark' c.sound.sound in
    let streams : stream ≡ other = sym one.stream_is ∙ two.stream_is in
    (λ i. mark_piece (streams i) (cpus i) (marks i))

parcel_or_mark : (bytes : List ℕ) (stream other : ℕ) (parcel : ParcelSeen) (time : ℕ) (contents : List ℕ)
    (cpu : ℕ) (mark : Mark) → BeginsWith bytes (parcel_piece stream parcel time contents)
    → BeginsWith bytes (mark_piece other cpu mark) → ⊥
parcel_or_mark bytes stream other parcel time contents cpu mark b c =
    let one = (parcel_frame bytes stream parcel time contents b).kind_is in
    let two = (mark_frame bytes other cpu mark c).kind_is in
    let least = kind_least mark in
    omega arith

pub one_piece : (bytes : List ℕ) (piece other : Packed) → BeginsWith bytes piece → BeginsWith bytes other
    → piece ≡ other
one_piece bytes (parcel_piece stream parcel time contents) (parcel_piece other parcel' time' contents')
    b c = same_parcels bytes stream other parcel parcel' time time' contents contents' b c
one_piece bytes (parcel_piece stream parcel time contents) (mark_piece other cpu mark) b c = absurd
    (parcel_or_mark bytes stream other parcel time contents cpu mark b c)
one_piece bytes (mark_piece stream cpu mark) (parcel_piece other parcel time contents) b c = absurd
    (parcel_or_mark bytes other stream parcel time contents cpu mark c b)
one_piece bytes (mark_piece stream cpu mark) (mark_piece other cpu' mark')
    b c = same_marks bytes stream other cpu cpu' mark mark' b c

pub rest_is : (bytes : List ℕ) (piece : Packed) (b : BeginsWith bytes piece) → b.rest ≡ drop (length_in bytes) bytes
rest_is bytes (parcel_piece stream parcel time contents) b = sym
    (parcel_frame bytes stream parcel time contents b).rest_is
rest_is bytes (mark_piece stream cpu mark) b = sym (mark_frame bytes stream cpu mark b).rest_is
