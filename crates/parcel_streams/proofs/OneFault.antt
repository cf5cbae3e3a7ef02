-- Bytes begin with one piece or have one first fault, and never both.
use Rattle.std.proofs.Common.{◌≡◌, ◌≢◌, ◌⊎◌, inl, inr, ⊎_elim, ℕ, ◌<◌, ◌≤◌, List, [], ◌∷◌, length, take, drop, refl}
use Rattle.std.proofs.Common.{sym, ap, subst, arith}
use Rattle.std.proofs.lemmas.Bool.{cases_lt}
use Rattle.std.proofs.lemmas.Bool.Decides.{eqb_tells}
use Rattle.parcel_streams.specs.crc32c.Castagnoli.{crc32c}
use Rattle.trace_model.specs.FirstFault.{AreBytes}
use Rattle.trace_model.specs.Image.{le64, from_le64, commit_word, commit_of}
use Rattle.trace_model.specs.Parcel.{Parcel as ParcelSeen}
use Rattle.trace_model.specs.ParcelBytes.{DecodesParcel, ParcelCause}
use Rattle.trace_model.specs.declared.limits.TheConstants.{MAX_CPUS}
use Rattle.trace_model.proofs.images.Parcels.{parcel_read_or_faulty, DecodesParcel-FirstParcelFault}
use Rattle.trace_model.proofs.images.Parcels.{DecodesParcel-unique, FirstParcelFault-unique}
use Rattle.parcel_streams.specs.Pieces.{Packed, parcel_piece, mark_piece, kind_of_mark, magic, BeginsWith}
use Rattle.parcel_streams.specs.Faults.{version_in, kind_in, length_in, body_in, summed_in, sum_in, HasMagic}
use Rattle.parcel_streams.specs.Faults.{HasVersion, HasLength, IsWhole, IsSealed, HoldsParcel, HoldsMark, IsFitted}
use Rattle.parcel_streams.specs.Faults.{IsLoose, mark_body, IsBadMark, IsCut, PieceCause, not_packed, cut, bad_version}
use Rattle.parcel_streams.specs.Faults.{bad_length, bad_sum, bad_kind, bad_parcel, loose, bad_mark, FirstPieceFault}
use Rattle.parcel_streams.specs.Answers.{HasPiece, mark_stated}
use Rattle.parcel_streams.proofs.Fitted.{IsFitted-from, IsTight-from}
use Rattle.parcel_streams.proofs.Marks.{kind_least, kind_most, mark_there, sound_or_empty, sound_not_bad}
use Rattle.parcel_streams.proofs.Readings.{AreBytes-body, has_parcel, has_mark, parcel_frame, mark_frame, decodes}

-- ---- a fault excludes what is looked at before it

magic_cut : (bytes : List ℕ) → IsCut bytes → HasMagic bytes
magic_cut bytes f = ⊎_elim (λ h. h.0) (λ h. h.0.version.head.packed) f

cut_in : (bytes : List ℕ) → IsCut bytes → 32 ≤ length bytes → HasLength bytes × (length bytes < length_in bytes)
cut_in bytes f long = ⊎_elim (λ h. let short = h.1 in absurd (omega arith)) (λ h. h) f

cut_whole : (bytes : List ℕ) → IsCut bytes → IsWhole bytes → ⊥
cut_whole bytes f whole =
    let h = cut_in bytes f whole.stated.version.head.long in
    let short = h.1 in
    let there = whole.there in
    omega arith

out_of : (bytes : List ℕ) → HasLength bytes → (length_in bytes < 56) ⊎ (65608 < length_in bytes) → ⊥
out_of bytes h f =
    let least = h.least in
    let most = h.most in
    ⊎_elim (λ (low : length_in bytes < 56). omega arith) (λ (high : 65608 < length_in bytes). omega arith) f

no_parcel : (bytes : List ℕ) → 3 < kind_in bytes → HoldsParcel bytes → ⊥
no_parcel bytes more h = let is = h.kind_is in omega arith

no_mark : (bytes : List ℕ) → 3 < kind_in bytes → HoldsMark bytes → ⊥
no_mark bytes more h = let most = h.kind_most in omega arith

not_both : (bytes : List ℕ) → HoldsParcel bytes → HoldsMark bytes → ⊥
not_both bytes h g = let is = h.kind_is in let least = g.kind_least in omega arith

-- ---- one fault

pub one_fault : (bytes : List ℕ) (fault other : PieceCause) → FirstPieceFault bytes fault
    → FirstPieceFault bytes other → fault ≡ other
one_fault bytes not_packed not_packed f g = refl
one_fault bytes not_packed cut f g = absurd (f (magic_cut bytes g))
one_fault bytes not_packed bad_version f g = absurd (f g.0.packed)
one_fault bytes not_packed bad_length f g = absurd (f g.0.head.packed)
one_fault bytes not_packed bad_sum f g = absurd (f g.0.stated.version.head.packed)
one_fault bytes not_packed bad_kind f g = absurd (f g.0.whole.stated.version.head.packed)
one_fault bytes not_packed (bad_parcel other) f g = absurd (f g.0.seal.whole.stated.version.head.packed)
one_fault bytes not_packed loose f g = absurd (f g.0.seal.whole.stated.version.head.packed)
one_fault bytes not_packed bad_mark f g = absurd (f g.0.seal.whole.stated.version.head.packed)
one_fault bytes cut not_packed f g = absurd (g (magic_cut bytes f))
one_fault bytes cut cut f g = refl
one_fault bytes cut bad_version f g = absurd (g.1 (cut_in bytes f g.0.long).0.version.version_is)
one_fault bytes cut bad_length f g = absurd (out_of bytes (cut_in bytes f g.0.head.long).0 g.1)
one_fault bytes cut bad_sum f g = absurd (cut_whole bytes f g.0)
one_fault bytes cut bad_kind f g = absurd (cut_whole bytes f g.0.whole)
one_fault bytes cut (bad_parcel other) f g = absurd (cut_whole bytes f g.0.seal.whole)
one_fault bytes cut loose f g = absurd (cut_whole bytes f g.0.seal.whole)
one_fault bytes cut bad_mark f g = absurd (cut_whole bytes f g.0.seal.whole)
one_fault bytes bad_version not_packed f g = absurd (g f.0.packed)
one_fault bytes bad_version cut f g = absurd (f.1 (cut_in bytes g f.0.long).0.version.version_is)
one_fault bytes bad_version bad_version f g = refl
one_fault bytes bad_version bad_length f g = absurd (f.1 g.0.version_is)
one_fault bytes bad_version bad_sum f g = absurd (f.1 g.0.stated.version.version_is)
one_fault bytes bad_version bad_kind f g = absurd (f.1 g.0.whole.stated.version.version_is)
one_fault bytes bad_version (bad_parcel other) f g = absurd (f.1 g.0.seal.whole.stated.version.version_is)
one_fault bytes bad_version loose f g = absurd (f.1 g.0.seal.whole.stated.version.version_is)
one_fault bytes bad_version bad_mark f g = absurd (f.1 g.0.seal.whole.stated.version.version_is)
one_fault bytes bad_length not_packed f g = absurd (g f.0.head.packed)
one_fault bytes bad_length cut f g = absurd (out_of bytes (cut_in bytes g f.0.head.long).0 f.1)
one_fault bytes bad_length bad_version f g = absurd (g.1 f.0.version_is)
one_fault bytes bad_length bad_length f g = refl
one_fault bytes bad_length bad_sum f g = absurd (out_of bytes g.0.stated f.1)
one_fault bytes bad_length bad_kind f g = absurd (out_of bytes g.0.whole.stated f.1)
one_fault bytes bad_length (bad_parcel other) f g = absurd (out_of bytes g.0.seal.whole.stated f.1)
one_fault bytes bad_length loose f g = absurd (out_of bytes g.0.seal.whole.stated f.1)
one_fault bytes bad_length bad_mark f g = absurd (out_of bytes g.0.seal.whole.stated f.1)
one_fault bytes bad_sum not_packed f g = absurd (g f.0.stated.version.head.packed)
one_fault bytes bad_sum cut f g = absurd (cut_whole bytes g f.0)
one_fault bytes bad_sum bad_version f g = absurd (g.1 f.0.stated.version.version_is)
one_fault bytes bad_sum bad_length f g = absurd (out_of bytes f.0.stated g.1)
one_fault bytes bad_sum bad_sum f g = refl
one_fault bytes bad_sum bad_kind f g = absurd (f.1 g.0.sum_is)
one_fault bytes bad_sum (bad_parcel other) f g = absurd (f.1 g.0.seal.sum_is)
one_fault bytes bad_sum loose f g = absurd (f.1 g.0.seal.sum_is)
one_fault bytes bad_sum bad_mark f g = absurd (f.1 g.0.seal.sum_is)
one_fault bytes bad_kind not_packed f g = absurd (g f.0.whole.stated.version.head.packed)
one_fault bytes bad_kind cut f g = absurd (cut_whole bytes g f.0.whole)
one_fault bytes bad_kind bad_version f g = absurd (g.1 f.0.whole.stated.version.version_is)
one_fault bytes bad_kind bad_length f g = absurd (out_of bytes f.0.whole.stated g.1)
one_fault bytes bad_kind bad_sum f g = absurd (g.1 f.0.sum_is)
one_fault bytes bad_kind bad_kind f g = refl
one_fault bytes bad_kind (bad_parcel other) f g = absurd (no_parcel bytes f.1 g.0)
one_fault bytes bad_kind loose f g = absurd (no_parcel bytes f.1 g.0)
one_fault bytes bad_kind bad_mark f g = absurd (no_mark bytes f.1 g.0)
one_fault bytes (bad_parcel cause) not_packed f g = absurd (g f.0.seal.whole.stated.version.head.packed)
one_fault bytes (bad_parcel cause) cut f g = absurd (cut_whole bytes g f.0.seal.whole)
one_fault bytes (bad_parcel cause) bad_version f g = absurd (g.1 f.0.seal.whole.stated.version.version_is)
one_fault bytes (bad_parcel cause) bad_length f g = absurd (out_of bytes f.0.seal.whole.stated g.1)
one_fault bytes (bad_parcel cause) bad_sum f g = absurd (g.1 f.0.seal.sum_is)
one_fault bytes (bad_parcel cause) bad_kind f g = absurd (no_parcel bytes g.1 f.0)
one_fault bytes (bad_parcel cause) (bad_parcel other) f g = ap bad_parcel
    (FirstParcelFault-unique (body_in bytes) cause other f.1 g.1)
one_fault bytes (bad_parcel cause) loose f g = absurd
    (DecodesParcel-FirstParcelFault (body_in bytes) g.1.parcel cause g.1.reads f.1)
one_fault bytes (bad_parcel cause) bad_mark f g = absurd (not_both bytes f.0 g.0)
one_fault bytes loose not_packed f g = absurd (g f.0.seal.whole.stated.version.head.packed)
one_fault bytes loose cut f g = absurd (cut_whole bytes g f.0.seal.whole)
one_fault bytes loose bad_version f g = absurd (g.1 f.0.seal.whole.stated.version.version_is)
one_fault bytes loose bad_length f g = absurd (out_of bytes f.0.seal.whole.stated g.1)
one_fault bytes loose bad_sum f g = absurd (g.1 f.0.seal.sum_is)
one_fault bytes loose bad_kind f g = absurd (no_parcel bytes g.1 f.0)
one_fault bytes loose (bad_parcel other) f g = absurd
    (DecodesParcel-FirstParcelFault (body_in bytes) f.1.parcel other f.1.reads g.1)
one_fault bytes loose loose f g = refl
one_fault bytes loose bad_mark f g = absurd (not_both bytes f.0 g.0)
one_fault bytes bad_mark not_packed f g = absurd (g f.0.seal.whole.stated.version.head.packed)
one_fault bytes bad_mark cut f g = absurd (cut_whole bytes g f.0.seal.whole)
one_fault bytes bad_mark bad_version f g = absurd (g.1 f.0.seal.whole.stated.version.version_is)
one_fault bytes bad_mark bad_length f g = absurd (out_of bytes f.0.seal.whole.stated g.1)
one_fault bytes bad_mark bad_sum f g = absurd (g.1 f.0.seal.sum_is)
one_fault bytes bad_mark bad_kind f g = absurd (no_mark bytes g.1 f.0)
one_fault bytes bad_mark (bad_parcel other) f g = absurd (not_both bytes g.0 f.0)
one_fault bytes bad_mark loose f g = absurd (not_both bytes g.0 f.0)
one_fault bytes bad_mark bad_mark f g = refl

-- ---- a piece is no fault

-- a mark is stated, and it isn't bad
record HoldsGood (bytes : List ℕ) : Type 0 where
  mark : HoldsMark bytes
  good : IsBadMark (kind_in bytes) (body_in bytes) → ⊥

-- what is stated where the bytes begin with a piece: a parcel that is read, or a mark
HoldsPiece : List ℕ → Type 0
HoldsPiece bytes = (HoldsParcel bytes × ((parcel : ParcelSeen) × DecodesParcel (body_in bytes) parcel × IsFitted
    (body_in bytes) parcel)) ⊎ HoldsGood bytes

holds : (bytes : List ℕ) (piece : Packed) → BeginsWith bytes piece → HoldsPiece bytes
unfolding HoldsPiece
holds bytes (parcel_piece stream parcel time contents) b =
    let frame = parcel_frame bytes stream parcel time contents b in
    inl (
      record { seal = frame.seal; kind_is = frame.kind_is },
      (
        parcel,
        subst
            (λ (x : List ℕ). DecodesParcel x parcel) (sym frame.body_is)
            (decodes stream parcel time contents b.sound),
        (time, contents, frame.body_is),
      ),
    )
holds bytes (mark_piece stream cpu mark) b =
    let frame = mark_frame bytes stream cpu mark b in
    let kind_is = frame.kind_is in
    let low = kind_least mark in
    let high = kind_most mark in
    inr (record {
      mark = record { seal = frame.seal; kind_least = omega arith; kind_most = omega arith };
      good = λ bad. sound_not_bad cpu mark b.sound.cpu_known b.sound.sound
          (subst (IsBadMark (kind_of_mark mark)) frame.body_is
          (subst (λ (k : ℕ). IsBadMark k (body_in bytes)) kind_is bad));
    })

loose_not_fitted : (body : List ℕ) (parcel : ParcelSeen) → DecodesParcel body parcel → IsFitted body parcel
    → IsLoose body → ⊥
loose_not_fitted body parcel d fitted l = l.otherwise
    (subst (IsFitted body) (DecodesParcel-unique body parcel l.parcel d l.reads) fitted)

sealed_no_fault : (bytes : List ℕ) (fault : PieceCause) → HoldsPiece bytes → FirstPieceFault bytes fault → ⊥
unfolding HoldsPiece
sealed_no_fault bytes fault h f = ⊎_elim (λ p. parcel_no_fault fault p f) (λ e. mark_no_fault fault e f) h
  where
    seal_no_fault : (fault : PieceCause) → IsSealed bytes → FirstPieceFault bytes fault → (kind_in bytes ≤ 3)
        → ((cause : ParcelCause) → fault ≡ bad_parcel cause → ⊥) → (fault ≡ loose → ⊥) → (fault ≡ bad_mark → ⊥) → ⊥
    seal_no_fault not_packed s f low p l e = f s.whole.stated.version.head.packed
    seal_no_fault cut s f low p l e = cut_whole bytes f s.whole
    seal_no_fault bad_version s f low p l e = f.1 s.whole.stated.version.version_is
    seal_no_fault bad_length s f low p l e = out_of bytes s.whole.stated f.1
    seal_no_fault bad_sum s f low p l e = f.1 s.sum_is
    seal_no_fault bad_kind s f low p l e = let more = f.1 in omega arith
    seal_no_fault (bad_parcel cause) s f low p l e = p cause refl
    seal_no_fault loose s f low p l e = l refl
    seal_no_fault bad_mark s f low p l e = e refl

    parcel_no_fault : (fault : PieceCause)
        → (HoldsParcel bytes × ((parcel : ParcelSeen) × DecodesParcel (body_in bytes) parcel × IsFitted
        (body_in bytes) parcel)) → FirstPieceFault bytes fault → ⊥
    parcel_no_fault fault p f =
        let is = p.0.kind_is in
        seal_no_fault fault p.0.seal f (omega arith)
        (λ cause e. let g = subst (FirstPieceFault bytes) e f in DecodesParcel-FirstParcelFault (body_in bytes)
        p.1.0 cause p.1.1 g.1)
        (λ e. let g = subst (FirstPieceFault bytes) e f in loose_not_fitted (body_in bytes) p.1.0 p.1.1 p.1.2 g.1)
        (λ e. let g = subst (FirstPieceFault bytes) e f in not_both bytes p.0 g.0)

    mark_no_fault : (fault : PieceCause) → HoldsGood bytes → FirstPieceFault bytes fault → ⊥
    mark_no_fault fault p f =
        seal_no_fault fault p.mark.seal f p.mark.kind_most
        (λ cause e. let g = subst (FirstPieceFault bytes) e f in not_both bytes g.0 p.mark)
        (λ e. let g = subst (FirstPieceFault bytes) e f in not_both bytes g.0 p.mark)
        (λ e. let g = subst (FirstPieceFault bytes) e f in p.good g.1)

pub piece_no_fault : (bytes : List ℕ) (piece : Packed) (fault : PieceCause) → BeginsWith bytes piece
    → FirstPieceFault bytes fault → ⊥
piece_no_fault bytes piece fault b f = sealed_no_fault bytes fault (holds bytes piece b) f

-- ---- one of the two

abbrev pub HasFault : List ℕ → Type 0
HasFault bytes = (fault : PieceCause) × FirstPieceFault bytes fault

same_or_not : (xs ys : List ℕ) → (xs ≡ ys) ⊎ (xs ≢ ys)
same_or_not [] [] = inl refl
same_or_not [] (y ∷ ys) = inr (λ e. let n : 0 ≡ length (y ∷ ys) = ap length e in omega arith)
same_or_not (x ∷ xs) [] = inr (λ e. let n : length (x ∷ xs) ≡ 0 = ap length e in omega arith)
same_or_not (x ∷ xs) (y ∷ ys) = ⊎_elim
    (λ heads. ⊎_elim
    (λ tails. inl (λ i. heads.1 i ∷ tails i))
    (λ others. inr (λ e. others (ap (drop 1) e)))
    (same_or_not xs ys))
    (λ others. inr (λ e. others.1 (first_of e)))
    (eqb_tells x y)
  where
    first_of : (x ∷ xs) ≡ (y ∷ ys) → x ≡ y
    first_of e = cc

from_parcel : (bytes : List ℕ) → AreBytes bytes → HoldsParcel bytes → HasPiece bytes ⊎ HasFault bytes
from_parcel bytes small h = ⊎_elim
    (λ read. ⊎_elim
    (λ tight. inl (has_parcel bytes read.0 small h read.1 (IsFitted-from body read.0 read.1 tight.1)))
    (λ other. inr (
      loose,
      (
        h,
        record {
          parcel = read.0;
          reads = read.1;
          otherwise = λ fitted. other.1
              (IsTight-from body read.0 read.1 fitted);
        },
      ),
    ))
    (eqb_tells (from_le64 (drop 40 body)) (commit_word
    (commit_of (drop 48 body) (from_le64 (drop 24 body)) (length (drop 48 body))))))
    (λ faulty. inr (bad_parcel faulty.0, (h, faulty.1)))
    (parcel_read_or_faulty body (AreBytes-body bytes small))
  where
    body : List ℕ
    body = body_in bytes

from_mark : (bytes : List ℕ) → AreBytes bytes → HoldsMark bytes → HasPiece bytes ⊎ HasFault bytes
from_mark bytes small h = ⊎_elim
    (λ len. ⊎_elim
    (λ known. ⊎_elim
    (λ sound. inl (has_mark bytes (from_le64 body) (mark_stated kind body) small h.seal
    (mark_there kind body h.kind_least h.kind_most own (sym len.1) known sound)))
    (λ empty. inr (bad_mark, (h, inr (inr empty))))
    (sound_or_empty kind body h.kind_least h.kind_most own))
    (λ past. inr (bad_mark, (h, inr (inl past))))
    (cases_lt (from_le64 body) MAX_CPUS))
    (λ other. inr (bad_mark, (h, inl (λ e. other.1 (sym e)))))
    (eqb_tells (mark_body kind) (length body))
  where
    kind : ℕ
    kind = kind_in bytes

    body : List ℕ
    body = body_in bytes

    own : AreBytes body
    own = AreBytes-body bytes small

from_seal : (bytes : List ℕ) → AreBytes bytes → IsSealed bytes → HasPiece bytes ⊎ HasFault bytes
from_seal bytes small s = ⊎_elim
    (λ more. inr (bad_kind, (s, more)))
    (λ (few : kind_in bytes ≤ 3). ⊎_elim
    (λ (low : kind_in bytes < 1). from_parcel bytes small (record { seal = s; kind_is = omega arith }))
    (λ (high : 1 ≤ kind_in bytes). from_mark bytes small (record { seal = s; kind_least = high; kind_most = few }))
    (cases_lt (kind_in bytes) 1))
    (cases_lt 3 (kind_in bytes))

from_length : (bytes : List ℕ) → AreBytes bytes → HasLength bytes → HasPiece bytes ⊎ HasFault bytes
from_length bytes small h = ⊎_elim
    (λ short. inr (cut, inr (h, short)))
    (λ there. ⊎_elim
    (λ sum. from_seal bytes small (record { whole = record { stated = h; there = there }; sum_is = sum }))
    (λ other. inr (bad_sum, (record { stated = h; there = there }, other)))
    (same_or_not (sum_in bytes) (le64 (crc32c (summed_in bytes)))))
    (cases_lt (length bytes) (length_in bytes))

from_version : (bytes : List ℕ) → AreBytes bytes → HasVersion bytes → HasPiece bytes ⊎ HasFault bytes
from_version bytes small h = ⊎_elim
    (λ low. inr (bad_length, (h, inl low)))
    (λ least. ⊎_elim
    (λ high. inr (bad_length, (h, inr high)))
    (λ most. from_length bytes small (record { version = h; least = least; most = most }))
    (cases_lt 65608 (length_in bytes)))
    (cases_lt (length_in bytes) 56)

from_magic : (bytes : List ℕ) → AreBytes bytes → HasMagic bytes → HasPiece bytes ⊎ HasFault bytes
from_magic bytes small h = ⊎_elim
    (λ short. inr (cut, inl (h, short)))
    (λ long. ⊎_elim
    (λ version. from_version bytes small (record
    { head = record { packed = h; long = long }; version_is = version.1 }))
    (λ other. inr (bad_version, (record { packed = h; long = long }, other.1)))
    (eqb_tells (version_in bytes) 1))
    (cases_lt (length bytes) 32)

pub piece_or_fault : (bytes : List ℕ) → AreBytes bytes → HasPiece bytes ⊎ HasFault bytes
piece_or_fault bytes small = ⊎_elim
    (λ packed. from_magic bytes small packed)
    (λ other. inr (not_packed, other))
    (same_or_not (take 8 bytes) (take (length bytes) magic))
