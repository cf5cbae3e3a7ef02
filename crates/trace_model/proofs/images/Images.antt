-- An image has one reading or one first fault, never both; and the image that is written has its reading.
use Rattle.std.proofs.Common.{◌≡◌, ◌⊎◌, inl, inr, ⊎_elim, ℕ, ◌+◌, ◌-◌, ◌^◌, ◌<◌, ◌≤◌, Bool, true, false, cond, ltb, leb}
use Rattle.std.proofs.Common.{◌&&◌, List, [], ◌++◌, length, take, drop, replicate, refl, sym, ap, ◌∙◌, subst, arith}
use Rattle.std.proofs.Common.{length-append}
use Rattle.std.proofs.lemmas.List.{length-replicate}
use Rattle.std.proofs.lemmas.Bool.{cases_lt, leb-true}
use Rattle.trace_model.specs.Record.{Record}
use Rattle.trace_model.specs.Words.{Decodes}
use Rattle.trace_model.specs.Faults.{Cause}
use Rattle.trace_model.specs.FirstFault.{AreBytes, FirstFault}
use Rattle.trace_model.specs.Image.{le64, Commit, commit_word, HasHeader, HasParts, Missed, none, unknown, counted}
use Rattle.trace_model.specs.Image.{ReportsMissed, DecodesImageWithin, DecodesImage, has_room, stores_count, commit_of}
use Rattle.trace_model.specs.Image.{filled, image_of, missed_reported, ImageCause, too_short, bad_size, bad_count}
use Rattle.trace_model.specs.Image.{bad_word, HasBadSize, HasBadCount, HasBadWord, FirstImageFault}
use Rattle.trace_model.specs.declared.limits.TheConstants.{MAX_IMAGE}
use Rattle.trace_model.proofs.words.OneWord.{AreBytes-drop, AreBytes-take}
use Rattle.trace_model.proofs.words.Unique.{Decodes-unique}
use Rattle.trace_model.proofs.words.FirstFaults.{read_or_faulty, Decodes-FirstFault, FirstFault-unique}
use Rattle.trace_model.proofs.images.ImageParts.{length-le64, HasHeader-of, HasHeader-is, HasHeader-same, HasParts-of}
use Rattle.trace_model.proofs.images.ImageParts.{HasParts-same, ReportsMissed-room, ReportsMissed-same, Telling}
use Rattle.trace_model.proofs.images.ImageParts.{reports, no_room, reporting}

-- ---- a fault excludes what comes after it in the order

header_not_short : (bytes : List ℕ) (time : ℕ) (commit : Commit) (rest : List ℕ) → HasHeader bytes time commit rest
    → length bytes < 16 → ⊥
header_not_short bytes time commit rest h short = let is = HasHeader-is bytes time commit rest h in
    let long = is.long in
    omega arith

parts_no_bad_size : (bytes : List ℕ) (time : ℕ) (commit : Commit) (contents behind : List ℕ)
    → HasParts MAX_IMAGE bytes time commit contents behind → HasBadSize bytes → ⊥
parts_no_bad_size bytes time commit contents behind p bad =
    let same = HasHeader-same bytes time bad.time commit bad.commit (contents ++ behind) bad.rest p.header bad.header in
    let size : length contents ≡ bad.commit.size = p.size_is ∙ ap (λ (c : Commit). c.size) same.commits in
    let left : length bad.rest ≡ length contents + length behind =
    sym (ap length same.rests) ∙ length-append contents behind in
    ⊎_elim (λ (past : length bad.rest < bad.commit.size). omega arith)
    (λ (past : MAX_IMAGE < length bytes). let fits = p.length_fits in omega arith) bad.wrong

reporting_no_bad_count : (bytes : List ℕ) (time : ℕ) (commit : Commit) (contents behind : List ℕ) (missed : Missed)
    → HasParts MAX_IMAGE bytes time commit contents behind → ReportsMissed commit behind missed → HasBadCount bytes → ⊥
reporting_no_bad_count bytes time commit contents behind missed p reported bad =
    let same =
    HasParts-same MAX_IMAGE MAX_IMAGE bytes time bad.time commit bad.commit contents bad.contents behind bad.behind
    p bad.parts in
    let room =
    ReportsMissed-room commit behind missed reported (ap (λ (c : Commit). c.is_missed) same.commits ∙ bad.missed)
    (ap (λ (c : Commit). c.is_stored) same.commits ∙ bad.stored) in
    let short = bad.no_room in
    let len = ap length same.behinds in
    omega arith

-- ---- a reading and a fault exclude each other

pub DecodesImage-FirstImageFault : (bytes : List ℕ) (time size : ℕ) (missed : Missed) (records : List Record)
    (fault : ImageCause) → DecodesImage bytes time size missed records → FirstImageFault bytes fault → ⊥
DecodesImage-FirstImageFault bytes time size missed records too_short d short =
    header_not_short bytes time d.commit (d.contents ++ d.behind) d.parts.header short
DecodesImage-FirstImageFault bytes time size missed records bad_size d bad =
    parts_no_bad_size bytes time d.commit d.contents d.behind d.parts bad
DecodesImage-FirstImageFault bytes time size missed records bad_count d bad =
    reporting_no_bad_count bytes time d.commit d.contents d.behind missed d.parts d.reports bad
DecodesImage-FirstImageFault bytes time size missed records (bad_word cause at) d bad =
    let same =
    HasParts-same MAX_IMAGE MAX_IMAGE bytes time bad.time d.commit bad.commit d.contents bad.contents d.behind
    bad.behind d.parts bad.parts in
    Decodes-FirstFault bad.contents bad.time records cause at
    (subst (λ (t : ℕ). Decodes bad.contents t records) same.times
    (subst (λ (b : List ℕ). Decodes b time records) same.datas d.reads)) bad.fault

-- ---- one reading

-- whatever the limits are within which it reads
pub DecodesImageWithin-unique : (limit other_limit : ℕ) (bytes : List ℕ) (time other_time size other_size : ℕ)
    (missed other : Missed) (records others : List Record) → DecodesImageWithin limit bytes time size missed records
    → DecodesImageWithin other_limit bytes other_time other_size other others
    → (time ≡ other_time) × (size ≡ other_size) × (missed ≡ other) × (records ≡ others)
DecodesImageWithin-unique limit other_limit bytes time other_time size other_size missed other records others d e =
    let same =
    HasParts-same limit other_limit bytes time other_time d.commit e.commit d.contents e.contents d.behind e.behind
    d.parts e.parts in
    let reported : ReportsMissed e.commit e.behind missed =
    subst (λ (b : List ℕ). ReportsMissed e.commit b missed) same.behinds
    (subst (λ (c : Commit). ReportsMissed c d.behind missed) same.commits d.reports) in
    let reads : Decodes e.contents other_time records =
    subst (λ (t : ℕ). Decodes e.contents t records) same.times
    (subst (λ (b : List ℕ). Decodes b time records) same.datas d.reads) in (
      same.times,
      d.size_is ∙ ap (λ (c : Commit). c.size) same.commits ∙ sym e.size_is,
      ReportsMissed-same e.commit e.behind missed other reported e.reports,
      Decodes-unique e.contents other_time records others reads e.reads,
    )

pub DecodesImage-unique : (bytes : List ℕ) (time other_time size other_size : ℕ) (missed other : Missed)
    (records others : List Record) → DecodesImage bytes time size missed records
    → DecodesImage bytes other_time other_size other others
    → (time ≡ other_time) × (size ≡ other_size) × (missed ≡ other) × (records ≡ others)
DecodesImage-unique = DecodesImageWithin-unique MAX_IMAGE MAX_IMAGE

-- ---- the limit

-- an image that reads within a limit reads as the same within any other that it fits
pub DecodesImageWithin-other : (limit other_limit : ℕ) (bytes : List ℕ) (time size : ℕ) (missed : Missed)
    (records : List Record) → length bytes ≤ other_limit → DecodesImageWithin limit bytes time size missed records
    → DecodesImageWithin other_limit bytes time size missed records
DecodesImageWithin-other limit other_limit bytes time size missed records fits d = record {
  commit = d.commit;
  contents = d.contents;
  behind = d.behind;
  parts = record { header = d.parts.header; size_is = d.parts.size_is; length_fits = fits };
  size_is = d.size_is;
  reports = d.reports;
  reads = d.reads;
}

pub DecodesImageWithin-larger : (small large : ℕ) (bytes : List ℕ) (time size : ℕ) (missed : Missed)
    (records : List Record) → small ≤ large → DecodesImageWithin small bytes time size missed records
    → DecodesImageWithin large bytes time size missed records
DecodesImageWithin-larger small large bytes time size missed records below d =
    DecodesImageWithin-other small large bytes time size missed records (let fits = d.parts.length_fits in omega arith)
    d

-- ---- one first fault

same_bad_word : (bytes : List ℕ) (cause other : Cause) (at there : ℕ) → HasBadWord bytes cause at
    → HasBadWord bytes other there → bad_word cause at ≡ bad_word other there
same_bad_word bytes cause other at there b c =
    let same =
    HasParts-same MAX_IMAGE MAX_IMAGE bytes b.time c.time b.commit c.commit b.contents c.contents b.behind c.behind
    b.parts c.parts in
    let fault : FirstFault c.contents c.time cause at =
    subst (λ (t : ℕ). FirstFault c.contents t cause at) same.times
    (subst (λ (x : List ℕ). FirstFault x b.time cause at) same.datas b.fault) in
    let one = FirstFault-unique c.contents c.time cause other at there fault c.fault in
    (λ i. bad_word (one.0 i) (one.1 i))

pub FirstImageFault-unique : (bytes : List ℕ) (fault other : ImageCause) → FirstImageFault bytes fault
    → FirstImageFault bytes other → fault ≡ other
FirstImageFault-unique bytes too_short too_short f g = refl
FirstImageFault-unique bytes too_short bad_size f g = absurd (header_not_short bytes g.time g.commit g.rest g.header f)
FirstImageFault-unique bytes too_short bad_count f g =
    absurd (header_not_short bytes g.time g.commit (g.contents ++ g.behind) g.parts.header f)
FirstImageFault-unique bytes too_short (bad_word cause at) f g =
    absurd (header_not_short bytes g.time g.commit (g.contents ++ g.behind) g.parts.header f)
FirstImageFault-unique bytes bad_size too_short f g = absurd (header_not_short bytes f.time f.commit f.rest f.header g)
FirstImageFault-unique bytes bad_size bad_size f g = refl
FirstImageFault-unique bytes bad_size bad_count f g =
    absurd (parts_no_bad_size bytes g.time g.commit g.contents g.behind g.parts f)
FirstImageFault-unique bytes bad_size (bad_word cause at) f g =
    absurd (parts_no_bad_size bytes g.time g.commit g.contents g.behind g.parts f)
FirstImageFault-unique bytes bad_count too_short f g =
    absurd (header_not_short bytes f.time f.commit (f.contents ++ f.behind) f.parts.header g)
FirstImageFault-unique bytes bad_count bad_size f g =
    absurd (parts_no_bad_size bytes f.time f.commit f.contents f.behind f.parts g)
FirstImageFault-unique bytes bad_count bad_count f g = refl
FirstImageFault-unique bytes bad_count (bad_word cause at) f g =
    absurd (reporting_no_bad_count bytes g.time g.commit g.contents g.behind g.missed g.parts g.reports f)
FirstImageFault-unique bytes (bad_word cause at) too_short f g =
    absurd (header_not_short bytes f.time f.commit (f.contents ++ f.behind) f.parts.header g)
FirstImageFault-unique bytes (bad_word cause at) bad_size f g =
    absurd (parts_no_bad_size bytes f.time f.commit f.contents f.behind f.parts g)
FirstImageFault-unique bytes (bad_word cause at) bad_count f g =
    absurd (reporting_no_bad_count bytes f.time f.commit f.contents f.behind f.missed f.parts f.reports g)
FirstImageFault-unique bytes (bad_word cause at) (bad_word other there) f g =
    same_bad_word bytes cause other at there f g

-- ---- one of the two

abbrev IsReadImage : List ℕ → Type 0
IsReadImage bytes =
    (time size : ℕ) × (missed : Missed) × (records : List Record) × DecodesImage bytes time size missed records

abbrev IsFaultyImage : List ℕ → Type 0
IsFaultyImage bytes = (fault : ImageCause) × FirstImageFault bytes fault

from_reporting : (bytes : List ℕ) (time : ℕ) (commit : Commit) (contents behind : List ℕ)
    → HasParts MAX_IMAGE bytes time commit contents behind → AreBytes contents → Telling commit behind
    → IsReadImage bytes ⊎ IsFaultyImage bytes
from_reporting bytes time commit contents behind p small (no_room missed stored short) =
    inr (
      bad_count,
      record {
        time = time;
        commit = commit;
        contents = contents;
        behind = behind;
        parts = p;
        missed = missed;
        stored = stored;
        no_room = short;
      },
    )
from_reporting bytes time commit contents behind p small (reports missed reported) = ⊎_elim
    (λ reads.
    inl (
      time,
      commit.size,
      missed,
      reads.0,
      record {
        commit = commit;
        contents = contents;
        behind = behind;
        parts = p;
        size_is = refl;
        reports = reported;
        reads = reads.1;
      },
    ))
    (λ fault.
    inr (
      bad_word fault.0 fault.1,
      record {
        time = time;
        commit = commit;
        contents = contents;
        behind = behind;
        parts = p;
        missed = missed;
        reports = reported;
        fault = fault.2;
      },
    ))
    (read_or_faulty contents time small)

from_header : (bytes : List ℕ) (time : ℕ) (commit : Commit) (rest : List ℕ) → HasHeader bytes time commit rest
    → AreBytes rest → IsReadImage bytes ⊎ IsFaultyImage bytes
from_header bytes time commit rest h small =
    ⊎_elim (λ past. wrong (inl past)) (λ there.
    ⊎_elim (λ past. wrong (inr past)) (λ limit.
    from_reporting bytes time commit (take commit.size rest) (drop commit.size rest)
    (HasParts-of MAX_IMAGE bytes time commit rest h there limit)
    (AreBytes-take commit.size rest small)
    (reporting commit (drop commit.size rest) (AreBytes-drop commit.size rest small)))
    (cases_lt MAX_IMAGE (length bytes)))
    (cases_lt (length rest) commit.size)
  where
    wrong : (length rest < commit.size) ⊎ (MAX_IMAGE < length bytes) → IsReadImage bytes ⊎ IsFaultyImage bytes
    wrong is = inr (bad_size, record { time = time; commit = commit; rest = rest; header = h; wrong = is })

pub image_read_or_faulty : (bytes : List ℕ) → AreBytes bytes → IsReadImage bytes ⊎ IsFaultyImage bytes
image_read_or_faulty bytes small = ⊎_elim
    (λ short. inr (too_short, short))
    (λ long. from_header bytes _ _ (drop 16 bytes) (HasHeader-of bytes small long) (AreBytes-drop 16 bytes small))
    (cases_lt (length bytes) 16)

-- ---- the image that is written

length-filled : (contents stored : List ℕ) (size : ℕ) → length contents + length stored ≤ size
    → length (filled contents stored size) ≡ size
length-filled contents stored size room =
    omega (
      arith,
      length-append contents (stored ++ replicate (size - length contents - length stored) 0),
      length-append stored (replicate (size - length contents - length stored) 0),
      length-replicate {A = ℕ} (size - length contents - length stored) 0,
    )

stored_fits : (contents : List ℕ) (missed size : ℕ) (some room : Bool) → room ≡ leb (length contents + 8) size
    → length contents ≤ size → length contents + length (cond (some && room) (le64 missed) []) ≤ size
stored_fits contents missed size true true is fits = let there = leb-true (length contents + 8) size (sym is) in
    omega (arith, length-le64 missed)
stored_fits contents missed size true false is fits = omega arith
stored_fits contents missed size false room is fits = omega arith

-- it has as many bytes as its page, and the header
pub length-image_of : (time : ℕ) (contents : List ℕ) (missed size : ℕ) → length contents ≤ size
    → length (image_of time contents missed size) ≡ 16 + size
length-image_of time contents missed size fits =
    let stored : List ℕ = cond (stores_count contents missed size) (le64 missed) [] in
    let word : ℕ = commit_word (commit_of contents missed size) in
    let behind =
    length-filled contents stored size
    (stored_fits contents missed size (ltb 0 missed) (has_room contents size) refl fits) in
    omega (
      arith,
      length-append (le64 time) (le64 word ++ filled contents stored size),
      length-append (le64 word) (filled contents stored size),
      length-le64 time,
      length-le64 word,
    )

reported_by : (contents zeros : List ℕ) (missed : ℕ) (some room : Bool) → missed < 2 ^ 64
    → ReportsMissed (record { size = length contents; is_stored = some && room; is_missed = some; ignored = 0 })
    (cond (some && room) (le64 missed) [] ++ zeros) (cond (some && room) (counted missed) (cond some unknown none))
reported_by contents zeros missed true true fits = (refl, refl, fits, (zeros, refl))
reported_by contents zeros missed true false fits = (refl, refl)
reported_by contents zeros missed false room fits = refl

-- what is written reads as the time, the data and the missed events that it was written for
pub DecodesImage-image_of : (time : ℕ) (contents : List ℕ) (missed size : ℕ) (records : List Record) → time < 2 ^ 64
    → missed < 2 ^ 64 → length contents ≤ size → 16 + size ≤ MAX_IMAGE → Decodes contents time records
    → DecodesImage (image_of time contents missed size) time (length contents) (missed_reported contents missed size)
    records
DecodesImage-image_of time contents missed size records time_fits missed_fits fits limit reads =
    let stored : List ℕ = cond (stores_count contents missed size) (le64 missed) [] in
    let zeros : List ℕ = replicate (size - length contents - length stored) 0 in
    record {
      commit = commit_of contents missed size;
      contents = contents;
      behind = stored ++ zeros;
      parts = record {
        header = record { whole = refl; time_fits = time_fits; size_fits = omega arith; ignored_fits = omega arith };
        size_is = refl;
        length_fits = omega (arith, length-image_of time contents missed size fits);
      };
      size_is = refl;
      reports = reported_by contents zeros missed (ltb 0 missed) (has_room contents size) missed_fits;
      reads = reads;
    }
