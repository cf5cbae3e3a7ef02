-- An index stands for the kept parcels, from none on, through each one that is kept.
use Rattle.std.proofs.Common.{◌≡◌, ◌≢◌, ⊎_elim, inl, inr, ℕ, ◌+◌, ◌-◌, ◌<◌, ◌≤◌, ◌↔◌, List, [], ◌∷◌, ◌++◌, length}
use Rattle.std.proofs.Common.{Option, Some, None, IfSome, IfNone, IsSome, is_some, refl, sym, ap, ◌∙◌, subst, arith}
use Rattle.std.specs.List.{slice_get}
use Rattle.std.specs.Ordering.{nat_cmp}
use Rattle.std.specs.BTreeMap.{get}
use Rattle.std.proofs.lemmas.Bool.{cases_lt, cases_eq, false≢true}
use Rattle.std.proofs.lemmas.Option.{none-some, slice_get_within}
use Rattle.trace_model.specs.Record.{Record}
use Rattle.trace_model.specs.Parcel.{Parcel, IsPairOf, IsMissingOf}
use Rattle.trace_model.specs.ParcelBytes.{IsParcel}
use Rattle.trace_model.specs.Collection.{Has, Misses, Agree}
use Rattle.trace_model.proofs.collections.Elements.{some_is, get_in_front}
use Rattle.trace_model.proofs.collections.Joined.{joined_left}
use Rattle.collector.specs.declared.ranges.Content.{Content}
use Rattle.collector.specs.declared.ranges.Content.TheVariants.{Kept, Missing}
use Rattle.collector.specs.declared.ranges.Ranges.{Ranges}
use Rattle.collector.specs.declared.index.Index.{Index}
use Rattle.collector.specs.Ranges.{IsLaid}
use Rattle.collector.specs.Index.{ReportsOf, HasCpu, AreAllApart, AreAllStated, ReportSameOf, IsIndexCopy, IsIn}
use Rattle.collector.specs.Index.{IsFoundBy, IsIndexed}
use Rattle.collector.specs.Shown.{IsContentAt}
use Rattle.collector.specs.Known.{IsTaken, IsKnown, IsCpuKnown}
use Rattle.collector.proofs.Places.{get_pushed, get_last, get_within}
use Rattle.collector.proofs.Indexes.{copies_apart, copies_stated, copies_same}

-- ---- none

pub empty_indexed : (index : Index) → AreAllApart index → AreAllStated index
    → ((cpu n : ℕ) (content : Content) → ReportsOf index cpu n content → ⊥) → IsIndexed [] index
empty_indexed index apart stated unreported = record {
  sound = λ k p at. absurd (none-some p at);
  apart = apart;
  stated = stated;
  one = λ cpu n content other t u. absurd (unreported cpu n content t);
  kept = λ cpu n i t. absurd (unreported cpu n (Kept i) t);
  missing = λ cpu n t. absurd (unreported cpu n Missing t);
  has = λ cpu n r h. absurd (none-some h.parcel h.at);
  misses = λ cpu n m. absurd (none-some m.parcel m.at);
}

-- ---- what is kept agrees

pub same_record : (p : Parcel) (cpu n : ℕ) (r other : Record) → IsPairOf p cpu n r → IsPairOf p cpu n other → r ≡ other
same_record p cpu n r other h g =
    let a = h.number_is in
    let b = g.number_is in
    let e : h.index ≡ g.index = omega arith in
    some_is r other (sym h.record_is ∙ ap (slice_get p.records) e ∙ g.record_is)

kept_same : (i j : ℕ) → Kept i ≡ Kept j → i ≡ j
kept_same i j e = cc

pub indexed_agree : (ps : List Parcel) (index : Index) → IsIndexed ps index → Agree ps
indexed_agree ps index x = record {
  one_record = λ cpu n r other h g.
      let a = x.has cpu n r h in
      let b = x.has cpu n other g in
      let e : a.kept ≡ b.kept = kept_same a.kept b.kept (x.one cpu n (Kept a.kept) (Kept b.kept) a.reports b.reports) in
      let same : a.parcel ≡ b.parcel = some_is a.parcel b.parcel (sym a.at ∙ ap (slice_get ps) e ∙ b.at) in
      same_record b.parcel cpu n r other (subst (λ (p : Parcel). IsPairOf p cpu n r) same a.pair) b.pair;
  not_missing = λ cpu n r h m.
      let a = x.has cpu n r h in
      let e = x.one cpu n (Kept a.kept) Missing a.reports (x.misses cpu n m) in
      cc;
}

-- ---- what is shown

pub shown_of : (ps : List Parcel) (index : Index) → IsIndexed ps index → (cpu number end : ℕ) (o : Option Content)
    → IfSome o (λ content. (n : ℕ) → number ≤ n → n < end → ReportsOf index cpu n content)
    → IfNone o ((n : ℕ) (content : Content) → number ≤ n → n < end → ReportsOf index cpu n content → ⊥)
    → (n : ℕ) → number ≤ n → n < end → IsContentAt ps cpu n o
shown_of ps index x cpu number end (Some (Kept i)) reported unreported n from below =
    x.kept cpu n i (reported n from below)
shown_of ps index x cpu number end (Some Missing) reported unreported n from below =
    x.missing cpu n (reported n from below)
shown_of ps index x cpu number end None reported unreported n from below = record {
  no_record = λ r h. let a = x.has cpu n r h in unreported n (Kept a.kept) from below a.reports;
  not_missing = λ m. unreported n Missing from below (x.misses cpu n m);
}

pub shown_here : (ps : List Parcel) (index : Index) → IsIndexed ps index → (cpu number : ℕ) (o : Option Content)
    → IfSome o (λ content. ReportsOf index cpu number content)
    → IfNone o ((content : Content) → ReportsOf index cpu number content → ⊥) → IsContentAt ps cpu number o
shown_here ps index x cpu number (Some (Kept i)) reported unreported = x.kept cpu number i reported
shown_here ps index x cpu number (Some Missing) reported unreported = x.missing cpu number reported
shown_here ps index x cpu number None reported unreported = record {
  no_record = λ r h. let a = x.has cpu number r h in unreported (Kept a.kept) a.reports;
  not_missing = λ m. unreported Missing (x.misses cpu number m);
}

-- ---- what is known of a CPU

pub record_at : (p : Parcel) (cpu n : ℕ) → cpu ≡ p.cpu → p.first ≤ n → n < p.first + length p.records
    → (r : Record) × IsPairOf p cpu n r
record_at p cpu n cpu_is from below =
    let found = get_within p.records (n - p.first) (omega arith) in
    (found.0, record { index = n - p.first; cpu_is = cpu_is; number_is = omega arith; record_is = found.1 })

pub in_taken : (ps : List Parcel) (i cpu n : ℕ) → IsIn ps i cpu n → IsTaken ps cpu n
in_taken ps i cpu n x = let found = record_at x.parcel cpu n x.cpu_is x.from x.below in
    (found.0, record { index = i; parcel = x.parcel; at = x.at; pair = found.1 })

pub known_of : (ps : List Parcel) (cpu n : ℕ) (content : Content) → IsContentAt ps cpu n (Some content)
    → IsKnown ps cpu n
known_of ps cpu n (Kept i) shown = inl (in_taken ps i cpu n shown)
known_of ps cpu n Missing shown = inr shown

module _ (ps : List Parcel) (index : Index) (x : IsIndexed ps index) (cpu : ℕ) where
  ranges_known : (o : Option Ranges) → get nat_cmp index.cpus cpu ≡ o → IsSome o → IsCpuKnown ps cpu
  ranges_known None e some = absurd (false≢true some)
  ranges_known (Some ranges) e some = let stated = x.stated cpu ranges e in (
    stated.0,
    known_of ps cpu stated.0 stated.1 (shown_here ps index x cpu stated.0 (Some stated.1)
        record { ranges = ranges; at = e; reports = stated.2 } tt),
  )

  pub has_known : HasCpu index cpu → IsCpuKnown ps cpu
  has_known has = ranges_known (get nat_cmp index.cpus cpu) refl has

  pub known_has : IsCpuKnown ps cpu → HasCpu index cpu
  known_has known = ⊎_elim
      (λ (r, h). ap is_some (x.has cpu known.0 r h).reports.at)
      (λ m. ap is_some (x.misses cpu known.0 m).at)
      known.1

-- ---- the same stated

pub indexed_same : (ps : List Parcel) (old new : Index) → IsIndexed ps old → AreAllApart new → AreAllStated new
    → ((cpu : ℕ) → ReportSameOf old new cpu) → IsIndexed ps new
indexed_same ps old new x apart stated same = record {
  sound = x.sound;
  apart = apart;
  stated = stated;
  one = λ cpu n content other t u. x.one cpu n content other ((same cpu n content).1 t) ((same cpu n other).1 u);
  kept = λ cpu n i t. x.kept cpu n i ((same cpu n (Kept i)).1 t);
  missing = λ cpu n t. x.missing cpu n ((same cpu n Missing).1 t);
  has = λ cpu n r h. let a = x.has cpu n r h in
      record {
        kept = a.kept;
        parcel = a.parcel;
        reports = (same cpu n (Kept a.kept)).0 a.reports;
        at = a.at;
        pair = a.pair;
      };
  misses = λ cpu n m. (same cpu n Missing).0 (x.misses cpu n m);
}

-- ---- a copy

pub copy_indexed : (ps : List Parcel) (index copy : Index) → IsIndexed ps index → IsIndexCopy index copy
    → IsIndexed ps copy
copy_indexed ps index copy x copied = indexed_same ps index copy x
    (copies_apart index copy copied x.apart) (copies_stated index copy copied x.stated) (copies_same index copy copied)

-- ---- one more kept

module _ (ps : List Parcel) (p : Parcel) (old new : Index) (x : IsIndexed ps old) (is : IsParcel p)
    (agree : Agree (ps ++ p ∷ []))
    (low end : ℕ) (low_is : low + p.missed ≡ p.first) (end_is : end ≡ p.first + length p.records)
    (apart : AreAllApart new) (stated : AreAllStated new)
    (laid : IsLaid (ReportsOf old p.cpu) (ReportsOf new p.cpu) low p.first end (length ps))
    (others : (other : ℕ) → other ≢ p.cpu → ReportSameOf old new other) where
  -- the parcel has nothing to do with the number
  record IsApartFrom (cpu n : ℕ) : Type 0 where
    no_pair : (r : Record) → IsPairOf p cpu n r → ⊥
    not_missing : IsMissingOf p cpu n → ⊥

  -- what becomes of a number
  data Part (cpu n : ℕ) : Type 0 where
    elsewhere : ((content : Content) → (ReportsOf old cpu n content ↔ ReportsOf new cpu n content)) → IsApartFrom cpu n
        → Part cpu n
    missed : ReportsOf new cpu n Missing → ((content : Content) → ReportsOf new cpu n content → content ≡ Missing)
        → IsMissingOf p cpu n → Part cpu n
    recorded : ReportsOf new cpu n (Kept (length ps))
        → ((content : Content) → ReportsOf new cpu n content → content ≡ Kept (length ps))
        → cpu ≡ p.cpu → p.first ≤ n → n < p.first + length p.records → Part cpu n

  part_here : (n : ℕ) → Part p.cpu n
  part_here n = ⊎_elim
      (λ (lt : n < low). elsewhere (λ content. laid.in_front n content lt) record {
        no_pair = λ r pair. let is = pair.number_is in omega arith;
        not_missing = λ m. let up = m.low in omega arith;
      })
      (λ (ge : low ≤ n). ⊎_elim
      (λ (lt : n < p.first). missed (laid.missing n ge lt) (λ content. laid.missing_alone n content ge lt)
      record { cpu_is = refl; low = omega arith; high = lt })
      (λ (from : p.first ≤ n). ⊎_elim
      (λ (lt : n < end).
      recorded (laid.kept n from lt) (λ content. laid.kept_alone n content from lt) refl from (omega arith))
      (λ (ge : end ≤ n). elsewhere (λ content. laid.behind n content ge) record {
        no_pair = λ r pair. let is = pair.number_is in
            let within = slice_get_within p.records pair.index r pair.record_is in
            omega arith;
        not_missing = λ m. let under = m.high in omega arith;
      })
      (cases_lt n end))
      (cases_lt n p.first))
      (cases_lt n low)

  part : (cpu n : ℕ) → Part cpu n
  part cpu n = ⊎_elim
      (λ (e : cpu ≡ p.cpu). subst (λ (q : ℕ). Part q n) (sym e) (part_here n))
      (λ (ne : cpu ≢ p.cpu). elsewhere (λ content. others cpu ne n content) record {
        no_pair = λ r pair. ne pair.cpu_is;
        not_missing = λ m. ne m.cpu_is;
      })
      (cases_eq cpu p.cpu)

  has_own : (cpu n : ℕ) (r : Record) → IsPairOf p cpu n r → Has (ps ++ p ∷ []) cpu n r
  has_own cpu n r pair = record { index = length ps; parcel = p; at = get_last ps p; pair = pair }

  misses_own : (cpu n : ℕ) → IsMissingOf p cpu n → Misses (ps ++ p ∷ []) cpu n
  misses_own cpu n missing = record { index = length ps; parcel = p; at = get_last ps p; missing = missing }

  one_of : (cpu n : ℕ) (content other : Content) → Part cpu n → ReportsOf new cpu n content → ReportsOf new cpu n other
      → content ≡ other
  one_of cpu n content other (elsewhere same not) t u =
      x.one cpu n content other ((same content).1 t) ((same other).1 u)
  one_of cpu n content other (missed there alone m) t u = alone content t ∙ sym (alone other u)
  one_of cpu n content other (recorded there alone c from below) t u = alone content t ∙ sym (alone other u)

  kept_of : (cpu n i : ℕ) → Part cpu n → ReportsOf new cpu n (Kept i) → IsIn (ps ++ p ∷ []) i cpu n
  kept_of cpu n i (elsewhere same not) t = let a = x.kept cpu n i ((same (Kept i)).1 t) in
      record {
        parcel = a.parcel;
        at = get_in_front ps (p ∷ []) i a.parcel a.at;
        cpu_is = a.cpu_is;
        from = a.from;
        below = a.below;
      }
  kept_of cpu n i (missed there alone m) t = absurd (let e = alone (Kept i) t in cc)
  kept_of cpu n i (recorded there alone c from below) t =
      let e : i ≡ length ps =
      kept_same i (length ps) (alone (Kept i) t) in
      record {
        parcel = p;
        at = ap (slice_get (ps ++ p ∷ [])) e ∙ get_last ps p;
        cpu_is = c;
        from = from;
        below = below;
      }

  missing_of : (cpu n : ℕ) → Part cpu n → ReportsOf new cpu n Missing → Misses (ps ++ p ∷ []) cpu n
  missing_of cpu n (elsewhere same not) t =
      (joined_left ps (p ∷ [])).misses cpu n (x.missing cpu n ((same Missing).1 t))
  missing_of cpu n (missed there alone m) t = misses_own cpu n m
  missing_of cpu n (recorded there alone c from below) t = absurd (let e = alone Missing t in cc)

  old_has : (cpu n : ℕ) (r : Record) → Part cpu n → Has ps cpu n r → IsFoundBy (ps ++ p ∷ []) new cpu n r
  old_has cpu n r (elsewhere same not) h = let a = x.has cpu n r h in
      record {
        kept = a.kept;
        parcel = a.parcel;
        reports = (same (Kept a.kept)).0 a.reports;
        at = get_in_front ps (p ∷ []) a.kept a.parcel a.at;
        pair = a.pair;
      }
  old_has cpu n r (missed there alone m) h =
      absurd (agree.not_missing cpu n r ((joined_left ps (p ∷ [])).has cpu n r h) (misses_own cpu n m))
  old_has cpu n r (recorded there alone c from below) h =
      let own = record_at p cpu n c from below in
      let e : own.0 ≡ r =
      agree.one_record cpu n own.0 r (has_own cpu n own.0 own.1) ((joined_left ps (p ∷ [])).has cpu n r h) in
      record {
        kept = length ps;
        parcel = p;
        reports = there;
        at = get_last ps p;
        pair = subst (IsPairOf p cpu n) e own.1;
      }

  own_has : (cpu n : ℕ) (r : Record) → Part cpu n → IsPairOf p cpu n r → IsFoundBy (ps ++ p ∷ []) new cpu n r
  own_has cpu n r (elsewhere same not) pair = absurd (not.no_pair r pair)
  own_has cpu n r (missed there alone m) pair =
      absurd (agree.not_missing cpu n r (has_own cpu n r pair) (misses_own cpu n m))
  own_has cpu n r (recorded there alone c from below) pair =
      record { kept = length ps; parcel = p; reports = there; at = get_last ps p; pair = pair }

  old_misses : (cpu n : ℕ) → Part cpu n → Misses ps cpu n → ReportsOf new cpu n Missing
  old_misses cpu n (elsewhere same not) m = (same Missing).0 (x.misses cpu n m)
  old_misses cpu n (missed there alone own) m = there
  old_misses cpu n (recorded there alone c from below) m = let own = record_at p cpu n c from below in
      absurd (agree.not_missing cpu n own.0 (has_own cpu n own.0 own.1) ((joined_left ps (p ∷ [])).misses cpu n m))

  own_misses : (cpu n : ℕ) → Part cpu n → IsMissingOf p cpu n → ReportsOf new cpu n Missing
  own_misses cpu n (elsewhere same not) m = absurd (not.not_missing m)
  own_misses cpu n (missed there alone own) m = there
  own_misses cpu n (recorded there alone c from below) m = let under = m.high in absurd (omega arith)

  pub kept_indexed : IsIndexed (ps ++ p ∷ []) new
  kept_indexed = record {
    sound = λ k q at. ⊎_elim
        (λ (there : slice_get ps k ≡ Some q). x.sound k q there)
        (λ (own : (k ≡ length ps) × (q ≡ p)). subst IsParcel (sym own.1) is)
        (get_pushed ps p k q at);
    apart = apart;
    stated = stated;
    one = λ cpu n content other t u. one_of cpu n content other (part cpu n) t u;
    kept = λ cpu n i t. kept_of cpu n i (part cpu n) t;
    missing = λ cpu n t. missing_of cpu n (part cpu n) t;
    has = λ cpu n r h. ⊎_elim
        (λ (there : slice_get ps h.index ≡ Some h.parcel).
        old_has cpu n r (part cpu n) record { index = h.index; parcel = h.parcel; at = there; pair = h.pair })
        (λ (own : (h.index ≡ length ps) × (h.parcel ≡ p)).
        own_has cpu n r (part cpu n) (subst (λ (q : Parcel). IsPairOf q cpu n r) own.1 h.pair))
        (get_pushed ps p h.index h.parcel h.at);
    misses = λ cpu n m. ⊎_elim
        (λ (there : slice_get ps m.index ≡ Some m.parcel).
        old_misses cpu n (part cpu n)
        record { index = m.index; parcel = m.parcel; at = there; missing = m.missing })
        (λ (own : (m.index ≡ length ps) × (m.parcel ≡ p)).
        own_misses cpu n (part cpu n) (subst (λ (q : Parcel). IsMissingOf q cpu n) own.1 m.missing))
        (get_pushed ps p m.index m.parcel m.at);
  }

-- the index with a parcel more is that of the parcels with it, by what the parcel's calls state of it
pub kept_indexed_at : (ps : List Parcel) (p : Parcel) (old new : Index) → IsIndexed ps old → IsParcel p
    → Agree (ps ++ p ∷ [])
    → (cpu low first end at : ℕ) → cpu ≡ p.cpu → first ≡ p.first → low + p.missed ≡ p.first
    → end ≡ p.first + length p.records
    → at ≡ length ps → AreAllApart new → AreAllStated new
    → IsLaid (ReportsOf old cpu) (ReportsOf new cpu) low first end at
    → ((other : ℕ) → other ≢ cpu → ReportSameOf old new other) → IsIndexed (ps ++ p ∷ []) new
kept_indexed_at ps p old new x is agree cpu low first end at cpu_is first_is low_is end_is at_is apart stated laid
    others =
    let at_cpu : IsLaid (ReportsOf old p.cpu) (ReportsOf new p.cpu) low first end at =
    subst (λ (q : ℕ). IsLaid (ReportsOf old q) (ReportsOf new q) low first end at) cpu_is laid in
    let at_first : IsLaid (ReportsOf old p.cpu) (ReportsOf new p.cpu) low p.first end at =
    subst (λ (q : ℕ). IsLaid (ReportsOf old p.cpu) (ReportsOf new p.cpu) low q end at) first_is at_cpu in
    let laid_at : IsLaid (ReportsOf old p.cpu) (ReportsOf new p.cpu) low p.first end (length ps) =
    subst (λ (q : ℕ). IsLaid (ReportsOf old p.cpu) (ReportsOf new p.cpu) low p.first end q) at_is at_first in
    kept_indexed ps p old new x is agree low end low_is end_is apart stated laid_at
    (subst (λ (q : ℕ). (other : ℕ) → other ≢ q → ReportSameOf old new other) cpu_is others)
