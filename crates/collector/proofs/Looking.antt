-- What is shown of a number, by what the code has matched.
use Rattle.std.proofs.Common.{◌≡◌, ℕ, ◌+◌, ◌-◌, ◌<◌, ◌≤◌, List, length, drop, Option, Some, None, IfSome, IfNone, sym}
use Rattle.std.proofs.Common.{ap, ◌∙◌, subst, arith}
use Rattle.std.specs.List.{slice_get, enumerate_from}
use Rattle.std.specs.Option.{option_map}
use Rattle.std.specs.Iterator.{YieldsFirstBy}
use Rattle.std.proofs.lemmas.Option.{none-some, slice_get_within}
use Rattle.trace_model.specs.Record.{Record}
use Rattle.trace_model.specs.Parcel.{Parcel, IsPairOf}
use Rattle.trace_model.specs.Collection.{Has, Misses, Agree}
use Rattle.trace_model.proofs.collections.Elements.{some_is}
use Rattle.page_borrow.specs.declared.entries.Entry.{Entry}
use Rattle.page_borrow.specs.Entries.{numbered_record}
use Rattle.collector.specs.declared.ranges.Content.{Content}
use Rattle.collector.specs.declared.ranges.Content.TheVariants.{Kept, Missing}
use Rattle.collector.specs.Index.{IsIn}
use Rattle.collector.specs.Entries.{numbered}
use Rattle.collector.specs.Shown.{IsUnknown, IsContentAt}
use Rattle.collector.proofs.Indexing.{record_at}
use Rattle.collector.proofs.Records.{next_is}

-- ---- what is matched

pub shown_kept : (ps : List Parcel) (cpu n i : ℕ) (o : Option Content) → o ≡ Some (Kept i) → IsContentAt ps cpu n o
    → IsIn ps i cpu n
shown_kept ps cpu n i o e shown =
    let here : IsContentAt ps cpu n (Some (Kept i)) =
    subst (IsContentAt ps cpu n) e shown in
    here

pub shown_missing : (ps : List Parcel) (cpu n : ℕ) (o : Option Content) → o ≡ Some Missing → IsContentAt ps cpu n o
    → Misses ps cpu n
shown_missing ps cpu n o e shown =
    let here : IsContentAt ps cpu n (Some Missing) =
    subst (IsContentAt ps cpu n) e shown in
    here

pub shown_none : (ps : List Parcel) (cpu n : ℕ) (o : Option Content) → o ≡ None → IsContentAt ps cpu n o
    → IsUnknown ps cpu n
shown_none ps cpu n o e shown = let here : IsContentAt ps cpu n None = subst (IsContentAt ps cpu n) e shown in here

pub in_within : (ps : List Parcel) (i cpu n : ℕ) → IsIn ps i cpu n → i < length ps
in_within ps i cpu n x = slice_get_within ps i x.parcel x.at

-- the parcel at the index has the number
pub in_is : (ps : List Parcel) (i cpu n : ℕ) (q : Parcel) → slice_get ps i ≡ Some q → IsIn ps i cpu n
    → (cpu ≡ q.cpu) × (q.first ≤ n) × (n < q.first + length q.records)
in_is ps i cpu n q at x = let same : x.parcel ≡ q = some_is x.parcel q (sym x.at ∙ at) in
    subst (λ (z : Parcel). (cpu ≡ z.cpu) × (z.first ≤ n) × (n < z.first + length z.records)) same
    (x.cpu_is, x.from, x.below)

-- a number with a record isn't missing, one without isn't taken
pub kept_not_missing : (ps : List Parcel) (i cpu n : ℕ) → Agree ps → IsIn ps i cpu n → Misses ps cpu n → ⊥
kept_not_missing ps i cpu n agree x m = let found = record_at x.parcel cpu n x.cpu_is x.from x.below in
    agree.not_missing cpu n found.0 record { index = i; parcel = x.parcel; at = x.at; pair = found.1 } m

-- ---- the record that is read

-- what a call of `next` gives, over the records of a parcel from a number on
module _ (ps : List Parcel) (i cpu n : ℕ) (q : Parcel) (at : slice_get ps i ≡ Some q) (x : IsIn ps i cpu n)
    (s t : List (ℕ × Record)) (r : Option Entry) (left : s ≡ enumerate_from n (drop (n - q.first) q.records))
    (step : YieldsFirstBy numbered_record (λ (left : List (ℕ × Record)). left) s r t) where
  read_is : (o : Record) → IsPairOf q cpu n o → option_map numbered_record r ≡ Some (n, o)
  read_is o pair = let is = pair.number_is in
      (next_is n (n - q.first) q.records s t r left step).0
      ∙ ap (option_map (numbered n))
      (ap (slice_get q.records) (let e : n - q.first ≡ pair.index = omega arith in e) ∙ pair.record_is)

  found : (o : Record) × IsPairOf q cpu n o
  found = let is = in_is ps i cpu n q at x in record_at q cpu n is.0 is.1 is.2

  number_of : (r : Option Entry) (o : Record) → option_map numbered_record r ≡ Some (n, o)
      → IfSome r (λ entry. (numbered_record entry).0 ≡ n)
  number_of None o e = tt
  number_of (Some entry) o e = let h : numbered_record entry ≡ (n, o) = some_is (numbered_record entry) (n, o) e in
      ap (λ (p : ℕ × Record). p.0) h

  has_of : (r : Option Entry) (o : Record) → option_map numbered_record r ≡ Some (n, o) → Has ps cpu n o
      → IfSome r (λ entry. Has ps cpu n (numbered_record entry).1)
  has_of None o e h = tt
  has_of (Some entry) o e h = let same : numbered_record entry ≡ (n, o) = some_is (numbered_record entry) (n, o) e in
      subst (Has ps cpu n) (ap (λ (p : ℕ × Record). p.1) (sym same)) h

  none_of : (r : Option Entry) (o : Record) → option_map numbered_record r ≡ Some (n, o)
      → IfNone r ((z : Record) → Has ps cpu n z → ⊥)
  none_of None o e = absurd (none-some (n, o) e)
  none_of (Some entry) o e = tt

  pub read_number : IfSome r (λ entry. (numbered_record entry).0 ≡ n)
  read_number = number_of r found.0 (read_is found.0 found.1)

  pub read_has : IfSome r (λ entry. Has ps cpu n (numbered_record entry).1)
  read_has = has_of r found.0 (read_is found.0 found.1) record { index = i; parcel = q; at = at; pair = found.1 }

  pub read_none : IfNone r ((z : Record) → Has ps cpu n z → ⊥)
  read_none = none_of r found.0 (read_is found.0 found.1)
