-- Parcels that agree have a listing: their lines, each put where it belongs.
use Rattle.std.proofs.Common.{◌≡◌, ℕ, zero, suc, ◌+◌, ◌⊎◌, inl, inr, ⊎_elim, List, [], ◌∷◌, ◌++◌, length, Some, refl}
use Rattle.std.proofs.Common.{sym, ap, ◌∙◌, subst, arith}
use Rattle.std.proofs.lemmas.Option.{none-some}
use Rattle.std.specs.List.{slice_get}
use Rattle.trace_model.specs.Record.{Record}
use Rattle.trace_model.specs.Parcel.{Parcel, IsPairOf}
use Rattle.trace_model.specs.Collection.{Has, Agree}
use Rattle.trace_model.specs.Listing.{Line, IsBefore, IsTimeOrdered, IsListing}
use Rattle.trace_model.proofs.collections.Elements.{some_is, get_in_front, get_behind, get_in_either}
use Rattle.trace_model.proofs.collections.Listings.{HasKeyOf, Stands, either_before, ordered_tail, before_all}
use Rattle.trace_model.proofs.collections.Listings.{ordered_push}

-- ---- one line more

-- the second lines are the first ones and this line, in order
record HasLine (line : Line) (lines others : List Line) : Type 0 where
  ordered : IsTimeOrdered others
  of_them : (l : Line) → Stands others l → (l ≡ line) ⊎ Stands lines l
  has : Stands others line
  keeps : (l : Line) → Stands lines l → Stands others l

-- a line is the first or after the first
first_or_behind : (x : Line) (lines : List Line) (l : Line) → Stands (x ∷ lines) l → (x ≡ l) ⊎ Stands lines l
first_or_behind x lines l (zero, at) = inl (some_is x l at)
first_or_behind x lines l (suc k, at) = inr (k, at)

behind_one : (x : Line) (lines : List Line) (l : Line) → Stands lines l → Stands (x ∷ lines) l
behind_one x lines l (k, at) = (suc k, at)

in_front : (line : Line) (lines : List Line) → IsTimeOrdered lines
    → ((l : Line) → slice_get lines 0 ≡ Some l → IsBefore line l) → HasLine line lines (line ∷ lines)
in_front line lines ordered first = record {
  ordered = ordered_push line lines ordered first;
  of_them = λ l there. ⊎_elim (λ same. inl (sym same)) (λ behind. inr behind) (first_or_behind line lines l there);
  has = (0, refl);
  keeps = λ l there. behind_one line lines l there;
}

behind_first : (line x : Line) (lines others : List Line) → IsTimeOrdered (x ∷ lines) → IsBefore x line
    → HasLine line lines others → HasLine line (x ∷ lines) (x ∷ others)
behind_first line x lines others ordered before h = record {
  ordered = ordered_push x others h.ordered (λ l at. ⊎_elim
      (λ same. subst (IsBefore x) (sym same) before)
      (λ (k, there). before_all x lines ordered k l there)
      (h.of_them l (0, at)));
  of_them = λ l there. ⊎_elim
      (λ same. inr (0, ap Some same))
      (λ behind. ⊎_elim (λ same. inl same) (λ old. inr (behind_one x lines l old)) (h.of_them l behind))
      (first_or_behind x others l there);
  has = behind_one x others line h.has;
  keeps = λ l there. ⊎_elim
      (λ same. (0, ap Some same))
      (λ behind. behind_one x others l (h.keeps l behind))
      (first_or_behind x lines l there);
}

there_already : (line : Line) (lines : List Line) → IsTimeOrdered lines → Stands lines line → HasLine line lines lines
there_already line lines ordered there =
    record { ordered = ordered; of_them = λ l at. inr at; has = there; keeps = λ l at. at }

one_more : (line : Line) (lines : List Line) → IsTimeOrdered lines
    → ((l : Line) → Stands lines l → HasKeyOf line l → line ≡ l) → (others : List Line) × HasLine line lines others
one_more line [] ordered apart = (line ∷ [], in_front line [] ordered (λ l at. absurd (none-some l at)))
one_more line (x ∷ lines) ordered apart = ⊎_elim
    (λ before.
    (line ∷ x ∷ lines, in_front line (x ∷ lines) ordered (λ l at. subst (IsBefore line) (some_is x l at) before)))
    (λ other. ⊎_elim
    (λ behind. let (others, h) =
    one_more line lines (ordered_tail x lines ordered) (λ l there key. apart l (behind_one x lines l there) key) in
    (x ∷ others, behind_first line x lines others ordered behind h))
    (λ key. (x ∷ lines, there_already line (x ∷ lines) ordered (0, ap Some (sym (apart x (0, refl) key)))))
    other)
    (either_before line x)

-- ---- all lines

-- the second list has the lines of the first one, in order
record IsOrdering (lines others : List Line) : Type 0 where
  ordered : IsTimeOrdered others
  of_them : (l : Line) → Stands others l → Stands lines l
  keeps : (l : Line) → Stands lines l → Stands others l

all_ordered : (lines : List Line) → ((a b : Line) → Stands lines a → Stands lines b → HasKeyOf a b → a ≡ b)
    → (others : List Line) × IsOrdering lines others
all_ordered [] apart =
    ([], record { ordered = λ k a b at. absurd (none-some a at); of_them = λ l there. there; keeps = λ l there. there })
all_ordered (x ∷ lines) apart =
    let (others, o) =
    all_ordered lines (λ a b there also. apart a b (behind_one x lines a there) (behind_one x lines b also)) in
    let (more, h) =
    one_more x others o.ordered (λ l there. apart x l (0, refl) (behind_one x lines l (o.of_them l there))) in (
      more,
      record {
        ordered = h.ordered;
        of_them =
            λ l there.
            ⊎_elim (λ same. (0, ap Some (sym same))) (λ old. behind_one x lines l (o.of_them l old))
            (h.of_them l there);
        keeps =
            λ l there.
            ⊎_elim (λ same. subst (Stands more) same h.has) (λ behind. h.keeps l (o.keeps l behind))
            (first_or_behind x lines l there);
      },
    )

-- ---- the lines of parcels

abbrev line_of : ℕ → ℕ → Record → Line
line_of cpu number r = record { moment = r.moment; cpu = cpu; number = number; bytes = r.bytes }

abbrev record_of : Line → Record
record_of line = record { moment = line.moment; bytes = line.bytes }

abbrev lines_from : ℕ → ℕ → List Record → List Line
lines_from cpu number [] = []
lines_from cpu number (r ∷ records) = line_of cpu number r ∷ lines_from cpu (suc number) records

abbrev lines_of : List Parcel → List Line
lines_of [] = []
lines_of (p ∷ ps) = lines_from p.cpu p.first p.records ++ lines_of ps

line_at : (cpu number : ℕ) (records : List Record) (index : ℕ) (r : Record) → slice_get records index ≡ Some r
    → slice_get (lines_from cpu number records) index ≡ Some (line_of cpu (number + index) r)
line_at cpu number [] index r at = absurd (none-some r at)
line_at cpu number (x ∷ records) zero r at =
    ap Some (λ i. line_of cpu ((let e : number ≡ number + 0 = omega arith in e) i) (some_is x r at i))
line_at cpu number (x ∷ records) (suc index) r at =
    line_at cpu (suc number) records index r at
    ∙ ap (λ (n : ℕ). Some (line_of cpu n r)) (let e : suc number + index ≡ number + suc index = omega arith in e)

-- a line stands for a record of the parcel
record IsLineOf (cpu number : ℕ) (records : List Record) (l : Line) : Type 0 where
  index : ℕ
  cpu_is : l.cpu ≡ cpu
  number_is : l.number ≡ number + index
  record_is : slice_get records index ≡ Some (record_of l)

line_from : (cpu number : ℕ) (records : List Record) (k : ℕ) (l : Line)
    → slice_get (lines_from cpu number records) k ≡ Some l → IsLineOf cpu number records l
line_from cpu number [] k l at = absurd (none-some l at)
line_from cpu number (x ∷ records) zero l at =
    let same = some_is (line_of cpu number x) l at in
    record {
      index = 0;
      cpu_is = ap (λ (m : Line). m.cpu) (sym same);
      number_is = ap (λ (m : Line). m.number) (sym same) ∙ (let e : number ≡ number + 0 = omega arith in e);
      record_is = ap (λ (m : Line). Some (record_of m)) same;
    }
line_from cpu number (x ∷ records) (suc k) l at =
    let f = line_from cpu (suc number) records k l at in
    record {
      index = suc f.index;
      cpu_is = f.cpu_is;
      number_is = f.number_is ∙ (let e : suc number + f.index ≡ number + suc f.index = omega arith in e);
      record_is = f.record_is;
    }

stands_for : (ps : List Parcel) (cpu number : ℕ) (r : Record) (index : ℕ) (p : Parcel) → slice_get ps index ≡ Some p
    → IsPairOf p cpu number r → Stands (lines_of ps) (line_of cpu number r)
stands_for [] cpu number r index p at pair = absurd (none-some p at)
stands_for (q ∷ ps) cpu number r zero p at pair =
    let there =
    subst
    (λ (x : Parcel).
    slice_get (lines_from x.cpu x.first x.records) pair.index
    ≡ Some (line_of x.cpu (x.first + pair.index) r)) (sym (some_is q p at))
    (line_at p.cpu p.first p.records pair.index r pair.record_is) in
    let same = some_is q p at in (
      pair.index,
      get_in_front (lines_from q.cpu q.first q.records) (lines_of ps) pair.index (line_of cpu number r)
          (there
          ∙ (λ i.
          Some (line_of ((ap (λ (x : Parcel). x.cpu) same ∙ sym pair.cpu_is) i)
          ((ap (λ (x : Parcel). x.first + pair.index) same ∙ sym pair.number_is) i) r))),
    )
stands_for (q ∷ ps) cpu number r (suc index) p at pair =
    let (k, there) = stands_for ps cpu number r index p at pair in
    let front = lines_from q.cpu q.first q.records in
    (length front + k, get_behind front (lines_of ps) k ∙ there)

stands_by : (ps : List Parcel) (l : Line) → Stands (lines_of ps) l → Has ps l.cpu l.number (record_of l)
stands_by [] l (k, at) = absurd (none-some l at)
stands_by (q ∷ ps) l (k, at) = ⊎_elim
    (λ (j, there). let f = line_from q.cpu q.first q.records j l there in
    record {
      index = 0;
      parcel = q;
      at = refl;
      pair = record { index = f.index; cpu_is = f.cpu_is; number_is = f.number_is; record_is = f.record_is };
    })
    (λ (j, there). let h = stands_by ps l (j, there) in
    record { index = suc h.index; parcel = h.parcel; at = h.at; pair = h.pair })
    (get_in_either (lines_from q.cpu q.first q.records) (lines_of ps) k l at)

-- lines with one key are one line, if the parcels agree
one_key : (ps : List Parcel) (a b : Line) → Agree ps → Stands (lines_of ps) a → Stands (lines_of ps) b → HasKeyOf a b
    → a ≡ b
one_key ps a b agree there also key =
    λ i. record { moment = (same i).moment; cpu = key.cpu i; number = key.number i; bytes = (same i).bytes }
  where
    same : record_of a ≡ record_of b
    same = agree.one_record a.cpu a.number (record_of a) (record_of b) (stands_by ps a there)
        (subst (λ (c : ℕ). Has ps c a.number (record_of b)) (sym key.cpu)
        (subst (λ (n : ℕ). Has ps b.cpu n (record_of b)) (sym key.number) (stands_by ps b also)))

pub some_listing : (ps : List Parcel) → Agree ps → (lines : List Line) × IsListing ps lines
some_listing ps agree =
    let (lines, o) = all_ordered (lines_of ps) (λ a b there also. one_key ps a b agree there also) in (
      lines,
      record {
        ordered = o.ordered;
        of_them = λ k line at. stands_by ps line (o.of_them line (k, at));
        whole =
            λ cpu number r h. o.keeps (line_of cpu number r) (stands_for ps cpu number r h.index h.parcel h.at h.pair);
      },
    )
