-- What parcels have decides their listing, and parcels that agree have one.
use Rattle.std.proofs.Common.{◌≡◌, ℕ, zero, suc, ◌<◌, ◌⊎◌, inl, inr, ⊎_elim, List, [], ◌∷◌, Some, refl, sym, ap, ◌∙◌}
use Rattle.std.proofs.Common.{subst, arith}
use Rattle.std.proofs.lemmas.Option.{none-some}
use Rattle.std.proofs.lemmas.Bool.{cases_lt}
use Rattle.std.specs.List.{slice_get}
use Rattle.trace_model.specs.Record.{Record}
use Rattle.trace_model.specs.Parcel.{Parcel}
use Rattle.trace_model.specs.Collection.{Has, Agree, IsBelow, IsSame}
use Rattle.trace_model.specs.Listing.{Line, IsBefore, IsTimeOrdered, IsListing}
use Rattle.trace_model.proofs.collections.Elements.{some_is}

-- ---- the order of lines

pub not_before_itself : (a : Line) → IsBefore a a → ⊥
not_before_itself a b = omega arith

pub before_before : (a b c : Line) → IsBefore a b → IsBefore b c → IsBefore a c
before_before a b c f s = ⊎_elim
    (λ low.
    inl (⊎_elim (λ l. let e : a.moment < c.moment = omega arith in e)
    (λ (same, l). let e : a.moment < c.moment = omega arith in e) s))
    (λ (same, rest). ⊎_elim
    (λ l. inl (let e : a.moment < c.moment = omega arith in e))
    (λ (also, more). inr (
      same ∙ also,
      ⊎_elim
          (λ low.
          inl (⊎_elim (λ l. let e : a.cpu < c.cpu = omega arith in e)
          (λ (eq, l). let e : a.cpu < c.cpu = omega arith in e) more))
          (λ (eq, low). ⊎_elim
          (λ l. inl (let e : a.cpu < c.cpu = omega arith in e))
          (λ (eq2, l). inr (eq ∙ eq2, let e : a.number < c.number = omega arith in e))
          more)
          rest,
    ))
    s)
    f

-- two lines have the same moment, CPU and number
pub record HasKeyOf (a b : Line) : Type 0 where
  pub moment : a.moment ≡ b.moment
  pub cpu : a.cpu ≡ b.cpu
  pub number : a.number ≡ b.number

pub either_before : (a b : Line) → IsBefore a b ⊎ (IsBefore b a ⊎ HasKeyOf a b)
either_before a b = three a.moment b.moment
    (λ l. inl (inl l))
    (λ l. inr (inl (inl l)))
    (λ moment. three a.cpu b.cpu
    (λ l. inl (inr (moment, inl l)))
    (λ l. inr (inl (inr (sym moment, inl l))))
    (λ cpu. three a.number b.number
    (λ l. inl (inr (moment, inr (cpu, l))))
    (λ l. inr (inl (inr (sym moment, inr (sym cpu, l)))))
    (λ number. inr (inr record { moment = moment; cpu = cpu; number = number }))))
  where
    three : {A : Type 0} (m n : ℕ) → (m < n → A) → (n < m → A) → (m ≡ n → A) → A
    three m n below above same =
        ⊎_elim below (λ le. ⊎_elim above (λ ge. same (omega arith)) (cases_lt n m)) (cases_lt m n)

pub ordered_tail : (x : Line) (lines : List Line) → IsTimeOrdered (x ∷ lines) → IsTimeOrdered lines
ordered_tail x lines ordered k a b at next = ordered (suc k) a b at next

-- the first line is before each other one
pub before_all : (x : Line) (lines : List Line) → IsTimeOrdered (x ∷ lines) → (k : ℕ) (y : Line)
    → slice_get lines k ≡ Some y → IsBefore x y
before_all x [] ordered k y at = absurd (none-some y at)
before_all x (z ∷ lines) ordered zero y at = ordered 0 x y refl at
before_all x (z ∷ lines) ordered (suc k) y at =
    before_before x z y (ordered 0 x z refl refl) (before_all z lines (ordered_tail x (z ∷ lines) ordered) k y at)

pub ordered_push : (x : Line) (lines : List Line) → IsTimeOrdered lines
    → ((y : Line) → slice_get lines 0 ≡ Some y → IsBefore x y) → IsTimeOrdered (x ∷ lines)
ordered_push x lines ordered first zero a b at next = subst (λ (l : Line). IsBefore l b) (some_is x a at) (first b next)
ordered_push x lines ordered first (suc k) a b at next = ordered k a b at next

-- ---- a listing has each line once, and is decided by its lines

abbrev pub Stands : List Line → Line → Type 0
Stands lines line = (k : ℕ) × (slice_get lines k ≡ Some line)

not_again : (x : Line) (lines : List Line) → IsTimeOrdered (x ∷ lines) → (k : ℕ) → slice_get lines k ≡ Some x → ⊥
not_again x lines ordered k at = not_before_itself x (before_all x lines ordered k x at)

stands_once : (lines : List Line) → IsTimeOrdered lines → (j k : ℕ) (line : Line) → slice_get lines j ≡ Some line
    → slice_get lines k ≡ Some line → j ≡ k
stands_once [] ordered j k line at there = absurd (none-some line at)
stands_once (x ∷ lines) ordered zero zero line at there = refl
stands_once (x ∷ lines) ordered zero (suc k) line at there = absurd (not_again x lines ordered k (there ∙ sym at))
stands_once (x ∷ lines) ordered (suc j) zero line at there = absurd (not_again x lines ordered j (at ∙ sym there))
stands_once (x ∷ lines) ordered (suc j) (suc k) line at there =
    ap suc (stands_once lines (ordered_tail x lines ordered) j k line at there)

-- of two ordered lists with the same lines, the first lines are the same
first_same : (x y : Line) (xs ys : List Line) → IsTimeOrdered (x ∷ xs) → IsTimeOrdered (y ∷ ys) → Stands (y ∷ ys) x
    → Stands (x ∷ xs) y → x ≡ y
first_same x y xs ys ordered also (zero, at) (k, there) = sym (some_is y x at)
first_same x y xs ys ordered also (suc j, at) (zero, there) = some_is x y there
first_same x y xs ys ordered also (suc j, at) (suc k, there) =
    absurd (not_before_itself x (before_before x y x (before_all x xs ordered k y there) (before_all y ys also j x at)))

-- a line after the first one is after the first one of the other
behind_first : (x y : Line) (xs ys : List Line) → x ≡ y → IsTimeOrdered (x ∷ xs) → (k : ℕ) (line : Line)
    → slice_get xs k ≡ Some line → Stands (y ∷ ys) line → Stands ys line
behind_first x y xs ys same ordered k line at (zero, there) =
    absurd (not_again x xs ordered k (at ∙ sym there ∙ ap Some (sym same)))
behind_first x y xs ys same ordered k line at (suc j, there) = (j, there)

pub same_lines : (xs ys : List Line) → IsTimeOrdered xs → IsTimeOrdered ys
    → ((k : ℕ) (line : Line) → slice_get xs k ≡ Some line → Stands ys line)
    → ((k : ℕ) (line : Line) → slice_get ys k ≡ Some line → Stands xs line) → xs ≡ ys
same_lines [] [] ordered also there back = refl
same_lines [] (y ∷ ys) ordered also there back = absurd (none-some y (back 0 y refl).1)
same_lines (x ∷ xs) [] ordered also there back = absurd (none-some x (there 0 x refl).1)
same_lines (x ∷ xs) (y ∷ ys) ordered also there back =
    let first = first_same x y xs ys ordered also (there 0 x refl) (back 0 y refl) in
    let rest = same_lines xs ys (ordered_tail x xs ordered) (ordered_tail y ys also)
    (λ k line at. behind_first x y xs ys first ordered k line at (there (suc k) line at))
    (λ k line at. behind_first y x ys xs (sym first) also k line at (back (suc k) line at)) in
    (λ i. first i ∷ rest i)

lines_below : (ps qs : List Parcel) (lines others : List Line) → IsBelow ps qs → IsListing ps lines
    → IsListing qs others → (k : ℕ) (line : Line) → slice_get lines k ≡ Some line → Stands others line
lines_below ps qs lines others below l o k line at =
    o.whole line.cpu line.number record { moment = line.moment; bytes = line.bytes }
    (below.has line.cpu line.number record { moment = line.moment; bytes = line.bytes } (l.of_them k line at))

pub one_listing : (ps qs : List Parcel) (lines others : List Line) → IsSame ps qs → IsListing ps lines
    → IsListing qs others → lines ≡ others
one_listing ps qs lines others same l o =
    same_lines lines others l.ordered o.ordered (lines_below ps qs lines others same.below l o)
    (lines_below qs ps others lines same.above o l)

pub once : (ps : List Parcel) (lines : List Line) (j k : ℕ) (line : Line) → IsListing ps lines
    → slice_get lines j ≡ Some line → slice_get lines k ≡ Some line → j ≡ k
once ps lines j k line l at there = stands_once lines l.ordered j k line at there

-- of parcels that agree, a CPU and a number have one line
pub one_line : (ps : List Parcel) (lines : List Line) (j k : ℕ) (a b : Line) → Agree ps → IsListing ps lines
    → slice_get lines j ≡ Some a → slice_get lines k ≡ Some b → a.cpu ≡ b.cpu → a.number ≡ b.number → j ≡ k
one_line ps lines j k a b agree l at there cpu number = once ps lines j k b l (at ∙ ap Some same) there
  where
    that : Has ps a.cpu a.number record { moment = b.moment; bytes = b.bytes }
    that = subst (λ (c : ℕ). Has ps c a.number record { moment = b.moment; bytes = b.bytes }) (sym cpu)
        (subst (λ (n : ℕ). Has ps b.cpu n record { moment = b.moment; bytes = b.bytes }) (sym number)
        (l.of_them k b there))

    record_same : ◌≡◌ {A = Record} record { moment = a.moment; bytes = a.bytes }
        record { moment = b.moment; bytes = b.bytes }
    record_same =
        agree.one_record a.cpu a.number record { moment = a.moment; bytes = a.bytes }
        record { moment = b.moment; bytes = b.bytes } (l.of_them j a at) that

    same : a ≡ b
    same i = record { moment = (record_same i).moment; cpu = cpu i; number = number i; bytes = (record_same i).bytes }
