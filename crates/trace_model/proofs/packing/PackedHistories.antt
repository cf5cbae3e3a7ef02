-- What was done stays packed by one more event: the fills have room, and the event was allowed.
use Rattle.std.proofs.Common.{◌≡◌, ◌≢◌, ℕ, zero, suc, ◌+◌, ◌-◌, ◌^◌, ◌<◌, ◌≤◌, ◌⊎◌, true, false, max, List, [], ◌∷◌}
use Rattle.std.proofs.Common.{◌++◌, length, get_or, take, drop, map, Option, Some, None, refl, sym, ap, ◌∙◌, subst, inl}
use Rattle.std.proofs.Common.{inr, ⊎_elim, arith, append_assoc, length-append}
use Rattle.std.specs.Prelude.{nat_lt, nat_le, if◌then◌else◌, Bool, IsTrue}
use Rattle.std.proofs.lemmas.List.Sums.{fold-append}
use Rattle.std.proofs.lemmas.Option.{none-some, same_Some}
use Rattle.std.proofs.lemmas.Bool.{cond_both}
use Rattle.std.proofs.lemmas.List.{map_push}
use mathlib.Core.Logic.{dite}
use native.Mathlib.Decide.{ℕ_discrete, dec_le}
use Rattle.trace_model.specs.Words.{slot_len, encoded_len}
use Rattle.trace_model.specs.History.{HistoryEvent, push, push_close, open_fill, reserve, leave, wished, Reservation}
use Rattle.trace_model.specs.History.{PushedFrame, record_frame, close_frame, last_moment, reservation_for}
use Rattle.trace_model.specs.History.{records_with_payload, writer_after, reserved_records}
use Rattle.trace_model.specs.Packing.{opens_of, cut_from, fills_of, tail_of, len_behind, fill_len, FitsBehind}
use Rattle.trace_model.specs.Packing.{next_reservation_of, next_reservation, is_wished, MayCloseTail, IsPacked}
use Rattle.trace_model.specs.Frames.{Purpose, for_record, for_close, Progress, waiting, reserved, left, pushed_onto}
use Rattle.trace_model.specs.Fitting.{IsRising, tail_at, HaveRoom, IsFit, AreFit, FitsPage, NeedsFill}
use Rattle.trace_model.proofs.words.Lengths.{slot_len_ge_four, slot_len-slot_len}
use Rattle.trace_model.proofs.packing.FillCuts.{length-cut_from, reserved_before, reserved_last, opened_before}
use Rattle.trace_model.proofs.packing.FillCuts.{opened_last}

-- ---- a record without its bytes

abbrev pub plain : Reservation → Reservation
plain r = record { moment = r.moment; len = r.len; bytes = None }

len_behind-plain : (prev : ℕ) (xs : List Reservation) → len_behind prev (map plain xs) ≡ len_behind prev xs
len_behind-plain prev [] = refl
len_behind-plain prev (x ∷ xs) =
    ap (λ (k : ℕ). encoded_len x.len (x.moment - prev) false + k) (len_behind-plain x.moment xs)

pub fill_len-plain : (xs : List Reservation) → fill_len (map plain xs) ≡ fill_len xs
fill_len-plain [] = refl
fill_len-plain (x ∷ xs) = ap (λ (k : ℕ). encoded_len x.len 0 true + k) (len_behind-plain x.moment xs)

pub plain-finished : (number : Option ℕ) (payload : Option (List ℕ)) (xs : List Reservation)
    → map plain (records_with_payload number payload xs) ≡ map plain xs
plain-finished None payload xs = refl
plain-finished (Some k) None xs = refl
plain-finished (Some k) (Some p) [] = refl
plain-finished (Some zero) (Some p) (x ∷ xs) = refl
plain-finished (Some (suc k)) (Some p) (x ∷ xs) =
    ap (λ (l : List Reservation). plain x ∷ l) (plain-finished (Some k) (Some p) xs)

last_moment-plain : (xs : List Reservation) → last_moment (map plain xs) ≡ last_moment xs
last_moment-plain [] = refl
last_moment-plain (x ∷ []) = refl
last_moment-plain (x ∷ y ∷ xs) = last_moment-plain (y ∷ xs)

drop-plain : (k : ℕ) (xs : List Reservation) → drop k (map plain xs) ≡ map plain (drop k xs)
drop-plain zero xs = refl
drop-plain (suc k) [] = refl
drop-plain (suc k) (x ∷ xs) = drop-plain k xs

take-plain : (k : ℕ) (xs : List Reservation) → take k (map plain xs) ≡ map plain (take k xs)
take-plain zero xs = refl
take-plain (suc k) [] = refl
take-plain (suc k) (x ∷ xs) = ap (λ (l : List Reservation). plain x ∷ l) (take-plain k xs)

pub cut-plain : (from : ℕ) (cuts : List ℕ) (xs : List Reservation) (i : ℕ)
    → get_or (cut_from from cuts (map plain xs)) i [] ≡ map plain (get_or (cut_from from cuts xs) i [])
cut-plain from [] xs zero = drop-plain from xs
cut-plain from [] xs (suc i) = refl
cut-plain from (cut ∷ cuts) xs zero =
    ap (take (cut - from)) (drop-plain from xs) ∙ take-plain (cut - from) (drop from xs)
cut-plain from (cut ∷ cuts) xs (suc i) = cut-plain cut cuts xs i

-- records that differ in their bytes alone fill the same
fill_len-alike : (cuts : List ℕ) (xs ys : List Reservation) (i : ℕ) → map plain ys ≡ map plain xs
    → fill_len (get_or (cut_from 0 cuts ys) i []) ≡ fill_len (get_or (cut_from 0 cuts xs) i [])
fill_len-alike cuts xs ys i same = sym (fill_len-plain (get_or (cut_from 0 cuts ys) i []))
    ∙ ap fill_len
    (sym (cut-plain 0 cuts ys i) ∙ ap (λ (l : List Reservation). get_or (cut_from 0 cuts l) i []) same
    ∙ cut-plain 0 cuts xs i)
    ∙ fill_len-plain (get_or (cut_from 0 cuts xs) i [])

-- ---- the tail

cut-past : (from : ℕ) (cuts : List ℕ) (xs : List Reservation) (i : ℕ) → length cuts < i
    → get_or (cut_from from cuts xs) i [] ≡ []
cut-past from [] xs zero past = absurd (omega arith)
cut-past from [] xs (suc i) past = refl
cut-past from (cut ∷ cuts) xs zero past = absurd (omega arith)
cut-past from (cut ∷ cuts) xs (suc i) past = cut-past cut cuts xs i (omega arith)

pub tail_is : (h : List HistoryEvent) → tail_of h ≡ tail_at (opens_of h) (reserved_records h)
tail_is h =
    ap (λ (i : ℕ). get_or (fills_of h) i [])
    (let e = length-cut_from 0 (opens_of h) (reserved_records h) in
    let it : length (fills_of h) - 1 ≡ length (opens_of h) = omega arith in
    it)

-- ---- what records take after others

one_more : (e h s a b c d : ℕ) → e ≤ 8 → 4 ≤ b → 4 ≤ c → (e + h) + s + 0 ≤ ((a + b) + c) + ((d + h) + s + 0)
one_more e h s a b c d small wide slot = omega arith

first_more : (h s a d : ℕ) → (0 + h) + s + 0 ≤ a + ((d + h) + s + 0)
first_more h s a d = omega arith

extend_le : (delta : ℕ) → (if nat_lt delta (2 ^ 27) then 0 else 8) ≤ 8
extend_le delta = cond_both (nat_lt delta (2 ^ 27)) 0 8 (λ (k : ℕ). k ≤ 8) (λ _. omega arith) (λ _. omega arith)

front_ge : (len : ℕ) → 4 ≤ (if nat_le (slot_len len) 112 then 4 else 8)
front_ge len = cond_both (nat_le (slot_len len) 112) 4 8 (λ (k : ℕ). 4 ≤ k) (λ _. omega arith) (λ _. omega arith)

add_le : (a b c : ℕ) → b ≤ c → a + b ≤ a + c
add_le a b c le = omega arith

-- a record after these takes at most what another and then one of its length take, whatever their moments
behind_more : (prev : ℕ) (xs : List Reservation) (s : Reservation) (moment moment' len : ℕ)
    → len_behind prev (xs ++ record { moment = moment; len = len; bytes = None } ∷ [])
    ≤ len_behind prev (xs ++ (s ∷ record { moment = moment'; len = len; bytes = None } ∷ []))
behind_more prev [] s moment moment' len =
    one_more (if nat_lt (moment - prev) (2 ^ 27) then 0 else 8) (if nat_le (slot_len len) 112 then 4 else 8)
    (slot_len len)
    (if nat_lt (s.moment - prev) (2 ^ 27) then 0 else 8) (if nat_le (slot_len s.len) 112 then 4 else 8) (slot_len s.len)
    (if nat_lt (moment' - s.moment) (2 ^ 27) then 0 else 8)
    (extend_le (moment - prev)) (front_ge s.len) (slot_len_ge_four s.len)
behind_more prev (x ∷ xs) s moment moment' len =
    add_le (encoded_len x.len (x.moment - prev) false) _ _ (behind_more x.moment xs s moment moment' len)

fill_more : (xs : List Reservation) (s : Reservation) (moment moment' len : ℕ)
    → fill_len (xs ++ record { moment = moment; len = len; bytes = None } ∷ [])
    ≤ fill_len (xs ++ (s ∷ record { moment = moment'; len = len; bytes = None } ∷ []))
fill_more [] s moment moment' len =
    first_more (if nat_le (slot_len len) 112 then 4 else 8) (slot_len len) (encoded_len s.len 0 true)
    (if nat_lt (moment' - s.moment) (2 ^ 27) then 0 else 8)
fill_more (x ∷ xs) s moment moment' len =
    add_le (encoded_len x.len 0 true) _ _ (behind_more x.moment xs s moment moment' len)

-- ---- what the frame on top wants

pub wanted_record : (h : List HistoryEvent) (moment len : ℕ) (below : List PushedFrame)
    → (writer_after h).stack ≡ record_frame moment len None ∷ below
    → next_reservation h ≡ Some (reservation_for moment len (reserved_records h))
wanted_record h moment len below e = ap (λ (s : List PushedFrame). next_reservation_of s (reserved_records h)) e

pub wanted_close : (h : List HistoryEvent) (below : List PushedFrame) → (writer_after h).stack ≡ close_frame ∷ below
    → next_reservation h ≡ None
wanted_close h below e = ap (λ (s : List PushedFrame). next_reservation_of s (reserved_records h)) e

pub wanted_none : (h : List HistoryEvent) → (writer_after h).stack ≡ [] → next_reservation h ≡ None
wanted_none h e = ap (λ (s : List PushedFrame). next_reservation_of s (reserved_records h)) e

-- ---- whether the reader's wish was found

pub is_wished-push : (h : List HistoryEvent) (moment len : ℕ) → is_wished (h ++ push moment len ∷ []) ≡ is_wished h
is_wished-push h moment len = fold-append _ false h (push moment len ∷ [])

pub is_wished-push_close : (h : List HistoryEvent) → is_wished (h ++ push_close ∷ []) ≡ is_wished h
is_wished-push_close h = fold-append _ false h (push_close ∷ [])

pub is_wished-open_fill : (h : List HistoryEvent) → is_wished (h ++ open_fill ∷ []) ≡ false
is_wished-open_fill h = fold-append _ false h (open_fill ∷ [])

pub is_wished-reserve : (h : List HistoryEvent) → is_wished (h ++ reserve ∷ []) ≡ is_wished h
is_wished-reserve h = fold-append _ false h (reserve ∷ [])

pub is_wished-leave : (h : List HistoryEvent) (payload : Option (List ℕ))
    → is_wished (h ++ leave payload ∷ []) ≡ is_wished h
is_wished-leave h payload = fold-append _ false h (leave payload ∷ [])

pub is_wished-wished : (h : List HistoryEvent) → is_wished (h ++ wished ∷ []) ≡ true
is_wished-wished h = fold-append _ false h (wished ∷ [])

-- ---- the fills have room

pub room_none : (size : ℕ) → HaveRoom size [] []
room_none size zero = omega arith
room_none size (suc i) = omega arith

pub room_alike : (size : ℕ) (cuts : List ℕ) (xs ys : List Reservation) → map plain ys ≡ map plain xs
    → HaveRoom size cuts xs → HaveRoom size cuts ys
room_alike size cuts xs ys same room i = let e = fill_len-alike cuts xs ys i same in let low = room i in omega arith

-- by equations of the cuts and of the records but for their bytes
pub refilled : (size : ℕ) (cuts cuts' : List ℕ) (xs xs' : List Reservation) → cuts' ≡ cuts
    → map plain xs' ≡ map plain xs → HaveRoom size cuts xs → HaveRoom size cuts' xs'
refilled size cuts cuts' xs xs' a b room =
    subst (λ (l : List ℕ). HaveRoom size l xs') (sym a) (room_alike size cuts xs xs' b room)

-- after the last fill there is none
room_past : (size : ℕ) (cuts : List ℕ) (xs : List Reservation) (i : ℕ) → length cuts < i
    → fill_len (get_or (cut_from 0 cuts xs) i []) ≤ size
room_past size cuts xs i past =
    subst (λ (l : List Reservation). fill_len l ≤ size) (sym (cut-past 0 cuts xs i past))
    (let z : 0 ≤ size = omega arith in z)

pub room_reserved : (size : ℕ) (cuts : List ℕ) (xs : List Reservation) (r : Reservation) → IsRising 0 cuts (length xs)
    → FitsBehind size (tail_at cuts xs) r → HaveRoom size cuts xs → HaveRoom size cuts (xs ++ r ∷ [])
room_reserved size cuts xs r rising fits room i = dite (ℕ_discrete i (length cuts))
    (λ e.
    subst (λ (l : List Reservation). fill_len l ≤ size)
    (sym (ap (λ (j : ℕ). get_or (cut_from 0 cuts (xs ++ r ∷ [])) j []) e ∙ reserved_last 0 cuts xs r rising))
    fits)
    (λ ne. dite (dec_le (suc i) (length cuts))
    (λ low.
    subst (λ (l : List Reservation). fill_len l ≤ size) (sym (reserved_before 0 cuts xs r i rising low)) (room i))
    (λ high. room_past size cuts (xs ++ r ∷ []) i (omega arith)))

pub room_opened : (size : ℕ) (cuts : List ℕ) (xs : List Reservation) → HaveRoom size cuts xs
    → HaveRoom size (cuts ++ length xs ∷ []) xs
room_opened size cuts xs room i = dite (dec_le i (length cuts))
    (λ low. subst (λ (l : List Reservation). fill_len l ≤ size) (sym (opened_before 0 cuts xs i low)) (room i))
    (λ high. dite (ℕ_discrete i (suc (length cuts)))
    (λ e.
    subst (λ (l : List Reservation). fill_len l ≤ size)
    (sym (ap (λ (j : ℕ). get_or (cut_from 0 (cuts ++ length xs ∷ []) xs) j []) e ∙ opened_last 0 cuts xs))
    (let z : 0 ≤ size = omega arith in z))
    (λ ne. room_past size (cuts ++ length xs ∷ []) xs i (omega (arith, length-append cuts (length xs ∷ [])))))

-- ---- each event was allowed

first_is : (a b : HistoryEvent) (xs ys : List HistoryEvent) → ◌≡◌ {A = List HistoryEvent} (a ∷ xs) (b ∷ ys) → a ≡ b
first_is a b xs ys e = cc

rest_is : (a b : HistoryEvent) (xs ys : List HistoryEvent) → ◌≡◌ {A = List HistoryEvent} (a ∷ xs) (b ∷ ys) → xs ≡ ys
rest_is a b xs ys e = cc

not_nil : (front behind : List HistoryEvent) (x : HistoryEvent) → [] ≡ front ++ x ∷ behind → ⊥
not_nil [] behind x e = cc
not_nil (y ∷ front) behind x e = cc

-- an index in a list with one element more is the last one, or is an index of the list
snoc_index : (h front behind : List HistoryEvent) (a x : HistoryEvent) → h ++ a ∷ [] ≡ front ++ x ∷ behind
    → ((h ≡ front) × (a ≡ x)) ⊎ ((rest : List HistoryEvent) × (h ≡ front ++ x ∷ rest))
snoc_index [] [] behind a x e = inl (refl, first_is a x [] behind e)
snoc_index [] (y ∷ front) behind a x e = absurd (not_nil front behind x (rest_is a y [] (front ++ x ∷ behind) e))
snoc_index (z ∷ h) [] behind a x e = inr (h, ap (λ (b : HistoryEvent). b ∷ h) (first_is z x (h ++ a ∷ []) behind e))
snoc_index (z ∷ h) (y ∷ front) behind a x e = let here = first_is z y (h ++ a ∷ []) (front ++ x ∷ behind) e in
    ⊎_elim (λ (f, same). inl ((λ i. here i ∷ f i), same)) (λ (rest, is). inr (rest, λ i. here i ∷ is i))
    (snoc_index h front behind a x (rest_is z y (h ++ a ∷ []) (front ++ x ∷ behind) e))

pub fit_more : (size : ℕ) (h : List HistoryEvent) (a : HistoryEvent) → AreFit size h → IsFit size h a
    → AreFit size (h ++ a ∷ [])
fit_more size h a fit new front behind x e =
    ⊎_elim (λ (f, same). subst (λ (g : List HistoryEvent). IsFit size g x) f (subst (IsFit size h) same new))
    (λ (rest, is). fit front rest x is) (snoc_index h front behind a x e)

pub fit_none : (size : ℕ) → AreFit size []
fit_none size front behind a e = absurd (not_nil front behind a e)

pub is_packed : (size : ℕ) (h : List HistoryEvent) → HaveRoom size (opens_of h) (reserved_records h) → AreFit size h
    → IsPacked h size
is_packed size h room fit = record {
  rooms = λ k low. room k;
  reserves = λ front behind r e. fit front behind reserve e r;
  begins = λ front behind e. (fit front behind open_fill e).0;
  needed = λ front behind r e. (fit front behind open_fill e).1 r;
  asked = λ front behind e. (fit front behind open_fill e).2;
}

-- ---- what a frame that is about to open a fill still needs

pub plain_nil : (xs : List Reservation) → map plain xs ≡ [] → xs ≡ []
plain_nil [] e = refl
plain_nil (x ∷ xs) e = cc

tail_holds_alike : (cuts : List ℕ) (xs ys : List Reservation) → map plain ys ≡ map plain xs → tail_at cuts xs ≢ []
    → tail_at cuts ys ≢ []
tail_holds_alike cuts xs ys same holds none =
    holds (plain_nil (tail_at cuts xs)
    (sym (cut-plain 0 cuts xs (length cuts)) ∙ ap (λ (l : List Reservation). tail_at cuts l) (sym same)
    ∙ cut-plain 0 cuts ys (length cuts) ∙ ap (map plain) none))

pub needs_alike : (size : ℕ) (cuts : List ℕ) (xs ys : List Reservation) (found : Bool) (kind : Purpose)
    (state : Progress) → map plain ys ≡ map plain xs → NeedsFill size cuts xs found kind state
    → NeedsFill size cuts ys found kind state
needs_alike size cuts xs ys found (for_record moment len) waiting same needs = λ fits. needs (
    let tails : map plain (tail_at cuts ys) ≡ map plain (tail_at cuts xs) =
    sym (cut-plain 0 cuts ys (length cuts)) ∙ ap (λ (l : List Reservation). tail_at cuts l) same
    ∙ cut-plain 0 cuts xs (length cuts) in
    let lasts : last_moment ys ≡ last_moment xs =
    sym (last_moment-plain ys) ∙ ap last_moment same ∙ last_moment-plain xs in
    let whole : map plain (tail_at cuts ys ++ reservation_for moment len ys ∷ [])
    ≡ map plain (tail_at cuts xs ++ reservation_for moment len xs ∷ []) =
    map_push plain (tail_at cuts ys) (reservation_for moment len ys)
    ∙ (λ i. tails i ++ record { moment = max moment (lasts i); len = slot_len len; bytes = None } ∷ [])
    ∙ sym (map_push plain (tail_at cuts xs) (reservation_for moment len xs)) in
    let e =
    sym (fill_len-plain (tail_at cuts ys ++ reservation_for moment len ys ∷ [])) ∙ ap fill_len whole
    ∙ fill_len-plain (tail_at cuts xs ++ reservation_for moment len xs ∷ []) in
    subst (λ (k : ℕ). k ≤ size) e fits)
needs_alike size cuts xs ys found for_close waiting same needs = tail_holds_alike cuts xs ys same needs
needs_alike size cuts xs ys found kind (reserved number) same needs = needs
needs_alike size cuts xs ys found kind left same needs = (tail_holds_alike cuts xs ys same needs.0, needs.1)

le_on : {size : ℕ} (a b : ℕ) → a ≤ b → b ≤ size → a ≤ size
le_on a b le le' = omega arith

snoc_some : (xs : List Reservation) (r : Reservation) → xs ++ r ∷ [] ≢ []
snoc_some [] r e = cc
snoc_some (x ∷ xs) r e = cc

tail_holds_reserved : (cuts : List ℕ) (xs : List Reservation) (s : Reservation) → IsRising 0 cuts (length xs)
    → tail_at cuts (xs ++ s ∷ []) ≢ []
tail_holds_reserved cuts xs s rising none =
    snoc_some (tail_at cuts xs) s (sym (reserved_last 0 cuts xs s rising) ∙ none)

pub needs_reserved : (size : ℕ) (cuts : List ℕ) (xs : List Reservation) (s : Reservation) (found : Bool)
    (kind : Purpose) (state : Progress) → IsRising 0 cuts (length xs) → NeedsFill size cuts xs found kind state
    → NeedsFill size cuts (xs ++ s ∷ []) found kind state
needs_reserved size cuts xs s found (for_record moment len) waiting rising needs = λ fits. needs (
    let more =
    fill_more (tail_at cuts xs) s (max moment (last_moment xs)) (max moment (last_moment (xs ++ s ∷ [])))
    (slot_len len) in
    let behind : tail_at cuts (xs ++ s ∷ []) ++ reservation_for moment len (xs ++ s ∷ []) ∷ []
    ≡ tail_at cuts xs ++ (s ∷ reservation_for moment len (xs ++ s ∷ []) ∷ []) =
    ap (λ (l : List Reservation). l ++ reservation_for moment len (xs ++ s ∷ []) ∷ [])
    (reserved_last 0 cuts xs s rising)
    ∙ append_assoc (tail_at cuts xs) (s ∷ []) (reservation_for moment len (xs ++ s ∷ []) ∷ []) in
    le_on _ _ more (subst (λ (l : List Reservation). fill_len l ≤ size) behind fits))
needs_reserved size cuts xs s found for_close waiting rising needs = tail_holds_reserved cuts xs s rising
needs_reserved size cuts xs s found kind (reserved number) rising needs = needs
needs_reserved size cuts xs s found kind left rising needs = (tail_holds_reserved cuts xs s rising, needs.1)

-- ---- so the fill may be opened

fit_open_record : (size : ℕ) (h : List HistoryEvent) (moment len : ℕ) (below : List PushedFrame)
    → (writer_after h).stack ≡ record_frame moment len None ∷ below → FitsPage size (for_record moment len)
    → (FitsBehind size (tail_at (opens_of h) (reserved_records h)) (reservation_for moment len (reserved_records h))
    → ⊥)
    → IsFit size h open_fill
fit_open_record size h moment len below stack fits needs = (
  λ none.
      needs
      (subst (λ (l : List Reservation). FitsBehind size l (reservation_for moment len (reserved_records h)))
      (sym (sym (tail_is h) ∙ none)) (alone_fits fits)),
  λ r is fits.
      needs
      (subst (λ (l : List Reservation). FitsBehind size l (reservation_for moment len (reserved_records h)))
      (tail_is h)
      (subst (FitsBehind size (tail_of h))
      (same_Some r (reservation_for moment len (reserved_records h))
      (sym is ∙ wanted_record h moment len below stack)) fits)),
  λ is. absurd (none-some _ (sym is ∙ wanted_record h moment len below stack)),
)
  where
    alone_fits : encoded_len len 0 true ≤ size → FitsBehind size [] (reservation_for moment len (reserved_records h))
    alone_fits low =
        subst (λ (k : ℕ). k ≤ size)
        (ap (λ (s : ℕ). ((0 + (if nat_le s 112 then 4 else 8)) + s) + 0) (sym (slot_len-slot_len len)))
        (let plus : encoded_len len 0 true + 0 ≤ size = plus_none (encoded_len len 0 true) low in plus)
      where
        plus_none : (k : ℕ) → k ≤ size → k + 0 ≤ size
        plus_none k le = omega arith

fit_open_close : (size : ℕ) (h : List HistoryEvent) (below : List PushedFrame)
    → (writer_after h).stack ≡ close_frame ∷ below → tail_at (opens_of h) (reserved_records h) ≢ []
    → IsFit size h open_fill
fit_open_close size h below stack needs = (
  λ none. needs (sym (tail_is h) ∙ none),
  λ r is fits. none-some r (sym (wanted_close h below stack) ∙ is),
  λ is. subst (MayCloseTail h) (sym stack) tt,
)

fit_open_wished : (size : ℕ) (h : List HistoryEvent) → (writer_after h).stack ≡ []
    → tail_at (opens_of h) (reserved_records h) ≢ [] → IsTrue (is_wished h) → IsFit size h open_fill
fit_open_wished size h stack needs found = (
  λ none. needs (sym (tail_is h) ∙ none),
  λ r is fits. none-some r (sym (wanted_none h stack) ∙ is),
  λ is. subst (MayCloseTail h) (sym stack) found,
)

-- a frame on top of these opens the fill that it needs
pub fit_open : (size : ℕ) (h : List HistoryEvent) (kind : Purpose) (state : Progress) (below : List PushedFrame)
    → (writer_after h).stack ≡ pushed_onto kind state below → (state ≡ left → below ≡ []) → FitsPage size kind
    → NeedsFill size (opens_of h) (reserved_records h) (is_wished h) kind state
    → IsFit size h open_fill
fit_open size h (for_record moment len) waiting below stack alone fits needs =
    fit_open_record size h moment len below stack fits needs
fit_open size h for_close waiting below stack alone fits needs = fit_open_close size h below stack needs
fit_open size h kind (reserved number) below stack alone fits needs = absurd needs
fit_open size h kind left below stack alone fits needs = fit_open_wished size h (stack ∙ alone refl) needs.0 needs.1
