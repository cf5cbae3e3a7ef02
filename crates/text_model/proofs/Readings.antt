-- One answer after the other, of which the first fault counts.
use Rattle.std.proofs.Common.{◌≡◌, ◌⊎◌, Bool, true, false, cond, Result, Ok, Err, refl, sym, ap, inl, inr}
use Rattle.text_model.specs.ScriptLines.{◌>>=◌}

pub ok_is_no_err : {A E : Type 0} (x : A) (e : E) → (let r : Result A E = Ok x in r ≡ Err e) → ⊥
ok_is_no_err x e h = absurd (cc)

pub same_ok : {A E : Type 0} (x y : A) → (let r : Result A E = Ok x in r ≡ Ok y) → x ≡ y
same_ok x y h = cc

pub same_err : {A E : Type 0} (d e : E) → (let r : Result A E = Err d in r ≡ Err e) → d ≡ e
same_err d e h = cc

pub bind_ok : {A B E : Type 0} (r : Result A E) (f : A → Result B E) (y : B) → (r >>= f) ≡ Ok y
    → (x : A) × (r ≡ Ok x) × (f x ≡ Ok y)
bind_ok (Ok x) f y h = (x, refl, h)
bind_ok (Err e) f y h = absurd (ok_is_no_err y e (sym h))

pub bind_err : {A B E : Type 0} (r : Result A E) (f : A → Result B E) (e : E) → (r >>= f) ≡ Err e
    → (r ≡ Err e) ⊎ ((x : A) × (r ≡ Ok x) × (f x ≡ Err e))
bind_err (Ok x) f e h = inr (x, refl, h)
bind_err {A = A} {E = E} (Err d) f e h = inl (ap (λ (e : E). let r : Result A E = Err e in r) (same_err d e h))

-- of two answers, the one that a test chooses
pub chosen : {A E P : Type 0} (test : Bool) (r s : Result A E) (x : A) → (test ≡ true → r ≡ Ok x → P)
    → (s ≡ Ok x → P) → cond test r s ≡ Ok x → P
chosen true r s x f g h = f refl h
chosen false r s x f g h = g h
