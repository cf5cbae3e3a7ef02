-- What the plain reader of a header answers, tied to what lines give settings.
use Rattle.std.proofs.Common.{◌≡◌, ℕ, ◌⊎◌, List, [], ◌∷◌, ◌++◌, length, get_or, suc, arith, Result, Ok, Err, refl, sym}
use Rattle.std.proofs.Common.{◌∙◌, ap, subst, inl, inr}
use Rattle.std.proofs.lemmas.List.{append-nil}
use Rattle.text_model.specs.ScriptLines.{LineFault, bad_line, ◌>>=◌, NumberedLine, Setting, value_in, GiveSettings}
use Rattle.text_model.specs.ScriptLines.{IsFaultySetting, IsMissingSetting}
use Rattle.text_model.specs.HeaderReading.{numbered_reading, setting_from, settings_from}

-- ---- one step after the other
-- what is read, or the first line at fault
abbrev Read : Type 0 → Type 0
Read X = Result X (ℕ × LineFault)

abbrev Settings : Type 0
Settings = List ℕ × List NumberedLine

ok_is_no_err : {A : Type 0} (x : A) (e : ℕ × LineFault) → (let r : Read A = Ok x in r ≡ Err e) → ⊥
ok_is_no_err x e h = absurd (cc)

same_ok : {A : Type 0} (x y : A) → (let r : Read A = Ok x in r ≡ Ok y) → x ≡ y
same_ok x y h = cc

bind_ok : {A B : Type 0} (r : Read A) (f : A → Read B) (y : B) → (r >>= f) ≡ Ok y → (x : A) × (r ≡ Ok x) × (f x ≡ Ok y)
bind_ok (Ok x) f y h = (x, refl, h)
bind_ok (Err e) f y h = absurd (ok_is_no_err y e (sym h))

bind_err : {A B : Type 0} (r : Read A) (f : A → Read B) (e : ℕ × LineFault) → (r >>= f) ≡ Err e
    → (r ≡ Err e) ⊎ ((x : A) × (r ≡ Ok x) × (f x ≡ Err e))
bind_err (Ok x) f e h = inr (x, refl, h)
bind_err (Err d) f e h = inl (let same : d ≡ e = cc in ap (λ e. Err e) same)

-- ---- the header
-- these values before what is read
abbrev values_onto : List ℕ → Settings → Read Settings
values_onto values x = Ok (values ++ x.0, x.1)

-- the value before what is read from the lines
abbrev value_onto : ℕ → Settings → Read Settings
value_onto v x = Ok (v ∷ x.0, x.1)

abbrev AreRead : List Setting → List NumberedLine → Settings → Type 0
AreRead settings lines x = (header : List NumberedLine) × (lines ≡ header ++ x.1) × GiveSettings header settings x.0

-- one setting, of the line whose reading is r, and then the others
abbrev setting_then : ℕ → Setting → List Setting → NumberedLine → List NumberedLine → Result ℕ LineFault → Read Settings
setting_then end s settings line lines r =
    (numbered_reading line.0 r >>= λ value. let found : Read (ℕ × List NumberedLine) = Ok (value, lines) in found)
    >>= λ first. settings_from end settings first.1 >>= value_onto first.0

settings_from_line : (end : ℕ) (s : Setting) (settings : List Setting) (line : NumberedLine) (lines : List NumberedLine)
    → settings_from end (s ∷ settings) (line ∷ lines) ≡ setting_then end s settings line lines (value_in s line.1)
unfolding settings_from setting_from
settings_from_line end s settings line lines = refl

settings_ok_at : (end : ℕ) (s : Setting) (settings : List Setting) (line : NumberedLine) (lines : List NumberedLine)
    (x : Settings) (r : Result ℕ LineFault)
    → ((x : Settings) → settings_from end settings lines ≡ Ok x → AreRead settings lines x)
    → value_in s line.1 ≡ r → setting_then end s settings line lines r ≡ Ok x → AreRead (s ∷ settings) (line ∷ lines) x
settings_ok_at end s settings line lines x (Ok v) again is h =
    let rest = bind_ok (settings_from end settings lines) (value_onto v) x h in
    let found = again rest.0 rest.1 in
    subst (λ (x : Settings). AreRead (s ∷ settings) (line ∷ lines) x) (same_ok (v ∷ rest.0.0, rest.0.1) x rest.2)
    (line ∷ found.0, ap (λ (ls : List NumberedLine). line ∷ ls) found.1, (is, found.2))
settings_ok_at end s settings line lines x (Err f) again is h = absurd (ok_is_no_err x (line.0, f) (sym h))

-- what the reader takes for settings are lines that give them
pub settings_ok : (end : ℕ) (settings : List Setting) (lines : List NumberedLine) (x : Settings)
    → settings_from end settings lines ≡ Ok x → AreRead settings lines x
unfolding settings_from setting_from
settings_ok end [] lines x h =
    let none : Settings = ([], lines) in
    subst (λ (x : Settings). AreRead [] lines x) (same_ok none x h) ([], refl, tt)
settings_ok end (s ∷ settings) [] x h = absurd (ok_is_no_err x (end, bad_line) (sym h))
settings_ok end (s ∷ settings) (line ∷ lines) x h =
    settings_ok_at end s settings line lines x (value_in s line.1) (settings_ok end settings lines) refl h

bind_same : (r : Read Settings) → r ≡ (r >>= values_onto [])
bind_same (Ok x) = refl
bind_same (Err e) = refl

bind_onto : (v : ℕ) (values : List ℕ) (r : Read Settings)
    → ((r >>= values_onto values) >>= value_onto v) ≡ (r >>= values_onto (v ∷ values))
bind_onto v values (Ok x) = refl
bind_onto v values (Err e) = refl

-- lines that give settings are read as that, if the rest follows them
pub settings_given : (end : ℕ) (front : List NumberedLine) (given : List Setting) (values : List ℕ)
    (others : List Setting) (rest : List NumberedLine)
    → GiveSettings front given values
    → settings_from end (given ++ others) (front ++ rest) ≡ (settings_from end others rest >>= values_onto values)
unfolding settings_from setting_from
settings_given end [] [] [] others rest h = bind_same (settings_from end others rest)
settings_given end (line ∷ front) (s ∷ given) (v ∷ values) others rest h =
    settings_from_line end s (given ++ others) line (front ++ rest)
    ∙ ap (setting_then end s (given ++ others) line (front ++ rest)) h.0
    ∙ ap (λ (r : Read Settings). r >>= value_onto v) (settings_given end front given values others rest h.1)
    ∙ bind_onto v values (settings_from end others rest)
settings_given end [] [] (v ∷ values) others rest h = absurd h
settings_given end [] (s ∷ given) values others rest h = absurd h
settings_given end (line ∷ front) [] values others rest h = absurd h
settings_given end (line ∷ front) (s ∷ given) [] others rest h = absurd h

-- what the reader takes for the first fault among settings
abbrev SettingFault : ℕ → List Setting → List NumberedLine → ℕ × LineFault → Type 0
SettingFault end settings lines e =
    IsFaultySetting settings lines e.0 e.1 ⊎ (IsMissingSetting settings lines × (e ≡ (end, bad_line)))

-- a fault after a line that gives its setting
later_setting : (end : ℕ) (s : Setting) (settings : List Setting) (line : NumberedLine) (lines : List NumberedLine)
    (v : ℕ) (e : ℕ × LineFault)
    → value_in s line.1 ≡ Ok v → SettingFault end settings lines e → SettingFault end (s ∷ settings) (line ∷ lines) e
later_setting end s settings line lines v e is (inl f) = inl record {
  front = line ∷ f.front;
  line = f.line;
  behind = f.behind;
  cut = ap (λ (ls : List NumberedLine). line ∷ ls) f.cut;
  given = s ∷ f.given;
  setting = f.setting;
  others = f.others;
  order = ap (λ (ss : List Setting). s ∷ ss) f.order;
  values = v ∷ f.values;
  fits = (is, f.fits);
  fails = f.fails;
}
later_setting end s settings line lines v e is (inr f) = inr (
  record {
    given = s ∷ f.0.given;
    setting = f.0.setting;
    others = f.0.others;
    order = ap (λ (ss : List Setting). s ∷ ss) f.0.order;
    values = v ∷ f.0.values;
    fits = (is, f.0.fits);
  },
  f.1,
)

settings_err_at : (end : ℕ) (s : Setting) (settings : List Setting) (line : NumberedLine) (lines : List NumberedLine)
    (e : ℕ × LineFault) (r : Result ℕ LineFault)
    → ((e : ℕ × LineFault) → settings_from end settings lines ≡ Err e → SettingFault end settings lines e)
    → value_in s line.1 ≡ r → setting_then end s settings line lines r ≡ Err e
    → SettingFault end (s ∷ settings) (line ∷ lines) e
settings_err_at end s settings line lines e (Ok v) again is h =
    elim (bind_err (settings_from end settings lines) (value_onto v) e h) [
      | inl f ↦ later_setting end s settings line lines v e is (again e f)
      | inr w ↦ absurd (ok_is_no_err (v ∷ w.0.0, w.0.1) e w.2)
    ]
settings_err_at end s settings line lines e (Err f) again is h =
    let same : (line.0, f) ≡ e = cc in
    subst (λ (e : ℕ × LineFault). SettingFault end (s ∷ settings) (line ∷ lines) e) same (inl record {
      front = [];
      line = line.1;
      behind = lines;
      cut = refl;
      given = [];
      setting = s;
      others = settings;
      order = refl;
      values = [];
      fits = tt;
      fails = is;
    })

-- what the reader takes for a fault of the header is one
pub settings_err : (end : ℕ) (settings : List Setting) (lines : List NumberedLine) (e : ℕ × LineFault)
    → settings_from end settings lines ≡ Err e → SettingFault end settings lines e
unfolding settings_from setting_from
settings_err end [] lines e h = absurd (ok_is_no_err ([], lines) e h)
settings_err end (s ∷ settings) [] e h =
    inr (record { given = []; setting = s; others = settings; order = refl; values = []; fits = tt }, cc)
settings_err end (s ∷ settings) (line ∷ lines) e h =
    settings_err_at end s settings line lines e (value_in s line.1) (settings_err end settings lines) refl h

-- and a fault of the header is read as one
pub faulty_setting_read : (end : ℕ) (settings : List Setting) (lines : List NumberedLine) (number : ℕ)
    (fault : LineFault)
    → IsFaultySetting settings lines number fault → settings_from end settings lines ≡ Err (number, fault)
faulty_setting_read end settings lines number fault f =
    let here = settings_from_line end f.setting f.others (number, f.line) f.behind
    ∙ ap (setting_then end f.setting f.others (number, f.line) f.behind) f.fails in
    ap (λ (ss : List Setting). settings_from end ss lines) f.order
    ∙ ap (λ (ls : List NumberedLine). settings_from end (f.given ++ f.setting ∷ f.others) ls) f.cut
    ∙ settings_given end f.front f.given f.values (f.setting ∷ f.others) ((number, f.line) ∷ f.behind) f.fits
    ∙ ap (λ (r : Read Settings). r >>= values_onto f.values) here

nothing_read : (end : ℕ) (s : Setting) (settings : List Setting)
    → settings_from end (s ∷ settings) [] ≡ Err (end, bad_line)
unfolding settings_from setting_from
nothing_read end s settings = refl

pub missing_setting_read : (end : ℕ) (settings : List Setting) (lines : List NumberedLine)
    → IsMissingSetting settings lines → settings_from end settings lines ≡ Err (end, bad_line)
missing_setting_read end settings lines f =
    ap (λ (ss : List Setting). settings_from end ss lines) f.order
    ∙ ap (λ (ls : List NumberedLine). settings_from end (f.given ++ f.setting ∷ f.others) ls) (sym (append-nil lines))
    ∙ settings_given end lines f.given f.values (f.setting ∷ f.others) [] f.fits
    ∙ ap (λ (r : Read Settings). r >>= values_onto f.values) (nothing_read end f.setting f.others)

pub length_given : (header : List NumberedLine) (settings : List Setting) (values : List ℕ)
    → GiveSettings header settings values → length values ≡ length settings
length_given [] [] [] h = refl
length_given (line ∷ header) (s ∷ settings) (value ∷ values) h =
    ap (λ (n : ℕ). suc n) (length_given header settings values h.1)
length_given [] [] (value ∷ values) h = absurd h
length_given [] (s ∷ settings) values h = absurd h
length_given (line ∷ header) [] values h = absurd h
length_given (line ∷ header) (s ∷ settings) [] h = absurd h

pub four_values : (values : List ℕ) → length values ≡ 4
    → values ≡ get_or values 0 0 ∷ get_or values 1 0 ∷ get_or values 2 0 ∷ get_or values 3 0 ∷ []
four_values [] h = absurd (omega (arith, h))
four_values (a ∷ []) h = absurd (omega (arith, h))
four_values (a ∷ b ∷ []) h = absurd (omega (arith, h))
four_values (a ∷ b ∷ c ∷ []) h = absurd (omega (arith, h))
four_values (a ∷ b ∷ c ∷ d ∷ []) h = refl
four_values (a ∷ b ∷ c ∷ d ∷ e ∷ values) h = absurd (omega (arith, h))
