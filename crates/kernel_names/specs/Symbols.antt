-- The names of functions, by addresses, as the kernel lists its symbols. After the kernel's kernel/kallsyms.c (s_show):
-- a line has an address in hexadecimal, a letter for the type, a name, and for a module's symbol the module's name.
use Rattle.std.specs.Prelude.{◌≡◌, ℕ, ◌+◌, ◌++◌, ◌==◌, ◌<◌, ◌&&◌, ◌||◌, Bool, List, [], ◌∷◌, length, take, drop}
use Rattle.std.specs.Prelude.{position, unwrap_or, Option, Some, None, nat_le, if◌then◌else◌}
use Rattle.std.specs.Option.{option_and_then, option_or}
use Rattle.event_fields.specs.Texts.{cut_at}
use Rattle.kernel_names.specs.declared.symbols.LentSymbol.{LentSymbol}
use Rattle.kernel_names.specs.Digits.{digits_in}

-- a function: its address and its name
pub record Symbol : Type 0 where
  pub address : ℕ
  pub name : List ℕ

-- a function without its place in memory
abbrev pub lent_seen : LentSymbol → Symbol
lent_seen symbol = record { address = symbol.address; name = symbol.name.now }

-- whether symbols of this type are functions: t, T, w and W
abbrev pub is_function_kind : ℕ → Bool
is_function_kind kind = kind == 116 || kind == 84 || kind == 119 || kind == 87

-- what is after the type of a function and a space
abbrev pub after_kind : List ℕ → Option (List ℕ)
after_kind [] = None
after_kind (kind ∷ []) = None
after_kind (kind ∷ (space ∷ rest)) = if is_function_kind kind && space == 32 then Some rest else None

-- the bytes up to the first blank or control character
unfoldable pub name_at : List ℕ → List ℕ
name_at text = take (unwrap_or (position (λ b. nat_le b 32) text) (length text)) text

-- the function of this address and name. The kernel shows 0 for every address to those who aren't to know them.
unfoldable pub symbol_of : ℕ → List ℕ → Option Symbol
symbol_of address name =
    if address == 0 || length name == 0 then None else Some (record { address = address; name = name })

-- the function that a line names
unfoldable pub symbol_in : List ℕ → Option Symbol
symbol_in line =
    option_and_then (λ parts. option_and_then (λ address. option_and_then (λ named. symbol_of address (name_at named))
    (after_kind parts.1)) (digits_in 16 parts.0)) (cut_at 32 line)

-- the name of a function, if it is at this address
abbrev pub name_if_at : ℕ → Option Symbol → Option (List ℕ)
name_if_at address None = None
name_if_at address (Some symbol) = if symbol.address == address then Some symbol.name else None

-- The name at an address: that of the first line of it.
abbrev pub name_by : ℕ → List (List ℕ) → Option (List ℕ)
name_by address [] = None
name_by address (line ∷ lines) = option_or (name_if_at address (symbol_in line)) (name_by address lines)

-- a name at this place of a text has a blank or control character behind it
abbrev pub IsEnded : ℕ → List ℕ → Type 0
IsEnded at text = at + length (name_at (drop at text)) < length text

-- a text is another one with more behind it
abbrev pub HasGrown : (old new : List ℕ) → Type 0
HasGrown old new = (more : List ℕ) × (new ≡ old ++ more)
