-- Which function an address is in, by the lines of the kernel's list of its symbols.
use Rattle.std.specs.Prelude.{◌≡◌, ℕ, zero, suc, ◌-◌, ◌<◌, ◌≤◌, List, drop, Option, Some, None}
use Rattle.std.specs.Option.{option_map}
use Rattle.std.specs.BTreeMap.{get}
use Rattle.std.specs.Ordering.{nat_cmp}
use Rattle.kernel_names.specs.declared.symbol_names.KnownSymbol.{KnownSymbol}
use Rattle.kernel_names.specs.declared.symbol_names.SymbolNames.{SymbolNames}
use Rattle.kernel_names.specs.Symbols.{name_at, name_by}

-- what an answer says: a name, and how far the address is above it
abbrev pub symbol_seen : KnownSymbol → List ℕ × ℕ
symbol_seen found = (found.name.now, found.offset)

-- the name that is known at an address
abbrev pub known_name : SymbolNames → ℕ → Option (List ℕ)
known_name symbols address =
    option_map (λ at. name_at (drop at symbols.names.items)) (get nat_cmp symbols.places address)

-- what is known at each address is the name that these lines give it
abbrev pub HasSymbols : SymbolNames → List (List ℕ) → Type 0
HasSymbols symbols lines = (address : ℕ) → known_name symbols address ≡ name_by address lines

-- a name that is here, or else one that is this much further below
abbrev pub here_or_below : Option (List ℕ) → Option (List ℕ × ℕ) → Option (List ℕ × ℕ)
here_or_below (Some name) below = Some (name, 0)
here_or_below None below = option_map (λ found. (found.0, suc found.1)) below

-- The name at this address, or else at the next one below it that has a name; and how far the address is above that.
abbrev pub name_up_to : (names : ℕ → Option (List ℕ)) → ℕ → Option (List ℕ × ℕ)
name_up_to names zero = here_or_below (names zero) None
name_up_to names (suc address) = here_or_below (names (suc address)) (name_up_to names address)

-- no line's address is this one or below it
abbrev pub HasNoneUpTo : List (List ℕ) → ℕ → Type 0
HasNoneUpTo lines address = (other : ℕ) → other ≤ address → name_by other lines ≡ None

-- The address is this number of bytes above that of the function of this name, and no line's address lies between.
pub record IsSymbolAt (lines : List (List ℕ)) (address : ℕ) (name : List ℕ) (offset : ℕ) : Type 0 where
  pub within : offset ≤ address
  pub named : name_by (address - offset) lines ≡ Some name
  pub nearest : (other : ℕ) → address - offset < other → other ≤ address → name_by other lines ≡ None
