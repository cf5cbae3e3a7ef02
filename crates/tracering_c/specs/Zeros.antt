-- What a handle is that has nothing.
use Rattle.std.specs.Prelude.{◌≡◌, Bool, false}
use denote.RawPtr.{Ptr, null_ptr}

-- A handle with these fields is all zeros, as before its first call: the address is null, and nothing is there.
pub record AreZeros (at : Ptr) (live : Bool) : Type 0 where
  pub at_is : at ≡ null_ptr
  pub live_is : live ≡ false
