-- What the calls of a writer's stack leave as it was.
use Rattle.std.specs.Prelude.{◌≡◌}
use Rattle.nested_writer.specs.Stack.{Stack}

-- the ring has as many pages as before, of the same size
pub record SameShape (old new : Stack) : Type 0 where
  pub pages : new.pages ≡ old.pages
  pub size : new.size ≡ old.size

-- and the same fills are open: as many are closed as before, and the pages before the tail are the same
pub record SameFills (old new : Stack) : Type 0 where
  pub pages : new.pages ≡ old.pages
  pub size : new.size ≡ old.size
  pub done : new.done ≡ old.done
  pub older : new.older ≡ old.older

-- and the tail is the same too
pub record SamePages (old new : Stack) : Type 0 where
  pub pages : new.pages ≡ old.pages
  pub size : new.size ≡ old.size
  pub done : new.done ≡ old.done
  pub older : new.older ≡ old.older
  pub tail : new.tail ≡ old.tail
