use Rattle.std.proofs.Common.{◌≡◌, ℕ, zero, suc, replicate, refl}
use Rattle.std.specs.List.{slice_get}
use Rattle.capture_text.specs.declared.window.Bound.{Bound}
use Rattle.capture_text.specs.Window.{bound_seen, bound_or_none, unbounded}
use Rattle.capture_text.proofs.window.Window.new.Goals as goal

-- of each CPU the same is known
all_at : (bound : Bound) (n cpu : ℕ) → bound_seen bound ≡ unbounded
    → bound_or_none (slice_get (replicate n bound) cpu) ≡ unbounded
all_at bound zero cpu none = refl
all_at bound (suc n) zero none = none
all_at bound (suc n) (suc cpu) none = all_at bound n cpu none

pub returns : goal.returns
returns c cpu = all_at _ 256 cpu refl
