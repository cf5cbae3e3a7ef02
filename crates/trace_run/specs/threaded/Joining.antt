-- Results that are joined one by one.
use Rattle.std.specs.Prelude.{◌≡◌, ◌⊎◌, ◌+◌, [], ◌∷◌, ◌++◌, Result, Ok, Err, Vec, vec_len}
use Rattle.std.specs.declared.alloc.Global.{Global}
use Rattle.trace_script.specs.declared.replay_fault.ReplayFault.{ReplayFault}
use Rattle.trace_script.specs.declared.replay_fault.ReplayFault.TheVariants.{NoMemory}

-- Neither those before nor the next one met a fault, and all of them are these.
pub record IsOneMore {X : Type 0} (joined : Result (Vec X Global) ReplayFault) (next : Result X ReplayFault)
    (after : Vec X Global)
    : Type 0 where
  pub all : Vec X Global
  pub one : X
  pub joined_is : joined ≡ Ok all
  pub next_is : next ≡ Ok one
  pub items : after.items ≡ all.items ++ one ∷ []
  pub len : vec_len after ≡ vec_len all + 1

-- the fault is that of those before, or the next one's, or there is no memory for one more
abbrev pub IsFirstFault : {X : Type 0} → Result (Vec X Global) ReplayFault → Result X ReplayFault → ReplayFault → Type 0
IsFirstFault joined next fault = (joined ≡ Err fault) ⊎ ((next ≡ Err fault) ⊎ (fault ≡ NoMemory))
