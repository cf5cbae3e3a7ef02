-- What is seen of an end of std.
use Rattle.std.specs.Prelude.{ℕ, Bool, true, false}
use Rattle.command_io.specs.declared.ends.Std.{Std}
use Rattle.command_io.specs.declared.ends.State.{State}
use Rattle.command_io.specs.declared.ends.State.TheVariants.{Sound, NoReader, Failed}

-- the end of std itself
abbrev pub inner_of : {T : Type 0} → Std T → T
inner_of s = s.inner

abbrev is_failed : State → Bool
is_failed Sound = false
is_failed NoReader = true
is_failed Failed = true

abbrev is_unread : State → Bool
is_unread Sound = false
is_unread NoReader = true
is_unread Failed = false

-- whether a read or a write of it has failed
abbrev pub has_failed : {T : Type 0} → Std T → Bool
has_failed s = is_failed s.state

-- whether a write of it has failed since nobody reads any more what is written
abbrev pub has_no_reader : {T : Type 0} → Std T → Bool
has_no_reader s = is_unread s.state

-- how many bytes were read of it
abbrev pub count_of : {T : Type 0} → Std T → ℕ
count_of s = s.count
