-- A watched end, as contracts see it.
use Rattle.host_commands.specs.declared.progress.Watched.{Watched}

-- the end itself
abbrev pub inner_of : {R T : Type 0} → Watched R T → T
inner_of watched = watched.inner
