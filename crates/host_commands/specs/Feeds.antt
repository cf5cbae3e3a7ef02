-- What an input's bytes come from, as contracts see it.
use Rattle.std.specs.Prelude.{ℕ, List, Option}
use Rattle.host_commands.specs.declared.feed.Feed.{Feed}
use Rattle.host_commands.specs.declared.feed.Feed.TheVariants.{File, Standard}

-- the bytes that it has not given yet, if they are known
abbrev pub left_in : {F S : Type 0} → (F → Option (List ℕ)) → (S → Option (List ℕ)) → Feed F S → Option (List ℕ)
left_in in_file in_input (File file) = in_file file
left_in in_file in_input (Standard input) = in_input input
