-- What a window holds.
use Rattle.std.specs.Prelude.{ℕ, List, take, drop}
use Rattle.parcel_streams.specs.declared.source.window.Window.{Window}

-- what wasn't given yet
abbrev pub held_unread : Window → List ℕ
held_unread window = drop window.start window.bytes.items

-- the piece that was given last
abbrev pub held_given : Window → List ℕ
held_given window = drop window.from (take window.start window.bytes.items)
