-- Which event an event is: a case of another one contradicts it.
use Rattle.std.proofs.Common.{ℕ}
use Rattle.trace_model.specs.Steps.{Event, pushes, pushes_close, steps, ends, reads, wishes}

abbrev pub IsPushes : Event → Type 0
IsPushes (pushes moment len) = Unit {0}
IsPushes pushes_close = ⊥
IsPushes steps = ⊥
IsPushes (ends payload) = ⊥
IsPushes reads = ⊥
IsPushes wishes = ⊥

abbrev pub IsPushesClose : Event → Type 0
IsPushesClose (pushes moment len) = ⊥
IsPushesClose pushes_close = Unit {0}
IsPushesClose steps = ⊥
IsPushesClose (ends payload) = ⊥
IsPushesClose reads = ⊥
IsPushesClose wishes = ⊥

abbrev pub IsEnds : Event → Type 0
IsEnds (pushes moment len) = ⊥
IsEnds pushes_close = ⊥
IsEnds steps = ⊥
IsEnds (ends payload) = Unit {0}
IsEnds reads = ⊥
IsEnds wishes = ⊥

abbrev pub IsReads : Event → Type 0
IsReads (pushes moment len) = ⊥
IsReads pushes_close = ⊥
IsReads steps = ⊥
IsReads (ends payload) = ⊥
IsReads reads = Unit {0}
IsReads wishes = ⊥

abbrev pub IsWishes : Event → Type 0
IsWishes (pushes moment len) = ⊥
IsWishes pushes_close = ⊥
IsWishes steps = ⊥
IsWishes (ends payload) = ⊥
IsWishes reads = ⊥
IsWishes wishes = Unit {0}

-- the moment and the length of a push
abbrev pub pushed_of : Event → ℕ × ℕ
pushed_of (pushes moment len) = (moment, len)
pushed_of pushes_close = (0, 0)
pushed_of steps = (0, 0)
pushed_of (ends payload) = (0, 0)
pushed_of reads = (0, 0)
pushed_of wishes = (0, 0)
