-- The commands of a script that ask anything of a CPU's ring: all but a delivery.
use Rattle.std.specs.Prelude.{ℕ, ⊤}
use Rattle.text_model.specs.Script.{Command, begin_frame, step_frame, finish_frame, write, close, step_reader}
use Rattle.text_model.specs.Script.{take_page, wish, deliver}

abbrev pub IsOfRing : Command → Type 0
IsOfRing (deliver collector cpu fill) = ⊥
IsOfRing _ = ⊤

abbrev pub cpu_of : Command → ℕ
cpu_of (begin_frame cpu moment payload) = cpu
cpu_of (step_frame cpu count) = cpu
cpu_of (finish_frame cpu) = cpu
cpu_of (write cpu moment payload) = cpu
cpu_of (close cpu) = cpu
cpu_of (step_reader cpu count) = cpu
cpu_of (take_page cpu) = cpu
cpu_of (wish cpu) = cpu
cpu_of (deliver collector cpu fill) = cpu
