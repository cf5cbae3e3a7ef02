use Rattle.std.proofs.Common.{ℕ, List, ◌++◌, map, take}
use Rattle.kernel_names.specs.Tasks.{HasTasks}
use Rattle.capture.specs.files.Files.{lines_of}
use Rattle.capture.proofs.files.lists.add_lists_of_tasks.Given as goal

abbrev pub invariant-loop-text : goal.invariant-loop-text
invariant-loop-text l =
    (known : List (List ℕ)) → HasTasks l.fn.tasks known
    → HasTasks l.tasks (known ++ lines_of (map (λ text. text.now) (take l.text-index l.texts)))
