-- What the steps of a test are lent of a writers' stack, and how they leave it.
use Rattle.std.specs.Prelude.{◌≡◌, []}
use Rattle.trace_model.specs.declared.limits.TheConstants.{START_FILL}
use Rattle.nested_writer.specs.Stack.{Stack, new_stack}
use Rattle.nested_writer.specs.Calls.{IsAtBottom}
use Rattle.nested_writer.specs.IsStack.{IsReachedStack}

-- a new stack of two pages of 32 bytes
abbrev pub IsNewStack : Stack → Type 0
IsNewStack s = IsReachedStack s × (s ≡ new_stack 2 32 START_FILL)

-- one that can be taken apart: its only frame has left, and its tail is its only page
abbrev pub IsAtRest : Stack → Type 0
IsAtRest s = IsReachedStack s × (s.older ≡ []) × IsAtBottom s.frames
