-- What the end of a frame makes of a writer's stack and of its history.
use Rattle.std.specs.Prelude.{◌≡◌, List, [], ◌∷◌, Some, None}
use Rattle.trace_model.specs.History.{leave}
use Rattle.trace_model.specs.Overwriting.{bytes_at}
use Rattle.page_image.specs.Contents.{Contents}
use Rattle.nested_writer.specs.declared.frame.Progress.{Progress}
use Rattle.nested_writer.specs.declared.frame.Progress.TheVariants.{Waiting, Through, Reserved, Left}
use Rattle.nested_writer.specs.declared.frame.Frame.{Frame}
use Rattle.nested_writer.specs.Stack.{Stack}
use Rattle.nested_writer.specs.Calls.{after_leave}
use Rattle.nested_writer.specs.Allotted.{HasEvents}
use Rattle.nested_writer.specs.IsStack.{IsOpenPage}

-- The frame may be ended: its record is reserved, or it is a close frame that is through.
abbrev pub MayEnd : Progress → Type 0
MayEnd (Waiting noted) = ⊥
MayEnd (Through noted) = Unit {0}
MayEnd (Reserved slot) = Unit {0}
MayEnd (Left noted) = ⊥

-- the frame on top may be ended
abbrev pub MayEndTop : List Frame → Type 0
MayEndTop [] = ⊥
MayEndTop (top ∷ below) = MayEnd top.progress

-- there is a frame on top, and it may not be ended
abbrev pub MayNotEndTop : List Frame → Type 0
MayNotEndTop [] = ⊥
MayNotEndTop (top ∷ below) = MayEnd top.progress → ⊥

-- A record frame leaves with the bytes in its slot, a close frame without a record.
abbrev pub HasEnded : Stack → Progress → Stack → Type 0
HasEnded s (Waiting noted) after = ⊥
HasEnded s (Through noted) after = HasEvents s (leave None ∷ []) after
HasEnded s (Reserved slot) after = (page : Contents)
    → IsOpenPage s.done s.older s.tail slot.fill page
    → HasEvents s (leave (Some (bytes_at slot.place.start slot.place.len page.bytes)) ∷ []) after
HasEnded s (Left noted) after = ⊥

-- the frame on top leaves, and the bottom one stays
abbrev pub IsEnd : Stack → List Frame → Stack → Type 0
IsEnd s [] after = ⊥
IsEnd s (top ∷ below) after = (after ≡ after_leave s top below) × HasEnded s top.progress after
