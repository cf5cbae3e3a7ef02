-- After any list of calls the stack is what a packed history leaves.
use Rattle.std.proofs.Common.{ℕ, List, [], ◌∷◌, length, Some, refl, sym, subst}
use Rattle.trace_model.specs.History.{push, push_close, open_fill, reserve, leave, wished}
use Rattle.trace_model.proofs.packing.PackedHistories.{is_packed}
use Rattle.nested_writer.specs.Stack.{Stack}
use Rattle.nested_writer.specs.Runs.{IsStackCall, begins, begins_close, allots, writes, ends, adds_page, takes_off}
use Rattle.nested_writer.specs.Runs.{asks, writes_at_once, is_refused, IsRun, HoldsLastFills}
use Rattle.nested_writer.specs.IsStack.{IsStack}
use Rattle.nested_writer.proofs.Staying.{StandsFrom, has_events, unmoved, allotted_stands, end_stands}
use Rattle.nested_writer.proofs.Written.{written}

call_stands : (start : ℕ) (s after : Stack) → IsStackCall s after → StandsFrom start s → StandsFrom start after
call_stands start s after (begins moment len acts) st = has_events start s after (push moment len ∷ []) acts st
call_stands start s after (begins_close acts) st = has_events start s after (push_close ∷ []) acts st
call_stands start s after (allots result is) st = allotted_stands start s after s.frames result is st
call_stands start s after (writes slot part top fills is) (h, k) =
    (h, subst (IsStack start h) (sym is) (written start h s slot part top fills k))
call_stands start s after (ends is) st = end_stands start s after s.frames refl is st
call_stands start s after (adds_page acts) st = has_events start s after (open_fill ∷ []) acts st
call_stands start s after (takes_off acts) st = has_events start s after [] acts st
call_stands start s after (asks acts) st = has_events start s after (wished ∷ []) acts st
call_stands start s after (writes_at_once moment payload acts) st =
    has_events start s after (push moment (length payload) ∷ reserve ∷ leave (Some payload) ∷ []) acts st
call_stands start s after (is_refused same) st = unmoved start s after same st

run_stands : (start : ℕ) (s : Stack) (between : List Stack) (after : Stack) → IsRun s between after → StandsFrom start s
    → StandsFrom start after
run_stands start s [] after same st = unmoved start s after same st
run_stands start s (next ∷ more) after run st =
    run_stands start next more after run.1 (call_stands start s next run.0 st)

pub runs_hold : (start : ℕ) (s : Stack) (between : List Stack) (after : Stack) → IsStack start [] s
    → IsRun s between after → HoldsLastFills start after
runs_hold start s between after k run = let (h, is) = run_stands start s between after run ([], k) in record {
  history = h;
  is_stack = is;
  packed = is_packed after.size h is.holds.room is.fit;
}
