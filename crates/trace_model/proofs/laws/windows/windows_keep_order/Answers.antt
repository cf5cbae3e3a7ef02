use Rattle.trace_model.proofs.collections.Windows.{window_event_keeps, window_kept}
use Rattle.trace_model.proofs.laws.windows.windows_keep_order.Goals as goal

pub returns : goal.returns
returns c = record { event = window_event_keeps; run = window_kept }
