use Rattle.std.proofs.Common.{sym, ◌∙◌}
use Rattle.kernel_names.proofs.CallStarts.{no_call}
use Rattle.kernel_names.proofs.calls.may_begin_call.Goals as goal

pub returns : goal.returns
returns c = λ is name. no_call name c.args.text.now (sym c.starts_with.ensures.value ∙ is)
