use Rattle.std.proofs.Common.{sym, ◌∙◌, inl, inr}
use Rattle.std.proofs.lemmas.Bool.{false≢true}
use Rattle.trace_script.proofs.OrderLemmas.{no_command, fault_stands}
use Rattle.trace_script.proofs.orders.fault_of.Goals as goal

pub returns-then-not-is_whole : goal.returns-then-not-is_whole
returns-then-not-is_whole c = λ cpus collectors h.
    no_command c.args.line.now c.args.fields c.requires
    (inl (λ whole. false≢true (sym c.if-not-is_whole.true ∙ c.is_whole.ensures.1 whole))) cpus collectors

pub returns-then-not-is_well_spaced : goal.returns-then-not-is_well_spaced
returns-then-not-is_well_spaced c = λ cpus collectors h.
    no_command c.args.line.now c.args.fields c.requires
    (inr (sym c.is_well_spaced.ensures ∙ c.if-not-is_well_spaced.true)) cpus collectors

pub returns : goal.returns
returns c = λ cpus collectors h.
    fault_stands cpus collectors c.args.line.now c.args.fields c.args.fault c.requires
    (c.is_whole.ensures.0 c.if-not-is_whole.false) (sym c.is_well_spaced.ensures ∙ c.if-not-is_well_spaced.false) h
