-- The seat's invariant says only that there is a proof. An entailment is a proposition, so that proof may be opened
-- before the walk that Rattle made.
use mathlib.Core.Logic.{∥∥₁_elim}
use seplogic.Bi.Basic.{Entails-prop}
use base.Logic.{via, mono_r}
use denote.Triple.Entry.{on_entry}
use borrow.Fn.Kinds.{sig_of}
use contract.Monad.{fact_mono}
use Rattle.ring_steps.specs.Views.{writing}
use Rattle.ring_steps.specs.Seats.{Leads}
use Rattle.ring_steps.proofs.ends.WriterSeat.recall.Statement.{statement}
use Rattle.ring_steps.proofs.ends.WriterSeat.recall.Lts as lts
use Rattle.ring_steps.proofs.ends.WriterSeat.recall.Reads as reads
use Rattle.ring_steps.proofs.ends.WriterSeat.recall.Tie as tie

pub recall_spec : {M : Type 1} → statement M
recall_spec {M} =
    tie.close (λ 𝓤 𝓛 𝓣 y. let seat = y.0.3.0.now in
    ∥∥₁_elim seat.pending (Entails-prop 𝓤.op _ _) (λ leads.
    via 𝓤 _
    (mono_r 𝓤 (on_entry 𝓛 (sig_of 1 lts.ps lts.r) y.0.0 y.0.1 y.0.3 y.0.4)
    (fact_mono 𝓤 _ (Leads seat.shape (writing seat.seat.me.0) seat.ghost_part.now) (λ _. leads)))
    (lts.spec (λ κs a. Leads a.0.now.shape (writing a.0.now.seat.me.0) a.0.now.ghost_part.now) reads.Post
    (λ c. c.requires) 𝓤 𝓛 𝓣 y)))
