use Rattle.std.proofs.Common.{ℕ, Result, Ok, Err, IfErr, OnOk, arith}
use Rattle.stream_collector.specs.declared.added.Marked.{Marked}
use Rattle.stream_collector.specs.declared.fault.MarkFault.{MarkFault}
use Rattle.stream_collector.specs.declared.fault.MarkFault.TheVariants.{OtherEnd, BeyondEnd, NotFinal, NoMemory}
use Rattle.stream_collector.specs.Stream.{Stream, IsUpToEnd}
use Rattle.stream_collector.specs.Forgetting.{AllAccounted, IsBoundFault, IsForgetFault}
use Rattle.stream_collector.proofs.stream.StreamCollector.forget.Goals as goal

on_ok : {T E : Type 0} (r : Result T E) (P : Type 0) → P → OnOk r P
on_ok (Ok x) P p = p
on_ok (Err e) P p = tt

-- a bound up to the end below which all is accounted for has only one fault
final_fault : (s : Stream) (cpu bound : ℕ) (r : Result Marked MarkFault) → IsUpToEnd s cpu bound
    → AllAccounted s cpu bound → IfErr r (λ fault. IsBoundFault s cpu bound fault)
    → IfErr r (λ fault. IsForgetFault s cpu bound fault)
final_fault s cpu bound (Ok x) up all f = tt
final_fault s cpu bound (Err (OtherEnd end)) up all f = f
final_fault s cpu bound (Err (BeyondEnd end)) up all f =
    let most = up end.0 f.0 in let less = f.1 in absurd (omega arith)
final_fault s cpu bound (Err (NotFinal number)) up all f = absurd f
final_fault s cpu bound (Err NoMemory) up all f = (f.0, all)

pub returns-clause-accounted : goal.returns-clause-accounted
returns-clause-accounted c = on_ok c.forgotten.result _
    (λ n from below. c.watermark-watermark.ensures.accounted n from (omega arith))

pub returns-clause-fault : goal.returns-clause-fault
returns-clause-fault c = final_fault c.args.self.now c.args.cpu.0 c.args.bound.0 c.forgotten.result
    (λ end is. let most = c.watermark-watermark.ensures.within end is in omega arith)
    (λ n from below. c.watermark-watermark.ensures.accounted n from (omega arith))
    c.forgotten.ensures.fault
