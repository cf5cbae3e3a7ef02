use Rattle.std.proofs.Common.{ℤ, length, sym, ◌∙◌, subst}
use Rattle.tracering_c.specs.declared.ends.HeldWriter.{HeldWriter}
use Rattle.tracering_c.specs.Held.{writer_of}
use Rattle.tracering_c.specs.Peeks.{IsPeeked, AnswersPeek}
use Rattle.tracering_c.proofs.CallAnswers.{peek_fits, one_is_there}
use Rattle.tracering_c.proofs.peeking.tracering_raw_peek.Goals as goal

pub returns-clause-peeked : goal.returns-clause-peeked
returns-clause-peeked c = λ end is done.
    let call = c.peek_into in
    let same = one_is_there (writer_of c.args.w.now.held.value) c.writer.result.now end c.writer.ensures.value is in
    let fits = peek_fits c.writer.result.now.writer (length c.args.out.now) call.result call.ensures.answers in
    subst (λ (e : HeldWriter). IsPeeked e.cpu.0 e.writer c.args.out.now call.new.out call.new.taken) same
    (call.ensures.peeked (sym fits ∙ done))

pub returns-clause-answers : goal.returns-clause-answers
returns-clause-answers c = λ end is.
    let call = c.peek_into in
    let same = one_is_there (writer_of c.args.w.now.held.value) c.writer.result.now end c.writer.ensures.value is in
    let fits = peek_fits c.writer.result.now.writer (length c.args.out.now) call.result call.ensures.answers in
    subst (λ (code : ℤ). AnswersPeek end.writer (length c.args.out.now) code) (sym fits)
    (subst (λ (e : HeldWriter). AnswersPeek e.writer (length c.args.out.now) call.result) same call.ensures.answers)
