use Rattle.tracering_c.proofs.Given.{given_is}
use Rattle.tracering_c.proofs.NewestRecords.{reads_newest}
use Rattle.tracering_c.proofs.peeking.peek_into.Goals as goal

pub returns-clause-peeked : goal.returns-clause-peeked
returns-clause-peeked c = λ done.
    let end = c.args.end.now in
    let page = c.in-Some.page.now in
    let put = c.put_parcel-len.ensures in
    let found = c.in-Some.ensures in
    record {
      page = page;
      tail = found.rests;
      given =
          given_is end.cpu.0 page 0 c.args.out.now c.put_parcel-len.new.out c.of.result c.put_parcel-len.result
          put.bytes put.len put.used c.of.ensures;
      reads =
          reads_newest end.cpu.0 end.writer page found.rests end.cpu_known found.numbers_fit put.reads put.used_reads;
    }
