use Rattle.page_numbers.proofs.Answered.{fault-iff, reading_reported}
use Rattle.page_numbers.proofs.parcel.Parcel.from_bytes.Goals as goal

pub returns-clause-fault : goal.returns-clause-fault
returns-clause-fault c =
    λ cause. fault-iff c.args.bytes.now c.read.result cause c.read.ensures.reads c.read.ensures.fault

pub returns-clause-read_back : goal.returns-clause-read_back
returns-clause-read_back c =
    λ parcel is. reading_reported c.args.bytes.now c.read.result parcel c.read.ensures.reads c.read.ensures.fault is
