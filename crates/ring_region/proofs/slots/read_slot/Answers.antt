use Rattle.ring_region.specs.Slots.{intact}
use Rattle.ring_region.specs.Answers.{unmissed}
use Rattle.ring_region.proofs.Written.{page_slot, size_within}
use Rattle.ring_region.proofs.Reported.{slot_reported}
use Rattle.ring_region.proofs.slots.read_slot.Goals as goal

pub returns-clause-read_back : goal.returns-clause-read_back
returns-clause-read_back c =
    λ seen is. slot_reported c.args.cpu.0 c.args.slot.now c.read.result seen c.read.ensures.slot is

pub returns-clause-behind : goal.returns-clause-behind
returns-clause-behind c = λ page is numbers_fit fill_fits some same.
    slot_reported c.args.cpu.0 c.args.slot.now c.read.result (intact (unmissed c.args.cpu.0 page)) c.read.ensures.slot
    (page_slot c.args.cpu.0 page c.requires.cpu is fill_fits numbers_fit
    (size_within c.args.cpu.0 page c.args.slot.now c.requires.limit same)
    c.args.slot.now some same)
