use Rattle.ring_region.proofs.OneRegion.{one_region, some_answer}
use Rattle.ring_region.proofs.laws.regions_have_one_answer.Goals as goal

pub returns-clause-one : goal.returns-clause-one
returns-clause-one c = λ bytes small. some_answer bytes small

pub returns-clause-one_region : goal.returns-clause-one_region
returns-clause-one_region c = λ bytes held other is also. one_region bytes held other is also
