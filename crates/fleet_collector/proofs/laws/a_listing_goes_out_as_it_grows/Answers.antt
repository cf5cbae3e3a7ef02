use Rattle.fleet_collector.proofs.GoesOut.{listed_is_before, comes_later, is_of_one, is_once, one_after_the_other}
use Rattle.fleet_collector.proofs.laws.a_listing_goes_out_as_it_grows.Goals as goal

pub returns-clause-before : goal.returns-clause-before
returns-clause-before c = listed_is_before

pub returns-clause-later : goal.returns-clause-later
returns-clause-later c = comes_later

pub returns-clause-parted : goal.returns-clause-parted
returns-clause-parted c = is_of_one

pub returns-clause-once : goal.returns-clause-once
returns-clause-once c = is_once

pub returns-clause-followed : goal.returns-clause-followed
returns-clause-followed c = one_after_the_other
