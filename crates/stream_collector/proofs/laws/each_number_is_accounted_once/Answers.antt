use Rattle.stream_collector.proofs.Standing.{unknown_from}
use Rattle.stream_collector.proofs.StreamLaws.{one, not_open}
use Rattle.stream_collector.proofs.laws.each_number_is_accounted_once.Goals as goal

pub returns-clause-one : goal.returns-clause-one
returns-clause-one c = one

pub returns-clause-not_open : goal.returns-clause-not_open
returns-clause-not_open c = not_open

pub returns-clause-one_record : goal.returns-clause-one_record
returns-clause-one_record c s cpu n r other agree a b = agree.one_record cpu n r other a.has b.has

pub returns-clause-record_not_missing : goal.returns-clause-record_not_missing
returns-clause-record_not_missing c s cpu n r agree a b = agree.not_missing cpu n r a.has b.misses

pub returns-clause-record_not_undelivered : goal.returns-clause-record_not_undelivered
returns-clause-record_not_undelivered c s cpu n r a b =
    (unknown_from s cpu n a.from b.not_known).no_record r a.has

pub returns-clause-missing_not_undelivered : goal.returns-clause-missing_not_undelivered
returns-clause-missing_not_undelivered c s cpu n a b =
    (unknown_from s cpu n a.from b.not_known).not_missing a.misses
