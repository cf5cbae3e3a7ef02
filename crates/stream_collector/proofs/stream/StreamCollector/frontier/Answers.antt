use Rattle.stream_collector.specs.Frontier.{by_known, by_undelivered}
use Rattle.stream_collector.proofs.Frontiers.{least_everywhere}
use Rattle.stream_collector.proofs.stream.StreamCollector.frontier.Goals as goal

pub least_of-known-requires-clause-there : goal.least_of-known-requires-clause-there
least_of-known-requires-clause-there c cpu listed = by_known ((c.known_cpus.ensures.known cpu).0 listed)

pub least_of-requires-clause-there : goal.least_of-requires-clause-there
least_of-requires-clause-there c cpu listed = by_undelivered ((c.given_up_cpus.ensures.known cpu).0 listed)

pub returns : goal.returns
returns c = record {
  of_one = c.least_of.ensures.of_one;
  least = least_everywhere c.args.self.now c.least_of.result
      (λ cpu says. c.least_of.ensures.before cpu
      (c.least_of-known.ensures.before cpu (c.least_of_marked-marked.ensures.least cpu says)))
      (λ cpu known. c.least_of.ensures.before cpu
      (c.least_of-known.ensures.least cpu ((c.known_cpus.ensures.known cpu).1 known)))
      (λ cpu given_up. c.least_of.ensures.least cpu ((c.given_up_cpus.ensures.known cpu).1 given_up));
}
