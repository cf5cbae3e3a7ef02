use Rattle.std.proofs.Common.{ℕ, ◌⊎◌}
use Rattle.std.specs.List.{Contains}
use Rattle.library_values.specs.Cpus.{IsToldOf}
use Rattle.library_values.proofs.LeastFrom.{Finds, either, found_as, told_of}
use Rattle.library_values.proofs.listed_fleet.cpus.next_cpu_of.Goals as goal

-- what is found is the least of all
all_found : (c : goal.After-lower-2) → Finds (IsToldOf c.args.known.now) c.args.from c.lower-2.result
all_found c =
    let kept : ℕ → Type 0 = Contains c.known_cpus.result in
    let given_up : ℕ → Type 0 = Contains c.given_up_cpus.result in
    let marked : ℕ → Type 0 = Contains c.marked_cpus.result in
    let first = c.least_known-kept.ensures in
    let second = c.least_known-given_up.ensures in
    let third = c.least_marked-marked.ensures in
    let low = c.lower.ensures in
    let lowest = c.lower-2.ensures in
    let two =
    either kept given_up c.args.from c.least_known-kept.result c.least_known-given_up.result c.lower.result
    (record { least = first.least; none = first.none }) (record { least = second.least; none = second.none })
    low.one low.left low.right in
    let three =
    either (λ n. kept n ⊎ given_up n) marked c.args.from c.lower.result c.least_marked-marked.result
    c.lower-2.result two (record { least = third.least; none = third.none }) lowest.one lowest.left
    lowest.right in
    found_as (λ n. (kept n ⊎ given_up n) ⊎ marked n) (IsToldOf c.args.known.now) c.args.from c.lower-2.result
    (told_of c.args.known.now c.known_cpus.result c.given_up_cpus.result c.marked_cpus.result c.known_cpus.ensures
    c.given_up_cpus.ensures c.marked_cpus.ensures)
    three

pub returns-clause-least : goal.returns-clause-least
returns-clause-least c = (all_found c).least

pub returns-clause-none : goal.returns-clause-none
returns-clause-none c = (all_found c).none
