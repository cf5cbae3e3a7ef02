use Rattle.std.proofs.Common.{rules, ◌≡◌, ◌++◌, ◌∙◌, [], true, refl}
use Rattle.text_values.specs.Putting.{start_of, contents_of, has_failed, HasPut}
use Rattle.live_listing.specs.Printing.{said_texts, listed_all}
use Rattle.live_listing.proofs.Writing.{going_on, all_written, part_written}
use Rattle.live_listing.proofs.following.write_given.Goals as goal

pub returns-in-Ok-clause-written : goal.returns-in-Ok-clause-written
returns-in-Ok-clause-written g c = λ form detail selected before has.
    let start = start_of c.new-out.result in
    let printed = c.print_lines-late.ensures.printed form detail selected before has in
    let text = said_texts form detail selected c.args.size before c.args.given.now in
    let put : HasPut start text c.print_lines-late.new.out = printed.1 start [] c.new-out.ensures.empty in
    let after = c.finish.new.self in
    let name = c.finish.ensures.writer start text put ∙ c.new-out.ensures.same_writer in
    let sound = going_on (has_failed after) (λ cut. let no = c.in-Ok.ensures.fault.0 cut in cc) in
    let written = all_written start.contents (contents_of after) (has_failed after) text sound
    (c.in-Ok.ensures.all start text put) in
    let lines = printed.0 in
    search rules

pub returns-in-Ok-clause-sound : goal.returns-in-Ok-clause-sound
returns-in-Ok-clause-sound g c =
    let some = c.requires.printed in
    let form = some.0 in
    let detail = some.1 in
    let selected = some.2 in
    let before = some.3 in
    let has = some.4 in
    let start = start_of c.new-out.result in
    let printed = c.print_lines-late.ensures.printed form detail selected before has in
    let text = said_texts form detail selected c.args.size before c.args.given.now in
    let put : HasPut start text c.print_lines-late.new.out = printed.1 start [] c.new-out.ensures.empty in
    let after = c.finish.new.self in
    let name = c.finish.ensures.writer start text put ∙ c.new-out.ensures.same_writer in
    let sound = going_on (has_failed after) (λ cut. let no = c.in-Ok.ensures.fault.0 cut in cc) in
    search rules

pub returns-in-Err-clause-fault : goal.returns-in-Err-clause-fault
returns-in-Err-clause-fault g c =
    let some = c.requires.printed in
    let form = some.0 in
    let detail = some.1 in
    let selected = some.2 in
    let before = some.3 in
    let has = some.4 in
    let start = start_of c.new-out.result in
    let printed = c.print_lines-late.ensures.printed form detail selected before has in
    let text = said_texts form detail selected c.args.size before c.args.given.now in
    let put : HasPut start text c.print_lines-late.new.out = printed.1 start [] c.new-out.ensures.empty in
    let after = c.finish.new.self in
    let name = c.finish.ensures.writer start text put ∙ c.new-out.ensures.same_writer in
    let cut : has_failed after ≡ true = c.in-Err.ensures.fault.1 refl in
    search rules

pub returns-in-Err-clause-written : goal.returns-in-Err-clause-written
returns-in-Err-clause-written g c = λ form detail selected before has.
    let start = start_of c.new-out.result in
    let printed = c.print_lines-late.ensures.printed form detail selected before has in
    let text = said_texts form detail selected c.args.size before c.args.given.now in
    let put : HasPut start text c.print_lines-late.new.out = printed.1 start [] c.new-out.ensures.empty in
    let after = c.finish.new.self in
    let name = c.finish.ensures.writer start text put ∙ c.new-out.ensures.same_writer in
    let cut = c.in-Err.ensures.fault.1 refl in
    let written = part_written start.contents (contents_of after) (has_failed after) text cut
    (c.in-Err.ensures.prefix start text put) in
    let lines = printed.0 in
    search rules

pub returns-in-Ok-clause-printed : goal.returns-in-Ok-clause-printed
returns-in-Ok-clause-printed g c =
    let some = c.requires.printed in
    let more = c.print_lines-late.ensures.printed some.0 some.1 some.2 some.3 some.4 in
    (some.0, some.1, some.2, some.3 ++ listed_all c.args.given.now, more.0)

pub returns-in-Err-clause-printed : goal.returns-in-Err-clause-printed
returns-in-Err-clause-printed g c =
    let some = c.requires.printed in
    let more = c.print_lines-late.ensures.printed some.0 some.1 some.2 some.3 some.4 in
    (some.0, some.1, some.2, some.3 ++ listed_all c.args.given.now, more.0)
