use Rattle.std.proofs.Common.{rules, ◌≡◌, ◌∙◌, [], true, refl, map}
use Rattle.text_values.specs.Putting.{start_of, contents_of, has_failed, HasPut}
use Rattle.capture_text.specs.Printed.{bounds_of}
use Rattle.live_listing.specs.Pages.{reached}
use Rattle.live_listing.specs.Following.{last_gaps}
use Rattle.live_listing.proofs.Writing.{going_on, all_written, part_written}
use Rattle.live_listing.proofs.following.write_gaps.Goals as goal

pub returns-in-Ok-clause-written : goal.returns-in-Ok-clause-written
returns-in-Ok-clause-written g c =
    let start = start_of c.new-out.result in
    let text = last_gaps c.args.printer.now.form (bounds_of c.args.printer.now) c.args.size 0
    (map reached c.args.cpus.now) in
    let put : HasPut start text c.print_gaps.new.out = c.print_gaps.ensures start [] c.new-out.ensures.empty in
    let after = c.finish.new.self in
    let name = c.finish.ensures.writer start text put ∙ c.new-out.ensures.same_writer in
    let sound = going_on (has_failed after) (λ cut. let no = c.in-Ok.ensures.fault.0 cut in cc) in
    let written = all_written start.contents (contents_of after) (has_failed after) text sound
    (c.in-Ok.ensures.all start text put) in
    search rules

pub returns-in-Ok-clause-sound : goal.returns-in-Ok-clause-sound
returns-in-Ok-clause-sound g c =
    let start = start_of c.new-out.result in
    let text = last_gaps c.args.printer.now.form (bounds_of c.args.printer.now) c.args.size 0
    (map reached c.args.cpus.now) in
    let put : HasPut start text c.print_gaps.new.out = c.print_gaps.ensures start [] c.new-out.ensures.empty in
    let after = c.finish.new.self in
    let name = c.finish.ensures.writer start text put ∙ c.new-out.ensures.same_writer in
    let sound = going_on (has_failed after) (λ cut. let no = c.in-Ok.ensures.fault.0 cut in cc) in
    search rules

pub returns-in-Err-clause-fault : goal.returns-in-Err-clause-fault
returns-in-Err-clause-fault g c =
    let start = start_of c.new-out.result in
    let text = last_gaps c.args.printer.now.form (bounds_of c.args.printer.now) c.args.size 0
    (map reached c.args.cpus.now) in
    let put : HasPut start text c.print_gaps.new.out = c.print_gaps.ensures start [] c.new-out.ensures.empty in
    let after = c.finish.new.self in
    let name = c.finish.ensures.writer start text put ∙ c.new-out.ensures.same_writer in
    let cut : has_failed after ≡ true = c.in-Err.ensures.fault.1 refl in
    search rules

pub returns-in-Err-clause-written : goal.returns-in-Err-clause-written
returns-in-Err-clause-written g c =
    let start = start_of c.new-out.result in
    let text = last_gaps c.args.printer.now.form (bounds_of c.args.printer.now) c.args.size 0
    (map reached c.args.cpus.now) in
    let put : HasPut start text c.print_gaps.new.out = c.print_gaps.ensures start [] c.new-out.ensures.empty in
    let after = c.finish.new.self in
    let name = c.finish.ensures.writer start text put ∙ c.new-out.ensures.same_writer in
    let cut = c.in-Err.ensures.fault.1 refl in
    let written = part_written start.contents (contents_of after) (has_failed after) text cut
    (c.in-Err.ensures.prefix start text put) in
    search rules
