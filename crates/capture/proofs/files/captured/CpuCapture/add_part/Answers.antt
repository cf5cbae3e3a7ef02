use Rattle.std.proofs.Common.{◌≡◌, Err, map, arith}
use Rattle.std.proofs.lemmas.Grind.{common_steps}
use Rattle.capture.specs.Pages.{told}
use Rattle.capture.specs.declared.pages.CaptureFault.TheVariants.{Numbers}
use Rattle.page_image.specs.Images.{missed_of}
use Rattle.capture.specs.files.Files.{ModelPart}
use Rattle.capture.proofs.Answers.{on_ok}
use Rattle.capture.proofs.CpuParts.{cpu-more, pages-past, bytes-past}
use Rattle.capture.proofs.files.captured.CpuCapture.add_part.Goals as goal

pub returns-in_err-add_bytes-clause-past : goal.returns-in_err-add_bytes-clause-past
returns-in_err-add_bytes-clause-past c = λ cpu parts was numbers.
    let reported : c.add_bytes.result ≡ Err Numbers = grind (arith, common_steps) in
    let part : ModelPart = record { cpu = cpu; size = c.args.size; bytes = c.args.pages.now } in
    let passes =
    c.add_bytes.ensures.numbers (map (told (missed_of c.args.unknown)) was.pages) was.capture_is reported in
    pages-past _ cpu parts part c.args.self.now was passes.front passes.behind passes.more passes.parts passes.cut
    passes.past

pub returns-clause-read : goal.returns-clause-read
returns-clause-read c = λ cpu parts was.
    let part : ModelPart = record { cpu = cpu; size = c.args.size; bytes = c.args.pages.now } in
    let adds = c.in_ok-add_bytes.ensures.read (map (told (missed_of c.args.unknown)) was.pages) was.capture_is in
    on_ok c.count_part.result
    (λ counts. cpu-more _ cpu parts part adds.more c.args.self.now c.count_part.new.self was adds.cut
    adds.capture_is c.add_bytes.ensures.cpu counts)
    c.count_part.ensures.counted

pub returns-clause-past : goal.returns-clause-past
returns-clause-past c = λ cpu parts was numbers.
    let part : ModelPart = record { cpu = cpu; size = c.args.size; bytes = c.args.pages.now } in
    let adds = c.in_ok-add_bytes.ensures.read (map (told (missed_of c.args.unknown)) was.pages) was.capture_is in
    bytes-past _ cpu parts part c.args.self.now was adds.more adds.cut (c.count_part.ensures.past numbers)
