use Rattle.std.proofs.Common.{◌≡◌, ◌∙◌, ◌++◌, [], List, ℕ, Err, length, take, map, sym, ap, subst, append-nil, arith}
use Rattle.std.proofs.lemmas.Grind.{common_steps}
use Rattle.trace_model.specs.Image.{unknown}
use Rattle.capture.specs.Pages.{Page, told, Fit}
use Rattle.capture.specs.Captures.{IsCapture}
use Rattle.capture.specs.declared.part.Part.{Part}
use Rattle.capture.specs.declared.pages.CaptureFault.TheVariants.{Numbers}
use Rattle.capture.specs.declared.read.ReadFault.TheVariants.{Capture as CaptureIs, SmallerPages}
use Rattle.capture.proofs.Told.{all-told-unknown}
use Rattle.capture.specs.files.Files.{ModelPart}
use Rattle.capture.specs.files.Captures.{CountsPart, measured}
use Rattle.capture.proofs.CpuParts.{cpu-more, pages-past, bytes-past}
use Rattle.capture.proofs.files.raw.add_raw.Goals as goal

pub returns-in_err-extent-clause-past : goal.returns-in_err-extent-clause-past
returns-in_err-extent-clause-past g c = λ cpu parts was numbers.
    let reported : c.read_on.result ≡ Err (CaptureIs Numbers) = grind (arith, common_steps) in
    let before : List Page = map (told unknown) was.pages in
    let on = c.read_on.ensures.numbers before was.capture_is reported in
    let part : ModelPart =
    record { cpu = cpu; size = length c.args.piece.now; bytes = take c.args.filled c.args.piece.now ++ on.bytes } in
    record {
      more = on.bytes;
      rest = record { taken = on.taken; no_more = on.no_more; none_smaller = on.none_smaller };
      past =
          pages-past unknown cpu parts part c.args.found.now was part.bytes [] on.pages (sym (append-nil part.bytes))
          on.cut
          (λ fit. on.past (subst (λ (ps : List Page). Fit (before ++ ps)) (all-told-unknown on.pages) fit));
    }

pub returns-in_err-part-clause-past : goal.returns-in_err-part-clause-past
returns-in_err-part-clause-past g c = λ cpu parts was numbers.
    let reported : c.part_of.result ≡ Err Numbers = grind (arith, common_steps) in
    let on = c.in_ok-extent.ensures.read (map (told unknown) was.pages) was.capture_is in
    let part : ModelPart =
    record { cpu = cpu; size = length c.args.piece.now; bytes = take c.args.filled c.args.piece.now ++ on.bytes } in
    let long = c.part_of.ensures.past reported in
    record {
      more = on.bytes;
      rest = record { taken = on.taken; no_more = on.no_more; none_smaller = on.none_smaller };
      past = bytes-past unknown cpu parts part c.args.found.now was on.pages on.cut (omega (arith, on.extent_is, long));
    }

pub returns-in_err-count_part-clause-past : goal.returns-in_err-count_part-clause-past
returns-in_err-count_part-clause-past g c = λ cpu parts was numbers.
    let reported : c.count_part.result ≡ Err Numbers = grind (arith, common_steps) in
    let on = c.in_ok-extent.ensures.read (map (told unknown) was.pages) was.capture_is in
    let part : ModelPart =
    record { cpu = cpu; size = length c.args.piece.now; bytes = take c.args.filled c.args.piece.now ++ on.bytes } in
    let long = c.count_part.ensures.past reported in
    let is = ap (λ (p : Part). p.length) c.in_ok-part.ensures.part in
    record {
      more = on.bytes;
      rest = record { taken = on.taken; no_more = on.no_more; none_smaller = on.none_smaller };
      past =
          bytes-past unknown cpu parts part c.args.found.now was on.pages on.cut
          (omega (arith, on.extent_is, long, is));
    }

pub returns-clause-read : goal.returns-clause-read
returns-clause-read g c = λ cpu parts was.
    let before : List Page = map (told unknown) was.pages in
    let on = c.in_ok-extent.ensures.read before was.capture_is in
    let part : ModelPart =
    record { cpu = cpu; size = length c.args.piece.now; bytes = take c.args.filled c.args.piece.now ++ on.bytes } in
    let is : c.in_ok-part.part ≡ measured part =
    c.in_ok-part.ensures.part
    ∙ ap (λ (n : ℕ). record { size = length c.args.piece.now; length = n }) (sym on.extent_is) in
    record {
      more = on.bytes;
      rest = record { taken = on.taken; no_more = on.no_more; none_smaller = on.none_smaller };
      read = cpu-more unknown cpu parts part on.pages c.args.found.now c.count_part.new.self was on.cut
          (subst (λ (ps : List Page). IsCapture c.read_on.new.capture (before ++ ps)) (sym (all-told-unknown on.pages))
          on.capture_is)
          c.in_ok-extent.ensures.cpu
          (subst
          (λ (p : Part).
          CountsPart (record c.args.found.now { capture = c.read_on.new.capture }) c.count_part.new.self p) is
          c.in_ok-count_part.ensures.counted);
    }

pub returns-in_err-extent-clause-smaller : goal.returns-in_err-extent-clause-smaller
returns-in_err-extent-clause-smaller g c = λ smaller is.
    let reported : c.read_on.result ≡ Err (SmallerPages smaller) = grind (arith, common_steps) in
    let on = c.read_on.ensures.smaller smaller reported in
    record { more = on.bytes; taken = on.taken; no_more = on.no_more; smaller_is = on.smaller_is }
