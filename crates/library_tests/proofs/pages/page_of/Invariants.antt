use Rattle.std.proofs.Common.{◌≡◌, IfSome}
use Rattle.trace_model.specs.Reading.{EndsInRecord}
use Rattle.trace_model.specs.Order.{moment_of_last}
use Rattle.page_image.specs.Contents.{IsPage, records_of_page}
use Rattle.library_tests.proofs.pages.page_of.Given as goal

abbrev pub invariant-loop-given : goal.invariant-loop-given
invariant-loop-given g l =
    record {
      page : IsPage l.page;
      last : IfSome (moment_of_last (records_of_page l.page)) (λ last. last ≡ l.prev);
      open_end : EndsInRecord l.page.bytes;
    }
