use Rattle.capture.proofs.WrittenImages.{written-page, written-pages}
use Rattle.capture.proofs.Reports.{agrees, counts, written-reported}
use Rattle.capture.proofs.laws.written_images_are_pages.Goals as goal

pub returns : goal.returns
returns c = record {
  page = written-page;
  agrees = agrees;
  counts = counts;
  list =
      λ times size pieces in_time all limit.
      (written-pages times size 0 pieces in_time all limit, written-reported size pieces);
}
