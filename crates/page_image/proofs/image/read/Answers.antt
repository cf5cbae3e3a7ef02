use Rattle.page_image.proofs.Copied.{reads_image, few_records}
use Rattle.page_image.proofs.image.read.Goals as goal

pub returns-clause-reads : goal.returns-clause-reads
returns-clause-reads c =
    reads_image c.args.bytes.now c.in_ok-outline.outline c.in_ok-outline.ensures.reads c.in_ok-page.field-0
    c.in_ok-page.ensures.contents

pub returns-clause-few : goal.returns-clause-few
returns-clause-few c =
    few_records c.args.bytes.now c.in_ok-outline.outline c.in_ok-outline.ensures.reads c.in_ok-page.field-0
    c.in_ok-page.ensures.contents
