use Rattle.std.proofs.Common.{◌/◌, ◌^◌, arith}
use Rattle.trace_model.proofs.images.ImageParts.{commit_word-commit_from}
use Rattle.page_image.proofs.image.header.commit_in.Goals as goal

pub returns : goal.returns
returns c = record {
  ignored = c.args.word / 2 ^ 32;
  word_is = commit_word-commit_from c.args.word;
  size_fits = omega arith;
  ignored_fits = omega arith;
}
