-- A new stack.
use Rattle.std.proofs.Common.{◌≡◌, ℕ, ◌≤◌, List, [], ◌∷◌, length, refl, arith}
use Rattle.std.proofs.lemmas.Option.{none-some}
use Rattle.trace_model.specs.declared.limits.TheConstants.{MAX_SIZE}
use Rattle.trace_model.specs.Record.{Record}
use Rattle.trace_model.specs.Reading.{records_in}
use Rattle.trace_model.proofs.histories.Allowed.{IsHistory-none}
use Rattle.trace_model.proofs.words.Appended.{EndsInRecord-nil}
use Rattle.trace_model.proofs.packing.PackedHistories.{room_none, fit_none}
use Rattle.trace_model.proofs.packing.OpenPages.{holds_none}
use Rattle.page_image.specs.Contents.{IsPage}
use Rattle.nested_writer.specs.Stack.{blank_page, new_stack}
use Rattle.nested_writer.specs.IsStack.{IsStack}

pub nothing : (rs : List Record) → 0 ≡ length rs → rs ≡ []
nothing [] e = refl
nothing (r ∷ rs) e = cc

pub new_is : (pages size start : ℕ) → size ≤ MAX_SIZE → IsPage (blank_page size 0 start)
    → IsStack start [] (new_stack pages size start)
new_is pages size start large page = record {
  keeps = IsHistory-none;
  stack_is = refl;
  fit = fit_none size;
  holds = record {
    begun = omega arith;
    from_start = omega arith;
    rising = omega arith;
    room = room_none size;
    last_is = refl;
    in_time = omega arith;
    large = large;
    older_are = λ k page at. absurd (none-some page at);
    tail_is = record {
      page_reads = page;
      size_is = refl;
      fill_is = omega arith;
      first_is = refl;
      holds = holds_none page.reads (nothing (records_in 0 []) page.counted) EndsInRecord-nil;
    };
    frames_are = tt;
  };
}
