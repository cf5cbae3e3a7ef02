-- What is written of a listing that is stopped.
use Rattle.std.proofs.Common.{◌≡◌, ◌⊎◌, ℕ, ◌+◌, ◌≤◌, Bool, true, false, List, [], ◌∷◌, ◌++◌, length}
use Rattle.std.proofs.Common.{Option, Some, None, Result, Ok, Err, OnErr, inl, inr, refl, sym, subst, length-append}
use Rattle.std.proofs.Common.{arith}
use Rattle.std.specs.Prelude.{count_by}
use Rattle.std.specs.Option.{option_or, is_some}
use Rattle.std.specs.Io.KnownBytes.{Appends}
use Rattle.std.proofs.lemmas.List.{take-append-le}
use Rattle.command_io.specs.CommandRun.{AppendsPrefix}
use Rattle.trace_model.specs.declared.numbers.CpuId.{CpuId}
use Rattle.line_follower.specs.declared.lines.Said.{Said}
use Rattle.line_follower.specs.Known.{is_any_open}
use Rattle.capture_text.specs.declared.printer.Printer.{Printer}
use Rattle.capture_text.specs.Printed.{bounds_of}
use Rattle.live_listing.specs.declared.pages.Content.{Content}
use Rattle.live_listing.specs.declared.following.Happening.{Happening as Happens}
use Rattle.live_listing.specs.Live.{Live, GivesRest, nothing_live}
use Rattle.live_listing.specs.Printing.{is_late}
use Rattle.live_listing.specs.Following.{IsOther, IsWritten, PrintsAll, CutsOne, CutsEnd}
use Rattle.live_listing.specs.Following.{Follows, FollowsPart, first_not_read, last_gaps, counted}
use Rattle.live_listing.proofs.OneMore.{begun, one_more, prints_then, whole_written}

-- what is so is so if there is an error
pub on_err_too : {T E P : Type 0} (result : Result T E) → P → OnErr result P
on_err_too (Ok value) holds = tt
on_err_too (Err fault) holds = holds

pub none_of : {A : Type 0} (answer : Option A) → is_some answer ≡ false → answer ≡ None
none_of None is_none = refl
none_of (Some value) is_none = absurd (let never : true ≡ false = is_none in cc)

-- a beginning of a text is one of a longer text
prefix_longer : (contents after : Option (List ℕ)) (text more : List ℕ) → AppendsPrefix contents after text
    → AppendsPrefix contents after (text ++ more)
prefix_longer contents after text more (count, below, appends) =
    let long = length-append text more in
    let within : count ≤ length text = omega (arith, below) in (
      count,
      omega (arith, below, long),
      subst (Appends contents after) (sym (take-append-le count text more within)) appends,
    )

module _ {S : Type 0} (gives : S → Happens → S → Type 0) (cpus : List CpuId) where
  -- what is listed so far is a part
  pub part_of : (size : ℕ) (source between : S) (printer mid : Printer) (contents before : Option (List ℕ))
      (failed : Bool) (live : Live) (late : ℕ) (not_read : Option CpuId)
      → Follows gives cpus size source printer contents between live mid before failed late not_read
      → FollowsPart gives cpus size source printer contents mid before failed
  part_of size source between printer mid contents before failed live late not_read so_far = record {
    happened = so_far.happened;
    between = between;
    happens = so_far.happens;
    given = so_far.given;
    live = live;
    run = so_far.run;
    written = inl so_far.prints;
  }

  -- nothing has happened
  pub nothing_part : (size : ℕ) (source : S) (printer : Printer) (contents : Option (List ℕ)) (failed : Bool)
      → failed ≡ false
      → FollowsPart gives cpus size source printer contents printer contents failed
  nothing_part size source printer contents failed sound =
      part_of size source source printer printer contents contents failed nothing_live 0 None
      (begun gives cpus size source printer contents failed nothing_live sound refl)

  -- one thing more has no answer
  pub one_cut : (size : ℕ) (source between new : S) (printer mid last : Printer)
      (contents before after : Option (List ℕ)) (was failed : Bool) (live : Live) (late : ℕ)
      (not_read : Option CpuId) (happening : Happens) → was ≡ false
      → Follows gives cpus size source printer contents between live mid before was late not_read
      → (gives between happening new ⊎ (IsOther cpus happening × (new ≡ between)))
      → CutsOne size happening live mid before last after failed
      → FollowsPart gives cpus size source printer contents last after failed
  one_cut size source between new printer mid last contents before after was failed live late not_read happening sound
      so_far is (inl nothing) =
      let same_printer = sym nothing.printer_is in
      let same_contents = sym nothing.contents_are in
      let still : was ≡ failed = cc in
      subst (λ (p : Printer). FollowsPart gives cpus size source printer contents p after failed) same_printer
      (subst (λ (c : Option (List ℕ)). FollowsPart gives cpus size source printer contents mid c failed) same_contents
      (subst (FollowsPart gives cpus size source printer contents mid before) still
      (part_of size source between printer mid contents before was live late not_read so_far)))
  one_cut size source between new printer mid last contents before after was failed live late not_read happening sound
      so_far is (inr cut) =
      let more = count_by is_late cut.said in
      let first = option_or not_read (first_not_read (happening ∷ [])) in
      part_of size source new printer last contents after failed cut.new (counted (late + more)) first
      (one_more gives cpus size source between new printer mid last contents before after was failed live cut.new late
      more (counted (late + more)) not_read first happening cut.said sound so_far is cut.step cut.prints refl refl refl)

  -- the end has none
  end_cut : (size : ℕ) (source between : S) (printer mid last : Printer) (contents before after : Option (List ℕ))
      (was failed : Bool) (live : Live) (late : ℕ) (not_read : Option CpuId)
      → (so_far : Follows gives cpus size source printer contents between live mid before was late not_read)
      → CutsEnd size printer contents after failed so_far.given live
      → FollowsPart gives cpus size source printer contents last after failed
  end_cut size source between printer mid last contents before after was failed live late not_read so_far cut = record {
    happened = so_far.happened;
    between = between;
    happens = so_far.happens;
    given = so_far.given;
    live = live;
    run = so_far.run;
    written = inr cut;
  }

  -- all have ended, and what is left isn't written whole
  pub rest_cut : (size : ℕ) (source between : S) (printer mid last : Printer)
      (contents before after : Option (List ℕ)) (was failed : Bool) (live end : Live) (late : ℕ)
      (not_read : Option CpuId) (rest : List (Said Content)) → was ≡ false → failed ≡ true
      → Follows gives cpus size source printer contents between live mid before was late not_read
      → is_any_open live.following.known.cpus ≡ false
      → GivesRest live rest end
      → PrintsAll size rest mid before last after failed
      → FollowsPart gives cpus size source printer contents last after failed
  rest_cut size source between printer mid last contents before after was failed live end late not_read rest sound cut
      so_far ended gives_rest prints =
      let all = prints_then size so_far.given rest printer mid last contents before after was failed sound
      so_far.prints prints in
      end_cut size source between printer mid last contents before after was failed live late not_read so_far (record {
        ended = ended;
        rest = rest;
        last = end;
        gives_rest = gives_rest;
        cut = cut;
        begins = λ form detail selected lines has.
            prefix_longer contents after _ _ ((all form detail selected lines has).1.cut_off cut);
      })

  -- nor what was lost last
  pub gaps_cut : (size : ℕ) (source source_now : S) (printer mid last : Printer)
      (contents before between after : Option (List ℕ)) (was then_failed failed : Bool) (live end : Live)
      (late : ℕ) (not_read : Option CpuId) (rest : List (Said Content)) → was ≡ false → then_failed ≡ false
      → failed ≡ true
      → Follows gives cpus size source printer contents source_now live mid before was late not_read
      → is_any_open live.following.known.cpus ≡ false
      → GivesRest live rest end
      → PrintsAll size rest mid before last between then_failed
      → IsWritten between after failed (last_gaps last.form (bounds_of last) size 0 end.cpus)
      → FollowsPart gives cpus size source printer contents last after failed
  gaps_cut size source source_now printer mid last contents before between after was then_failed failed live end late
      not_read rest sound then_sound cut so_far ended gives_rest prints gaps =
      let all = prints_then size so_far.given rest printer mid last contents before between was then_failed sound
      so_far.prints prints in
      let whole = whole_written size (so_far.given ++ rest) end.cpus printer last contents between after then_failed
      failed then_sound all gaps in
      end_cut size source source_now printer mid last contents before after was failed live late not_read so_far
      (record {
        ended = ended;
        rest = rest;
        last = end;
        gives_rest = gives_rest;
        cut = cut;
        begins = λ form detail selected lines has. (whole form detail selected lines has).1.cut_off cut;
      })
