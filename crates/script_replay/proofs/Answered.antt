-- What is so of the world that a replay answers.
use Rattle.std.proofs.Common.{◌≡◌, ℕ, List, [], ◌++◌, get_or, Some, ⊎_elim, arith}
use Rattle.std.specs.Prelude.{Contains}
use Rattle.std.specs.List.{slice_get}
use Rattle.std.proofs.lemmas.Option.{slice_get_within, slice_get-get_or}
use Rattle.std.proofs.lemmas.List.Elements.{Contains-append_cases}
use Rattle.trace_model.specs.Parcel.{Parcel}
use Rattle.trace_model.proofs.collections.Collections.{same_back, same_same, same_parcels}
use Rattle.trace_model.proofs.collections.Joined.{joined_least}
use Rattle.text_model.specs.Script.{Script}
use Rattle.text_model.specs.ScriptLimits.{IsWithinLimits}
use Rattle.world_model.specs.World.{World}
use Rattle.world_model.specs.GenuineWorlds.{IsGenuineWorld}
use Rattle.world_model.proofs.GenuineWorlds.{world_genuine, taken_agree}
use Rattle.script_replay.specs.declared.log.line.LogLine.{LogLine}
use Rattle.script_replay.specs.declared.replaying.ReplayState.{ReplayState}
use Rattle.script_replay.specs.Replay.{IsStateAfter, IsReplay, AreExact, AreAlike, Join, IsHeadline}

pub is_replay : {T : Type 0} (script : Script) (state : ReplayState T)
    → (part_way : IsStateAfter script script.commands state)
    → IsReplay script state.collectors.items state.reports.log part_way.world
is_replay script state part_way =
    record { world = part_way.behind; log_is = part_way.log_is; collectors_are = part_way.collectors_are }

module _ (script : Script) (collectors : List (List Parcel)) (log : List LogLine) (w : World)
    (limits : IsWithinLimits script) (r : IsReplay script collectors log w) where
  genuine : IsGenuineWorld script w
  genuine = world_genuine script script.commands w limits r.world

  exact : (g : IsGenuineWorld script w) → AreExact script collectors w g
  exact g = λ collector cpu kept delivered lane at there lane_at.
      let same = (r.collectors_are.each collector kept delivered at there).same in
      let e = g.exact collector cpu delivered lane there lane_at in
      record {
        has =
            λ number one. (
              λ here. (e.has number one).0 (same.below.has cpu number one here),
              λ stands. same.above.has cpu number one ((e.has number one).1 stands),
            );
        misses =
            λ number. (
              λ here. (e.misses number).0 (same.below.misses cpu number here),
              λ lost. same.above.misses cpu number ((e.misses number).1 lost),
            );
      }

  alike : AreAlike collectors w
  alike = λ one other kept others delivered others_delivered at at' there there' each.
      same_same kept delivered others (r.collectors_are.each one kept delivered at there).same
      (same_same delivered others_delivered others (same_parcels delivered others_delivered each)
      (same_back others others_delivered (r.collectors_are.each other others others_delivered at' there').same))

  -- what a collector keeps was taken
  was_taken : (collector : ℕ) (kept : List Parcel) (parcel : Parcel) → slice_get collectors collector ≡ Some kept
      → Contains kept parcel → Contains w.taken parcel
  was_taken collector kept parcel at has =
      let low = slice_get_within collectors collector kept at in
      let count = r.collectors_are.count in
      let there : slice_get w.delivered collector ≡ Some (get_or w.delivered collector []) =
      slice_get-get_or w.delivered collector [] (omega arith) in
      genuine.delivered collector (get_or w.delivered collector []) parcel there
      ((r.collectors_are.each collector kept (get_or w.delivered collector []) at there).among parcel has)

  join : Join collectors
  join = λ one other kept others at at'. joined_least kept others
      (taken_agree script w (kept ++ others) genuine
      (λ parcel has.
      ⊎_elim (λ here. was_taken one kept parcel at here) (λ there. was_taken other others parcel at' there)
      (Contains-append_cases kept others parcel has)))

  pub headline : IsHeadline script collectors log
  headline = record { world = w; replay = r; genuine = genuine; exact = exact genuine; alike = alike; join = join }
