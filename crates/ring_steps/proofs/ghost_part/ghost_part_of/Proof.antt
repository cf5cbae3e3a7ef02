-- `ghost_part_of` makes a value of no bytes, whose part is the picked one.
use Rattle.std.proofs.Common.{◌≡◌, [], ◌∷◌, refl}
use mir.Syntax.{a_type, dcons, dnil, named}
use mir.Val.{Val, vptr, vstruct, vnil}
use mir.MapTy.{inst_fn}
use base.Logic.{SProp, emp}
use base.Fml.{Fml}
use types.Kit.{‵, raw, ◌⊛◌, ◌$◌, ◌∵◌, !, qed, by, keep, use0, split, fjoin}
use types.Run.{no_more, enter, returns}
use types.ByLocal.{alloc_all, pass_all, free_all, look_at, sets}
use types.Part.{agg}
use contract.Running.{tables}
use contract.Monad.{fact, fact_i}
use denote.Builtin.{RefOf}
use denote.Exit.{yes}
use denote.Param.{param, bounded}
use denote.RattleType.{owns}
use denote.Ref.{shr_vals, shr_Tells}
use denote.Shadow.{pure_i}
use denote.Signature.{types_at, plain}
use denote.Steps.{nothing}
use denote.Triple.Entry.{alive}
use denote.Triple.Walked.{Stays, stay_dropped, walk_of, Goes-dropped}
use Rattle.atomic_table.proofs.Walks.{proved, leaves}
use Rattle.ring_steps.specs.contracts.ghost_part.GhostPart as GhostPart
use Rattle.ring_steps.specs.contracts.ghost_part.ghost_part_of.{ended, clauses}
use Rattle.ring_steps.specs.contracts.ghost_part.ghost_part_of.Key.{name as key}
use Rattle.ring_steps.proofs.ghost_part.ghost_part_of.Statement.{statement}
use Rattle.ring_steps.proofs.ghost_part.ghost_part_of.Code as code

pub ghost_part_of_spec : {M : Type 1} → statement M
ghost_part_of_spec 𝓤 𝓛 𝓜 𝓡 wired J G LJ LG g d _ =
    let 𝓣 = tables 𝓤 𝓛.H 𝓜 𝓡 𝓡.env in let En = ended J G g d in
    let inst = bounded (a_type ∷ a_type ∷ []) (J, (G, tt)) (dcons d dnil) in
    let fn = inst_fn inst code.function in
    let c = clauses J G g d 𝓛 𝓜.mem 𝓡.returns in
    let arg = RefOf (0 ∷ []) tt (plain (λ _. param 1 G)) (λ _. tt) in
    let hs : Stays En.signature.params En.kept = (stay_dropped arg yes, tt) in
    proved 𝓛 En hs c 𝓜 𝓡 (Goes-dropped 𝓛 3 arg yes (λ κs x f. refl), tt) (key inst) fn
    (code.unfolded 𝓤 𝓛.H 𝓜 𝓡 wired (J, (G, tt)) d)
    (λ κs. (shr_vals, tt)) (λ κs. (shr_Tells (named 0) κs.0 (param 1 G), tt)) (λ κs qs bounds a gh are.
    let p : Val = vptr a.0.ref_ptr.0 a.0.ref_ptr.1 in
    let ghost_part : GhostPart.the_row.Denot = record { now = g.now } in
    let F : Fml = GhostPart.the_row.own_val ghost_part (vstruct vnil ∷ []) in
    let y : (walk_of 𝓛 En hs c).Ghost = ((κs, qs, bounds, a, (p ∷ [], tt)), gh) in
    let Post : Val → SProp 𝓤 = (walk_of 𝓛 En hs c).post y in
    qed 𝓛
    ((raw (alive 𝓛 En.signature κs qs) ⊛ ‵ (owns (types_at En.signature.params κs) a y.0.4))
    ∷ raw ((c κs a).requires gh) ∷ []) ∵ split ! $ keep ! (0 ∷ []) $
    enter ! 𝓣.C 𝓣.Λ fn (p ∷ []) Post $ alloc_all ! (λ l. pass_all ! refl ((tt, tt), tt) $
    sets ! (agg ! (no_more !)) refl (tt, tt) $
    use0 𝓛 (raw (fact 𝓤 (g.now ≡ g.now))) (fact_i 𝓤 (g.now ≡ g.now) (emp 𝓤) refl) $
    pure_i ! F ((λ vss. (tt, tt)), tt) ((tt, (refl, tt)), tt) $ nothing ! $ nothing ! $ fjoin ! $
    returns ! (look_at ! 0 refl) $ free_all ! refl $ keep ! (3 ∷ 0 ∷ 1 ∷ 2 ∷ []) $ by !
    (leaves 𝓛 En hs c y (vstruct vnil) ghost_part (tt, tt) (tt, tt))))
