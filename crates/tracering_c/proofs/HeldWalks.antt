-- What a handle's calls do, whichever it holds: they are one code but for the type. Assumes `Logic`.
use Rattle.std.proofs.Common.{◌≡◌, ℕ, List, [], ◌∷◌, ◌++◌, refl, sym, subst}
use mathlib.Core.Bool.{true}
use seplogic.Ra.Ura.{Ura}
use base.Fraction.{full_share}
use mir.Syntax.{Fn, Body, Local, Callee, named, erased, mut, local, value_local, ty_ref, ty_ptr, block, seq, assign}
use mir.Syntax.{place, rv_opd, copy, deref, field, addr_of, aggregate, return}
use mir.Raw.{raw as bare}
use mir.Val.{Val, vptr}
use base.Logic.{SProp, ent, sep, emp, id⊢}
use base.Fml.{GName, Fml, fsep, flft, ftrue}
use prog.Model.{Model}
use prog.Wp.{Env, WpFn, Closed}
use types.Logic.{Logic, sem}
use types.Kit.{‵, raw, ◌⊛◌, some, later, at_ret, ◌$◌, ◌∵◌, !, qed, by, move, keep, drop, use0, use1, join, split}
use types.Kit.{split3, group, pick, frame, rewrite, fsplit, fsplit3, fjoin, fpack, suffices, await, done}
use types.Part.{agg, whole, sub, look_in}
use types.Run.{stop, fld, addr, load, of_opd, no_more, and_then, first, blocks, exec, returns, enter}
use types.ByLocal.{alloc_all, pass_all, free_all, look_at, get, get_in, through, sets, sets_last, env}
use contract.Monad.{fact, fact_i}
use contract.Running.{Running, tables}
use denote.RattleType.{RattleType, owns}
use denote.Exit.{yes, no}
use denote.Memory.{part_at, part_of, mem, cell_at, lone, pointee}
use denote.RawPtr.{Ptr, block_ptr}
use denote.Ref.{MutRef, mut_vals, mut_Tells}
use denote.Signature.{plain, mut_ref_to, types_at}
use denote.Steps.{nothing, opens, heard}
use denote.Follow.{follows, Part, lends_Part}
use denote.Triple.Clauses.{Ended, Clauses, closing}
use denote.Triple.Spec.{Meets}
use denote.Triple.Walked.{says, Stays, stay_dropped, walk_of, ends_at, Goes-spent_ref, Goes-dropped}
use Rattle.std.specs.Prelude.{Some, is_some}
use Rattle.std.proofs.raw_atomic.Walks.{proved, proved_at, leaves}
use Rattle.core.proofs.alloc.Calls.{handle_tells}
use Rattle.core.proofs.alloc.Shapes.{after}
use Rattle.std_heap.specs.contracts.Global as Heap
use Rattle.std_heap.specs.contracts.GlobalAllocator.TheImpl.{ghosts}
use Rattle.std_heap.proofs.Global.TheLaws as heap
use Rattle.library_values.proofs.LooseValues as loose
use Rattle.library_values.proofs.LooseValues.{both, loose_good, loose_in, loose_out}
use Rattle.tracering_c.specs.contracts.held.Held as handle
use Rattle.tracering_c.specs.Held.{heap as the_heap}
use Rattle.tracering_c.specs.Lending.{LendsEnd}
use Rattle.tracering_c.proofs.HeldSteps.{Kept, al, one_val, handle_in, handle_out, the_value}

-- a function with no lifetime and no type parameter, of this number of parameters
abbrev plain_code : (params : ℕ) → List Local → Body → Fn
plain_code params locals body =
    record { lifetimes = 0; outlives = []; ty_params = []; givens = 0; params = params; locals = locals; body = body }

module _ (E : Kept) where
  abbrev From : RattleType
  From = loose.Loose E.row Heap.the_row heap.the_row_laws ghosts

  -- ---- the code of each call
  abbrev pub of_code : Fn
  of_code = plain_code 1
      (local (lone handle.the_row.mir) value_local ∷ local (lone From.mir) value_local ∷ local ty_ptr value_local
      ∷ local (lone Heap.the_row.mir) value_local ∷ local ty_ptr value_local ∷ [])
      (seq (assign (place 2 []) (rv_opd (copy (place 1 (field 0 ∷ [])))))
      (seq (assign (place 3 []) (rv_opd (copy (place 1 (field 1 ∷ [])))))
      (seq (assign (place 4 []) (rv_opd (copy (place 2 []))))
      (seq (assign (place 0 []) (aggregate (copy (place 4 []) ∷ []))) return))))

  abbrev pub into_code : Fn
  into_code = plain_code 2
      (local (lone From.mir) value_local ∷ local (lone handle.the_row.mir) value_local
      ∷ local (lone Heap.the_row.mir) value_local ∷ local ty_ptr value_local ∷ local ty_ptr value_local ∷ [])
      (seq (assign (place 3 []) (rv_opd (copy (place 1 (field 0 ∷ [])))))
      (seq (assign (place 4 []) (rv_opd (copy (place 3 []))))
      (seq (assign (place 0 []) (aggregate (copy (place 4 []) ∷ copy (place 2 []) ∷ []))) return)))

  abbrev pub lend_code : Fn
  lend_code = record {
    lifetimes = 1;
    outlives = [];
    ty_params = [];
    givens = 0;
    params = 1;
    locals =
        local (ty_ref (named 0) mut (pointee E.row.written)) value_local
        ∷ local (ty_ref (named 0) mut (pointee handle.the_row.written)) value_local
        ∷ local (ty_ref erased mut (pointee E.row.written)) value_local ∷ local ty_ptr value_local
        ∷ local ty_ptr value_local ∷ [];
    body =
        seq (block (seq (assign (place 3 []) (rv_opd (copy (place 1 (deref (lone handle.the_row.mir) ∷ field 0 ∷ [])))))
        (seq (assign (place 4 []) (rv_opd (copy (place 3 []))))
        (assign (place 2 []) (addr_of (place 4 (deref (lone E.row.mir) ∷ [])))))))
        (seq (assign (place 0 []) (rv_opd (copy (place 2 [])))) return);
  }

  -- ---- the contract of each
  abbrev pub of_ended : Ended
  of_ended =
      record {
        signature =
            record {
              lifetimes = 0;
              outlives = [];
              params = plain (λ κs. From) ∷ [];
              result = plain (λ κs. handle.the_row);
            };
        kept = (yes, tt);
      }

  abbrev pub into_ended : Ended
  into_ended =
      record {
        signature =
            record {
              lifetimes = 0;
              outlives = [];
              params = plain (λ κs. handle.the_row) ∷ plain (λ κs. Heap.the_row) ∷ [];
              result = plain (λ κs. From);
            };
        kept = (yes, (yes, tt));
      }

  abbrev pub lend_ended : Ended
  lend_ended =
      record {
        signature =
            record {
              lifetimes = 1;
              outlives = [];
              params = mut_ref_to (0 ∷ []) tt (plain (λ κs. handle.the_row)) ∷ [];
              result = mut_ref_to (0 ∷ []) tt (plain (λ κs. E.row));
            };
        kept = (no, tt);
      }

  module _ {M : Type 1} (𝓤 : Ura M) (𝓛 : Logic 𝓤) where
    abbrev pub of_clauses : Clauses 𝓤 of_ended
    of_clauses = λ κs a. record {
      ghost = Unit {0};
      requires = λ g. emp 𝓤;
      ensures = λ g res end. fact 𝓤 (E.of res.value ≡ Some a.0.value);
    }

    abbrev pub into_clauses : Clauses 𝓤 into_ended
    into_clauses = λ κs a. record {
      ghost = Unit {0};
      requires = λ g. fact 𝓤 (is_some (E.of a.0.value) ≡ true);
      ensures = λ g res end. fact 𝓤 (E.of a.0.value ≡ Some res.value);
    }

    abbrev pub lend_clauses : Clauses 𝓤 lend_ended
    lend_clauses = λ κs a. record {
      ghost = Unit {0};
      requires = λ g. fact 𝓤 (is_some (E.of a.0.now.value) ≡ true);
      ensures =
          λ g res end. sep 𝓤 (sem 𝓛 (LendsEnd E.row E.named a.0 res)) (fact 𝓤 (E.of a.0.now.value ≡ Some res.now));
    }

  -- ---- and that it meets it
  pub of_Meets : {M : Type 1} (𝓤 : Ura M) (𝓛 : Logic 𝓤) (𝓜 : Model 𝓤 𝓛.H) (𝓡 : Running 𝓤 𝓛.H 𝓜) (k : Callee)
      → Closed 𝓤 𝓛.H (tables 𝓤 𝓛.H 𝓜 𝓡 𝓡.env).C (tables 𝓤 𝓛.H 𝓜 𝓡 𝓡.env).Λ k of_code
      → Meets 𝓛 of_ended.signature ((tables 𝓤 𝓛.H 𝓜 𝓡 𝓡.env).C k) (closing 𝓛 of_ended (of_clauses 𝓤 𝓛))
  of_Meets 𝓤 𝓛 𝓜 𝓡 k closed =
      let H = 𝓛.H in let 𝓣 = tables 𝓤 H 𝓜 𝓡 𝓡.env in let c = of_clauses 𝓤 𝓛 in
      let hs : Stays of_ended.signature.params of_ended.kept = (stay_dropped (plain (λ _. From)) yes, tt) in
      proved_at 𝓛 of_ended hs c 𝓜 𝓡 (Goes-dropped 𝓛 0 (plain (λ _. From)) yes (λ κs x w. refl), tt) k of_code closed
      (λ z are.
      let v = z.0.3.0 in
      let Post : Val → SProp 𝓤 = (walk_of 𝓛 of_ended hs c).post z in
      let Run : List Val → SProp 𝓤 = λ ws. WpFn 𝓤 H 𝓣.C 𝓣.Λ of_code ws Post in
      qed 𝓛
      ((‵ ftrue ⊛ ‵ (owns (types_at of_ended.signature.params z.0.0) z.0.3 z.0.4))
      ∷ raw ((c z.0.0 z.0.3).requires z.1) ∷ []) ∵ split ! $ move ! (1 ∷ []) $ fsplit ! $
      loose_out E.row Heap.the_row heap.the_row_laws ghosts ! v z.0.4.0 (λ b o h e ws fits.
      let w : Val = both (vptr b o) h in
      let typed = loose_good E.row Heap.the_row heap.the_row_laws ghosts b o h fits in
      suffices ! (Run (w ∷ []))
      (subst (λ (us : List Val). ent 𝓤 (Run (w ∷ [])) (Run us)) (sym (λ i. ws i ++ [])) (id⊢ 𝓤 (Run (w ∷ [])))) $
      enter ! 𝓣.C 𝓣.Λ of_code (w ∷ []) Post $ alloc_all ! (λ l. pass_all ! refl (typed, tt) $
      sets ! (of_opd ! (get_in ! (fld ! refl (stop !)) (sub ! 0 refl (whole !)))) refl (tt, tt) $
      sets ! (of_opd ! (get_in ! (fld ! refl (stop !)) (sub ! 1 refl (whole !)))) refl fits $
      sets ! (of_opd ! (get ! refl)) refl (tt, tt) $
      sets ! (agg ! (and_then ! (get ! refl) (no_more !))) refl (tt, (tt, tt)) $
      handle_in E ! b o v.value $
      let is = E.of_named v.value in
      use0 𝓛 (raw (fact 𝓤 (E.of (Some (E.named v.value)) ≡ Some v.value)))
      (fact_i 𝓤 (E.of (Some (E.named v.value)) ≡ Some v.value) (emp 𝓤) is) $ nothing ! $ nothing ! $ fjoin ! $
      nothing ! $
      returns ! (look_at ! 0 refl) $ free_all ! refl $ keep ! (0 ∷ 1 ∷ 3 ∷ 2 ∷ []) $
      by !
      (leaves 𝓛 of_ended hs c z (one_val (vptr b o)) (record { at = block_ptr b o; value = Some (E.named v.value) })
      (tt, tt) (tt, tt)))))

  pub into_Meets : {M : Type 1} (𝓤 : Ura M) (𝓛 : Logic 𝓤) (𝓜 : Model 𝓤 𝓛.H) (𝓡 : Running 𝓤 𝓛.H 𝓜) (k : Callee)
      → Closed 𝓤 𝓛.H (tables 𝓤 𝓛.H 𝓜 𝓡 𝓡.env).C (tables 𝓤 𝓛.H 𝓜 𝓡 𝓡.env).Λ k into_code
      → Meets 𝓛 into_ended.signature ((tables 𝓤 𝓛.H 𝓜 𝓡 𝓡.env).C k) (closing 𝓛 into_ended (into_clauses 𝓤 𝓛))
  into_Meets 𝓤 𝓛 𝓜 𝓡 k closed =
      let H = 𝓛.H in let 𝓣 = tables 𝓤 H 𝓜 𝓡 𝓡.env in let c = into_clauses 𝓤 𝓛 in
      let hs : Stays into_ended.signature.params into_ended.kept =
      (stay_dropped (plain (λ _. handle.the_row)) yes, (stay_dropped (plain (λ _. Heap.the_row)) yes, tt)) in
      proved_at 𝓛 into_ended hs c 𝓜 𝓡 (
        Goes-dropped 𝓛 0 (plain (λ _. handle.the_row)) yes (λ κs x w. refl),
        (Goes-dropped 𝓛 0 (plain (λ _. Heap.the_row)) yes (λ κs x w. refl), tt),
      ) k into_code closed (λ z are.
      let v = z.0.3.0 in
      let a = z.0.3.1.0 in
      let Post : Val → SProp 𝓤 = (walk_of 𝓛 into_ended hs c).post z in
      let Run : List Val → SProp 𝓤 = λ ws. WpFn 𝓤 H 𝓣.C 𝓣.Λ into_code ws Post in
      qed 𝓛
      ((‵ ftrue ⊛ ‵ (owns (types_at into_ended.signature.params z.0.0) z.0.3 z.0.4))
      ∷ raw (fact 𝓤 (is_some (E.of v.value) ≡ true)) ∷ []) ∵ move ! (1 ∷ []) $ heard !
      (is_some (E.of v.value) ≡ true) (λ live.
      let x = (the_value (E.of v.value) live).0 in
      let is = (the_value (E.of v.value) live).1 in
      split ! $ move ! (1 ∷ []) $ fsplit ! $
      handle_out E ! v z.0.4.0 x is
      (λ b o e ws. move ! (1 ∷ []) $ fsplit ! $ handle_tells al ! a z.0.4.1.0 (λ h ea fits.
      let w : Val = one_val (vptr b o) in
      let good = loose_good E.row Heap.the_row heap.the_row_laws ghosts b o h fits in
      suffices ! (Run (w ∷ h ∷ []))
      (subst (λ (us : List Val). ent 𝓤 (Run (w ∷ h ∷ [])) (Run us)) (sym (λ i. ws i ++ (ea i ++ [])))
      (id⊢ 𝓤 (Run (w ∷ h ∷ [])))) $
      enter ! 𝓣.C 𝓣.Λ into_code (w ∷ h ∷ []) Post $ alloc_all ! (λ l. pass_all ! refl ((tt, (tt, tt)), (fits, tt)) $
      sets ! (of_opd ! (get_in ! (fld ! refl (stop !)) (sub ! 0 refl (whole !)))) refl (tt, tt) $
      sets ! (of_opd ! (get ! refl)) refl (tt, tt) $
      sets ! (agg ! (and_then ! (get ! refl) (and_then ! (get ! refl) (no_more !)))) refl good $
      move ! (2 ∷ 0 ∷ []) $ loose_in E.row Heap.the_row heap.the_row_laws ghosts ! b o h a x $
      use0 𝓛 (raw (fact 𝓤 (E.of v.value ≡ Some x))) (fact_i 𝓤 (E.of v.value ≡ Some x) (emp 𝓤) is) $ nothing ! $ nothing
      ! $ fjoin ! $ nothing ! $ fjoin ! $ nothing ! $
      returns ! (look_at ! 0 refl) $ free_all ! refl $ keep ! (0 ∷ 1 ∷ 3 ∷ 2 ∷ []) $
      by !
      (leaves 𝓛 into_ended hs c z (both (vptr b o) h) (record { at = block_ptr b o; alloc = a; value = x })
      (tt, (tt, tt)) (tt, (tt, tt))))))))

  abbrev stayed : Stays lend_ended.signature.params lend_ended.kept
  stayed = (stay_dropped (mut_ref_to (0 ∷ []) tt (plain (λ _. handle.the_row))) no, tt)

  abbrev with_kept : handle.the_row.Denot → E.row.Denot → handle.the_row.Denot
  with_kept h x = record h { value = Some (E.named x) }

  module _ {M : Type 1} {𝓤 : Ura M} (𝓛 : Logic 𝓤) (h : handle.the_row.Denot) (b o rb ro : ℕ) where
    -- all of the handle but what it holds
    abbrev Rest : Fml
    Rest =
        fsep (ghosts.dealloc_token the_heap (bare (lone E.row.mir)) (block_ptr b o))
        (cell_at full_share handle.the_row.mir (one_val (vptr b o) ∷ []) rb ro)

    back : h.at ≡ block_ptr b o → (w : E.row.Denot)
        → ent 𝓤 (sep 𝓤 (sem 𝓛 ((mem E.row).own_at w b o)) (sem 𝓛 Rest))
        (sem 𝓛 ((mem handle.the_row).own_at (with_kept h w) rb ro))
    unfolding part_of
    back at_b w =
        qed 𝓛 (‵ (part_at E.row full_share w b o) ∷ ‵ Rest ∷ []) ∵ move ! (1 ∷ []) $ fsplit ! $ move ! (2 ∷ 0 ∷ []) $
        fjoin ! $
        handle_in E ! b o w $ rewrite ! 0
        (λ (p : Ptr).
        ‵ (handle.the_row.own_val (record { at = p; value = Some (E.named w) }) (one_val (vptr b o) ∷ [])))
        (sym at_b) refl $ move ! (1 ∷ 0 ∷ []) $ fjoin ! $
        fpack ! (List Val)
        (λ us. fsep (cell_at full_share handle.the_row.mir us rb ro) (handle.the_row.own_val (with_kept h w) us))
        (one_val (vptr b o) ∷ []) $ done !

  pub lend_Meets : {M : Type 1} (𝓤 : Ura M) (𝓛 : Logic 𝓤) (𝓜 : Model 𝓤 𝓛.H) (𝓡 : Running 𝓤 𝓛.H 𝓜) (k : Callee)
      → Closed 𝓤 𝓛.H (tables 𝓤 𝓛.H 𝓜 𝓡 𝓡.env).C (tables 𝓤 𝓛.H 𝓜 𝓡 𝓡.env).Λ k lend_code
      → Meets 𝓛 lend_ended.signature ((tables 𝓤 𝓛.H 𝓜 𝓡 𝓡.env).C k) (closing 𝓛 lend_ended (lend_clauses 𝓤 𝓛))
  lend_Meets 𝓤 𝓛 𝓜 𝓡 k closed =
      let H = 𝓛.H in let 𝓣 = tables 𝓤 H 𝓜 𝓡 𝓡.env in let c = lend_clauses 𝓤 𝓛 in
      proved 𝓛 lend_ended stayed c 𝓜 𝓡 (Goes-spent_ref 𝓛 1 (0 ∷ []) tt (plain (λ _. handle.the_row)), tt) k lend_code
      closed
      (λ κs. (mut_vals, tt)) (λ κs. (mut_Tells (named 0) κs.0 handle.the_row, tt)) (λ κs qs bounds a g are.
      let κ = κs.0 in
      let q = qs.0 in
      let self = a.0 in
      let h = self.now in
      let rb = self.ref_ptr.0 in
      let ro = self.ref_ptr.1 in
      let γ = self.ghost_name in
      let coded = handle.the_row.coded.code h in
      let y : (walk_of 𝓛 lend_ended stayed c).Ghost = ((κs, qs, bounds, a, (mut_vals self, tt)), g) in
      let Post : Val → SProp 𝓤 = (walk_of 𝓛 lend_ended stayed c).post y in
      qed 𝓛
      (((‵ (flft κ q) ⊛ ‵ ftrue) ⊛ ‵
      (owns (MutRef (named 0) κ handle.the_row ∷ []) (self, tt) (vptr rb ro ∷ [], tt)))
      ∷ raw (fact 𝓤 (is_some (E.of h.value) ≡ true)) ∷ []) ∵
      move ! (1 ∷ []) $ heard ! (is_some (E.of h.value) ≡ true)
      (λ live. let x = (the_value (E.of h.value) live).0 in let is = (the_value (E.of h.value) live).1 in
      enter ! 𝓣.C 𝓣.Λ lend_code (vptr rb ro ∷ []) Post $ alloc_all !
      (λ l. pass_all ! refl ((tt, tt), tt) $ let En : Env 𝓤 H = env lend_code.locals l in
      split ! $ split ! $ move ! (2 ∷ []) $ fsplit ! $ fsplit3 ! $ drop ! $ move ! (0 ∷ 1 ∷ 3 ∷ []) $
      opens ! tt handle.the_row {h = h} rb ro
      (λ vs.
      move ! (1 ∷ []) $ handle_out E ! h vs x is
      (λ b o e ws.
      rewrite ! 1 (λ (us : List Val). ‵ (cell_at full_share handle.the_row.mir us rb ro)) ws refl $
      -- [the box; the word; the open borrow; obs; auth]
      first ! $ blocks ! $ sets !
      (of_opd ! (load ! (through ! refl (fld ! refl (stop !))) (look_in ! 1 (sub ! 0 refl (whole !))))) refl
      (tt, tt) $ sets ! (of_opd ! (get ! refl)) refl (tt, tt) $ sets_last ! (addr ! (through ! refl (stop !))) refl
      (tt, tt) $
      exec ! 𝓣.C 𝓣.Λ En (after 1 lend_code.body) (at_ret En Post) $ sets ! (of_opd ! (get ! refl)) refl (tt, tt) $
      fsplit ! $ move ! (1 ∷ 2 ∷ []) $ fjoin ! $ move ! (2 ∷ 3 ∷ 4 ∷ 1 ∷ 0 ∷ []) $ group ! 5 $
      use1 𝓛
      (later (some (λ (γ' : GName).
      raw (Part 𝓛 handle.the_row E.row (with_kept h) (named 0) κ q rb ro b o γ
      (sem 𝓛 (Rest 𝓛 h b o rb ro)) (back 𝓛 h b o rb ro e) x γ'))))
      (lends_Part 𝓛 handle.the_row E.row (with_kept h) (named 0) κ q rb ro b o γ (sem 𝓛 (Rest 𝓛 h b o rb ro))
      (back 𝓛 h b o rb ro e) coded coded x) $ await ! tt $ pick ! (λ γ'.
      use1 𝓛
      (‵
      ((MutRef (named 0) κ E.row).own_val (record { ref_ptr = (b, o); ghost_name = γ'; now = x }) (vptr b o ∷ []))
      ⊛ ‵ (flft κ q) ⊛ ‵ (follows handle.the_row E.row γ γ' (with_kept h))) (id⊢ 𝓤 _) $ split3 ! $
      returns ! (look_at ! 0 refl) $ free_all ! refl $ keep ! (0 ∷ 1 ∷ 2 ∷ []) $
      suffices ! _
      (ends_at 𝓛 lend_ended stayed c y (vptr b o) (record { ref_ptr = (b, o); ghost_name = γ'; now = x }) (tt, tt)
      (tt, tt)) $
      nothing ! $ nothing ! $ fjoin ! $ join ! $ nothing ! $ move ! (2 ∷ 0 ∷ []) $ join ! $ join ! $ frame ! $ says ! is
      $ done !))))))
