-- The machine value of a handle, and the rows of what it comes from. Assumes `Logic`.
use Rattle.std.proofs.Common.{◌≡◌, ℕ, List, [], ◌∷◌, ◌++◌, refl, sym, subst, w64}
use mathlib.Core.Bool.{true}
use Rattle.std.proofs.lemmas.Bool.{false≢true}
use mir.Syntax.{impl, tnil, dnil}
use mir.Raw.{raw as bare}
use mir.Val.{Val, vptr, vint, vstruct, vcons, vnil, of_list}
use base.Logic.{never, fst∗}
use base.Fml.{Fml}
use types.Logic.{Logic, sem}
use types.Kit.{Item, Goal, Seq, Step, step, ‵, ◌$◌, drop, fsplit, fjoin, fpick, fpack, rewrite, feq_i, feq_l}
use seplogic.Ra.Ura.{Ura}
use denote.RattleType.{RattleType, Valss}
use denote.Builtin.{RawPtr}
use Rattle.std_heap.proofs.Global.TheLaws as heap
use denote.Memory.{lone}
use denote.RawPtr.{Ptr, block_ptr, null_ptr, ptr_val, in_a_block}
use denote.Steps.{nothing}
use denote.Struct.Struct.{within}
use denote.Struct.Owning.{shape}
use Rattle.std.specs.Prelude.{Option, Some, None, is_some}
use Rattle.core.proofs.alloc.Calls.{Al}
use Rattle.std_heap.specs.contracts.Global as Heap
use Rattle.std_heap.specs.contracts.GlobalAllocator.TheImpl.{ghosts}
use Rattle.tracering_c.specs.Held.{End, boxed, held, heap as the_heap}
use Rattle.tracering_c.specs.contracts.held.Held as handle

-- the value that is there
pub the_value : {X : Type 0} (o : Option X) → is_some o ≡ true → (x : X) × (o ≡ Some x)
the_value (Some x) p = (x, refl)
the_value None p = absurd (false≢true p)

abbrev pub one_val : Val → Val
one_val v = vstruct (vcons v vnil)

abbrev pub al : Al
al =
    record {
      row = Heap.the_row;
      laws = heap.the_row_laws;
      g = ghosts;
      d = impl [] tnil dnil;
      drops = impl [] tnil dnil;
    }

-- A type whose values are held: each by a name, under which it is found again, as its box.
pub record Kept : Type 2 where
  pub row : RattleType
  pub named : row.Denot → End
  pub of : Option End → Option row.Denot
  pub of_named : (x : row.Denot) → of (Some (named x)) ≡ Some x
  pub named_of : (o : Option End) (x : row.Denot) → of o ≡ Some x → o ≡ Some (named x)
  pub lies : (p : Ptr) (x : row.Denot) → held p (Some (named x)) ≡ boxed row p x

module _ {M : Type 1} {𝓤 : Ura M} {𝓛 : Logic 𝓤} {K : Type 0} {Γ : List (Item 𝓤)} {G : Goal 𝓤 𝓛.H} where
  pub none_in : K
      → Step K 𝓛 (‵ (handle.the_row.own_val (record { at = null_ptr; value = None }) (one_val (vint w64 0) ∷ [])) ∷ Γ) G
      Γ G
  none_in t = step (λ s. let v : Val = one_val (vint w64 0) in
      nothing t $ nothing t $ feq_i t (List Val) (vint w64 0 ∷ []) (vint w64 0 ∷ []) refl $ fjoin t $ feq_i t (List Val)
      (v ∷ []) (v ∷ []) refl $ fjoin t $
      fpack t (Valss (RawPtr ∷ [])) (within (shape handle.the_type) (null_ptr, tt) (v ∷ [])) (vint w64 0 ∷ [], tt) $
      fjoin t $ s)

  module _ (E : Kept) where
    pub handle_in : K → (b o : ℕ) (x : E.row.Denot)
        → Step K 𝓛
        (‵ (handle.the_row.own_val (record { at = block_ptr b o; value = Some (E.named x) })
        (one_val (vptr b o) ∷ [])) ∷ Γ) G (‵ (boxed E.row (block_ptr b o) x) ∷ Γ) G
    handle_in t b o x = step (λ s. let v : Val = one_val (vptr b o) in
        rewrite t 0 (λ (F : Fml). ‵ F) (sym (E.lies (block_ptr b o) x)) refl $
        nothing t $ feq_i t (List Val) (vptr b o ∷ []) (vptr b o ∷ []) refl $ fjoin t $ feq_i t (List Val) (v ∷ [])
        (v ∷ []) refl $ fjoin t $
        fpack t (Valss (RawPtr ∷ [])) (within (shape handle.the_type) (block_ptr b o, tt) (v ∷ [])) (vptr b o ∷ [], tt)
        $ fjoin t $ s)

    pub handle_out : K → (d : handle.the_row.Denot) (vs : List Val) (x : E.row.Denot) → E.of d.value ≡ Some x
        → ((b o : ℕ) → d.at ≡ block_ptr b o → vs ≡ one_val (vptr b o) ∷ []
        → Seq K 𝓛 (‵ (boxed E.row (block_ptr b o) x) ∷ Γ) G)
        → Seq K 𝓛 (‵ (handle.the_row.own_val d vs) ∷ Γ) G
    handle_out t d vs x is k =
        fsplit t $ fpick t (λ vss. fsplit t $ feq_l t (λ ev. fsplit t $ feq_l t (λ ep. drop t $
        rewrite t 0 (λ (o : Option End). ‵ (held d.at o)) (E.named_of d.value x is) refl $ rewrite t 0
        (λ (F : Fml). ‵ F) (E.lies d.at x) refl $
        in_a_block t d.at (λ p. boxed E.row p x)
        (fst∗ 𝓤 (never 𝓤) (sem 𝓛 (ghosts.dealloc_token the_heap (bare (lone E.row.mir)) null_ptr)))
        (λ b o e. k b o e
        (subst (λ (p : Ptr). vs ≡ vstruct (of_list (ptr_val p ∷ [])) ∷ []) e
        (subst (λ (ps : List Val). vs ≡ vstruct (of_list (ps ++ [])) ∷ []) ep ev))))))
