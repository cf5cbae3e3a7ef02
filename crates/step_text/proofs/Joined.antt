-- Texts that are appended one after the other are appended as a whole.
use Rattle.std.proofs.Common.{◌≡◌, ℕ, List, ◌++◌, append_assoc, flat_map}
use Rattle.std.proofs.lemmas.Grind.{flat_map-append}
use Rattle.step_model.specs.Seen.{Change}

pub join_four : (o p q r s a b c d : List ℕ) → p ≡ o ++ a → q ≡ p ++ b → r ≡ q ++ c → s ≡ r ++ d
    → s ≡ o ++ (a ++ b ++ c ++ d)
join_four o p q r s a b c d e f g h = rw (h, g, f, e) (simp append_assoc)

pub join_changes : (f : Change → List ℕ) (o p q r s t u : List ℕ) (a b c d e g : List Change)
    → p ≡ o ++ flat_map f a
    → q ≡ p ++ flat_map f b
    → r ≡ q ++ flat_map f c
    → s ≡ r ++ flat_map f d
    → t ≡ s ++ flat_map f e
    → u ≡ t ++ flat_map f g
    → u ≡ o ++ flat_map f (a ++ b ++ c ++ d ++ e ++ g)
join_changes f o p q r s t u a b c d e g i j k l m n = rw (n, m, l, k, j, i) (simp (flat_map-append, append_assoc))

-- the line of a phase: its key, and after a space six parts, and the line's end
pub join_phase : (o p q r s t u v w x y key depth gap name noted page next role state end : List ℕ)
    → p ≡ o ++ key
    → q ≡ p ++ depth
    → r ≡ q ++ gap
    → s ≡ r ++ name
    → t ≡ s ++ noted
    → u ≡ t ++ page
    → v ≡ u ++ next
    → w ≡ v ++ role
    → x ≡ w ++ state
    → y ≡ x ++ end
    → y ≡ o ++ (key ++ depth ++ (gap ++ (name ++ noted ++ page ++ next ++ role ++ state)) ++ end)
join_phase o p q r s t u v w x y key depth gap name noted page next role state end a b c d e f g h i j =
    rw (j, i, h, g, f, e, d, c, b, a) (simp append_assoc)

pub join_five : (o p q r s t a b c d e : List ℕ) → p ≡ o ++ a → q ≡ p ++ b → r ≡ q ++ c → s ≡ r ++ d → t ≡ s ++ e
    → t ≡ o ++ (a ++ b ++ c ++ d ++ e)
join_five o p q r s t a b c d e f g h i j = rw (j, i, h, g, f) (simp append_assoc)
