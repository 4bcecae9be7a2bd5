-- Laws of bytes that are put in a room: those put where others end go behind them, and a room that is too short takes the first.
use mathlib.Core.Path.{◌≡◌, refl, sym, ◌∙◌, ap}
use mathlib.Core.List.{List, [], ◌∷◌, ◌++◌, append-nil, append_assoc}
use Prim.Native.Nat.{ℕ, suc, ◌+◌, ◌≤◌}
use native.Mathlib.Nat.{add-zero}
use native.Mathlib.Omega.{arith}
use lib.ListN.{length, take, drop, set, length-append}
use lib.Seq.{sets, set_out, set-append_seam}
use Rattle.star_list.specs.Put.{PutWithin}

sets-append : (vs ws l : List ℕ) (i : ℕ) → sets l i (vs ++ ws) ≡ sets (sets l i vs) (i + length vs) ws
sets-append [] ws l i = rw add-zero
sets-append (a ∷ vs) ws l i =
    let k : suc i + length vs ≡ i + suc (length vs) = omega arith in
    sets-append vs ws (set l i a) (suc i) ∙ ap (λ n. sets (sets (set l i a) (suc i) vs) n ws) k

pub put-none : (at : ℕ) (room : List ℕ) → PutWithin [] at room room at
put-none at room = record { ends = sym (add-zero at); leaves = refl }

pub put_then : {bytes others before between after : List ℕ} {at next end : ℕ} → PutWithin bytes at before between next → PutWithin others next between after end
    → PutWithin (bytes ++ others) at before after end
put_then {bytes} {others} {before} {at = at} p q = record {
  ends = rw length-append (omega (arith, p.ends, q.ends));
  leaves = q.leaves ∙ rw (p.leaves, p.ends) (sym (sets-append bytes others before at));
}

-- past the end nothing is put
sets-out : (vs l : List ℕ) (i : ℕ) → length l ≤ i → sets l i vs ≡ l
sets-out [] l i h = refl
sets-out (a ∷ vs) l i h = rw (set_out l i a h) (sets-out vs l (suc i) (omega arith))

sets-rest : (vs p q : List ℕ) → sets (p ++ q) (length p) vs ≡ p ++ (take (length q) vs ++ drop (length vs) q)
sets-rest [] p [] = refl
sets-rest [] p (b ∷ q) = refl
sets-rest (a ∷ vs) p [] = rw append-nil (sets-out (a ∷ vs) p (length p) (omega arith))
sets-rest (a ∷ vs) p (b ∷ q) =
    let k : suc (length p) ≡ length (p ++ (a ∷ [])) = rw length-append (omega arith) in
    ap (λ l. sets l (suc (length p)) vs) (set-append_seam p b q a ∙ sym (append_assoc p (a ∷ []) q))
    ∙ ap (λ n. sets ((p ++ (a ∷ [])) ++ q) n vs) k
    ∙ sets-rest vs (p ++ (a ∷ [])) q
    ∙ append_assoc p (a ∷ []) _

pub put_all : {bytes before after : List ℕ} {end : ℕ} → PutWithin bytes 0 before after end
    → (end ≡ length bytes) × (after ≡ take (length before) bytes ++ drop (length bytes) before)
put_all {bytes} {before} p = (omega (arith, p.ends), p.leaves ∙ sets-rest bytes [] before)
