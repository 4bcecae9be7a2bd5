-- Laws of bytes in a room: bytes put where those before them end, and bytes at the start of what is left, go behind those before them.
use mathlib.Core.Path.{◌≡◌, refl, sym, ◌∙◌, ap, subst}
use mathlib.Core.List.{List, [], ◌++◌, append-nil, append_assoc}
use Prim.Native.Nat.{ℕ, ◌+◌, ◌-◌, ◌≤◌}
use native.Mathlib.Nat.{add-zero}
use native.Mathlib.Omega.{arith}
use lib.ListN.{length, take, drop, replicate, length-append, length-drop, take-append-drop, drop_of_length-le}
use lib.Seq.{drop-drop, take_at, take_all, take-append_seam, drop_at}
use Rattle.star_rows.specs.Rows.{cleared_from}
use Rattle.star_plain.specs.Put.{Put, Filled}

-- the same bytes are put
pub put_same : {bytes others : List ℕ} {at next : ℕ} {before after : List ℕ} → bytes ≡ others → Put bytes at before after next → Put others at before after next
put_same {at = at} {next = next} {before = before} {after = after} e p = subst (λ b. Put b at before after next) e p

-- nothing is put
pub put-none : (at : ℕ) (room : List ℕ) → Put [] at room room at
put-none at room = record { ends = sym (add-zero at); leaves = rw (add-zero, append-nil) (sym (take-append-drop at room)) }

pub fill_none : (room : List ℕ) → Filled [] room room 0
fill_none room = record { counts = refl; leaves = refl }

-- past those bytes all is cleared
pub fill-clear : (bytes room : List ℕ) (size : ℕ) {filled cleared : List ℕ} → size ≡ length bytes → size ≤ length room
    → filled ≡ bytes ++ drop (length bytes) room → cleared ≡ cleared_from size filled → cleared ≡ bytes ++ replicate (length room - size) 0
fill-clear bytes room size e h f c =
    let k : length bytes + (length room - length bytes) - length bytes ≡ length room - length bytes = omega arith in
    c ∙ ap (cleared_from size) f ∙ rw (e, take-append_seam, length-append, length-drop, k)

module _ {bytes before after : List ℕ} {count : ℕ} (f : Filled bytes before after count) where
  first : take count after ≡ bytes
  first = ap (λ l. take count l) f.leaves ∙ take_at bytes (drop (length bytes) before) count (sym f.counts)

  past : (others : List ℕ) → drop (length others) (drop count after) ≡ drop (length (bytes ++ others)) before
  past others =
      ap (λ l. drop (length others) (drop count l)) f.leaves
      ∙ ap (λ l. drop (length others) l) (drop_at bytes (drop (length bytes) before) count (sym f.counts))
      ∙ drop-drop (length others) (length bytes) before
      ∙ ap (λ n. drop n before) (sym (length-append bytes others))

  -- bytes put where those before them end
  pub fill-put : {others rest : List ℕ} {next : ℕ} → Put others count after rest next → Filled (bytes ++ others) before rest next
  fill-put {others} p = record {
    counts = rw (p.ends, f.counts) (sym (length-append bytes others));
    leaves = p.leaves ∙ rw (first, ← drop-drop, past others);
  }

  -- bytes at the start of what is left, which is lent and comes back
  pub fill-rest : {others rest : List ℕ} {more : ℕ} → Filled others (take (length after - count) (drop count after)) rest more
      → Filled (bytes ++ others) before (take count after ++ (rest ++ drop (length after - count) (drop count after))) (count + more)
  fill-rest {others} {rest} q =
      let short : length (drop count after) ≤ length after - count = omega (arith, length-drop count after) in
      record {
        counts = rw (f.counts, q.counts) (sym (length-append bytes others));
        leaves =
            ap (λ l. take count after ++ (rest ++ l)) (drop_of_length-le (drop count after) short)
            ∙ rw (append-nil, first, q.leaves, take_all (length after - count) (drop count after) short, past others)
            (sym (append_assoc bytes others _));
      }

  -- bytes that stand there already
  pub fill-kept : (more tail : List ℕ) → drop (length bytes) before ≡ more ++ tail → Filled (bytes ++ more) before after (count + length more)
  fill-kept more tail e = record {
    counts = rw f.counts (sym (length-append bytes more));
    leaves =
        f.leaves ∙ ap (λ l. bytes ++ l) (e ∙ ap (λ l. more ++ l) (sym (ap (drop (length more)) e ∙ drop_at more tail (length more) refl)
        ∙ drop-drop (length more) (length bytes) before ∙ ap (λ n. drop n before) (sym (length-append bytes more))))
        ∙ sym (append_assoc bytes more _);
  }
