-- Table 1 while it is marked: marking a row changes its kind word alone, and a marked word has the sort and the link of its row.
use mathlib.Core.Path.{◌≡◌, refl, sym, ◌∙◌, ap, subst}
use mathlib.Core.Bool.{Bool, true, false, cond, ◌&&◌}
use mathlib.Core.List.{List}
use Prim.Native.Nat.{ℕ, suc, ◌+◌, ◌-◌, ◌*◌, ◌/◌, ◌%◌, ◌≤◌, ◌<◌}
use native.Mathlib.Nat.{mod-lt}
use native.Mathlib.Numerals.{add-one}
use native.Mathlib.Omega.{arith}
use lib.Dec.{eqb}
use borrow.Author.Tests.{eqb-true, ne_eqb}
use lib.ListN.{length, get_or, take, drop, drop_of_length-le}
use lib.Seq.{drop-cons}
use Rattle.star_text.specs.Bytes.{most_bytes}
use Rattle.star_lex.specs.Tokens.{Token}
use Rattle.star_text.specs.Names.{same}
use Rattle.star_lex.specs.Holds.{Holds, token_at}
use Rattle.star_unique.specs.Chain.{held_table, name_sort, sort_at, scope_at, mix, bucket_of, sign_of, bucket_at, latest, mark_at, earlier, unmarked_kind, token_by}
use Rattle.star_unique.specs.Marked.{Spans, Marked}
use Rattle.star_lex.proofs.Held.{Row, held-row}
use Rattle.star_unique.proofs.KindWords.{unmark-small}
use Rattle.star_unique.proofs.Chain.{latest-within, latest-again, latest-in, bucket-below, sign_below, sign-sort, sign-tells, bucket-sort, earlier-floor, earlier-other, earlier-here, earlier-last}

module _ (h : ℕ) (x : List ℕ) (i : ℕ) where
  pub mix_next : i < length x → mix h (drop i x) ≡ mix ((h * 2685 + get_or x i 0) % 1048576) (drop (i + 1) x)
  unfolding mix
  mix_next k = rw (drop-cons x i 0 k, add-one)

  pub mix-end : length x ≤ i → mix h (drop i x) ≡ h
  unfolding mix
  mix-end k = rw (drop_of_length-le x k)

-- the span of a token
pub record Span (file words : List ℕ) (n : ℕ) : Type 0 where
  pub room : n * 3 + 3 ≤ length words
  pub small : length file ≤ most_bytes
  pub ordered : get_or words (n * 3 + 1) 0 ≤ get_or words (n * 3 + 2) 0
  pub within : get_or words (n * 3 + 2) 0 ≤ length file
  pub content : take (get_or words (n * 3 + 2) 0 - get_or words (n * 3 + 1) 0) (drop (get_or words (n * 3 + 1) 0) file) ≡ (token_at file n).content

-- a table that holds the tokens, as table 1 of so many words
pub holds-spans : (file words : List ℕ) (count : ℕ) → Holds file words count → Spans file words count
holds-spans file words count h = record {
  table = subst (λ ws. Holds file ws count) h.rows h;
  size = sym (ap length h.rows);
  starts = λ m. ap (λ ws. get_or ws (m * 3 + 1) 0) h.rows;
  ends = λ m. ap (λ ws. get_or ws (m * 3 + 2) 0) h.rows;
}

pub spans-at : (file words : List ℕ) (count : ℕ) → Spans file words count → (n : ℕ) → n < count → Span file words n
spans-at file words count s n h =
    let r : Row file (held_table file (length words)) n = held-row file (held_table file (length words)) count s.table n h in
    record {
      room = omega (arith, s.table.room, s.table.count_is, s.size);
      small = s.table.small;
      ordered = rw (s.starts n, s.ends n) r.ordered;
      within = rw (s.ends n) r.within;
      content = rw (s.starts n, s.ends n) r.content;
    }

-- following the rows of a bucket from the last: every row is its own last, and the rows passed are not equal
pub record Follows (at : ℕ → Token) (sort : ℕ) (x : List ℕ) (floor n row : ℕ) : Type 0 where
  pub within : row ≤ n
  pub own : row ≡ latest (bucket_at at) (bucket_of sort x) row
  pub says : earlier at sort x floor row ≡ earlier at sort x floor n

module _ (at : ℕ → Token) (sort : ℕ) (x : List ℕ) (floor n : ℕ) (some : sort ≡ 0 → ⊥) where
  pub follow-start : Follows at sort x floor n (latest (bucket_at at) (bucket_of sort x) n)
  follow-start = record {
    within = latest-within (bucket_at at) (bucket_of sort x) n;
    own = latest-again (bucket_at at) (bucket_of sort x) n;
    says = earlier-last at sort x floor some n;
  }

  pub follow-end : (row : ℕ) → Follows at sort x floor n row → row ≤ floor → false ≡ earlier at sort x floor n
  follow-end row f h = sym (earlier-floor at sort x floor row h) ∙ f.says

  module _ (m : ℕ) (f : Follows at sort x floor n (suc m)) where
    pub follow-bucket : bucket_at at m ≡ bucket_of sort x
    follow-bucket = latest-in (bucket_at at) (bucket_of sort x) m f.own

    pub follow-sort : sort_at at m ≡ 0 → ⊥
    follow-sort = bucket-sort at m (rw follow-bucket (bucket-below sort x))

    pub follow-hit : floor ≤ m → (eqb (sort_at at m) sort && same x (at m).content) ≡ true → true ≡ earlier at sort x floor n
    follow-hit h e = sym (earlier-here at sort x floor m h e) ∙ f.says

    pub follow-miss : (eqb (sort_at at m) sort && same x (at m).content) ≡ false → Follows at sort x floor n (latest (bucket_at at) (bucket_at at m) m)
    follow-miss e = rw follow-bucket (record {
      within = omega (arith, latest-within (bucket_at at) (bucket_of sort x) m, f.within);
      own = latest-again (bucket_at at) (bucket_of sort x) m;
      says = earlier-last at sort x floor some m ∙ sym (earlier-other at sort x floor m e) ∙ f.says;
    })

-- the word of a marked row
module _ (at : ℕ → Token) (n : ℕ) where
  pub sort-below : sort_at at n < 16
  unfolding sort_at name_sort
  sort-below = go (scope_at at n).inside (eqb (at n).kind 6) (eqb (at n).kind 1) (eqb (at n).kind 2)
    where
      go : (i p q r : Bool) → cond p (cond i 13 6) (cond q 1 (cond r 2 0)) < 16
      go true true q r = omega arith
      go false true q r = omega arith
      go i false true r = omega arith
      go i false false true = omega arith
      go i false false false = omega arith

  module _ (some : sort_at at n ≡ 0 → ⊥) where
    pub mark-is : mark_at at n ≡ sign_of (sort_at at n) (at n).content + latest (bucket_at at) (bucket_at at n) n * 4096
    unfolding mark_at
    mark-is = rw (ne_eqb (sort_at at n) 0 some)

    pub mark-sign : mark_at at n % 4096 ≡ sign_of (sort_at at n) (at n).content
    mark-sign = rw mark-is (omega (arith, sign_below (sort_at at n) (at n).content sort-below))

    pub mark-sort : mark_at at n % 16 ≡ sort_at at n
    mark-sort = rw mark-is (omega (arith, sign-sort (sort_at at n) (at n).content sort-below))

    pub mark-link : mark_at at n / 4096 ≡ latest (bucket_at at) (bucket_at at n) n
    mark-link = rw mark-is (omega (arith, sign_below (sort_at at n) (at n).content sort-below))

  -- it stands for its kind
  module _ (small : (at n).kind ≤ 12) where
    low : (sort kind : ℕ) → sort_at at n ≡ sort → (sort ≡ 0 → ⊥) → cond (eqb sort 13) 6 sort ≡ kind → unmarked_kind (mark_at at n) ≡ kind
    unfolding unmarked_kind
    low sort kind e some q = rw (mark-sort (λ z. some (sym e ∙ z)), e) q

    pub mark-kind : unmarked_kind (mark_at at n) ≡ (at n).kind
    unfolding mark_at sort_at name_sort
    mark-kind = go (scope_at at n).inside refl (eqb (at n).kind 6) refl (eqb (at n).kind 1) refl (eqb (at n).kind 2) refl
      where
        go : (i : Bool) → (scope_at at n).inside ≡ i → (p : Bool) → eqb (at n).kind 6 ≡ p → (q : Bool) → eqb (at n).kind 1 ≡ q → (r : Bool)
            → eqb (at n).kind 2 ≡ r → unmarked_kind (mark_at at n) ≡ (at n).kind
        go true e true d q f r g = low 13 (at n).kind (rw (d, e)) (λ z. absurd (omega arith)) (sym (eqb-true _ _ d))
        go false e true d q f r g = low 6 (at n).kind (rw (d, e)) (λ z. absurd (omega arith)) (sym (eqb-true _ _ d))
        go i e false d true f r g = low 1 (at n).kind (rw (d, f)) (λ z. absurd (omega arith)) (sym (eqb-true _ _ f))
        go i e false d false f true g = low 2 (at n).kind (rw (d, f, g)) (λ z. absurd (omega arith)) (sym (eqb-true _ _ g))
        go i e false d false f false g = rw (d, f, g) (unmark-small (at n).kind small)

-- a row of a bucket, as the table has it
module _ (file : List ℕ) (kinds : ℕ → ℕ) (words : List ℕ) (count n sign : ℕ) (x : List ℕ) (floor row : ℕ) (k : Marked file kinds words count n)
    (some : sign % 16 ≡ 0 → ⊥) (es : sign ≡ sign_of (sign % 16) x) (f : Follows (token_by file kinds) (sign % 16) x floor n row) (h : floor < row) where
  abbrev at : ℕ → Token
  at = token_by file kinds

  back : row ≡ suc (row - 1)
  back = omega arith

  at_row : Follows at (sign % 16) x floor n (suc (row - 1))
  at_row = subst (λ r. Follows at (sign % 16) x floor n r) back f

  word-is : get_or words ((row - 1) * 3) 0 ≡ mark_at at (row - 1)
  word-is = k.marked (row - 1) (omega (arith, f.within))

  named : sort_at at (row - 1) ≡ 0 → ⊥
  named = follow-sort at (sign % 16) x floor n some (row - 1) at_row

  equal_is : (eqb (get_or words ((row - 1) * 3) 0 % 4096) sign && same x (at (row - 1)).content)
      ≡ (eqb (sort_at at (row - 1)) (sign % 16) && same x (at (row - 1)).content)
  equal_is =
      ap (λ w. eqb (w % 4096) sign && same x (at (row - 1)).content) word-is
      ∙ ap (λ w. eqb w sign && same x (at (row - 1)).content) (mark-sign at (row - 1) named)
      ∙ ap (λ w. eqb (sign_of (sort_at at (row - 1)) (at (row - 1)).content) w && same x (at (row - 1)).content) es
      ∙ sign-tells (sort_at at (row - 1)) (sign % 16) x (at (row - 1)).content (sort-below at (row - 1)) (mod-lt sign (omega arith))

  link-is : get_or words ((row - 1) * 3) 0 / 4096 ≡ latest (bucket_at at) (bucket_at at (row - 1)) (row - 1)
  link-is = rw word-is (mark-link at (row - 1) named)

  pub turn-hit : (eqb (get_or words ((row - 1) * 3) 0 % 4096) sign && same x (at (row - 1)).content) ≡ true
      → true ≡ earlier at (sign % 16) x floor n
  turn-hit e = follow-hit at (sign % 16) x floor n some (row - 1) at_row (omega arith) (sym equal_is ∙ e)

  pub turn-miss : (eqb (get_or words ((row - 1) * 3) 0 % 4096) sign && same x (at (row - 1)).content) ≡ false
      → Follows at (sign % 16) x floor n (get_or words ((row - 1) * 3) 0 / 4096)
  turn-miss e =
      subst (λ r. Follows at (sign % 16) x floor n r) (sym link-is)
      (follow-miss at (sign % 16) x floor n some (row - 1) at_row (sym equal_is ∙ e))

  pub turn-less : get_or words ((row - 1) * 3) 0 / 4096 < row
  turn-less = rw link-is (omega (arith, latest-within (bucket_at at) (bucket_at at (row - 1)) (row - 1)))

  pub turn-span : n ≤ count → Span file words (row - 1)
  turn-span below = spans-at file words count k.spans (row - 1) (omega (arith, f.within))
