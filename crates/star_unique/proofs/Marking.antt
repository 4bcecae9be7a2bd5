-- Marking a row: the other words of the table stay, its kind can be put back, and the buckets' last rows follow.
use mathlib.Core.Path.{◌≡◌, refl, sym, ◌∙◌, ap, subst}
use mathlib.Core.Bool.{Bool, true, false, cond}
use mathlib.Core.List.{List}
use Prim.Native.Nat.{ℕ, zero, suc, ◌+◌, ◌*◌, ◌/◌, ◌%◌, ◌≤◌, ◌<◌}
use native.Mathlib.Nat.{mod-lt}
use native.Mathlib.Numerals.{add-one}
use native.Mathlib.Omega.{arith}
use lib.Dec.{eqb, leb, ltb}
use borrow.Author.Tests.{leb-true, ltb-true, ltb-false, eqb-true, eqb-false, eq-eqb, ne_eqb}
use lib.ListN.{length, get_or, set, take, replicate, length-set, length-replicate, get_or-replicate}
use lib.Seq.{get_or-set_same, get_or-set_other, take_all}
use Rattle.star_lex.specs.Tokens.{Token}
use Rattle.star_unique.specs.Repeat.{nothing, is_taken, takes, first_repeat}
use Rattle.star_unique.proofs.Seen.{takes_all}
use Rattle.star_lex.specs.Holds.{Holds, file_tokens, token_at}
use Rattle.star_unique.specs.Chain.{held_table, name_sort, sort_at, opens_block, is_value_kind, passed, scope_at, floor_of, hash_of, bucket_of, sign_of, bucket_at, latest, mark_at, earlier, taken_at, unmarked_kind, kinds_in, unmarked, token_by, with_kinds}
use Rattle.star_unique.specs.Marked.{Spans, Plain, Marked, Heads, Visited}
use Rattle.star_unique.specs.declared.Scope.{Scope}
use Rattle.star_unique.proofs.Clean.{Clean, takes-next, clean-next, repeat-here, clean-repeat}
use Rattle.star_lex.proofs.Held.{nowhere, held-row, count-tokens}
use Rattle.star_grammar.proofs.Sane.{both_left, both_right}
use Rattle.star_unique.proofs.Scopes.{Agrees, agrees-nothing, agrees-next, taken_is}
use Rattle.star_unique.proofs.Chain.{latest-within, sign_below, sign-sort, bucket-named, bucket-none}
use Rattle.star_unique.proofs.Marks.{holds-spans, sort-below, mark-is, mark-kind}
use Rattle.star_unique.proofs.KindWords.{unmark-small, length-kinds, token-by, kind-below}
use Rattle.star_unique.proofs.Unmarking.{word-here, word-other, kinds-unmarked, unmarked-plain, unmarked-mark}

-- a kind word that is written leaves the spans
pub spans-set : (file words : List ℕ) (count i v : ℕ) → Spans file words count → Spans file (set words (i * 3) v) count
spans-set file words count i v s = record {
  table = rw length-set s.table;
  size = rw length-set s.size;
  starts = λ m. rw length-set (get_or-set_other words (i * 3) (m * 3 + 1) v 0 (λ e. absurd (omega arith)) ∙ s.starts m);
  ends = λ m. rw length-set (get_or-set_other words (i * 3) (m * 3 + 2) v 0 (λ e. absurd (omega arith)) ∙ s.ends m);
}

pub spans-room : (file words : List ℕ) (count : ℕ) → Spans file words count → (n : ℕ) → n < count → n * 3 < length words
spans-room file words count s n below = omega (arith, s.table.room, s.table.count_is, s.size)

-- a table that holds the tokens has no marks
pub holds_plain : (file words : List ℕ) (count : ℕ) → Holds file words count → Plain file words count
holds_plain file words count h = record {
  spans = holds-spans file words count h;
  small = λ m below. rw (held-row file words count h m below).kind (kind-below file words count h m below);
}

marked-none : (file words : List ℕ) (count : ℕ) → Plain file words count → Marked file (kinds_in words) words count 0
unfolding kinds_in
marked-none file words count p = record {
  spans = p.spans;
  small = λ m below. rw (unmark-small (get_or words (m * 3) 0) (p.small m below)) (p.small m below);
  marked = λ m k. absurd (omega arith);
  ahead = λ m k below. sym (unmark-small (get_or words (m * 3) 0) (p.small m below));
}

module _ (file : List ℕ) (kinds : ℕ → ℕ) (words : List ℕ) (count n : ℕ) (k : Marked file kinds words count n) (below : n < count) where
  pub room-here : n * 3 < length words
  room-here = spans-room file words count k.spans n below

  pub kind-here : get_or words (n * 3) 0 ≡ kinds n
  kind-here = k.ahead n (omega arith) below

  pub sort-here : (c : Scope) → c ≡ scope_at (token_by file kinds) n → name_sort c.inside (get_or words (n * 3) 0) ≡ sort_at (token_by file kinds) n
  unfolding sort_at
  sort-here c e = rw (e, kind-here)

  -- a token that is no name or code stays as it is
  marked-plain : sort_at (token_by file kinds) n ≡ 0 → Marked file kinds words count (suc n)
  unfolding mark_at
  marked-plain e = record {
    spans = k.spans;
    small = k.small;
    marked = λ m h. each m h (ltb m n) refl;
    ahead = λ m h l. k.ahead m (omega arith) l;
  }
    where
      each : (m : ℕ) → m < suc n → (t : Bool) → ltb m n ≡ t → get_or words (m * 3) 0 ≡ mark_at (token_by file kinds) m
      each m h true d = k.marked m (ltb-true m n d)
      each m h false d =
          let q : m ≡ n = omega (arith, ltb-false m n d) in
          subst (λ i. get_or words (i * 3) 0 ≡ mark_at (token_by file kinds) i) (sym q) (rw (eq-eqb (sort_at (token_by file kinds) n) 0 e) kind-here)

  marked-one : (v : ℕ) → v ≡ mark_at (token_by file kinds) n → Marked file kinds (set words (n * 3) v) count (suc n)
  marked-one v e = record {
    spans = spans-set file words count n v k.spans;
    small = k.small;
    marked = λ m h. each m h (ltb m n) refl;
    ahead = λ m h l. word-other words n v m (λ q. absurd (omega arith)) ∙ k.ahead m (omega arith) l;
  }
    where
      each : (m : ℕ) → m < suc n → (t : Bool) → ltb m n ≡ t → get_or (set words (n * 3) v) (m * 3) 0 ≡ mark_at (token_by file kinds) m
      each m h true d =
          let l : m < n = ltb-true m n d in
          word-other words n v m (λ q. absurd (omega arith)) ∙ k.marked m l
      each m h false d =
          let q : m ≡ n = omega (arith, ltb-false m n d) in
          subst (λ i. get_or (set words (n * 3) v) (i * 3) 0 ≡ mark_at (token_by file kinds) i) (sym q) (word-here words n v room-here ∙ e)

  -- its kind can be put back
  back-plain : unmarked (suc n) words ≡ unmarked n words
  back-plain = unmarked-plain words n (rw kind-here (k.small n below))

  back_one : (v : ℕ) → v ≡ mark_at (token_by file kinds) n → unmarked (suc n) (set words (n * 3) v) ≡ unmarked n words
  back_one v e = unmarked-mark words n v room-here (ap unmarked_kind e ∙ mark-kind (token_by file kinds) n (k.small n below) ∙ sym kind-here)

-- the buckets' last rows after one token more
module _ (file : List ℕ) (kinds : ℕ → ℕ) (heads : List ℕ) (n : ℕ) (k : Heads file kinds heads n) where
  heads-plain : bucket_at (token_by file kinds) n ≡ 4096 → Heads file kinds heads (suc n)
  unfolding latest
  heads-plain e = record {
    size = k.size;
    last = λ b h. k.last b h ∙ rw (ne_eqb (bucket_at (token_by file kinds) n) b (λ q. absurd (omega arith)));
  }

  heads-one : bucket_at (token_by file kinds) n < 4096 → Heads file kinds (set heads (bucket_at (token_by file kinds) n) (suc n)) (suc n)
  unfolding latest
  heads-one small = record {
    size = rw length-set k.size;
    last = λ b h. each b h (eqb (bucket_at (token_by file kinds) n) b) refl;
  }
    where
      each : (b : ℕ) → b < 4096 → (t : Bool) → eqb (bucket_at (token_by file kinds) n) b ≡ t
          → get_or (set heads (bucket_at (token_by file kinds) n) (suc n)) b 0
          ≡ cond (eqb (bucket_at (token_by file kinds) n) b) (suc n) (latest (bucket_at (token_by file kinds)) b n)
      each b h true d =
          let q : bucket_at (token_by file kinds) n ≡ b = eqb-true _ _ d in
          rw (d, ← q) (get_or-set_same heads (bucket_at (token_by file kinds) n) (suc n) 0 (omega (arith, k.size)))
      each b h false d =
          rw d (get_or-set_other heads (bucket_at (token_by file kinds) n) b (suc n) 0 (λ q. eqb-false _ _ d (sym q)) ∙ k.last b h)

-- a token is visited
module _ (file words heads : List ℕ) (count n : ℕ) (k : Marked file (kinds_in words) words count n) (hs : Heads file (kinds_in words) heads n)
    (below : n < count) where
  abbrev at : ℕ → Token
  at = token_by file (kinds_in words)

  pub visit-plain : sort_at at n ≡ 0 → Visited file words count n false words heads
  unfolding taken_at
  visit-plain e = record {
    says = rw (eq-eqb (sort_at at n) 0 e);
    next = rw add-one (
      marked-plain file (kinds_in words) words count n k below e,
      heads-plain file (kinds_in words) heads n hs (bucket-none at n e),
      back-plain file (kinds_in words) words count n k below,
    );
  }

  module _ (sort : ℕ) (es : sort ≡ sort_at at n) (some : sort ≡ 0 → ⊥) (x : List ℕ) (ex : x ≡ (at n).content) (h : ℕ)
      (eh : h ≡ hash_of sort x) where
    abbrev sign : ℕ
    sign = sort + h / 4096 * 16

    named : sort_at at n ≡ 0 → ⊥
    named e = some (es ∙ e)

    sort-small : sort < 16
    sort-small = rw es (sort-below at n)

    -- the sign and the bucket are the token's
    sign-is : sign ≡ sign_of sort x
    unfolding sign_of
    sign-is = rw eh

    sign-here : sign ≡ sign_of (sort_at at n) (at n).content
    sign-here = sign-is ∙ rw (es, ex)

    pub sign_small : sign < 4096
    sign_small = rw sign-is (sign_below sort x sort-small)

    sort-back : sign % 16 ≡ sort
    sort-back = ap (λ s. s % 16) sign-is ∙ sign-sort sort x sort-small

    bucket-is : h % 4096 ≡ bucket_of sort x
    unfolding bucket_of
    bucket-is = rw eh

    bucket-here : h % 4096 ≡ bucket_at at n
    bucket-here = bucket-is ∙ rw (es, ex) (sym (bucket-named at n named))

    bucket-small : h % 4096 < 4096
    bucket-small = mod-lt h (omega arith)

    last-here : get_or heads (h % 4096) 0 ≡ latest (bucket_at at) (bucket_of sort x) n
    last-here = hs.last (h % 4096) bucket-small ∙ rw bucket-is

    -- the last row of a bucket is below the token
    pub last-small : get_or heads (h % 4096) 0 ≤ n
    last-small = rw last-here (latest-within (bucket_at at) (bucket_of sort x) n)

    -- what following the bucket asks
    pub follows-from : (sign % 16 ≡ 0 → ⊥) × (sign ≡ sign_of (sign % 16) x)
        × (get_or heads (h % 4096) 0 ≡ latest (bucket_at at) (bucket_of (sign % 16) x) n)
    follows-from = (
      λ z. some (sym sort-back ∙ z),
      sign-is ∙ ap (λ s. sign_of s x) (sym sort-back),
      last-here ∙ ap (λ s. latest (bucket_at at) (bucket_of s x) n) (sym sort-back),
    )

    mark-here : sign + get_or heads (h % 4096) 0 * 4096 ≡ mark_at at n
    mark-here =
        ap (λ s. s + get_or heads (h % 4096) 0 * 4096) sign-here
        ∙ rw (last-here, ← bucket-is, bucket-here) (sym (mark-is at n named))

    module _ (floor : ℕ) (ef : floor ≡ floor_of (scope_at at n) sort) where
      taken_here : taken_at at n ≡ earlier at (sign % 16) x floor n
      unfolding taken_at
      taken_here = rw (sort-back, ne_eqb (sort_at at n) 0 named, ex, ef, es)

      pub visit-taken : true ≡ earlier at (sign % 16) x floor n → Visited file words count n true words heads
      visit-taken e = record { says = e ∙ sym taken_here; next = refl }

      pub visit-new : false ≡ earlier at (sign % 16) x floor n
          → Visited file words count n false (set words (n * 3) (sign + get_or heads (h % 4096) 0 * 4096)) (set heads (h % 4096) (n + 1))
      visit-new e = record {
        says = e ∙ sym taken_here;
        next = rw add-one (
          marked-one file (kinds_in words) words count n k below (sign + get_or heads (h % 4096) 0 * 4096) mark-here,
          subst (λ i. Heads file (kinds_in words) (set heads i (suc n)) (suc n)) (sym bucket-here)
              (heads-one file (kinds_in words) heads n hs (rw (← bucket-here) bucket-small)),
          back_one file (kinds_in words) words count n k below (sign + get_or heads (h % 4096) 0 * 4096) mark-here,
        );
      }

-- the tokens of a file with these kinds, as what is taken and as the marks have them
module _ (file held : List ℕ) (count : ℕ) (h : Holds file held count) (kinds : ℕ → ℕ) where
  abbrev row : List Token
  row = with_kinds kinds 0 (file_tokens file)

  count-row : count ≡ length row
  count-row = count-tokens file held count h ∙ sym (length-kinds kinds 0 (file_tokens file))

  agrees_at : (x : List ℕ) (n : ℕ) → n ≤ count → Agrees (token_by file kinds) x (takes_all nothing (take n row)) (scope_at (token_by file kinds) n) n
  unfolding scope_at
  agrees_at x zero below = agrees-nothing (token_by file kinds) x
  agrees_at x (suc n) below =
      subst (λ s. Agrees (token_by file kinds) x s (passed (scope_at (token_by file kinds) n) (kinds n) (suc n)) (suc n))
      (sym (ap (λ i. takes_all nothing (take i row)) (sym (add-one n)) ∙ takes-next nothing row n nowhere.token (omega (arith, count-row))
      ∙ ap (takes (takes_all nothing (take n row))) (token-by file held count h kinds n (omega arith))))
      (agrees-next (token_by file kinds) x _ _ n (agrees_at x n (omega arith)) refl)

  -- a token is taken, as the marks say
  taken_at_lem : (n : ℕ) → n < count → taken_at (token_by file kinds) n ≡ is_taken (takes_all nothing (take n row)) (get_or row n nowhere.token)
  taken_at_lem n below =
      taken_is (token_by file kinds) _ n (agrees_at (token_at file n).content n (omega arith))
      ∙ ap (is_taken (takes_all nothing (take n row))) (sym (token-by file held count h kinds n below))

-- what is known between two tokens: the tokens passed, with the kinds of the table as it was, repeat nothing, and are marked
pub record Between (file table words heads : List ℕ) (count n : ℕ) (c : Scope) : Type 0 where
  pub within : n ≤ count
  pub clean : Clean nothing (take n (with_kinds (kinds_in table) 0 (file_tokens file)))
  pub scope : c ≡ scope_at (token_by file (kinds_in table)) n
  pub marks : Marked file (kinds_in table) words count n
  pub lasts : Heads file (kinds_in table) heads n
  pub back : unmarked n words ≡ table

module _ (file table words heads : List ℕ) (count n : ℕ) (c : Scope) (b : Between file table words heads count n c) where
  abbrev tokens : List Token
  tokens = with_kinds (kinds_in table) 0 (file_tokens file)

  h : Holds file (held_table file (length words)) count
  h = b.marks.spans.table

  -- the kinds are those of the table as it is
  kinds-now : kinds_in table ≡ kinds_in words
  kinds-now = ap kinds_in (sym b.back) ∙ kinds-unmarked n words

  pub between-visit : Marked file (kinds_in words) words count n × Heads file (kinds_in words) heads n × (c ≡ scope_at (token_by file (kinds_in words)) n)
  between-visit = (
    subst (λ ks. Marked file ks words count n) kinds-now b.marks,
    subst (λ ks. Heads file ks heads n) kinds-now b.lasts,
    subst (λ ks. c ≡ scope_at (token_by file ks) n) kinds-now b.scope,
  )

  pub between-end : count ≤ n → n ≡ first_repeat nothing tokens
  between-end past =
      let end : n ≡ length tokens = omega (arith, b.within, count-row file _ count h (kinds_in table)) in
      end ∙ sym (clean-repeat nothing tokens (rw (take_all n tokens (omega arith)) at b.clean))

  module _ (below : n < count) where
    few : n < length tokens
    few = omega (arith, count-row file _ count h (kinds_in table))

    between_next : (ws hs : List ℕ) → taken_at (token_by file (kinds_in table)) n ≡ false → Marked file (kinds_in table) ws count (n + 1)
        → Heads file (kinds_in table) hs (n + 1) → unmarked (n + 1) ws ≡ unmarked n words
        → Between file table ws hs count (n + 1) (passed c (get_or words (n * 3) 0) (n + 1))
    unfolding scope_at
    between_next ws hs e m k u = record {
      within = omega arith;
      clean = clean-next nothing tokens n nowhere.token few b.clean (sym (taken_at_lem file _ count h (kinds_in table) n below) ∙ e);
      scope = rw (add-one, b.scope, kind-here file (kinds_in table) words count n b.marks below);
      marks = m;
      lasts = k;
      back = u ∙ b.back;
    }

    -- a token was visited
    module _ (r : Bool) (ws hs : List ℕ) (v : Visited file words count n r ws hs) where
      pub between-taken : r ≡ true → (n ≡ first_repeat nothing tokens) × Spans file ws count × (unmarked n ws ≡ table)
      between-taken e =
          let u : Visited file words count n true ws hs = subst (λ t. Visited file words count n t ws hs) e v in
          let t : taken_at (token_by file (kinds_in table)) n ≡ true = rw kinds-now (sym u.says) in (
            sym (repeat-here nothing tokens n nowhere.token few b.clean (sym (taken_at_lem file _ count h (kinds_in table) n below) ∙ t)),
            rw u.next b.marks.spans,
            rw u.next b.back,
          )

      pub between-new : r ≡ false → Between file table ws hs count (n + 1) (passed c (get_or words (n * 3) 0) (n + 1))
      between-new e =
          let u : Visited file words count n false ws hs = subst (λ t. Visited file words count n t ws hs) e v in
          between_next ws hs
          (rw kinds-now (sym u.says))
          (subst (λ ks. Marked file ks ws count (n + 1)) (sym kinds-now) u.next.0)
          (subst (λ ks. Heads file ks hs (n + 1)) (sym kinds-now) u.next.1)
          u.next.2

-- a value is no name or code and opens no scope
sort-value : (inside : Bool) (kind : ℕ) → 7 ≤ kind → name_sort inside kind ≡ 0
unfolding name_sort
sort-value inside kind h =
    rw (ne_eqb kind 6 (λ e. absurd (omega arith)), ne_eqb kind 1 (λ e. absurd (omega arith)), ne_eqb kind 2 (λ e. absurd (omega arith)))

passed-value : (c : Scope) (kind next : ℕ) → 7 ≤ kind → kind < 12 → passed c kind next ≡ c
unfolding passed opens_block
passed-value c kind next h l =
    rw (ne_eqb kind 1 (λ e. absurd (omega arith)), ne_eqb kind 12 (λ e. absurd (omega arith)), ne_eqb kind 2 (λ e. absurd (omega arith)), ne_eqb kind 3 (λ e. absurd (omega arith)))

pub between-value : (file table words heads : List ℕ) (count n : ℕ) (c : Scope) → Between file table words heads count n c → n < count
    → is_value_kind (get_or words (n * 3) 0) ≡ true → Between file table words heads count (n + 1) c
unfolding is_value_kind
between-value file table words heads count n c b below e =
    let kind : ℕ = get_or words (n * 3) 0 in
    let value : 7 ≤ kind = omega (arith, leb-true _ kind (both_left (leb _ kind) (ltb kind _) e)) in
    let most : kind < 12 = omega (arith, ltb-true kind _ (both_right (leb _ kind) (ltb kind _) e)) in
    let k = between-visit file table words heads count n c b in
    let v : Visited file words count n false words heads =
    visit-plain file words heads count n k.0 k.1 below
    (sym (sort-here file (kinds_in words) words count n k.0 below c k.2) ∙ sort-value c.inside (get_or words (n * 3) 0) value) in
    subst (Between file table words heads count (n + 1)) (passed-value c (get_or words (n * 3) 0) (n + 1) value most)
    (between-new file table words heads count n c b below false words heads v refl)

pub between_start : (file words heads : List ℕ) (count : ℕ) → Plain file words count → Heads file (kinds_in words) heads 0
    → Between file words words heads count 0 (record { block = 0; frame = 0; inside = false })
unfolding scope_at unmarked
between_start file words heads count p k = record {
  within = omega arith;
  clean = tt;
  scope = refl;
  marks = marked-none file words count p;
  lasts = k;
  back = refl;
}

-- before the first token every bucket is empty
pub heads-start : (file : List ℕ) (kinds : ℕ → ℕ) → Heads file kinds (replicate 4096 0) 0
unfolding latest
heads-start file kinds = record {
  size = length-replicate {A = ℕ} 4096 0;
  last = λ b h. get_or-replicate {A = ℕ} 4096 b 0 0 h;
}
