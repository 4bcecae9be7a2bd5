-- How long a token's plain form is: at most ten bytes stand around its content.
use mathlib.Core.Path.{◌≡◌, refl}
use mathlib.Core.Bool.{Bool, true, false, cond}
use mathlib.Core.List.{List, [], ◌∷◌, ◌++◌}
use Prim.Native.Nat.{ℕ, ◌+◌, ◌≤◌}
use native.Mathlib.Omega.{arith}
use borrow.Author.Tests.{leb-true}
use lib.Dec.{leb}
use lib.ListN.{length, length-append}
use Rattle.star_text.proofs.Cases.{cond-by}
use Rattle.star_lex.specs.Rules.{today}
use Rattle.star_lex.specs.Tokens.{Token, opening, data_word, save_word}
use Rattle.star_lex.specs.Plain.{ends, newline, closing, indent, plain_token}

short-cond : (most : ℕ) (b : Bool) (xs ys : List ℕ) → leb (length xs) most ≡ true → leb (length ys) most ≡ true
    → leb (length (cond b xs ys)) most ≡ true
short-cond most true xs ys h g = h
short-cond most false xs ys h g = g

pub short-opening : (kind : ℕ) → length (opening kind) ≤ 5
unfolding opening data_word save_word
short-opening kind = leb-true _ _ (search short-cond depth 8)

short-newline : (content : List ℕ) → leb (length (newline today content ++ 59 ∷ [])) 3 ≡ true
unfolding newline
short-newline content = cond-by (λ (z : List ℕ). leb (length (z ++ 59 ∷ [])) 3 ≡ true) (ends 13 content) _ _ (λ e. refl) (λ e. refl)

pub short-closing : (kind : ℕ) (content : List ℕ) → length (closing today kind content) ≤ 3
unfolding closing
short-closing kind content = leb-true _ _ (search (short-cond, short-newline content) depth 8)

pub short-indent : (t : Token) → length (indent t) ≤ 1
unfolding indent
short-indent t = leb-true _ _ (search short-cond depth 8)

pub length-plain : (t : Token)
    → length (plain_token today t) ≡ length (indent t) + length (opening t.kind) + length t.content + length (closing today t.kind t.content) + 1
unfolding plain_token
length-plain t = simp length-append (omega arith)

pub short-plain : (t : Token) → length (plain_token today t) ≤ length t.content + 10
short-plain t = omega (arith, length-plain t, short-indent t, short-opening t.kind, short-closing t.kind t.content)
