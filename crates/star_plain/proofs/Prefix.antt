-- The plain form of the first tokens of a row: each token goes behind those before it, within the whole.
use mathlib.Core.Path.{◌≡◌, sym, ◌∙◌, ap}
use mathlib.Core.List.{List, [], ◌∷◌, ◌++◌, flat_map, append-nil}
use Prim.Native.Nat.{ℕ, ◌+◌, ◌≤◌, ◌<◌}
use native.Mathlib.Numerals.{add-one}
use native.Mathlib.Omega.{arith}
use lib.ListN.{length, get_or, take, drop, length-append, take-append-drop}
use lib.Seq.{take-suc}
use Rattle.star_rows.proofs.Stored.{flat_append}
use Rattle.star_lex.specs.Tokens.{Token}
use Rattle.star_lex.specs.Rules.{today}
use Rattle.star_lex.specs.Plain.{plain_token, plain_by, plain_of}

-- the plain form of the first tokens of a row
abbrev pub plain_first : ℕ → List Token → List ℕ
plain_first n ts = plain_of (take n ts)

pub plain-one : (t : Token) → plain_of (t ∷ []) ≡ plain_token today t
unfolding plain_by flat_map
plain-one t = append-nil (plain_token today t)

pub plain-append : (ts us : List Token) → plain_of (ts ++ us) ≡ plain_of ts ++ plain_of us
unfolding plain_by
plain-append = flat_append (plain_token today)

pub plain-next : (n : ℕ) (ts : List Token) (d : Token) → n < length ts → plain_first (n + 1) ts ≡ plain_first n ts ++ plain_token today (get_or ts n d)
plain-next n ts d h = rw (add-one, take-suc ts n d h, plain-append, plain-one)

pub plain-within : (n : ℕ) (ts : List Token) → length (plain_first n ts) ≤ length (plain_of ts)
plain-within n ts =
    let whole : plain_first n ts ++ plain_of (drop n ts) ≡ plain_of ts = sym (plain-append (take n ts) (drop n ts)) ∙ ap plain_of (take-append-drop n ts) in
    omega (arith, simp length-append at (ap length whole))
