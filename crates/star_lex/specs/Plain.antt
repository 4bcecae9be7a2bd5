-- The plain form of a row of tokens: specification 12.1 to 12.3. Believed; `write_of` and the known cases cite it.
use Rattle.std.specs.Prelude.{Bool, false, cond, ◌&&◌, ℕ, eqb}
use mathlib.Core.List.{List, [], ◌∷◌, ◌++◌, flat_map}
use Rattle.star_lex.specs.Rules.{Rules, today}
use Rattle.star_lex.specs.Tokens.{Token, opening}
use Rattle.star_lex.specs.Split.{starts}

-- the last byte is this one
unfoldable pub ends : ℕ → List ℕ → Bool
ends a [] = false
ends a (b ∷ []) = eqb b a
ends a (b ∷ c ∷ bs) = ends a (c ∷ bs)

-- the line end that the writer puts between a text field's content and its closing `;`: 13, 10 where the content ends in 13, which a 10 alone would take
unfoldable pub newline : (rules : Rules) (content : List ℕ) → List ℕ
newline rules content = cond (rules.pairs && ends 13 content) (13 ∷ 10 ∷ []) (10 ∷ [])

-- what stands after a token's content: a quote, or a line end and `;`
unfoldable pub closing : (rules : Rules) (kind : ℕ) (content : List ℕ) → List ℕ
closing rules kind content =
    cond (eqb kind 9) (39 ∷ []) (cond (eqb kind 10) (34 ∷ []) (cond (eqb kind 11) (newline rules content ++ (59 ∷ [])) []))

-- a kind 7 word that begins with `;` gets one blank before it
unfoldable pub indent : Token → List ℕ
indent t = cond (eqb t.kind 7 && starts 59 t.content) (32 ∷ []) []

-- a token in its own kind and delimiters, followed by one byte 10
unfoldable pub plain_token : (rules : Rules) → Token → List ℕ
plain_token rules t = indent t ++ (opening t.kind ++ (t.content ++ (closing rules t.kind t.content ++ (10 ∷ []))))

-- the tokens in order
unfoldable pub plain_by : (rules : Rules) → List Token → List ℕ
plain_by rules ts = flat_map (plain_token rules) ts

-- by today's rules
abbrev pub plain_of : List Token → List ℕ
plain_of ts = plain_by today ts
