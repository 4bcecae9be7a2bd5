-- What is said of the split by the line ends of 2.2: statements alone. Believed; star's Demands and star_read's cite them.
use Rattle.std.specs.Prelude.{◌≡◌, Bool, true, cond, not, ◌&&◌, List, [], ◌∷◌, map, ℕ, eqb}
use Rattle.star_text.specs.Outcome.{accepted}
use Rattle.star_lex.specs.Rules.{Rules, unpaired}
use Rattle.star_lex.specs.Tokens.{Token, Placed}
use Rattle.star_lex.specs.Split.{starts, tokens_by}

-- no 13 is directly followed by 10
unfoldable pub no_pair : List ℕ → Bool
no_pair [] = true
no_pair (b ∷ bs) = not (eqb b 13 && starts 10 bs) && no_pair bs

-- a file without such a pair splits as it did when each of 10, 12 and 13 was one line end by itself
abbrev pub NoPairAsBefore : Type 0
NoPairAsBefore = (rules : Rules) (file : List ℕ) → no_pair file ≡ true → tokens_by rules file ≡ tokens_by (unpaired rules) file

-- the bytes as Windows writes them: 13, 10 for each 10
unfoldable pub windows : List ℕ → List ℕ
windows [] = []
windows (b ∷ bs) = cond (eqb b 10) (13 ∷ 10 ∷ windows bs) (b ∷ windows bs)

-- a token of such a file: only the content of a text field has line ends
unfoldable pub windows_token : Token → Token
windows_token t = record { kind = t.kind; content = cond (eqb t.kind 11) (windows t.content) t.content }

-- as Windows writes it, a file has the tokens that it has with 10 alone, but for the line ends within text fields
abbrev pub WindowsSplits : Type 0
WindowsSplits = (rules : Rules) → rules.pairs ≡ true → (file : List ℕ) → no_pair file ≡ true → (ps : List Placed) → tokens_by rules file ≡ accepted ps
    → (qs : List Placed) × (tokens_by rules (windows file) ≡ accepted qs) × (map (λ p. p.token) qs ≡ map windows_token (map (λ p. p.token) ps))
