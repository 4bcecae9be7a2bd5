-- Tokens: specification 3.7, 3.13 and 7.2. Believed; all that speaks of tokens cites it.
use Rattle.std.specs.Prelude.{cond, List, [], ◌∷◌, ℕ, ◌+◌, eqb, length}

-- a token without its place: its kind, 1 to 12, and its content
pub record Token : Type 0 where
  pub kind : ℕ
  pub content : List ℕ

-- every one of a list has the property
abbrev pub Each {ℓ} : {A : Type ℓ} → (A → Type 0) → List A → Type 0
Each P [] = Unit {0}
Each P (x ∷ xs) = P x × Each P xs

-- a token of a file: the offset of its first byte, and the token
pub record Placed : Type 0 where
  pub at : ℕ
  pub token : Token

-- the words `data_`, `save_`, `loop_`, `stop_`, `global_`
unfoldable pub data_word : List ℕ
data_word = 100 ∷ 97 ∷ 116 ∷ 97 ∷ 95 ∷ []

unfoldable pub save_word : List ℕ
save_word = 115 ∷ 97 ∷ 118 ∷ 101 ∷ 95 ∷ []

unfoldable pub loop_word : List ℕ
loop_word = 108 ∷ 111 ∷ 111 ∷ 112 ∷ 95 ∷ []

unfoldable pub stop_word : List ℕ
stop_word = 115 ∷ 116 ∷ 111 ∷ 112 ∷ 95 ∷ []

unfoldable pub global_word : List ℕ
global_word = 103 ∷ 108 ∷ 111 ∷ 98 ∷ 97 ∷ 108 ∷ 95 ∷ []

-- what stands before a token's content: `data_`, `save_`, `$`, a quote, `;`
unfoldable pub opening : ℕ → List ℕ
opening kind =
    cond (eqb kind 1) data_word
    (cond (eqb kind 2) save_word
    (cond (eqb kind 8) (36 ∷ []) (cond (eqb kind 9) (39 ∷ []) (cond (eqb kind 10) (34 ∷ []) (cond (eqb kind 11) (59 ∷ []) [])))))

-- a row of table 1: kind, start and end of content
unfoldable pub token_row : Placed → List ℕ
token_row p =
    let start : ℕ = p.at + length (opening p.token.kind) in
    p.token.kind ∷ start ∷ (start + length p.token.content) ∷ []
