-- What the row of a token holds after acceptance, beside its content: its kind, and where its content lies.
use mathlib.Core.Path.{◌≡◌, sym, ◌∙◌, ap}
use mathlib.Core.List.{List, [], map-map}
use Prim.Native.Nat.{ℕ, ◌-◌}
use native.Mathlib.Nat.{add-zero}
use native.Mathlib.Omega.{arith}
use lib.ListN.{length, get_or, get_or-map}
use Rattle.star_text.specs.Outcome.{accepted}
use Rattle.star_rows.specs.Rows.{holding, word_of}
use Rattle.star_rows.proofs.Held.{held_word}
use Rattle.star_rows.proofs.Words.{word_row}
use Rattle.star_lex.specs.Tokens.{Placed, token_row}
use Rattle.star_lex.proofs.Splitting.{row-wide}
use Rattle.star_lex.proofs.Held.{nowhere}
use Rattle.star_grammar.specs.Tables.{Rows}
use Rattle.star_grammar.proofs.RowsOf.{IsToken}
use Rattle.star_read.specs.Read.{Sizes, tokens_only, Way, read_via}
use Rattle.star_find.specs.Demands.{content_of}
use Rattle.star_find.proofs.After.{token-row, token-at}
use Rattle.star_value.specs.Values.{span_at}
use Rattle.star_value.specs.Demands.{token_kind, span_of}

kind_at : (ps : List Placed) (row : ℕ) → (get_or (tokens_only ps) (row - 1) (record { kind = 0; content = [] })).kind ≡ token_kind ps row
unfolding token_kind
kind_at ps row =
    sym (get_or-map (λ t. t.kind) (tokens_only ps) (row - 1) (record { kind = 0; content = [] }))
    ∙ ap (λ ks. get_or ks (row - 1) 0) (map-map (λ t. t.kind) (λ p. p.token) ps)

module _ (way : Way) (file : List ℕ) (words : Sizes) (ps : List Placed) (rows : Rows) (e : read_via way file words ≡ accepted (ps, rows)) (row : ℕ) (is : IsToken (length ps) row) where
  pub token-kind : word_of (holding token_row ps words.tokens) 3 row 0 ≡ token_kind ps row
  token-kind = rw (word_row (holding token_row ps words.tokens) 3 row 0 is.0, add-zero, (token-row way file words ps rows e row is).kind, token-at way file words ps rows e row is, kind_at)

  -- and its span
  pub token-span : span_at (holding token_row ps words.tokens) row ≡ span_of ps row
  unfolding span_at span_of token_row token_kind content_of
  token-span =
      rw (
        word_row (holding token_row ps words.tokens) 3 row 1 is.0,
        word_row (holding token_row ps words.tokens) 3 row 2 is.0,
        held_word 3 token_row row-wide nowhere ps words.tokens (row - 1) 1 (omega (arith, is.0, is.1)) (omega arith),
        held_word 3 token_row row-wide nowhere ps words.tokens (row - 1) 2 (omega (arith, is.0, is.1)) (omega arith),
        get_or-map (λ p. p.at) ps (row - 1) nowhere,
        get_or-map (λ p. p.token.kind) ps (row - 1) nowhere,
        get_or-map (λ p. p.token.content) ps (row - 1) nowhere,
      )
