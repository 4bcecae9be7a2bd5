-- What reading the tokens of a file answers, by its split.
use mathlib.Core.Path.{◌≡◌, refl, sym, ◌∙◌, ap}
use mathlib.Core.Bool.{Bool, true, false, cond}
use mathlib.Core.List.{List, [], map}
use Prim.Native.Nat.{ℕ}
use lib.ListN.{length}
use Rattle.star_lex.specs.Tokens.{Placed}
use Rattle.star_text.specs.Outcome.{refused, accepted, refusal_of, place_of}
use Rattle.star_lex.specs.Split.{Split, placed}
use Rattle.star_text.proofs.Outcome.{told-refused, told-accepted}
use Rattle.star_lex.specs.Answer.{tokens_in}
use Rattle.star_lex.proofs.Answers.{in-number}
use Rattle.star_lex.proofs.Held.{accepted-tokens}
use Rattle.star_unique.specs.Repeat.{nothing, first_repeat}
use Rattle.star_lex.specs.Holds.{file_tokens}
use Rattle.star_lex.specs.Rules.{layout_rules}
use Rattle.star_grammar.specs.Layout.{today_row, today_from}
use Rattle.star_unique.specs.Compared.{Compared, compared_of}

-- an answer tells the split
pub compared-refused : (layout : ℕ) (s : Split) (r : Compared) → r ≡ compared_of layout s → (r.refusal ≡ 0 → ⊥) → s ≡ refused r.refusal r.place
unfolding compared_of
compared-refused layout s r e f = told-refused s _ _ (ap (λ t. t.refusal) e) (ap (λ t. t.place) e) f

-- a split that is refused
pub none-taken : (layout n place : ℕ) → compared_of layout (refused n place) ≡ record { refusal = n; place = place; count = 0; taken = 0 }
unfolding compared_of refusal_of place_of placed today_row today_from first_repeat
none-taken layout n place = by (layout_rules layout).stop_closes
  where
    none : ℕ → Compared
    none taken = record { refusal = n; place = place; count = 0; taken = taken }

    by : (b : Bool) → none (first_repeat nothing (cond b [] [])) ≡ none 0
    by true = refl
    by false = refl

pub compared-accepted : (layout : ℕ) (file : List ℕ) (words : ℕ) (r : Compared) → r ≡ compared_of layout (tokens_in file words) → r.refusal ≡ 0
    → (ps : List Placed) × (tokens_in file words ≡ accepted ps) × (r.count ≡ length ps) × (r.taken ≡ first_repeat nothing (today_row (layout_rules layout) (file_tokens file)))
unfolding compared_of placed
compared-accepted layout file words r e z =
    let (ps, q) = told-accepted (tokens_in file words) (in-number file words) (sym (ap (λ t. t.refusal) e) ∙ z) in (
      ps,
      q,
      ap (λ t. t.count) e ∙ ap (λ t. length (placed t)) q,
      ap (λ t. t.taken) e ∙ ap (λ t. first_repeat nothing (today_row (layout_rules layout) (map (λ p. p.token) (placed t)))) q
          ∙ ap (λ ts. first_repeat nothing (today_row (layout_rules layout) ts)) (sym (accepted-tokens file words ps q)),
    )
