-- What the numbers of a run and of a table tell: the place of a token from its row, and which of the checks of the grammar and of the room
-- decides.
use mathlib.Core.Path.{◌≡◌, refl, sym, ◌∙◌}
use mathlib.Core.Logic.{inl, inr}
use mathlib.Core.Bool.{Bool, true, false}
use mathlib.Core.List.{List, [], ◌∷◌}
use Prim.Native.Nat.{ℕ, zero, suc, ◌≤◌, ◌<◌}
use native.Mathlib.Omega.{arith}
use borrow.Author.Tests.{lt-ltb, le-ltb}
use lib.ListN.{length, get_or}
use Rattle.star_text.specs.Outcome.{Outcome, accepted, then, need, refusal_of, place_of}
use Rattle.star_rows.specs.Widths.{set_width, name_width, packet_width, value_width}
use Rattle.star_rows.specs.Rows.{has_room}
use Rattle.star_lex.specs.Rules.{Rules}
use Rattle.star_lex.specs.Tokens.{Token, Placed}
use Rattle.star_lex.specs.Split.{placed, tokens_of}
use Rattle.star_grammar.specs.Tables.{Rows}
use Rattle.star_grammar.specs.Machine.{State, Run, bad, good, run}
use Rattle.star_parse.specs.Parsed.{Parsed}
use Rattle.star_grammar.proofs.Walking.{Halts, bad-halts}
use Rattle.star_grammar.proofs.Refusals.{Refusal, refusal, EndRefusal, end-refusal}
use Rattle.star_lex.specs.Holds.{Holds}
use Rattle.star_lex.specs.Table.{first_byte}
use Rattle.star_lex.proofs.Held.{nowhere, held_first}
use Rattle.star_read.specs.Read.{FileRows, Sizes, token_place, decide, room_for, rows_fit}
use Rattle.star_read.specs.Judged.{Known, Numbered, judged_of, Ran}

place_in : (size : ℕ) (ps : List Placed) (n : ℕ) → n < length ps → token_place size ps n ≡ (get_or ps n nowhere).at
unfolding token_place
place_in size [] n h = absurd (omega arith)
place_in size (p ∷ ps) zero h = refl
place_in size (p ∷ ps) (suc n) h = place_in size ps n (omega arith)

pub place-over : (size : ℕ) (ps : List Placed) (n : ℕ) → length ps ≤ n → token_place size ps n ≡ size
unfolding token_place
place-over size [] n h = refl
place-over size (p ∷ ps) zero h = absurd (omega arith)
place-over size (p ∷ ps) (suc n) h = place-over size ps n (omega arith)

-- the first byte of a token of the file
pub place-held : (file words : List ℕ) (count : ℕ) → Holds file words count → (n : ℕ) → n < count
    → first_byte words n ≡ token_place (length file) (placed (tokens_of file)) n
place-held file words count h n below =
    held_first file words count h n below ∙ sym (place_in (length file) (placed (tokens_of file)) n (omega (arith, h.count_is)))

refusal-number : {rules : Rules} {st : State} {k : _} {r : Rows} {n : ℕ} → Refusal rules st k r n → Known n
refusal-number (Refusal.retired s u e) = inr refl
refusal-number (Refusal.deep d more h s u e) = inl (omega arith, omega arith)
refusal-number (Refusal.packet i e) = inl (omega arith, omega arith)
refusal-number (Refusal.other i e) = inl (omega arith, omega arith)

end-number : {st : State} {n : ℕ} → EndRefusal st n → Known n
end-number (EndRefusal.packet i) = inl (omega arith, omega arith)
end-number (EndRefusal.other i) = inl (omega arith, omega arith)

-- a known number is not 0
pub known-some : (n : ℕ) → Known n → n ≡ 0 → ⊥
known-some n (inl h) z = omega arith
known-some n (inr h) z = omega arith

-- a run that refuses has a number
pub run-number : (rules : Rules) (st : State) (ts : List Token) (r : Rows) → Numbered (run rules st ts r)
run-number rules st ts r n i e = go (bad-halts rules ts st r n i e)
  where
    go : Halts rules st ts r n i → Known n
    go (Halts.token p t q s u a b c d) = refusal-number (refusal rules s _ u n c)
    go (Halts.end s u a b) = end-number (end-refusal s u n i b)

-- what the room decides does not look at what is accepted
room-any : {A B : Type 0} (s n p v : ℕ) (w : Sizes) (a : A) (b : B) → judged_of (room_for s n p v w (accepted a)) ≡ judged_of (room_for s n p v w (accepted b))
unfolding room_for need judged_of refusal_of place_of
room-any s n p v w a b =
    by_tests (has_room s set_width w.sets) (has_room n name_width w.names) (has_room p packet_width w.packets) (has_room v value_width w.values)
  where
    chain : {C : Type 0} → Bool → Bool → Bool → Bool → C → Outcome C
    chain c d e f x = need c 7 2 (need d 7 3 (need e 7 4 (need f 7 5 (accepted x))))

    by_tests : (c d e f : Bool) → judged_of (chain c d e f a) ≡ judged_of (chain c d e f b)
    by_tests false d e f = refl
    by_tests true false e f = refl
    by_tests true true false f = refl
    by_tests true true true false = refl
    by_tests true true true true = refl

room-counts : {A : Type 0} {s n p v s' n' p' v' : ℕ} (w : Sizes) (o : Outcome A) → s ≡ s' → n ≡ n' → p ≡ p' → v ≡ v'
    → judged_of (room_for s' n' p' v' w o) ≡ judged_of (room_for s n p v w o)
room-counts w o a b c d = rw (a, b, c, d)

module _ (w : Sizes) (size : ℕ) (ps : List Placed) (taken : ℕ) (r : Parsed) where
  pub judge-repeat : (x : Run) → Ran x (length ps) r → taken < r.tokens
      → judged_of (then (decide size ps taken x) (rows_fit w)) ≡ record { refusal = 9; place = token_place size ps taken }
  unfolding decide then judged_of refusal_of place_of
  judge-repeat (bad n i) a h = rw (lt-ltb taken i (omega arith))
  judge-repeat (good rows) a h = rw (lt-ltb taken (length ps) (omega arith))

  pub judge-bad : (x : Run) → Ran x (length ps) r → r.tokens ≤ taken → (r.refusal ≡ 0 → ⊥)
      → judged_of (then (decide size ps taken x) (rows_fit w)) ≡ record { refusal = r.refusal; place = token_place size ps r.tokens }
  unfolding decide then judged_of refusal_of place_of
  judge-bad (bad n i) a h f = rw (le-ltb taken i (omega arith), a.0, a.1)
  judge-bad (good rows) a h f = absurd (f a.0)

pub judge-room : (w : Sizes) (size : ℕ) (ps : List Placed) (taken : ℕ) (r : Parsed) (x : Run) → Numbered x
    → Ran x (length ps) r → r.tokens ≤ taken → r.refusal ≡ 0
    → judged_of (then (decide size ps taken x) (rows_fit w)) ≡ judged_of (room_for r.sets r.names r.packets r.values w (accepted r))
unfolding decide then rows_fit
judge-room w size ps taken r (bad m i) f a h e = absurd (known-some m (f m i refl) (sym a.0 ∙ e))
judge-room w size ps taken r (good rows) f a h e =
    rw (le-ltb taken (length ps) (omega arith))
    (room-any {A = FileRows} (length rows.sets) (length rows.names) (length rows.packets) (length rows.values) w (ps, rows) r
    ∙ room-counts w (accepted r) a.2 a.3 a.4 a.5)
