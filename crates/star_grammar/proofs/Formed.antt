-- Well-formed tokens are as files have them, and what completes a file is well formed: its kinds and words are known.
use mathlib.Core.Path.{◌≡◌, refl}
use mathlib.Core.Bool.{Bool, true, false, cond}
use mathlib.Core.List.{List, [], ◌∷◌}
use Prim.Native.Nat.{ℕ, zero, suc, ◌≤◌}
use native.Mathlib.Omega.{arith}
use lib.Dec.{eqb}
use Rattle.star_text.specs.Bytes.{is_printable, all}
use Rattle.star_lex.specs.Rules.{Rules}
use Rattle.star_lex.specs.Tokens.{Token, Each, data_word, save_word, loop_word, stop_word, global_word}
use Rattle.star_lex.specs.Split.{after}
use Rattle.star_lex.proofs.Formed.{FormedBy}
use Rattle.star_lex.proofs.Formed as WellFormed
use Rattle.star_lex.proofs.Each.{each_append, each-implies}
use Rattle.star_grammar.specs.Tree.{frame_end, stop}
use Rattle.star_grammar.specs.Machine.{State, start, within, named, header, body}
use Rattle.star_grammar.proofs.Rest.{Fixed, zero_word, naming, ending, completion}
use Rattle.star_grammar.specs.Layout.{old_token, old_row, layout_row}
use Rattle.star_grammar.proofs.Alive.{each-ending}

-- a kind that fixes no content
fixed-other : (kind : ℕ) (content : List ℕ) → (1 ≤ kind) × (kind ≤ 12) × (kind ≡ 3 → ⊥) × (kind ≡ 4 → ⊥) × (kind ≡ 5 → ⊥)
    → Fixed (record { kind = kind; content = content })
fixed-other kind content h = record {
  least = h.0;
  most = h.1;
  save-is = λ e. absurd (h.2 e);
  loop-is = λ e. absurd (h.3 e);
  stop_is = λ e. absurd (h.4 e);
}

pub formed-fixed : {rules : Rules} {t : Token} → FormedBy rules t → Fixed t
formed-fixed (WellFormed.block x xs e h) = fixed-other 1 (x ∷ xs) (omega arith)
formed-fixed (WellFormed.frame x xs e h) = fixed-other 2 (x ∷ xs) (omega arith)
formed-fixed WellFormed.frame_end =
    record { least = omega arith; most = omega arith; save-is = λ e. refl; loop-is = λ e. absurd (omega arith); stop_is = λ e. absurd (omega arith) }
formed-fixed WellFormed.loop =
    record { least = omega arith; most = omega arith; save-is = λ e. absurd (omega arith); loop-is = λ e. refl; stop_is = λ e. absurd (omega arith) }
formed-fixed WellFormed.stop =
    record { least = omega arith; most = omega arith; save-is = λ e. absurd (omega arith); loop-is = λ e. absurd (omega arith); stop_is = λ e. refl }
formed-fixed (WellFormed.name x xs e h) = fixed-other 6 (95 ∷ x ∷ xs) (omega arith)
formed-fixed (WellFormed.word x xs e o) = fixed-other 7 (x ∷ xs) (omega arith)
formed-fixed (WellFormed.reference x xs e) = fixed-other 8 (x ∷ xs) (omega arith)
formed-fixed (WellFormed.single c a e) = fixed-other 9 c (omega arith)
formed-fixed (WellFormed.double c a e) = fixed-other 10 c (omega arith)
formed-fixed (WellFormed.text c a e) = fixed-other 11 c (omega arith)
formed-fixed WellFormed.global = fixed-other 12 global_word (omega arith)

pub each-fixed : (rules : Rules) (ts : List Token) → Each (FormedBy rules) ts → Each Fixed ts
each-fixed rules = each-implies (FormedBy rules) Fixed (λ t h. formed-fixed h)

formed-zero : (rules : Rules) → FormedBy rules zero_word
unfolding zero_word all is_printable after data_word save_word loop_word stop_word global_word
formed-zero rules = WellFormed.word 48 [] refl (record {
  no-comment = refl;
  no-quote = refl;
  no-double = refl;
  no_name = refl;
  no-reference = λ e. refl;
  no-data = refl;
  no-save = refl;
  no_loop = refl;
  no_stop = refl;
  no-global = refl;
})

formed-stop : (rules : Rules) → FormedBy rules stop
unfolding stop
formed-stop rules = WellFormed.stop

formed-end : (rules : Rules) → FormedBy rules frame_end
unfolding frame_end
formed-end rules = WellFormed.frame_end

formed-naming : (rules : Rules) (st : State) (x : Token) → FormedBy rules x → Each (FormedBy rules) (naming st x)
formed-naming rules start x h = tt
formed-naming rules (within w) x h = tt
formed-naming rules (named w) x h = tt
formed-naming rules (header w first before zero s) x h = (h, tt)
formed-naming rules (header w first before (suc n) s) x h = tt
formed-naming rules (body w outer l inner f) x h = tt

pub formed-completion : (rules : Rules) (st : State) (x : Token) → FormedBy rules x → Each (FormedBy rules) (completion st x)
formed-completion rules st x h =
    (each_append (FormedBy rules) (naming st x) (ending st)).1
    (formed-naming rules st x h, each-ending (FormedBy rules) (formed-zero rules) (formed-stop rules) (formed-end rules) st)

-- what is well formed is so in the layout of the rules
formed-old : (rules : Rules) (t : Token) → FormedBy rules t → FormedBy rules (old_token t)
unfolding old_token
formed-old rules t h = by (eqb t.kind 3)
  where
    by : (b : Bool) → FormedBy rules (cond b stop t)
    by true = formed-stop rules
    by false = h

each-old : (rules : Rules) (ts : List Token) → Each (FormedBy rules) ts → Each (FormedBy rules) (old_row ts)
unfolding old_row
each-old rules [] h = tt
each-old rules (t ∷ ts) h = (formed-old rules t h.0, each-old rules ts h.1)

pub formed-by : (rules : Rules) (ts : List Token) → Each (FormedBy rules) ts → Each (FormedBy rules) (layout_row rules ts)
unfolding layout_row
formed-by rules ts h = by rules.stop_closes
  where
    by : (b : Bool) → Each (FormedBy rules) (cond b (old_row ts) ts)
    by true = each-old rules ts h
    by false = h
