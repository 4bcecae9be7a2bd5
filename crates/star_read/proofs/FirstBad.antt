-- The first bad token of a file whose tokens fit table 1: the verdict's token is the only one that begins no file while those before it do, and its
-- number is the one that the machine gives there.
use mathlib.Core.Path.{◌≡◌, refl, sym, ap, ◌∙◌, subst}
use mathlib.Core.List.{List, [], ◌∷◌, ◌++◌, map-append, append-nil}
use Prim.Native.Nat.{ℕ}
use lib.ListN.{length}
use lib.Seq.{append_snoc}
use Rattle.star_text.specs.Outcome.{refused}
use Rattle.star_lex.specs.Rules.{Rules}
use Rattle.star_lex.specs.Tokens.{Placed, Each}
use Rattle.star_lex.proofs.Formed.{FormedBy}
use Rattle.star_lex.proofs.Cases.{impossible}
use Rattle.star_lex.proofs.Each.{each_append}
use Rattle.star_grammar.specs.Machine.{start}
use Rattle.star_grammar.specs.Tables.{no_rows}
use Rattle.star_grammar.specs.Layout.{today_row}
use Rattle.star_grammar.proofs.Images.{row_image, row_snoc}
use Rattle.star_grammar.proofs.Walking.{Walks, walks-first}
use Rattle.star_read.specs.Read.{ReadOutcome, Sizes, tokens_only}
use Rattle.star_read.specs.Demands.{Usable, Begins, Tokenized, NumberAt, Bad}
use Rattle.star_read.proofs.Begin.{begins-first, walks-shape}
use Rattle.star_read.proofs.Verdict.{Verdict}
use Rattle.star_read.proofs.FairFile.{taken-begins, halted-begins, part-formed, part-begins}
use Rattle.star_read.proofs.Numbers.{number-end, number-token, numbers-exclude, end-numbers-exclude}

-- a list has one place at most up to which a property of first parts holds
pub one_place : (B : List Placed → Type 0) → ((p q : List Placed) → B (p ++ q) → B p) → (p : List Placed) (t : Placed) (q p' : List Placed) (t' : Placed) (q' : List Placed)
    → p ++ (t ∷ q) ≡ p' ++ (t' ∷ q') → B p → (B (p ++ (t ∷ [])) → ⊥) → B p' → (B (p' ++ (t' ∷ [])) → ⊥) → (p ≡ p') × (t ≡ t')
one_place B first [] t q [] t' q' e b n b' n' = (refl, (cc))
one_place B first [] t q (x ∷ p') t' q' e b n b' n' = let h : t ≡ x = cc in absurd (n (first (t ∷ []) p' (rw h b')))
one_place B first (x ∷ p) t q [] t' q' e b n b' n' = let h : t' ≡ x = cc in absurd (n' (first (t' ∷ []) p (rw h b)))
one_place B first (x ∷ p) t q (y ∷ p') t' q' e b n b' n' =
    let h : x ≡ y = cc in
    let k : (p ≡ p') × (t ≡ t') = one_place (λ l. B (x ∷ l)) (λ l m. first (x ∷ l) m) p t q p' t' q' (cc) b n (rw h b') (rw h n') in
    ((cc k.0), k.1)

module _ (rules : Rules) where
  pub begins-part : (p q : List Placed) → Begins rules (tokens_only (p ++ q)) → Begins rules (tokens_only p)
  begins-part p q b = begins-first rules (tokens_only p) (tokens_only q) (rw map-append at b)

  module _ (ps p : List Placed) (t : Placed) (q : List Placed) (e : ps ≡ p ++ (t ∷ q)) where
    pub next-begins : Begins rules (tokens_only ps) → Begins rules (tokens_only (p ++ (t ∷ [])))
    next-begins b = begins-part (p ++ (t ∷ [])) q (rw (e ∙ sym (append_snoc p t q)) at b)

  module _ (usable : Usable rules) (file : List ℕ) (words : Sizes) (ps : List Placed) (f : Tokenized rules file words ps) where
    formed-at : (p : List Placed) (t : Placed) (q : List Placed) → ps ≡ p ++ (t ∷ q) → Each (FormedBy rules) (tokens_only p ++ (t.token ∷ []))
    formed-at p t q e = rw map-append at (part-formed rules usable file words ps f (p ++ (t ∷ [])) q (e ∙ sym (append_snoc p t q)))

    -- a verdict that refuses names the first bad token
    pub verdict-bad : (n place : ℕ) (o : ReadOutcome) → Verdict rules ps (length file) o → o ≡ refused n place → Bad rules file ps n place
    verdict-bad n place o (Verdict.reads rows e c) d = impossible cc
    verdict-bad n place o (Verdict.repeats i p t q e l c w k) d =
        let m : 9 ≡ n = cc in
        let h : i ≡ place = cc in
        rw (← m, ← h, l)
        (Bad.token 9 p t q e (part-begins rules usable file words ps f p (t ∷ q) e
        (walks-first rules (today_row rules (tokens_only p)) (row_image rules (tokens_only p) t.token ∷ []) start no_rows
        (subst (λ xs. Walks rules start xs no_rows) (row_snoc rules (tokens_only p) t.token) w)) c) (taken-begins rules p t k)
        (NumberAt.taken (walks-shape rules usable (tokens_only p ++ (t.token ∷ [])) (formed-at p t q e) w)))
    verdict-bad n place o (Verdict.halts j i p t q e l c st r w k) d =
        let m : j ≡ n = cc in
        let h : i ≡ place = cc in
        rw (← m, ← h, l)
        (Bad.token j p t q e (part-begins rules usable file words ps f p (t ∷ q) e (st, r, w) c) (halted-begins rules j p t st r w k)
        (number-token rules usable (tokens_only p) (part-formed rules usable file words ps f p (t ∷ q) e) st r w t.token
        ((each_append (FormedBy rules) (tokens_only p) (t.token ∷ [])).0 (formed-at p t q e)).1.0 j k))
    verdict-bad n place o (Verdict.ends j i h l c st r w k) d =
        let m : j ≡ n = cc in
        let g : i ≡ place = cc in
        rw (← m, ← g, l)
        (Bad.end j (part-begins rules usable file words ps f ps [] (sym (append-nil ps)) (st, r, w) c)
        (number-end rules usable (tokens_only ps) (part-formed rules usable file words ps f ps [] (sym (append-nil ps))) st r w j h k))

  -- there is one first bad token
  pub bad-once : {file : List ℕ} {ps : List Placed} {n place m other : ℕ} → Bad rules file ps n place → Bad rules file ps m other → (n ≡ m) × (place ≡ other)
  bad-once (Bad.token n p t q e b k h) (Bad.token m p' t' q' e' b' k' h') =
      let s : (p ≡ p') × (t ≡ t') = one_place (λ l. Begins rules (tokens_only l)) begins-part p t q p' t' q' (sym e ∙ e') b k b' k' in
      (numbers-exclude h (rw (← s.0, ← ap (λ u. u.token) s.1) at h'), ap (λ u. u.at) s.1)
  bad-once (Bad.token n p t q e b k h) (Bad.end m b' h') = absurd (k (next-begins _ p t q e b'))
  bad-once (Bad.end n b h) (Bad.token m p t q e b' k h') = absurd (k (next-begins _ p t q e b))
  bad-once (Bad.end n b h) (Bad.end m b' h') = (end-numbers-exclude h h', refl)
