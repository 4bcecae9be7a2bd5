-- Which of 8 to 11 and 16 is given: the number of the first bad token, which is the only one. At `global_` it is 8 or 10, since names, codes and levels
-- decide nothing there; and so at a `save_` alone where `stop_` closes frames, which stands in no file.
use mathlib.Core.Path.{◌≡◌, refl, sym, ap, ◌∙◌, subst}
use mathlib.Core.List.{List, [], ◌∷◌, ◌++◌, map-append}
use mathlib.Core.Bool.{true}
use mathlib.Core.Logic.{◌⊎◌, inl, inr}
use Prim.Native.Nat.{ℕ, ◌+◌}
use native.Mathlib.Omega.{arith}
use lib.Seq.{append_snoc}
use Rattle.star_lex.specs.Rules.{Rules, at_levels, at_stops}
use Rattle.star_lex.specs.Tokens.{Token, Placed, Each}
use Rattle.star_lex.proofs.Each.{each_append}
use Rattle.star_grammar.specs.Tree.{File, frame_end, frame_close, file_yield, FileBy}
use Rattle.star_grammar.proofs.Yields.{file-old}
use Rattle.star_grammar.specs.Tables.{Rows, no_rows}
use Rattle.star_grammar.specs.Machine.{Sort, State, start, within, named, header, body, Step, go, refuse, header_step, step, walk}
use Rattle.star_grammar.specs.Layout.{today_row}
use Rattle.star_grammar.proofs.Images.{row_image, row_snoc, same-image, row-stops, any-row}
use Rattle.star_grammar.proofs.Sorts.{sort-global, step-sort}
use Rattle.star_grammar.proofs.Walking.{Walks, walk_step, halted}
use Rattle.star_grammar.proofs.Limits.{walk-limit, walks-limit, walk-stops}
use Rattle.star_unique.specs.Repeat.{nothing}
use Rattle.star_unique.proofs.Seen.{takes_all}
use Rattle.star_unique.proofs.Clean.{Clean, clean-append}
use Rattle.star_unique.proofs.Names.{other-taken}
use Rattle.star_text.specs.Outcome.{refused}
use Rattle.star_read.specs.Read.{Sizes, tokens_only, read_by}
use Rattle.star_read.specs.Demands.{Begins, BeginsShape, Fair, NumberAt, NumberAtEnd, RefusalNumber, NumbersExclude, GlobalNumber, SaveNumber, Bad}
use Rattle.star_read.proofs.Begin.{begins-walks, begins-clean, shape-walks}
use Rattle.star_read.proofs.FairFile.{row_next, part-begins}
use Rattle.star_read.proofs.Numbers as Numbers
use Rattle.star_read.proofs.FirstBad.{one_place, begins-part, next-begins}
use Rattle.star_read.proofs.Demand3.{fair-bad}
use Rattle.star_read.proofs.Places.{NotEnd, old-none}

-- the number of a file's first bad token, or of its end
abbrev NumberOf : (rules : Rules) → List Placed → ℕ → Type 0
NumberOf rules ps n =
    ((p : List Placed) (t : Placed) (q : List Placed) → ps ≡ p ++ (t ∷ q) → Begins rules (tokens_only p)
    → (Begins rules (tokens_only (p ++ (t ∷ []))) → ⊥) → NumberAt rules (tokens_only p) t.token n)
    × (Begins rules (tokens_only ps) → NumberAtEnd rules (tokens_only ps) n)

bad-number : (rules : Rules) (file : List ℕ) (ps : List Placed) (n place : ℕ) → Bad rules file ps n place → NumberOf rules ps n
bad-number rules file ps _ _ (Bad.token n p t q e b k h) = (
  λ p' t' q' e' b' k'.
      let s : (p ≡ p') × (t ≡ t') = one_place (λ l. Begins rules (tokens_only l)) (begins-part rules) p t q p' t' q' (sym e ∙ e') b k b' k' in
      rw (← s.0, ← s.1) h,
  λ a. absurd (k (next-begins rules ps p t q e a)),
)
bad-number rules file ps _ _ (Bad.end n b h) = (λ p t q e a k. absurd (k (next-begins rules ps p t q e b)), λ a. h)

pub refusal-number : RefusalNumber
refusal-number rules usable file words ps f n place e = bad-number rules file ps n place (fair-bad rules usable file words ps f n place e)

pub numbers-exclude : NumbersExclude
numbers-exclude rules = (λ p t m n a b. Numbers.numbers-exclude a b, λ p m n a b. Numbers.end-numbers-exclude a b)

-- a step at `global_` asks for no rules
global-step : (rules others : Rules) (st : State) (r : Rows) → step others st Sort.global r ≡ step rules st Sort.global r
unfolding step header_step
global-step rules others start r = refl
global-step rules others (within w) r = refl
global-step rules others (named w) r = refl
global-step rules others (header w first before n s) r = refl
global-step rules others (body w outer l inner f) r = refl

-- so where other rules would take it that go the same way, it is taken
global-walks : (rules others : Rules) (p : List Token) (t : Token) → t.kind ≡ 12 → (w : Walks rules start p no_rows) → walk others start p no_rows ≡ go w.0 w.1
    → Walks others start (p ++ (t ∷ [])) no_rows → Walks rules start (p ++ (t ∷ [])) no_rows
global-walks rules others p t k w same v = at (step rules w.0 Sort.global w.1) refl
  where
    at : (x : Step) → step rules w.0 Sort.global w.1 ≡ x → Walks rules start (p ++ (t ∷ [])) no_rows
    at (go s u) e = (s, u, walk_step rules start w.0 p t no_rows w.1 s u w.2 (step-sort rules w.0 t.kind w.1 Sort.global (sort-global t k) ∙ e))
    at (refuse n) e =
        absurd (halted others start w.0 p t no_rows w.1 n same
        (step-sort others w.0 t.kind w.1 Sort.global (sort-global t k) ∙ global-step rules others w.0 w.1 ∙ e) v)

pub global-number : GlobalNumber
global-number rules usable file words ps f n place e p t q i b k kind = at ((refusal-number rules usable file words ps f n place e).0 p t q i b k)
  where
    row : List Token
    row = tokens_only p ++ (t.token ∷ [])

    parts : ps ≡ (p ++ (t ∷ [])) ++ q
    parts = i ∙ sym (append_snoc p t q)

    -- it is `global_` in each layout
    image : row_image rules (tokens_only p) t.token ≡ t.token
    image = same-image rules (tokens_only p) t.token (λ a. omega (arith, a, kind)) (λ a. omega (arith, a, kind))

    next : today_row rules (tokens_only p) ++ (row_image rules (tokens_only p) t.token ∷ []) ≡ today_row rules (tokens_only p) ++ (t.token ∷ [])
    next = ap (λ x. today_row rules (tokens_only p) ++ (x ∷ [])) image

    -- it would begin a file, since it repeats nothing
    begins : Walks rules start (today_row rules (tokens_only p) ++ (t.token ∷ [])) no_rows → ⊥
    begins w =
        k (part-begins rules usable file words ps f.tokenized (p ++ (t ∷ [])) q parts
        (subst (λ ts. Walks rules start ts no_rows) (sym (row_next rules p t ∙ next)) w)
        (subst (Clean nothing) (sym (row_next rules p t ∙ next)) ((clean-append nothing (today_row rules (tokens_only p)) (t.token ∷ [])).1 (
          begins-clean rules (tokens_only p) b,
          (other-taken (takes_all nothing (today_row rules (tokens_only p))) t.token (λ a. omega (arith, a, kind)) (λ a. omega (arith, a, kind)) (λ a. omega (arith, a, kind)), tt),
        ))))

    at : {m : ℕ} → NumberAt rules (tokens_only p) t.token m → (m ≡ 8) ⊎ (m ≡ 10)
    at (NumberAt.taken s) = absurd (begins (subst (λ ts. Walks rules start ts no_rows) (row_snoc rules (tokens_only p) t.token ∙ next) (shape-walks rules row s)))
    at (NumberAt.retired g s) =
        let w : Walks rules start (today_row rules (tokens_only p)) no_rows = begins-walks rules (tokens_only p) b in
        let v : Walks (at_stops rules true) start (today_row (at_stops rules true) row) no_rows = shape-walks (at_stops rules true) row s in
        absurd (begins (global-walks rules (at_stops rules true) (today_row rules (tokens_only p)) t.token kind w
        (walk-stops rules start w.0 (today_row rules (tokens_only p)) no_rows w.1 w.2)
        (subst (λ ts. Walks (at_stops rules true) start ts no_rows) (row-stops rules true row ∙ row_snoc rules (tokens_only p) t.token ∙ next) v)))
    at (NumberAt.deep g limit s) =
        let more : ℕ = limit + rules.levels in
        let w : Walks rules start (today_row rules (tokens_only p)) no_rows = begins-walks rules (tokens_only p) b in
        let v : Walks (at_levels rules limit) start (today_row (at_levels rules limit) row) no_rows = shape-walks (at_levels rules limit) row s in
        absurd (begins (global-walks rules (at_levels rules more) (today_row rules (tokens_only p)) t.token kind w
        (walk-limit rules more (omega arith) start w.0 (today_row rules (tokens_only p)) no_rows w.1 w.2)
        (walks-limit (at_levels rules limit) more (omega arith) start _ no_rows
        (subst (λ ts. Walks (at_levels rules limit) start ts no_rows) (any-row rules limit (tokens_only p) t.token w v ∙ next) v))))
    at (NumberAt.packet g v h) = inr refl
    at (NumberAt.other g h) = inl refl

-- a yield in which `stop_` closes frames has no `save_` alone
yield-none : (rules : Rules) → rules.stop_closes ≡ true → (f : File) → FileBy rules f → Each NotEnd (file_yield (frame_close rules) f)
unfolding frame_close
yield-none rules e f w = rw e (subst (Each NotEnd) (file-old rules f w) (old-none (file_yield frame_end f)))

none_within : (p : List Token) (t : Token) (q rest : List Token) → t.kind ≡ 3 → Each NotEnd ((p ++ (t ∷ q)) ++ rest) → ⊥
none_within p t q rest k h = ((each_append NotEnd p (t ∷ q)).0 ((each_append NotEnd (p ++ (t ∷ q)) rest).0 h).0).1.0 k

module _ (rules : Rules) (e : rules.stop_closes ≡ true) (p : List Token) (t : Token) (k : t.kind ≡ 3) where
  save-shape : BeginsShape rules (p ++ (t ∷ [])) → ⊥
  save-shape b = none_within p t [] b.rest k (subst (Each NotEnd) (b.yield ∙ b.starts) (yield-none rules e b.tree b.whole))

  save-begins : Begins rules (p ++ (t ∷ [])) → ⊥
  save-begins b =
      none_within p t [] b.rest k (subst (Each NotEnd) (b.reading.yield ∙ b.starts) (yield-none rules e b.reading.tree b.reading.whole))

pub save-number : SaveNumber
save-number rules usable e = (save-begins rules e, refused-at)
  where
    at : (p : List Token) (t : Token) → t.kind ≡ 3 → {m : ℕ} → NumberAt rules p t m → (m ≡ 8) ⊎ (m ≡ 10)
    at p t k (NumberAt.taken s) = absurd (save-shape rules e p t k s)
    at p t k (NumberAt.retired g s) = absurd (save-shape (at_stops rules true) e p t k s)
    at p t k (NumberAt.deep g limit s) = absurd (save-shape (at_levels rules limit) e p t k s)
    at p t k (NumberAt.packet g v h) = inr refl
    at p t k (NumberAt.other g h) = inl refl

    refused-at : (file : List ℕ) (words : Sizes) (ps : List Placed) → Fair rules file words ps → (n place : ℕ) → read_by rules file words ≡ refused n place
        → (p : List Placed) (t : Placed) (q : List Placed) → ps ≡ p ++ (t ∷ q) → Begins rules (tokens_only p) → t.token.kind ≡ 3 → (n ≡ 8) ⊎ (n ≡ 10)
    refused-at file words ps f n place r p t q i b k =
        let none : Begins rules (tokens_only (p ++ (t ∷ []))) → ⊥
        = λ h. save-begins rules e (tokens_only p) t.token k (subst (Begins rules) (map-append (λ x. x.token) p (t ∷ [])) h) in
        at (tokens_only p) t.token k ((refusal-number rules usable file words ps f n place r).0 p t q i b none)
