-- Rows of tokens that begin a file, seen from the machine: a row of well_formed tokens begins a file with a reading exactly when each step over
-- it is taken and it repeats nothing. What completes it has one new name at most, and the plain form of them all is such a file.
use mathlib.Core.Path.{◌≡◌, refl, sym, ap, ◌∙◌}
use mathlib.Core.List.{List, [], ◌++◌, Memᴰ, append_assoc}
use Prim.Native.Nat.{ℕ, zero, suc, ◌≤◌}
use native.Mathlib.Omega.{arith}
use lib.ListN.{length}
use Rattle.star_text.specs.Outcome.{accepted}
use Rattle.star_text.specs.Bytes.{most_bytes}
use Rattle.star_lex.specs.Rules.{Rules}
use Rattle.star_text.specs.Names.{key}
use Rattle.star_lex.specs.Tokens.{Token, Placed, Each}
use Rattle.star_lex.specs.Split.{tokens_by}
use Rattle.star_lex.specs.Plain.{plain_by}
use Rattle.star_lex.proofs.Formed.{FormedBy}
use Rattle.star_lex.proofs.Each.{each_append}
use Rattle.star_lex.proofs.FreshName.{fresh-name-of}
use Rattle.star_lex.proofs.PlainSplit.{lex-plain-by}
use Rattle.star_grammar.specs.Tree.{File, frame_end, frame_close, file_yield, FileBy}
use Rattle.star_grammar.specs.Tables.{Rows, no_rows}
use Rattle.star_grammar.specs.Machine.{State, start, within, named, header, body, go, walk, good, run}
use Rattle.star_grammar.specs.Layout.{today_row, layout_row}
use Rattle.star_grammar.proofs.Rest.{zero_word, ending, completion}
use Rattle.star_grammar.proofs.Alive.{rest-alive, each-ending}
use Rattle.star_grammar.proofs.Formed.{each-fixed, formed-completion, formed-by}
use Rattle.star_grammar.proofs.Yields.{by_append, yield-by, row_by}
use Rattle.star_grammar.proofs.Images.{row_more, row-append, row-length, row-fixed}
use Rattle.star_grammar.proofs.Walking.{Walks, walks-first, good-walks}
use Rattle.star_unique.specs.Repeat.{nothing}
use Rattle.star_unique.proofs.Clean.{Clean, clean-append}
use Rattle.star_unique.proofs.Names.{names_in, names-count}
use Rattle.star_unique.proofs.Fresh.{Quiet, quiet-stop, quiet-end, quiet-after, fresh-after}
use Rattle.star_read.specs.Read.{tokens_only}
use Rattle.star_read.specs.Demands.{Usable, Begins, BeginsShape}
use Rattle.star_read.proofs.Readings.{yield-run, reading-run, reading-clean, tree-reading}

-- a row that begins what a run accepts
run-first : (rules : Rules) (p rest ts : List Token) (rows : Rows) → ts ≡ p ++ rest → run rules start (today_row rules ts) no_rows ≡ good rows
    → Walks rules start (today_row rules p) no_rows
run-first rules p rest ts rows e g =
    walks-first rules (today_row rules p) (row_more rules p rest) start no_rows (rw (ap (today_row rules) e ∙ row-append rules p rest) at (good-walks rules (today_row rules ts) start no_rows rows g))

pub begins-walks : (rules : Rules) (p : List Token) → Begins rules p → Walks rules start (today_row rules p) no_rows
begins-walks rules p b = run-first rules p b.rest (tokens_only b.tokens) _ b.starts (reading-run rules (tokens_only b.tokens) b.reading)

pub begins-clean : (rules : Rules) (p : List Token) → Begins rules p → Clean nothing (today_row rules p)
begins-clean rules p b =
    ((clean-append nothing (today_row rules p) (row_more rules p b.rest)).0
    (rw (ap (today_row rules) b.starts ∙ row-append rules p b.rest) at (reading-clean rules (tokens_only b.tokens) b.reading))).0

pub shape-walks : (rules : Rules) (p : List Token) → BeginsShape rules p → Walks rules start (today_row rules p) no_rows
shape-walks rules p b = run-first rules p b.rest (tokens_only b.tokens) _ b.starts (yield-run rules b.tree _ b.yield b.whole)

-- a first part of a row that begins a file
pub begins-first : (rules : Rules) (p q : List Token) → Begins rules (p ++ q) → Begins rules p
begins-first rules p q b = record {
  file = b.file;
  tokens = b.tokens;
  splits = b.splits;
  reading = b.reading;
  rest = q ++ b.rest;
  starts = b.starts ∙ append_assoc p q b.rest;
}

quiet-zero : Quiet zero_word
unfolding zero_word
quiet-zero = omega arith

quiet-ending : (st : State) → Each Quiet (ending st)
quiet-ending = each-ending Quiet quiet-zero quiet-stop quiet-end

-- what completes a file repeats nothing, where its name is new
clean-completion : (p : List Token) (st : State) (x : Token) → Clean nothing p → x.kind ≡ 6 → (Memᴰ (key x.content) (names_in p) → ⊥)
    → Clean nothing (p ++ completion st x)
clean-completion p start x c k n = quiet-after nothing p (ending start) c (quiet-ending start)
clean-completion p (within w) x c k n = quiet-after nothing p (ending (within w)) c (quiet-ending (within w))
clean-completion p (named w) x c k n = quiet-after nothing p (ending (named w)) c (quiet-ending (named w))
clean-completion p (header w first before zero s) x c k n =
    fresh-after p [] (ending (header w first before zero s)) x c k n tt (quiet-ending (header w first before zero s))
clean-completion p (header w first before (suc m) s) x c k n =
    quiet-after nothing p (ending (header w first before (suc m) s)) c (quiet-ending (header w first before (suc m) s))
clean-completion p (body w outer l inner f) x c k n =
    quiet-after nothing p (ending (body w outer l inner f)) c (quiet-ending (body w outer l inner f))

-- a row with its completion, which is in the layout of the rules
record Completed (rules : Rules) (p : List Token) (st : State) (x : Token) : Type 0 where
  tokens : List Placed
  splits : tokens_by rules (plain_by rules (p ++ layout_row rules (completion st x))) ≡ accepted tokens
  are : tokens_only tokens ≡ p ++ layout_row rules (completion st x)
  tree : File
  today : file_yield frame_end tree ≡ today_row rules p ++ completion st x
  yield : file_yield (frame_close rules) tree ≡ tokens_only tokens
  whole : FileBy rules tree

module _ (rules : Rules) (least : 1 ≤ rules.levels) (p : List Token) (h : Each (FormedBy rules) p) (st : State) (r : Rows)
    (e : walk rules start (today_row rules p) no_rows ≡ go st r) where
  completed : (x : List ℕ) → FormedBy rules (record { kind = 6; content = x }) → Completed rules p st (record { kind = 6; content = x })
  completed x w =
      let t : Token = record { kind = 6; content = x } in
      let c : List Token = layout_row rules (completion st t) in
      let s : (ps : List Placed) × (tokens_by rules (plain_by rules (p ++ c)) ≡ accepted ps) × (tokens_only ps ≡ p ++ c)
      = lex-plain-by rules (p ++ c) ((each_append (FormedBy rules) p c).1 (h, formed-by rules (completion st t) (formed-completion rules st t w))) in
      let a : (f : File) × (file_yield frame_end f ≡ today_row rules p ++ completion st t) × FileBy rules f
      = rest-alive rules least (today_row rules p) (row-fixed rules p (each-fixed rules p h)) st r e t (record { kind6 = refl }) in
      let y : file_yield (frame_close rules) a.0 ≡ p ++ c
      = sym (yield-by rules a.0 a.2) ∙ ap (layout_row rules) a.1 ∙ by_append rules (today_row rules p) (completion st t)
      ∙ ap (λ q. q ++ c) (row_by rules p (each-fixed rules p h) (st, r, e)) in
      record { tokens = s.0; splits = s.1; are = s.2; tree = a.0; today = a.1; yield = y ∙ sym s.2; whole = a.2 }

pub walks-shape : (rules : Rules) → Usable rules → (p : List Token) → Each (FormedBy rules) p → Walks rules start (today_row rules p) no_rows → BeginsShape rules p
walks-shape rules usable p h k =
    let n : (x : List ℕ) × FormedBy rules (record { kind = 6; content = x }) × (Memᴰ x [] → ⊥) = fresh-name-of rules 1 [] (omega arith) (omega (arith, usable.long_names)) (omega arith) in
    let t : Token = record { kind = 6; content = n.0 } in
    let c : Completed rules p k.0 t = completed rules usable.some_level p h k.0 k.1 k.2 n.0 n.1 in
    record {
      file = plain_by rules (p ++ layout_row rules (completion k.0 t));
      tokens = c.tokens;
      splits = c.splits;
      tree = c.tree;
      yield = c.yield;
      whole = c.whole;
      rest = layout_row rules (completion k.0 t);
      starts = c.are;
    }

pub walks-begins : (rules : Rules) → Usable rules → (p : List Token) → Each (FormedBy rules) p → length p ≤ most_bytes → Walks rules start (today_row rules p) no_rows
    → Clean nothing (today_row rules p) → Begins rules p
unfolding key
walks-begins rules usable p h l k c =
    let n : (x : List ℕ) × FormedBy rules (record { kind = 6; content = x }) × (Memᴰ x (names_in (today_row rules p)) → ⊥)
    = fresh-name-of rules 21 (names_in (today_row rules p)) (omega arith) (omega (arith, usable.long_names)) (omega (arith, names-count (today_row rules p), row-length rules p)) in
    let t : Token = record { kind = 6; content = n.0 } in
    let d : Completed rules p k.0 t = completed rules usable.some_level p h k.0 k.1 k.2 n.0 n.1 in
    record {
      file = plain_by rules (p ++ layout_row rules (completion k.0 t));
      tokens = d.tokens;
      splits = d.splits;
      reading = tree-reading rules (tokens_only d.tokens) d.tree d.yield d.whole (rw d.today (clean-completion (today_row rules p) k.0 t c refl n.2));
      rest = layout_row rules (completion k.0 t);
      starts = d.are;
    }
