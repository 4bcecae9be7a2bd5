-- Closing the frames of a table, row by row; what is left where they are opened again.
use mathlib.Core.Path.{◌≡◌, refl, sym, ◌∙◌, ap, subst}
use mathlib.Core.Bool.{Bool, true, false, cond, ◌&&◌}
use mathlib.Core.List.{List}
use Prim.Native.Nat.{ℕ, ◌+◌, ◌*◌, ◌≤◌, ◌<◌}
use native.Mathlib.Numerals.{add-one}
use native.Mathlib.Omega.{arith}
use lib.Dec.{eqb, leb}
use borrow.Author.Tests.{eqb-true, ne_eqb, leb-true, le-leb}
use lib.ListN.{length, get_or, set}
use Rattle.star_text.specs.Bytes.{most_bytes}
use Rattle.star_text.proofs.Cases.{cond-by, both}
use Rattle.star_grammar.specs.Layout.{Track, outside, is_between, today_kind, pass_kind, track_at, today_kind_at}
use Rattle.star_lex.specs.Room.{has_rows}
use Rattle.star_frames.specs.Frames.{kind_of, retagged, closed_frames, open_kind, opened_frames}
use Rattle.star_frames.specs.Tracked.{track_of, Tracks, Ready}
use Rattle.star_frames.specs.declared.progress.Progress.{Progress}
use Rattle.star_frames.proofs.Bounds.{track-bounded, bounded-up}
use Rattle.star_frames.proofs.Retagging.{Retagged, retagged-by, retagged-length, retagged-later, retag-turn, retagged-is}

-- a table that has its rows
pub rows_in : (count words : ℕ) → has_rows count words ≡ true → (count * 3 ≤ words) × (count ≤ most_bytes)
unfolding has_rows
rows_in count words e =
    let b = both (leb (count * 3) words) (leb count most_bytes) e in
    (leb-true (count * 3) words b.0, leb-true count most_bytes b.1)

pub in_rows : (count words : ℕ) → count * 3 ≤ words → count ≤ most_bytes → has_rows count words ≡ true
unfolding has_rows
in_rows count words h l = rw (le-leb (count * 3) words h, le-leb count most_bytes l)

-- what is known between two rows: those before have the kinds of today's layout, and the progress is that before this row
pub record Closing (before : List ℕ) (n : ℕ) (words : List ℕ) (p : Progress) : Type 0 where
  pub holds : words ≡ retagged (today_kind_at 8 (kind_of before)) n before
  pub tracks : Tracks p (track_at 8 (kind_of before) n)

pub closing-start : (words : List ℕ) (p : Progress) → Tracks p (outside false) → Closing words 0 words p
unfolding retagged track_at
closing-start words p t = record { holds = refl; tracks = t }

module _ (before : List ℕ) (n : ℕ) (words : List ℕ) (p : Progress) (c : Closing before n words p) where
  pub closing-size : length words ≡ length before
  closing-size = ap length c.holds ∙ retagged-length (today_kind_at 8 (kind_of before)) before n

  pub closing-ready : n ≤ most_bytes → Ready p
  closing-ready h = record {
    tracks = record { size = c.tracks.size; fits = c.tracks.fits; is = refl };
    bounded = rw c.tracks.is (bounded-up n most_bytes (track_at 8 (kind_of before) n) h (track-bounded (kind_of before) n));
  }

  -- the kind of the row is still the one before
  kind-here : kind_of words n ≡ kind_of before n
  kind-here = ap (λ ws. kind_of ws n) c.holds ∙ retagged-later (today_kind_at 8 (kind_of before)) before n n (omega arith)

  module _ (kind : ℕ) (e : kind ≡ today_kind (track_of p) (get_or words (n * 3) 0)) where
    kind-is : kind ≡ today_kind_at 8 (kind_of before) n
    unfolding today_kind_at
    kind-is = e ∙ ap (λ t. today_kind t (kind_of words n)) c.tracks.is ∙ ap (today_kind (track_at 8 (kind_of before) n)) kind-here

    pub closing-turn : (r : Progress) → Tracks r (pass_kind 8 (track_of p) kind) → Closing before (n + 1) (set words (n * 3) kind) r
    unfolding track_at today_kind_at
    closing-turn r t = record {
      holds = retag-turn (today_kind_at 8 (kind_of before)) before words n kind c.holds kind-is;
      tracks = rw (add-one n) (subst (Tracks r) (ap (λ s. pass_kind 8 s kind) c.tracks.is ∙ ap (pass_kind 8 (track_at 8 (kind_of before) n)) kind-is) t);
    }

  pub closing_end : has_rows n (length before) ≡ true → words ≡ closed_frames n before
  unfolding closed_frames
  closing_end e = rw e c.holds

-- opening, row by row: the rows before are opened
pub record Opening (before : List ℕ) (n : ℕ) (words : List ℕ) : Type 0 where
  pub holds : words ≡ retagged (λ m. open_kind (kind_of before m)) n before

pub opening-start : (words : List ℕ) → Opening words 0 words
unfolding retagged
opening-start words = record { holds = refl }

module _ (before : List ℕ) (n : ℕ) (words : List ℕ) (o : Opening before n words) where
  pub opening-size : length words ≡ length before
  opening-size = ap length o.holds ∙ retagged-length (λ m. open_kind (kind_of before m)) before n

  pub opening-turn : (kind : ℕ) → kind ≡ open_kind (get_or words (n * 3) 0) → Opening before (n + 1) (set words (n * 3) kind)
  opening-turn kind e = record {
    holds = retag-turn (λ m. open_kind (kind_of before m)) before words n kind o.holds
        (e ∙ ap open_kind (ap (λ ws. kind_of ws n) o.holds ∙ retagged-later (λ m. open_kind (kind_of before m)) before n n (omega arith)));
  }

  pub opening-end : has_rows n (length before) ≡ true → words ≡ opened_frames n before
  unfolding opened_frames
  opening-end e = rw e o.holds

-- what closing and opening give, by the rows
module _ (count : ℕ) (words : List ℕ) (room : count * 3 ≤ length words) (few : count ≤ most_bytes) where
  pub closed_is : closed_frames count words ≡ retagged (today_kind_at 8 (kind_of words)) count words
  unfolding closed_frames
  closed_is = rw (in_rows count (length words) room few)

  pub opened-is : opened_frames count words ≡ retagged (λ m. open_kind (kind_of words m)) count words
  unfolding opened_frames
  opened-is = rw (in_rows count (length words) room few)

  pub closed-by : Retagged (today_kind_at 8 (kind_of words)) count words (closed_frames count words)
  closed-by = rw closed_is (retagged-by (today_kind_at 8 (kind_of words)) words count room)

  pub opened-by : Retagged (λ m. open_kind (kind_of words m)) count words (opened_frames count words)
  opened-by = rw opened-is (retagged-by (λ m. open_kind (kind_of words m)) words count room)

-- a table that has not its rows stays
pub closed_none : (count : ℕ) (words : List ℕ) → has_rows count (length words) ≡ false → closed_frames count words ≡ words
unfolding closed_frames
closed_none count words e = rw e

pub opened-none : (count : ℕ) (words : List ℕ) → has_rows count (length words) ≡ false → opened_frames count words ≡ words
unfolding opened_frames
opened-none count words e = rw e

-- a kind of today's layout is opened to the one that it came from, but for that of `save_`
pub open-today : (t : Track) (kind : ℕ) → (kind ≡ 3 → ⊥) → open_kind (today_kind t kind) ≡ kind
unfolding open_kind today_kind
open-today t kind h =
    cond-by Opens t.inside _ _
    (λ i. rw (ne_eqb kind 3 h) (cond-by Opens (eqb kind 5 && is_between t) 3 kind (λ e. sym (eqb-true kind 5 (both (eqb kind 5) (is_between t) e).0)) (λ e. kept)))
    (λ i. kept)
  where
    Opens : ℕ → Type 0
    Opens k = cond (eqb k 3) 5 k ≡ kind

    kept : Opens kind
    kept = rw (ne_eqb kind 3 h)

pub closed-length : (count : ℕ) (words : List ℕ) → length (closed_frames count words) ≡ length words
unfolding closed_frames
closed-length count words =
    cond-by (λ (ws : List ℕ). length ws ≡ length words) (has_rows count (length words)) _ _ (λ e. retagged-length (today_kind_at 8 (kind_of words)) words count) (λ e. refl)

pub opened-length : (count : ℕ) (words : List ℕ) → length (opened_frames count words) ≡ length words
unfolding opened_frames
opened-length count words =
    cond-by (λ (ws : List ℕ). length ws ≡ length words) (has_rows count (length words)) _ _ (λ e. retagged-length (λ m. open_kind (kind_of words m)) words count) (λ e. refl)

-- frames that are closed and then opened are as they were, where no row was a `save_` alone
module _ (count : ℕ) (words : List ℕ) (bare : (m : ℕ) → m < count → kind_of words m ≡ 3 → ⊥) where
  open-rows : count * 3 ≤ length words → count ≤ most_bytes → opened_frames count (closed_frames count words) ≡ words
  unfolding today_kind_at
  open-rows room few =
      let closed : List ℕ = closed_frames count words in
      let k : Retagged (today_kind_at 8 (kind_of words)) count words closed = closed-by count words room few in
      let back : Retagged (λ m. open_kind (kind_of closed m)) count closed words = record {
        size = sym k.size;
        rows = λ m h. sym (ap open_kind (k.rows m h) ∙ open-today (track_at 8 (kind_of words) m) (kind_of words m) (bare m h));
        later = λ m h. sym (k.later m h);
        starts = λ m. sym (k.starts m);
        ends = λ m. sym (k.ends m);
      } in
      opened-is count closed (omega (arith, k.size)) few ∙ sym (retagged-is (λ m. open_kind (kind_of closed m)) count closed words (omega (arith, k.size)) back)

  pub open-close : opened_frames count (closed_frames count words) ≡ words
  open-close = go (has_rows count (length words)) refl
    where
      go : (b : Bool) → has_rows count (length words) ≡ b → opened_frames count (closed_frames count words) ≡ words
      go true e =
          let h = rows_in count (length words) e in
          open-rows h.0 h.1
      go false e = rw (closed_none count words e) (opened-none count words e)
