-- What is read of an input, at most 8,193 bytes, has the listing of the whole input, and the part of the room that is written is that listing.
use Rattle.std.proofs.Common.{◌≡◌, ℕ, ◌<◌, ◌≤◌, List, [], ◌++◌, Bool, true, false, refl, sym, ap, ◌∙◌, subst, arith, length, take, drop, take_all, take_at, length-append, append-nil, Option, Some, None, IfSome, Result, Ok, Err, OnOk}
use Rattle.std.specs.Prelude.{cond, leb}
use Rattle.std.proofs.lemmas.Bool.{leb-true, leb-false, lt-leb}
use Rattle.std.specs.Io.KnownBytes.{Appends, Consumes, IsAtEnd}
use Rattle.star_read.specs.Read.{read_of}
use Rattle.star_read.specs.Known.{of_words}
use Rattle.star_list.specs.Listing.{line, too_long, text_of, listing_of}

-- the listing of an input that is too long
long : (input : List ℕ) → 8192 < length input → listing_of input ≡ line too_long
unfolding listing_of
long input h = ap (λ b. cond b (text_of (read_of input (of_words 16384))) (line too_long)) (lt-leb (length input) 8192 h)

-- an input whose first bytes were read, all of them or more than 8,192, has their listing
pub same_listing : (read left : List ℕ) → (length read < 8193 → left ≡ []) → listing_of (read ++ left) ≡ listing_of read
same_listing read left h = by_test (leb (length read) 8192) refl
  where
    by_test : (b : Bool) → leb (length read) 8192 ≡ b → listing_of (read ++ left) ≡ listing_of read
    by_test true q =
        let short : length read ≤ 8192 = leb-true (length read) 8192 q in
        ap (λ l. listing_of (read ++ l)) (h (omega arith)) ∙ ap listing_of (append-nil read)
    by_test false q =
        let over : 8192 < length read = leb-false (length read) 8192 q in
        long (read ++ left) (omega (arith, length-append read left)) ∙ sym (long read over)

pub known_listing : (known left a b : Option (List ℕ)) (read : List ℕ) → Consumes known left read → (length read < 8193 → IsAtEnd left)
    → Appends a b (listing_of read) → IfSome known (λ input. Appends a b (listing_of input))
known_listing None left a b read p q h = tt
known_listing (Some input) None a b read p q h = absurd p
known_listing (Some input) (Some left) a b read p q h = subst (Appends a b) (sym (ap listing_of p ∙ same_listing read left q)) h

-- what a call left in a room that takes it all, as far as it has it
pub whole : (bytes before after : List ℕ) (size : ℕ) → size ≡ length bytes → length bytes ≤ length before
    → after ≡ take (length before) bytes ++ drop (length bytes) before → take size after ≡ bytes
whole bytes before after size e room h =
    let rest = drop (length bytes) before in
    ap (take size) h ∙ ap (λ l. take size (l ++ rest)) (take_all (length before) bytes room) ∙ take_at bytes rest size (sym e)

pub on_ok : {T E : Type 0} {P Q : Type 0} (r : Result T E) → (P → Q) → OnOk r P → OnOk r Q
on_ok (Ok x) f p = f p
on_ok (Err e) f p = tt
