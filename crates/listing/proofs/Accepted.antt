-- And no more: bytes that decoding accepts are a bundle, so refusal 12 is given exactly where they are none for which there is room.
-- Assumes nothing.
use mathlib.Core.Path.{◌≡◌, refl, sym, ap, ◌∙◌}
use mathlib.Core.List.{List, [], ◌∷◌, ◌++◌}
use mathlib.Core.Bool.{Bool, true, false}
use mathlib.Core.Logic.{◌↔◌}
use Prim.Native.Nat.{ℕ, zero, suc, ◌+◌, ◌-◌, ◌*◌, ◌/◌, ◌%◌, ◌^◌, ◌<◌, ◌≤◌}
use native.Mathlib.Omega.{arith}
use lib.Dec.{leb}
use lib.ListN.{length, get_or, take, drop, length-drop, take-append-drop}
use lib.Seq.{drop-drop, length-take-le}
use borrow.Author.Tests.{leb-true, eqb-true}
use Rattle.listing.specs.Bundle.{four_bytes, token_bytes, bundle_of, Bytes, Tokens, Bundled, little, tokens_at, text_count, token_count, also, fits, refused, decoded_into}
use Rattle.listing.proofs.Decoding.{tokens-length, refuses}
use Rattle.listing.proofs.Bundles.{little-from, tokens-from, decoded-bundle}

-- a part of bytes is bytes, and what four and nine of them spell is small enough
bytes_drop : (i : ℕ) (b : List ℕ) → Bytes b → Bytes (drop i b)
bytes_drop zero b h = h
bytes_drop (suc i) [] h = h
bytes_drop (suc i) (x ∷ b) h = bytes_drop i b h.1

bytes_take : (i : ℕ) (b : List ℕ) → Bytes b → Bytes (take i b)
bytes_take zero b h = tt
bytes_take (suc i) [] h = tt
bytes_take (suc i) (x ∷ b) h = (h.0, bytes_take i b h.1)

byte_at : (b : List ℕ) (i : ℕ) → Bytes b → get_or b i 0 < 256
byte_at [] i h = omega arith
byte_at (x ∷ b) zero h = h.0
byte_at (x ∷ b) (suc i) h = byte_at b i h.1

little-small : (b : List ℕ) (i : ℕ) → Bytes b → little b i < 2 ^ 32
unfolding little
little-small b i h = omega (arith, byte_at b i h, byte_at b (i + 1) h, byte_at b (i + 2) h, byte_at b (i + 3) h)

tokens-small : (b : List ℕ) (i m : ℕ) → Bytes b → Tokens (tokens_at b i m)
unfolding tokens_at
tokens-small b i zero h = tt
tokens-small b i (suc m) h = (byte_at b i h, little-small b (i + 1) h, little-small b (i + 5) h, tokens-small b (i + 9) m h)

-- the number that four bytes spell has those four bytes
four-back : (b : List ℕ) → 4 ≤ length b → Bytes b → four_bytes (little b 0) ++ drop 4 b ≡ b
unfolding little
four-back [] l h = absurd (omega arith)
four-back (x ∷ []) l h = absurd (omega arith)
four-back (x ∷ y ∷ []) l h = absurd (omega arith)
four-back (x ∷ y ∷ z ∷ []) l h = absurd (omega arith)
four-back (x ∷ y ∷ z ∷ w ∷ b) l h =
    let n : ℕ = x + 256 * y + 65536 * z + 16777216 * w in
    let q1 : n / 256 ≡ y + 256 * z + 65536 * w = omega arith in
    let q2 : n / 65536 ≡ z + 256 * w = omega arith in
    let q3 : n / 16777216 ≡ w = omega arith in
    let r0 : n % 256 ≡ x = omega arith in
    let r1 : n / 256 % 256 ≡ y = rw q1 (omega arith) in
    let r2 : n / 65536 % 256 ≡ z = rw q2 (omega arith) in
    let r3 : n / 16777216 % 256 ≡ w = rw q3 (omega arith) in
    λ i. r0 i ∷ r1 i ∷ r2 i ∷ r3 i ∷ b

-- the tokens that nine bytes each spell have those bytes
tokens-back : (m : ℕ) (b : List ℕ) → length b ≡ 9 * m → Bytes b → token_bytes (tokens_at b 0 m) ≡ b
unfolding tokens_at token_bytes
tokens-back zero [] l h = refl
tokens-back zero (x ∷ b) l h = absurd (omega arith)
tokens-back (suc m) [] l h = absurd (omega arith)
tokens-back (suc m) (kind ∷ b) l h =
    let r : List ℕ = drop 4 b in
    let start : four_bytes (little b 0) ++ r ≡ b = four-back b (omega arith) h.1 in
    let end : four_bytes (little r 0) ++ drop 4 r ≡ r = four-back r (simp length-drop (omega arith)) (bytes_drop 4 b h.1) in
    let rest : token_bytes (tokens_at (drop 8 b) 0 m) ≡ drop 8 b = tokens-back m (drop 8 b) (simp length-drop (omega arith)) (bytes_drop 8 b h.1) in
    rw (little-from (kind ∷ b) 1, little-from (kind ∷ b) 5, tokens-from (kind ∷ b) 9 m, rest, ← drop-drop 4 4 b) (ap (λ (l : List ℕ). kind ∷ l) (ap (λ (l : List ℕ). four_bytes (little b 0) ++ l) end ∙ start))

-- bytes whose counts are right are the bundle of the text and the tokens in them
bundle-back : (b : List ℕ) (n m : ℕ) → Bytes b → n ≡ little b 0 → m ≡ little b (4 + n) → length b ≡ 8 + n + 9 * m → b ≡ bundle_of (take n (drop 4 b)) (tokens_at b (8 + n) m)
unfolding bundle_of
bundle-back b n m h e f g =
    let r : List ℕ = drop (4 + n) b in
    let ln : length (take n (drop 4 b)) ≡ n = length-take-le n (drop 4 b) (simp length-drop (omega arith)) in
    let lm : length (tokens_at b (8 + n) m) / 3 ≡ m = omega (arith, tokens-length b (8 + n) m) in
    let at : 4 + n + 4 ≡ 8 + n = omega arith in
    let there : drop (8 + n) b ≡ drop 4 r = sym (rw at at (drop-drop 4 (4 + n) b)) in
    let tokens : token_bytes (tokens_at b (8 + n) m) ≡ drop 4 r = rw (tokens-from b (8 + n) m, there) (tokens-back m (drop 4 r) (rw (← there) (simp length-drop (omega arith))) (bytes_drop 4 r (bytes_drop (4 + n) b h))) in
    let count : four_bytes m ++ drop 4 r ≡ r = rw (f, little-from b (4 + n)) (four-back r (simp length-drop (omega arith)) (bytes_drop (4 + n) b h)) in
    let text : take n (drop 4 b) ++ r ≡ drop 4 b = rw (← drop-drop n 4 b) (take-append-drop n (drop 4 b)) in
    sym (rw (ln, lm, tokens, count, text, e) (four-back b (omega arith) h))

also-both : (a : Bool) {b : Bool} → also a b ≡ true → (a ≡ true) × (b ≡ true)
also-both true e = (refl, e)
also-both false e = let z : ◌≡◌ {A = ℕ} 0 1 = cc in absurd (omega arith)

module _ (b mine words : List ℕ) (h : Bytes b) where
  accepted : fits b (length mine) (length words / 3) ≡ true → Bundled (length mine) (length words) b
  unfolding fits
  accepted e =
      let n : ℕ = text_count b in
      let m : ℕ = token_count b in
      let roomy = also-both (leb n (length mine)) (also-both (leb n (length b - 8)) (also-both (leb 8 (length b)) e).1).1 in
      let even = also-both (leb m (length words / 3)) roomy.1 in
      let r : n ≤ length mine = leb-true _ _ roomy.0 in
      let s : m ≤ length words / 3 = leb-true _ _ even.0 in
      let g : length b ≡ 8 + n + 9 * m = eqb-true _ _ even.1 in
      let ln : length (take n (drop 4 b)) ≡ n = length-take-le n (drop 4 b) (simp length-drop (omega arith)) in
      let lm : length (tokens_at b (8 + n) m) ≡ 3 * m = tokens-length b (8 + n) m in
      record {
        text = take n (drop 4 b);
        tokens = tokens_at b (8 + n) m;
        whole = bundle-back b n m h refl refl g;
        each_byte = bytes_take n (drop 4 b) (bytes_drop 4 b h);
        each_token = tokens-small b (8 + n) m h;
        text_counted = rw ln (little-small b 0 h);
        tokens_counted = omega (arith, little-small b (4 + n) h);
        text_fits = rw ln r;
        tokens_fit = omega arith;
      }

  -- refused, and the buffers left as they were, exactly where it is no bundle for which there is room
  pub refused-exactly : (decoded_into b mine words ≡ refused mine words) ↔ (Bundled (length mine) (length words) b → ⊥)
  refused-exactly = (clash, by (fits b (length mine) (length words / 3)) refl)
    where
      clash : decoded_into b mine words ≡ refused mine words → Bundled (length mine) (length words) b → ⊥
      clash e s = let z : ◌≡◌ {A = ℕ} 0 1 = cc (decoded-bundle b mine words s) in omega arith

      by : (t : Bool) → fits b (length mine) (length words / 3) ≡ t → (Bundled (length mine) (length words) b → ⊥) → decoded_into b mine words ≡ refused mine words
      by true e none = absurd (none (accepted e))
      by false e none = sym (refuses b mine words e)
