-- Filling a buffer from its front, and each way through decoding a bundle.
-- Assumes nothing.
use mathlib.Core.Path.{◌≡◌, refl, sym, ap, ◌∙◌}
use mathlib.Core.List.{List, [], ◌∷◌, ◌++◌, append_assoc}
use mathlib.Core.Bool.{true, false}
use Prim.Native.Nat.{ℕ, zero, suc, ◌+◌, ◌-◌, ◌*◌, ◌/◌, ◌<◌, ◌≤◌}
use native.Mathlib.Omega.{arith}
use native.Mathlib.Numerals.{add-one}
use lib.ListN.{length, get_or, set, take, drop, length-drop, length-append}
use lib.Seq.{drop-cons, take-suc, get_or-drop, set_at, length-take-le}
use borrow.Author.Tests.{le-leb, lt-leb, eq-eqb, ne_eqb}
use Rattle.listing.specs.Bundle.{little, tokens_at, text_count, token_count, fits, sheet, refused, copied, token_words, decoded_into}

-- one more element behind the n that stand at the buffer's front
pub front-on : (xs buffer : List ℕ) (n a : ℕ) → length xs ≡ n → n < length buffer → set (xs ++ drop n buffer) n a ≡ (xs ++ (a ∷ [])) ++ drop (n + 1) buffer
front-on xs buffer n a e h = rw (add-one n, drop-cons buffer n 0 h, set_at xs (get_or buffer n 0) (drop (suc n) buffer) a n e, append_assoc xs (a ∷ []) (drop (suc n) buffer))

-- one byte more of the text, as it is copied to the buffer's front
module _ (b : List ℕ) (k : ℕ) (buffer : List ℕ) where
  pub copied_none : copied b k 0 buffer ≡ buffer
  unfolding copied
  copied_none = refl

  pub copied_on : (i : ℕ) {ys : List ℕ} → ys ≡ copied b k i buffer → k + i < length b → i < length buffer → set ys i (get_or b (k + i) 0) ≡ copied b k (i + 1) buffer
  unfolding copied
  copied_on i y h g =
      let l : i < length (drop k b) = simp length-drop (omega arith) in
      let e : length (take i (drop k b)) ≡ i = length-take-le i (drop k b) (omega arith) in
      rw y (front-on (take i (drop k b)) buffer i (get_or b (k + i) 0) e g ∙ rw (add-one i, take-suc (drop k b) i 0 l, get_or-drop k b i 0))

-- one token more
pub tokens-length : (b : List ℕ) (i m : ℕ) → length (tokens_at b i m) ≡ 3 * m
unfolding tokens_at
tokens-length b i zero = refl
tokens-length b i (suc m) = let e = tokens-length b (i + 9) m in omega arith

pub tokens-snoc : (b : List ℕ) (i m : ℕ) → tokens_at b i (suc m) ≡ ((tokens_at b i m ++ (get_or b (i + 9 * m) 0 ∷ [])) ++ (little b (i + 9 * m + 1) ∷ [])) ++ (little b (i + 9 * m + 5) ∷ [])
unfolding tokens_at
tokens-snoc b i zero = let e : i + 9 * 0 ≡ i = omega arith in rw e
tokens-snoc b i (suc m) =
    let e : i + 9 + 9 * m ≡ i + 9 * suc m = omega arith in
    ap (λ (l : List ℕ). get_or b i 0 ∷ little b (i + 1) ∷ little b (i + 5) ∷ l) (rw (← e) (tokens-snoc b (i + 9) m))

module _ (b : List ℕ) (i : ℕ) (buffer : List ℕ) where
  pub tokens_none : token_words b i 0 buffer ≡ buffer
  unfolding token_words tokens_at
  tokens_none = refl

  pub tokens-on :
      (j : ℕ) {ys : List ℕ} {at kind start end : ℕ} → ys ≡ token_words b i j buffer → at ≡ i + 9 * j → kind ≡ get_or b at 0 → start ≡ little b (at + 1) → end ≡ little b (at + 5) → 3 * j + 2 < length buffer →
      set (set (set ys (3 * j) kind) (3 * j + 1) start) (3 * j + 2) end ≡ token_words b i (j + 1) buffer
  unfolding token_words
  tokens-on j {at = at} {kind = kind} {start = start} {end = end} y a k s e h =
      let xs : List ℕ = tokens_at b i j in
      let l : length xs ≡ 3 * j = tokens-length b i j in
      let l1 : length (xs ++ (kind ∷ [])) ≡ 3 * j + 1 = simp length-append (omega arith) in
      let l2 : length ((xs ++ (kind ∷ [])) ++ (start ∷ [])) ≡ 3 * j + 2 = simp length-append (omega arith) in
      let g1 : 3 * j + 1 + 1 ≡ 3 * j + 2 = omega arith in
      let g2 : 3 * j + 2 + 1 ≡ 3 * (j + 1) = omega arith in
      let t : tokens_at b i (j + 1) ≡ ((xs ++ (kind ∷ [])) ++ (start ∷ [])) ++ (end ∷ []) = rw (add-one j, k, s, e, a) (tokens-snoc b i j) in
      rw (y, front-on xs buffer (3 * j) kind l (omega arith), front-on (xs ++ (kind ∷ [])) buffer (3 * j + 1) start l1 (omega arith), g1, front-on ((xs ++ (kind ∷ [])) ++ (start ∷ [])) buffer (3 * j + 2) end l2 h, g2, t)

module _ (b text tokens : List ℕ) where
  -- a test that fails refuses
  pub refuses : fits b (length text) (length tokens / 3) ≡ false → refused text tokens ≡ decoded_into b text tokens
  unfolding decoded_into
  refuses e = sym (rw (e, decoded_into))

  pub decode-empty : length b < 8 → refused text tokens ≡ decoded_into b text tokens
  unfolding fits
  decode-empty h = refuses (rw (lt-leb 8 (length b) h))

  module _ {n : ℕ} (p : 8 ≤ length b) (e : n ≡ little b 0) where
    pub decode-cut : length b - 8 < n → refused text tokens ≡ decoded_into b text tokens
    unfolding fits
    decode-cut h = refuses (rw (le-leb 8 (length b) p, lt-leb (little b 0) (length b - 8) (rw e at h)))

    module _ (q : n ≤ length b - 8) where
      pub decode-long : length text < n → refused text tokens ≡ decoded_into b text tokens
      unfolding fits
      decode-long h = refuses (rw (le-leb 8 (length b) p, le-leb (little b 0) (length b - 8) (rw e at q), lt-leb (little b 0) (length text) (rw e at h)))

      module _ {m : ℕ} (r : n ≤ length text) (f : m ≡ little b (4 + n)) where
        pub decode-many : length tokens / 3 < m → refused text tokens ≡ decoded_into b text tokens
        unfolding fits
        decode-many h = refuses (rw (le-leb 8 (length b) p, le-leb (little b 0) (length b - 8) (rw e at q), le-leb (little b 0) (length text) (rw e at r), lt-leb (token_count b) (length tokens / 3) (rw (f, e) at h)))

        module _ (s : m ≤ length tokens / 3) where
          pub decode-uneven : (length b ≡ 8 + n + 9 * m → ⊥) → refused text tokens ≡ decoded_into b text tokens
          unfolding fits
          decode-uneven h = refuses (rw (le-leb 8 (length b) p, le-leb (little b 0) (length b - 8) (rw e at q), le-leb (little b 0) (length text) (rw e at r), le-leb (token_count b) (length tokens / 3) (rw (f, e) at s), ne_eqb (length b) (8 + text_count b + 9 * token_count b) (rw (f, e) at h)))

          pub decode-whole : {texts words : List ℕ} → length b ≡ 8 + n + 9 * m → texts ≡ copied b 4 n text → words ≡ token_words b (8 + n) m tokens → sheet n m texts words ≡ decoded_into b text tokens
          unfolding fits decoded_into
          decode-whole h t w =
              let go : fits b (length text) (length tokens / 3) ≡ true = rw (le-leb 8 (length b) p, le-leb (little b 0) (length b - 8) (rw e at q), le-leb (little b 0) (length text) (rw e at r), le-leb (token_count b) (length tokens / 3) (rw (f, e) at s), eq-eqb (length b) (8 + text_count b + 9 * token_count b) (rw (f, e) at h)) in
              rw (t, w, f, e) (sym (rw (go, decoded_into)))
