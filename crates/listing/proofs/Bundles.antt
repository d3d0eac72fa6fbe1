-- There and back: decoding the bundle of a text and tokens gives just them.
-- Assumes nothing.
use mathlib.Core.Path.{◌≡◌, refl, sym, ap, ◌∙◌}
use mathlib.Core.List.{List, [], ◌∷◌, ◌++◌}
use Prim.Native.Nat.{ℕ, zero, suc, ◌+◌, ◌*◌, ◌/◌, ◌%◌, ◌^◌, ◌<◌, ◌≤◌}
use native.Mathlib.Nat.{div-div-eq-div-mul, mod-eq_of_lt}
use native.Mathlib.Omega.{arith}
use lib.ListN.{length, drop, length-append}
use lib.Seq.{get_or-drop, drop-drop, drop-append_seam, take-append_seam}
use Rattle.listing.specs.Bundle.{four_bytes, token_bytes, bundle_of, Bytes, Tokens, Bundled, little, tokens_at, sheet, copied, token_words, decoded_into}
use Rattle.listing.proofs.Decoding.{decode-whole}

-- four bytes spell the number that they are of
four-there : (n : ℕ) → n < 2 ^ 32 → n % 256 + 256 * (n / 256 % 256) + 65536 * (n / 65536 % 256) + 16777216 * (n / 16777216 % 256) ≡ n
four-there n h =
    let top : n / 16777216 % 256 ≡ n / 16777216 = mod-eq_of_lt (omega arith) in
    omega (arith, div-div-eq-div-mul n 256 256, div-div-eq-div-mul n 65536 256)

-- from a place on is from the start of what is left there
little-drop : (b : List ℕ) (i j : ℕ) → little (drop i b) j ≡ little b (i + j)
unfolding little
little-drop b i j =
    let e1 : i + (j + 1) ≡ i + j + 1 = omega arith in
    let e2 : i + (j + 2) ≡ i + j + 2 = omega arith in
    let e3 : i + (j + 3) ≡ i + j + 3 = omega arith in
    rw (get_or-drop i b j 0, get_or-drop i b (j + 1) 0, get_or-drop i b (j + 2) 0, get_or-drop i b (j + 3) 0, e1, e2, e3)

tokens-drop : (b : List ℕ) (i j m : ℕ) → tokens_at (drop i b) j m ≡ tokens_at b (i + j) m
unfolding tokens_at
tokens-drop b i j zero = refl
tokens-drop b i j (suc m) =
    let e1 : i + (j + 1) ≡ i + j + 1 = omega arith in
    let e5 : i + (j + 5) ≡ i + j + 5 = omega arith in
    let e9 : i + (j + 9) ≡ i + j + 9 = omega arith in
    rw (get_or-drop i b j 0, little-drop b i (j + 1), little-drop b i (j + 5), tokens-drop b i (j + 9) m, e1, e5, e9)

pub little-from : (b : List ℕ) (i : ℕ) → little b i ≡ little (drop i b) 0
little-from b i = let z : i + 0 ≡ i = omega arith in sym (rw z at (little-drop b i 0))

pub tokens-from : (b : List ℕ) (i m : ℕ) → tokens_at b i m ≡ tokens_at (drop i b) 0 m
tokens-from b i m = let z : i + 0 ≡ i = omega arith in sym (rw z at (tokens-drop b i 0 m))

-- of whole tokens: their bytes give them again, nine for each
tokens-there : (tokens : List ℕ) → Tokens tokens → tokens_at (token_bytes tokens) 0 (length tokens / 3) ≡ tokens
unfolding tokens_at token_bytes little
tokens-there [] h = refl
tokens-there (kind ∷ []) h = absurd h
tokens-there (kind ∷ start ∷ []) h = absurd h
tokens-there (kind ∷ start ∷ end ∷ rest) h =
    let m : suc (suc (suc (length rest))) / 3 ≡ suc (length rest / 3) = omega arith in
    rw (m, four-there start h.1, four-there end h.2) (ap (λ (l : List ℕ). kind ∷ start ∷ end ∷ l) (tokens-from (token_bytes (kind ∷ start ∷ end ∷ rest)) 9 (length rest / 3) ∙ tokens-there rest h.3))

nine-each : (tokens : List ℕ) → Tokens tokens → length (token_bytes tokens) ≡ 9 * (length tokens / 3)
unfolding token_bytes
nine-each [] h = refl
nine-each (kind ∷ []) h = absurd h
nine-each (kind ∷ start ∷ []) h = absurd h
nine-each (kind ∷ start ∷ end ∷ rest) h = let l = nine-each rest h.3 in omega arith

three-each : (tokens : List ℕ) → Tokens tokens → 3 * (length tokens / 3) ≡ length tokens
three-each [] h = refl
three-each (kind ∷ []) h = absurd h
three-each (kind ∷ start ∷ []) h = absurd h
three-each (kind ∷ start ∷ end ∷ rest) h = let l = three-each rest h.3 in omega arith

-- what stands where in a bundle
module _ (text tokens : List ℕ) (h : Tokens tokens) where
  bundle-length : length (bundle_of text tokens) ≡ 8 + length text + 9 * (length tokens / 3)
  unfolding bundle_of
  bundle-length =
      let l = nine-each tokens h in
      let k = length-append text (four_bytes (length tokens / 3) ++ token_bytes tokens) in
      omega arith

  behind-text : drop (4 + length text) (bundle_of text tokens) ≡ four_bytes (length tokens / 3) ++ token_bytes tokens
  unfolding bundle_of
  behind-text = sym (drop-drop (length text) 4 (bundle_of text tokens)) ∙ drop-append_seam text (four_bytes (length tokens / 3) ++ token_bytes tokens)

  behind-counts : drop (8 + length text) (bundle_of text tokens) ≡ token_bytes tokens
  behind-counts = let at : 4 + length text + 4 ≡ 8 + length text = omega arith in rw (← at, ← drop-drop 4 (4 + length text) (bundle_of text tokens), behind-text)

  text-count : length text < 2 ^ 32 → length text ≡ little (bundle_of text tokens) 0
  unfolding bundle_of little
  text-count c = sym (four-there (length text) c)

  token-count : length tokens / 3 < 2 ^ 32 → length tokens / 3 ≡ little (bundle_of text tokens) (4 + length text)
  unfolding little
  token-count c = sym (little-from (bundle_of text tokens) (4 + length text) ∙ ap (λ (l : List ℕ). little l 0) behind-text ∙ four-there (length tokens / 3) c)

  text-there : (mine : List ℕ) → text ++ drop (length text) mine ≡ copied (bundle_of text tokens) 4 (length text) mine
  unfolding bundle_of copied
  text-there mine = rw (take-append_seam text (four_bytes (length tokens / 3) ++ token_bytes tokens))

  words-there : (words : List ℕ) → tokens ++ drop (length tokens) words ≡ token_words (bundle_of text tokens) (8 + length text) (length tokens / 3) words
  unfolding token_words
  words-there words = rw (tokens-from (bundle_of text tokens) (8 + length text) (length tokens / 3), behind-counts, tokens-there tokens h, three-each tokens h)

  sheet-there :
      (mine words : List ℕ) → length text < 2 ^ 32 → length tokens / 3 < 2 ^ 32 → length text ≤ length mine → length tokens ≤ length words →
      sheet (length text) (length tokens / 3) (text ++ drop (length text) mine) (tokens ++ drop (length tokens) words) ≡ decoded_into (bundle_of text tokens) mine words
  sheet-there mine words c d r s =
      let l = bundle-length in
      decode-whole (bundle_of text tokens) mine words (omega arith) (text-count c) (omega arith) r (token-count d) (omega arith) l (text-there mine) (words-there words)

module _ (b mine words : List ℕ) where
  -- a bundle gives its text and its tokens, at the start of the buffers
  pub decoded-bundle :
      (s : Bundled (length mine) (length words) b) →
      decoded_into b mine words ≡ sheet (length s.text) (length s.tokens / 3) (s.text ++ drop (length s.text) mine) (s.tokens ++ drop (length s.tokens) words)
  decoded-bundle s = ap (λ (l : List ℕ). decoded_into l mine words) s.whole ∙ sym (sheet-there s.text s.tokens s.each_token mine words s.text_counted s.tokens_counted s.text_fits s.tokens_fit)

  -- two sheets never have one bundle
  pub one-sheet : (s t : Bundled (length mine) (length words) b) → (s.text ≡ t.text) × (s.tokens ≡ t.tokens)
  one-sheet s t =
      let e = sym (decoded-bundle s) ∙ decoded-bundle t in
      let n : length s.text ≡ length t.text = cc in
      let m : length s.tokens / 3 ≡ length t.tokens / 3 = cc in
      let l : length s.tokens ≡ length t.tokens = omega (arith, three-each s.tokens s.each_token, three-each t.tokens t.each_token) in
      (cc (take-append_seam s.text (drop (length s.text) mine), take-append_seam t.text (drop (length t.text) mine)), cc (take-append_seam s.tokens (drop (length s.tokens) words), take-append_seam t.tokens (drop (length t.tokens) words)))

-- within the lister's limits any text and any tokens come through
pub lister-bundle :
    (text tokens mine words : List ℕ) → Bytes text → Tokens tokens → length text ≤ 16384 → length tokens / 3 ≤ 1500 → length mine ≡ 16384 → length words ≡ 4500 →
    decoded_into (bundle_of text tokens) mine words ≡ sheet (length text) (length tokens / 3) (text ++ drop (length text) mine) (tokens ++ drop (length tokens) words)
lister-bundle text tokens mine words b t n m p q =
    decoded-bundle (bundle_of text tokens) mine words (record { text = text; tokens = tokens; whole = refl; each_byte = b; each_token = t; text_counted = omega arith; tokens_counted = omega arith; text_fits = omega arith; tokens_fit = omega (arith, three-each tokens t) })
