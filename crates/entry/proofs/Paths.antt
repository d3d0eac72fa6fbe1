-- Each way through the tests of a token, of the tokens and of the whole, as an equation of the rule.
use Prim.Native.Nat.{ℕ, zero, suc, ◌+◌, ◌-◌, ◌*◌, ◌/◌, ◌<◌, ◌≤◌}
use native.Mathlib.Omega.{arith}
use mathlib.Core.Path.{◌≡◌, refl, sym, ap, ◌∙◌}
use mathlib.Core.Bool.{Bool, true, false, not, ◌||◌}
use mathlib.Core.List.{List, [], ◌∷◌}
use lib.ListN.{length, get_or, take, drop, length-drop}
use lib.Seq.{drop-cons, drop-drop, take_all}
use lib.Dec.{leb, ltb, eqb, lit<}
use native.Mathlib.Nat.{add-zero}
use Rattle.std.proofs.lemmas.List.{get_or-take, get_or-drop}
use Rattle.std.specs.Simd.{first_chunks}
use borrow.Author.Tests.{eq-eqb, ne_eqb, lt-ltb, le-ltb, le-leb, lt-leb, leb-false, ltb-false, not-false}
use Rattle.std.specs.Prelude.{Result, Ok, Err}
use Rattle.kinds.specs.Text.{part}
use Rattle.entry.specs.Utf8.{tail, boundary, is_utf8, no_tail}
use Rattle.entry.specs.Check.{max_text, max_tokens, last_kind, EOF, STR, RAW_STR, BYTE_STR, refuse, bad_kind, bad_range, is_quote, quoted, marked, bad_quotes, token_fault, or_else, tokens_fault, entry_of}
use Rattle.kinds.proofs.Logic.{neither, or-false}
use Rattle.entry.proofs.Fits.{fits-past}
use Rattle.entry.specs.declared.Refusal.{Refusal}
use Rattle.entry.specs.declared.Refusal.TheVariants.{TextTooLong, TooManyTokens, NotUtf8, BadKind, BadRange, BadQuotes}

pub kind-below : (k : ℕ) → k < EOF → bad_kind k ≡ false
kind-below k p = rw (le-ltb last_kind k (omega arith), ne_eqb k EOF (λ e. omega (arith, e)))

pub kind-end : (k : ℕ) → k ≡ EOF → bad_kind k ≡ true
kind-end k p = rw p

pub kind-above : (k : ℕ) → (k ≡ EOF → ⊥) → bad_kind k ≡ ltb last_kind k
kind-above k p = rw (ne_eqb k EOF p) (or-false (ltb last_kind k))

module _ (at : ℕ → Bool) (size last start end : ℕ) where
  pub range-empty : end ≤ start → bad_range at size last start end ≡ true
  unfolding bad_range
  range-empty p = rw (le-leb _ _ p)

  module _ (p : start < end) where
    pub range-start : ltb start last || not (at start) ≡ true → bad_range at size last start end ≡ true
    unfolding bad_range
    range-start e = rw (lt-leb _ _ p) (go (ltb size end) (ltb start last) (not (at start)) e)
      where
        go : (x y z : Bool) → y || z ≡ true → false || x || y || z || not (at end) ≡ true
        go true y z e = refl
        go false true z e = refl
        go false false z e = rw e

    pub range-end : ltb start last || not (at start) ≡ false → bad_range at size last start end ≡ ltb size end || not (at end)
    unfolding bad_range
    range-end e =
        let h = neither (ltb start last) (not (at start)) e in
        rw (lt-leb _ _ p, h.0, h.1) (ap (λ x. x || not (at end)) (or-false (ltb size end || false) ∙ or-false (ltb size end)))

-- what is known of a range that is not refused
pub record InText (at : ℕ → Bool) (size last start end : ℕ) : Type 0 where
  pub filled : start < end
  pub inside : end ≤ size
  pub onward : last ≤ start
  pub starts : at start ≡ true
  pub ends : at end ≡ true

pub range-good : (at : ℕ → Bool) (size last start end : ℕ) → bad_range at size last start end ≡ false → InText at size last start end
unfolding bad_range
range-good at size last start end e =
    let d = neither (leb end start || ltb size end || ltb start last || not (at start)) (not (at end)) e in
    let c = neither (leb end start || ltb size end || ltb start last) (not (at start)) d.0 in
    let b = neither (leb end start || ltb size end) (ltb start last) c.0 in
    let a = neither (leb end start) (ltb size end) b.0 in
    record {
      filled = leb-false _ _ a.0;
      inside = ltb-false _ _ a.1;
      onward = ltb-false _ _ b.1;
      starts = not-false _ c.1;
      ends = not-false _ d.1;
    }

-- a start and an end alone
pub start-again : (t : List ℕ) (last start : ℕ) → no_tail t last ≡ true → start ≡ last → ltb start last || not (no_tail t start) ≡ false
start-again t last start p e = rw (e, p, le-ltb last last (omega arith))

pub start_back : (t : List ℕ) (last start : ℕ) → start < last → ltb start last || not (no_tail t start) ≡ true
start_back t last start p = rw (lt-ltb _ _ p)

pub start-on : (t : List ℕ) (last start : ℕ) → last ≤ start → ltb start last || not (no_tail t start) ≡ not (no_tail t start)
start-on t last start p = rw (le-ltb _ _ p)

pub end-within : (t : List ℕ) (end : ℕ) → end < length t → ltb (length t) end || not (no_tail t end) ≡ not (no_tail t end)
end-within t end p = rw (le-ltb (length t) end (omega arith))

pub end-past : (t : List ℕ) (end : ℕ) → length t ≤ end → ltb (length t) end || not (no_tail t end) ≡ ltb (length t) end
unfolding no_tail
end-past t end p = rw (fits-past tail [] t end p) (or-false (ltb (length t) end))

module _ (s : List ℕ) where
  pub quoted-short : length s < 2 → quoted s ≡ false
  unfolding quoted
  quoted-short p = rw (lt-leb _ _ p)

  pub quoted-bare : 2 ≤ length s → is_quote (get_or s 0 0) ≡ false → quoted s ≡ false
  unfolding quoted
  quoted-bare p q = rw (le-leb _ _ p, q)

  pub quoted-ends : 2 ≤ length s → is_quote (get_or s 0 0) ≡ true → quoted s ≡ eqb (get_or s 0 0) (get_or s (length s - 1) 0)
  unfolding quoted
  quoted-ends p q = rw (le-leb _ _ p, q)

pub marked-none : (letter : ℕ) (s : List ℕ) → length s ≡ 0 → marked letter s ≡ false
unfolding marked
marked-none letter [] p = refl
marked-none letter (b ∷ s) p = absurd (omega arith)

pub marked_other : (letter : ℕ) (s : List ℕ) → (length s ≡ 0 → ⊥) → (get_or s 0 0 ≡ letter → ⊥) → marked letter s ≡ false
unfolding marked
marked_other letter [] p q = refl
marked_other letter (b ∷ s) p q = rw (ne_eqb _ _ q)

pub marked-rest : (letter : ℕ) (s : List ℕ) → (length s ≡ 0 → ⊥) → get_or s 0 0 ≡ letter → marked letter s ≡ quoted (take (length s - 1) (drop 1 s))
unfolding marked
marked-rest letter [] p q = absurd (p refl)
marked-rest letter (b ∷ s) p q = rw (eq-eqb _ _ q, take_all (length (b ∷ s) - 1) s (omega arith))

module _ (kind : ℕ) (s : List ℕ) where
  pub quotes-str : kind ≡ STR → bad_quotes kind s ≡ not (quoted s)
  unfolding bad_quotes
  quotes-str p = rw p

  pub quotes-raw : kind ≡ RAW_STR → bad_quotes kind s ≡ not (marked 0x72 s)
  unfolding bad_quotes
  quotes-raw p = rw p

  pub quotes-byte : kind ≡ BYTE_STR → bad_quotes kind s ≡ not (marked 0x62 s)
  unfolding bad_quotes
  quotes-byte p = rw p

  pub quotes-none : (kind ≡ STR → ⊥) → (kind ≡ RAW_STR → ⊥) → (kind ≡ BYTE_STR → ⊥) → bad_quotes kind s ≡ false
  unfolding bad_quotes
  quotes-none p q r = rw (ne_eqb _ _ p, ne_eqb _ _ q, ne_eqb _ _ r)

  -- the three stand side by side
  pub quotes-below : kind < STR → bad_quotes kind s ≡ false
  quotes-below p = quotes-none (λ e. omega (arith, e)) (λ e. omega (arith, e)) (λ e. omega (arith, e))

  pub quotes-above : BYTE_STR < kind → bad_quotes kind s ≡ false
  quotes-above p = quotes-none (λ e. omega (arith, e)) (λ e. omega (arith, e)) (λ e. omega (arith, e))

  pub quotes-last : STR ≤ kind → kind ≤ BYTE_STR → (kind ≡ STR → ⊥) → (kind ≡ RAW_STR → ⊥) → bad_quotes kind s ≡ not (marked 0x62 s)
  quotes-last low high p q = quotes-byte (omega (arith, p, q))

module _ (at : ℕ → Bool) (text : List ℕ) (last kind start end : ℕ) where
  pub fault-kind : bad_kind kind ≡ true → token_fault at text last kind start end ≡ Err BadKind
  unfolding token_fault
  fault-kind p = rw p

  module _ (p : bad_kind kind ≡ false) where
    pub fault-range : bad_range at (length text) last start end ≡ true → token_fault at text last kind start end ≡ Err BadRange
    unfolding token_fault
    fault-range q = rw (p, q)

    module _ (q : bad_range at (length text) last start end ≡ false) where
      pub fault-quotes : bad_quotes kind (part text start end) ≡ true → token_fault at text last kind start end ≡ Err BadQuotes
      unfolding token_fault
      fault-quotes r = rw (p, q, r)

      pub fault-none : bad_quotes kind (part text start end) ≡ false → token_fault at text last kind start end ≡ Ok tt
      unfolding token_fault
      fault-none r = rw (p, q, r)

-- an answer `Ok` passed every test on the way, and its range ends between two characters
pub refuse-fit : (b : Bool) (r : Refusal) (e : Result (Unit {0}) Refusal) → refuse b r e ≡ Ok tt → (b ≡ false) × (e ≡ Ok tt)
refuse-fit true r e p = let z : ◌≡◌ {A = ℕ} 0 1 = cc in absurd (omega arith)
refuse-fit false r e p = (refl, p)

pub fit-ends : (at : ℕ → Bool) (text : List ℕ) (last kind start end : ℕ) → token_fault at text last kind start end ≡ Ok tt → at end ≡ true
unfolding token_fault
fit-ends at text last kind start end e =
    let four = refuse-fit (bad_kind kind) _ _ e in
    let five = refuse-fit (bad_range at (length text) last start end) _ _ four.1 in
    (range-good at (length text) last start end five.0).ends

module _ (at : ℕ → Bool) (text : List ℕ) (last : ℕ) where
  tokens-short : (ws : List ℕ) → length ws < 3 → tokens_fault at text last ws ≡ Ok tt
  unfolding tokens_fault
  tokens-short [] p = refl
  tokens-short (k ∷ []) p = refl
  tokens-short (k ∷ s ∷ []) p = refl
  tokens-short (k ∷ s ∷ e ∷ ws) p = absurd (omega arith)

  module _ (ws : List ℕ) (i : ℕ) where
    pub tokens-end : length ws - i < 3 → tokens_fault at text last (drop i ws) ≡ Ok tt
    tokens-end p = tokens-short (drop i ws) (rw (length-drop i ws) p)

    -- three words at place i are a token, and the tokens go on three words later
    pub tokens-more : 3 ≤ length ws - i
        → tokens_fault at text last (drop i ws)
        ≡ or_else (token_fault at text last (get_or ws i 0) (get_or ws (i + 1) 0) (get_or ws (i + 2) 0)) (tokens_fault at text (get_or ws (i + 2) 0) (drop (i + 3) ws))
    unfolding tokens_fault
    tokens-more p =
        let two : i + 2 ≡ suc (i + 1) = omega arith in
        let three : i + 3 ≡ suc (i + 2) = omega arith in
        let one : i + 1 ≡ suc i = omega arith in
        let a : drop i ws ≡ get_or ws i 0 ∷ drop (i + 1) ws = rw one (drop-cons ws i 0 (omega arith)) in
        let b : drop (i + 1) ws ≡ get_or ws (i + 1) 0 ∷ drop (i + 2) ws = rw two (drop-cons ws (i + 1) 0 (omega arith)) in
        let c : drop (i + 2) ws ≡ get_or ws (i + 2) 0 ∷ drop (i + 3) ws = rw three (drop-cons ws (i + 2) 0 (omega arith)) in
        let all : drop i ws ≡ get_or ws i 0 ∷ get_or ws (i + 1) 0 ∷ get_or ws (i + 2) 0 ∷ drop (i + 3) ws = a ∙ ap (λ l. get_or ws i 0 ∷ l) (b ∙ ap (λ l. get_or ws (i + 1) 0 ∷ l) c) in
        rw all

    module _ (p : 3 ≤ length ws - i) where
      pub tokens-next : token_fault at text last (get_or ws i 0) (get_or ws (i + 1) 0) (get_or ws (i + 2) 0) ≡ Ok tt
          → tokens_fault at text last (drop i ws) ≡ tokens_fault at text (get_or ws (i + 2) 0) (drop (i + 3) ws)
      tokens-next e = tokens-more p ∙ rw e

      pub tokens-bad : {r : Refusal} → token_fault at text last (get_or ws i 0) (get_or ws (i + 1) 0) (get_or ws (i + 2) 0) ≡ Err r
          → tokens_fault at text last (drop i ws) ≡ Err r
      tokens-bad e = tokens-more p ∙ rw e

-- the i-th chunk of three is what stands three times as far on
chunk : (k : ℕ) (ws : List ℕ) (i : ℕ) → i < k → get_or (first_chunks 3 k ws) i [] ≡ take 3 (drop (3 * i) ws)
chunk zero ws i h = absurd (omega arith)
chunk (suc k) ws zero h = refl
chunk (suc k) ws (suc i) h =
    let further : 3 * suc i ≡ 3 + 3 * i = omega arith in
    chunk k (drop 3 ws) i (omega arith) ∙ rw (drop-drop (3 * i) 3 ws, further)

module _ (at : ℕ → Bool) (text : List ℕ) (last : ℕ) (ws : List ℕ) (i : ℕ) where
  pub chunks-end : length ws / 3 ≤ i → tokens_fault at text last (drop (3 * i) ws) ≡ Ok tt
  chunks-end h = tokens-end at text last ws (3 * i) (omega arith)

  module _ {chunks : List (List ℕ)} (are : chunks ≡ first_chunks 3 (length ws / 3) ws) (h : i < length ws / 3) where
    word : (m : ℕ) → m < 3 → get_or (get_or chunks i []) m 0 ≡ get_or ws (3 * i + m) 0
    word m l = rw (are, chunk (length ws / 3) ws i h) (get_or-take 3 (drop (3 * i) ws) m 0 l ∙ get_or-drop (3 * i) ws m 0)

    fault : token_fault at text last (get_or (get_or chunks i []) 0 0) (get_or (get_or chunks i []) 1 0) (get_or (get_or chunks i []) 2 0)
        ≡ token_fault at text last (get_or ws (3 * i) 0) (get_or ws (3 * i + 1) 0) (get_or ws (3 * i + 2) 0)
    fault = let first : get_or (get_or chunks i []) 0 0 ≡ get_or ws (3 * i) 0 = rw add-zero at (word 0 (lit< tt)) in rw (first, word 1 (lit< tt), word 2 (lit< tt))

    pub chunk-next : token_fault at text last (get_or (get_or chunks i []) 0 0) (get_or (get_or chunks i []) 1 0) (get_or (get_or chunks i []) 2 0) ≡ Ok tt
        → tokens_fault at text last (drop (3 * i) ws) ≡ tokens_fault at text (get_or (get_or chunks i []) 2 0) (drop (3 * (i + 1)) ws)
    chunk-next e =
        let further : 3 * (i + 1) ≡ 3 * i + 3 = omega arith in
        rw (word 2 (lit< tt), further) (tokens-next at text last ws (3 * i) (omega arith) (sym fault ∙ e))

    pub chunk-bad : {r : Refusal} → token_fault at text last (get_or (get_or chunks i []) 0 0) (get_or (get_or chunks i []) 1 0) (get_or (get_or chunks i []) 2 0) ≡ Err r
        → tokens_fault at text last (drop (3 * i) ws) ≡ Err r
    chunk-bad e = tokens-bad at text last ws (3 * i) (omega arith) (sym fault ∙ e)

module _ (text tokens : List ℕ) where
  pub entry-long : max_text < length text → entry_of text tokens ≡ Err TextTooLong
  unfolding entry_of
  entry-long p = rw (lt-ltb _ _ p)

  module _ (p : length text ≤ max_text) where
    pub entry-many : max_tokens < length tokens / 3 → entry_of text tokens ≡ Err TooManyTokens
    unfolding entry_of
    entry-many q = rw (le-ltb _ _ p, lt-ltb _ _ q)

    module _ (q : length tokens / 3 ≤ max_tokens) where
      pub entry-bytes : is_utf8 text ≡ false → entry_of text tokens ≡ Err NotUtf8
      unfolding entry_of
      entry-bytes r = rw (le-ltb _ _ p, le-ltb _ _ q, r)

      pub entry-tokens : is_utf8 text ≡ true → entry_of text tokens ≡ tokens_fault (boundary text) text 0 tokens
      unfolding entry_of
      entry-tokens r = rw (le-ltb _ _ p, le-ltb _ _ q, r)
