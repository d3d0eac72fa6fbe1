-- What is known once the answer is `Ok`.
use Prim.Native.Nat.{ℕ, zero, suc, ◌+◌, ◌-◌, ◌*◌, ◌<◌, ◌≤◌}
use native.Mathlib.Omega.{arith}
use mathlib.Core.Path.{◌≡◌, refl, sym, ◌∙◌}
use mathlib.Core.Bool.{Bool, true, false, not, ◌&&◌, false≢true}
use mathlib.Core.List.{List, [], ◌∷◌}
use lib.ListN.{length, get_or, drop, length-take}
use lib.Dec.{leb, ltb, eqb}
use borrow.Author.Tests.{leb-true, ltb-false, eqb-false, eqb-true, not-false}
use Rattle.std.specs.Prelude.{Result, Ok, Err}
use Rattle.kinds.specs.Text.{part}
use Rattle.entry.specs.Utf8.{boundary, is_utf8}
use Rattle.entry.specs.declared.Refusal.{Refusal}
use Rattle.entry.specs.Check.{max_text, max_tokens, last_kind, EOF, STR, RAW_STR, BYTE_STR, bad_kind, bad_range, is_quote, quoted, marked, bad_quotes, token_fault, or_else, tokens_fault, entry_of}
use Rattle.entry.specs.Sound.{kind_of, start_of, end_of, count, Token, Sheet}
use Rattle.kinds.proofs.Logic.{both, neither}
use Rattle.entry.proofs.Paths.{range-good, refuse-fit, quotes-str, quotes-raw, quotes-byte}
use Rattle.entry.proofs.Grammar.{boundary-sound, utf8-decides}

-- an answer `Ok` passed every token
or-else-fit : (a b : Result (Unit {0}) Refusal) → or_else a b ≡ Ok tt → (a ≡ Ok tt) × (b ≡ Ok tt)
or-else-fit (Ok u) b p = (refl, p)
or-else-fit (Err r) b p = let z : ◌≡◌ {A = ℕ} 0 1 = cc in absurd (omega arith)

-- the part of a range in the text is as long as the range
part_length : (text : List ℕ) (start end : ℕ) → end ≤ length text → length (part text start end) ≤ end - start
part_length text start end p = rw (length-take (end - start) (drop start text)) (omega arith)

quoted-long : (s : List ℕ) → quoted s ≡ true → 2 ≤ length s
unfolding quoted
quoted-long s e = leb-true 2 (length s) (both (leb 2 (length s)) (is_quote (get_or s 0 0)) (both (leb 2 (length s) && is_quote (get_or s 0 0)) (eqb (get_or s 0 0) (get_or s (length s - 1) 0)) e).0).0

marked-long : (letter : ℕ) (s : List ℕ) → marked letter s ≡ true → 3 ≤ length s
unfolding marked
marked-long letter [] e = absurd (false≢true e)
marked-long letter (b ∷ s) e = let h = quoted-long s (both (eqb b letter) (quoted s) e).1 in omega arith

module _ (text : List ℕ) (kind start end : ℕ) (inside : end ≤ length text) (e : bad_quotes kind (part text start end) ≡ false) where
  str-part : kind ≡ STR → start + 1 ≤ end - 1
  str-part k =
      let q = quoted-long (part text start end) (not-false _ (sym (quotes-str kind (part text start end) k) ∙ e)) in
      let l = part_length text start end inside in
      omega arith

  raw-part : kind ≡ RAW_STR → start + 2 ≤ end - 1
  raw-part k =
      let q = marked-long 0x72 (part text start end) (not-false _ (sym (quotes-raw kind (part text start end) k) ∙ e)) in
      let l = part_length text start end inside in
      omega arith

  byte-part : kind ≡ BYTE_STR → start + 2 ≤ end - 1
  byte-part k =
      let q = marked-long 0x62 (part text start end) (not-false _ (sym (quotes-byte kind (part text start end) k) ∙ e)) in
      let l = part_length text start end inside in
      omega arith

-- a token that is fit, after one that ended at `last`
token-fit : (text : List ℕ) (last kind start end : ℕ) → token_fault (boundary text) text last kind start end ≡ Ok tt → Token text kind start end × (last ≤ start)
unfolding token_fault
token-fit text last kind start end e =
    let four = refuse-fit (bad_kind kind) _ _ e in
    let five = refuse-fit (bad_range (boundary text) (length text) last start end) _ _ four.1 in
    let six = refuse-fit (bad_quotes kind (part text start end)) _ _ five.1 in
    let k = neither (ltb last_kind kind) (eqb kind EOF) four.0 in
    let r = range-good (boundary text) (length text) last start end five.0 in (
      record {
        known = ltb-false last_kind kind k.0;
        not_end = eqb-false kind EOF k.1;
        filled = r.filled;
        inside = r.inside;
        starts = boundary-sound text start r.starts;
        ends = boundary-sound text end r.ends;
        str = str-part text kind start end r.inside six.0;
        raw = raw-part text kind start end r.inside six.0;
        bytes = byte-part text kind start end r.inside six.0;
      },
      r.onward,
    )

-- where the token before token `i` ended
before : ℕ → List ℕ → ℕ → ℕ
before last tokens zero = last
before last tokens (suc i) = end_of tokens i

-- what stands three words on, in a list three words longer
module _ (k s n : ℕ) (more : List ℕ) where
  kind-on : (i : ℕ) → kind_of (k ∷ s ∷ n ∷ more) (suc i) ≡ kind_of more i
  kind-on i = let a : suc i * 3 ≡ suc (suc (suc (i * 3))) = omega arith in rw a

  start-on : (i : ℕ) → start_of (k ∷ s ∷ n ∷ more) (suc i) ≡ start_of more i
  start-on i = let a : suc i * 3 + 1 ≡ suc (suc (suc (i * 3 + 1))) = omega arith in rw a

  end_on : (i : ℕ) → end_of (k ∷ s ∷ n ∷ more) (suc i) ≡ end_of more i
  end_on i = let a : suc i * 3 + 2 ≡ suc (suc (suc (i * 3 + 2))) = omega arith in rw a

  before_on : (i : ℕ) → end_of (k ∷ s ∷ n ∷ more) i ≡ before n more i
  unfolding before
  before_on zero = refl
  before_on (suc i) = end_on i

tokens-fit : (text : List ℕ) (last : ℕ) (tokens : List ℕ) → tokens_fault (boundary text) text last tokens ≡ Ok tt → (i : ℕ) → i < count tokens
    → Token text (kind_of tokens i) (start_of tokens i) (end_of tokens i) × (before last tokens i ≤ start_of tokens i)
unfolding tokens_fault before
tokens-fit text last [] e i p = absurd (omega arith)
tokens-fit text last (k ∷ []) e i p = absurd (omega arith)
tokens-fit text last (k ∷ s ∷ []) e i p = absurd (omega arith)
tokens-fit text last (k ∷ s ∷ n ∷ more) e zero p = token-fit text last k s n (or-else-fit (token_fault (boundary text) text last k s n) (tokens_fault (boundary text) text n more) e).0
tokens-fit text last (k ∷ s ∷ n ∷ more) e (suc i) p =
    let h = or-else-fit (token_fault (boundary text) text last k s n) (tokens_fault (boundary text) text n more) e in
    rw (kind-on k s n more i, start-on k s n more i, end_on k s n more i, before_on k s n more i) (tokens-fit text n more h.1 i (omega arith))

-- a token starts after every one before it, since each ends after its start and starts after the one before
module _ (text tokens : List ℕ)
    (each : (i : ℕ) → i < count tokens → Token text (kind_of tokens i) (start_of tokens i) (end_of tokens i) × (before 0 tokens i ≤ start_of tokens i)) where
  no-overlap : (i j : ℕ) → i < j → j < count tokens → end_of tokens i ≤ start_of tokens j
  unfolding before
  no-overlap i zero p q = absurd (omega arith)
  no-overlap i (suc j) p q = go (no-overlap i j) (eqb i j) refl
    where
      next : end_of tokens j ≤ start_of tokens (suc j)
      next = (each (suc j) q).1

      go : (i < j → j < count tokens → end_of tokens i ≤ start_of tokens j) → (x : Bool) → eqb i j ≡ x → end_of tokens i ≤ start_of tokens (suc j)
      go earlier true e = let s = eqb-true i j e in rw s next
      go earlier false e =
          let n = eqb-false i j e in
          let a = earlier (omega arith) (omega arith) in
          let b = (each j (omega arith)).0.filled in
          omega (arith, next)

-- the tests that an answer `Ok` passed
passed : (text tokens : List ℕ) → entry_of text tokens ≡ Ok tt
    → (ltb max_text (length text) ≡ false) × (ltb max_tokens (count tokens) ≡ false) × (not (is_utf8 text) ≡ false) × (tokens_fault (boundary text) text 0 tokens ≡ Ok tt)
unfolding entry_of
passed text tokens e =
    let one = refuse-fit (ltb max_text (length text)) _ _ e in
    let two = refuse-fit (ltb max_tokens (count tokens)) _ _ one.1 in
    let three = refuse-fit (not (is_utf8 text)) _ _ two.1 in
    (one.0, two.0, three.0, three.1)

pub fit-sheet : (text tokens : List ℕ) → entry_of text tokens ≡ Ok tt → Sheet text tokens
fit-sheet text tokens e =
    let h = passed text tokens e in
    let each = tokens-fit text 0 tokens h.3 in
    record {
      short = ltb-false max_text (length text) h.0;
      few = ltb-false max_tokens (count tokens) h.1;
      octets = (utf8-decides text).0 (not-false _ h.2);
      token = λ i p. (each i p).0;
      apart = no-overlap text tokens each;
    }
