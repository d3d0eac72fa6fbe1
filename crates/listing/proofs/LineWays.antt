-- Each way through the functions that write the lines.
-- Assumes nothing.
use mathlib.Core.Path.{◌≡◌, refl, sym, ap, ◌∙◌}
use mathlib.Core.List.{List, [], ◌∷◌, ◌++◌, map, append-nil}
use Prim.Native.Nat.{ℕ, ◌+◌, ◌*◌, ◌^◌, ◌<◌, ◌≤◌}
use native.Mathlib.Numerals.{add-one}
use lib.ListN.{length, get_or, take, drop, drop_of_length-le}
use lib.Seq.{drop-cons}
use borrow.Author.Tests.{eq-eqb, ne_eqb}
use Rattle.kinds.specs.Spelling.{bytes}
use Rattle.cursor.specs.declared.Label.{Label}
use Rattle.cursor.specs.Layout.{CLASS, FOUND, ERROR_START, ERROR_END, KINDS_FROM, KINDS_COUNT}
use Rattle.listing.specs.declared.page.Page.{Page}
use Rattle.listing.specs.Page.{emits}
use Rattle.listing.specs.Decimal.{decimal, integer}
use Rattle.listing.specs.Names.{name_from, record_name, detail_name}
use Rattle.listing.specs.Lines.{fields, detail, node_line, found, error_word, error_line, first_line, refusal_line}
use Rattle.listing.proofs.Pages.{emits-append, and_then}
use Rattle.listing.proofs.Written.{told, field, also_fields}

-- the detail: an integer, a name, or nothing
module _ (p : Page) (l : Label) where
  pub detail-int : {q r : Page} → l.kind ≡ 3 → q ≡ emits (32 ∷ []) p → r ≡ emits (integer (l.one + 2 ^ 32 * l.two)) q → r ≡ emits (fields (detail l)) p
  unfolding detail
  detail-int h e f = rw (eq-eqb l.kind 3 h) (field p (integer (l.one + 2 ^ 32 * l.two)) e f)

  module _ (n : l.kind ≡ 3 → ⊥) where
    pub detail-named : (place : ℕ) {q : Page} → name_from place ∷ [] ≡ detail_name l.kind l.one → q ≡ emits (fields (name_from place ∷ [])) p → q ≡ emits (fields (detail l)) p
    unfolding detail
    detail-named place e f = rw (ne_eqb l.kind 3 n, ← e) f

    pub detail-nothing : [] ≡ detail_name l.kind l.one → p ≡ emits (fields (detail l)) p
    unfolding detail fields emits
    detail-nothing e = rw (ne_eqb l.kind 3 n, ← e) refl

pub node-line :
    (p : Page) (level : ℕ) (l : Label) (place : ℕ) {p1 p2 p3 p4 p5 p6 : Page} → name_from place ≡ record_name l.kind →
    p1 ≡ emits (decimal level) p → p2 ≡ emits (fields (name_from place ∷ [])) p1 → p3 ≡ emits (fields (decimal l.start ∷ [])) p2 → p4 ≡ emits (fields (decimal l.end ∷ [])) p3 →
    p5 ≡ emits (fields (detail l)) p4 → p6 ≡ emits (10 ∷ []) p5 → p6 ≡ emits (node_line level l) p
unfolding node_line
node-line p level l place e e1 e2 e3 e4 e5 e6 =
    and_then (decimal level) _ p e1 (and_then _ (10 ∷ []) _ (also_fields (record_name l.kind ∷ []) _ _ (rw e at e2) (also_fields (decimal l.start ∷ []) _ _ e3 (also_fields (decimal l.end ∷ []) (detail l) _ e4 e5))) e6)

-- what is left of the expected kinds: one more, and none
module _ (ks : List ℕ) (n : ℕ) (p : Page) where
  pub kinds-on : (k : ℕ) {q : Page} → (n < length ks) × (k ≡ get_or ks n k) → q ≡ emits (fields (decimal k ∷ [])) p → emits (fields (map decimal (drop n ks))) p ≡ emits (fields (map decimal (drop (n + 1) ks))) q
  kinds-on k h e =
      let split : drop n ks ≡ k ∷ drop (n + 1) ks = drop-cons ks n k h.0 ∙ rw (← h.1, add-one) refl in
      rw split (sym (also_fields (decimal k ∷ []) (map decimal (drop (n + 1) ks)) p e refl))

  pub kinds-end : length ks ≤ n → emits (fields (map decimal (drop n ks))) p ≡ p
  unfolding fields emits
  kinds-end h = rw (drop_of_length-le ks h)

module _ (p : Page) (class what : ℕ) where
  pub found-int : {q r : Page} → class ≡ 1 → q ≡ emits (32 ∷ bytes "int") p → r ≡ emits (fields (decimal what ∷ [])) q → r ≡ emits (fields (found class what)) p
  unfolding found fields
  found-int h e f = rw (eq-eqb class 1 h) (also_fields (bytes "int" ∷ []) (decimal what ∷ []) p e f)

  pub found-kind : {q : Page} → (class ≡ 1 → ⊥) → q ≡ emits (fields (decimal what ∷ [])) p → q ≡ emits (fields (found class what)) p
  unfolding found
  found-kind h f = rw (ne_eqb class 1 h) f

pub error-line :
    (p : Page) (errors expected : List ℕ) (i : ℕ) {p1 p2 p3 p4 p5 p6 : Page} {class what start end from count : ℕ} →
    class ≡ error_word errors i CLASS → what ≡ error_word errors i FOUND → start ≡ error_word errors i ERROR_START → end ≡ error_word errors i ERROR_END → from ≡ error_word errors i KINDS_FROM → count ≡ error_word errors i KINDS_COUNT →
    p1 ≡ emits (bytes "error") p → p2 ≡ emits (fields (found class what)) p1 → p3 ≡ emits (fields (decimal start ∷ [])) p2 → p4 ≡ emits (fields (decimal end ∷ [])) p3 →
    p5 ≡ emits (fields (map decimal (take count (drop from expected)))) p4 → p6 ≡ emits (10 ∷ []) p5 → p6 ≡ emits (error_line errors expected i) p
unfolding error_line
error-line p errors expected i {class = class} {what = what} {start = start} {end = end} {from = from} {count = count} w0 w1 w2 w3 w4 w5 e1 e2 e3 e4 e5 e6 =
    rw (← w0, ← w1, ← w2, ← w3, ← w4, ← w5)
    (and_then (bytes "error") _ p e1 (and_then _ (10 ∷ []) _ (also_fields (found class what) _ _ e2 (also_fields (decimal start ∷ []) _ _ e3 (also_fields (decimal end ∷ []) (map decimal (take count (drop from expected))) _ e4 e5))) e6))

-- fixed byte strings as fields
word-field : (w : List ℕ) → 32 ∷ w ≡ fields (w ∷ [])
unfolding fields
word-field w = ap (λ (l : List ℕ). 32 ∷ l) (sym (append-nil w))

two_fields : (a b : List ℕ) → fields (a ∷ b ∷ []) ≡ 32 ∷ (a ++ (32 ∷ b))
unfolding fields
two_fields a b = rw (append-nil b)

pub first-line :
    (p : Page) (reads nodes errors : ℕ) {p1 p2 p3 p4 p5 p6 p7 : Page} →
    p1 ≡ emits (bytes "read 0 reads") p → p2 ≡ emits (fields (decimal reads ∷ [])) p1 → p3 ≡ emits (bytes " nodes") p2 → p4 ≡ emits (fields (decimal nodes ∷ [])) p3 →
    p5 ≡ emits (bytes " errors") p4 → p6 ≡ emits (fields (decimal errors ∷ [])) p5 → p7 ≡ emits (10 ∷ []) p6 → p7 ≡ emits (first_line reads nodes errors) p
unfolding first_line
first-line p reads nodes errors {p1} {p2} {p3} {p4} {p5} e1 e2 e3 e4 e5 e6 e7 =
    let a1 : p1 ≡ emits (fields (bytes "0" ∷ bytes "reads" ∷ [])) (emits (bytes "read") p) = rw (two_fields (bytes "0") (bytes "reads")) (e1 ∙ emits-append (bytes "read") (bytes " 0 reads") p) in
    let a3 : p3 ≡ emits (fields (bytes "nodes" ∷ [])) p2 = told p2 (word-field (bytes "nodes")) e3 in
    let a5 : p5 ≡ emits (fields (bytes "errors" ∷ [])) p4 = told p4 (word-field (bytes "errors")) e5 in
    and_then (bytes "read") _ p refl
    (and_then _ (10 ∷ []) _
    (also_fields (bytes "0" ∷ bytes "reads" ∷ []) _ _ a1 (also_fields (decimal reads ∷ []) _ _ e2 (also_fields (bytes "nodes" ∷ []) _ _ a3 (also_fields (decimal nodes ∷ []) _ _ e4 (also_fields (bytes "errors" ∷ []) (decimal errors ∷ []) _ a5 e6)))))
    e7)

pub refusal-line : (p : Page) (number : ℕ) {p1 p2 p3 : Page} → p1 ≡ emits (bytes "refused ") p → p2 ≡ emits (decimal number) p1 → p3 ≡ emits (10 ∷ []) p2 → p3 ≡ emits (refusal_line number) p
unfolding refusal_line
refusal-line p number e1 e2 e3 = and_then (bytes "refused") _ p refl (and_then _ (10 ∷ []) _ (field _ (decimal number) (e1 ∙ emits-append (bytes "refused") (32 ∷ []) p) e2) e3)
