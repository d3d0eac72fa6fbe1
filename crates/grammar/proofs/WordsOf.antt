-- What a tree's words have to do with the tokens between two places. `Adds a b p q` says: b has the words of a, and behind them those of the
-- tokens from p to q. Such facts are put together as the parts of a production are.
use Prim.Native.Nat.{ℕ}
use mathlib.Core.Path.{◌≡◌, refl, sym, ap, ◌∙◌}
use mathlib.Core.List.{List, [], ◌∷◌, ◌++◌, append_assoc, append-nil}
use mathlib.Core.Bool.{true, false}
use lib.Dec.{eqb}
use Rattle.cursor.specs.declared.Label.{Label}
use Rattle.cursor.specs.declared.Span.{Span}
use Rattle.cursor.specs.Node as record_of
use Rattle.cursor.specs.Tree.{Trees, none, node, join, tree}
use Rattle.grammar.specs.Places.{Place, kind_of, start_of, after, Tok}
use Rattle.grammar.specs.Words.{among, word_kinds, word_records, range, given, token_words, own_word, type_word, words}
use Rattle.grammar.proofs.WordsOfTokens.{NoWord, quiet-token, word-token}

pub record Adds (a b : Trees) (p q : Place) : Type 0 where
  pub same : words b ++ token_words q.rest ≡ words a ++ token_words p.rest

pub words-join : (a b : Trees) → words (join a b) ≡ words a ++ words b
unfolding join words
words-join none b = refl
words-join (node l ks ts) b = ap (λ x. own_word l ++ (words ks ++ (type_word l ++ x))) (words-join ts b) ∙ sym (regroup (own_word l) (words ks) (type_word l) (words ts) (words b))
  where
    regroup : (s t u v w : List Span) → (s ++ (t ++ (u ++ v))) ++ w ≡ s ++ (t ++ (u ++ (v ++ w)))
    regroup s t u v w = simp append_assoc

-- nothing more; one after the other; a row that begins with another
pub still : {a : Trees} {p : Place} → Adds a a p p
still = record { same = refl }

infixr 5 ◌▹◌
pub ◌▹◌ : {a b c : Trees} {p q r : Place} → Adds a b p q → Adds b c q r → Adds a c p r
◌▹◌ x y = record { same = y.same ∙ x.same }

pub also : {a b : Trees} {p q : Place} → Adds none b p q → Adds a (join a b) p q
unfolding words
also {a} {b} {p} {q} x = record { same = ap (λ z. z ++ token_words q.rest) (words-join a b) ∙ append_assoc (words a) (words b) (token_words q.rest) ∙ ap (λ z. words a ++ z) x.same }

-- a token that is no word
pub token : {k : ℕ} {a : Trees} {p q : Place} → Tok k p q → NoWord k → Adds a a p q
token {a = a} t e = record { same = ap (λ z. words a ++ z) (quiet-token e t) }

-- the kinds of records that are no word and have none of their own
abbrev pub Plain : ℕ → Type 0
Plain k = (among k word_records ≡ false) × (eqb k record_of.TypeCheck ≡ false)

pub record-words : (l : Label) (ks : Trees) → Plain l.kind → words (tree l ks) ≡ words ks
unfolding words own_word type_word
record-words l ks e = ap (λ b. given b (range l.start l.end) ++ (words ks ++ (given (eqb l.kind record_of.TypeCheck) (range l.two l.end) ++ []))) e.0
    ∙ ap (λ b. words ks ++ (given b (range l.two l.end) ++ [])) e.1 ∙ append-nil (words ks)

pub under : {a ks : Trees} (l : Label) {p q : Place} → Adds a ks p q → Plain l.kind → Adds a (tree l ks) p q
under {ks = ks} l {q = q} x e = record { same = ap (λ z. z ++ token_words q.rest) (record-words l ks e) ∙ x.same }

pub inside : {a ks : Trees} {l : Label} {p q : Place} → Plain l.kind → Adds a (tree l ks) p q → Adds a ks p q
inside {ks = ks} {l = l} {q = q} e x = record { same = ap (λ z. z ++ token_words q.rest) (sym (record-words l ks e)) ∙ x.same }

-- a token that is a word, and its record
pub record Word (l : Label) (start end : ℕ) : Type 0 where
  pub own : among l.kind word_records ≡ true
  pub other : eqb l.kind record_of.TypeCheck ≡ false
  pub from : l.start ≡ start
  pub to : l.end ≡ end

pub word : {l : Label} {p q : Place} → among (kind_of p) word_kinds ≡ true → after p ≡ q → Word l (start_of p) q.prev → Adds none (tree l none) p q
unfolding words own_word type_word
word {l} {p} {q} e f w = record {
  same = ap (λ b. (given b (range l.start l.end) ++ (given (eqb l.kind record_of.TypeCheck) (range l.two l.end) ++ [])) ++ token_words q.rest) w.own
      ∙ ap (λ b. (range l.start l.end ∷ (given b (range l.two l.end) ++ [])) ++ token_words q.rest) w.other
      ∙ (λ i. range (w.from i) (w.to i) ∷ token_words q.rest) ∙ sym (word-token p q e f);
}

-- the type word of a TypeCheck
pub type-word : {ks : Trees} {p q : Place} (x one flags : ℕ) → among (kind_of p) word_kinds ≡ true → after p ≡ q → Adds ks (tree (record { kind = record_of.TypeCheck; start = x; end = q.prev; one = one; two = start_of p; flags = flags }) ks) p q
unfolding words own_word type_word among
type-word {ks} {p} {q} x one flags e f = record { same = append_assoc (words ks) _ (token_words q.rest) ∙ ap (λ z. words ks ++ z) (sym (word-token p q e f)) }
