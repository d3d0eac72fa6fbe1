-- The parsers that the document names under 'Strength of the statements', each shut out by the demands alone: `Demands` of what it answers to a named
-- small sheet, with no word of the contract's equation, ends in a contradiction; so do two wrong ends by `Concluded`.
use mathlib.Core.Path.{◌≡◌, refl, sym, ap, ◌∙◌}
use mathlib.Core.List.{List, [], ◌∷◌}
use mathlib.Core.Bool.{false}
use Prim.Native.Nat.{ℕ, zero, suc, ◌+◌, ◌-◌}
use native.Mathlib.Omega.{arith}
use borrow.Author.Tests.{eqb-false}
use lib.Dec.{eqb}
use lib.ListN.{replicate, get_or}
use Rattle.kinds.specs.Kinds.{is_trivia}
use Rattle.cursor.specs.declared.Span.{Span}
use Rattle.cursor.specs.Layout.{KIND, cell}
use Rattle.cursor.specs.Tree.{Trees, none, node, join, word, label, trees, meaning}
use Rattle.grammar.specs.Places.{before, opening, tokens_of, significant, kind_of, span_of, after}
use Rattle.grammar.specs.Follows.{tree_of}
use Rattle.grammar.specs.Shape.{shape}
use Rattle.grammar.specs.Words.{range, among, token_words, words}
use Rattle.grammar.proofs.Examples.{nothing, alone, empty-table, braces}
use Rattle.parser.specs.Outcome.{Outcome}
use Rattle.parser.specs.Concluded.{Concluded}
use Rattle.parser.specs.Demands.{Demands, tree_in}
use Rattle.shut_out.proofs.Sheets.{room, two-text, two-tokens, two, braces-text}
use Rattle.shut_out.proofs.Premises.{nothing-met, two-met, braces-met, clean}

apart : {A : Type 0} {a b : A} (f : A → ℕ) → a ≡ b → eqb (f a) (f b) ≡ false → ⊥
apart {a = a} {b = b} f p q = eqb-false (f a) (f b) q (ap f p)

-- refuses everything, the empty sheet too, under whatever number
pub refuses-everything : {o : Outcome} → (o.number ≡ 0 → ⊥) → Demands [] [] 0 (room 1) o → ⊥
refuses-everything h d = h (nothing-met.enough d)

-- the kind and the end of the root
abbrev root_kind : Trees → ℕ
root_kind none = 0
root_kind (node l ks ts) = l.kind

abbrev root_end : Trees → ℕ
root_end none = 0
root_end (node l ks ts) = l.end

-- one tree for the empty sheet and for braces
pub one-tree-for-all-sheets : {o p : Outcome} → tree_in o ≡ tree_in p → Demands [] [] 0 (room 1) o → Demands braces-text braces 3 (room 2) p → ⊥
unfolding nothing empty-table alone tree_of shape before opening tokens_of significant is_trivia kind_of span_of after join
one-tree-for-all-sheets q d f = apart root_end (sym (d.grown (clean (nothing []) nothing-met d) (nothing [])) ∙ q ∙ f.grown (clean (empty-table braces-text) braces-met f) (empty-table braces-text)) refl

-- no record is written: the node buffer is blank
no_word : (k i : ℕ) → ◌≡◌ {A = ℕ} (get_or (replicate {A = ℕ} k 0) i 0) 0
no_word zero i = refl
no_word (suc k) zero = refl
no_word (suc k) (suc i) = no_word k i

pub writes-no-records : {o : Outcome} → o.records ≡ room 1 → Demands [] [] 0 (room 1) o → ⊥
unfolding nothing tree_of shape before opening tokens_of significant kind_of span_of after meaning trees label word
writes-no-records {o} z d = apart (λ m. m) (sym blank-root ∙ ap root_kind (d.grown (clean (nothing []) nothing-met d) (nothing []))) refl
  where
    blank-root : root_kind (tree_in o) ≡ 0
    blank-root = (λ i. root_kind (meaning (z i) (o.nodes - 1))) ∙ no_word 8 (cell (o.nodes - 1) KIND)

-- of `a`, a new line, `b` the first statement is read, and the second is invented or left out: the words are not the sheet's
abbrev second : List Span → ℕ
second [] = 0
second (a ∷ []) = 0
second (a ∷ b ∷ rest) = b.start + 1

pub invents-the-rest : {o : Outcome} → words (tree_in o) ≡ range 0 1 ∷ range 0 1 ∷ [] → Demands two-text two-tokens 3 (room 3) o → ⊥
unfolding tokens_of token_words among
invents-the-rest q d = apart second (sym q ∙ d.spoken (clean two two-met d)) refl

pub leaves-out-the-rest : {o : Outcome} → words (tree_in o) ≡ range 0 1 ∷ [] → Demands two-text two-tokens 3 (room 3) o → ⊥
unfolding tokens_of token_words among
leaves-out-the-rest q d = apart second (sym q ∙ d.spoken (clean two two-met d)) refl

-- a made-up count of readings
pub makes-up-a-count : {o : Outcome} → (o.reads ≡ 3 → ⊥) → Demands two-text two-tokens 3 (room 3) o → ⊥
makes-up-a-count h d = h (d.summed (clean two two-met d) two ∙ two-met.adds-up)

-- a number that the document does not have, and a word left past the counts
pub answers-eleven : {text tokens n e x : List ℕ} {o : Outcome} → o.number ≡ 11 → Concluded text tokens n e x o → ⊥
answers-eleven q c = omega (arith, q, c.numbered)

pub leaves-a-word : {text tokens n e x : List ℕ} {o : Outcome} → o.number ≡ 0 → o.nodes ≡ 1 → get_or o.records 8 0 ≡ 7 → Concluded text tokens n e x o → ⊥
leaves-a-word {o = o} z k w c = let h = (c.trimmed z).records 8 (omega (arith, k)) in omega (arith, h, w)
