-- The document's sentence on depth, from the demands alone: x in 62 parentheses is read, and in 63 gets 9.
use Rattle.std.specs.Prelude.{Ok}
use Prim.Native.Nat.{ℕ, zero, suc, ◌+◌, ◌*◌}
use native.Mathlib.Omega.{arith}
use mathlib.Core.Path.{◌≡◌, refl}
use mathlib.Core.List.{List, [], ◌∷◌, ◌++◌}
use borrow.Author.Tests.{ltb-true}
use lib.ListN.{replicate}
use Rattle.kinds.specs.Number as kind
use Rattle.kinds.specs.Kinds.{is_trivia}
use Rattle.kinds.specs.Operators.{binary_of, level_of}
use Rattle.cursor.specs.Tree.{size, join}
use Rattle.entry.specs.Check.{entry_of}
use Rattle.grammar.specs.Places.{Token, Place, kind_of, span_of, after, tokens_of, significant, before, opening}
use Rattle.grammar.specs.Symbols.{Form, Name, Other, Atom}
use Rattle.grammar.specs.Derives.{Derives, no-eol, an-ident, exprs-of, last-stmt, expr-stmt, expr-of, paren-expr, name}
use Rattle.grammar.specs.Shape.{shape}
use Rattle.grammar.specs.Follows.{Follows, tree_of}
use Rattle.grammar.specs.Words.{among}
use Rattle.grammar.proofs.Tests.{takes, other, free}
use Rattle.grammar.proofs.Examples.{alone}
use Rattle.complete.specs.Depth.{need}
use Rattle.marks.specs.Marks.{again, marks_at, readings}
use Rattle.parser.specs.Outcome.{Outcome}
use Rattle.parser.specs.Demands.{levels, sum, Short, few-records, few-levels, few-readings, Demands}
use Rattle.known.proofs.Opened.{of-kinds, of_entry}
use Rattle.shut_out.proofs.Sheets.{room}

-- x in n parentheses, the first of them at i, before other tokens
abbrev token : ℕ → ℕ → Token
token k i = record { kind = k; start = i; end = i + 1 }

abbrev closing : ℕ → ℕ → Token
closing n i = token kind.CloseParen (i + 2 * n + 2)

unfoldable pub nest : ℕ → ℕ → List Token → List Token
nest zero i ts = token kind.Ident i ∷ ts
nest (suc n) i ts = token kind.OpenParen i ∷ nest n (i + 1) (closing n i ∷ ts)

-- where it ends
abbrev ends : ℕ → ℕ → ℕ
ends zero i = i + 1
ends (suc n) i = i + 2 * n + 2 + 1

abbrev form_of : ℕ → Form
form_of zero = Name
form_of (suc n) = Other

abbrev place : ℕ → List Token → Place
place prev ts = record { prev = prev; rest = ts }

unfoldable nested : {text : List ℕ} (n i prev : ℕ) (ts : List Token) → Derives text (Atom (form_of n)) (place prev (nest n i ts)) (place (ends n i) ts)
unfolding nest kind_of after among level_of binary_of
nested zero i prev ts = name (an-ident (takes refl refl))
nested (suc n) i prev ts = paren-expr (takes refl refl) (expr-of (alone (nested n (i + 1) (i + 1) (closing n i ∷ ts)) (free refl) (other refl) (ltb-true _ _ refl))) (takes refl refl)

-- each pair of parentheses is one level
nested-need : (text : List ℕ) (n i prev : ℕ) (ts : List Token) → need (nested {text = text} n i prev ts) ≡ n
unfolding nested alone need
nested-need text zero i prev ts = refl
nested-need text (suc n) i prev ts = let h = nested-need text n (i + 1) (i + 1) (closing n i ∷ ts) in omega (arith, h)

-- the words of tokens, three each
abbrev pub spelt : List Token → List ℕ
spelt [] = []
spelt (t ∷ ts) = t.kind ∷ t.start ∷ t.end ∷ spelt ts

abbrev pub text_of : ℕ → List ℕ
text_of n = replicate n 40 ++ (120 ∷ replicate n 41)

abbrev pub tokens_in : ℕ → List ℕ
tokens_in n = spelt (nest n 0 [])

unfoldable sixty-two : Follows (text_of 62) (tokens_in 62)
unfolding nest before tokens_of significant is_trivia kind_of after among level_of binary_of
sixty-two = record { end = _; body = exprs-of (no-eol (other refl)) (last-stmt (expr-stmt (alone (nested 62 0 0 []) (free refl) (other refl) (ltb-true _ _ refl)) (free refl)) (takes refl refl)); whole = refl }

unfoldable sixty-three : Follows (text_of 63) (tokens_in 63)
unfolding nest before tokens_of significant is_trivia kind_of after among level_of binary_of
sixty-three = record { end = _; body = exprs-of (no-eol (other refl)) (last-stmt (expr-stmt (alone (nested 63 0 0 []) (free refl) (other refl) (ltb-true _ _ refl)) (free refl)) (takes refl refl)); whole = refl }

sixty-two-fit : entry_of (text_of 62) (tokens_in 62) ≡ Ok tt
unfolding nest of-kinds of_entry
sixty-two-fit = refl

sixty-three-fit : entry_of (text_of 63) (tokens_in 63) ≡ Ok tt
unfolding nest of-kinds of_entry
sixty-three-fit = refl

sixty-two-levels : levels sixty-two ≡ 64
unfolding sixty-two alone need
sixty-two-levels = let h = nested-need (text_of 62) 62 0 0 [] in omega (arith, h)

sixty-three-levels : levels sixty-three ≡ 65
unfolding sixty-three alone need
sixty-three-levels = let h = nested-need (text_of 63) 63 0 0 [] in omega (arith, h)

sixty-two-sum : sum sixty-two ≡ 125
unfolding sixty-two nest nested alone marks_at again readings before tokens_of significant is_trivia kind_of after
sixty-two-sum = refl

sixty-three-sum : sum sixty-three ≡ 127
unfolding sixty-three nest nested alone marks_at again readings before tokens_of significant is_trivia kind_of after
sixty-three-sum = refl

sixty-two-size : size (tree_of sixty-two) ≡ 64
unfolding sixty-two nest nested alone tree_of shape before opening tokens_of significant is_trivia kind_of span_of after size join
sixty-two-size = refl

sixty-three-size : size (tree_of sixty-three) ≡ 65
unfolding sixty-three nest nested alone tree_of shape before opening tokens_of significant is_trivia kind_of span_of after size join
sixty-three-size = refl

-- with just the room and the allowance that they take, the first is read and the second refused for its depth
pub read-in-62 : {o : Outcome} → Demands (text_of 62) (tokens_in 62) 125 (room 64) o → o.number ≡ 0
read-in-62 d = (d.afforded sixty-two sixty-two-fit).read.1 (record { room = omega (arith, sixty-two-size); deep = omega (arith, sixty-two-levels); paid = omega (arith, sixty-two-sum) })

too-deep : {k : ℕ} → Short sixty-three 127 (room 65) k → k ≡ 9
too-deep (few-records h) = absurd (omega (arith, h, sixty-three-size))
too-deep (few-levels h) = refl
too-deep (few-readings h) = absurd (omega (arith, h, sixty-three-sum))

pub refused-in-63 : {o : Outcome} → Demands (text_of 63) (tokens_in 63) 127 (room 65) o → o.number ≡ 9
refused-in-63 d = let a = d.afforded sixty-three sixty-three-fit in too-deep (a.refused (λ q. absurd (omega (arith, sixty-three-levels, (a.read.0 q).deep))))
