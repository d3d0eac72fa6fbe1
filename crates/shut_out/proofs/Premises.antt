-- The premises of demand 3's clause on refusals are met, on eight sheets: each passes the entry check, follows the grammar, and fits a buffer that has
-- room for just the records of its tree. So whatever outcome meets `Demands` answers 0 with an allowance of just the sum, and 10 with one less.
use Prim.Native.Nat.{ℕ, ◌-◌, ◌<◌}
use native.Mathlib.Omega.{arith}
use mathlib.Core.Path.{◌≡◌, refl}
use mathlib.Core.List.{List, []}
use Rattle.kinds.specs.Kinds.{is_trivia}
use Rattle.cursor.specs.Tree.{size, join}
use Rattle.grammar.specs.Places.{kind_of, span_of, after, tokens_of, significant, before, opening}
use Rattle.grammar.specs.Shape.{shape}
use Rattle.grammar.specs.Follows.{Follows, tree_of}
use Rattle.grammar.proofs.Examples.{alone, product, empty-table, number-block, nothing, braced, nested, group-table, nameless}
use Rattle.complete.specs.Depth.{need}
use Rattle.marks.specs.Marks.{again, marks_at, readings}
use Rattle.parser.specs.Outcome.{Outcome}
use Rattle.parser.specs.Demands.{sum, Clean, Demands}
use Rattle.parser.proofs.Weighed.{Roomy, weighed}
use Rattle.known.proofs.Opened.{of-ints, of_types}
use Rattle.shut_out.proofs.Sheets.{room, two, braces-text, nested-text, function-text, nothing-fit, two-fit, product-fit, braces-fit, number-fit, key-fit, nested-fit, function-fit}

-- answered 0 with an allowance of that sum, and 10 with one less
pub record Exact {text tokens : List ℕ} (f : Follows text tokens) (n : List ℕ) (k : ℕ) : Type 0 where
  pub roomy : Roomy f n
  pub adds-up : sum f ≡ k
  pub enough : {o : Outcome} → Demands text tokens k n o → o.number ≡ 0
  pub one_less : 0 < k → {o : Outcome} → Demands text tokens (k - 1) n o → o.number ≡ 10

exactly : {text tokens : List ℕ} {f : Follows text tokens} {n : List ℕ} {k : ℕ} → Roomy f n → sum f ≡ k → Exact f n k
exactly r q = record { roomy = r; adds-up = q; enough = λ d. (weighed r d).covered.1 (omega (arith, q)); one_less = λ h d. (weighed r d).spent.1 (omega (arith, q, h)) }

pub nothing-met : Exact (nothing []) (room 1) 0
unfolding nothing tree_of shape before opening tokens_of significant kind_of span_of after size need marks_at readings join
nothing-met = exactly (record { fit = nothing-fit; room = omega arith; deep = omega arith }) refl

pub two-met : Exact two (room 3) 3
unfolding two alone tree_of shape before opening tokens_of significant is_trivia kind_of span_of after size need marks_at readings join
two-met = exactly (record { fit = two-fit; room = omega arith; deep = omega arith }) refl

pub product-met : Exact product (room 5) 5
unfolding product alone tree_of shape before opening tokens_of significant is_trivia kind_of span_of after size need marks_at readings join
product-met = exactly (record { fit = product-fit; room = omega arith; deep = omega arith }) refl

pub braces-met : Exact (empty-table braces-text) (room 2) 3
unfolding empty-table alone tree_of shape before opening tokens_of significant is_trivia kind_of span_of after size need marks_at readings join
braces-met = exactly (record { fit = braces-fit; room = omega arith; deep = omega arith }) refl

pub number-met : Exact number-block (room 4) 4
unfolding number-block alone tree_of shape before opening tokens_of significant is_trivia kind_of span_of after size need marks_at again readings join of-ints of_types
number-met = exactly (record { fit = number-fit; room = omega arith; deep = omega arith }) refl

pub key-met : Exact group-table (room 6) 7
unfolding group-table alone tree_of shape before opening tokens_of significant is_trivia kind_of span_of after size need marks_at readings join of-ints of_types
key-met = exactly (record { fit = key-fit; room = omega arith; deep = omega arith }) refl

pub nested-met : Exact (nested nested-text) (room 8) 22
unfolding nested braced alone tree_of shape before opening tokens_of significant is_trivia kind_of span_of after size need marks_at again readings join
nested-met = exactly (record { fit = nested-fit; room = omega arith; deep = omega arith }) refl

pub function-met : Exact (nameless function-text) (room 4) 6
unfolding nameless alone tree_of shape before opening tokens_of significant is_trivia kind_of span_of after size need marks_at again readings join
function-met = exactly (record { fit = function-fit; room = omega arith; deep = omega arith }) refl

-- of such a sheet, read, no error is listed
pub clean : {text tokens : List ℕ} (f : Follows text tokens) {n : List ℕ} {k : ℕ} {o : Outcome} → Exact f n k → Demands text tokens k n o → Clean o
clean f x d = let z = x.enough d in record { read = z; flawless = (d.judged z).1 f }
