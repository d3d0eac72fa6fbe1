-- Demand 3's sentence on refusals as the document has it, from `Demands` alone: a sheet that follows the grammar, and for which there is room, is refused
-- for its readings exactly if their sum passes the allowance.
use Rattle.std.specs.Prelude.{Ok}
use mathlib.Core.Path.{◌≡◌, refl}
use mathlib.Core.List.{List}
use mathlib.Core.Logic.{◌↔◌}
use Prim.Native.Nat.{ℕ, ◌<◌, ◌≤◌}
use native.Mathlib.Omega.{arith}
use native.Mathlib.Decide.{dec_lt}
use Rattle.cursor.specs.Tree.{size}
use Rattle.entry.specs.Check.{entry_of}
use Rattle.grammar.specs.Follows.{Follows, tree_of}
use Rattle.parser.specs.Outcome.{Outcome}
use Rattle.parser.specs.Parse.{depth}
use Rattle.parser.specs.Demands.{node_room, levels, sum, Short, few-records, few-levels, few-readings, Afforded, Demands}

-- a sheet that passes the entry check and follows the grammar, with room for the records of its tree and depth for its nesting
pub record Roomy {text tokens : List ℕ} (f : Follows text tokens) (n : List ℕ) : Type 0 where
  pub fit : entry_of text tokens ≡ Ok tt
  pub room : size (tree_of f) ≤ node_room n
  pub deep : levels f ≤ depth

-- a number that is 10 exactly if a sum of readings passes the allowance, and 0 otherwise
pub record Weighed (allowance readings number : ℕ) : Type 0 where
  pub spent : (number ≡ 10) ↔ (allowance < readings)
  pub covered : (number ≡ 0) ↔ (readings ≤ allowance)

module _ {text tokens : List ℕ} {f : Follows text tokens} {n : List ℕ} {allowance : ℕ} (r : Roomy f n) where
  -- of a roomy sheet no other number is left than 10
  ten : {k : ℕ} → Short f allowance n k → k ≡ 10
  ten (few-records h) = absurd (omega (arith, h, r.room))
  ten (few-levels h) = absurd (omega (arith, h, r.deep))
  ten (few-readings h) = refl

  spent-so : {k : ℕ} → Afforded f allowance n k → allowance < sum f → k ≡ 10
  spent-so a h = ten (a.refused (λ q. absurd (omega (arith, h, (a.read.0 q).paid))))

  read-so : {k : ℕ} → Afforded f allowance n k → sum f ≤ allowance → k ≡ 0
  read-so a h = a.read.1 (record { room = r.room; deep = r.deep; paid = h })

  by-sum : {k : ℕ} → Afforded f allowance n k → Dec (allowance < sum f) → Weighed allowance (sum f) k
  by-sum a (yes h) = let q = spent-so a h in record { spent = ((λ _. h), (λ _. q)); covered = ((λ z. absurd (omega (arith, q, z))), (λ g. absurd (omega (arith, h, g)))) }
  by-sum a (no h) = let g : sum f ≤ allowance = omega arith in let q = read-so a g in record { spent = ((λ z. absurd (omega (arith, q, z))), (λ i. absurd (h i))); covered = ((λ _. g), (λ _. q)) }

  pub weighed : {o : Outcome} → Demands text tokens allowance n o → Weighed allowance (sum f) o.number
  weighed d = by-sum (d.afforded f r.fit) (dec_lt allowance (sum f))
