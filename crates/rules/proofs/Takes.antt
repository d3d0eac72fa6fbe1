-- That each turn of the loops on expressions that goes on takes a token.
use Rattle.std.specs.Prelude.{Some, None, Option}
use mathlib.Core.Path.{◌≡◌, refl}
use mathlib.Core.Bool.{Bool, true, false}
use Prim.Native.Nat.{ℕ, ◌<◌, ◌≤◌}
use native.Mathlib.Omega.{arith}
use native.Mathlib.Decide.{ℕ_discrete}
use lib.Dec.{ltb}
use Rattle.kinds.specs.Number as kind
use Rattle.kinds.specs.declared.operator.BinOp.{BinOp}
use Rattle.kinds.specs.Operators.{binary_of, precedence_of}
use Rattle.cursor.specs.declared.State.{State}
use Rattle.cursor.specs.declared.Kids.{Kids}
use Rattle.cursor.specs.Sheet.{Sheet, count, kind_at, Ranged}
use Rattle.cursor.specs.Rule.{World, Rule, if_so}
use Rattle.cursor.proofs.Ends.{Ends, well, Any, then, weaken, both}
use Rattle.cursor.proofs.Loops.{left, Takes}
use Rattle.cursor.proofs.TokenPaths.{there}
use Rattle.cursor.proofs.Keeps.{Plain, ground-stands, gives, binds, thens}
use Rattle.cursor.proofs.Kept.{eat-keeps, eat-range-keeps, eat-eol-keeps}
use Rattle.cursor.proofs.Chosen.{each}
use Rattle.cursor.proofs.Spends.{Spends, Feeds, Further, takes, always, spares, feeds, either-spends, first-spends, first-feeds, then-spends, if-spends}
use Rattle.cursor.proofs.Spent.{Found, bump-feeds, eat-spends, expect-spends, eat-range-spends, choose-spends, unexpected-spends}
use Rattle.types.specs.Items.{is_ended}
use Rattle.parts.specs.declared.values.Expr.{Expr}
use Rattle.parts.specs.Values.{link_of, row_of}
use Rattle.rules.specs.Inner.{Inner}
use Rattle.parts.specs.Steps.{no_member}
use Rattle.parts.proofs.UntilPaths.{until-takes}
use Rattle.parts.specs.Until.{until_turn}
use Rattle.rules.specs.Tables.{item}
use Rattle.rules.specs.Primary.{member_cases, access, postfix_turn}
use Rattle.rules.specs.Atoms.{case_turn}
use Rattle.rules.specs.Precedence.{handler_turn, infix_by, infix_turn}
use Rattle.rules.specs.Statements.{left_of, left_turn, right_turn}
use Rattle.rules.specs.Levels.{levels}
use Rattle.rules.proofs.Stays.{add-stays, Stays, expr-stays}
use Rattle.rules.proofs.RecordStays.{call-record-stays, braced-stays}
use Rattle.rules.proofs.ExprStays.{block-starts, item-stays, members-open, call_stays, match-case-starts, handler-turn-starts, operated-stays}
use Rattle.rules.proofs.StmtStays.{left-of-stays, knot-stays}

-- one rule or the other, where a token stands
-- where a token is taken whatever the answer is
feeds-always : {A : Type 0} {e : Sheet} {W : A → Type 0} {r : Rule A} → Feeds e Plain r → Feeds e W r
feeds-always x = record { ends = λ s w h. weaken (x.ends s w h) (λ s1 w1 a f _. f tt) (λ _ _ _ _. tt) }

pub either-feeds : {A : Type 0} {e : Sheet} {W : A → Type 0} {r q : Rule A} (b : Bool) → Feeds e W r → Feeds e W q → Feeds e W (if_so r q b)
either-feeds true x y = x
either-feeds false x y = y

-- Eof stands between no operands
eof-none : binary_of kind.Eof ≡ None
unfolding binary_of
eof-none = refl

module _ {r : Inner} (h : Stays r) where
  -- operators
  infix-by-feeds : (from min : ℕ) (lambda : Bool) (x : Expr) (k : ℕ) (o : Option BinOp) → Feeds r.sheet Further (infix_by r from min lambda x k o)
  unfolding infix_by
  infix-by-feeds from min lambda x k (Some op) = either-feeds (ltb (precedence_of op) min) (feeds (spares (λ x. x))) (first-feeds bump-feeds (λ _. operated-stays h from lambda x k (precedence_of op)))
  infix-by-feeds from min lambda x k None = feeds (spares (λ x. x))

  pub infix-spends : (from min : ℕ) (lambda : Bool) (x : Expr) → Spends r.sheet Further (infix_turn r from min lambda x)
  unfolding infix_turn infix_by count
  infix-spends from min lambda x = record { ends = λ s w. by s w (ℕ_discrete (kind_at r.sheet.tokens s.at) kind.Eof) }
    where
      by : (s : State) (w : World) → Dec (kind_at r.sheet.tokens s.at ≡ kind.Eof) → Ends (λ s1 _ n. Further n → left r.sheet s1 < left r.sheet s) Any (infix_turn r from min lambda x s w)
      by s w (yes q) = rw (q, eof-none) (well (λ x. absurd x))
      by s w (no q) = (infix-by-feeds from min lambda x _ (binary_of _)).ends s w (there r.sheet.tokens s.at q)

  -- calls and members
  no-member-spends : (safe : Ranged) (x : Expr) → Spends r.sheet Further (no_member r.sheet safe x)
  unfolding no_member
  no-member-spends safe x = either-spends (is_ended safe) unexpected-spends (spares (λ x. x))

  access-spends : (from : ℕ) (x : Expr) → Spends r.sheet Further (access r from x)
  unfolding access
  access-spends from x =
      then-spends (eat-range-keeps r.sheet kind.Question) (λ safe. choose-spends (member_cases r from safe x) refl (each (λ _ o. feeds-always o.feeds) _ (members-open h from safe x)) (no-member-spends safe x))

  pub postfix-spends : (from : ℕ) (lambda : Bool) (x : Expr) → Spends r.sheet Further (postfix_turn r from lambda x)
  unfolding postfix_turn
  postfix-spends from lambda x =
      if-spends (eat-keeps r.sheet kind.OpenParen) (eat-spends kind.OpenParen refl) (call_stays h from lambda x) (then-spends (braced-stays r.sheet lambda) (λ trailing. either-spends trailing
      (first-spends (block-starts h _).spends (λ closure. call-record-stays from (row_of (link_of x)) closure))
      (access-spends from x)))

  -- cases
  pub case-spends : (kids : Kids) → Spends r.sheet Further (case_turn r kids)
  unfolding case_turn
  case-spends kids =
      then-spends (eat-keeps r.sheet kind.CloseBrace) (λ closed. either-spends closed (spares (λ x. x)) (then-spends (eat-eol-keeps r.sheet) (λ _. first-spends (match-case-starts h).spends (λ c. thens (eat-eol-keeps r.sheet) (binds (add-stays kids c) (λ longer _. gives tt))))))

  -- sides of an assignment
  pub left-spends : (kids : Kids) → Spends r.sheet Further (left_turn r kids)
  unfolding left_turn left_of
  left-spends kids = record { ends = λ s w. then (both ((eat-range-keeps r.sheet kind.Comma).ends s w (ground-stands s)) ((eat-range-spends kind.Comma refl).ends s w)) (λ _ _ _ _. tt) (λ s1 w1 comma f. by s s1 w1 comma f.0.0.later.at f.1) }
    where
      by : (s s1 : State) (w1 : World) (comma : Ranged) → s.at ≤ s1.at → (Found comma → left r.sheet s1 < left r.sheet s) → Ends (λ s2 _ n. Further n → left r.sheet s2 < left r.sheet s) Any (left_of r comma kids s1 w1)
      by s s1 w1 (Some c) l f = let z = f tt in weaken ((left-of-stays h (Some c) kids).ends s1 w1 (ground-stands s1)) (λ s2 w2 n p _. let a = p.0.later.at in omega arith) (λ _ _ _ _. tt)
      by s s1 w1 None l f = well (λ x. absurd x)

  pub right-spends : (n : ℕ) (kids : Kids) → Spends r.sheet Further (right_turn r n kids)
  unfolding right_turn
  right-spends n kids = either-spends (ltb kids.count n) (first-spends (expect-spends kind.Comma refl) (λ _. binds (expr-stays h true) (λ link _. binds (add-stays kids link) (λ longer _. gives tt)))) (spares (λ x. x))

-- with any number of levels left
module _ (e : Sheet) (d : ℕ) where
  pub infix-turn-takes : (from min : ℕ) (lambda : Bool) → Takes e (infix_turn (levels e d) from min lambda)
  infix-turn-takes from min lambda = takes (infix-spends (knot-stays e d) from min lambda)

  pub postfix-turn-takes : (from : ℕ) (lambda : Bool) → Takes e (postfix_turn (levels e d) from lambda)
  postfix-turn-takes from lambda = takes (postfix-spends (knot-stays e d) from lambda)

  pub handler-turn-takes : Takes e (handler_turn (levels e d))
  handler-turn-takes = takes (λ kids. always (handler-turn-starts (knot-stays e d) kids).spends)

  pub case-turn-takes : Takes e (case_turn (levels e d))
  case-turn-takes = takes (case-spends (knot-stays e d))

  pub until-turn-takes : (k end : ℕ) → Takes e (until_turn e (item (levels e d) k) end)
  until-turn-takes k end = until-takes e (item (levels e d) k) end (item-stays (knot-stays e d) k)

  pub left-turn-takes : Takes e (left_turn (levels e d))
  left-turn-takes = takes (left-spends (knot-stays e d))

  pub right-turn-takes : (n : ℕ) → Takes e (right_turn (levels e d) n)
  right-turn-takes n = takes (right-spends (knot-stays e d) n)
