-- Expressions, blocks and functions, over what the rules are handed; and the lists of expressions.
use mathlib.Core.Path.{◌≡◌, refl}
use mathlib.Core.Bool.{Bool, true, false}
use Prim.Native.Nat.{ℕ}
use native.Mathlib.Omega.{arith}
use Rattle.kinds.specs.Number as kind
use Rattle.cursor.specs.declared.Kids.{Kids}
use Rattle.cursor.specs.Sheet.{Sheet}
use Rattle.parts.specs.Steps.{items_end}
use Rattle.rules.specs.Inner.{expr}
use Rattle.rules.specs.Blocks.{block, expr_and_block}
use Rattle.rules.specs.Functions.{function}
use Rattle.rules.specs.Tables.{item, items_of, brace}
use Rattle.rules.specs.Levels.{levels}
use Rattle.rules.proofs.Takes.{until-turn-takes}
use Rattle.grammar.specs.Places.{Place, Tok, Not}
use Rattle.grammar.specs.Symbols.{Form, Eols, Until, NoLast, Exprs, Block, Function, Expr, Prec, Property}
use Rattle.grammar.specs.Derives.{Derives, block_of, function_of, expr-of, table, block-expr}
use Rattle.grammar.specs.Words.{among}
use Rattle.grammar.proofs.FirstKinds.{opening-apart}
use Rattle.grammar.proofs.Starts.{starts}
use Rattle.sound.proofs.SoundExprs.{form_of}
use Rattle.complete.proofs.Cost.{costs}
use Rattle.complete.proofs.Records.{records}
use Rattle.complete.specs.Depth.{need}
use Rattle.complete.proofs.Meets.{◌⊕◌, inside, cost_of, Any, Meets}
use Rattle.complete.proofs.MeetsBinds.{answers, fits, any, next}
use Rattle.complete.proofs.MeetsSteps.{before-none, expects, adds, add_meets}
use Rattle.complete.proofs.MeetsValues.{begins}
use Rattle.complete.proofs.MeetsLists.{until-meets}
use Rattle.complete.proofs.MeetsTypes.{returns-meet}
use Rattle.complete.proofs.MeetsParts.{any-params-meet}
use Rattle.complete.proofs.MeetsRecords.{wrapping, block-record-meets, function-record-meets}

-- what the rules are handed: expressions and statements one level further in
pub record Handed (e : Sheet) (d : ℕ) : Type 0 where
  pub precs : {n : ℕ} {lambda : Bool} {f : Form} {p q : Place} (D : Derives e.text (Prec n lambda f) p q) → Meets e d p q (inside (cost_of D)) (λ x. form_of x ≡ f) ((levels e d).prec n lambda)
  pub bodies : {p q : Place} (D : Derives e.text (Exprs kind.CloseBrace) p q) → Meets e d p q (inside (cost_of D)) Any ((levels e d).exprs kind.CloseBrace)

-- what `{` opens where an expression may begin
pub record Braces (e : Sheet) (d : ℕ) : Type 0 where
  pub tables : {p q r : Place} (a : Tok kind.OpenBrace p q) (D : Derives e.text (Until Property NoLast kind.CloseBrace) q r) (from : ℕ) → Meets e d p r (cost_of (table a D)) Any (brace (levels e d) from)
  pub block-exprs : {p q r s : Place} (a : Tok kind.OpenBrace p q) (E : Derives e.text Eols q r) (n : Not kind.CloseBrace r) (D : Derives e.text (Exprs kind.CloseBrace) r s) (from : ℕ)
      → Meets e d p s (cost_of (block-expr a E n D)) Any (brace (levels e d) from)

module _ {e : Sheet} {d : ℕ} (h : Handed e d) where
  -- parse_expr
  pub exprs-meet : {lambda : Bool} {p q : Place} (D : Derives e.text (Expr lambda) p q) → Meets e d p q (cost_of D) Any (expr (levels e d) lambda)
  unfolding expr costs records need
  exprs-meet (expr-of D) = fits (omega arith) (omega arith) (omega arith) (before-none (h.precs D) (λ x _. answers))

  -- parse_block, perhaps with a record of another kind over it
  pub blocks-meet : {p q : Place} (D : Derives e.text Block p q) (wrap : ℕ) → Meets e d p q (cost_of D ⊕ wrapping wrap) Any (block (levels e d) wrap)
  unfolding block costs records need
  blocks-meet (block_of t D) wrap = fits (omega arith) (omega arith) (omega arith) (expects t (begins (λ from. next (h.bodies D) (λ row _. block-record-meets from wrap from row))))

  pub block-meets : {p q : Place} (D : Derives e.text Block p q) → Meets e d p q (cost_of D) Any (block (levels e d) 0)
  block-meets D = fits (omega arith) (omega arith) (omega arith) (blocks-meet D 0)

  -- parse_expr_and_block
  pub and-block-meets : {p q r : Place} (D : Derives e.text (Expr false) p q) (E : Derives e.text Block q r) (kids : Kids) → Meets e d p r (cost_of D ⊕ cost_of E) Any (expr_and_block (levels e d) kids)
  unfolding expr_and_block
  and-block-meets D E kids = next (exprs-meet D) (λ link _. before-none (block-meets E) (λ body _. adds kids link (λ one. any (add_meets one body))))

  -- arguments and elements
  pub arguments-meet : {p q : Place} (D : Derives e.text (Until (Expr true) NoLast kind.CloseParen) p q) (kids : Kids) → Meets e d p q (cost_of D) Any (items_of (levels e d) 0 kids)
  unfolding items_of item items_end among
  arguments-meet D kids = until-meets kind.CloseParen (item (levels e d) 0) refl (record { meets = λ E. exprs-meet E }) (until-turn-takes e d 0 kind.CloseParen) (record { no_end = λ E. opening-apart kind.CloseParen (starts E) refl; none = λ E. starts E }) D kids

  pub elements-meet : {p q : Place} (D : Derives e.text (Until (Expr true) NoLast kind.CloseBracket) p q) (kids : Kids) → Meets e d p q (cost_of D) Any (items_of (levels e d) 1 kids)
  unfolding items_of item items_end among
  elements-meet D kids = until-meets kind.CloseBracket (item (levels e d) 1) refl (record { meets = λ E. exprs-meet E }) (until-turn-takes e d 1 kind.CloseBracket) (record { no_end = λ E. opening-apart kind.CloseBracket (starts E) refl; none = λ E. starts E }) D kids

  -- parse_function, and the same of a closure
  pub functions-meet : {closure : Bool} {p q : Place} (D : Derives e.text (Function closure) p q) (from : ℕ) → Meets e d p q (cost_of D) Any (function (levels e d) from closure)
  unfolding function costs records need
  functions-meet {closure} (function_of D E F) from = fits (omega arith) (omega arith) (omega arith) (next (any-params-meet closure D) (λ i _. next (returns-meet E) (λ link _. next (block-meets F) (λ body _. function-record-meets from closure i link body))))
