-- The parts of statements and expressions are unambiguous: parameters, functions, blocks, handlers, effects, imports, the names of a `for`, what
-- stands behind `else`.
use Prim.Native.Nat.{ℕ}
use mathlib.Core.Path.{◌≡◌, refl, sym}
use mathlib.Core.List.{List}
use mathlib.Core.Bool.{Bool}
use native.Mathlib.Omega.{arith}
use Rattle.cursor.specs.Node as node
use Rattle.cursor.specs.Tree.{none, join}
use Rattle.parts.specs.Records.{function_kind}
use Rattle.grammar.specs.Places.{Place, start_of}
use Rattle.grammar.specs.Symbols.{Params, Function, Block, Effect, Handler, Handlers, Names, Alternate}
use Rattle.grammar.specs.Derives.{Derives}
use Rattle.grammar.specs.Derives as g
use Rattle.grammar.specs.Builders.{only, more, row_over, signature, handler_over, covered}
use Rattle.grammar.specs.Shape.{shape}
use Rattle.grammar.proofs.Starts.{starts}
use Rattle.grammar.proofs.UnambiguousClaims.{Agree, by-brace}
use Rattle.grammar.proofs.UnambiguousBelow.{Below}
use Rattle.grammar.proofs.UnambiguousTokens.{step, meet, refuse, ident, longer, value}
use Rattle.grammar.proofs.UnambiguousLists.{parameters, closure-parameters}

module _ {text : List ℕ} where
  pub params : {closure : Bool} {p q u v : Place} (d : Derives text (Params closure) p q) → Below d → (e : Derives text (Params closure) u v) → p ≡ u → Agree d e
  unfolding shape
  params (g.params_of a d) b (g.params_of a' d') e = let r = (b (parameters text)).agrees d' (step a a' e) in record { ends = r.ends; shapes = r.shapes }
  params (g.closure-params a d) b (g.closure-params a' d') e = let r = (b (closure-parameters text)).agrees d' (step a a' e) in record { ends = r.ends; shapes = r.shapes }

  pub block : {p q u v : Place} (d : Derives text Block p q) → Below d → (e : Derives text Block u v) → p ≡ u → Agree d e
  unfolding shape
  block (g.block_of a d) b (g.block_of a' d') e =
      let l = step a a' e in
      let r = (b by-brace).agrees d' l in
      record { ends = r.ends; shapes = λ x so i. row_over node.Block (start_of (l i)) (r.ends i) (value r i) }

  pub function : {closure : Bool} {p q u v : Place} (d : Derives text (Function closure) p q) → Below d → (e : Derives text (Function closure) u v) → p ≡ u → Agree d e
  unfolding shape
  function (g.function_of {closure = closure} d f k) b (g.function_of d' f' k') e =
      let r = b.0.agrees d' e in
      let t = b.1.agrees f' r.ends in
      let w = b.2.agrees k' t.ends in
      record { ends = w.ends; shapes = λ x so i. signature (function_kind closure) x (w.ends i) (value r i) (value t i) (value w i).row }

  pub effect : {p q u v : Place} (d : Derives text Effect p q) → Below d → (e : Derives text Effect u v) → p ≡ u → Agree d e
  unfolding shape
  effect (g.effect_of a d f k) b (g.effect_of a' d' f' k') e =
      let r = ident d d' (step a a' e) in
      let t = b.0.agrees f' r.ends in
      let w = b.1.agrees k' t.ends in
      record { ends = w.ends; shapes = λ x so i. only (join (value r i).row (signature node.Effect (start_of (e i)) (w.ends i) (value t i) (value w i) none).row) }

  pub handler : {p q u v : Place} (d : Derives text Handler p q) → Below d → (e : Derives text Handler u v) → p ≡ u → Agree d e
  unfolding shape
  handler (g.handler-of a d f k) b (g.handler-of a' d' f' k') e =
      let r = ident d d' (step a a' e) in
      let t = b.0.agrees f' r.ends in
      let w = b.1.agrees k' t.ends in
      record { ends = w.ends; shapes = λ x so i. handler_over (start_of (e i)) (w.ends i) (value r i) (value t i) (value w i) }

  pub handlers : {p q u v : Place} (d : Derives text Handlers p q) → Below d → (e : Derives text Handlers u v) → p ≡ u → Agree d e
  unfolding shape
  handlers (g.last-handler d h) b (g.last-handler d' h') e = let r = b.agrees d' e in record { ends = r.ends; shapes = λ x so i. more so (value r i) }
  handlers (g.last-handler d h) b (g.more-handlers d' f') e = absurd (refuse h (starts f').stands (b.agrees d' e).ends)
  handlers (g.more-handlers d f) b (g.last-handler d' h') e = absurd (refuse h' (starts f).stands (sym (b.0.agrees d' e).ends))
  handlers (g.more-handlers d f) b (g.more-handlers d' f') e =
      let r = b.0.agrees d' e in
      let t = b.1.agrees f' r.ends in
      record { ends = t.ends; shapes = longer r t }

  pub names : {p q u v : Place} (d : Derives text Names p q) → Below d → (e : Derives text Names u v) → p ≡ u → Agree d e
  unfolding shape
  names (g.last_name d h) b (g.last_name d' h') e = let r = ident d d' e in record { ends = r.ends; shapes = λ x so i. more so (value r i) }
  names (g.last_name d h) b (g.more-names d' a' f') e = absurd (refuse h a'.here (ident d d' e).ends)
  names (g.more-names d a f) b (g.last_name d' h') e = absurd (refuse h' a.here (sym (ident d d' e).ends))
  names (g.more-names d a f) b (g.more-names d' a' f') e =
      let r = ident d d' e in
      let t = b.agrees f' (step a a' r.ends) in
      record { ends = t.ends; shapes = longer r t }

  pub alternate : {p q u v : Place} (d : Derives text Alternate p q) → Below d → (e : Derives text Alternate u v) → p ≡ u → Agree d e
  unfolding shape
  alternate (g.no-else h) b (g.no-else h') e = record { ends = e; shapes = λ x so. refl }
  alternate (g.no-else h) b (g.else-if a' h' d') e = absurd (refuse h a'.here e)
  alternate (g.no-else h) b (g.else-block a' d') e = absurd (refuse h a'.here e)
  alternate (g.else-if a h d) b (g.no-else h') e = absurd (refuse h' a.here (sym e))
  alternate (g.else-if a h d) b (g.else-if a' h' d') e = let r = b.agrees d' (step a a' e) in record { ends = r.ends; shapes = λ x so. value r }
  alternate (g.else-if a h d) b (g.else-block a' d') e = absurd (omega (arith, meet h.stands (starts d').stands (step a a' e)))
  alternate (g.else-block a d) b (g.no-else h') e = absurd (refuse h' a.here (sym e))
  alternate (g.else-block a d) b (g.else-if a' h' d') e = absurd (omega (arith, meet (starts d).stands h'.stands (step a a' e)))
  alternate (g.else-block a d) b (g.else-block a' d') e = let r = b.agrees d' (step a a' e) in record { ends = r.ends; shapes = λ x so i. only (covered node.ExprBlock (value r i).row) }
