-- A list of a derivation has no more items than the derivation has tokens.
use Rattle.std.specs.Prelude.{Some, None}
use Prim.Native.Nat.{ℕ, ◌+◌, ◌≤◌}
use native.Mathlib.Omega.{arith}
use mathlib.Core.Path.{refl}
use mathlib.Core.List.{List}
use lib.ListN.{length}
use Rattle.cursor.specs.Node as node
use Rattle.cursor.specs.Tree.{none, join}
use Rattle.grammar.specs.Places.{Place, span_of, start_of}
use Rattle.grammar.specs.Symbols.{Sym}
use Rattle.grammar.specs.Derives.{Derives}
use Rattle.grammar.specs.Derives as by
use Rattle.grammar.specs.Builders.{Shape, blank, more, made, covered, call_over, member_over}
use Rattle.grammar.specs.Shape.{shape}
use Rattle.lengths.proofs.Taken.{Takes, stays, ◌▸◌, step, token, one, takes}
use Rattle.lengths.proofs.Symbols.{Closed}

-- from a items to b ones, no more are added than tokens stand between two places
pub record Few (a b : ℕ) (p q : Place) : Type 0 where
  pub few : b + length q.rest ≤ a + length p.rest

still : {n a : ℕ} {p q : Place} → Takes n p q → Few a a p q
still x = record { few = omega (arith, x.taken) }

plus : {a : ℕ} {p q : Place} → Takes 1 p q → Few a (a + 1) p q
plus x = record { few = omega (arith, x.taken) }

-- a value has no items, and neither has what begins anew
fresh : {n a : ℕ} {p q : Place} → Takes n p q → Few a 0 p q
fresh x = record { few = omega (arith, x.taken) }

anew : {a b : ℕ} {p q : Place} → Few 0 b p q → Few a b p q
anew x = record { few = omega (arith, x.few) }

infixr 5 ◌⊕◌
◌⊕◌ : {a b c : ℕ} {p q r : Place} → Few a b p q → Few b c q r → Few a c p r
x ⊕ y = record { few = omega (arith, x.few, y.few) }

-- what stands before a token may take nothing
infixl 6 ◌◂◌
◌◂◌ : {n m : ℕ} {p q r : Place} → Takes n p q → Takes m q r → Takes m p r
x ◂ y = record { taken = omega (arith, x.taken, y.taken) }

pub few-items : {text : List ℕ} {y : Sym} {p q : Place} (d : Derives text y p q) → Closed y → (x : ℕ) (so : Shape) → Few so.count (shape d x so).count p q
unfolding shape
-- helpers
few-items (by.no-eol h) c x so = still stays
few-items (by.an-eol a d) c x so = still (token a ▸ takes d)
few-items (by.until-of a d) c x so = still (takes a) ⊕ few-items d c x so
few-items (by.items-end a) c x so = still (token a)
few-items (by.items-last d a b) c x so = still (takes d ▸ takes a ▸ token b)
few-items (by.items-final d a b) c x so = plus (takes d ◂ takes a ◂ one b c)
few-items (by.items-comma d a b z e) c x so = plus (takes d ◂ takes a ◂ one b refl ▸ takes z) ⊕ few-items e c x (more so (shape d 0 blank))
few-items (by.dots a) c x so = fresh (token a)
few-items (by.rest_of a d) c x so = fresh (token a ▸ takes d)
-- literals and names
few-items (by.a-literal a b) c x so = fresh (step b)
few-items (by.an-ident a) c x so = fresh (token a)
-- types
few-items (by.one_type d h) c x so = anew (few-items d tt 0 blank)
few-items (by.union d h e) c x so = fresh (takes d ▸ takes e)
few-items (by.no-bar h) c x so = still stays
few-items (by.a-bar a d e) c x so = plus (one a refl ▸ takes d) ⊕ few-items e tt x (more so (shape d 0 blank))
few-items (by.ty-paren a d b) c x so = fresh (token a ▸ takes d ▸ token b)
few-items (by.ty-name d) c x so = anew (few-items d tt 0 blank)
few-items (by.ty-table a d) c x so = fresh (token a ▸ takes d)
few-items (by.ty-function a d e) c x so = fresh (token a ▸ takes d ▸ takes e)
few-items (by.ty-literal d) c x so = anew (few-items d tt 0 blank)
few-items (by.ty-pair d a e) c x so = fresh (takes d ▸ token a ▸ takes e)
few-items (by.others a d b z e) c x so = fresh (token a ▸ takes d ▸ token b ▸ token z ▸ takes e)
few-items (by.no-type h) c x so = fresh stays
few-items (by.returned a d) c x so = anew (still (token a) ⊕ few-items d tt 0 blank)
few-items (by.bare d h) c x so = anew (few-items d tt 0 blank)
few-items (by.typed-ident d a e) c x so = fresh (takes d ▸ token a ▸ takes e)
few-items (by.params_of a d) c x so = still (token a) ⊕ few-items d refl x so
few-items (by.closure-params a d) c x so = still (token a) ⊕ few-items d refl x so
-- patterns
few-items (by.pattern-name d) c x so = anew (few-items d tt 0 blank)
few-items (by.pattern-table a d) c x so = fresh (token a ▸ takes d)
few-items (by.pattern-list a d) c x so = fresh (token a ▸ takes d)
few-items (by.pattern-literal d) c x so = anew (few-items d tt 0 blank)
few-items (by.pattern-pair d a e) c x so = fresh (takes d ▸ token a ▸ takes e)
-- statements in a row
few-items (by.exprs-of a d) c x so = still (takes a) ⊕ few-items d tt x so
few-items (by.no-stmt a) c x so = still (token a)
few-items (by.last-stmt d a) c x so = plus (takes d ▸ token a)
few-items (by.a-line d a b e) c x so = plus (takes d ▸ token a ▸ takes b) ⊕ few-items e tt x (more so (shape d 0 blank))
few-items (by.block_of a d) c x so = fresh (token a ▸ takes d)
-- functions and effects
few-items (by.function_of d e f) c x so = fresh (takes d ▸ takes e ▸ takes f)
few-items (by.effect_of a d e f) c x so = fresh (token a ▸ takes d ▸ takes e ▸ takes f)
-- statements
few-items (by.fn-stmt a d e) c x so = fresh (token a ▸ takes d ▸ takes e)
few-items (by.import-stmt {p = p} a d) c x so = anew (still (token a) ⊕ few-items d tt (start_of p) blank)
few-items (by.effect-stmt d) c x so = fresh (takes d)
few-items (by.glo-fn a b d e) c x so = fresh (token a ▸ token b ▸ takes d ▸ takes e)
few-items (by.glo-effect a d) c x so = fresh (token a ▸ takes d)
few-items (by.glo-assign a d b e) c x so = fresh (token a ▸ takes d ▸ token b ▸ takes e)
few-items (by.path-more d a e) c x so = plus (takes d ▸ token a) ⊕ few-items e tt x (more so (shape d 0 blank))
few-items (by.path-alone d h) c x so = fresh (takes d)
few-items (by.path-as d a e) c x so = fresh (takes d ▸ token a ▸ takes e)
few-items (by.path-items d a b e) c x so = fresh (takes d ▸ token a ▸ token b ▸ takes e)
few-items (by.path-all d a b) c x so = fresh (takes d ▸ token a ▸ token b)
few-items (by.item-alone d h) c x so = fresh (takes d)
few-items (by.item-as d a e) c x so = fresh (takes d ▸ token a ▸ takes e)
few-items (by.expr-stmt d h) c x so = anew (few-items d tt 0 blank)
few-items (by.assign d f a e) c x so = fresh (takes d ▸ token a ▸ takes e)
few-items (by.typed-assign d a e b f) c x so = fresh (takes d ▸ token a ▸ takes e ▸ token b ▸ takes f)
few-items (by.op-assign d f z a e) c x so = fresh (takes d ▸ token a ▸ takes e)
few-items (by.unpack d f e a g h) c x so = fresh (takes d ▸ takes e ▸ token a ▸ takes g)
few-items (by.multi d f e a g h) c x so = fresh (takes d ▸ takes e ▸ token a ▸ takes g ▸ takes h)
few-items (by.no-left h) c x so = still stays
few-items (by.a-left a d f e) c x so = plus (one a refl ▸ takes d) ⊕ few-items e tt x (more so (shape d 0 blank))
few-items by.no-right c x so = still stays
few-items (by.a-right a d e) c x so = plus (one a refl ▸ takes d) ⊕ few-items e tt x (more so (shape d 0 blank))
-- expressions with operators
few-items (by.expr-of d) c x so = anew (few-items d tt 0 blank)
few-items (by.prec-of {p = p} d e) c x so = anew (few-items d tt 0 blank) ⊕ few-items e tt (start_of p) (shape d 0 blank)
few-items (by.no-op h) c x so = still stays
few-items (by.binary {k = k} {r = r} l z a d e) c x so = fresh (token a ▸ takes d) ⊕ few-items e tt x (made node.Binary x r k 0 0 (join so.row (shape d 0 blank).row))
few-items (by.type-check {word = word} {q = q} {r = r} l a z b e) c x so = fresh (token a ▸ step b) ⊕ few-items e tt x (made node.TypeCheck x r word (start_of q) 0 so.row)
few-items (by.not-expr a d) c x so = fresh (token a ▸ takes d)
few-items (by.neg-expr a d) c x so = fresh (token a ▸ takes d)
few-items (by.tried a d e) c x so = fresh (token a ▸ takes d ▸ takes e)
few-items (by.no-unary d) c x so = anew (few-items d tt 0 blank)
few-items (by.last-handler d h) c x so = plus (takes d)
few-items (by.more-handlers d e) c x so = plus (takes d) ⊕ few-items e tt x (more so (shape d 0 blank))
few-items (by.handler-of a d e f) c x so = fresh (token a ▸ takes d ▸ takes e ▸ takes f)
-- calls and members
few-items (by.primary-of {p = p} d e) c x so = anew (few-items d tt 0 blank) ⊕ few-items e tt (start_of p) (shape d 0 blank)
few-items (by.no-post h l) c x so = still stays
few-items (by.call {r = r} a d l e) c x so = fresh (token a ▸ takes d) ⊕ few-items e tt x (call_over x r so (shape d 0 blank) none)
few-items (by.call-lambda {s = s} a d f e) c x so = fresh (token a ▸ takes d ▸ takes f) ⊕ few-items e tt x (call_over x s so (shape d 0 blank) (covered node.Closure (shape f 0 blank).row))
few-items (by.lambda-alone {q = q} d e) c x so = fresh (takes d) ⊕ few-items e tt x (call_over x q so blank (covered node.Closure (shape d 0 blank).row))
few-items (by.member {n = n} {q = q} d e) c x so = fresh (takes d) ⊕ few-items e tt x (member_over x q None n so (shape d 0 blank))
few-items (by.safe-member {n = n} {p = p} {r = r} a d e) c x so = fresh (token a ▸ takes d) ⊕ few-items e tt x (member_over x r (Some (span_of p)) n so (shape d 0 blank))
few-items (by.bracket a d b) c x so = anew (still (token a) ⊕ few-items d tt 0 blank ⊕ still (token b))
few-items (by.dot a d) c x so = anew (still (token a) ⊕ few-items d tt 0 blank)
few-items (by.double-colon a d) c x so = anew (still (token a) ⊕ few-items d tt 0 blank)
few-items (by.bracket-meta a b z) c x so = fresh (token a ▸ token b ▸ token z)
few-items (by.dot-meta a b) c x so = fresh (token a ▸ token b)
few-items (by.double-colon-meta a b) c x so = fresh (token a ▸ token b)
-- atoms
few-items (by.paren-expr a d b) c x so = fresh (token a ▸ takes d ▸ token b)
few-items (by.name d) c x so = anew (few-items d tt 0 blank)
few-items (by.table a d) c x so = fresh (token a ▸ takes d)
few-items (by.block-expr a e h d) c x so = fresh (token a ▸ takes e ▸ takes d)
few-items (by.list a d) c x so = fresh (token a ▸ takes d)
few-items (by.atom-literal d) c x so = anew (few-items d tt 0 blank)
few-items (by.fn-expr a d) c x so = fresh (token a ▸ takes d)
few-items (by.closure-expr d) c x so = fresh (takes d)
few-items (by.do-expr a d) c x so = fresh (token a ▸ takes d)
few-items (by.if-expr a d e f) c x so = fresh (token a ▸ takes d ▸ takes e ▸ takes f)
few-items (by.match-expr a d b e) c x so = fresh (token a ▸ takes d ▸ token b ▸ takes e)
few-items (by.loop-expr a d) c x so = fresh (token a ▸ takes d)
few-items (by.while-expr a d e) c x so = fresh (token a ▸ takes d ▸ takes e)
few-items (by.for-expr a d b e f) c x so = fresh (token a ▸ takes d ▸ token b ▸ takes e ▸ takes f)
few-items (by.break-expr a) c x so = fresh (token a)
few-items (by.continue-expr a) c x so = fresh (token a)
few-items (by.return-expr a d) c x so = fresh (token a ▸ takes d)
few-items (by.no-else h) c x so = fresh stays
few-items (by.else-if a h d) c x so = anew (still (token a) ⊕ few-items d tt 0 blank)
few-items (by.else-block a d) c x so = fresh (token a ▸ takes d)
few-items (by.last_name d h) c x so = plus (takes d)
few-items (by.more-names d a e) c x so = plus (takes d ▸ token a) ⊕ few-items e tt x (more so (shape d 0 blank))
few-items (by.no-case a) c x so = still (token a)
few-items (by.more-cases a d b e) c x so = plus (takes a ◂ takes d ▸ takes b) ⊕ few-items e tt x (more so (shape d 0 blank))
few-items (by.case-of d a e) c x so = fresh (takes d ▸ token a ▸ takes e)
few-items (by.last-pattern d h) c x so = plus (takes d)
few-items (by.more-patterns d a e) c x so = plus (takes d ▸ token a) ⊕ few-items e tt x (more so (shape d 0 blank))
-- the properties of a table
few-items (by.property d e) c x so = fresh (takes d ▸ takes e)
few-items (by.paren-key a d b z) c x so = fresh (token a ▸ takes d ▸ token b ▸ token z)
few-items (by.literal-key d a) c x so = anew (few-items d tt 0 blank ⊕ still (token a))
