-- The records of a derivation are the size of what it is built into: of a value its tree's size, of what goes on from a row as many as it adds to that
-- row. `Grows a b n` says that b has n records more than a; such facts are put together as the parts of a production are.
use Prim.Native.Nat.{ℕ, suc, ◌+◌}
use native.Mathlib.Omega.{arith}
use mathlib.Core.Path.{◌≡◌}
use mathlib.Core.List.{List}
use Rattle.cursor.specs.declared.Label.{Label}
use Rattle.cursor.specs.Node as node
use Rattle.cursor.specs.Tree.{Trees, none, join, tree, size}
use Rattle.cursor.proofs.Meaning.{size-join}
use Rattle.grammar.specs.Places.{Place}
use Rattle.grammar.specs.Symbols.{Form, Sym, Block}
use Rattle.grammar.specs.Derives.{Derives}
use Rattle.grammar.specs.Derives as by
use Rattle.grammar.specs.Builders.{Shape, blank, only, more, covered, handled}
use Rattle.grammar.specs.Shape.{shape}
use Rattle.grammar.specs.Follows.{Follows, tree_of}
use Rattle.complete.proofs.Records.{records}
use Rattle.grammar.proofs.WordsOfSymbols.{from, from-none}
use Rattle.grammar.proofs.WordsOfCalls.{One, one, one-primary}

record Grows (a b : Trees) (n : ℕ) : Type 0 where
  same : size b ≡ size a + n

-- nothing more; one after the other; a row that begins with another; one record over a row
still : {a : Trees} → Grows a a 0
still = record { same = omega arith }

infixl 5 ◌▹◌
◌▹◌ : {a b c : Trees} {m n : ℕ} → Grows a b m → Grows b c n → Grows a c (m + n)
◌▹◌ x y = record { same = omega (arith, x.same, y.same) }

also : {a b : Trees} {n : ℕ} → Grows none b n → Grows a (join a b) n
unfolding size
also {a} {b} x = record { same = omega (arith, x.same, size-join a b) }

under : {a ks : Trees} {l : Label} {n : ℕ} → Grows a ks n → Grows a (tree l ks) (n + 1)
unfolding size
under x = record { same = omega (arith, x.same) }

-- the same number, summed up in another way
summed : {a b : Trees} {m n : ℕ} → m ≡ n → Grows a b m → Grows a b n
summed e x = record { same = omega (arith, e, x.same) }

-- from nothing a symbol begins anew
begun : (y : Sym) {b : Trees} {n : ℕ} → Grows (from y none) b n → Grows none b n
begun y x = rw (from-none y) at x

-- a record over a block, which is one tree
over-block : {text : List ℕ} {p q : Place} {n : ℕ} (k : ℕ) (d : Derives text Block p q) → Grows none (shape d 0 blank).row n → Grows none (covered k (shape d 0 blank).row) (n + 1)
unfolding shape
over-block k (by.block_of a d) x = under x

-- handlers join the one tree before them, which is a Call's, and bring no record of their own
handlers-join : {f : Form} {t : Trees} {m n : ℕ} (i : Shape) → One f t → Grows none t m → Grows none i.row n → Grows none (handled t i) (m + n)
unfolding size
handlers-join i (one l ks c) x y = record { same = omega (arith, x.same, y.same, size-join ks i.row) }

-- by its productions: of each part what it adds, in order
grows : {text : List ℕ} {y : Sym} {p q : Place} (d : Derives text y p q) (x : ℕ) (so : Shape) → Grows (from y so.row) (shape d x so).row (records d)
unfolding shape records
-- helpers
grows (by.no-eol h) x so = still
grows (by.an-eol a d) x so = still
grows (by.until-of a d) x so = grows d x so
grows (by.items-end a) x so = still
grows (by.items-last {y = y} d a b) x so = also (begun y (grows d 0 blank))
grows (by.items-final {x = y} d a b) x so = also (begun y (grows d 0 blank))
grows (by.items-comma {x = y} d a b c e) x so = also (begun y (grows d 0 blank)) ▹ grows e x (more so (shape d 0 blank))
grows (by.dots a) x so = still
grows (by.rest_of {x = y} a d) x so = begun y (grows d 0 blank)
-- literals and names
grows (by.a-literal a b) x so = under still
grows (by.an-ident a) x so = under still
-- types
grows (by.one_type d h) x so = grows d 0 blank
grows (by.union d h e) x so = under (also (grows d 0 blank) ▹ grows e 0 (more blank (shape d 0 blank)))
grows (by.no-bar h) x so = still
grows (by.a-bar a d e) x so = also (grows d 0 blank) ▹ grows e x (more so (shape d 0 blank))
grows (by.ty-paren a d b) x so = under (grows d 0 blank)
grows (by.ty-name d) x so = grows d 0 blank
grows (by.ty-table a d) x so = under (grows d 0 blank)
grows (by.ty-function a d e) x so = summed (omega arith) (under (grows d 0 blank ▹ also (grows e 0 blank ▹ also still)))
grows (by.ty-literal d) x so = grows d 0 blank
grows (by.ty-pair d a e) x so = under (grows d 0 blank ▹ also (grows e 0 blank))
grows (by.others a d b c e) x so = under (grows d 0 blank ▹ also (grows e 0 blank))
grows (by.no-type h) x so = still
grows (by.returned a d) x so = grows d 0 blank
grows (by.bare d h) x so = grows d 0 blank
grows (by.typed-ident {x = y} d a e) x so = under (grows d 0 blank ▹ also (begun y (grows e 0 blank)))
grows (by.params_of a d) x so = grows d x so
grows (by.closure-params a d) x so = grows d x so
-- patterns
grows (by.pattern-name d) x so = grows d 0 blank
grows (by.pattern-table a d) x so = under (grows d 0 blank)
grows (by.pattern-list a d) x so = under (grows d 0 blank)
grows (by.pattern-literal d) x so = grows d 0 blank
grows (by.pattern-pair d a e) x so = under (grows d 0 blank ▹ also (grows e 0 blank))
-- statements in a row
grows (by.exprs-of a d) x so = grows d x so
grows (by.no-stmt a) x so = still
grows (by.last-stmt d a) x so = also (grows d 0 blank)
grows (by.a-line d a b e) x so = also (grows d 0 blank) ▹ grows e x (more so (shape d 0 blank))
grows (by.block_of a d) x so = under (grows d 0 blank)
-- functions and effects
grows (by.function_of d e f) x so = summed (omega arith) (under (grows d 0 blank ▹ also (grows e 0 blank ▹ also (grows f 0 blank))))
grows (by.effect_of a d e f) x so = summed (omega arith) (grows d 0 blank ▹ also (under (grows e 0 blank ▹ also (grows f 0 blank ▹ also still))))
-- statements
grows (by.fn-stmt a d e) x so = under (grows d 0 blank ▹ also (grows e _ blank))
grows (by.import-stmt a d) x so = grows d _ blank
grows (by.effect-stmt d) x so = under (grows d 0 blank)
grows (by.glo-fn a b d e) x so = under (grows d 0 blank ▹ also (grows e _ blank))
grows (by.glo-effect a d) x so = under (grows d 0 blank)
grows (by.glo-assign a d b e) x so = under (grows d 0 blank ▹ also (grows e 0 blank))
grows (by.path-more d a e) x so = also (grows d 0 blank) ▹ grows e x (more so (shape d 0 blank))
grows (by.path-alone d h) x so = summed (omega arith) (under (also (grows d 0 blank) ▹ also still))
grows (by.path-as d a e) x so = under (also (grows d 0 blank) ▹ also (grows e 0 blank))
grows (by.path-items d a b e) x so = under (also (grows d 0 blank) ▹ also (grows e 0 blank))
grows (by.path-all d a b) x so = summed (omega arith) (under (also (grows d 0 blank) ▹ also still))
grows (by.item-alone d h) x so = under (grows d 0 blank)
grows (by.item-as d a e) x so = under (grows d 0 blank ▹ also (grows e 0 blank))
grows (by.expr-stmt d h) x so = grows d 0 blank
grows (by.assign d f a e) x so = under (grows d 0 blank ▹ also (grows e 0 blank))
grows (by.typed-assign d a e b f) x so = under (under (grows d 0 blank ▹ also (grows e 0 blank)) ▹ also (grows f 0 blank))
grows (by.op-assign d f c a e) x so = under (grows d 0 blank ▹ also (grows e 0 blank))
grows (by.unpack d f e a g h) x so = under (also (grows d 0 blank) ▹ grows e 0 (more blank (shape d 0 blank)) ▹ also (grows g 0 blank))
grows (by.multi d f e a g h) x so = summed (omega arith) (under (also (grows d 0 blank) ▹ grows e 0 (more blank (shape d 0 blank)) ▹ also (also (grows g 0 blank) ▹ grows h 0 (more blank (shape g 0 blank)))))
grows (by.no-left h) x so = still
grows (by.a-left a d f e) x so = also (grows d 0 blank) ▹ grows e x (more so (shape d 0 blank))
grows by.no-right x so = still
grows (by.a-right a d e) x so = also (grows d 0 blank) ▹ grows e x (more so (shape d 0 blank))
-- expressions with operators
grows (by.expr-of d) x so = grows d 0 blank
grows (by.prec-of d e) x so = grows d 0 blank ▹ grows e _ (shape d 0 blank)
grows (by.no-op h) x so = still
grows (by.binary l h a d e) x so = under (also (grows d 0 blank)) ▹ grows e x _
grows (by.type-check l a c b e) x so = under still ▹ grows e x _
grows (by.not-expr a d) x so = under (grows d 0 blank)
grows (by.neg-expr a d) x so = under (grows d 0 blank)
grows (by.tried a d e) x so = handlers-join (shape e 0 blank) (one-primary d 0 blank) (grows d 0 blank) (grows e 0 blank)
grows (by.no-unary d) x so = grows d 0 blank
grows (by.last-handler d h) x so = also (grows d 0 blank)
grows (by.more-handlers d e) x so = also (grows d 0 blank) ▹ grows e x (more so (shape d 0 blank))
grows (by.handler-of a d e f) x so = summed (omega arith) (under (grows d 0 blank ▹ also (grows e 0 blank ▹ also (grows f 0 blank))))
-- calls and members
grows (by.primary-of d e) x so = grows d 0 blank ▹ grows e _ (shape d 0 blank)
grows (by.no-post h l) x so = still
grows (by.call a d l e) x so = summed (omega arith) (under (also (grows d 0 blank ▹ also still)) ▹ grows e x _)
grows (by.call-lambda a d f e) x so = summed (omega arith) (under (also (grows d 0 blank ▹ also (over-block node.Closure f (grows f 0 blank)))) ▹ grows e x _)
grows (by.lambda-alone d e) x so = summed (omega arith) (under (also (also (over-block node.Closure d (grows d 0 blank)))) ▹ grows e x _)
grows (by.member d e) x so = under (also (grows d 0 blank)) ▹ grows e x _
grows (by.safe-member a d e) x so = under (also (grows d 0 blank)) ▹ grows e x _
grows (by.bracket a d b) x so = grows d 0 blank
grows (by.dot a d) x so = grows d 0 blank
grows (by.double-colon a d) x so = grows d 0 blank
grows (by.bracket-meta a b c) x so = still
grows (by.dot-meta a b) x so = still
grows (by.double-colon-meta a b) x so = still
-- atoms
grows (by.paren-expr a d b) x so = under (grows d 0 blank)
grows (by.name d) x so = grows d 0 blank
grows (by.table a d) x so = under (grows d 0 blank)
grows (by.block-expr a e h d) x so = summed (omega arith) (under (under (grows d 0 blank)))
grows (by.list a d) x so = under (grows d 0 blank)
grows (by.atom-literal d) x so = grows d 0 blank
grows (by.fn-expr a d) x so = under (also (grows d _ blank))
grows (by.closure-expr d) x so = under (also (grows d _ blank))
grows (by.do-expr a d) x so = summed (omega arith) (under (also (under (grows d 0 blank))))
grows (by.if-expr a d e f) x so = summed (omega arith) (under (grows d 0 blank ▹ also (grows e 0 blank ▹ also (grows f 0 blank))))
grows (by.match-expr a d b e) x so = under (grows d 0 blank ▹ grows e 0 (only (shape d 0 blank).row))
grows (by.loop-expr a d) x so = under (grows d 0 blank)
grows (by.while-expr a d e) x so = under (grows d 0 blank ▹ also (grows e 0 blank))
grows (by.for-expr a d b e f) x so = summed (omega arith) (under (grows d 0 blank ▹ also (grows e 0 blank ▹ also (grows f 0 blank))))
grows (by.break-expr a) x so = under still
grows (by.continue-expr a) x so = under still
grows (by.return-expr a d) x so = under (grows d 0 blank)
grows (by.no-else h) x so = still
grows (by.else-if a h d) x so = grows d 0 blank
grows (by.else-block a d) x so = over-block node.ExprBlock d (grows d 0 blank)
grows (by.last_name d h) x so = also (grows d 0 blank)
grows (by.more-names d a e) x so = also (grows d 0 blank) ▹ grows e x (more so (shape d 0 blank))
grows (by.no-case a) x so = still
grows (by.more-cases a d b e) x so = also (grows d 0 blank) ▹ grows e x (more so (shape d 0 blank))
grows (by.case-of d a e) x so = under (grows d 0 blank ▹ also (grows e 0 blank))
grows (by.last-pattern d h) x so = also (grows d 0 blank)
grows (by.more-patterns d a e) x so = also (grows d 0 blank) ▹ grows e x (more so (shape d 0 blank))
-- the properties of a table
grows (by.property d e) x so = under (grows d 0 blank ▹ also (grows e 0 blank))
grows (by.paren-key a d b c) x so = under (grows d 0 blank)
grows (by.literal-key d a) x so = grows d 0 blank

-- where y becomes a value by itself, `from` gives nothing, so that the size is the records alone
pub size_of : {text : List ℕ} {y : Sym} {p q : Place} (d : Derives text y p q) (x : ℕ) (so : Shape) → size (shape d x so).row ≡ size (from y so.row) + records d
size_of d x so = (grows d x so).same

-- a whole sheet: its statements' records and the program's own
pub size-all : {text tokens : List ℕ} (f : Follows text tokens) → size (tree_of f) ≡ suc (records f.body)
unfolding tree_of size
size-all f = let e = size_of f.body 0 blank in omega arith
