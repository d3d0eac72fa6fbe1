-- The words of a tree are the words of the tokens that it was read from.
use Prim.Native.Nat.{ℕ}
use mathlib.Core.Path.{◌≡◌, refl, sym, ap, ◌∙◌}
use mathlib.Core.List.{List, ◌++◌, append-nil}
use Rattle.cursor.specs.Node as node
use Rattle.grammar.specs.Places.{Place, before, tokens_of}
use Rattle.grammar.specs.Symbols.{Sym}
use Rattle.grammar.specs.Derives.{Derives}
use Rattle.grammar.specs.Derives as by
use Rattle.grammar.specs.Builders.{Shape, blank, only, more}
use Rattle.grammar.specs.Shape.{shape}
use Rattle.grammar.specs.Follows.{Follows, tree_of}
use Rattle.grammar.specs.Words.{among, token_words, words}
use Rattle.grammar.proofs.Levels.{some_level}
use Rattle.grammar.proofs.WordsOfTokens.{operator-quiet, compound-quiet, significant-words}
use Rattle.grammar.proofs.WordsOf.{Adds, still, ◌▹◌, also, token, under}
use Rattle.grammar.proofs.WordsOfSymbols.{from, begun, Silent}
use Rattle.grammar.proofs.WordsOfCalls.{one-primary}
use Rattle.grammar.proofs.WordsOfParts.{eols, literal-adds, ident-adds, checked-adds, function-plain, over-block, handlers-join}

-- by its productions: of each part what its tokens add, in order
pub adds : {text : List ℕ} {y : Sym} {p q : Place} (d : Derives text y p q) → Silent y → (x : ℕ) (so : Shape) → Adds (from y so.row) (shape d x so).row p q
unfolding shape among
-- helpers
adds (by.no-eol h) s x so = still
adds (by.an-eol a d) s x so = token a refl ▹ eols d
adds (by.until-of a d) s x so = eols a ▹ adds d s x so
adds (by.items-end a) s x so = token a s.2
adds (by.items-last {y = y} d a b) s x so = also (begun y (adds d s.1 0 blank)) ▹ eols a ▹ token b s.2
adds (by.items-final {x = y} d a b) s x so = also (begun y (adds d s.0 0 blank)) ▹ eols a ▹ token b s.2
adds (by.items-comma {x = y} d a b c e) s x so = also (begun y (adds d s.0 0 blank)) ▹ eols a ▹ token b refl ▹ eols c ▹ adds e s x (more so (shape d 0 blank))
adds (by.dots a) s x so = token a refl
adds (by.rest_of {x = y} a d) s x so = token a refl ▹ begun y (adds d s 0 blank)
-- literals and names
adds {text = text} (by.a-literal {p = p} {q = q} {l = l} a b) s x so = literal-adds text p q l a b
adds (by.an-ident a) s x so = ident-adds a
-- types
adds (by.one_type d h) s x so = adds d tt 0 blank
adds (by.union d h e) s x so = under _ (also (adds d tt 0 blank) ▹ adds e tt 0 (more blank (shape d 0 blank))) (refl, refl)
adds (by.no-bar h) s x so = still
adds (by.a-bar a d e) s x so = token a refl ▹ also (adds d tt 0 blank) ▹ adds e tt x (more so (shape d 0 blank))
adds (by.ty-paren a d b) s x so = under _ (token a refl ▹ adds d tt 0 blank ▹ token b refl) (refl, refl)
adds (by.ty-name d) s x so = adds d tt 0 blank
adds (by.ty-table a d) s x so = under _ (token a refl ▹ adds d (tt, tt, refl) 0 blank) (refl, refl)
adds (by.ty-function a d e) s x so = under _ (token a refl ▹ adds d (tt, tt, refl) 0 blank ▹ also (adds e tt 0 blank ▹ also still)) (refl, refl)
adds (by.ty-literal d) s x so = adds d tt 0 blank
adds (by.ty-pair d a e) s x so = under _ (adds d tt 0 blank ▹ token a refl ▹ also (adds e tt 0 blank)) (refl, refl)
adds (by.others a d b c e) s x so = under _ (token a refl ▹ adds d tt 0 blank ▹ token b refl ▹ token c refl ▹ also (adds e tt 0 blank)) (refl, refl)
adds (by.no-type h) s x so = still
adds (by.returned a d) s x so = token a refl ▹ adds d tt 0 blank
adds (by.bare d h) s x so = adds d tt 0 blank
adds (by.typed-ident {x = y} d a e) s x so = under _ (adds d tt 0 blank ▹ token a refl ▹ also (begun y (adds e s 0 blank))) (refl, refl)
adds (by.params_of a d) s x so = token a refl ▹ adds d (tt, tt, refl) x so
adds (by.closure-params a d) s x so = token a refl ▹ adds d (tt, tt, refl) x so
-- patterns
adds (by.pattern-name d) s x so = adds d tt 0 blank
adds (by.pattern-table a d) s x so = under _ (token a refl ▹ adds d (tt, tt, refl) 0 blank) (refl, refl)
adds (by.pattern-list a d) s x so = under _ (token a refl ▹ adds d (tt, tt, refl) 0 blank) (refl, refl)
adds (by.pattern-literal d) s x so = adds d tt 0 blank
adds (by.pattern-pair d a e) s x so = under _ (adds d tt 0 blank ▹ token a refl ▹ also (adds e tt 0 blank)) (refl, refl)
-- statements in a row
adds (by.exprs-of a d) s x so = eols a ▹ adds d s x so
adds (by.no-stmt a) s x so = token a s
adds (by.last-stmt d a) s x so = also (adds d tt 0 blank) ▹ token a s
adds (by.a-line d a b e) s x so = also (adds d tt 0 blank) ▹ token a refl ▹ eols b ▹ adds e s x (more so (shape d 0 blank))
adds (by.block_of a d) s x so = under _ (token a refl ▹ adds d refl 0 blank) (refl, refl)
-- functions and effects
adds (by.function_of {closure = closure} d e f) s x so = under _ (adds d tt 0 blank ▹ also (adds e tt 0 blank ▹ also (adds f tt 0 blank))) (function-plain closure)
adds (by.effect_of a d e f) s x so = token a refl ▹ adds d tt 0 blank ▹ also (under _ (adds e tt 0 blank ▹ also (adds f tt 0 blank ▹ also still)) (refl, refl))
-- statements
adds (by.fn-stmt a d e) s x so = under _ (token a refl ▹ adds d tt 0 blank ▹ also (adds e tt _ blank)) (refl, refl)
adds (by.import-stmt a d) s x so = token a refl ▹ adds d tt _ blank
adds (by.effect-stmt d) s x so = under _ (adds d tt 0 blank) (refl, refl)
adds (by.glo-fn a b d e) s x so = under _ (token a refl ▹ token b refl ▹ adds d tt 0 blank ▹ also (adds e tt _ blank)) (refl, refl)
adds (by.glo-effect a d) s x so = under _ (token a refl ▹ adds d tt 0 blank) (refl, refl)
adds (by.glo-assign a d b e) s x so = under _ (token a refl ▹ adds d tt 0 blank ▹ token b refl ▹ also (adds e tt 0 blank)) (refl, refl)
adds (by.path-more d a e) s x so = also (adds d tt 0 blank) ▹ token a refl ▹ adds e tt x (more so (shape d 0 blank))
adds (by.path-alone d h) s x so = under _ (also (adds d tt 0 blank) ▹ also still) (refl, refl)
adds (by.path-as d a e) s x so = under _ (also (adds d tt 0 blank) ▹ token a refl ▹ also (adds e tt 0 blank)) (refl, refl)
adds (by.path-items d a b e) s x so = under _ (also (adds d tt 0 blank) ▹ token a refl ▹ token b refl ▹ also (adds e (tt, tt, refl) 0 blank)) (refl, refl)
adds (by.path-all d a b) s x so = under _ (also (adds d tt 0 blank) ▹ token a refl ▹ token b refl ▹ also still) (refl, refl)
adds (by.item-alone d h) s x so = under _ (adds d tt 0 blank) (refl, refl)
adds (by.item-as d a e) s x so = under _ (adds d tt 0 blank ▹ token a refl ▹ also (adds e tt 0 blank)) (refl, refl)
adds (by.expr-stmt d h) s x so = adds d tt 0 blank
adds (by.assign d f a e) s x so = under _ (adds d tt 0 blank ▹ token a refl ▹ also (adds e tt 0 blank)) (refl, refl)
adds (by.typed-assign d a e b f) s x so = under _ (under _ (adds d tt 0 blank ▹ token a refl ▹ also (adds e tt 0 blank)) (refl, refl) ▹ token b refl ▹ also (adds f tt 0 blank)) (refl, refl)
adds (by.op-assign d f c a e) s x so = under _ (adds d tt 0 blank ▹ token a (compound-quiet c) ▹ also (adds e tt 0 blank)) (refl, refl)
adds (by.unpack d f e a g h) s x so = under _ (also (adds d tt 0 blank) ▹ adds e tt 0 (more blank (shape d 0 blank)) ▹ token a refl ▹ also (adds g tt 0 blank)) (refl, refl)
adds (by.multi d f e a g h) s x so = under _ (also (adds d tt 0 blank) ▹ adds e tt 0 (more blank (shape d 0 blank)) ▹ token a refl ▹ also (also (adds g tt 0 blank) ▹ adds h tt 0 (more blank (shape g 0 blank)))) (refl, refl)
adds (by.no-left h) s x so = still
adds (by.a-left a d f e) s x so = token a refl ▹ also (adds d tt 0 blank) ▹ adds e tt x (more so (shape d 0 blank))
adds by.no-right s x so = still
adds (by.a-right a d e) s x so = token a refl ▹ also (adds d tt 0 blank) ▹ adds e tt x (more so (shape d 0 blank))
-- expressions with operators
adds (by.expr-of d) s x so = adds d tt 0 blank
adds (by.prec-of d e) s x so = adds d tt 0 blank ▹ adds e tt _ (shape d 0 blank)
adds (by.no-op h) s x so = still
adds (by.binary {k = k} l h a d e) s x so = token a (operator-quiet k (some_level e) l) ▹ under _ (also (adds d tt 0 blank)) (refl, refl) ▹ adds e tt x _
adds {text = text} (by.type-check {word = word} {q = q} {r = r} l a c b e) s x so = token a refl ▹ checked-adds text q r x word c b ▹ adds e tt x _
adds (by.not-expr a d) s x so = under _ (token a refl ▹ adds d tt 0 blank) (refl, refl)
adds (by.neg-expr a d) s x so = under _ (token a refl ▹ adds d tt 0 blank) (refl, refl)
adds (by.tried a d e) s x so = token a refl ▹ handlers-join (shape e 0 blank) (one-primary d 0 blank) (adds d tt 0 blank) (adds e tt 0 blank)
adds (by.no-unary d) s x so = adds d tt 0 blank
adds (by.last-handler d h) s x so = also (adds d tt 0 blank)
adds (by.more-handlers d e) s x so = also (adds d tt 0 blank) ▹ adds e tt x (more so (shape d 0 blank))
adds (by.handler-of a d e f) s x so = under _ (token a refl ▹ adds d tt 0 blank ▹ also (adds e tt 0 blank ▹ also (adds f tt 0 blank))) (refl, refl)
-- calls and members
adds (by.primary-of d e) s x so = adds d tt 0 blank ▹ adds e tt _ (shape d 0 blank)
adds (by.no-post h l) s x so = still
adds (by.call a d l e) s x so = token a refl ▹ under _ (also (adds d (tt, tt, refl) 0 blank ▹ also still)) (refl, refl) ▹ adds e tt x _
adds (by.call-lambda a d f e) s x so = token a refl ▹ under _ (also (adds d (tt, tt, refl) 0 blank ▹ also (over-block node.Closure (refl, refl) f (adds f tt 0 blank)))) (refl, refl) ▹ adds e tt x _
adds (by.lambda-alone d e) s x so = under _ (also (also (over-block node.Closure (refl, refl) d (adds d tt 0 blank)))) (refl, refl) ▹ adds e tt x _
adds (by.member d e) s x so = under _ (also (adds d tt 0 blank)) (refl, refl) ▹ adds e tt x _
adds (by.safe-member a d e) s x so = token a refl ▹ under _ (also (adds d tt 0 blank)) (refl, refl) ▹ adds e tt x _
adds (by.bracket a d b) s x so = token a refl ▹ adds d tt 0 blank ▹ token b refl
adds (by.dot a d) s x so = token a refl ▹ adds d tt 0 blank
adds (by.double-colon a d) s x so = token a refl ▹ adds d tt 0 blank
adds (by.bracket-meta a b c) s x so = token a refl ▹ token b refl ▹ token c refl
adds (by.dot-meta a b) s x so = token a refl ▹ token b refl
adds (by.double-colon-meta a b) s x so = token a refl ▹ token b refl
-- atoms
adds (by.paren-expr a d b) s x so = under _ (token a refl ▹ adds d tt 0 blank ▹ token b refl) (refl, refl)
adds (by.name d) s x so = adds d tt 0 blank
adds (by.table a d) s x so = under _ (token a refl ▹ adds d (tt, tt, refl) 0 blank) (refl, refl)
adds (by.block-expr a e h d) s x so = under _ (under _ (token a refl ▹ eols e ▹ adds d refl 0 blank) (refl, refl)) (refl, refl)
adds (by.list a d) s x so = under _ (token a refl ▹ adds d (tt, tt, refl) 0 blank) (refl, refl)
adds (by.atom-literal d) s x so = adds d tt 0 blank
adds (by.fn-expr a d) s x so = under _ (token a refl ▹ also (adds d tt _ blank)) (refl, refl)
adds (by.closure-expr d) s x so = under _ (also (adds d tt _ blank)) (refl, refl)
adds (by.do-expr a d) s x so = under _ (token a refl ▹ also (under _ (adds d tt 0 blank) (refl, refl))) (refl, refl)
adds (by.if-expr a d e f) s x so = under _ (token a refl ▹ adds d tt 0 blank ▹ also (adds e tt 0 blank ▹ also (adds f tt 0 blank))) (refl, refl)
adds (by.match-expr a d b e) s x so = under _ (token a refl ▹ adds d tt 0 blank ▹ token b refl ▹ adds e tt 0 (only (shape d 0 blank).row)) (refl, refl)
adds (by.loop-expr a d) s x so = under _ (token a refl ▹ adds d tt 0 blank) (refl, refl)
adds (by.while-expr a d e) s x so = under _ (token a refl ▹ adds d tt 0 blank ▹ also (adds e tt 0 blank)) (refl, refl)
adds (by.for-expr a d b e f) s x so = under _ (token a refl ▹ adds d tt 0 blank ▹ token b refl ▹ also (adds e tt 0 blank ▹ also (adds f tt 0 blank))) (refl, refl)
adds (by.break-expr a) s x so = under _ (token a refl) (refl, refl)
adds (by.continue-expr a) s x so = under _ (token a refl) (refl, refl)
adds (by.return-expr a d) s x so = under _ (token a refl ▹ adds d tt 0 blank) (refl, refl)
adds (by.no-else h) s x so = still
adds (by.else-if a h d) s x so = token a refl ▹ adds d tt 0 blank
adds (by.else-block a d) s x so = token a refl ▹ over-block node.ExprBlock (refl, refl) d (adds d tt 0 blank)
adds (by.last_name d h) s x so = also (adds d tt 0 blank)
adds (by.more-names d a e) s x so = also (adds d tt 0 blank) ▹ token a refl ▹ adds e tt x (more so (shape d 0 blank))
adds (by.no-case a) s x so = token a refl
adds (by.more-cases a d b e) s x so = eols a ▹ also (adds d tt 0 blank) ▹ eols b ▹ adds e tt x (more so (shape d 0 blank))
adds (by.case-of d a e) s x so = under _ (adds d tt 0 blank ▹ token a refl ▹ also (adds e tt 0 blank)) (refl, refl)
adds (by.last-pattern d h) s x so = also (adds d tt 0 blank)
adds (by.more-patterns d a e) s x so = also (adds d tt 0 blank) ▹ token a refl ▹ adds e tt x (more so (shape d 0 blank))
-- the properties of a table
adds (by.property d e) s x so = under _ (adds d tt 0 blank ▹ also (adds e tt 0 blank)) (refl, refl)
adds (by.paren-key a d b c) s x so = under _ (token a refl ▹ adds d tt 0 blank ▹ token b refl) (refl, refl) ▹ token c refl
adds (by.literal-key d a) s x so = adds d tt 0 blank ▹ token a refl

pub words-all : {text tokens : List ℕ} (f : Follows text tokens) → words (tree_of f) ≡ token_words (tokens_of tokens)
unfolding tree_of before words among token_words
words-all {tokens = tokens} f =
    sym (append-nil (words (tree_of f))) ∙ ap (λ ts. words (tree_of f) ++ token_words ts) (sym f.whole) ∙ (under _ (adds f.body refl 0 blank) (refl, refl)).same ∙ significant-words (tokens_of tokens)
