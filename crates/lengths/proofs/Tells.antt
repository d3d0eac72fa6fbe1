-- What a derivation is built into is told, where the tokens from its begin on are fewer than 2^15.
use Rattle.std.specs.Prelude.{Some, None}
use Prim.Native.Nat.{ℕ}
use mathlib.Core.Path.{refl, sym, ◌∙◌}
use mathlib.Core.List.{List}
use mathlib.Core.Bool.{true, false}
use borrow.Author.Tests.{ltb-true}
use Rattle.cursor.specs.Node as node
use Rattle.cursor.specs.Tree.{none, join}
use Rattle.types.specs.Items.{is_ended}
use Rattle.grammar.specs.Places.{Place, kind_of, span_of, start_of}
use Rattle.grammar.specs.Symbols.{Sym}
use Rattle.grammar.specs.Derives.{Derives}
use Rattle.grammar.specs.Derives as by
use Rattle.grammar.specs.Builders.{Shape, some as there, blank, only, more, made, over, covered, call_over, member_over}
use Rattle.grammar.specs.Shape.{shape}
use Rattle.lengths.specs.Sorts as sort
use Rattle.lengths.specs.Children.{property_of, find, row_of}
use Rattle.lengths.specs.Told.{no_more}
use Rattle.lengths.proofs.Rows.{none_yet, ◌▹◌, empty-behind, unended, longer, wider}
use Rattle.lengths.proofs.Taken.{step, token, takes}
use Rattle.lengths.proofs.Room.{lefts-count, rights-count, Room, ◌⊳◌, grown, below, short}
use Rattle.lengths.proofs.Nodes.{recorded, counted, rowed, signed, plain, optional, lambda-over, else-over, longer-behind, as-name, as-other, anyhow, as-left, name_of, member-formed, handlers-join}
use Rattle.lengths.proofs.Symbols.{last_parts}
use Rattle.lengths.proofs.Claims.{Claim, Proper}
use Rattle.lengths.proofs.Lists.{of-ty, ty-pairs, types, params, closure-params, pattern-pairs, patterns, import-items, properties, arguments, elements}
use Rattle.lengths.proofs.Parts.{literal-told, function-told, fn-told, import-as, call-told, member-told, several-told}

pub tells : {text : List ℕ} {y : Sym} {p q : Place} (d : Derives text y p q) → Proper y → Room 0 p → (x : ℕ) (so : Shape) → Claim y p so (shape d x so)
unfolding shape row_of find property_of
-- helpers
tells (by.no-eol z) g h x so = tt
tells (by.an-eol a d) g h x so = tt
tells (by.until-of a d) g h x so = tells d g (h ⊳ takes a) x so
tells (by.items-end {y = y} a) g h x so = λ u t. unended (last_parts y) u t g.3.absent
tells (by.items-last {p = p} d a b) g h x so = λ u t. t ▹ g.3.present p blank (shape d 0 blank) (tells d g.1 h 0 blank)
tells (by.items-final {y = y} {p = p} d a b) g h x so = λ u t. unended (last_parts y) u (longer t (g.2.value p blank (shape d 0 blank) (tells d g.0 h 0 blank))) g.3.absent
tells (by.items-comma {p = p} d a b c e) g h x so = λ u t. tells e g (h ⊳ takes d ⊳ takes a ⊳ token b ⊳ takes c) x (more so (shape d 0 blank)) u (longer t (g.2.value p blank (shape d 0 blank) (tells d g.0 h 0 blank)))
tells (by.dots a) g h x so = no_more
tells (by.rest_of {q = q} a d) g h x so = g.1.value q blank (shape d 0 blank) (tells d g.0 (h ⊳ token a) 0 blank)
-- literals and names
tells {text = text} (by.a-literal {p = p} a b) g h x so = literal-told text (kind_of p) (span_of p) a
tells (by.an-ident a) g h x so = plain sort.ident refl no_more
-- types
tells (by.one_type d z) g h x so = tells d tt h 0 blank
tells (by.union d z e) g h x so = rowed sort.union (short e tt 0 (more blank (shape d 0 blank)) (grown h (takes d))) refl (tells e tt (h ⊳ takes d) 0 (more blank (shape d 0 blank)) (longer none_yet (tells d tt h 0 blank)))
tells (by.no-bar z) g h x so = λ t. t
tells (by.a-bar a d e) g h x so = λ t. tells e tt (h ⊳ token a ⊳ takes d) x (more so (shape d 0 blank)) (longer t (tells d tt (h ⊳ token a) 0 blank))
tells (by.ty-paren a d b) g h x so = plain sort.ty-paren refl (tells d tt (h ⊳ token a) 0 blank)
tells (by.ty-name d) g h x so = wider (λ k o. sort.ty-name o) (tells d tt h 0 blank)
tells (by.ty-table a d) g h x so = counted (is_ended (shape d 0 blank).last) false sort.ty-table (short d refl 0 blank (h ⊳ token a)) refl (tells d ty-pairs (h ⊳ token a) 0 blank refl none_yet)
tells (by.ty-function a d e) g h x so = counted (is_ended (shape d 0 blank).last) (there (shape e 0 blank).row) sort.ty-function (short d refl 0 blank (h ⊳ token a)) refl (tells d types (h ⊳ token a) 0 blank refl none_yet ▹ (tells e tt (h ⊳ token a ⊳ takes d) 0 blank ▹ no_more))
tells (by.ty-literal d) g h x so = wider (λ k o. sort.ty-literal o) (tells d tt h 0 blank)
tells (by.ty-pair d a e) g h x so = plain sort.ty-pair refl (tells d tt h 0 blank ▹ tells e tt (h ⊳ takes d ⊳ token a) 0 blank)
tells (by.others a d b c e) g h x so = plain sort.ty-others refl (tells d tt (h ⊳ token a) 0 blank ▹ tells e tt (h ⊳ token a ⊳ takes d ⊳ token b ⊳ token c) 0 blank)
tells (by.no-type z) g h x so = none_yet
tells (by.returned a d) g h x so = optional (tells d tt (h ⊳ token a) 0 blank)
tells (by.bare d z) g h x so = wider (λ k o. sort.untyped o) (tells d tt h 0 blank)
tells (by.typed-ident {r = r} d a e) g h x so = plain sort.typed refl (tells d tt h 0 blank ▹ g.1.value r blank (shape e 0 blank) (tells e g.0 (h ⊳ takes d ⊳ token a) 0 blank))
tells (by.params_of a d) g h x so = tells d params (h ⊳ token a) x so
tells (by.closure-params a d) g h x so = tells d closure-params (h ⊳ token a) x so
-- patterns
tells (by.pattern-name d) g h x so = wider (λ k o. sort.pattern-name o) (tells d tt h 0 blank)
tells (by.pattern-table a d) g h x so = counted (is_ended (shape d 0 blank).last) false sort.pattern-table (short d refl 0 blank (h ⊳ token a)) refl (tells d pattern-pairs (h ⊳ token a) 0 blank refl none_yet)
tells (by.pattern-list a d) g h x so = counted (is_ended (shape d 0 blank).last) false sort.pattern-list (short d refl 0 blank (h ⊳ token a)) refl (tells d patterns (h ⊳ token a) 0 blank refl none_yet)
tells (by.pattern-literal d) g h x so = wider (λ k o. sort.pattern-literal o) (tells d tt h 0 blank)
tells (by.pattern-pair d a e) g h x so = plain sort.pattern-pair refl (tells d tt h 0 blank ▹ tells e tt (h ⊳ takes d ⊳ token a) 0 blank)
-- statements in a row
tells (by.exprs-of a d) g h x so = tells d tt (h ⊳ takes a) x so
tells (by.no-stmt a) g h x so = λ t. t
tells (by.last-stmt d a) g h x so = λ t. longer t (tells d tt h 0 blank)
tells (by.a-line d a b e) g h x so = λ t. tells e tt (h ⊳ takes d ⊳ token a ⊳ takes b) x (more so (shape d 0 blank)) (longer t (tells d tt h 0 blank))
tells (by.block_of a d) g h x so = rowed sort.block (short d tt 0 blank (h ⊳ token a)) refl (tells d tt (h ⊳ token a) 0 blank none_yet)
-- functions and effects
tells (by.function_of {closure = closure} {s = s} d e f) g h x so = function-told s (shape d 0 blank) (shape e 0 blank) (short d tt 0 blank h) closure (tells d tt h 0 blank refl none_yet) (tells e tt (h ⊳ takes d) 0 blank) (tells f tt (h ⊳ takes d ⊳ takes e) 0 blank)
tells (by.effect_of a d e f) g h x so = tells d tt (h ⊳ token a) 0 blank ▹ counted (is_ended (shape e 0 blank).last) (there (shape f 0 blank).row) sort.effect (short e tt 0 blank (h ⊳ token a ⊳ takes d)) refl (tells e tt (h ⊳ token a ⊳ takes d) 0 blank refl none_yet ▹ (tells f tt (h ⊳ token a ⊳ takes d ⊳ takes e) 0 blank ▹ no_more))
-- statements
tells (by.fn-stmt {p = p} {s = s} a d e) g h x so = wider (λ k o. sort.an-expression o) (fn-told s None (shape e (start_of p) blank) (optional (tells d tt (h ⊳ token a) 0 blank)) (tells e tt (h ⊳ token a ⊳ takes d) (start_of p) blank))
tells (by.import-stmt {p = p} a d) g h x so = tells d tt (h ⊳ token a) (start_of p) blank (h ⊳ token a) none_yet
tells (by.effect-stmt d) g h x so = signed false false sort.effect-stmt refl (tells d tt h 0 blank)
tells (by.glo-fn {p = p} {t = t} a b d e) g h x so = wider (λ k o. sort.an-expression o) (fn-told t (Some (span_of p)) (shape e (start_of p) blank) (optional (tells d tt (h ⊳ token a ⊳ token b) 0 blank)) (tells e tt (h ⊳ token a ⊳ token b ⊳ takes d) (start_of p) blank))
tells (by.glo-effect a d) g h x so = signed true false sort.effect-stmt refl (tells d tt (h ⊳ token a) 0 blank)
tells (by.glo-assign a d b e) g h x so = plain sort.glo-assign refl (tells d of-ty (h ⊳ token a) 0 blank ▹ tells e tt (h ⊳ token a ⊳ takes d ⊳ token b) 0 blank)
tells (by.path-more d a e) g h x so = λ o t. tells e tt (h ⊳ takes d ⊳ token a) x (more so (shape d 0 blank)) (grown o (takes d) ⊳ token a) (longer t (tells d tt h 0 blank))
tells (by.path-alone d z) g h x so = λ o t. rowed sort.import-stmt (below (grown o (takes d))) refl (longer t (tells d tt h 0 blank) ▹ no_more)
tells (by.path-as {s = s} d a e) g h x so = λ o t. import-as s (more so (shape d 0 blank)) e (below (grown o (takes d))) (longer t (tells d tt h 0 blank)) (tells e tt (h ⊳ takes d ⊳ token a) 0 blank)
tells (by.path-items d a b e) g h x so = λ o t. recorded false true sort.import-stmt (below (grown o (takes d))) (short e refl 0 blank (h ⊳ takes d ⊳ token a ⊳ token b)) refl (longer t (tells d tt h 0 blank) ▹ tells e import-items (h ⊳ takes d ⊳ token a ⊳ token b) 0 blank refl none_yet)
tells (by.path-all d a b) g h x so = λ o t. counted true true sort.import-stmt (below (grown o (takes d))) refl (longer t (tells d tt h 0 blank) ▹ no_more)
tells (by.item-alone d z) g h x so = plain sort.item refl (empty-behind (tells d tt h 0 blank) none_yet)
tells (by.item-as d a e) g h x so = signed true false sort.item refl (tells d tt h 0 blank ▹ tells e tt (h ⊳ takes d ⊳ token a) 0 blank)
tells (by.expr-stmt d z) g h x so = wider (λ k o. sort.an-expression o) (anyhow (tells d tt h 0 blank))
tells (by.assign d f a e) g h x so = plain sort.assign refl (wider (λ k o. sort.a-left o) (as-left f (tells d tt h 0 blank)) ▹ tells e tt (h ⊳ takes d ⊳ token a) 0 blank)
tells (by.typed-assign d a e b f) g h x so = plain sort.assign refl (plain sort.typed-left refl (name_of (tells d tt h 0 blank) ▹ tells e tt (h ⊳ takes d ⊳ token a) 0 blank) ▹ tells f tt (h ⊳ takes d ⊳ token a ⊳ takes e ⊳ token b) 0 blank)
tells (by.op-assign d f c a e) g h x so = plain sort.assign-op refl (as-left f (tells d tt h 0 blank) ▹ tells e tt (h ⊳ takes d ⊳ token a) 0 blank)
tells (by.unpack d f e a i z) g h x so = rowed sort.assign-unpack (short e tt 0 (more blank (shape d 0 blank)) (grown h (takes d))) refl (tells e tt (h ⊳ takes d) 0 (more blank (shape d 0 blank)) (longer none_yet (as-left f (tells d tt h 0 blank))) ▹ tells i tt (h ⊳ takes d ⊳ takes e ⊳ token a) 0 blank)
tells (by.multi {u = u} d f e a i j) g h x so =
    several-told u (shape e 0 (more blank (shape d 0 blank))) (shape j 0 (more blank (shape i 0 blank))) (short e tt 0 (more blank (shape d 0 blank)) (grown h (takes d)))
    (rights-count j 0 (more blank (shape i 0 blank)) ∙ sym (lefts-count e 0 (more blank (shape d 0 blank))))
    (tells e tt (h ⊳ takes d) 0 (more blank (shape d 0 blank)) (longer none_yet (as-left f (tells d tt h 0 blank))))
    (tells j tt (h ⊳ takes d ⊳ takes e ⊳ token a ⊳ takes i) 0 (more blank (shape i 0 blank)) (longer none_yet (tells i tt (h ⊳ takes d ⊳ takes e ⊳ token a) 0 blank)))
tells (by.no-left z) g h x so = λ t. t
tells (by.a-left a d f e) g h x so = λ t. tells e tt (h ⊳ token a ⊳ takes d) x (more so (shape d 0 blank)) (longer t (as-left f (tells d tt (h ⊳ token a) 0 blank)))
tells by.no-right g h x so = λ t. t
tells (by.a-right a d e) g h x so = λ t. tells e tt (h ⊳ token a ⊳ takes d) x (more so (shape d 0 blank)) (longer t (tells d tt (h ⊳ token a) 0 blank))
-- expressions with operators
tells (by.expr-of d) g h x so = anyhow (tells d tt h 0 blank)
tells (by.prec-of {p = p} d e) g h x so = tells e tt (h ⊳ takes d) (start_of p) (shape d 0 blank) (tells d tt h 0 blank)
tells (by.no-op z) g h x so = λ s. s
tells (by.binary {k = k} {r = r} l z a d e) g h x so = λ s. tells e tt (h ⊳ token a ⊳ takes d) x (made node.Binary x r k 0 0 (join so.row (shape d 0 blank).row)) (as-other (plain sort.binary refl (anyhow s ▹ anyhow (tells d tt (h ⊳ token a) 0 blank))))
tells (by.type-check {word = word} {q = q} {r = r} l a c b e) g h x so = λ s. tells e tt (h ⊳ token a ⊳ step b) x (made node.TypeCheck x r word (start_of q) 0 so.row) (as-other (plain sort.type-check refl (anyhow s)))
tells (by.not-expr a d) g h x so = as-other (plain sort.unary refl (anyhow (tells d tt (h ⊳ token a) 0 blank)))
tells (by.neg-expr a d) g h x so = as-other (plain sort.unary refl (anyhow (tells d tt (h ⊳ token a) 0 blank)))
tells (by.tried a d e) g h x so = as-other (handlers-join (shape e 0 blank) (short e tt 0 blank (h ⊳ token a ⊳ takes d)) (tells d tt (h ⊳ token a) 0 blank) (tells e tt (h ⊳ token a ⊳ takes d) 0 blank none_yet))
tells (by.no-unary d) g h x so = tells d tt h 0 blank
tells (by.last-handler d z) g h x so = λ t. longer t (tells d tt h 0 blank)
tells (by.more-handlers d e) g h x so = λ t. tells e tt (h ⊳ takes d) x (more so (shape d 0 blank)) (longer t (tells d tt h 0 blank))
tells (by.handler-of a d e f) g h x so = counted (is_ended (shape e 0 blank).last) false sort.handler (short e tt 0 blank (h ⊳ token a ⊳ takes d)) refl (tells d tt (h ⊳ token a) 0 blank ▹ (tells e tt (h ⊳ token a ⊳ takes d) 0 blank refl none_yet ▹ tells f tt (h ⊳ token a ⊳ takes d ⊳ takes e) 0 blank))
-- calls and members
tells (by.primary-of {p = p} d e) g h x so = tells e tt (h ⊳ takes d) (start_of p) (shape d 0 blank) (tells d tt h 0 blank)
tells (by.no-post z l) g h x so = λ s. s
tells (by.call {r = r} a d l e) g h x so = λ s. tells e tt (h ⊳ token a ⊳ takes d) x (call_over x r so (shape d 0 blank) none) (call-told r so (shape d 0 blank) (short d refl 0 blank (h ⊳ token a)) s (tells d arguments (h ⊳ token a) 0 blank refl none_yet) none_yet)
tells (by.call-lambda {s = s} a d f e) g h x so = λ o. tells e tt (h ⊳ token a ⊳ takes d ⊳ takes f) x (call_over x s so (shape d 0 blank) (covered node.Closure (shape f 0 blank).row)) (call-told s so (shape d 0 blank) (short d refl 0 blank (h ⊳ token a)) o (tells d arguments (h ⊳ token a) 0 blank refl none_yet) (optional (lambda-over (tells f tt (h ⊳ token a ⊳ takes d) 0 blank))))
tells (by.lambda-alone {q = q} d e) g h x so = λ s. tells e tt (h ⊳ takes d) x (call_over x q so blank (covered node.Closure (shape d 0 blank).row)) (call-told q so blank (ltb-true _ _ refl) s none_yet (optional (lambda-over (tells d tt h 0 blank))))
tells (by.member {f = f} {n = n} {q = q} d e) g h x so = λ s. tells e tt (h ⊳ takes d) x (member_over x q None n so (shape d 0 blank)) (member-formed f (member-told q None so (shape d 0 blank) s (tells d tt h 0 blank)))
tells (by.safe-member {n = n} {p = p} {r = r} a d e) g h x so = λ s. tells e tt (h ⊳ token a ⊳ takes d) x (member_over x r (Some (span_of p)) n so (shape d 0 blank)) (as-other (wider (λ k o. sort.a-member o) (member-told r (Some (span_of p)) so (shape d 0 blank) s (tells d tt (h ⊳ token a) 0 blank))))
tells (by.bracket a d b) g h x so = (ltb-true _ _ refl, tells d tt (h ⊳ token a) 0 blank)
tells (by.dot a d) g h x so = (ltb-true _ _ refl, tells d tt (h ⊳ token a) 0 blank)
tells (by.double-colon a d) g h x so = (ltb-true _ _ refl, tells d tt (h ⊳ token a) 0 blank)
tells (by.bracket-meta a b c) g h x so = (ltb-true _ _ refl, no_more)
tells (by.dot-meta a b) g h x so = (ltb-true _ _ refl, no_more)
tells (by.double-colon-meta a b) g h x so = (ltb-true _ _ refl, no_more)
-- atoms
tells (by.paren-expr a d b) g h x so = as-other (plain sort.paren refl (tells d tt (h ⊳ token a) 0 blank))
tells (by.name d) g h x so = as-name (tells d tt h 0 blank)
tells (by.table a d) g h x so = as-other (rowed sort.table (short d refl 0 blank (h ⊳ token a)) refl (tells d properties (h ⊳ token a) 0 blank refl none_yet))
tells (by.block-expr a e z d) g h x so = as-other (plain sort.expr-block refl (rowed sort.block (short d tt 0 blank (h ⊳ token a ⊳ takes e)) refl (tells d tt (h ⊳ token a ⊳ takes e) 0 blank none_yet)))
tells (by.list a d) g h x so = as-other (rowed sort.list (short d refl 0 blank (h ⊳ token a)) refl (tells d elements (h ⊳ token a) 0 blank refl none_yet))
tells (by.atom-literal d) g h x so = as-other (wider (λ k o. sort.a-literal o) (tells d tt h 0 blank))
tells (by.fn-expr {p = p} {r = r} a d) g h x so = as-other (fn-told r None (shape d (start_of p) blank) none_yet (tells d tt (h ⊳ token a) (start_of p) blank))
tells (by.closure-expr {p = p} {q = q} d) g h x so = as-other (fn-told q None (shape d (start_of p) blank) none_yet (tells d tt h (start_of p) blank))
tells (by.do-expr {p = p} {r = r} a d) g h x so = as-other (fn-told r None (over node.Do (start_of p) r (shape d 0 blank)) none_yet (plain sort.do-function refl (tells d tt (h ⊳ token a) 0 blank)))
tells (by.if-expr a d e f) g h x so = as-other (signed (there (shape f 0 blank).row) false sort.if-expr refl (tells d tt (h ⊳ token a) 0 blank ▹ (tells e tt (h ⊳ token a ⊳ takes d) 0 blank ▹ tells f tt (h ⊳ token a ⊳ takes d ⊳ takes e) 0 blank)))
tells (by.match-expr a d b e) g h x so = as-other (rowed sort.match-expr (short e tt 0 (only (shape d 0 blank).row) (h ⊳ token a ⊳ takes d ⊳ token b)) refl (tells e tt (h ⊳ token a ⊳ takes d ⊳ token b) 0 (only (shape d 0 blank).row) (empty-behind (tells d tt (h ⊳ token a) 0 blank) none_yet)))
tells (by.loop-expr a d) g h x so = as-other (plain sort.loop refl (tells d tt (h ⊳ token a) 0 blank))
tells (by.while-expr a d e) g h x so = as-other (plain sort.while refl (tells d tt (h ⊳ token a) 0 blank ▹ tells e tt (h ⊳ token a ⊳ takes d) 0 blank))
tells (by.for-expr a d b e f) g h x so = as-other (rowed sort.for-expr (short d tt 0 blank (h ⊳ token a)) refl (tells d tt (h ⊳ token a) 0 blank none_yet ▹ (tells e tt (h ⊳ token a ⊳ takes d ⊳ token b) 0 blank ▹ tells f tt (h ⊳ token a ⊳ takes d ⊳ token b ⊳ takes e) 0 blank)))
tells (by.break-expr a) g h x so = as-other (plain sort.break refl no_more)
tells (by.continue-expr a) g h x so = as-other (plain sort.continue refl no_more)
tells (by.return-expr a d) g h x so = as-other (plain sort.return refl (tells d tt (h ⊳ token a) 0 blank))
tells (by.no-else z) g h x so = none_yet
tells (by.else-if a z d) g h x so = optional (tells d tt (h ⊳ token a) 0 blank)
tells (by.else-block a d) g h x so = optional (else-over (tells d tt (h ⊳ token a) 0 blank))
tells (by.last_name d z) g h x so = λ t. longer t (tells d tt h 0 blank)
tells (by.more-names d a e) g h x so = λ t. tells e tt (h ⊳ takes d ⊳ token a) x (more so (shape d 0 blank)) (longer t (tells d tt h 0 blank))
tells (by.no-case a) g h x so = λ t. t
tells (by.more-cases a d b e) g h x so = λ t. tells e tt (h ⊳ takes a ⊳ takes d ⊳ takes b) x (more so (shape d 0 blank)) (longer-behind t (tells d tt (h ⊳ takes a) 0 blank))
tells (by.case-of d a e) g h x so = rowed sort.case (short d tt 0 blank h) refl (tells d tt h 0 blank none_yet ▹ tells e tt (h ⊳ takes d ⊳ token a) 0 blank)
tells (by.last-pattern d z) g h x so = λ t. longer t (tells d tt h 0 blank)
tells (by.more-patterns d a e) g h x so = λ t. tells e tt (h ⊳ takes d ⊳ token a) x (more so (shape d 0 blank)) (longer t (tells d tt h 0 blank))
-- the properties of a table
tells (by.property d e) g h x so = plain sort.property refl (tells d tt h 0 blank ▹ tells e tt (h ⊳ takes d) 0 blank)
tells (by.paren-key a d b c) g h x so = plain sort.key-group refl (tells d tt (h ⊳ token a) 0 blank)
tells (by.literal-key d a) g h x so = wider (λ k o. sort.key-literal o) (tells d tt h 0 blank)
