-- Each way through the rules on operators, unary forms and `try`, as the code goes through them.
use Rattle.std.specs.Prelude.{Some, None}
use mathlib.Core.Path.{◌≡◌, refl, ◌∙◌}
use mathlib.Core.Bool.{Bool, true, false}
use mathlib.Core.List.{[], ◌∷◌}
use mathlib.Core.Logic.{inl, inr}
use Prim.Native.Nat.{ℕ, ◌+◌, ◌<◌, ◌≤◌}
use native.Mathlib.Omega.{arith}
use types.Run.{OneOf}
use denote.Enum.Declared.{tag_of}
use borrow.Author.Tests.{eq-eqb, ne_eqb, lt-ltb, le-ltb}
use Rattle.kinds.specs.Number as kind
use Rattle.kinds.specs.declared.operator.BinOp.{BinOp}
use Rattle.kinds.specs.declared.operator.BinOp.TheVariants as ops
use Rattle.kinds.specs.Operators.{binary_of, precedence_of}
use Rattle.cursor.specs.declared.State.{State}
use Rattle.cursor.specs.declared.Kids.{Kids}
use Rattle.cursor.specs.declared.Fault.{Fault}
use Rattle.cursor.specs.declared.Span.{Span}
use Rattle.cursor.specs.Sheet.{kind_at, range_at, Ranged}
use Rattle.cursor.specs.Node as node
use Rattle.cursor.specs.Rule.{World, Stop, fault, done, failed, more, stop, iterate}
use Rattle.cursor.specs.Tokens.{start_of, bump}
use Rattle.cursor.specs.Checks.{check, expect, pick}
use Rattle.cursor.specs.Records.{add}
use Rattle.types.specs.declared.items.Items.{Items}
use Rattle.types.specs.Lits.{ident}
use Rattle.types.specs.Items.{close}
use Rattle.types.specs.Types.{params}
use Rattle.types.specs.Patterns.{span_of}
use Rattle.types.proofs.TypePaths.{starts}
use Rattle.parts.specs.declared.values.Called.{Called}
use Rattle.parts.specs.declared.values.Expr.{Expr}
use Rattle.parts.specs.declared.values.Expr.TheVariants as exprs
use Rattle.parts.specs.contracts.values.Expr as told
use Rattle.parts.specs.Values.{link_of, row_of}
use Rattle.rules.specs.Inner.{Inner}
use Rattle.parts.specs.Records.{couple, handler_record, handlers_flagged}
use Rattle.parts.specs.Steps.{alone, type_check}
use Rattle.rules.specs.Blocks.{block}
use Rattle.rules.specs.Atoms.{primary}
use Rattle.rules.specs.Precedence.{handler, handler_turn, tried_by, tried, unary_op, unary, operated, infix_by, infix_turn}
use Rattle.rules.proofs.Placed.{unary_chain, unary-placed}

module _ (r : Inner) where
  -- a handler of a `try`
  module _ (s : State) (w : World) {from : ℕ} (f : from ≡ start_of (range_at r.sheet.tokens s.at)) where
    pub handler-open : {x : Stop} → expect r.sheet kind.With s w ≡ failed x → handler r s w ≡ failed x
    unfolding handler
    handler-open p = rw (starts r.sheet s w f) (rw p)

    module _ {s1 : State} {w1 : World} (p : expect r.sheet kind.With s w ≡ done s1 w1 tt) where
      pub handler-bare : {x : Stop} → ident r.sheet s1 w1 ≡ failed x → handler r s w ≡ failed x
      unfolding handler
      handler-bare q = rw (starts r.sheet s w f) (rw p (rw q))

      module _ {name : ℕ} {s2 : State} {w2 : World} (q : ident r.sheet s1 w1 ≡ done s2 w2 name) where
        pub handler-failed : {x : Stop} → params r.sheet r.type_atom (row_of name) s2 w2 ≡ failed x → handler r s w ≡ failed x
        unfolding handler
        handler-failed a = rw (starts r.sheet s w f) (rw p (rw q (rw a)))

        module _ {i : Items} {s3 : State} {w3 : World} (a : params r.sheet r.type_atom (row_of name) s2 w2 ≡ done s3 w3 i) where
          pub handler-lost : {x : Stop} → block r 0 s3 w3 ≡ failed x → handler r s w ≡ failed x
          unfolding handler
          handler-lost b = rw (starts r.sheet s w f) (rw p (rw q (rw a (rw b))))

          pub handler-on : {body : ℕ} {s4 : State} {w4 : World} → block r 0 s3 w3 ≡ done s4 w4 body → handler r s w ≡ handler_record from i body s4 w4
          unfolding handler
          handler-on b = rw (starts r.sheet s w f) (rw p (rw q (rw a (rw b))))

  -- one handler more
  module _ (kids : Kids) (s : State) (w : World) where
    pub turn-failed : {x : Stop} → handler r s w ≡ failed x → handler_turn r kids s w ≡ failed x
    unfolding handler_turn
    turn-failed p = rw p

    module _ {one : ℕ} {longer : Kids} {s1 s2 : State} {w1 w2 : World} (p : handler r s w ≡ done s1 w1 one) (q : done s2 w2 longer ≡ add kids one s1 w1) where
      pub turn-full : {x : Stop} → check r.sheet kind.With s2 w2 ≡ failed x → handler_turn r kids s w ≡ failed x
      unfolding handler_turn
      turn-full a = rw p (rw (← q) (rw a))

      pub turn_more : {s3 : State} {w3 : World} → check r.sheet kind.With s2 w2 ≡ done s3 w3 true → handler_turn r kids s w ≡ done s3 w3 (more longer)
      unfolding handler_turn
      turn_more a = rw p (rw (← q) (rw a))

      pub turn-stop : {s3 : State} {w3 : World} → check r.sheet kind.With s2 w2 ≡ done s3 w3 false → handler_turn r kids s w ≡ done s3 w3 (stop longer)
      unfolding handler_turn
      turn-stop a = rw p (rw (← q) (rw a))

  -- what may not be tried: everything but a Call, whose tag is none of these
  untried : (here : Span) (x : Expr) (s : State) (w : World) → OneOf (0 ∷ 1 ∷ 3 ∷ []) (tag_of told.the_type x) → tried_by r here x s w ≡ failed (fault s w (alone kind.Try here))
  unfolding tried_by
  untried here (exprs.Name link) s w h = refl
  untried here (exprs.NameMember link) s w h = refl
  untried here (exprs.Call link called) s w (inl h) = absurd (omega arith)
  untried here (exprs.Call link called) s w (inr (inl h)) = absurd (omega arith)
  untried here (exprs.Call link called) s w (inr (inr h)) = absurd (omega arith)
  untried here (exprs.Other link) s w h = refl

  -- `try`
  module _ (lambda : Bool) (s : State) (w : World) where
    pub tried-spent : {x : Stop} → bump r.sheet s w ≡ failed x → tried r lambda s w ≡ failed x
    unfolding tried
    tried-spent p = rw p

    module _ {s1 : State} {w1 : World} (p : bump r.sheet s w ≡ done s1 w1 tt) where
      pub tried-failed : {x : Stop} → primary r lambda s1 w1 ≡ failed x → tried r lambda s w ≡ failed x
      unfolding tried
      tried-failed q = rw p (rw q)

      module _ {x : Expr} {s2 : State} {w2 : World} (q : primary r lambda s1 w1 ≡ done s2 w2 x) where
        pub tried_other : {here : Ranged} {span : Span} {f : Fault} → OneOf (0 ∷ 1 ∷ 3 ∷ []) (tag_of told.the_type x) → here ≡ range_at r.sheet.tokens s.at → span ≡ span_of here → f ≡ alone kind.Try span → tried r lambda s w ≡ failed (fault s2 w2 f)
        unfolding tried
        tried_other h a b c = rw p (rw q (rw (c, b, a) (untried _ x s2 w2 h)))

        module _ {link : ℕ} {called : Called} (c : x ≡ exprs.Call link called) where
          pub tried-lost : {y : Stop} → iterate r.sheet (handler_turn r) called.kids s2 w2 ≡ failed y → tried r lambda s w ≡ failed y
          unfolding tried tried_by
          tried-lost a = rw p (rw q (rw c (rw a)))

          pub tried-on : {kids : Kids} {s3 s4 : State} {w3 w4 : World} → iterate r.sheet (handler_turn r) called.kids s2 w2 ≡ done s3 w3 kids → done s4 w4 tt ≡ handlers_flagged link called kids.count s3 w3 → tried r lambda s w ≡ done s4 w4 (exprs.Other link)
          unfolding tried tried_by
          tried-on a b = rw p (rw q (rw c (rw a (rw (← b)))))

  -- parse_expr_unary
  module _ (lambda : Bool) (s : State) (w : World) {from : ℕ} (f : from ≡ start_of (range_at r.sheet.tokens s.at)) where
    pub unary-full : {x : Stop} → pick r.sheet (unary_chain r) s w ≡ failed x → unary r lambda s w ≡ failed x
    unary-full p = rw (unary-placed r lambda) (rw (starts r.sheet s w f) (rw p))

    module _ {which : ℕ} {s1 : State} {w1 : World} (p : pick r.sheet (unary_chain r) s w ≡ done s1 w1 which) where
      pub unary-try : which ≡ 2 → unary r lambda s w ≡ tried r lambda s1 w1
      unary-try t = rw (unary-placed r lambda) (rw (starts r.sheet s w f) (rw p (rw (eq-eqb _ _ t))))

      module _ (t : which ≡ 2 → ⊥) where
        pub unary-plain : 2 < which → unary r lambda s w ≡ primary r lambda s1 w1
        unary-plain u = rw (unary-placed r lambda) (rw (starts r.sheet s w f) (rw p (rw (ne_eqb _ _ t) (rw (lt-ltb _ _ u)))))

        module _ (u : which ≤ 2) where
          pub unary-spent : {x : Stop} → bump r.sheet s1 w1 ≡ failed x → unary r lambda s w ≡ failed x
          unfolding unary_op
          unary-spent q = rw (unary-placed r lambda) (rw (starts r.sheet s w f) (rw p (rw (ne_eqb _ _ t) (rw (le-ltb _ _ u) (rw q)))))

          module _ {s2 : State} {w2 : World} (q : bump r.sheet s1 w1 ≡ done s2 w2 tt) where
            pub unary-failed : {x : Stop} → primary r lambda s2 w2 ≡ failed x → unary r lambda s w ≡ failed x
            unfolding unary_op
            unary-failed a = rw (unary-placed r lambda) (rw (starts r.sheet s w f) (rw p (rw (ne_eqb _ _ t) (rw (le-ltb _ _ u) (rw q (rw a))))))

            module _ {x : Expr} {s3 : State} {w3 : World} (a : primary r lambda s2 w2 ≡ done s3 w3 x) {k operand : ℕ} (c : k ≡ kind_at r.sheet.tokens s1.at) (l : operand ≡ link_of x) where
              pub unary-lost : {y : Stop} → close node.Unary from k 0 0 operand s3 w3 ≡ failed y → unary r lambda s w ≡ failed y
              unfolding unary_op
              unary-lost b = rw (unary-placed r lambda) (rw (starts r.sheet s w f) (rw p (rw (ne_eqb _ _ t) (rw (le-ltb _ _ u) (rw q (rw a (rw (← c, ← l) (rw b))))))))

              pub unary-on : {link : ℕ} {s4 : State} {w4 : World} → close node.Unary from k 0 0 operand s3 w3 ≡ done s4 w4 link → unary r lambda s w ≡ done s4 w4 (exprs.Other link)
              unfolding unary_op
              unary-on b = rw (unary-placed r lambda) (rw (starts r.sheet s w f) (rw p (rw (ne_eqb _ _ t) (rw (le-ltb _ _ u) (rw q (rw a (rw (← c, ← l) (rw b))))))))

  -- one operator more
  module _ (from min : ℕ) (lambda : Bool) (x : Expr) (s : State) (w : World) {k : ℕ} (c : k ≡ kind_at r.sheet.tokens s.at) where
    pub infix-none : binary_of k ≡ None → infix_turn r from min lambda x s w ≡ done s w (stop x)
    unfolding infix_turn infix_by
    infix-none o = rw (← c) (rw (o, infix_by))

    module _ {op : BinOp} {level : ℕ} (o : binary_of k ≡ Some op) (v : level ≡ precedence_of op) where
      pub infix-low : level < min → infix_turn r from min lambda x s w ≡ done s w (stop x)
      unfolding infix_turn infix_by
      infix-low t = rw (← c) (rw (o, infix_by) (rw (← v) (rw (lt-ltb _ _ t))))

      module _ (t : min ≤ level) where
        pub infix-spent : {y : Stop} → bump r.sheet s w ≡ failed y → infix_turn r from min lambda x s w ≡ failed y
        unfolding infix_turn infix_by
        infix-spent p = rw (← c) (rw (o, infix_by) (rw (← v) (rw (le-ltb _ _ t) (rw p))))

        module _ {s1 : State} {w1 : World} (p : bump r.sheet s w ≡ done s1 w1 tt) where
          operator : infix_turn r from min lambda x s w ≡ operated r from lambda x k level s1 w1
          unfolding infix_turn infix_by
          operator = rw (← c) (rw (o, infix_by) (rw (← v) (rw (le-ltb _ _ t) (rw p))))

          pub infix-is : k ≡ kind.Is → infix_turn r from min lambda x s w ≡ type_check r.sheet from x s1 w1
          unfolding operated
          infix-is u = operator ∙ rw (eq-eqb _ _ u, operated)

          module _ (u : k ≡ kind.Is → ⊥) where
            pub infix-failed : {y : Stop} → r.prec (level + 1) lambda s1 w1 ≡ failed y → infix_turn r from min lambda x s w ≡ failed y
            unfolding operated
            infix-failed q = operator ∙ rw (ne_eqb _ _ u, operated) (rw q)

            module _ {y : Expr} {s2 : State} {w2 : World} (q : r.prec (level + 1) lambda s1 w1 ≡ done s2 w2 y) {a b : ℕ} (l : a ≡ link_of x) (m : b ≡ link_of y) where
              pub infix-lost : {z : Stop} → couple node.Binary from k a b s2 w2 ≡ failed z → infix_turn r from min lambda x s w ≡ failed z
              unfolding operated
              infix-lost d = operator ∙ rw (ne_eqb _ _ u, operated) (rw q (rw (← l, ← m) (rw d)))

              pub infix-on : {link : ℕ} {s3 : State} {w3 : World} → couple node.Binary from k a b s2 w2 ≡ done s3 w3 link → infix_turn r from min lambda x s w ≡ done s3 w3 (more (exprs.Other link))
              unfolding operated
              infix-on d = operator ∙ rw (ne_eqb _ _ u, operated) (rw q (rw (← l, ← m) (rw d)))

-- no level is above 5
pub level-small : (op : BinOp) → precedence_of op ≤ 5
level-small ops.Add = omega arith
level-small ops.Sub = omega arith
level-small ops.Mul = omega arith
level-small ops.Div = omega arith
level-small ops.Rem = omega arith
level-small ops.And = omega arith
level-small ops.Or = omega arith
level-small ops.Eq = omega arith
level-small ops.Ne = omega arith
level-small ops.Lt = omega arith
level-small ops.Le = omega arith
level-small ops.Gt = omega arith
level-small ops.Ge = omega arith
level-small ops.Is = omega arith
