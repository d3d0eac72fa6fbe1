-- Each way through the rules on statements and their parts: expressions as links, blocks, functions, assignments.
use Rattle.std.specs.Prelude.{Some, None}
use mathlib.Core.Path.{◌≡◌, refl, sym, ◌∙◌}
use mathlib.Core.Bool.{Bool, true, false}
use Prim.Native.Nat.{ℕ, ◌<◌, ◌≤◌}
use mathlib.Core.List.{List, [], ◌∷◌}
use mathlib.Core.Logic.{inl, inr}
use native.Mathlib.Omega.{arith}
use types.Run.{OneOf}
use denote.Enum.Declared.{tag_of}
use lib.ListN.{get_or}
use borrow.Author.Tests.{eq-eqb, ne_eqb, lt-ltb, le-ltb}
use Rattle.kinds.specs.Number as kind
use Rattle.cursor.specs.declared.State.{State}
use Rattle.cursor.specs.declared.Kids.{Kids}
use Rattle.cursor.specs.declared.Span.{Span}
use Rattle.cursor.specs.declared.Fault.{Fault}
use Rattle.cursor.specs.declared.Parser.{Parser}
use Rattle.cursor.specs.Answers.{run}
use Rattle.cursor.specs.Sheet.{Ranged, range_at}
use Rattle.cursor.specs.Node as node
use Rattle.cursor.specs.Rule.{World, Stop, fault, done, failed, give, more, stop, iterate}
use Rattle.cursor.specs.Tokens.{start_of, bump}
use Rattle.cursor.specs.Checks.{check, expect, eat_range, pick, unexpected, unexpected_at}
use Rattle.cursor.specs.Records.{add, flagged}
use Rattle.cursor.specs.Attempts.{try_parse}
use Rattle.types.specs.declared.items.Items.{Items}
use Rattle.types.specs.Lits.{ident}
use Rattle.types.specs.Items.{close, pair}
use Rattle.types.specs.Types.{type, returns, named, typed_ident}
use Rattle.types.proofs.TypePaths.{starts}
use Rattle.parts.specs.declared.values.Expr.{Expr}
use Rattle.parts.specs.declared.values.Expr.TheVariants as exprs
use Rattle.parts.specs.contracts.values.Expr as told
use Rattle.parts.specs.Values.{link_of, to_assign_left, row_with, uncounted}
use Rattle.rules.specs.Inner.{Inner, expr}
use Rattle.parts.specs.Records.{couple, row_record, block_record, fn_record, function_record}
use Rattle.parts.specs.Steps.{alone, operator_of, any_params}
use Rattle.rules.specs.Blocks.{block, expr_and_block}
use Rattle.rules.specs.Functions.{function, named_function}
use Rattle.parts.specs.Effects.{effect_stmt}
use Rattle.parts.specs.Imports.{import_stmt}
use Rattle.rules.specs.Statements.{right, set_to, set, typed_assign, left_of, left_turn, lefts, right_turn, rights, multi_to, multi, assign, glo_assign, glo, plain, function_stmt, stmt}
use Rattle.rules.proofs.Placed.{stmt_chain, glo_chain, sign_chain, glo_by, assign-placed, glo-placed, plain-placed}

module _ (r : Inner) where
  -- an expression's link
  module _ (lambda : Bool) (s : State) (w : World) where
    pub expr-failed : {x : Stop} → r.prec 1 lambda s w ≡ failed x → expr r lambda s w ≡ failed x
    unfolding expr
    expr-failed p = rw p

    pub expr-on : {x : Expr} {link : ℕ} {s1 : State} {w1 : World} → r.prec 1 lambda s w ≡ done s1 w1 x → link ≡ link_of x → expr r lambda s w ≡ done s1 w1 link
    unfolding expr
    expr-on p q = rw (p, q)

  -- a block
  module _ (wrap : ℕ) (s : State) (w : World) where
    pub block-shut : {x : Stop} → expect r.sheet kind.OpenBrace s w ≡ failed x → block r wrap s w ≡ failed x
    unfolding block
    block-shut p = rw p

    module _ {from : ℕ} {s1 : State} {w1 : World} (p : expect r.sheet kind.OpenBrace s w ≡ done s1 w1 tt) (f : from ≡ start_of (range_at r.sheet.tokens s1.at)) where
      pub block-failed : {x : Stop} → r.exprs kind.CloseBrace s1 w1 ≡ failed x → block r wrap s w ≡ failed x
      unfolding block
      block-failed q = rw p (rw (starts r.sheet s1 w1 f) (rw q))

      pub block_on : {row : Kids} {s2 : State} {w2 : World} → r.exprs kind.CloseBrace s1 w1 ≡ done s2 w2 row → block r wrap s w ≡ block_record from wrap from row s2 w2
      unfolding block
      block_on q = rw p (rw (starts r.sheet s1 w1 f) (rw q))

  -- an expression and a block
  module _ (kids : Kids) (s : State) (w : World) where
    pub test-failed : {x : Stop} → expr r false s w ≡ failed x → expr_and_block r kids s w ≡ failed x
    unfolding expr_and_block
    test-failed p = rw p

    module _ {link : ℕ} {s1 : State} {w1 : World} (p : expr r false s w ≡ done s1 w1 link) where
      pub tested-failed : {x : Stop} → block r 0 s1 w1 ≡ failed x → expr_and_block r kids s w ≡ failed x
      unfolding expr_and_block
      tested-failed q = rw p (rw q)

      pub tested-on : {body : ℕ} {one two : Kids} {s2 s3 s4 : State} {w2 w3 w4 : World} → block r 0 s1 w1 ≡ done s2 w2 body → done s3 w3 one ≡ add kids link s2 w2 → done s4 w4 two ≡ add one body s3 w3 → expr_and_block r kids s w ≡ done s4 w4 two
      unfolding expr_and_block
      tested-on q a b = rw p (rw q (rw (← a) (sym b)))

  -- a function
  module _ (from : ℕ) (closure : Bool) (s : State) (w : World) where
    pub function-shut : {x : Stop} → any_params r.sheet r.type_atom closure s w ≡ failed x → function r from closure s w ≡ failed x
    unfolding function
    function-shut p = rw p

    module _ {i : Items} {s1 : State} {w1 : World} (p : any_params r.sheet r.type_atom closure s w ≡ done s1 w1 i) where
      pub function-untyped : {x : Stop} → returns r.sheet r.type_atom s1 w1 ≡ failed x → function r from closure s w ≡ failed x
      unfolding function
      function-untyped q = rw p (rw q)

      module _ {link : ℕ} {s2 : State} {w2 : World} (q : returns r.sheet r.type_atom s1 w1 ≡ done s2 w2 link) where
        pub function-failed : {x : Stop} → block r 0 s2 w2 ≡ failed x → function r from closure s w ≡ failed x
        unfolding function
        function-failed b = rw p (rw q (rw b))

        pub function-on : {body : ℕ} {s3 : State} {w3 : World} → block r 0 s2 w2 ≡ done s3 w3 body → function r from closure s w ≡ function_record from closure i link body s3 w3
        unfolding function
        function-on b = rw p (rw q (rw b))

  -- a named function
  module _ (from : ℕ) (glo : Ranged) (s : State) (w : World) where
    pub fn-shut : {x : Stop} → expect r.sheet kind.Fn s w ≡ failed x → named_function r from glo s w ≡ failed x
    unfolding named_function
    fn-shut p = rw p

    module _ {s1 : State} {w1 : World} (p : expect r.sheet kind.Fn s w ≡ done s1 w1 tt) where
      pub fn-nameless : {x : Stop} → ident r.sheet s1 w1 ≡ failed x → named_function r from glo s w ≡ failed x
      unfolding named_function
      fn-nameless q = rw p (rw q)

      module _ {name : ℕ} {s2 : State} {w2 : World} (q : ident r.sheet s1 w1 ≡ done s2 w2 name) where
        pub fn-failed : {x : Stop} → function r from false s2 w2 ≡ failed x → named_function r from glo s w ≡ failed x
        unfolding named_function
        fn-failed b = rw p (rw q (rw b))

        pub fn-on : {link : ℕ} {s3 : State} {w3 : World} → function r from false s2 w2 ≡ done s3 w3 link → named_function r from glo s w ≡ fn_record from glo name link s3 w3
        unfolding named_function
        fn-on b = rw p (rw q (rw b))

  -- the right side of an assignment
  module _ (from k op link : ℕ) (s : State) (w : World) where
    pub right-failed : {x : Stop} → expr r true s w ≡ failed x → right r from k op link s w ≡ failed x
    unfolding right
    right-failed p = rw p

    pub right-on : {value : ℕ} {s1 : State} {w1 : World} → expr r true s w ≡ done s1 w1 value → right r from k op link s w ≡ couple k from op link value s1 w1
    unfolding right
    right-on p = rw p

  -- an assignment, with an operator or without
  module _ (from sign : ℕ) (x : Expr) (s : State) (w : World) where
    pub set-nothing : None ≡ to_assign_left x → set r from sign x s w ≡ failed (fault s w (unexpected_at r.sheet s))
    unfolding set set_to unexpected
    set-nothing p = rw (← p)

    module _ {link : ℕ} (p : Some link ≡ to_assign_left x) where
      pub set-spent : {y : Stop} → bump r.sheet s w ≡ failed y → set r from sign x s w ≡ failed y
      unfolding set set_to
      set-spent q = rw (← p) (rw q)

      module _ {s1 : State} {w1 : World} (q : bump r.sheet s w ≡ done s1 w1 tt) where
        pub set-plain : sign ≡ kind.Assign → set r from sign x s w ≡ right r from node.Assign 0 link s1 w1
        unfolding set set_to
        set-plain c = rw (← p) (rw q (rw (eq-eqb _ _ c)))

        pub set-op : {op : ℕ} → (sign ≡ kind.Assign → ⊥) → op ≡ operator_of sign → set r from sign x s w ≡ right r from node.AssignOp op link s1 w1
        unfolding set set_to
        set-op c d = rw (← p) (rw q (rw (ne_eqb _ _ c) (rw d)))

  -- an assignment to a name with a type: to anything else it is an error
  pub typed_wrong : (from : ℕ) (x : Expr) (s : State) (w : World) → OneOf (1 ∷ 2 ∷ 3 ∷ []) (tag_of told.the_type x) → typed_assign r from x s w ≡ failed (fault s w (unexpected_at r.sheet s))
  unfolding typed_assign unexpected
  typed_wrong from (exprs.Name name) s w (inl h) = absurd (omega arith)
  typed_wrong from (exprs.Name name) s w (inr (inl h)) = absurd (omega arith)
  typed_wrong from (exprs.Name name) s w (inr (inr h)) = absurd (omega arith)
  typed_wrong from (exprs.NameMember link) s w h = refl
  typed_wrong from (exprs.Call link called) s w h = refl
  typed_wrong from (exprs.Other link) s w h = refl

  module _ (from : ℕ) (x : Expr) (s : State) (w : World) {name : ℕ} (n : x ≡ exprs.Name name) where
    pub typed-spent : {y : Stop} → bump r.sheet s w ≡ failed y → typed_assign r from x s w ≡ failed y
    unfolding typed_assign
    typed-spent p = rw n (rw p)

    module _ {s1 : State} {w1 : World} (p : bump r.sheet s w ≡ done s1 w1 tt) where
      pub typed-failed : {y : Stop} → type r.sheet r.type_atom s1 w1 ≡ failed y → typed_assign r from x s w ≡ failed y
      unfolding typed_assign
      typed-failed q = rw n (rw p (rw q))

      module _ {t : ℕ} {s2 : State} {w2 : World} (q : type r.sheet r.type_atom s1 w1 ≡ done s2 w2 t) where
        pub typed-full : {y : Stop} → pair node.TypedIdent from name t s2 w2 ≡ failed y → typed_assign r from x s w ≡ failed y
        unfolding typed_assign
        typed-full b = rw n (rw p (rw q (rw b)))

        module _ {link : ℕ} {s3 : State} {w3 : World} (b : pair node.TypedIdent from name t s2 w2 ≡ done s3 w3 link) where
          pub typed-open : {y : Stop} → expect r.sheet kind.Assign s3 w3 ≡ failed y → typed_assign r from x s w ≡ failed y
          unfolding typed_assign
          typed-open c = rw n (rw p (rw q (rw b (rw c))))

          pub typed-on : {s4 : State} {w4 : World} → expect r.sheet kind.Assign s3 w3 ≡ done s4 w4 tt → typed_assign r from x s w ≡ right r from node.Assign 0 link s4 w4
          unfolding typed_assign
          typed-on c = rw n (rw p (rw q (rw b (rw c))))

  -- one left side more
  module _ (kids : Kids) (s : State) (w : World) where
    pub left-full : {y : Stop} → eat_range r.sheet kind.Comma s w ≡ failed y → left_turn r kids s w ≡ failed y
    unfolding left_turn
    left-full p = rw p

    pub left-stop : {s1 : State} {w1 : World} → eat_range r.sheet kind.Comma s w ≡ done s1 w1 None → left_turn r kids s w ≡ done s1 w1 (stop kids)
    unfolding left_turn left_of
    left-stop p = rw p

    module _ {comma : Span} {s1 : State} {w1 : World} (p : eat_range r.sheet kind.Comma s w ≡ done s1 w1 (Some comma)) where
      pub left-failed : {y : Stop} → r.prec 1 true s1 w1 ≡ failed y → left_turn r kids s w ≡ failed y
      unfolding left_turn left_of
      left-failed q = rw p (rw q)

      module _ {x : Expr} {s2 : State} {w2 : World} (q : r.prec 1 true s1 w1 ≡ done s2 w2 x) where
        pub left-wrong : {f : Fault} → None ≡ to_assign_left x → f ≡ alone kind.Comma comma → left_turn r kids s w ≡ failed (fault s2 w2 f)
        unfolding left_turn left_of
        left-wrong b c = rw p (rw q (rw (← b) (rw c)))

        pub left-more : {link : ℕ} {longer : Kids} {s3 : State} {w3 : World} → Some link ≡ to_assign_left x → done s3 w3 longer ≡ add kids link s2 w2 → left_turn r kids s w ≡ done s3 w3 (more longer)
        unfolding left_turn left_of
        left-more b c = rw p (rw q (rw (← b) (rw (← c))))

  pub lefts-is : (first : Kids) (s : State) (w : World) → lefts r first s w ≡ iterate r.sheet (left_turn r) first s w
  unfolding lefts
  lefts-is first s w = refl

  -- one right side more
  module _ (n : ℕ) (kids : Kids) (s : State) (w : World) where
    pub right-stop : n ≤ kids.count → right_turn r n kids s w ≡ done s w (stop kids)
    unfolding right_turn
    right-stop p = rw (le-ltb _ _ p, right_turn)

    module _ (p : kids.count < n) where
      pub right-bare : {y : Stop} → expect r.sheet kind.Comma s w ≡ failed y → right_turn r n kids s w ≡ failed y
      unfolding right_turn
      right-bare q = rw (lt-ltb _ _ p, right_turn) (rw q)

      module _ {s1 : State} {w1 : World} (q : expect r.sheet kind.Comma s w ≡ done s1 w1 tt) where
        pub right-lost : {y : Stop} → expr r true s1 w1 ≡ failed y → right_turn r n kids s w ≡ failed y
        unfolding right_turn
        right-lost b = rw (lt-ltb _ _ p, right_turn) (rw q (rw b))

        pub right-more : {link : ℕ} {longer : Kids} {s2 s3 : State} {w2 w3 : World} → expr r true s1 w1 ≡ done s2 w2 link → done s3 w3 longer ≡ add kids link s2 w2 → right_turn r n kids s w ≡ done s3 w3 (more longer)
        unfolding right_turn
        right-more b c = rw (lt-ltb _ _ p, right_turn) (rw q (rw b (rw (← c))))

  -- as many right sides as left ones
  module _ (from : ℕ) (left : Kids) (value : ℕ) (s : State) (w : World) {begun : Kids} {s1 : State} {w1 : World} (p : done s1 w1 begun ≡ add (uncounted left) value s w) where
    pub rights-failed : {y : Stop} → iterate r.sheet (right_turn r left.count) begun s1 w1 ≡ failed y → rights r from left value s w ≡ failed y
    unfolding rights
    rights-failed q = rw (← p) (rw q)

    pub rights-on : {flags : ℕ} {kids : Kids} {s2 : State} {w2 : World} → iterate r.sheet (right_turn r left.count) begun s1 w1 ≡ done s2 w2 kids → flags ≡ flagged left.count kids.count false false → rights r from left value s w ≡ close node.AssignMulti from 0 0 flags kids.first s2 w2
    unfolding rights
    rights-on q f = rw (← p) (rw (q, f))

  -- an assignment to several
  module _ (from : ℕ) (x : Expr) (s : State) (w : World) where
    pub multi-nothing : None ≡ to_assign_left x → multi r from x s w ≡ failed (fault s w (unexpected_at r.sheet s))
    unfolding multi multi_to unexpected
    multi-nothing p = rw (← p)

    module _ {one : ℕ} (p : Some one ≡ to_assign_left x) where
      pub multi-failed : {y : Stop} → lefts r (row_with one) s w ≡ failed y → multi r from x s w ≡ failed y
      unfolding multi multi_to
      multi-failed q = rw (← p) (rw q)

      module _ {kids : Kids} {s1 : State} {w1 : World} (q : lefts r (row_with one) s w ≡ done s1 w1 kids) where
        pub multi-open : {y : Stop} → expect r.sheet kind.Assign s1 w1 ≡ failed y → multi r from x s w ≡ failed y
        unfolding multi multi_to
        multi-open b = rw (← p) (rw q (rw b))

        module _ {s2 : State} {w2 : World} (b : expect r.sheet kind.Assign s1 w1 ≡ done s2 w2 tt) where
          pub multi-lost : {y : Stop} → expr r true s2 w2 ≡ failed y → multi r from x s w ≡ failed y
          unfolding multi multi_to
          multi-lost c = rw (← p) (rw q (rw b (rw c)))

          module _ {value : ℕ} {s3 : State} {w3 : World} (c : expr r true s2 w2 ≡ done s3 w3 value) where
            pub multi-full : {y : Stop} → check r.sheet kind.Comma s3 w3 ≡ failed y → multi r from x s w ≡ failed y
            unfolding multi multi_to
            multi-full d = rw (← p) (rw q (rw b (rw c (rw d))))

            pub multi-several : {s4 : State} {w4 : World} → check r.sheet kind.Comma s3 w3 ≡ done s4 w4 true → multi r from x s w ≡ rights r from kids value s4 w4
            unfolding multi multi_to
            multi-several d = rw (← p) (rw q (rw b (rw c (rw d))))

            pub multi-one : {s4 : State} {w4 : World} → check r.sheet kind.Comma s3 w3 ≡ done s4 w4 false → multi r from x s w ≡ row_record node.AssignUnpack from kids value s4 w4
            unfolding multi multi_to
            multi-one d = rw (← p) (rw q (rw b (rw c (rw d))))

  -- an expression, or the assignment that it begins
  module _ (from : ℕ) (s : State) (w : World) where
    pub assign-failed : {y : Stop} → r.prec 1 true s w ≡ failed y → assign r from s w ≡ failed y
    assign-failed p = rw (assign-placed r from) (rw p)

    module _ {x : Expr} {s1 : State} {w1 : World} (p : r.prec 1 true s w ≡ done s1 w1 x) where
      pub assign-full : {y : Stop} → pick r.sheet (sign_chain r) s1 w1 ≡ failed y → assign r from s w ≡ failed y
      assign-full q = rw (assign-placed r from) (rw p (rw q))

      module _ {which : ℕ} {s2 : State} {w2 : World} (q : pick r.sheet (sign_chain r) s1 w1 ≡ done s2 w2 which) where
        pub assign-multi : which ≡ 0 → assign r from s w ≡ multi r from x s2 w2
        assign-multi a = rw (assign-placed r from) (rw p (rw q (rw (eq-eqb _ _ a))))

        module _ (a : which ≡ 0 → ⊥) where
          pub assign-typed : which ≡ 1 → assign r from s w ≡ typed_assign r from x s2 w2
          assign-typed b = rw (assign-placed r from) (rw p (rw q (rw (ne_eqb _ _ a) (rw (eq-eqb _ _ b)))))

          module _ (b : which ≡ 1 → ⊥) where
            pub assign-none : {link : ℕ} → 7 < which → link ≡ link_of x → assign r from s w ≡ done s2 w2 link
            assign-none c d = rw (assign-placed r from) (rw p (rw q (rw (ne_eqb _ _ a) (rw (ne_eqb _ _ b) (rw (lt-ltb _ _ c) (rw d))))))

            pub assign-set : which ≤ 7 → assign r from s w ≡ set r from (get_or (sign_chain r) which 0) x s2 w2
            assign-set c = rw (assign-placed r from) (rw p (rw q (rw (ne_eqb _ _ a) (rw (ne_eqb _ _ b) (rw (le-ltb _ _ c))))))

    -- behind `glo`
    pub glo-spent : {y : Stop} → bump r.sheet s w ≡ failed y → glo r from s w ≡ failed y
    glo-spent p = rw (glo-placed r from s w) (rw p)

    module _ {s1 : State} {w1 : World} (p : bump r.sheet s w ≡ done s1 w1 tt) where
      pub glo-full : {y : Stop} → pick r.sheet (glo_chain r) s1 w1 ≡ failed y → glo r from s w ≡ failed y
      glo-full q = rw (glo-placed r from s w) (rw p (rw q))

      module _ {here : Ranged} (h : here ≡ range_at r.sheet.tokens s.at) {which : ℕ} {s2 : State} {w2 : World} (q : pick r.sheet (glo_chain r) s1 w1 ≡ done s2 w2 which) where
        pub glo-fn : which ≡ 0 → glo r from s w ≡ named_function r from here s2 w2
        unfolding glo_by glo_assign
        glo-fn a = rw (glo-placed r from s w) (rw p (rw q (rw (eq-eqb _ _ a) (rw h))))

        module _ (a : which ≡ 0 → ⊥) where
          pub glo-effect : which ≡ 1 → glo r from s w ≡ effect_stmt r.sheet r.type_atom from here s2 w2
          unfolding glo_by glo_assign
          glo-effect b = rw (glo-placed r from s w) (rw p (rw q (rw (ne_eqb _ _ a) (rw (eq-eqb _ _ b) (rw h)))))

          module _ (b : which ≡ 1 → ⊥) where
            pub glo-lost : {y : Stop} → typed_ident r.sheet (named r.sheet r.type_atom false) s2 w2 ≡ failed y → glo r from s w ≡ failed y
            unfolding glo_by glo_assign
            glo-lost c = rw (glo-placed r from s w) (rw p (rw q (rw (ne_eqb _ _ a) (rw (ne_eqb _ _ b) (rw c)))))

            module _ {name : ℕ} {s3 : State} {w3 : World} (c : typed_ident r.sheet (named r.sheet r.type_atom false) s2 w2 ≡ done s3 w3 name) where
              pub glo-open : {y : Stop} → expect r.sheet kind.Assign s3 w3 ≡ failed y → glo r from s w ≡ failed y
              unfolding glo_by glo_assign
              glo-open d = rw (glo-placed r from s w) (rw p (rw q (rw (ne_eqb _ _ a) (rw (ne_eqb _ _ b) (rw c (rw d))))))

              pub glo-assign : {s4 : State} {w4 : World} → expect r.sheet kind.Assign s3 w3 ≡ done s4 w4 tt → glo r from s w ≡ right r from node.GloAssign 0 name s4 w4
              unfolding glo_by glo_assign
              glo-assign d = rw (glo-placed r from s w) (rw p (rw q (rw (ne_eqb _ _ a) (rw (ne_eqb _ _ b) (rw c (rw d))))))

  -- a statement that is no named function
  module _ (s : State) (w : World) {from : ℕ} (f : from ≡ start_of (range_at r.sheet.tokens s.at)) where
    pub plain-full : {y : Stop} → pick r.sheet (stmt_chain r) s w ≡ failed y → plain r s w ≡ failed y
    plain-full q = rw (plain-placed r) (rw (starts r.sheet s w f) (rw q))

    module _ {which : ℕ} {s1 : State} {w1 : World} (q : pick r.sheet (stmt_chain r) s w ≡ done s1 w1 which) where
      pub plain-import : which ≡ 0 → plain r s w ≡ import_stmt r.sheet from s1 w1
      plain-import a = rw (plain-placed r) (rw (starts r.sheet s w f) (rw q (rw (eq-eqb _ _ a))))

      module _ (a : which ≡ 0 → ⊥) where
        pub plain-effect : which ≡ 1 → plain r s w ≡ effect_stmt r.sheet r.type_atom from None s1 w1
        plain-effect b = rw (plain-placed r) (rw (starts r.sheet s w f) (rw q (rw (ne_eqb _ _ a) (rw (eq-eqb _ _ b)))))

        module _ (b : which ≡ 1 → ⊥) where
          pub plain-glo : which ≡ 2 → plain r s w ≡ glo r from s1 w1
          plain-glo c = rw (plain-placed r) (rw (starts r.sheet s w f) (rw q (rw (ne_eqb _ _ a) (rw (ne_eqb _ _ b) (rw (eq-eqb _ _ c))))))

          pub plain-assign : (which ≡ 2 → ⊥) → plain r s w ≡ assign r from s1 w1
          plain-assign c = rw (plain-placed r) (rw (starts r.sheet s w f) (rw q (rw (ne_eqb _ _ a) (rw (ne_eqb _ _ b) (rw (ne_eqb _ _ c))))))

  pub function-stmt-is : (s : State) (w : World) {from : ℕ} → from ≡ start_of (range_at r.sheet.tokens s.at) → function_stmt r s w ≡ named_function r from None s w
  unfolding function_stmt
  function-stmt-is s w f = rw (starts r.sheet s w f)

  -- a statement
  module _ (s : State) (w : World) where
    pub stmt-full : {y : Stop} → check r.sheet kind.Fn s w ≡ failed y → stmt r s w ≡ failed y
    unfolding stmt
    stmt-full p = rw p

    pub stmt-plain : {s1 : State} {w1 : World} → check r.sheet kind.Fn s w ≡ done s1 w1 false → stmt r s w ≡ plain r s1 w1
    unfolding stmt
    stmt-plain p = rw p

    -- by whichever way a plain statement is come to
    pub met : {p q : Parser} → stmt r s w ≡ run (plain r) q → p ≡ q → stmt r s w ≡ run (plain r) p
    met h e = h ∙ sym (λ j. run (plain r) (e j))

    pub stmt-tried : {s1 : State} {w1 : World} → check r.sheet kind.Fn s w ≡ done s1 w1 true → stmt r s w ≡ try_parse (function_stmt r) give (plain r) s1 w1
    unfolding stmt
    stmt-tried p = rw p
