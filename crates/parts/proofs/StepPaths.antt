-- Each way through the steps of the rules on expressions that lead back to no expression.
use Rattle.std.specs.Prelude.{Some, None}
use mathlib.Core.Path.{◌≡◌, refl}
use mathlib.Core.List.{List}
use mathlib.Core.Bool.{Bool, true, false}
use Prim.Native.Nat.{ℕ, ◌<◌, ◌≤◌}
use borrow.Author.Tests.{eq-eqb, ne_eqb, lt-ltb, le-ltb}
use Rattle.kinds.specs.Number as kind
use Rattle.kinds.specs.Text.{part}
use Rattle.kinds.specs.declared.types.ValueType.{ValueType}
use Rattle.kinds.specs.TypeWords.{type_word, type_number}
use Rattle.cursor.specs.declared.State.{State}
use Rattle.cursor.specs.declared.Kids.{Kids}
use Rattle.cursor.specs.declared.Span.{Span}
use Rattle.cursor.specs.Sheet.{Sheet, kind_at, range_at, Ranged}
use Rattle.cursor.specs.Node as node
use Rattle.cursor.specs.Rule.{World, Stop, fault, done, failed, Rule, more, stop, iterate}
use Rattle.cursor.specs.Tokens.{bump}
use Rattle.cursor.specs.Checks.{check, eat, expect, unexpected_at, unexpected}
use Rattle.cursor.specs.Records.{append, add, no_kids}
use Rattle.types.specs.Lits.{lit, ident}
use Rattle.types.specs.Items.{close, is_ended}
use Rattle.types.specs.Types.{params, closure_params}
use Rattle.parts.specs.declared.values.Expr.{Expr}
use Rattle.parts.specs.declared.values.Expr.TheVariants as exprs
use Rattle.parts.specs.Forms as forms
use Rattle.parts.specs.Values.{link_of, to_assign_left}
use Rattle.parts.specs.Steps.{items_end, checked_type, any_params, braced, no_member, pound, meta_end, lit_key, paren_key_at, paren_key, leaf, name_turn, names, loop_names, pattern_turn, case_patterns, type_checked, type_check_at, type_check}

-- an expression that is neither a name nor a member of one can't be assigned to
pub assign_other : {x : Expr} {link : ℕ} → x ≡ exprs.Other link → to_assign_left x ≡ None
assign_other p = rw p

-- how lists end
module _ (k : ℕ) where
  pub end-arguments : k ≡ 0 → items_end k ≡ kind.CloseParen
  unfolding items_end
  end-arguments p = rw (eq-eqb _ _ p, items_end)

  pub end-elements : (k ≡ 0 → ⊥) → k ≡ 1 → items_end k ≡ kind.CloseBracket
  unfolding items_end
  end-elements p q = rw (ne_eqb _ _ p, items_end) (rw (eq-eqb _ _ q))

  pub end-properties : (k ≡ 0 → ⊥) → (k ≡ 1 → ⊥) → items_end k ≡ kind.CloseBrace
  unfolding items_end
  end-properties p q = rw (ne_eqb _ _ p, items_end) (rw (ne_eqb _ _ q))

-- the type that a token names after `is`
module _ (text : List ℕ) (k : ℕ) (r : Span) where
  pub checked-null : k ≡ kind.Null → checked_type text k r ≡ Some 0
  unfolding checked_type
  checked-null p = rw (eq-eqb _ _ p, checked_type)

  module _ (n : k ≡ kind.Null → ⊥) where
    pub checked-other : (k ≡ kind.Ident → ⊥) → checked_type text k r ≡ None
    unfolding checked_type
    checked-other p = rw (ne_eqb _ _ n, checked_type) (rw (ne_eqb _ _ p))

    pub checked-word : {v : ValueType} {m : ℕ} → k ≡ kind.Ident → Some v ≡ type_word (part text r.start r.end) → m ≡ type_number v → checked_type text k r ≡ Some m
    unfolding checked_type
    checked-word p q m = rw (ne_eqb _ _ n, checked_type) (rw (eq-eqb _ _ p) (rw (← q, m)))

    pub checked-strange : k ≡ kind.Ident → None ≡ type_word (part text r.start r.end) → checked_type text k r ≡ None
    unfolding checked_type
    checked-strange p q = rw (ne_eqb _ _ n, checked_type) (rw (eq-eqb _ _ p) (rw (← q)))

module _ (e : Sheet) (s : State) (w : World) where
  -- the parameters of a function or of a closure
  module _ (atom : Rule ℕ) {closure : Bool} where
    pub params-closure : closure ≡ true → any_params e atom closure s w ≡ closure_params e atom no_kids s w
    unfolding any_params
    params-closure p = rw p

    pub params-function : closure ≡ false → any_params e atom closure s w ≡ params e atom no_kids s w
    unfolding any_params
    params-function p = rw p

  -- does a trailing lambda stand here?
  module _ {lambda : Bool} where
    pub braced-asked : lambda ≡ true → braced e lambda s w ≡ check e kind.OpenBrace s w
    unfolding braced
    braced-asked p = rw p

    pub braced-not : lambda ≡ false → braced e lambda s w ≡ done s w false
    unfolding braced
    braced-not p = rw p

  -- no member stands here
  module _ (safe : Ranged) (x : Expr) {b : Bool} (p : b ≡ is_ended safe) where
    pub member-lost : b ≡ true → no_member e safe x s w ≡ failed (fault s w (unexpected_at e s))
    unfolding no_member unexpected
    member-lost q = rw (← p) (rw q)

    pub member-stop : b ≡ false → no_member e safe x s w ≡ done s w (stop x)
    unfolding no_member
    member-stop q = rw (← p) (rw q)

  -- a member's opening token, and the `#` behind it
  pub pound-spent : {x : Stop} → bump e s w ≡ failed x → pound e s w ≡ failed x
  unfolding pound
  pound-spent p = rw p

  module _ {s1 : State} {w1 : World} (p : bump e s w ≡ done s1 w1 tt) where
    pub pound-is : pound e s w ≡ eat e kind.Pound s1 w1
    unfolding pound
    pound-is = rw p

  -- behind the `#` of a meta member
  module _ (which : ℕ) where
    pub meta-bare : 0 < which → meta_end e which s w ≡ done s w 0
    unfolding meta_end
    meta-bare p = rw (lt-ltb _ _ p, meta_end)

    module _ (n : which ≤ 0) where
      pub meta-open : {x : Stop} → expect e kind.CloseBracket s w ≡ failed x → meta_end e which s w ≡ failed x
      unfolding meta_end
      meta-open p = rw (le-ltb _ _ n, meta_end) (rw p)

      pub meta-closed : {s1 : State} {w1 : World} → expect e kind.CloseBracket s w ≡ done s1 w1 tt → meta_end e which s w ≡ done s1 w1 0
      unfolding meta_end
      meta-closed p = rw (le-ltb _ _ n, meta_end) (rw p)

  -- a literal as a table's key
  pub lit-key-failed : {x : Stop} → lit e s w ≡ failed x → lit_key e s w ≡ failed x
  unfolding lit_key
  lit-key-failed p = rw p

  module _ {link : ℕ} {s1 : State} {w1 : World} (p : lit e s w ≡ done s1 w1 link) where
    pub lit-key-bare : {x : Stop} → expect e kind.Colon s1 w1 ≡ failed x → lit_key e s w ≡ failed x
    unfolding lit_key
    lit-key-bare q = rw p (rw q)

    pub lit-key-on : {s2 : State} {w2 : World} → expect e kind.Colon s1 w1 ≡ done s2 w2 tt → lit_key e s w ≡ done s2 w2 link
    unfolding lit_key
    lit-key-on q = rw p (rw q)

  -- an expression in parentheses as a table's key
  module _ (from link : ℕ) where
    pub paren-key-open : {x : Stop} → expect e kind.CloseParen s w ≡ failed x → paren_key e from link s w ≡ failed x
    unfolding paren_key
    paren-key-open p = rw p

    module _ {s1 : State} {w1 : World} (p : expect e kind.CloseParen s w ≡ done s1 w1 tt) where
      pub paren-key-bare : {x : Stop} → expect e kind.Colon s1 w1 ≡ failed x → paren_key e from link s w ≡ failed x
      unfolding paren_key paren_key_at
      paren-key-bare q = rw p (rw q)

      pub paren-key-on : {s2 : State} {w2 : World} → expect e kind.Colon s1 w1 ≡ done s2 w2 tt → paren_key e from link s w ≡ append (record { kind = node.Paren; start = from; end = s1.prev; one = 0; two = 0; flags = 0 }) link s2 w2
      unfolding paren_key paren_key_at
      paren-key-on q = rw p (rw q)

  -- `break` and `continue`
  module _ (from which : ℕ) where
    pub leaf-spent : {x : Stop} → bump e s w ≡ failed x → leaf e from which s w ≡ failed x
    unfolding leaf
    leaf-spent p = rw p

    module _ {s1 : State} {w1 : World} (p : bump e s w ≡ done s1 w1 tt) where
      pub leaf-break : which ≡ forms.Break → leaf e from which s w ≡ close node.Break from 0 0 0 0 s1 w1
      unfolding leaf
      leaf-break q = rw p (rw (eq-eqb _ _ q))

      pub leaf-continue : (which ≡ forms.Break → ⊥) → leaf e from which s w ≡ close node.Continue from 0 0 0 0 s1 w1
      unfolding leaf
      leaf-continue q = rw p (rw (ne_eqb _ _ q))

  -- a turn over names
  module _ (kids : Kids) where
    pub name-failed : {x : Stop} → ident e s w ≡ failed x → name_turn e kids s w ≡ failed x
    unfolding name_turn
    name-failed p = rw p

    module _ {link : ℕ} {longer : Kids} {s1 t : State} {w1 w2 : World} (p : ident e s w ≡ done s1 w1 link) (a : done t w2 longer ≡ add kids link s1 w1) where
      pub name-full : {x : Stop} → eat e kind.Comma t w2 ≡ failed x → name_turn e kids s w ≡ failed x
      unfolding name_turn
      name-full q = rw p (rw (← a) (rw q))

      pub name-stop : {s2 : State} {w3 : World} → eat e kind.Comma t w2 ≡ done s2 w3 false → name_turn e kids s w ≡ done s2 w3 (stop longer)
      unfolding name_turn
      name-stop q = rw p (rw (← a) (rw q))

      pub name-more : {s2 : State} {w3 : World} → eat e kind.Comma t w2 ≡ done s2 w3 true → name_turn e kids s w ≡ done s2 w3 (more longer)
      unfolding name_turn
      name-more q = rw p (rw (← a) (rw q))

  pub names-are : names e s w ≡ iterate e (name_turn e) no_kids s w
  unfolding names
  names-are = refl

  -- the names of a `for`, and its `in`
  module _ (which : ℕ) where
    pub loop-while : which ≡ forms.While → loop_names e which s w ≡ done s w no_kids
    unfolding loop_names
    loop-while p = rw (eq-eqb _ _ p, loop_names)

    module _ (n : which ≡ forms.While → ⊥) where
      pub loop-lost : {x : Stop} → names e s w ≡ failed x → loop_names e which s w ≡ failed x
      unfolding loop_names
      loop-lost p = rw (ne_eqb _ _ n, loop_names) (rw p)

      module _ {kids : Kids} {s1 : State} {w1 : World} (p : names e s w ≡ done s1 w1 kids) where
        pub loop-bare : {x : Stop} → expect e kind.In s1 w1 ≡ failed x → loop_names e which s w ≡ failed x
        unfolding loop_names
        loop-bare q = rw (ne_eqb _ _ n, loop_names) (rw p (rw q))

        pub loop-on : {s2 : State} {w2 : World} → expect e kind.In s1 w1 ≡ done s2 w2 tt → loop_names e which s w ≡ done s2 w2 kids
        unfolding loop_names
        loop-on q = rw (ne_eqb _ _ n, loop_names) (rw p (rw q))

  -- the patterns of a case, and a turn over them
  module _ (pattern : Rule ℕ) where
    module _ (kids : Kids) where
      pub case-failed : {x : Stop} → pattern s w ≡ failed x → pattern_turn e pattern kids s w ≡ failed x
      unfolding pattern_turn
      case-failed p = rw p

      module _ {link : ℕ} {longer : Kids} {s1 t : State} {w1 w2 : World} (p : pattern s w ≡ done s1 w1 link) (a : done t w2 longer ≡ add kids link s1 w1) where
        pub case_full : {x : Stop} → eat e kind.VBar t w2 ≡ failed x → pattern_turn e pattern kids s w ≡ failed x
        unfolding pattern_turn
        case_full q = rw p (rw (← a) (rw q))

        pub case-stop : {s2 : State} {w3 : World} → eat e kind.VBar t w2 ≡ done s2 w3 false → pattern_turn e pattern kids s w ≡ done s2 w3 (stop longer)
        unfolding pattern_turn
        case-stop q = rw p (rw (← a) (rw q))

        pub case-more : {s2 : State} {w3 : World} → eat e kind.VBar t w2 ≡ done s2 w3 true → pattern_turn e pattern kids s w ≡ done s2 w3 (more longer)
        unfolding pattern_turn
        case-more q = rw p (rw (← a) (rw q))

    pub case-is : case_patterns e pattern s w ≡ iterate e (pattern_turn e pattern) no_kids s w
    unfolding case_patterns
    case-is = refl

  -- behind `is`
  module _ (from : ℕ) (x : Expr) where
    pub type-out : range_at e.tokens s.at ≡ None → type_check e from x s w ≡ failed (fault s w (unexpected_at e s))
    unfolding type_check type_check_at unexpected
    type-out p = rw (p, type_check, type_check_at)

    pub type-none : {k : ℕ} {r : Span} → range_at e.tokens s.at ≡ Some r → k ≡ kind_at e.tokens s.at → None ≡ checked_type e.text k r → type_check e from x s w ≡ failed (fault s w (unexpected_at e s))
    unfolding type_check type_check_at type_checked unexpected
    type-none p k q = rw (p, ← k, type_check, type_check_at) (rw (← q, type_checked))

    module _ {k n : ℕ} {r : Span} (p : range_at e.tokens s.at ≡ Some r) (h : k ≡ kind_at e.tokens s.at) (q : Some n ≡ checked_type e.text k r) where
      pub type-spent : {y : Stop} → bump e s w ≡ failed y → type_check e from x s w ≡ failed y
      unfolding type_check type_check_at type_checked
      type-spent b = rw (p, ← h, type_check, type_check_at) (rw (← q, type_checked) (rw b))

      module _ {under : ℕ} {s1 : State} {w1 : World} (b : bump e s w ≡ done s1 w1 tt) (l : under ≡ link_of x) where
        pub type-failed : {y : Stop} → close node.TypeCheck from n r.start 0 under s1 w1 ≡ failed y → type_check e from x s w ≡ failed y
        unfolding type_check type_check_at type_checked
        type-failed c = rw (p, ← h, type_check, type_check_at) (rw (← q, type_checked) (rw b (rw (← l) (rw c))))

        pub type-on : {link : ℕ} {s2 : State} {w2 : World} → close node.TypeCheck from n r.start 0 under s1 w1 ≡ done s2 w2 link → type_check e from x s w ≡ done s2 w2 (more (exprs.Other link))
        unfolding type_check type_check_at type_checked
        type-on c = rw (p, ← h, type_check, type_check_at) (rw (← q, type_checked) (rw b (rw (← l) (rw c))))
