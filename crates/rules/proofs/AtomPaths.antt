-- Each way through the rules on atoms, as the code goes through them.
use Rattle.std.specs.Prelude.{None}
use mathlib.Core.Path.{◌≡◌}
use mathlib.Core.Bool.{Bool, true, false}
use Prim.Native.Nat.{ℕ, ◌<◌, ◌≤◌}
use borrow.Author.Tests.{eq-eqb, ne_eqb, lt-ltb, le-ltb}
use Rattle.kinds.specs.Number as kind
use Rattle.cursor.specs.declared.State.{State}
use Rattle.cursor.specs.declared.Kids.{Kids}
use Rattle.cursor.specs.Node as node
use Rattle.cursor.specs.Sheet.{range_at}
use Rattle.cursor.specs.Rule.{World, Stop, Out, done, failed, bind, more, stop, iterate}
use Rattle.cursor.specs.Tokens.{start_of, bump, eat_eol}
use Rattle.cursor.specs.Checks.{check, eat, expect, pick}
use Rattle.cursor.specs.Records.{add, no_kids, flagged}
use Rattle.types.specs.declared.items.Items.{Items}
use Rattle.types.specs.Lits.{lit, ident}
use Rattle.types.specs.Items.{close}
use Rattle.types.proofs.TypePaths.{starts}
use Rattle.parts.specs.declared.values.Expr.{Expr}
use Rattle.parts.specs.Forms as forms
use Rattle.parts.specs.Values.{atom_expr, row_of}
use Rattle.rules.specs.Inner.{Inner, expr}
use Rattle.parts.specs.Records.{row_record, list_record, fn_record, if_record, round_record}
use Rattle.parts.specs.Steps.{leaf, loop_names, case_patterns}
use Rattle.rules.specs.Blocks.{block, expr_and_block}
use Rattle.rules.specs.Functions.{function}
use Rattle.rules.specs.Tables.{items_of, brace}
use Rattle.rules.specs.Primary.{postfix_turn, primary_of}
use Rattle.rules.specs.Atoms.{alternate, if_expr, match_case, case_turn, match_expr, atom, primary}
use Rattle.rules.specs.Placed.{group, do_function, anon_function, anon, loops, form}
use Rattle.rules.proofs.Placed.{atom_chain, atom-placed}

module _ (r : Inner) where
  module _ (from which : ℕ) (s : State) (w : World) where
    -- an expression in parentheses, a list, and `return`
    pub group-spent : {x : Stop} → bump r.sheet s w ≡ failed x → group r from which s w ≡ failed x
    unfolding group
    group-spent p = rw p

    module _ {s1 : State} {w1 : World} (p : bump r.sheet s w ≡ done s1 w1 tt) where
      pub group-list : {o : Out Items} → which ≡ forms.OpenBracket → o ≡ items_of r 1 no_kids s1 w1 → group r from which s w ≡ bind o (λ s2 w2 i. list_record node.List from i s2 w2)
      unfolding group
      group-list t a = rw a (rw p (rw (eq-eqb _ _ t)))

      module _ (t : which ≡ forms.OpenBracket → ⊥) where
        pub group-failed : {x : Stop} → expr r true s1 w1 ≡ failed x → group r from which s w ≡ failed x
        unfolding group
        group-failed q = rw p (rw (ne_eqb _ _ t) (rw q))

        module _ {link : ℕ} {s2 : State} {w2 : World} (q : expr r true s1 w1 ≡ done s2 w2 link) where
          pub group-return : which ≡ forms.Return → group r from which s w ≡ close node.Return from 0 0 0 link s2 w2
          unfolding group
          group-return u = rw p (rw (ne_eqb _ _ t) (rw q (rw (eq-eqb _ _ u))))

          module _ (u : which ≡ forms.Return → ⊥) where
            pub group-open : {x : Stop} → expect r.sheet kind.CloseParen s2 w2 ≡ failed x → group r from which s w ≡ failed x
            unfolding group
            group-open a = rw p (rw (ne_eqb _ _ t) (rw q (rw (ne_eqb _ _ u) (rw a))))

            pub group-paren : {s3 : State} {w3 : World} → expect r.sheet kind.CloseParen s2 w2 ≡ done s3 w3 tt → group r from which s w ≡ close node.Paren from 0 0 0 link s3 w3
            unfolding group
            group-paren a = rw p (rw (ne_eqb _ _ t) (rw q (rw (ne_eqb _ _ u) (rw a))))

    -- a function without a name: what is read of it goes into its expression
    pub anon-closure : {o : Out ℕ} → which ≡ forms.VBar → o ≡ function r from true s w → anon r from which s w ≡ bind o (λ s1 w1 f. fn_record from None 0 f s1 w1)
    unfolding anon anon_function
    anon-closure t a = rw a (rw (eq-eqb _ _ t, anon_function))

    module _ (t : which ≡ forms.VBar → ⊥) where
      pub anon-spent : {x : Stop} → bump r.sheet s w ≡ failed x → anon r from which s w ≡ failed x
      unfolding anon anon_function
      anon-spent p = rw (ne_eqb _ _ t, anon_function) (rw p)

      module _ {s1 : State} {w1 : World} (p : bump r.sheet s w ≡ done s1 w1 tt) where
        pub anon-fn : {o : Out ℕ} → which ≡ forms.Fn → o ≡ function r from false s1 w1 → anon r from which s w ≡ bind o (λ s2 w2 f. fn_record from None 0 f s2 w2)
        unfolding anon anon_function
        anon-fn u a = rw a (rw (ne_eqb _ _ t, anon_function) (rw p (rw (eq-eqb _ _ u))))

        module _ (u : which ≡ forms.Fn → ⊥) where
          pub anon-failed : {x : Stop} → block r 0 s1 w1 ≡ failed x → anon r from which s w ≡ failed x
          unfolding anon anon_function do_function
          anon-failed q = rw (ne_eqb _ _ t, anon_function) (rw p (rw (ne_eqb _ _ u) (rw q)))

          pub anon-do : {o : Out ℕ} {body : ℕ} {s2 : State} {w2 : World} → block r 0 s1 w1 ≡ done s2 w2 body → o ≡ close node.Do from 0 0 0 body s2 w2 → anon r from which s w ≡ bind o (λ s3 w3 f. fn_record from None 0 f s3 w3)
          unfolding anon anon_function do_function
          anon-do q a = rw a (rw (ne_eqb _ _ t, anon_function) (rw p (rw (ne_eqb _ _ u) (rw q))))

    -- `loop`, `while` and `for`
    pub loops-spent : {x : Stop} → bump r.sheet s w ≡ failed x → loops r from which s w ≡ failed x
    unfolding loops
    loops-spent p = rw p

    module _ {s1 : State} {w1 : World} (p : bump r.sheet s w ≡ done s1 w1 tt) where
      pub loops-loop : {o : Out ℕ} → which ≡ forms.Loop → o ≡ block r 0 s1 w1 → loops r from which s w ≡ bind o (λ s2 w2 body. close node.Loop from 0 0 0 body s2 w2)
      unfolding loops
      loops-loop t a = rw a (rw p (rw (eq-eqb _ _ t)))

      module _ (t : which ≡ forms.Loop → ⊥) where
        pub loops-bare : {x : Stop} → loop_names r.sheet which s1 w1 ≡ failed x → loops r from which s w ≡ failed x
        unfolding loops
        loops-bare q = rw p (rw (ne_eqb _ _ t) (rw q))

        module _ {names : Kids} {s2 : State} {w2 : World} (q : loop_names r.sheet which s1 w1 ≡ done s2 w2 names) where
          pub loops-failed : {x : Stop} → expr_and_block r names s2 w2 ≡ failed x → loops r from which s w ≡ failed x
          unfolding loops
          loops-failed a = rw p (rw (ne_eqb _ _ t) (rw q (rw a)))

          pub loops-on : {kids : Kids} {s3 : State} {w3 : World} → expr_and_block r names s2 w2 ≡ done s3 w3 kids → loops r from which s w ≡ round_record from which names.count kids s3 w3
          unfolding loops
          loops-on a = rw p (rw (ne_eqb _ _ t) (rw q (rw a)))

  -- `if`, and what stands behind its `else`
  module _ (from : ℕ) (s : State) (w : World) where
    pub if-spent : {x : Stop} → bump r.sheet s w ≡ failed x → if_expr r from s w ≡ failed x
    unfolding if_expr
    if-spent p = rw p

    module _ {s1 : State} {w1 : World} (p : bump r.sheet s w ≡ done s1 w1 tt) where
      pub if-failed : {x : Stop} → expr_and_block r no_kids s1 w1 ≡ failed x → if_expr r from s w ≡ failed x
      unfolding if_expr
      if-failed q = rw p (rw q)

      module _ {kids : Kids} {s2 : State} {w2 : World} (q : expr_and_block r no_kids s1 w1 ≡ done s2 w2 kids) where
        pub if-full : {x : Stop} → eat r.sheet kind.Else s2 w2 ≡ failed x → if_expr r from s w ≡ failed x
        unfolding if_expr
        if-full a = rw p (rw q (rw a))

        pub if-bare : {s3 : State} {w3 : World} → eat r.sheet kind.Else s2 w2 ≡ done s3 w3 false → if_expr r from s w ≡ if_record from kids 0 s3 w3
        unfolding if_expr
        if-bare a = rw p (rw q (rw a))

        module _ {s3 : State} {w3 : World} (a : eat r.sheet kind.Else s2 w2 ≡ done s3 w3 true) where
          pub if-lost : {x : Stop} → check r.sheet kind.If s3 w3 ≡ failed x → if_expr r from s w ≡ failed x
          unfolding if_expr alternate
          if-lost b = rw p (rw q (rw a (rw b)))

          pub if-again : {o : Out ℕ} {s4 : State} {w4 : World} → check r.sheet kind.If s3 w3 ≡ done s4 w4 true → o ≡ expr r true s4 w4 → if_expr r from s w ≡ bind o (λ s5 w5 other. if_record from kids other s5 w5)
          unfolding if_expr alternate
          if-again b d = rw d (rw p (rw q (rw a (rw b))))

          pub if-else : {o : Out ℕ} {s4 : State} {w4 : World} → check r.sheet kind.If s3 w3 ≡ done s4 w4 false → o ≡ block r node.ExprBlock s4 w4 → if_expr r from s w ≡ bind o (λ s5 w5 other. if_record from kids other s5 w5)
          unfolding if_expr alternate
          if-else b d = rw d (rw p (rw q (rw a (rw b))))

  -- a case
  module _ (s : State) (w : World) {from : ℕ} (f : from ≡ start_of (range_at r.sheet.tokens s.at)) where
    pub case-failed : {x : Stop} → case_patterns r.sheet r.pattern s w ≡ failed x → match_case r s w ≡ failed x
    unfolding match_case
    case-failed p = rw (starts r.sheet s w f) (rw p)

    module _ {row : Kids} {s1 : State} {w1 : World} (p : case_patterns r.sheet r.pattern s w ≡ done s1 w1 row) where
      pub case_open : {x : Stop} → expect r.sheet kind.FatArrow s1 w1 ≡ failed x → match_case r s w ≡ failed x
      unfolding match_case
      case_open q = rw (starts r.sheet s w f) (rw p (rw q))

      module _ {s2 : State} {w2 : World} (q : expect r.sheet kind.FatArrow s1 w1 ≡ done s2 w2 tt) where
        pub case-lost : {x : Stop} → expr r true s2 w2 ≡ failed x → match_case r s w ≡ failed x
        unfolding match_case
        case-lost a = rw (starts r.sheet s w f) (rw p (rw q (rw a)))

        pub case-on : {link : ℕ} {s3 : State} {w3 : World} → expr r true s2 w2 ≡ done s3 w3 link → match_case r s w ≡ row_record node.MatchCase from row link s3 w3
        unfolding match_case
        case-on a = rw (starts r.sheet s w f) (rw p (rw q (rw a)))

  -- one case more
  module _ (kids : Kids) (s : State) (w : World) where
    pub turn-failed : {x : Stop} → eat r.sheet kind.CloseBrace s w ≡ failed x → case_turn r kids s w ≡ failed x
    unfolding case_turn
    turn-failed p = rw p

    pub turn-closed : {s1 : State} {w1 : World} → eat r.sheet kind.CloseBrace s w ≡ done s1 w1 true → case_turn r kids s w ≡ done s1 w1 (stop kids)
    unfolding case_turn
    turn-closed p = rw p

    module _ {s1 : State} {w1 : World} (p : eat r.sheet kind.CloseBrace s w ≡ done s1 w1 false) where
      pub turn-spent : {x : Stop} → eat_eol r.sheet s1 w1 ≡ failed x → case_turn r kids s w ≡ failed x
      unfolding case_turn
      turn-spent q = rw p (rw q)

      module _ {s2 : State} {w2 : World} (q : eat_eol r.sheet s1 w1 ≡ done s2 w2 tt) where
        pub turn-lost : {x : Stop} → match_case r s2 w2 ≡ failed x → case_turn r kids s w ≡ failed x
        unfolding case_turn
        turn-lost a = rw p (rw q (rw a))

        module _ {one : ℕ} {s3 : State} {w3 : World} (a : match_case r s2 w2 ≡ done s3 w3 one) where
          pub turn-over : {x : Stop} → eat_eol r.sheet s3 w3 ≡ failed x → case_turn r kids s w ≡ failed x
          unfolding case_turn
          turn-over b = rw p (rw q (rw a (rw b)))

          pub turn_more : {longer : Kids} {s4 s5 : State} {w4 w5 : World} → eat_eol r.sheet s3 w3 ≡ done s4 w4 tt → done s5 w5 longer ≡ add kids one s4 w4 → case_turn r kids s w ≡ done s5 w5 (more longer)
          unfolding case_turn
          turn_more b c = rw p (rw q (rw a (rw b (rw (← c)))))

  -- `match` with its cases
  module _ (from : ℕ) (s : State) (w : World) where
    pub cases-spent : {x : Stop} → bump r.sheet s w ≡ failed x → match_expr r from s w ≡ failed x
    unfolding match_expr
    cases-spent p = rw p

    module _ {s1 : State} {w1 : World} (p : bump r.sheet s w ≡ done s1 w1 tt) where
      pub cases-failed : {x : Stop} → expr r false s1 w1 ≡ failed x → match_expr r from s w ≡ failed x
      unfolding match_expr
      cases-failed q = rw p (rw q)

      module _ {link : ℕ} {s2 : State} {w2 : World} (q : expr r false s1 w1 ≡ done s2 w2 link) where
        pub cases-open : {x : Stop} → expect r.sheet kind.OpenBrace s2 w2 ≡ failed x → match_expr r from s w ≡ failed x
        unfolding match_expr
        cases-open a = rw p (rw q (rw a))

        module _ {s3 : State} {w3 : World} (a : expect r.sheet kind.OpenBrace s2 w2 ≡ done s3 w3 tt) where
          pub cases-lost : {x : Stop} → iterate r.sheet (case_turn r) (row_of link) s3 w3 ≡ failed x → match_expr r from s w ≡ failed x
          unfolding match_expr
          cases-lost b = rw p (rw q (rw a (rw b)))

          pub cases-on : {flags : ℕ} {row : Kids} {s4 : State} {w4 : World} → iterate r.sheet (case_turn r) (row_of link) s3 w3 ≡ done s4 w4 row → flags ≡ flagged row.count 0 false false → match_expr r from s w ≡ close node.Match from 0 0 flags row.first s4 w4
          unfolding match_expr
          cases-on b h = rw p (rw q (rw a (rw (b, h))))

  -- the forms of an atom, by their place in the chain
  module _ (from which : ℕ) (s : State) (w : World) where
    pub form-paren : which ≡ forms.OpenParen → form r from which s w ≡ group r from which s w
    unfolding form
    form-paren p = rw (eq-eqb _ _ p, form)

    pub form-ident : which ≡ forms.Ident → form r from which s w ≡ ident r.sheet s w
    unfolding form
    form-ident p = rw p

    pub form-brace : which ≡ forms.OpenBrace → form r from which s w ≡ brace r from s w
    unfolding form
    form-brace p = rw p

    pub form-list : which ≡ forms.OpenBracket → form r from which s w ≡ group r from which s w
    unfolding form
    form-list p = rw p

    pub form-if : which ≡ forms.If → form r from which s w ≡ if_expr r from s w
    unfolding form
    form-if p = rw p

    pub form-cases : which ≡ forms.Match → form r from which s w ≡ match_expr r from s w
    unfolding form
    form-cases p = rw p

    pub form-return : which ≡ forms.Return → form r from which s w ≡ group r from which s w
    unfolding form
    form-return p = rw p

    module _ (n0 : which ≡ forms.OpenParen → ⊥) (n1 : which ≡ forms.Ident → ⊥) (n2 : which ≡ forms.OpenBrace → ⊥) (n3 : which ≡ forms.OpenBracket → ⊥) where
      pub form-anon : which < forms.If → form r from which s w ≡ anon r from which s w
      unfolding form
      form-anon p = rw (ne_eqb _ _ n0, ne_eqb _ _ n1, ne_eqb _ _ n2, ne_eqb _ _ n3, lt-ltb _ _ p, form)

      module _ (l7 : forms.If ≤ which) (n7 : which ≡ forms.If → ⊥) (n8 : which ≡ forms.Match → ⊥) where
        pub form-loops : which < forms.Break → form r from which s w ≡ loops r from which s w
        unfolding form
        form-loops p = rw (ne_eqb _ _ n0, ne_eqb _ _ n1, ne_eqb _ _ n2, ne_eqb _ _ n3, le-ltb _ _ l7, ne_eqb _ _ n7, ne_eqb _ _ n8, lt-ltb _ _ p, form)

        module _ (l12 : forms.Break ≤ which) where
          pub form-leaf : which < forms.Return → form r from which s w ≡ leaf r.sheet from which s w
          unfolding form
          form-leaf p = rw (ne_eqb _ _ n0, ne_eqb _ _ n1, ne_eqb _ _ n2, ne_eqb _ _ n3, le-ltb _ _ l7, ne_eqb _ _ n7, ne_eqb _ _ n8, le-ltb _ _ l12, lt-ltb _ _ p, form)

          pub form-lit : forms.Return ≤ which → (which ≡ forms.Return → ⊥) → form r from which s w ≡ lit r.sheet s w
          unfolding form
          form-lit l14 n14 = rw (ne_eqb _ _ n0, ne_eqb _ _ n1, ne_eqb _ _ n2, ne_eqb _ _ n3, le-ltb _ _ l7, ne_eqb _ _ n7, ne_eqb _ _ n8, le-ltb _ _ l12, le-ltb _ _ l14, ne_eqb _ _ n14, form)

  module _ (s : State) (w : World) {from : ℕ} (f : from ≡ start_of (range_at r.sheet.tokens s.at)) where
    -- parse_expr_atom
    pub atom-full : {x : Stop} → pick r.sheet (atom_chain r) s w ≡ failed x → atom r s w ≡ failed x
    atom-full p = rw (atom-placed r) (rw (starts r.sheet s w f) (rw p))

    module _ {which : ℕ} {s1 : State} {w1 : World} (p : pick r.sheet (atom_chain r) s w ≡ done s1 w1 which) where
      pub atom-failed : {x : Stop} → form r from which s1 w1 ≡ failed x → atom r s w ≡ failed x
      atom-failed q = rw (atom-placed r) (rw (starts r.sheet s w f) (rw p (rw q)))

      pub atom-on : {link : ℕ} {x : Expr} {s2 : State} {w2 : World} → form r from which s1 w1 ≡ done s2 w2 link → x ≡ atom_expr which link → atom r s w ≡ done s2 w2 x
      atom-on q h = rw (atom-placed r) (rw (starts r.sheet s w f) (rw p (rw (q, h))))

    -- parse_expr_primary: an atom, and the calls and members behind it
    module _ (lambda : Bool) where
      pub primary-failed : {x : Stop} → atom r s w ≡ failed x → primary r lambda s w ≡ failed x
      unfolding primary primary_of
      primary-failed p = rw (starts r.sheet s w f) (rw p)

      pub primary-on : {x : Expr} {s1 : State} {w1 : World} → atom r s w ≡ done s1 w1 x → primary r lambda s w ≡ iterate r.sheet (postfix_turn r from lambda) x s1 w1
      unfolding primary primary_of
      primary-on p = rw (starts r.sheet s w f) (rw p)
