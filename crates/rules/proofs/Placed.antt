-- The rules by kinds are what the code does by places: each chain of checks once, by `chosen` of the cursor crate.
use Rattle.std.specs.Prelude.{None}
use mathlib.Core.Path.{◌≡◌, refl, ◌∙◌, ap, fun_ext}
use mathlib.Core.List.{List, [], ◌∷◌}
use mathlib.Core.Bool.{Bool, true, false}
use Prim.Native.Nat.{ℕ, zero, suc}
use native.Mathlib.Omega.{arith}
use lib.ListN.{get_or}
use lib.Dec.{ltb, eqb}
use borrow.Author.Tests.{ne_eqb, lt-ltb, le-ltb}
use Rattle.kinds.specs.Number as kind
use Rattle.cursor.specs.declared.State.{State}
use Rattle.cursor.specs.declared.Kids.{Kids}
use Rattle.cursor.specs.Sheet.{Ranged, range_at}
use Rattle.cursor.specs.Node as node
use Rattle.cursor.specs.Rule.{World, Out, done, failed, Rule, bind, ◌>>=◌, ◌>>◌, give, if_so, Next}
use Rattle.cursor.specs.Tokens.{bump}
use Rattle.cursor.specs.Checks.{eat, expect, eat_range, pick}
use Rattle.cursor.specs.Records.{no_link, flagged}
use Rattle.cursor.proofs.Chosen.{case_at, chosen}
use Rattle.types.specs.Lits.{lit, ident}
use Rattle.types.specs.Items.{start, close, over}
use Rattle.parts.specs.declared.values.Expr.{Expr}
use Rattle.parts.specs.Forms as forms
use Rattle.parts.specs.Members as members
use Rattle.parts.specs.Members.{member_at}
use Rattle.parts.specs.Values.{link_of, atom_expr}
use Rattle.parts.specs.When.{when}
use Rattle.parts.specs.Records.{fn_record, round_record, member_record}
use Rattle.parts.specs.Steps.{no_member, pound, meta_end, leaf, names, loop_names}
use Rattle.parts.specs.Effects.{effect_stmt}
use Rattle.parts.specs.Imports.{import_stmt}
use Rattle.rules.specs.Inner.{Inner, expr}
use Rattle.rules.specs.Blocks.{block, expr_and_block}
use Rattle.rules.specs.Functions.{function, named_function}
use Rattle.rules.specs.Primary.{bracket_member, dot_member, double_colon_member, member_cases, access}
use Rattle.rules.specs.Atoms.{paren_expr, list_expr, return_expr, fn_expr, closure_expr, do_expr, loop_expr, while_expr, for_expr, break_expr, continue_expr, other, atom_cases, atom, primary}
use Rattle.rules.specs.Placed.{member_property, group, do_function, anon_function, anon, loops, form}
use Rattle.rules.specs.Precedence.{unary_op, tried, unary_cases, unary}
use Rattle.rules.specs.Statements.{multi, typed_assign, set, sign_cases, assign, glo_assign, glo_cases, glo, stmt_cases, plain}

-- what is read in a row may be read in parts
joined : {A B C : Type 0} (o : Out A) (f : A → Rule B) (g : B → Rule C) → bind o (λ s w a. bind (f a s w) (λ s1 w1 b. g b s1 w1)) ≡ bind (bind o (λ s w a. f a s w)) (λ s w b. g b s w)
joined (done s w a) f g = refl
joined (failed x) f g = refl

module _ (r : Inner) where
  -- members
  abbrev pub member_chain : List ℕ
  member_chain = kind.OpenBracket ∷ kind.Dot ∷ kind.DoubleColon ∷ []

  -- behind the opening token: the `#` or the property, and the record
  abbrev pub behind_by : ℕ → Expr → Ranged → ℕ → Bool → Rule (Next Expr)
  behind_by from x safe which meta = member_property r which meta >>= (λ link. member_record from safe (member_at which meta) x link)

  abbrev pub member_by : ℕ → Expr → Ranged → ℕ → Rule (Next Expr)
  member_by from x safe which = when (ltb 2 which) (no_member r.sheet safe x) (pound r.sheet >>= behind_by from x safe which)

  module _ (from : ℕ) (x : Expr) (safe : Ranged) where
    -- a member whose ways behind the `#` are those of a place
    opened : (which : ℕ) {k : Bool → Rule (Next Expr)} → ((b : Bool) (s : State) (w : World) → k b s w ≡ behind_by from x safe which b s w) → (s : State) (w : World)
        → (bump r.sheet >> (eat r.sheet kind.Pound >>= k)) s w ≡ (pound r.sheet >>= behind_by from x safe which) s w
    unfolding pound
    opened which h s w = ap (λ k. (bump r.sheet >> (eat r.sheet kind.Pound >>= k)) s w) (fun_ext (λ b. fun_ext (λ s1. fun_ext (λ w1. h b s1 w1)))) ∙ joined (bump r.sheet s w) (λ _. eat r.sheet kind.Pound) (behind_by from x safe which)

    bracket-placed : (s : State) (w : World) → bracket_member r from safe x s w ≡ (pound r.sheet >>= behind_by from x safe 0) s w
    unfolding bracket_member member_property meta_end
    bracket-placed = opened 0 by
      where
        by : (b : Bool) (s : State) (w : World) → if_so (expect r.sheet kind.CloseBracket >> member_record from safe members.BracketMeta x no_link) (expr r true >>= (λ link. expect r.sheet kind.CloseBracket >> member_record from safe members.Bracket x link)) b s w ≡ behind_by from x safe 0 b s w
        by true s w = joined (expect r.sheet kind.CloseBracket s w) (λ _. give no_link) (λ link. member_record from safe members.BracketMeta x link)
        by false s w =
            ap (λ k. (expr r true >>= k) s w) (fun_ext (λ link. fun_ext (λ s1. fun_ext (λ w1. joined (expect r.sheet kind.CloseBracket s1 w1) (λ _. give link) (λ l. member_record from safe members.Bracket x l)))))
            ∙ joined (expr r true s w) (λ link. expect r.sheet kind.CloseBracket >> give link) (λ link. member_record from safe members.Bracket x link)

    dot-placed : (s : State) (w : World) → dot_member r from safe x s w ≡ (pound r.sheet >>= behind_by from x safe 1) s w
    unfolding dot_member member_property meta_end
    dot-placed = opened 1 by
      where
        by : (b : Bool) (s : State) (w : World) → if_so (member_record from safe members.DotMeta x no_link) (ident r.sheet >>= (λ link. member_record from safe members.Dot x link)) b s w ≡ behind_by from x safe 1 b s w
        by true s w = refl
        by false s w = refl

    double-colon-placed : (s : State) (w : World) → double_colon_member r from safe x s w ≡ (pound r.sheet >>= behind_by from x safe 2) s w
    unfolding double_colon_member member_property meta_end
    double-colon-placed = opened 2 by
      where
        by : (b : Bool) (s : State) (w : World) → if_so (member_record from safe members.DoubleColonMeta x no_link) (ident r.sheet >>= (λ link. member_record from safe members.DoubleColon x link)) b s w ≡ behind_by from x safe 2 b s w
        by true s w = refl
        by false s w = refl

  pub access-placed : (from : ℕ) (x : Expr) → access r from x ≡ (eat_range r.sheet kind.Question >>= (λ safe. pick r.sheet member_chain >>= member_by from x safe))
  unfolding access
  access-placed from x = ap (λ k. eat_range r.sheet kind.Question >>= k) (fun_ext (λ safe. chosen r.sheet (no_member r.sheet safe x) (member_cases r from safe x) (by safe)))
    where
      by : (safe : Ranged) (i : ℕ) (s : State) (w : World) → case_at (member_cases r from safe x) (no_member r.sheet safe x) i s w ≡ member_by from x safe i s w
      by safe zero s w = bracket-placed from x safe s w
      by safe (suc zero) s w = dot-placed from x safe s w
      by safe (suc (suc zero)) s w = double-colon-placed from x safe s w
      by safe (suc (suc (suc i))) s w = rw (lt-ltb 2 (suc (suc (suc i))) (omega arith))

  -- unary forms
  abbrev pub unary_chain : List ℕ
  unary_chain = kind.Not ∷ kind.Sub ∷ kind.Try ∷ []

  abbrev pub unary_by : Bool → ℕ → ℕ → Rule Expr
  unary_by lambda from which = when (eqb which 2) (tried r lambda) (when (ltb 2 which) (primary r lambda) (unary_op r from lambda))

  pub unary-placed : (lambda : Bool) → unary r lambda ≡ (start r.sheet >>= (λ from. pick r.sheet unary_chain >>= unary_by lambda from))
  unfolding unary
  unary-placed lambda = ap (λ k. start r.sheet >>= k) (fun_ext (λ from. chosen r.sheet (primary r lambda) (unary_cases r from lambda) (by from)))
    where
      by : (from i : ℕ) (s : State) (w : World) → case_at (unary_cases r from lambda) (primary r lambda) i s w ≡ unary_by lambda from i s w
      by from zero s w = refl
      by from (suc zero) s w = refl
      by from (suc (suc zero)) s w = refl
      by from (suc (suc (suc i))) s w = rw (ne_eqb (suc (suc (suc i))) 2 (omega arith), lt-ltb 2 (suc (suc (suc i))) (omega arith))

  -- signs behind an expression
  abbrev pub sign_chain : List ℕ
  sign_chain = kind.Comma ∷ kind.Colon ∷ kind.Assign ∷ kind.AddAssign ∷ kind.SubAssign ∷ kind.MulAssign ∷ kind.DivAssign ∷ kind.RemAssign ∷ []

  abbrev pub sign_by : ℕ → Expr → ℕ → Rule ℕ
  sign_by from x which = when (eqb which 0) (multi r from x) (when (eqb which 1) (typed_assign r from x) (when (ltb 7 which) (give (link_of x)) (set r from (get_or sign_chain which 0) x)))

  pub assign-placed : (from : ℕ) → assign r from ≡ (r.prec 1 true >>= (λ x. pick r.sheet sign_chain >>= sign_by from x))
  unfolding assign
  assign-placed from = ap (λ k. r.prec 1 true >>= k) (fun_ext (λ x. chosen r.sheet (give (link_of x)) (sign_cases r from x) (by x)))
    where
      by : (x : Expr) (i : ℕ) (s : State) (w : World) → case_at (sign_cases r from x) (give (link_of x)) i s w ≡ sign_by from x i s w
      by x zero s w = refl
      by x (suc zero) s w = refl
      by x (suc (suc zero)) s w = refl
      by x (suc (suc (suc zero))) s w = refl
      by x (suc (suc (suc (suc zero)))) s w = refl
      by x (suc (suc (suc (suc (suc zero))))) s w = refl
      by x (suc (suc (suc (suc (suc (suc zero)))))) s w = refl
      by x (suc (suc (suc (suc (suc (suc (suc zero))))))) s w = refl
      by x (suc (suc (suc (suc (suc (suc (suc (suc i)))))))) s w =
          let n : ℕ = suc (suc (suc (suc (suc (suc (suc (suc i))))))) in rw (ne_eqb n 0 (omega arith), ne_eqb n 1 (omega arith), lt-ltb 7 n (omega arith))

  -- behind `glo`
  abbrev pub glo_chain : List ℕ
  glo_chain = kind.Fn ∷ kind.Effect ∷ []

  unfoldable pub glo_by : ℕ → Ranged → ℕ → Rule ℕ
  glo_by from here which = when (eqb which 0) (named_function r from here) (when (eqb which 1) (effect_stmt r.sheet r.type_atom from here) (glo_assign r from))

  pub glo-placed : (from : ℕ) (s : State) (w : World) → glo r from s w ≡ (bump r.sheet >> (pick r.sheet glo_chain >>= glo_by from (range_at r.sheet.tokens s.at))) s w
  unfolding glo glo_by
  glo-placed from s w = ap (λ k. (bump r.sheet >> k) s w) (chosen r.sheet (glo_assign r from) (glo_cases r from _) (by _))
    where
      by : (here : Ranged) (i : ℕ) (t : State) (v : World) → case_at (glo_cases r from here) (glo_assign r from) i t v ≡ glo_by from here i t v
      by here zero t v = refl
      by here (suc zero) t v = refl
      by here (suc (suc i)) t v = rw (ne_eqb (suc (suc i)) 0 (omega arith), ne_eqb (suc (suc i)) 1 (omega arith))

  -- the beginnings of a statement
  abbrev pub stmt_chain : List ℕ
  stmt_chain = kind.Import ∷ kind.Effect ∷ kind.Glo ∷ []

  abbrev pub stmt_by : ℕ → ℕ → Rule ℕ
  stmt_by from which = when (eqb which 0) (import_stmt r.sheet from) (when (eqb which 1) (effect_stmt r.sheet r.type_atom from None) (when (eqb which 2) (glo r from) (assign r from)))

  pub plain-placed : plain r ≡ (start r.sheet >>= (λ from. pick r.sheet stmt_chain >>= stmt_by from))
  unfolding plain
  plain-placed = ap (λ k. start r.sheet >>= k) (fun_ext (λ from. chosen r.sheet (assign r from) (stmt_cases r from) (by from)))
    where
      by : (from i : ℕ) (s : State) (w : World) → case_at (stmt_cases r from) (assign r from) i s w ≡ stmt_by from i s w
      by from zero s w = refl
      by from (suc zero) s w = refl
      by from (suc (suc zero)) s w = refl
      by from (suc (suc (suc i))) s w = let n : ℕ = suc (suc (suc i)) in rw (ne_eqb n 0 (omega arith), ne_eqb n 1 (omega arith), ne_eqb n 2 (omega arith))

  -- the forms of an atom
  abbrev pub atom_chain : List ℕ
  atom_chain =
      kind.OpenParen
      ∷ kind.Ident
      ∷ kind.OpenBrace
      ∷ kind.OpenBracket
      ∷ kind.Fn
      ∷ kind.VBar
      ∷ kind.Do
      ∷ kind.If
      ∷ kind.Match
      ∷ kind.Loop
      ∷ kind.While
      ∷ kind.For
      ∷ kind.Break
      ∷ kind.Continue
      ∷ kind.Return
      ∷ []

  -- what stands at each of these places of the chain
  abbrev standing : List ℕ → List ℕ
  standing [] = []
  standing (i ∷ is) = get_or atom_chain i 0 ∷ standing is

  pub forms-placed : standing (forms.OpenParen ∷ forms.Ident ∷ forms.OpenBrace ∷ forms.OpenBracket ∷ forms.Fn ∷ forms.VBar ∷ forms.Do ∷ forms.If ∷ forms.Match ∷ forms.Loop ∷ forms.While ∷ forms.For ∷ forms.Break ∷ forms.Continue ∷ forms.Return ∷ []) ≡ atom_chain
  forms-placed = refl

  abbrev pub atom_by : ℕ → ℕ → Rule Expr
  atom_by from which = form r from which >>= (λ link. give (atom_expr which link))

  -- `fn`, `do` and `for` at their places
  module _ (from : ℕ) (s : State) (w : World) where
    fn-placed : fn_expr r from s w ≡ anon r from forms.Fn s w
    unfolding fn_expr anon anon_function
    fn-placed = joined (bump r.sheet s w) (λ _. function r from false) (λ f. fn_record from None no_link f)

    do-placed : do_expr r from s w ≡ anon r from forms.Do s w
    unfolding do_expr anon anon_function do_function
    do-placed = ap (λ k. (bump r.sheet >> k) s w) (fun_ext (λ s1. fun_ext (λ w1. joined (block r node.None s1 w1) (λ body. over node.Do from body) (λ f. fn_record from None no_link f)))) ∙ joined (bump r.sheet s w) (λ _. do_function r from) (λ f. fn_record from None no_link f)

    for-placed : for_expr r from s w ≡ loops r from forms.For s w
    unfolding for_expr loops loop_names round_record
    for-placed = ap (λ k. (bump r.sheet >> k) s w) (fun_ext (λ s1. fun_ext (λ w1. behind s1 w1)))
      where
        rest : Kids → Rule ℕ
        rest row = expr_and_block r row >>= (λ kids. close node.For from 0 0 (flagged row.count 0 false false) kids.first)

        behind : (s1 : State) (w1 : World) → (names r.sheet >>= (λ row. expect r.sheet kind.In >> rest row)) s1 w1 ≡ ((names r.sheet >>= (λ row. expect r.sheet kind.In >> give row)) >>= rest) s1 w1
        behind s1 w1 = ap (λ k. (names r.sheet >>= k) s1 w1) (fun_ext (λ row. fun_ext (λ s2. fun_ext (λ w2. joined (expect r.sheet kind.In s2 w2) (λ _. give row) rest)))) ∙ joined (names r.sheet s1 w1) (λ row. expect r.sheet kind.In >> give row) rest

  by_form_lem : (from i : ℕ) (s : State) (w : World) → case_at (atom_cases r from) (other r (lit r.sheet)) i s w ≡ atom_by from i s w
  unfolding form paren_expr list_expr return_expr group closure_expr anon anon_function loop_expr while_expr loops leaf break_expr continue_expr round_record loop_names
  by_form_lem from zero s w = refl
  by_form_lem from (suc zero) s w = refl
  by_form_lem from (suc (suc zero)) s w = refl
  by_form_lem from (suc (suc (suc zero))) s w = refl
  by_form_lem from (suc (suc (suc (suc zero)))) s w = rw (fn-placed from s w)
  by_form_lem from (suc (suc (suc (suc (suc zero))))) s w = refl
  by_form_lem from (suc (suc (suc (suc (suc (suc zero)))))) s w = rw (do-placed from s w)
  by_form_lem from (suc (suc (suc (suc (suc (suc (suc zero))))))) s w = refl
  by_form_lem from (suc (suc (suc (suc (suc (suc (suc (suc zero)))))))) s w = refl
  by_form_lem from (suc (suc (suc (suc (suc (suc (suc (suc (suc zero))))))))) s w = refl
  by_form_lem from (suc (suc (suc (suc (suc (suc (suc (suc (suc (suc zero)))))))))) s w = refl
  by_form_lem from (suc (suc (suc (suc (suc (suc (suc (suc (suc (suc (suc zero))))))))))) s w = rw (for-placed from s w)
  by_form_lem from (suc (suc (suc (suc (suc (suc (suc (suc (suc (suc (suc (suc zero)))))))))))) s w = refl
  by_form_lem from (suc (suc (suc (suc (suc (suc (suc (suc (suc (suc (suc (suc (suc zero))))))))))))) s w = refl
  by_form_lem from (suc (suc (suc (suc (suc (suc (suc (suc (suc (suc (suc (suc (suc (suc zero)))))))))))))) s w = refl
  by_form_lem from (suc (suc (suc (suc (suc (suc (suc (suc (suc (suc (suc (suc (suc (suc (suc i))))))))))))))) s w =
      let n : ℕ = suc (suc (suc (suc (suc (suc (suc (suc (suc (suc (suc (suc (suc (suc (suc i)))))))))))))) in
      rw (ne_eqb n 0 (omega arith), ne_eqb n 1 (omega arith), ne_eqb n 2 (omega arith), ne_eqb n 3 (omega arith), le-ltb n 7 (omega arith), ne_eqb n 7 (omega arith), ne_eqb n 8 (omega arith), le-ltb n 12 (omega arith), le-ltb n 14 (omega arith), ne_eqb n 14 (omega arith), form, atom_expr)

  pub atom-placed : atom r ≡ (start r.sheet >>= (λ from. pick r.sheet atom_chain >>= atom_by from))
  unfolding atom
  atom-placed = ap (λ k. start r.sheet >>= k) (fun_ext (λ from. chosen r.sheet (other r (lit r.sheet)) (atom_cases r from) (by_form_lem from)))
