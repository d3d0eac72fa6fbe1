-- A statement that begins with an expression: what stands behind that tells the production. The sides of an assignment.
use Prim.Native.Nat.{ℕ, suc, ◌+◌}
use mathlib.Core.Path.{◌≡◌, refl, sym, ap, ◌∙◌}
use mathlib.Core.List.{List, [], ◌∷◌}
use mathlib.Core.Bool.{Bool, true, false, true≢false}
use native.Mathlib.Omega.{arith}
use Rattle.kinds.specs.Number as kind
use Rattle.cursor.specs.Node as node
use Rattle.cursor.specs.Tree.{join}
use Rattle.grammar.specs.Places.{Place, kind_of, start_of, Tok, Not, Free}
use Rattle.grammar.specs.Symbols.{Form, Name, Other, Assignable, a-name, a-member, Ty, Expr, Prec, Stmt, Lefts, Rights}
use Rattle.grammar.specs.Derives.{Derives, Compound, signs}
use Rattle.grammar.specs.Derives as g
use Rattle.grammar.specs.Builders.{blank, couple, made, row_before, several_over}
use Rattle.grammar.specs.Shape.{shape}
use Rattle.grammar.specs.Words.{among}
use Rattle.grammar.proofs.UnambiguousClaims.{Behind, Agree, Alike, UniquePrec}
use Rattle.grammar.proofs.UnambiguousBelow.{Below}
use Rattle.grammar.proofs.UnambiguousTokens.{step, meet, refuse, free_of, longer, value}

-- the kind behind the expression as far as productions are told apart by it: all compound assignments are one
abbrev compounds : List ℕ
compounds = kind.AddAssign ∷ kind.SubAssign ∷ kind.MulAssign ∷ kind.DivAssign ∷ kind.RemAssign ∷ []

abbrev sign_by : Bool → Bool → ℕ → ℕ
sign_by false b k = 0
sign_by true true k = 1
sign_by true false k = k

unfoldable pub sign_sort : ℕ → ℕ
sign_sort k = sign_by (among k signs) (among k compounds) k

no_sign : {p : Place} → Free signs p → sign_sort (kind_of p) ≡ 0
unfolding sign_sort
no_sign {p} h = ap (λ b. sign_by b (among (kind_of p) compounds) (kind_of p)) (free_of h)

compound-sort : {k op : ℕ} → Compound k op → sign_sort k ≡ 1
unfolding sign_sort among
compound-sort g.adding = refl
compound-sort g.subtracting = refl
compound-sort g.multiplying = refl
compound-sort g.dividing = refl
compound-sort g.remaining = refl

-- the operators stand in the order of their assignments
operator : {k op : ℕ} → Compound k op → op ≡ k + 21
operator g.adding = refl
operator g.subtracting = refl
operator g.multiplying = refl
operator g.dividing = refl
operator g.remaining = refl

one-operator : {k op k' op' : ℕ} → Compound k op → Compound k' op' → k ≡ k' → op ≡ op'
one-operator c c' e = omega (arith, operator c, operator c', e)

not-other : {f : Form} → Assignable f → f ≡ Other → ⊥
not-other a-name e = let z : ◌≡◌ {A = ℕ} 0 1 = cc in omega arith
not-other a-member e = let z : ◌≡◌ {A = ℕ} 0 1 = cc in omega arith

module _ {text : List ℕ} where
  left-comma : {n : ℕ} {p q : Place} → Derives text (Lefts (suc n)) p q → kind_of p ≡ kind.Comma
  left-comma (g.a-left a d f e) = a.here

  right-comma : {n : ℕ} {p q : Place} → Derives text (Rights (suc n)) p q → kind_of p ≡ kind.Comma
  right-comma (g.a-right a d e) = a.here

  pub lefts : {n m : ℕ} {p q u v : Place} (d : Derives text (Lefts n) p q) → Below d → (e : Derives text (Lefts m) u v) → p ≡ u → Alike n m d e
  unfolding shape
  lefts (g.no-left h) b (g.no-left h') e = record { chosen = refl; same = record { ends = e; shapes = λ x so. refl } }
  lefts (g.no-left h) b (g.a-left a' d' c' f') e = absurd (refuse h a'.here e)
  lefts (g.a-left a d c f) b (g.no-left h') e = absurd (refuse h' a.here (sym e))
  lefts (g.a-left a d c f) b (g.a-left a' d' c' f') e =
      let r = (b.0.agrees d' refl (step a a' e)).same in
      let t = b.1.agrees f' r.ends in
      record { chosen = ap suc t.chosen; same = record { ends = t.same.ends; shapes = longer r t.same } }

  pub rights : {n m : ℕ} {p q u v : Place} (d : Derives text (Rights n) p q) → Below d → (e : Derives text (Rights m) u v) → n ≡ m → p ≡ u → Agree d e
  unfolding shape
  rights g.no-right b g.no-right c e = record { ends = e; shapes = λ x so. refl }
  rights g.no-right b (g.a-right a' d' f') c e = absurd (omega (arith, c))
  rights (g.a-right a d f) b g.no-right c e = absurd (omega (arith, c))
  rights (g.a-right a d f) b (g.a-right a' d' f') c e =
      let r = b.0.agrees d' (step a a' e) in
      let t = b.1.agrees f' (omega (arith, c)) r.ends in
      record { ends = t.ends; shapes = longer r t }

  -- a statement by the expression that it begins with and the kind behind that
  pub data TailAt : ℕ → (f : Form) (p q r : Place) → Derives text (Prec 1 true f) p q → Derives text Stmt p r → Type 0 where
    at_plain : {f : Form} {p q : Place} (d : Derives text (Prec 1 true f) p q) (h : Free signs q) → TailAt 0 f p q q d (g.expr-stmt d h)
    at-assign : {f : Form} {p q r t : Place} (d : Derives text (Prec 1 true f) p q) (c : Assignable f) (a : Tok kind.Assign q r) (e : Derives text (Expr true) r t) → TailAt kind.Assign f p q t d (g.assign d c a e)
    at_typed : {p q r t u v : Place} (d : Derives text (Prec 1 true Name) p q) (a : Tok kind.Colon q r) (e : Derives text Ty r t) (b : Tok kind.Assign t u) (k : Derives text (Expr true) u v)
        → TailAt kind.Colon Name p q v d (g.typed-assign d a e b k)
    at_op : {f : Form} {k op : ℕ} {p q r t : Place} (d : Derives text (Prec 1 true f) p q) (c : Assignable f) (o : Compound k op) (a : Tok k q r) (e : Derives text (Expr true) r t)
        → TailAt 1 f p q t d (g.op-assign d c o a e)
    at-unpack : {f : Form} {n : ℕ} {p q r t u : Place} (d : Derives text (Prec 1 true f) p q) (c : Assignable f) (e : Derives text (Lefts (suc n)) q r) (a : Tok kind.Assign r t) (k : Derives text (Expr true) t u) (h : Not kind.Comma u)
        → TailAt kind.Comma f p q u d (g.unpack d c e a k h)
    at-multi : {f : Form} {n : ℕ} {p q r t u v : Place} (d : Derives text (Prec 1 true f) p q) (c : Assignable f) (e : Derives text (Lefts (suc n)) q r) (a : Tok kind.Assign r t) (k : Derives text (Expr true) t u) (h : Derives text (Rights (suc n)) u v)
        → TailAt kind.Comma f p q v d (g.multi d c e a k h)

  pub tail-sort : {k : ℕ} {f : Form} {p q r : Place} {d : Derives text (Prec 1 true f) p q} {s : Derives text Stmt p r} → TailAt k f p q r d s → sign_sort (kind_of q) ≡ k
  unfolding sign_sort among
  tail-sort (at_plain d h) = no_sign h
  tail-sort (at-assign d c a e) = ap sign_sort a.here
  tail-sort (at_typed d a e b l) = ap sign_sort a.here
  tail-sort (at_op d c o a e) = ap sign_sort a.here ∙ compound-sort o
  tail-sort (at-unpack d c e a l h) = ap sign_sort (left-comma e)
  tail-sort (at-multi d c e a l h) = ap sign_sort (left-comma e)

  -- the claim on the expression
  pub begun : {k : ℕ} {f : Form} {p q r : Place} {d : Derives text (Prec 1 true f) p q} {s : Derives text Stmt p r} → TailAt k f p q r d s → Below s → UniquePrec d
  begun (at_plain d h) b = b
  begun (at-assign d c a e) b = b.0
  begun (at_typed d a e c l) b = b.0
  begun (at_op d c o a e) b = b.0
  begun (at-unpack d c e a l h) b = b.0
  begun (at-multi d c e a l h) b = b.0

  -- no statement has a Colon behind such an expression as a key is
  pub no-colon : {k : ℕ} {f : Form} {p q r : Place} {d : Derives text (Prec 1 true f) p q} {s : Derives text Stmt p r} → TailAt k f p q r d s → Behind f q → ⊥
  unfolding among
  no-colon (at_plain d h) b = true≢false (sym (ap (λ j. among j signs) b.colon) ∙ free_of h)
  no-colon (at-assign d c a e) b = not-other c b.form
  no-colon (at_typed d a e c l) b = not-other a-name b.form
  no-colon (at_op d c o a e) b = not-other c b.form
  no-colon (at-unpack d c e a l h) b = not-other c b.form
  no-colon (at-multi d c e a l h) b = not-other c b.form

  pub same-tail : {k : ℕ} {f i : Form} {p q r u v w : Place} {d : Derives text (Prec 1 true f) p q} {s : Derives text Stmt p r} {d' : Derives text (Prec 1 true i) u v} {s' : Derives text Stmt u w} → TailAt k f p q r d s → Below s
      → TailAt k i u v w d' s' → p ≡ u → Agree d d' → Agree s s'
  unfolding shape
  same-tail (at_plain d h) b (at_plain d' h') e r = record { ends = r.ends; shapes = λ x so. value r }
  same-tail (at-assign d c a f) b (at-assign d' c' a' f') e r =
      let t = b.1.agrees f' (step a a' r.ends) in
      record { ends = t.ends; shapes = λ x so i. couple node.Assign (start_of (e i)) (t.ends i) (value r i) (value t i) }
  same-tail (at_typed d a f c l) b (at_typed d' a' f' c' l') e r =
      let t = b.1.agrees f' (step a a' r.ends) in
      let w = b.2.agrees l' (step c c' t.ends) in
      record { ends = w.ends; shapes = λ x so i. couple node.Assign (start_of (e i)) (w.ends i) (couple node.TypedIdent (start_of (e i)) (t.ends i) (value r i) (value t i)) (value w i) }
  same-tail (at_op d c o a f) b (at_op d' c' o' a' f') e r =
      let t = b.1.agrees f' (step a a' r.ends) in
      let n = one-operator o o' (meet a.here a'.here r.ends) in
      record { ends = t.ends; shapes = λ x so i. made node.AssignOp (start_of (e i)) (t.ends i) (n i) 0 0 (join (value r i).row (value t i).row) }
  same-tail (at-unpack d c f a l h) b (at-unpack d' c' f' a' l' h') e r =
      let t = (b.1.agrees f' r.ends).same in
      let w = b.2.agrees l' (step a a' t.ends) in
      record { ends = w.ends; shapes = λ x so i. row_before node.AssignUnpack (start_of (e i)) (w.ends i) (longer r t 0 blank i) (value w i).row }
  same-tail (at-unpack d c f a l h) b (at-multi d' c' f' a' l' h') e r = absurd (refuse h (right-comma h') (b.2.agrees l' (step a a' (b.1.agrees f' r.ends).same.ends)).ends)
  same-tail (at-multi d c f a l h) b (at-unpack d' c' f' a' l' h') e r = absurd (refuse h' (right-comma h) (sym (b.2.agrees l' (step a a' (b.1.agrees f' r.ends).same.ends)).ends))
  same-tail (at-multi d c f a l h) b (at-multi d' c' f' a' l' h') e r =
      let t = b.1.agrees f' r.ends in
      let w = b.2.agrees l' (step a a' t.same.ends) in
      let z = b.3.agrees h' t.chosen w.ends in
      record { ends = z.ends; shapes = λ x so i. several_over (start_of (e i)) (z.ends i) (longer r t.same 0 blank i) (longer w z 0 blank i) }
