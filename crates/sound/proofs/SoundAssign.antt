-- Statements that begin with an expression: it alone, or the assignment that it begins.
use Rattle.std.specs.Prelude.{Some, None, Option}
use mathlib.Core.Path.{◌≡◌, refl, ap, subst}
use mathlib.Core.List.{List, ◌∷◌}
use mathlib.Core.Bool.{Bool, true, false}
use Prim.Native.Nat.{ℕ, suc, ◌+◌, ◌*◌, ◌^◌, ◌<◌, ◌≤◌}
use native.Mathlib.Omega.{arith}
use lib.ListN.{length}
use lib.Dec.{ltb, eqb}
use Rattle.kinds.specs.Number as kind
use Rattle.kinds.specs.Operators.{compound_of}
use Rattle.cursor.specs.declared.Kids.{Kids}
use Rattle.cursor.specs.declared.Label.{Label}
use Rattle.cursor.specs.Node as node
use Rattle.cursor.specs.Sheet.{Sheet}
use Rattle.cursor.specs.Rule.{◌>>◌}
use Rattle.cursor.specs.Tokens.{bump}
use Rattle.cursor.specs.Records.{word32, no_kids, flagged}
use Rattle.cursor.specs.Tree.{Trees, join, tree}
use Rattle.cursor.proofs.RecordPaths.{linked, added}
use Rattle.cursor.proofs.Stack.{Entry, whole, row, Stack}
use Rattle.cursor.proofs.Grows.{as_row}
use Rattle.types.specs.Items.{so}
use Rattle.parts.specs.declared.values.Expr.{Expr}
use Rattle.parts.specs.declared.values.Expr.TheVariants as exprs
use Rattle.parts.specs.Values.{link_of, to_assign_left, row_with, uncounted}
use Rattle.parts.specs.When.{when}
use Rattle.parts.specs.Records.{couple as couple-rule, row_record}
use Rattle.parts.specs.Steps.{operator_of}
use Rattle.rules.specs.Statements.{right, set_to, set, typed_assign, right_turn, rights, multi_to, multi as multi-rule, sign_cases, assign as assign-rule}
use Rattle.rules.specs.Levels.{levels}
use Rattle.rules.proofs.Takes.{right-turn-takes}
use Rattle.grammar.specs.Places.{Place, start_of, Tok, Here, from-none, from_all}
use Rattle.grammar.specs.Symbols.{Form, Assignable, a-name, a-member, Ty, Stmt, Lefts, Rights, Expr as Whole, Prec}
use Rattle.grammar.specs.Derives.{Derives, Compound, adding, subtracting, multiplying, dividing, remaining, expr-stmt, assign, typed-assign, op-assign, unpack, multi}
use Rattle.grammar.specs.Builders.{blank, only, more as longer, made, couple, row_before, several_over}
use Rattle.grammar.specs.Shape.{shape}
use Rattle.sound.proofs.Sound.{Spot, at, Claim, Seq, ◌▸◌, Gave, gave, If, Nothing, Star, spot, Sound, gives, maps, reads, ifs, binds, loops}
use Rattle.sound.proofs.SoundSteps.{Bumped, bumped, Took, took, Saw, yes-saw, not-saw, Way, this-one, later-one, Added, added-to, add-sound, bump-sound, check_sound, expect-sound, unexpected-sound, way, otherwise, chooses}
use Rattle.sound.proofs.SoundValues.{Value, value, wrapped, joined, relabel, labelled, Closed, Paired, paired, close-sound, pair-sound, closing}
use Rattle.sound.proofs.SoundItems.{sofar, as-shape, Rowed, listed, word_flags}
use Rattle.sound.proofs.SoundNames.{Rowing}
use Rattle.sound.proofs.SoundTypes.{types-sound}
use Rattle.sound.proofs.SoundExprs.{form_of, Held, Expressed, expressed}
use Rattle.sound.proofs.SoundPrec.{expr-sound}
use Rattle.sound.proofs.SoundImports.{two-flags}
use Rattle.sound.proofs.SoundSides.{OneOrMore, some, lefts-some, Lefted, lefted, Righted, righted, rights-behind, LeftTurn, lefts-sound, lefts-read, RightTurn, rights-read}
use Rattle.sound.proofs.Ahead.{ahead, fewer}
use Rattle.sound.proofs.FewLefts.{lefts-few, view-short}

-- the operator that the rules keep of a compound assignment is the grammar's
operator-kept : {k op : ℕ} → Compound k op → operator_of k ≡ op
unfolding compound_of
operator-kept adding = refl
operator-kept subtracting = refl
operator-kept multiplying = refl
operator-kept dividing = refl
operator-kept remaining = refl

-- a right side, and the record over it and the left side below it
pub data RightOf (text : List ℕ) (k from op a : ℕ) : Spot → Spot → ℕ → Type 0 where
  right_of : {p q : Place} {n m c last : ℕ} {xs ys : List ℕ} {l : Label} {ks : Trees} (d : Derives text (Whole true) p q) → shape d 0 blank ≡ only (tree l ks)
      → ((lo : ℕ) (ts : Trees) (es : List Entry) → Stack xs n (row lo a a ts ∷ es) → Stack ys m (whole lo c last (labelled k from op 0 0 q) (join ts (tree l ks)) ∷ es)) → RightOf text k from op a (at p n xs) (at q m ys) c

module _ (e : Sheet) where
  -- what the rules claim, by what may be assigned to
  abbrev SideTo : ℕ → ℕ → ℕ → Option ℕ → Claim ℕ
  SideTo k from op (Some link) = Seq Bumped (λ _. RightOf e.text k from op link)
  SideTo k from op None = Nothing

  abbrev SetOf : ℕ → ℕ → Expr → Claim ℕ
  SetOf from sign x = If (eqb sign kind.Assign) (SideTo node.Assign from 0 (to_assign_left x)) (SideTo node.AssignOp from (operator_of sign) (to_assign_left x))

  abbrev TypedOf : ℕ → Expr → Claim ℕ
  TypedOf from (exprs.Name link) = Seq Bumped (λ _. Seq (Value e.text Ty) (λ t. Seq (Paired node.TypedIdent from link t) (λ both. Seq (Took kind.Assign) (λ _. RightOf e.text node.Assign from 0 both))))
  TypedOf from (exprs.NameMember link) = Nothing
  TypedOf from (exprs.Call link called) = Nothing
  TypedOf from (exprs.Other link) = Nothing

  abbrev RightsOf : ℕ → Kids → ℕ → Claim ℕ
  RightsOf from left link = Seq (Added (uncounted left) link) (λ begun. Seq (Star (RightTurn e left.count) begun) (λ kids. Closed node.AssignMulti from 0 0 (flagged left.count kids.count false false) kids.first))

  abbrev BehindLefts : ℕ → Kids → Claim ℕ
  BehindLefts from kids = Seq (Took kind.Assign) (λ _. Seq (Value e.text (Whole true)) (λ link. Seq (Saw kind.Comma) (λ b. If b (RightsOf from kids link)
      (Seq (Added kids link) (λ all. Closed node.AssignUnpack from 0 0 (flagged kids.count 0 false false) all.first)))))

  abbrev MultiTo : ℕ → Option ℕ → Claim ℕ
  MultiTo from (Some link) = Seq (Star (LeftTurn e) (row_with link)) (λ kids. BehindLefts from kids)
  MultiTo from None = Nothing

  abbrev pub AssignOf : ℕ → Claim ℕ
  AssignOf from = Seq (Expressed e.text (Prec 1 true)) (λ x.
      Way kind.Comma (MultiTo from (to_assign_left x))
      (Way kind.Colon (TypedOf from x)
      (Way kind.Assign (SetOf from kind.Assign x)
      (Way kind.AddAssign (SetOf from kind.AddAssign x)
      (Way kind.SubAssign (SetOf from kind.SubAssign x)
      (Way kind.MulAssign (SetOf from kind.MulAssign x)
      (Way kind.DivAssign (SetOf from kind.DivAssign x)
      (Way kind.RemAssign (SetOf from kind.RemAssign x) (Gave (link_of x))))))))))

  module _ (d : ℕ) (prec : (n : ℕ) (lambda : Bool) → Sound e (Expressed e.text (Prec (n + 1) lambda)) ((levels e d).prec (n + 1) lambda)) where
    pub right-sound : (from k op link : ℕ) → Sound e (RightOf e.text k from op link) (right (levels e d) from k op link)
    unfolding right couple-rule
    right-sound from k op link = maps e (λ u v a c. go c) (binds e (expr-sound e d prec true) (λ val. binds e (add-sound e no_kids link) (λ one. binds e (add-sound e one val) (λ two. close-sound e k from op 0 0 two.first))))
      where
        go : {u v : Spot} {a : ℕ} → Seq (Value e.text (Whole true)) (λ val. Seq (Added no_kids link) (λ one. Seq (Added one val) (λ two. Closed k from op 0 0 two.first))) u v a → RightOf e.text k from op link u v a
        go (value {a = b} d s f ▸ added-to ▸ added-to ▸ c) = closing (RightOf e.text k from op link _) c (λ o. right_of d s (λ lo ts es st. wrapped _ (joined (added no_kids link) b (f _ st)) o))

    set-sound : (from sign : ℕ) (x : Expr) → Sound e (SetOf from sign x) (set (levels e d) from sign x)
    unfolding set set_to
    set-sound from sign x = to (to_assign_left x)
      where
        by : (link : ℕ) (b : Bool) → Sound e (If b (SideTo node.Assign from 0 (Some link)) (SideTo node.AssignOp from (operator_of sign) (Some link)))
            (bump e >> when b (right (levels e d) from node.Assign 0 link) (right (levels e d) from node.AssignOp (operator_of sign) link))
        by link true = binds e (bump-sound e) (λ _. right-sound from node.Assign 0 link)
        by link false = binds e (bump-sound e) (λ _. right-sound from node.AssignOp (operator_of sign) link)

        to : (l : Option ℕ) → Sound e (If (eqb sign kind.Assign) (SideTo node.Assign from 0 l) (SideTo node.AssignOp from (operator_of sign) l)) (set_to (levels e d) from sign l)
        to (Some link) = by link (eqb sign kind.Assign)
        to None = unexpected-sound e

    typed-sound : (from : ℕ) (x : Expr) → Sound e (TypedOf from x) (typed_assign (levels e d) from x)
    unfolding typed_assign
    typed-sound from (exprs.Name link) = binds e (bump-sound e) (λ _. binds e (types-sound e d) (λ t. binds e (pair-sound e node.TypedIdent from link t) (λ both. binds e (expect-sound e kind.Assign) (λ _. right-sound from node.Assign 0 both))))
    typed-sound from (exprs.NameMember link) = unexpected-sound e
    typed-sound from (exprs.Call link called) = unexpected-sound e
    typed-sound from (exprs.Other link) = unexpected-sound e

    right-turn-sound : (all : ℕ) (kids : Kids) → Sound e (RightTurn e all kids) (right_turn (levels e d) all kids)
    unfolding right_turn
    right-turn-sound all kids = ifs e (ltb kids.count all) (binds e (expect-sound e kind.Comma) (λ _. binds e (expr-sound e d prec true) (λ link. binds e (add-sound e kids link) (λ more_kids. gives e)))) (gives e)

    multi-sound : (from : ℕ) (l : Option ℕ) → Sound e (MultiTo from l) (multi_to (levels e d) from l)
    unfolding multi_to rights row_record
    multi-sound from (Some link) = binds e (lefts-sound e d prec (row_with link)) (λ kids. binds e (expect-sound e kind.Assign) (λ _. binds e (expr-sound e d prec true) (λ val. binds e (check_sound e kind.Comma) (λ b. ifs e b
        (binds e (add-sound e (uncounted kids) val) (λ begun. binds e (loops e (right-turn-takes e d kids.count) (right-turn-sound kids.count) begun) (λ all. close-sound e node.AssignMulti from 0 0 (flagged kids.count all.count false false) all.first)))
        (binds e (add-sound e kids val) (λ all. close-sound e node.AssignUnpack from 0 0 (flagged kids.count 0 false false) all.first))))))
    multi-sound from None = unexpected-sound e

    assign-of-sound : (from : ℕ) → Sound e (AssignOf from) (assign-rule (levels e d) from)
    unfolding assign-rule multi-rule
    assign-of-sound from = binds e (prec 0 true) (λ x.
        chooses e (sign_cases (levels e d) from x) (way e (multi-sound from (to_assign_left x))
        (way e (typed-sound from x)
        (way e (set-sound from kind.Assign x)
        (way e (set-sound from kind.AddAssign x)
        (way e (set-sound from kind.SubAssign x)
        (way e (set-sound from kind.MulAssign x)
        (way e (set-sound from kind.DivAssign x)
        (way e (set-sound from kind.RemAssign x) (otherwise e (gives e)))))))))))

  -- a first expression and what it begins
  module _ {f : Form} {p q : Place} {n m a last : ℕ} {xs ys : List ℕ} {l : Label} {ks : Trees} (b : Derives e.text (Prec 1 true f) p q) (s : shape b 0 blank ≡ only (tree l ks)) (push : (es : List Entry) → Stack xs n es → Stack ys m (whole n a last l ks ∷ es)) where
    assigned : {v : Spot} {c : ℕ} → Assignable f → Here kind.Assign q → Seq Bumped (λ _. RightOf e.text node.Assign (start_of p) 0 a) (at q m ys) v c → Value e.text Stmt (at p n xs) v c
    unfolding shape
    assigned h k (bumped t ▸ right_of {q = o} g y r) = value (assign b h (record { here = k.stands; next = t }) g) (λ i. couple node.Assign (start_of p) o (s i) (y i)) (λ es st. r _ _ es (as_row (push es st)))

    compounded : {v : Spot} {k op c : ℕ} → Compound k op → Assignable f → Here k q → Seq Bumped (λ _. RightOf e.text node.AssignOp (start_of p) op a) (at q m ys) v c → Value e.text Stmt (at p n xs) v c
    unfolding shape
    compounded {op = op} z h k (bumped t ▸ right_of {q = o} g y r) =
        value (op-assign b h z (record { here = k.stands; next = t }) g) (λ i. made node.AssignOp (start_of p) o op 0 0 (join (s i).row (y i).row)) (λ es st. r _ _ es (as_row (push es st)))

    module _ (h : Assignable f) {i : ℕ} {r : Place} {o : ℕ} {zs : List ℕ} {kids : Kids} (g : Derives e.text (Lefts (suc i)) q r)
        (lefts : (lo c : ℕ) (ts : Trees) (es : List Entry) → 1 ≡ word32 c → Stack ys m (row lo a a ts ∷ es) → Rowed zs o lo (so kids) (shape g 0 (sofar ts c)) es) where
      -- as many right sides
      matched : {t z : Place} {c k again d : ℕ} {us : List ℕ} {j : Label} {js : Trees} {v w : Spot} {all : Kids} → Tok kind.Assign r t → (x : Derives e.text (Whole true) t z) → shape x 0 blank ≡ only (tree j js)
          → ((es : List Entry) → Stack zs o es → Stack us k (whole o c again j js ∷ es)) → Rowing e.text (Rights (suc i)) (added (uncounted kids) c) (at z k (linked us kids.last c)) v all
          → Closed node.AssignMulti (start_of p) 0 0 (flagged kids.count all.count false false) all.first v w d → Value e.text Stmt (at p n xs) w d
      unfolding shape join
      matched {c = c} {j = j} {js = js} t x y k (listed {q = z} w u) o = closing (Value e.text Stmt _) o (λ room. value (multi b h g t x w) (λ i. several_over (start_of p) z (shape g 0 (longer blank (s i))) (shape w 0 (longer blank (y i)))) (λ es st.
          let left = lefts _ 1 (tree l ks) es refl (as_row (push es st)) in
          let both = as-shape (rights-behind w (shape g 0 (sofar (tree l ks) 1)).row (tree j js) 1) (u _ 1 _ es refl (joined (uncounted kids) c (k _ left.stack))) in
          relabel (ap (λ y. labelled node.AssignMulti (start_of p) 0 0 y z) (two-flags _ _ false false left.count both.count)) (wrapped _ both.stack room)))

      -- the counts, which are kept in words, are what the grammar counts
      enough : {j : ℕ} → 3 * length p.rest < 2 ^ 32 → kids.count ≡ word32 (1 + suc i) → (1 ≤ kids.count → kids.count < 2 ^ 32 → 1 + j ≡ kids.count) → j ≡ suc i
      enough few count o =
          let u = lefts-few g in
          let v = fewer (ahead b) in
          let c : kids.count ≡ suc (suc i) = omega (arith, few, count, u, v) in
          let w = o (omega (arith, c)) (omega (arith, c, few, u, v)) in
          omega (arith, w, c)

      with-rights : {t z : Place} {c k again d : ℕ} {us : List ℕ} {j : Label} {js : Trees} {v w : Spot} {all : Kids} → 3 * length p.rest < 2 ^ 32 → kids.count ≡ word32 (1 + suc i) → Tok kind.Assign r t → (x : Derives e.text (Whole true) t z) → shape x 0 blank ≡ only (tree j js)
          → ((es : List Entry) → Stack zs o es → Stack us k (whole o c again j js ∷ es)) → Righted e.text kids.count (added (uncounted kids) c) (at z k (linked us kids.last c)) v all
          → Closed node.AssignMulti (start_of p) 0 0 (flagged kids.count all.count false false) all.first v w d → Value e.text Stmt (at p n xs) w d
      with-rights {z = z} {c = c} {k = k} {us = us} {v = v} {all = all} few count t x y f (righted u rows) room =
          matched t x y f (subst (λ j. Rowing e.text (Rights j) (added (uncounted kids) c) (at z k (linked us kids.last c)) v all) (enough few count u) rows) room

      behind-lefts : {v : Spot} {c : ℕ} → 3 * length p.rest < 2 ^ 32 → kids.count ≡ word32 (1 + suc i) → BehindLefts (start_of p) kids (at r o zs) v c → Value e.text Stmt (at p n xs) v c
      unfolding shape join
      behind-lefts few count (took t ▸ value {a = c} x y k ▸ not-saw z ▸ added-to {p = w} ▸ u) = closing (Value e.text Stmt _) u (λ room.
          value (unpack b h g t x z) (λ i. row_before node.AssignUnpack (start_of p) w (shape g 0 (longer blank (s i))) (y i).row) (λ es st.
          let left = lefts _ 1 (tree l ks) es refl (as_row (push es st)) in
          relabel (ap (λ y. labelled node.AssignUnpack (start_of p) 0 0 y w) (word_flags _ false false left.count)) (wrapped _ (joined kids c (k _ left.stack)) room)))
      behind-lefts few count (took t ▸ value x y k ▸ yes-saw z ▸ added-to ▸ turns ▸ room) = with-rights few count t x y k (rights-read e kids.count turns) room

    several : {v w : Spot} {c : ℕ} {kids : Kids} → 3 * length p.rest < 2 ^ 32 → Assignable f → Here kind.Comma q → Lefted e.text (row_with a) (at q m ys) v kids → BehindLefts (start_of p) kids v w c → Value e.text Stmt (at p n xs) w c
    several few h z (lefted count (listed g lefts)) c = by (lefts-some z g) g lefts (count 1 refl) c
      where
        by : {i o : ℕ} {r : Place} {zs : List ℕ} {kids : Kids} {w : Spot} {c : ℕ} → OneOrMore i → (g : Derives e.text (Lefts i) q r) → ((lo c : ℕ) (ts : Trees) (es : List Entry) → 1 ≡ word32 c → Stack ys m (row lo a a ts ∷ es) → Rowed zs o lo (so kids) (shape g 0 (sofar ts c)) es)
            → kids.count ≡ word32 (1 + i) → BehindLefts (start_of p) kids (at r o zs) w c → Value e.text Stmt (at p n xs) w c
        by (some i) g lefts count c = behind-lefts h g lefts few count c

  -- what may be assigned to, by its form
  by_left : (C : Option ℕ → Type 0) {R : Type 0} (x : Expr) → C (to_assign_left x) → (C None → ⊥) → (Assignable (form_of x) → C (Some (link_of x)) → R) → R
  by_left C (exprs.Name link) c n f = f a-name c
  by_left C (exprs.NameMember link) c n f = f a-member c
  by_left C (exprs.Call link called) c n f = absurd (n c)
  by_left C (exprs.Other link) c n f = absurd (n c)

  module _ {p q : Place} {n m last : ℕ} {xs ys : List ℕ} {l : Label} {ks : Trees} where
    typed-read : {v : Spot} {c : ℕ} (x : Expr) (b : Derives e.text (Prec 1 true (form_of x)) p q) → shape b 0 blank ≡ only (tree l ks) → ((es : List Entry) → Stack xs n es → Held ys m n last x l ks es) → Here kind.Colon q → TypedOf (start_of p) x (at q m ys) v c → Value e.text Stmt (at p n xs) v c
    unfolding shape
    typed-read (exprs.Name link) b s g h (bumped t ▸ value d y k ▸ paired {p = r} j ▸ took o ▸ right_of {q = z} i u w) =
        value (typed-assign b (record { here = h.stands; next = t }) d o i) (λ i. couple node.Assign (start_of p) z (couple node.TypedIdent (start_of p) r (s i) (y i)) (u i)) (λ es st. w _ _ es (as_row (j _ _ _ _ _ _ es (k _ (as_row (g es st).stack)))))
    typed-read (exprs.NameMember link) b s g h c = absurd c
    typed-read (exprs.Call link called) b s g h c = absurd c
    typed-read (exprs.Other link) b s g h c = absurd c

    multi-read : {v : Spot} {c : ℕ} (x : Expr) (b : Derives e.text (Prec 1 true (form_of x)) p q) → shape b 0 blank ≡ only (tree l ks) → ((es : List Entry) → Stack xs n es → Held ys m n last x l ks es) → 3 * length p.rest < 2 ^ 32 → Here kind.Comma q
        → MultiTo (start_of p) (to_assign_left x) (at q m ys) v c → Value e.text Stmt (at p n xs) v c
    multi-read {v = v} {c = c} x b s g few h y = by_left (λ l. MultiTo (start_of p) l (at q m ys) v c) x y (λ z. z) (λ a z. go a z)
      where
        go : Assignable (form_of x) → Seq (Star (LeftTurn e) (row_with (link_of x))) (λ kids. BehindLefts (start_of p) kids) (at q m ys) v c → Value e.text Stmt (at p n xs) v c
        go a (r ▸ z) = several b s (λ es st. (g es st).stack) few a h (lefts-read e r) z

    compound-read : {v : Spot} {c k op : ℕ} → Compound k op → (x : Expr) (b : Derives e.text (Prec 1 true (form_of x)) p q) → shape b 0 blank ≡ only (tree l ks) → ((es : List Entry) → Stack xs n es → Held ys m n last x l ks es) → Here k q
        → SideTo node.AssignOp (start_of p) (operator_of k) (to_assign_left x) (at q m ys) v c → Value e.text Stmt (at p n xs) v c
    compound-read {v = v} {c = c} {op = op} z x b s g h y = by_left (λ l. SideTo node.AssignOp (start_of p) op l (at q m ys) v c) x kept (λ z. z) (λ a r. compounded b s (λ es st. (g es st).stack) z a h r)
      where
        kept : SideTo node.AssignOp (start_of p) op (to_assign_left x) (at q m ys) v c
        kept = subst (λ o. SideTo node.AssignOp (start_of p) o (to_assign_left x) (at q m ys) v c) (operator-kept z) y

    set-read : {v : Spot} {c : ℕ} (x : Expr) (b : Derives e.text (Prec 1 true (form_of x)) p q) → shape b 0 blank ≡ only (tree l ks) → ((es : List Entry) → Stack xs n es → Held ys m n last x l ks es) → Here kind.Assign q
        → SideTo node.Assign (start_of p) 0 (to_assign_left x) (at q m ys) v c → Value e.text Stmt (at p n xs) v c
    set-read {v = v} {c = c} x b s g h y = by_left (λ l. SideTo node.Assign (start_of p) 0 l (at q m ys) v c) x y (λ z. z) (λ a r. assigned b s (λ es st. (g es st).stack) a h r)

  assign-read : {p : Place} {n a : ℕ} {xs : List ℕ} {v : Spot} → 3 * length p.rest < 2 ^ 32 → AssignOf (start_of p) (at p n xs) v a → Value e.text Stmt (at p n xs) v a
  unfolding shape
  assign-read few (expressed {x = x} b s g ▸ this-one h c) = multi-read x b s g few h c
  assign-read few (expressed {x = x} b s g ▸ later-one _ (this-one h c)) = typed-read x b s g h c
  assign-read few (expressed {x = x} b s g ▸ later-one _ (later-one _ (this-one h c))) = set-read x b s g h c
  assign-read few (expressed {x = x} b s g ▸ later-one _ (later-one _ (later-one _ (this-one h c)))) = compound-read adding x b s g h c
  assign-read few (expressed {x = x} b s g ▸ later-one _ (later-one _ (later-one _ (later-one _ (this-one h c))))) = compound-read subtracting x b s g h c
  assign-read few (expressed {x = x} b s g ▸ later-one _ (later-one _ (later-one _ (later-one _ (later-one _ (this-one h c)))))) = compound-read multiplying x b s g h c
  assign-read few (expressed {x = x} b s g ▸ later-one _ (later-one _ (later-one _ (later-one _ (later-one _ (later-one _ (this-one h c))))))) = compound-read dividing x b s g h c
  assign-read few (expressed {x = x} b s g ▸ later-one _ (later-one _ (later-one _ (later-one _ (later-one _ (later-one _ (later-one _ (this-one h c)))))))) = compound-read remaining x b s g h c
  assign-read few (expressed b s g ▸ later-one h0 (later-one h1 (later-one h2 (later-one h3 (later-one h4 (later-one h5 (later-one h6 (later-one h7 gave)))))))) =
      value (expr-stmt b (from_all h0 (from_all h1 (from_all h2 (from_all h3 (from_all h4 (from_all h5 (from_all h6 (from_all h7 from-none))))))))) s (λ es st. (g es st).stack)

-- a statement, where what it is said to start at is the start of what stands here
pub data StmtFrom (text : List ℕ) (from : ℕ) : Spot → Spot → ℕ → Type 0 where
  stmt-from : {p : Place} {n a : ℕ} {xs : List ℕ} {v : Spot} → (from ≡ start_of p → Value text Stmt (at p n xs) v a) → StmtFrom text from (at p n xs) v a

pub assign-sound : (e : Sheet) (d : ℕ) → ((n : ℕ) (lambda : Bool) → Sound e (Expressed e.text (Prec (n + 1) lambda)) ((levels e d).prec (n + 1) lambda)) → length e.tokens < 2 ^ 32 → (from : ℕ) → Sound e (StmtFrom e.text from) (assign-rule (levels e d) from)
assign-sound e d prec few from = record {
  ends = λ s w h. reads e (assign-of-sound e d prec from) h (λ v a c. stmt-from (λ q.
      let short = view-short e.tokens s.at in
      assign-read e (omega (arith, short, few)) (subst (λ z. AssignOf e z (spot e s w) v a) q c)));
}
