-- Statements that begin with an expression: it alone, or the assignment that it begins. The rules count the sides of an assignment to several in words, which
-- keep the counts of a list of tokens that is not too long.
use Rattle.std.specs.Prelude.{Some}
use mathlib.Core.Path.{◌≡◌, refl, sym, ap, subst}
use mathlib.Core.List.{List}
use mathlib.Core.Bool.{Bool, true, false}
use Prim.Native.Nat.{ℕ, suc, ◌+◌, ◌*◌, ◌^◌, ◌<◌, max}
use native.Mathlib.Omega.{arith}
use lib.ListN.{length}
use lib.Dec.{eqb}
use borrow.Author.Tests.{lt-ltb, le-ltb}
use Rattle.kinds.specs.Number as kind
use Rattle.cursor.specs.declared.Kids.{Kids}
use Rattle.cursor.specs.Node as node
use Rattle.cursor.specs.Sheet.{Sheet}
use Rattle.cursor.specs.Rule.{Rule, ◌>>=◌, give, more, iterate}
use Rattle.cursor.specs.Checks.{choose}
use Rattle.cursor.specs.Records.{word32, add}
use Rattle.parts.specs.declared.values.Expr.{Expr}
use Rattle.parts.specs.declared.values.Expr.TheVariants as exprs
use Rattle.parts.specs.Values.{link_of, row_with, uncounted}
use Rattle.parts.specs.When.{when}
use Rattle.parts.specs.Steps.{operator_of}
use Rattle.rules.specs.Statements.{right, set_to, set, typed_assign as typed_rule, left_of, left_turn, lefts, right_turn, rights, multi_to, multi as multi_rule, sign_cases, assign as assign_rule}
use Rattle.rules.specs.Levels.{levels}
use Rattle.rules.proofs.Takes.{left-turn-takes, right-turn-takes}
use Rattle.grammar.specs.Places.{Place, after, Tok, Here, Not, Free}
use Rattle.grammar.specs.Symbols.{Form, Name, NameMember, Call, Other, Assignable, a-name, a-member, Ty, Lefts, Rights, Expr as Whole, Prec}
use Rattle.grammar.specs.Derives.{Derives, Compound, adding, subtracting, multiplying, dividing, remaining, signs, no-left, a-left, no-right, a-right}
use Rattle.grammar.proofs.Tests.{at-token}
use Rattle.sound.proofs.SoundExprs.{form_of}
use Rattle.sound.proofs.FewLefts.{lefts-few, view-short}
use Rattle.complete.proofs.Cost.{taken, costs, cost}
use Rattle.complete.proofs.Records.{records}
use Rattle.complete.specs.Depth.{need}
use Rattle.complete.proofs.Meets.{Cost, ◌⊕◌, nothing, inside, cost_of, Any, Goes, goes, stops, Meets}
use Rattle.complete.proofs.MeetsBinds.{gives, answers, answers-stop, yes-so, not_so, fits, maps, next, turn_more, turn-stop}
use Rattle.complete.proofs.MeetsSteps.{rule_for, after_none, before-none, add_meets, bumps, expects, here, not-here, ranges, ranges-not, chooses, chooses_none}
use Rattle.complete.proofs.MeetsValues.{close-meets, pair-meets}
use Rattle.complete.proofs.MeetsTypes.{types-meet}
use Rattle.complete.proofs.MeetsRecords.{couple-meets, row-record-meets}
use Rattle.complete.proofs.MeetsBlocks.{Handed, exprs-meet}

-- what may be assigned to, and what a Colon may stand behind, told of a form
abbrev Left : Form → Type 0
Left Name = Unit
Left NameMember = Unit
Left Call = ⊥
Left Other = ⊥

abbrev Named : Form → Type 0
Named Name = Unit
Named NameMember = ⊥
Named Call = ⊥
Named Other = ⊥

left : {f : Form} → Assignable f → Left f
left a-name = tt
left a-member = tt

by_left : (C : Expr → Type 0) {f : Form} → Assignable f → ((link : ℕ) → C (exprs.Name link)) → ((link : ℕ) → C (exprs.NameMember link)) → (x : Expr) → form_of x ≡ f → C x
by_left C a g h (exprs.Name link) i = g link
by_left C a g h (exprs.NameMember link) i = h link
by_left C a g h (exprs.Call link called) i = absurd (subst Left (sym i) (left a))
by_left C a g h (exprs.Other link) i = absurd (subst Left (sym i) (left a))

by_name : (C : Expr → Type 0) → ((link : ℕ) → C (exprs.Name link)) → (x : Expr) → form_of x ≡ Name → C x
by_name C g (exprs.Name link) i = g link
by_name C g (exprs.NameMember link) i = absurd (subst Named (sym i) tt)
by_name C g (exprs.Call link called) i = absurd (subst Named (sym i) tt)
by_name C g (exprs.Other link) i = absurd (subst Named (sym i) tt)

rights-first : {text : List ℕ} {n : ℕ} {p q : Place} → Derives text (Rights (suc n)) p q → Here kind.Comma p
rights-first (a-right t D R) = at-token t

lefts-first : {text : List ℕ} {n : ℕ} {p q : Place} → Derives text (Lefts (suc n)) p q → Here kind.Comma p
lefts-first (a-left t D a L) = at-token t

module _ {e : Sheet} {d : ℕ} where
  -- a side joins its row, which is one longer
  joins : {p : Place} (kids : Kids) (link : ℕ) → Meets e d p p nothing (Goes (λ k. k.count ≡ word32 (kids.count + 1))) (add kids link >>= (λ longer. give (more longer)))
  joins kids link = after_none (add_meets kids link) (λ k i. gives (goes (ap (λ z. z.count) i)))

  -- what is left of the tokens is no more than all of them
  with-few : {A : Type 0} {p q : Place} {c : Cost} {P : A → Type 0} {r : Rule A} → length e.tokens < 2 ^ 32 → (3 * length p.rest < 2 ^ 32 → Meets e d p q c P r) → Meets e d p q c P r
  with-few few x = record { runs = λ s w h z. let i = view-short e.tokens s.at in (x (subst (λ y. 3 * length y.rest < 2 ^ 32) z (omega (arith, i, few)))).runs s w h z }

module _ {e : Sheet} {d : ℕ} (h : Handed e d) where
  -- an expression that is assigned to, and one that a Colon stands behind
  module _ {B : Type 0} {p q v : Place} {c : Cost} {Q : B → Type 0} (k : Expr → Rule B) where
    next-left : {f : Form} (D : Derives e.text (Prec 1 true f) p q) → Assignable f → ((link : ℕ) → Meets e d q v c Q (k (exprs.Name link))) → ((link : ℕ) → Meets e d q v c Q (k (exprs.NameMember link))) → Meets e d p v (inside (cost_of D) ⊕ c) Q ((levels e d).prec 1 true >>= k)
    next-left D a f g = next (h.precs D) (λ x i. by_left (λ y. Meets e d q v c Q (k y)) a f g x i)

    next-name : (D : Derives e.text (Prec 1 true Name) p q) → ((link : ℕ) → Meets e d q v c Q (k (exprs.Name link))) → Meets e d p v (inside (cost_of D) ⊕ c) Q ((levels e d).prec 1 true >>= k)
    next-name D f = next (h.precs D) (λ x i. by_name (λ y. Meets e d q v c Q (k y)) f x i)

  -- further left sides, counted in a word
  lefts-meet : {n : ℕ} {p q : Place} (L : Derives e.text (Lefts n) p q) (kids : Kids) (c : ℕ) → kids.count ≡ word32 c → Meets e d p q (cost_of L) (λ k. k.count ≡ word32 (c + n)) (iterate e (left_turn (levels e d)) kids)
  unfolding left_turn left_of costs records need
  lefts-meet (no-left n) kids c i = turn-stop _ _ (ranges-not _ n (gives (stops (omega (arith, i)))))
  lefts-meet (a-left t D a L) kids c i = fits (omega arith) (omega arith) (omega arith)
      (turn_more (left-turn-takes e d) (ranges _ (λ q. omega (arith, q)) t (next-left _ D a (λ link. joins kids link) (λ link. joins kids link))) (λ k j. maps (λ z o. omega (arith, o)) (lefts-meet L k (c + 1) (omega (arith, i, j)))))

  -- so many right sides that there are as many as left ones
  rights-meet : {n : ℕ} {p q : Place} (R : Derives e.text (Rights n) p q) (all : ℕ) (kids : Kids) → kids.count + n ≡ all → all < 2 ^ 32 → Meets e d p q (cost_of R) Any (iterate e (right_turn (levels e d) all) kids)
  unfolding right_turn costs records need
  rights-meet no-right all kids i l = turn-stop _ _ (not_so _ (le-ltb kids.count all (omega (arith, i))) answers-stop)
  rights-meet (a-right t D R) all kids i l = fits (omega arith) (omega arith) (omega arith)
      (turn_more (right-turn-takes e d all) (yes-so _ (lt-ltb kids.count all (omega (arith, i))) (expects t (before-none (exprs-meet h D) (λ link _. joins kids link)))) (λ k j. rights-meet R all k (omega (arith, i, j, l)) l))

  -- the right side of an assignment and its record
  pub right-meets : {p q : Place} (D : Derives e.text (Whole true) p q) (from k op link : ℕ) → Meets e d p q (record { reads = cost D; nodes = records D + 1; need = need D }) Any (right (levels e d) from k op link)
  unfolding right
  right-meets D from k op link = fits (omega arith) (omega arith) (omega arith) (next (exprs-meet h D) (λ value _. couple-meets _ _ _ _ _))

  -- an assignment from its sign on, which is taken without being looked at again
  set-meets : {p q r : Place} → after p ≡ q → (D : Derives e.text (Whole true) q r) (from sign link : ℕ)
      → Meets e d p r (record { reads = taken p + cost D; nodes = records D + 1; need = need D }) Any (set_to (levels e d) from sign (Some link))
  unfolding set_to
  set-meets {q = q} {r = r} t D from sign link = fits (omega arith) (omega arith) (omega arith) (bumps t (by (eqb sign kind.Assign)))
    where
      by : (b : Bool) → Meets e d q r (record { reads = cost D; nodes = records D + 1; need = need D }) Any (when b (right (levels e d) from node.Assign 0 link) (right (levels e d) from node.AssignOp (operator_of sign) link))
      by true = right-meets D from node.Assign 0 link
      by false = right-meets D from node.AssignOp (operator_of sign) link

  -- behind a plain name: a Colon, a type, and the assignment
  typed-rest : {p q r s t : Place} → Tok kind.Colon p q → (T : Derives e.text Ty q r) → Tok kind.Assign r s → (D : Derives e.text (Whole true) s t) (from name : ℕ)
      → Meets e d p t (record { reads = taken p + cost T + taken r + cost D; nodes = records T + 1 + records D + 1; need = max (need T) (need D) }) Any (typed_rule (levels e d) from (exprs.Name name))
  unfolding typed_rule
  typed-rest a T b D from name = fits (omega arith) (omega arith) (omega arith) (bumps a.next (next (types-meet T) (λ ty _. next (pair-meets _ _ _ _) (λ link _. expects b (right-meets D from node.Assign 0 link)))))

  -- behind a first left side: the others, the sign, and one value or as many
  unpack-rest : {n : ℕ} {p q r s : Place} (L : Derives e.text (Lefts n) p q) → Tok kind.Assign q r → (D : Derives e.text (Whole true) r s) → Not kind.Comma s → (from link : ℕ)
      → Meets e d p s (record { reads = cost L + taken q + cost D; nodes = records L + records D + 1; need = max (need L) (need D) }) Any (multi_to (levels e d) from (Some link))
  unfolding multi_to lefts
  unpack-rest L t D n from link = fits (omega arith) (omega arith) (omega arith) (next (lefts-meet L (row_with link) 1 refl) (λ kids _. expects t (next (exprs-meet h D) (λ value _. not-here _ n (row-record-meets _ _ _ _)))))

  module _ (few : length e.tokens < 2 ^ 32) where
    multi-rest : {n : ℕ} {p q r s t : Place} (L : Derives e.text (Lefts (suc n)) p q) → Tok kind.Assign q r → (D : Derives e.text (Whole true) r s) (R : Derives e.text (Rights (suc n)) s t) (from link : ℕ)
        → Meets e d p t (record { reads = cost L + taken q + cost D + cost R; nodes = records L + records D + records R + 1; need = max (max (need L) (need D)) (need R) }) Any (multi_to (levels e d) from (Some link))
    unfolding multi_to lefts rights
    multi-rest {n} L t D R from link = with-few few (λ short. let some = lefts-few L in fits (omega arith) (omega arith) (omega arith) (next (lefts-meet L (row_with link) 1 refl) (λ kids i. expects t (next (exprs-meet h D) (λ value _. here _ (rights-first R)
        (after_none (add_meets (uncounted kids) value) (λ begun j. let o = ap (λ z. z.count) j in next (rights-meet R kids.count begun (omega (arith, i, o, short, some)) (omega (arith, i, short, some))) (λ all _. close-meets _ _ _ _ _ _))))))))

    -- an expression and what it begins, by the sign behind it
    module _ (from : ℕ) where
      pub plain-meets : {f : Form} {p q : Place} (D : Derives e.text (Prec 1 true f) p q) → Free signs q → Meets e d p q (inside (cost_of D)) Any (assign_rule (levels e d) from)
      unfolding assign_rule
      plain-meets D n = before-none (h.precs D) (λ x _. chooses_none (sign_cases (levels e d) from x) n answers)

      -- the sign of an assignment with one right side leads to its rule
      set-by : {f : Form} {k : ℕ} {p q r s : Place} → ((x : Expr) → rule_for k (sign_cases (levels e d) from x) (give (link_of x)) ≡ set (levels e d) from k x) → (D : Derives e.text (Prec 1 true f) p q) → Assignable f → Tok k q r → (E : Derives e.text (Whole true) r s)
          → Meets e d p s (inside (cost_of D) ⊕ record { reads = taken q + cost E; nodes = records E + 1; need = need E }) Any (assign_rule (levels e d) from)
      unfolding assign_rule set
      set-by {k = k} {q = q} {s = s} i D a t E = next-left _ D a (λ link. by (exprs.Name link) (set-meets t.next E from k link)) (λ link. by (exprs.NameMember link) (set-meets t.next E from k link))
        where
          by : {c : Cost} (x : Expr) → Meets e d q s c Any (set (levels e d) from k x) → Meets e d q s c Any (choose e (sign_cases (levels e d) from x) (give (link_of x)))
          by {c} x y = chooses (sign_cases (levels e d) from x) _ t.here (subst (Meets e d q s c Any) (sym (i x)) y)

      pub assign-meets : {f : Form} {p q r s : Place} (D : Derives e.text (Prec 1 true f) p q) → Assignable f → Tok kind.Assign q r → (E : Derives e.text (Whole true) r s)
          → Meets e d p s (inside (cost_of D) ⊕ record { reads = taken q + cost E; nodes = records E + 1; need = need E }) Any (assign_rule (levels e d) from)
      assign-meets D a t E = set-by (λ x. refl) D a t E

      pub op-assign-meets : {f : Form} {k op : ℕ} {p q r s : Place} (D : Derives e.text (Prec 1 true f) p q) → Assignable f → Compound k op → Tok k q r → (E : Derives e.text (Whole true) r s)
          → Meets e d p s (inside (cost_of D) ⊕ record { reads = taken q + cost E; nodes = records E + 1; need = need E }) Any (assign_rule (levels e d) from)
      op-assign-meets D a adding t E = set-by (λ x. refl) D a t E
      op-assign-meets D a subtracting t E = set-by (λ x. refl) D a t E
      op-assign-meets D a multiplying t E = set-by (λ x. refl) D a t E
      op-assign-meets D a dividing t E = set-by (λ x. refl) D a t E
      op-assign-meets D a remaining t E = set-by (λ x. refl) D a t E

      pub typed-assign-meets : {p q r s t u : Place} (D : Derives e.text (Prec 1 true Name) p q) → Tok kind.Colon q r → (T : Derives e.text Ty r s) → Tok kind.Assign s t → (E : Derives e.text (Whole true) t u)
          → Meets e d p u (inside (cost_of D) ⊕ record { reads = taken q + cost T + taken s + cost E; nodes = records T + 1 + records E + 1; need = max (need T) (need E) }) Any (assign_rule (levels e d) from)
      unfolding assign_rule
      typed-assign-meets D a T b E = next-name _ D (λ link. chooses (sign_cases (levels e d) from (exprs.Name link)) _ a.here (typed-rest a T b E from link))

      -- a comma behind a first left side
      several : {f : Form} {n : ℕ} {p q r t : Place} {c : Cost} (D : Derives e.text (Prec 1 true f) p q) → Assignable f → Derives e.text (Lefts (suc n)) q r → ((link : ℕ) → Meets e d q t c Any (multi_to (levels e d) from (Some link)))
          → Meets e d p t (inside (cost_of D) ⊕ c) Any (assign_rule (levels e d) from)
      unfolding assign_rule multi_rule
      several D a L x = next-left _ D a (λ link. chooses (sign_cases (levels e d) from (exprs.Name link)) _ (lefts-first L).stands (x link)) (λ link. chooses (sign_cases (levels e d) from (exprs.NameMember link)) _ (lefts-first L).stands (x link))

      pub unpack-meets : {f : Form} {n : ℕ} {p q r s t : Place} (D : Derives e.text (Prec 1 true f) p q) → Assignable f → (L : Derives e.text (Lefts (suc n)) q r) → Tok kind.Assign r s → (E : Derives e.text (Whole true) s t) → Not kind.Comma t
          → Meets e d p t (inside (cost_of D) ⊕ record { reads = cost L + taken r + cost E; nodes = records L + records E + 1; need = max (need L) (need E) }) Any (assign_rule (levels e d) from)
      unpack-meets D a L t E n = several D a L (λ link. unpack-rest L t E n from link)

      pub multi-meets : {f : Form} {n : ℕ} {p q r s t u : Place} (D : Derives e.text (Prec 1 true f) p q) → Assignable f → (L : Derives e.text (Lefts (suc n)) q r) → Tok kind.Assign r s → (E : Derives e.text (Whole true) s t) (R : Derives e.text (Rights (suc n)) t u)
          → Meets e d p u (inside (cost_of D) ⊕ record { reads = cost L + taken r + cost E + cost R; nodes = records L + records E + records R + 1; need = max (max (need L) (need E)) (need R) }) Any (assign_rule (levels e d) from)
      multi-meets D a L t E R = several D a L (λ link. multi-rest L t E R from link)
