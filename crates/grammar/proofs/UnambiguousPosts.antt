-- Calls and members are unambiguous: the first token tells the production, and of a member whether `#` stands behind it.
use Rattle.std.specs.Prelude.{Some, None}
use Prim.Native.Nat.{ℕ, ◌+◌}
use mathlib.Core.Path.{◌≡◌, refl, sym, ap, subst, ◌∙◌}
use mathlib.Core.List.{List}
use mathlib.Core.Bool.{Bool, true, false}
use lib.Dec.{eqb}
use borrow.Author.Tests.{ne_eqb}
use Rattle.kinds.specs.Number as kind
use Rattle.cursor.specs.Node as node
use Rattle.cursor.specs.Tree.{none}
use Rattle.grammar.specs.Places.{Place, kind_of, span_of, after, Tok, Free, from_all}
use Rattle.grammar.specs.Symbols.{Form, Call, Other, member_of, Until, NoLast, Ident, Expr, Block, Posts, Member}
use Rattle.grammar.specs.Derives.{Derives, NoLambda, openers}
use Rattle.grammar.specs.Derives as g
use Rattle.grammar.specs.Builders.{blank, call_over, member_over, covered}
use Rattle.grammar.specs.Shape.{shape}
use Rattle.grammar.specs.Words.{among}
use Rattle.grammar.proofs.FirstKinds.{Starts, members, opening-apart}
use Rattle.grammar.proofs.Starts.{starts}
use Rattle.grammar.proofs.UnambiguousClaims.{Alike}
use Rattle.grammar.proofs.UnambiguousBelow.{Below}
use Rattle.grammar.proofs.UnambiguousTokens.{step, refuse, free_of, ident, value}
use Rattle.grammar.proofs.UnambiguousLists.{arguments}

-- the kind behind an expression as far as calls and members are told apart by it: all members are one, and a brace is none where no lambda is taken
abbrev braced : Bool → ℕ → ℕ
braced true k = elim (eqb k kind.OpenBrace) as (λ _. ℕ) [ true ↦ kind.OpenBrace | false ↦ 0 ]
braced false k = 0

abbrev post_by : Bool → Bool → ℕ → ℕ → ℕ
post_by true b k j = 1
post_by false true k j = k
post_by false false k j = j

unfoldable post_sort : Bool → ℕ → ℕ
post_sort lambda k = post_by (among k members) (among k openers) k (braced lambda k)

by-member : (lambda : Bool) {p : Place} → Starts members p → post_sort lambda (kind_of p) ≡ 1
unfolding post_sort
by-member lambda {p} h = ap (λ b. post_by b (among (kind_of p) openers) (kind_of p) (braced lambda (kind_of p))) h.first

by-none : {lambda : Bool} {p : Place} → Free openers p → NoLambda lambda p → post_sort lambda (kind_of p) ≡ 0
unfolding post_sort
by-none {lambda} {p} (from_all h (from_all i f)) l =
    ap (λ b. post_by b (among (kind_of p) openers) (kind_of p) (braced lambda (kind_of p))) (free_of f) ∙ ap (λ b. post_by false b (kind_of p) (braced lambda (kind_of p))) (free_of (from_all h (from_all i f))) ∙ unbraced l
  where
    unbraced : {m : Bool} → NoLambda m p → braced m (kind_of p) ≡ 0
    unbraced (g.no-brace n) = ap (λ b. elim b as (λ _. ℕ) [ true ↦ kind.OpenBrace | false ↦ 0 ]) (ne_eqb (kind_of p) kind.OpenBrace n.differs)
    unbraced g.not_taken = refl

-- a member's first kind, and apart where `#` stands behind it
abbrev meta_by : ℕ → Bool → ℕ
meta_by k true = k + 100
meta_by k false = k

abbrev is_pound : ℕ → Bool
is_pound k = eqb k kind.Pound

abbrev member_sort : Place → ℕ
member_sort p = meta_by (kind_of p) (is_pound (kind_of (after p)))

module _ {text : List ℕ} where
  -- a member by its first two tokens
  data MemberAt : ℕ → (n : ℕ) (p q : Place) → Derives text (Member n) p q → Type 0 where
    at_bracket : {p q r t : Place} (a : Tok kind.OpenBracket p q) (d : Derives text (Expr true) q r) (b : Tok kind.CloseBracket r t) → MemberAt kind.OpenBracket 0 p t (g.bracket a d b)
    at-dot : {p q r : Place} (a : Tok kind.Dot p q) (d : Derives text Ident q r) → MemberAt kind.Dot 1 p r (g.dot a d)
    at-double-colon : {p q r : Place} (a : Tok kind.DoubleColon p q) (d : Derives text Ident q r) → MemberAt kind.DoubleColon 2 p r (g.double-colon a d)
    at-bracket-meta : {p q r t : Place} (a : Tok kind.OpenBracket p q) (b : Tok kind.Pound q r) (c : Tok kind.CloseBracket r t) → MemberAt (kind.OpenBracket + 100) 3 p t (g.bracket-meta a b c)
    at-dot-meta : {p q r : Place} (a : Tok kind.Dot p q) (b : Tok kind.Pound q r) → MemberAt (kind.Dot + 100) 4 p r (g.dot-meta a b)
    at-double-colon-meta : {p q r : Place} (a : Tok kind.DoubleColon p q) (b : Tok kind.Pound q r) → MemberAt (kind.DoubleColon + 100) 5 p r (g.double-colon-meta a b)

  by_two : {k n : ℕ} {b : Bool} {p q r : Place} {d : Derives text (Member n) p r} → Tok k p q → is_pound (kind_of q) ≡ b → MemberAt (meta_by k b) n p r d → MemberAt (member_sort p) n p r d
  by_two {k} {n} {b} {p} {q} {r} {d} a h v =
      subst (λ j. MemberAt (meta_by j (is_pound (kind_of (after p)))) n p r d) (sym a.here) (subst (λ c. MemberAt (meta_by k c) n p r d) (sym (ap (λ w. is_pound (kind_of w)) a.next ∙ h)) v)

  seen-member : {n : ℕ} {p q : Place} (d : Derives text (Member n) p q) → MemberAt (member_sort p) n p q d
  unfolding among
  seen-member (g.bracket a d b) = by_two a (ne_eqb _ _ (opening-apart kind.Pound (starts d) refl).differs) (at_bracket a d b)
  seen-member (g.dot a d) = by_two a (ap is_pound (starts d).stands) (at-dot a d)
  seen-member (g.double-colon a d) = by_two a (ap is_pound (starts d).stands) (at-double-colon a d)
  seen-member (g.bracket-meta a b c) = by_two a (ap is_pound b.here) (at-bracket-meta a b c)
  seen-member (g.dot-meta a b) = by_two a (ap is_pound b.here) (at-dot-meta a b)
  seen-member (g.double-colon-meta a b) = by_two a (ap is_pound b.here) (at-double-colon-meta a b)

  same-member : {k n m : ℕ} {p q u v : Place} {d : Derives text (Member n) p q} {e : Derives text (Member m) u v} → MemberAt k n p q d → Below d → MemberAt k m u v e → p ≡ u → Alike n m d e
  unfolding shape
  same-member (at_bracket a d c) b (at_bracket a' d' c') e = let r = b.agrees d' (step a a' e) in record { chosen = refl; same = record { ends = step c c' r.ends; shapes = λ x so. value r } }
  same-member (at-dot a d) b (at-dot a' d') e = let r = ident d d' (step a a' e) in record { chosen = refl; same = record { ends = r.ends; shapes = λ x so. value r } }
  same-member (at-double-colon a d) b (at-double-colon a' d') e = let r = ident d d' (step a a' e) in record { chosen = refl; same = record { ends = r.ends; shapes = λ x so. value r } }
  same-member (at-bracket-meta a k c) b (at-bracket-meta a' k' c') e = record { chosen = refl; same = record { ends = step c c' (step k k' (step a a' e)); shapes = λ x so. refl } }
  same-member (at-dot-meta a k) b (at-dot-meta a' k') e = record { chosen = refl; same = record { ends = step k k' (step a a' e); shapes = λ x so. refl } }
  same-member (at-double-colon-meta a k) b (at-double-colon-meta a' k') e = record { chosen = refl; same = record { ends = step k k' (step a a' e); shapes = λ x so. refl } }

  pub member : {n m : ℕ} {p q u v : Place} (d : Derives text (Member n) p q) → Below d → (e : Derives text (Member m) u v) → p ≡ u → Alike n m d e
  member {m = m} {u = u} {v = v} d b e h = same-member (seen-member d) b (subst (λ w. MemberAt (member_sort w) m u v e) (sym h) (seen-member e)) h

  -- calls and members by the first token
  data PostsAt : ℕ → (lambda : Bool) (f h : Form) (p q : Place) → Derives text (Posts lambda f h) p q → Type 0 where
    at_none : {lambda : Bool} {f : Form} {p : Place} (h : Free openers p) (l : NoLambda lambda p) → PostsAt 0 lambda f f p p (g.no-post h l)
    at_call : {lambda : Bool} {f h : Form} {p q r t : Place} (a : Tok kind.OpenParen p q) (d : Derives text (Until (Expr true) NoLast kind.CloseParen) q r) (l : NoLambda lambda r) (e : Derives text (Posts lambda Call h) r t)
        → PostsAt kind.OpenParen lambda f h p t (g.call a d l e)
    at-call-lambda : {f h : Form} {p q r t u : Place} (a : Tok kind.OpenParen p q) (d : Derives text (Until (Expr true) NoLast kind.CloseParen) q r) (k : Derives text Block r t) (e : Derives text (Posts true Call h) t u)
        → PostsAt kind.OpenParen true f h p u (g.call-lambda a d k e)
    at-lambda : {f h : Form} {p q r : Place} (d : Derives text Block p q) (e : Derives text (Posts true Call h) q r) → PostsAt kind.OpenBrace true f h p r (g.lambda-alone d e)
    at-member : {lambda : Bool} {f h : Form} {n : ℕ} {p q r : Place} (d : Derives text (Member n) p q) (e : Derives text (Posts lambda (member_of f) h) q r) → PostsAt 1 lambda f h p r (g.member d e)
    at-safe : {lambda : Bool} {f h : Form} {n : ℕ} {p q r t : Place} (a : Tok kind.Question p q) (d : Derives text (Member n) q r) (e : Derives text (Posts lambda Other h) r t) → PostsAt kind.Question lambda f h p t (g.safe-member a d e)

  by-sort : {k : ℕ} {lambda : Bool} {f h : Form} {p q : Place} {d : Derives text (Posts lambda f h) p q} → post_sort lambda (kind_of p) ≡ k → PostsAt k lambda f h p q d → PostsAt (post_sort lambda (kind_of p)) lambda f h p q d
  by-sort {lambda = lambda} {f = f} {h = h} {p = p} {q = q} {d = d} e v = subst (λ j. PostsAt j lambda f h p q d) (sym e) v

  seen : {lambda : Bool} {f h : Form} {p q : Place} (d : Derives text (Posts lambda f h) p q) → PostsAt (post_sort lambda (kind_of p)) lambda f h p q d
  unfolding post_sort among
  seen (g.no-post h l) = by-sort (by-none h l) (at_none h l)
  seen {lambda} (g.call a d l e) = by-sort (ap (post_sort lambda) a.here) (at_call a d l e)
  seen (g.call-lambda a d k e) = by-sort (ap (post_sort true) a.here) (at-call-lambda a d k e)
  seen (g.lambda-alone d e) = by-sort (ap (post_sort true) (starts d).stands) (at-lambda d e)
  seen {lambda} (g.member d e) = by-sort (by-member lambda (starts d)) (at-member d e)
  seen {lambda} (g.safe-member a d e) = by-sort (ap (post_sort lambda) a.here) (at-safe a d e)

  no_block : {p u v : Place} → NoLambda true p → Derives text Block u v → p ≡ u → ⊥
  no_block (g.no-brace h) d e = refuse h (starts d).stands e

  same : {k : ℕ} {lambda : Bool} {f h i j : Form} {p q u v : Place} {d : Derives text (Posts lambda f h) p q} {e : Derives text (Posts lambda i j) u v} → PostsAt k lambda f h p q d → Below d → PostsAt k lambda i j u v e
      → f ≡ i → p ≡ u → Alike h j d e
  unfolding shape
  same (at_none h l) b (at_none h' l') c e = record { chosen = c; same = record { ends = e; shapes = λ x so. refl } }
  same (at_call a d l f) b (at_call a' d' l' f') c e =
      let r = (b.0 (arguments text)).agrees d' (step a a' e) in
      let t = b.1.agrees f' refl r.ends in
      record { chosen = t.chosen; same = record { ends = t.same.ends; shapes = λ x so i. t.same.shapes x (call_over x (r.ends i) so (value r i) none) i } }
  same (at_call a d l f) b (at-call-lambda a' d' k' f') c e = absurd (no_block l k' ((b.0 (arguments text)).agrees d' (step a a' e)).ends)
  same (at-call-lambda a d k f) b (at_call a' d' l' f') c e = absurd (no_block l' k (sym ((b.0 (arguments text)).agrees d' (step a a' e)).ends))
  same (at-call-lambda a d k f) b (at-call-lambda a' d' k' f') c e =
      let r = (b.0 (arguments text)).agrees d' (step a a' e) in
      let w = b.1.agrees k' r.ends in
      let t = b.2.agrees f' refl w.ends in
      record { chosen = t.chosen; same = record { ends = t.same.ends; shapes = λ x so i. t.same.shapes x (call_over x (w.ends i) so (value r i) (covered node.Closure (value w i).row)) i } }
  same (at-lambda d f) b (at-lambda d' f') c e =
      let w = b.0.agrees d' e in
      let t = b.1.agrees f' refl w.ends in
      record { chosen = t.chosen; same = record { ends = t.same.ends; shapes = λ x so i. t.same.shapes x (call_over x (w.ends i) so blank (covered node.Closure (value w i).row)) i } }
  same (at-member d f) b (at-member d' f') c e =
      let w = b.0.agrees d' e in
      let r = w.same in
      let t = b.1.agrees f' (ap member_of c) r.ends in
      record { chosen = t.chosen; same = record { ends = t.same.ends; shapes = λ x so i. t.same.shapes x (member_over x (r.ends i) None (w.chosen i) so (value r i)) i } }
  same (at-safe a d f) b (at-safe a' d' f') c e =
      let w = b.0.agrees d' (step a a' e) in
      let r = w.same in
      let t = b.1.agrees f' refl r.ends in
      record { chosen = t.chosen; same = record { ends = t.same.ends; shapes = λ x so i. t.same.shapes x (member_over x (r.ends i) (Some (span_of (e i))) (w.chosen i) so (value r i)) i } }

  pub posts : {lambda : Bool} {f h i j : Form} {p q u v : Place} (d : Derives text (Posts lambda f h) p q) → Below d → (e : Derives text (Posts lambda i j) u v) → f ≡ i → p ≡ u → Alike h j d e
  posts {lambda = lambda} {i = i} {j = j} {u = u} {v = v} d b e c h = same (seen d) b (subst (λ w. PostsAt (post_sort lambda (kind_of w)) lambda i j u v e) (sym h) (seen e)) c h
