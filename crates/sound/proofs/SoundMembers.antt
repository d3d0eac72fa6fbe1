-- Calls and members behind what is read already: a turn of the loop that reads them, what all the turns come to, and members as turns.
use Rattle.std.specs.Prelude.{Some, None}
use mathlib.Core.Path.{◌≡◌, refl, ap, ◌∙◌}
use mathlib.Core.List.{List, ◌∷◌}
use mathlib.Core.Bool.{Bool, true, false}
use Prim.Native.Nat.{ℕ, suc}
use native.Mathlib.Omega.{arith}
use Rattle.kinds.specs.Number as kind
use Rattle.cursor.specs.declared.Label.{Label}
use Rattle.cursor.specs.declared.Kids.{Kids}
use Rattle.cursor.specs.Sheet.{Ranged, Sheet}
use Rattle.cursor.specs.Node as node
use Rattle.cursor.specs.Rule.{Rule, Next, more, stop}
use Rattle.cursor.specs.Records.{no_link, no_kids, flagged}
use Rattle.cursor.specs.Tree.{Trees, join, tree}
use Rattle.cursor.proofs.Stack.{Entry, row, whole, Stack}
use Rattle.cursor.proofs.Grows.{as_row}
use Rattle.types.specs.Items.{is_ended, add_some}
use Rattle.types.specs.Patterns.{span_of as range_of}
use Rattle.parts.specs.declared.values.Expr.{Expr}
use Rattle.parts.specs.declared.values.Expr.TheVariants as exprs
use Rattle.parts.specs.Members as members
use Rattle.parts.specs.Values.{link_of, member_of}
use Rattle.parts.specs.Records.{member_record}
use Rattle.parts.specs.Steps.{no_member}
use Rattle.rules.specs.Inner.{expr}
use Rattle.rules.specs.Primary.{member_expr, bracket_member, dot_member, double_colon_member, member_cases, access}
use Rattle.rules.specs.Levels.{levels}
use Rattle.grammar.specs.Places.{Place, span_of, Tok, Here, Not, Free, from-none, from_all}
use Rattle.grammar.specs.Symbols.{Form, Ident, Expr as Whole, Posts, Member}
use Rattle.grammar.specs.Derives.{Derives, openers, NoLambda, no-post, member, safe-member, bracket, dot, double-colon, bracket-meta, dot-meta, double-colon-meta}
use Rattle.grammar.specs.Builders.{Shape, blank, only, member_over}
use Rattle.grammar.specs.Shape.{shape}
use Rattle.sound.proofs.Sound.{Spot, at, Claim, Seq, ◌▸◌, Gave, gave, If, Nothing, Star, halt, turn, Sound, maps, gives, ifs, binds, going}
use Rattle.sound.proofs.SoundSteps.{Bumped, bumped, Took, took, Ate, yes-ate, not-ate, Ranges, ranges, no-range, Way, this-one, later-one, Added, added-to, add-sound, bump-sound, unexpected-sound, eat-sound, expect-sound, eat-range-sound, way, otherwise, chooses}
use Rattle.sound.proofs.SoundValues.{Value, value, wrapped, labelled, Closed, closed, joined, unlinked, SomeAdded, none-added, some-added, close-sound, add-some-sound, ident-sound}
use Rattle.sound.proofs.SoundExprs.{form_of, fits-member, fits-other, Held, Grown, grown}

-- a production for one call or member more, before whatever follows, and what it makes of the shape that stands already
pub record Post (text : List ℕ) (lambda : Bool) (from : ℕ) (f h : Form) (p q : Place) (to : Shape → Shape) : Type 0 where
  pub before : (g : Form) (r : Place) → Derives text (Posts lambda h g) q r → Derives text (Posts lambda f g) p r
  pub before-is : (g : Form) (r : Place) (d : Derives text (Posts lambda h g) q r) (so : Shape) → shape (before g r d) from so ≡ shape d from (to so)

-- what it makes of a tree on the stack
pub record Fuller (to : Shape → Shape) (x y : Expr) (xs ys : List ℕ) (n m last : ℕ) (l : Label) (ks : Trees) : Type 0 where
  pub last-now : ℕ
  pub label-now : Label
  pub kids-now : Trees
  pub same : to (only (tree l ks)) ≡ only (tree label-now kids-now)
  pub push : (lo : ℕ) (es : List Entry) → Held xs n lo last x l ks es → Held ys m lo last-now y label-now kids-now es

-- a turn: it stops where nothing that makes a call or a member follows, or is one of them more
pub data PostTurn (text : List ℕ) (lambda : Bool) (from : ℕ) (x : Expr) : Spot → Spot → Next Expr → Type 0 where
  stops : {p : Place} {n : ℕ} {xs : List ℕ} → Free openers p → NoLambda lambda p → PostTurn text lambda from x (at p n xs) (at p n xs) (stop x)
  goes : {p q : Place} {n m : ℕ} {xs ys : List ℕ} {y : Expr} {to : Shape → Shape} → Post text lambda from (form_of x) (form_of y) p q to → ((last : ℕ) (l : Label) (ks : Trees) → Fuller to x y xs ys n m last l ks)
      → PostTurn text lambda from x (at p n xs) (at q m ys) (more y)

-- all that follow
module _ (text : List ℕ) (lambda : Bool) (from : ℕ) where
  and-post : {p q : Place} {n m : ℕ} {xs ys : List ℕ} {x y z : Expr} {to : Shape → Shape} {v : Spot} → Post text lambda from (form_of x) (form_of y) p q to → ((last : ℕ) (l : Label) (ks : Trees) → Fuller to x y xs ys n m last l ks)
      → Grown text (Posts lambda) from y (at q m ys) v z → Grown text (Posts lambda) from x (at p n xs) v z
  and-post b f (grown d g) = grown (b.before _ _ d) (λ last l ks.
      let i = f last l ks in
      let o = g i.last-now i.label-now i.kids-now in
      record {
        last-now = o.last-now;
        label-now = o.label-now;
        kids-now = o.kids-now;
        same = b.before-is _ _ d (only (tree l ks)) ∙ ap (λ t. shape d from t) i.same ∙ o.same;
        push = λ lo es x. o.push lo es (i.push lo es x);
      })

  pub posts-read : {u v : Spot} {x z : Expr} → Star (PostTurn text lambda from) x u v z → Grown text (Posts lambda) from x u v z
  unfolding shape
  posts-read (halt (stops h l)) = grown (no-post h l) (λ last l ks. record { last-now = last; label-now = l; kids-now = ks; same = refl; push = λ lo es x. x })
  posts-read (turn (goes b f) r) = and-post b f (posts-read r)

-- a member as the answer says it: its link, its form, and that it is no Call
member-held : {ys : List ℕ} {m lo last : ℕ} {l : Label} {ks : Trees} {es : List Entry} (x : Expr) (safe : Ranged) (link : ℕ) → Stack ys m (whole lo link last l ks ∷ es) → Held ys m lo last (member_of x safe link) l ks es
member-held x (Some r) link st = record { fits = fits-other; stack = st }
member-held (exprs.Name a) None link st = record { fits = fits-member; stack = st }
member-held (exprs.NameMember a) None link st = record { fits = fits-other; stack = st }
member-held (exprs.Call a called) None link st = record { fits = fits-other; stack = st }
member-held (exprs.Other a) None link st = record { fits = fits-other; stack = st }

-- one more in a row, where there is one, by what becomes of any stack
pub data Lengthened (kids : Kids) (a : ℕ) : Spot → Spot → Kids → Type 0 where
  lengthened : {p : Place} {n : ℕ} {xs ys : List ℕ} {k : Kids}
      → ((lo mid last : ℕ) (l : Label) (ts ks : Trees) (es : List Entry) → Stack xs n (whole mid a last l ks ∷ row lo kids.first kids.last ts ∷ es) → Stack ys n (row lo k.first k.last (join ts (tree l ks)) ∷ es))
      → (a ≡ 0 → (ts : Trees) (lo : ℕ) (es : List Entry) → Stack xs n (row lo kids.first kids.last ts ∷ es) → Stack ys n (row lo k.first k.last ts ∷ es)) → Lengthened kids a (at p n xs) (at p n ys) k

pub lengthens : (e : Sheet) (kids : Kids) (a : ℕ) → Sound e (Lengthened kids a) (add_some kids a)
lengthens e kids a = maps e (λ x y k c. go c) (add-some-sound e kids a)
  where
    go : {b : ℕ} {x y : Spot} {k : Kids} → SomeAdded kids b x y k → Lengthened kids b x y k
    go (none-added {x = at p n xs}) = lengthened (λ lo mid last l ts ks es st. absurd (unlinked st)) (λ _ ts lo es st. st)
    go (some-added {i = i}) = lengthened (λ lo mid last l ts ks es st. joined kids (suc i) st) (λ q. absurd (omega (arith, q)))

-- the label of its record
abbrev member_label : ℕ → Ranged → Place → ℕ → Label
member_label from safe q k = labelled node.Member from (range_of safe).start (range_of safe).end (flagged k 0 (is_ended safe) false) q

abbrev MemberRecord : ℕ → Ranged → ℕ → Expr → ℕ → Claim (Next Expr)
MemberRecord from safe k x link = Seq (Added no_kids (link_of x)) (λ one. Seq (Lengthened one link) (λ all. Seq (Closed node.Member from (range_of safe).start (range_of safe).end (flagged k 0 (is_ended safe) false) all.first) (λ m. Gave (more (member_of x safe m)))))

member-record-sound : (e : Sheet) (from : ℕ) (safe : Ranged) (k : ℕ) (x : Expr) (link : ℕ) → Sound e (MemberRecord from safe k x link) (member_record from safe k x link)
unfolding member_record
member-record-sound e from safe k x link = binds e (add-sound e no_kids (link_of x)) (λ one. binds e (lengthens e one link) (λ all. binds e (close-sound e node.Member from _ _ _ all.first) (λ m. gives e)))

module _ (text : List ℕ) (lambda : Bool) (from : ℕ) where
  -- the production of a member, by what stands before it, and of one behind `?`
  member-post : {p q : Place} {n : ℕ} (x : Expr) (link : ℕ) (d : Derives text (Member n) p q) → Post text lambda from (form_of x) (form_of (member_of x None link)) p q (λ so. member_over from q None n so (shape d 0 blank))
  unfolding shape
  member-post (exprs.Name a) link d = record { before = λ g r b. member d b; before-is = λ g r b so. refl }
  member-post (exprs.NameMember a) link d = record { before = λ g r b. member d b; before-is = λ g r b so. refl }
  member-post (exprs.Call a called) link d = record { before = λ g r b. member d b; before-is = λ g r b so. refl }
  member-post (exprs.Other a) link d = record { before = λ g r b. member d b; before-is = λ g r b so. refl }

  safe-post : {o p q : Place} {n : ℕ} (x : Expr) (link : ℕ) → Tok kind.Question o p → (d : Derives text (Member n) p q) → Post text lambda from (form_of x) (form_of (member_of x (Some (span_of o)) link)) o q (λ so. member_over from q (Some (span_of o)) n so (shape d 0 blank))
  unfolding shape
  safe-post x link t d = record { before = λ g r b. safe-member t d b; before-is = λ g r b so. refl }

  -- a member with a property, and one without, for `#`, are turns with their records, whatever production it is
  module _ {o p : Place} (x : Expr) (safe : Ranged) (k : ℕ) (post : (link : ℕ) (q : Place) (d : Derives text (Member k) p q) → Post text lambda from (form_of x) (form_of (member_of x safe link)) o q (λ so. member_over from q safe k so (shape d 0 blank))) where
    named-goes : {n a : ℕ} {xs : List ℕ} {v w : Spot} {b : Next Expr} → Value text (Member k) (at p n xs) v a → MemberRecord from safe k x a v w b → PostTurn text lambda from x (at o n xs) w b
    named-goes (value {q = q} {l = i} {ks = js} d s f) (added-to ▸ lengthened {k = all} u z ▸ closed r ▸ c) = going (PostTurn text lambda from x _) c (goes (post _ q d) (λ last l ks. record {
      last-now = all.last;
      label-now = member_label from safe q k;
      kids-now = join (tree l ks) (tree i js);
      same = ap (λ t. member_over from q safe k (only (tree l ks)) t) s;
      push = λ lo es y. member-held x safe _ (wrapped _ (u _ _ _ _ _ _ es (f _ (as_row y.stack))) r);
    }))

    meta-goes : {q : Place} {n : ℕ} {xs : List ℕ} {w : Spot} {b : Next Expr} (d : Derives text (Member k) p q) → shape d 0 blank ≡ blank → MemberRecord from safe k x 0 (at q n xs) w b → PostTurn text lambda from x (at o n xs) w b
    unfolding join
    meta-goes {q} d s (added-to ▸ lengthened {k = all} u z ▸ closed r ▸ c) = going (PostTurn text lambda from x _) c (goes (post _ q d) (λ last l ks. record {
      last-now = all.last;
      label-now = member_label from safe q k;
      kids-now = tree l ks;
      same = ap (λ t. member_over from q safe k (only (tree l ks)) t) s;
      push = λ lo es y. member-held x safe _ (wrapped _ (z refl _ _ es (as_row y.stack)) r);
    }))

module _ (e : Sheet) (d : ℕ) (wholes : (lambda : Bool) → Sound e (Value e.text (Whole lambda)) (expr (levels e d) lambda)) where
  -- the macro member_expr, word by word: how the property is read, and what closes it
  module _ (from : ℕ) (safe : Ranged) (x : Expr) where
    abbrev MemberFrom : ℕ → ℕ → Claim ℕ → Claim (Unit {0}) → Claim (Next Expr)
    MemberFrom named meta X Z = Seq Bumped (λ _. Seq (Ate kind.Pound) (λ b. If b (Seq Z (λ _. MemberRecord from safe meta x 0)) (Seq X (λ link. Seq Z (λ _. MemberRecord from safe named x link)))))

    member-sound : (named meta : ℕ) {X : Claim ℕ} {Z : Claim (Unit {0})} {property : Rule ℕ} {closing : Rule (Unit {0})} → Sound e X property → Sound e Z closing → Sound e (MemberFrom named meta X Z) (member_expr (levels e d) from safe x named meta property closing)
    member-sound named meta y z = binds e (bump-sound e) (λ _. binds e (eat-sound e kind.Pound) (λ b. ifs e b
        (binds e z (λ _. member-record-sound e from safe meta x no_link)) (binds e y (λ link. binds e z (λ _. member-record-sound e from safe named x link)))))

    abbrev Bracketed : Claim (Next Expr)
    Bracketed = MemberFrom members.Bracket members.BracketMeta (Value e.text (Whole true)) (Took kind.CloseBracket)

    abbrev Dotted : Claim (Next Expr)
    Dotted = MemberFrom members.Dot members.DotMeta (Value e.text Ident) (Gave tt)

    abbrev Coloned : Claim (Next Expr)
    Coloned = MemberFrom members.DoubleColon members.DoubleColonMeta (Value e.text Ident) (Gave tt)

    -- a member, where one stands here
    abbrev Accessing : Claim (Next Expr)
    Accessing = Way kind.OpenBracket Bracketed (Way kind.Dot Dotted (Way kind.DoubleColon Coloned (If (is_ended safe) Nothing (Gave (stop x)))))

    bracket-sound : Sound e Bracketed (bracket_member (levels e d) from safe x)
    unfolding bracket_member
    bracket-sound = member-sound members.Bracket members.BracketMeta (wholes true) (expect-sound e kind.CloseBracket)

    dot-sound : Sound e Dotted (dot_member (levels e d) from safe x)
    unfolding dot_member
    dot-sound = member-sound members.Dot members.DotMeta (ident-sound e) (gives e)

    colons-sound : Sound e Coloned (double_colon_member (levels e d) from safe x)
    unfolding double_colon_member
    colons-sound = member-sound members.DoubleColon members.DoubleColonMeta (ident-sound e) (gives e)

    none-sound : Sound e (If (is_ended safe) Nothing (Gave (stop x))) (no_member e safe x)
    unfolding no_member
    none-sound = ifs e (is_ended safe) (unexpected-sound e) (gives e)

  abbrev pub Accessed : ℕ → Expr → Claim (Next Expr)
  Accessed from x = Seq (Ranges kind.Question) (λ safe. Accessing from safe x)

  pub access-sound : (from : ℕ) (x : Expr) → Sound e (Accessed from x) (access (levels e d) from x)
  unfolding access
  access-sound from x = binds e (eat-range-sound e kind.Question (λ q. omega (arith, q))) (λ safe. chooses e (member_cases (levels e d) from safe x) (way e (bracket-sound from safe x) (way e (dot-sound from safe x) (way e (colons-sound from safe x) (otherwise e (none-sound from safe x))))))

  module _ (lambda : Bool) (from : ℕ) (x : Expr) where
    -- the productions of a member, behind `?` or not
    abbrev Productions : Ranged → Place → Place → Type 0
    Productions safe o p = (k link : ℕ) (q : Place) (d : Derives e.text (Member k) p q) → Post e.text lambda from (form_of x) (form_of (member_of x safe link)) o q (λ so. member_over from q safe k so (shape d 0 blank))

    module _ {o p : Place} (safe : Ranged) (post : Productions safe o p) where
      bracket-read : {n : ℕ} {xs : List ℕ} {v : Spot} {b : Next Expr} → Here kind.OpenBracket p → Bracketed from safe x (at p n xs) v b → PostTurn e.text lambda from x (at o n xs) v b
      unfolding shape
      bracket-read h (bumped t ▸ yes-ate c ▸ took z ▸ r) = meta-goes e.text lambda from x safe members.BracketMeta (post members.BracketMeta) (bracket-meta (record { here = h.stands; next = t }) c z) refl r
      bracket-read h (bumped t ▸ not-ate c ▸ value b s f ▸ took z ▸ r) = named-goes e.text lambda from x safe members.Bracket (post members.Bracket) (value (bracket (record { here = h.stands; next = t }) b z) s f) r

      dot-read : {n : ℕ} {xs : List ℕ} {v : Spot} {b : Next Expr} → Here kind.Dot p → Dotted from safe x (at p n xs) v b → PostTurn e.text lambda from x (at o n xs) v b
      unfolding shape
      dot-read h (bumped t ▸ yes-ate c ▸ gave ▸ r) = meta-goes e.text lambda from x safe members.DotMeta (post members.DotMeta) (dot-meta (record { here = h.stands; next = t }) c) refl r
      dot-read h (bumped t ▸ not-ate c ▸ value b s f ▸ gave ▸ r) = named-goes e.text lambda from x safe members.Dot (post members.Dot) (value (dot (record { here = h.stands; next = t }) b) s f) r

      colons-read : {n : ℕ} {xs : List ℕ} {v : Spot} {b : Next Expr} → Here kind.DoubleColon p → Coloned from safe x (at p n xs) v b → PostTurn e.text lambda from x (at o n xs) v b
      unfolding shape
      colons-read h (bumped t ▸ yes-ate c ▸ gave ▸ r) = meta-goes e.text lambda from x safe members.DoubleColonMeta (post members.DoubleColonMeta) (double-colon-meta (record { here = h.stands; next = t }) c) refl r
      colons-read h (bumped t ▸ not-ate c ▸ value b s f ▸ gave ▸ r) = named-goes e.text lambda from x safe members.DoubleColon (post members.DoubleColon) (value (double-colon (record { here = h.stands; next = t }) b) s f) r

      -- one of the three, by its opening token; none where the chain is over
      one_of_three : {n : ℕ} {xs : List ℕ} {v : Spot} {b : Next Expr}
          → (Not kind.OpenBracket p → Not kind.Dot p → Not kind.DoubleColon p → If (is_ended safe) Nothing (Gave (stop x)) (at p n xs) v b → PostTurn e.text lambda from x (at o n xs) v b)
          → Accessing from safe x (at p n xs) v b → PostTurn e.text lambda from x (at o n xs) v b
      one_of_three over (this-one h c) = bracket-read h c
      one_of_three over (later-one i (this-one h c)) = dot-read h c
      one_of_three over (later-one i (later-one j (this-one h c))) = colons-read h c
      one_of_three over (later-one i (later-one j (later-one k c))) = over i j k c

    pub access-read : {p : Place} {n : ℕ} {xs : List ℕ} {v : Spot} {b : Next Expr} → Not kind.OpenParen p → NoLambda lambda p → Accessed from x (at p n xs) v b → PostTurn e.text lambda from x (at p n xs) v b
    access-read o l (ranges {p = p} t ▸ c) = one_of_three (Some (span_of p)) (λ k link q d. safe-post e.text lambda from x link t d) (λ _ _ _ q. absurd q) c
    access-read o l (no-range m ▸ c) = one_of_three None (λ k link q d. member-post e.text lambda from x link d) (λ i j k q. ended o m i j k l q) c
      where
        ended : {p : Place} {n : ℕ} {xs : List ℕ} {v : Spot} {b : Next Expr} → Not kind.OpenParen p → Not kind.Question p → Not kind.OpenBracket p → Not kind.Dot p → Not kind.DoubleColon p → NoLambda lambda p → Gave (stop x) (at p n xs) v b → PostTurn e.text lambda from x (at p n xs) v b
        ended o m i j k l gave = stops (from_all o (from_all m (from_all i (from_all j (from_all k from-none))))) l
