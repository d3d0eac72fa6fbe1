-- The sides of an assignment to several: left sides up to the sign, and as many right sides. The rules count in words, so the numbers of the two
-- are related by words.
use Rattle.std.specs.Prelude.{Some, None}
use mathlib.Core.Path.{◌≡◌, refl, sym, ap, ◌∙◌}
use mathlib.Core.List.{List, ◌∷◌}
use mathlib.Core.Bool.{Bool, true, false}
use Prim.Native.Nat.{ℕ, suc, ◌+◌, ◌^◌, ◌<◌, ◌≤◌}
use native.Mathlib.Omega.{arith}
use lib.Dec.{ltb}
use borrow.Author.Tests.{ltb-true, ltb-false}
use Rattle.kinds.specs.Number as kind
use Rattle.cursor.specs.declared.Kids.{Kids}
use Rattle.cursor.specs.declared.Label.{Label}
use Rattle.cursor.specs.Sheet.{Ranged, Sheet}
use Rattle.cursor.specs.Rule.{Rule, ◌>>=◌, give, Next, more, stop}
use Rattle.cursor.specs.Records.{word32, add}
use Rattle.cursor.specs.Tree.{Trees, join, tree}
use Rattle.cursor.proofs.Ends.{ill}
use Rattle.cursor.proofs.Laws.{join-assoc}
use Rattle.cursor.proofs.RecordPaths.{linked, added}
use Rattle.cursor.proofs.Stack.{Entry, whole, Stack}
use Rattle.parts.specs.declared.values.Called.{Called}
use Rattle.parts.specs.declared.values.Expr.{Expr}
use Rattle.parts.specs.declared.values.Expr.TheVariants as exprs
use Rattle.rules.specs.Statements.{left_of, left_turn, lefts}
use Rattle.rules.specs.Levels.{levels}
use Rattle.rules.proofs.Takes.{left-turn-takes}
use Rattle.grammar.specs.Places.{Place, Tok, Here}
use Rattle.grammar.specs.Symbols.{Form, Assignable, a-name, a-member, Lefts, Rights, Expr as Whole, Prec}
use Rattle.grammar.specs.Derives.{Derives, no-left, a-left, no-right, a-right}
use Rattle.grammar.specs.Builders.{blank, only, more as longer}
use Rattle.grammar.specs.Shape.{shape}
use Rattle.sound.proofs.Sound.{Spot, at, Claim, Seq, ◌▸◌, Gave, gave, answer, not-both, If, Nothing, Star, halt, turn, came-refl, Sound, gives, binds, loops}
use Rattle.sound.proofs.SoundSteps.{Took, took, Ranges, ranges, no-range, Added, added-to, add-sound, eat-range-sound}
use Rattle.sound.proofs.SoundValues.{Value, value, joined}
use Rattle.sound.proofs.SoundItems.{sofar, as-shape, listed, word_more}
use Rattle.sound.proofs.ListShape.{under}
use Rattle.sound.proofs.SoundNames.{Rowing}
use Rattle.sound.proofs.SoundExprs.{Expressed, expressed}

-- one or more
pub data OneOrMore : ℕ → Type 0 where
  some : (n : ℕ) → OneOrMore (suc n)

pub lefts-some : {text : List ℕ} {n : ℕ} {p q : Place} → Here kind.Comma p → Derives text (Lefts n) p q → OneOrMore n
lefts-some h (no-left n) = absurd (n.differs h.stands)
lefts-some h (a-left t d a e) = some _

-- n left sides behind a row, and what their count is in a word
pub data Lefted (text : List ℕ) (kids : Kids) : Spot → Spot → Kids → Type 0 where
  lefted : {u v : Spot} {k : Kids} {n : ℕ} → ((c : ℕ) → kids.count ≡ word32 c → k.count ≡ word32 (c + n)) → Rowing text (Lefts n) kids u v k → Lefted text kids u v k

-- n right sides behind a row: so many that the row has the count that is asked for
pub data Righted (text : List ℕ) (all : ℕ) (kids : Kids) : Spot → Spot → Kids → Type 0 where
  righted : {u v : Spot} {k : Kids} {n : ℕ} → (kids.count ≤ all → all < 2 ^ 32 → kids.count + n ≡ all) → Rowing text (Rights n) kids u v k → Righted text all kids u v k

-- right sides that go on from a row are that row with them behind it
pub rights-behind : {text : List ℕ} {n : ℕ} {p q : Place} (d : Derives text (Rights n) p q) (ts us : Trees) (c : ℕ) → shape d 0 (sofar (join ts us) c) ≡ under ts (shape d 0 (sofar us c))
unfolding shape
rights-behind no-right ts us c = refl
rights-behind (a-right a d e) ts us c = let t = (shape d 0 blank).row in ap (λ z. shape e 0 (sofar z (c + 1))) (join-assoc ts us t) ∙ rights-behind e ts (join us t) (c + 1)

-- first an expression, then what each form of it calls for
after-expr : {B : Type 0} (e : Sheet) {X : Claim Expr} (Y : Expr → Claim B) {q : Rule Expr} (k : Expr → Rule B) → Sound e X q → ((link : ℕ) → Sound e (Y (exprs.Name link)) (k (exprs.Name link))) → ((link : ℕ) → Sound e (Y (exprs.NameMember link)) (k (exprs.NameMember link)))
    → ((link : ℕ) (called : Called) → Sound e (Y (exprs.Call link called)) (k (exprs.Call link called))) → ((link : ℕ) → Sound e (Y (exprs.Other link)) (k (exprs.Other link))) → Sound e (Seq X Y) (q >>= k)
after-expr e Y k sound name member call other = binds e sound by
  where
    by : (x : Expr) → Sound e (Y x) (k x)
    by (exprs.Name link) = name link
    by (exprs.NameMember link) = member link
    by (exprs.Call link called) = call link called
    by (exprs.Other link) = other link

module _ (e : Sheet) where
  -- a left side behind its comma, by its form
  abbrev JoinedTo : Kids → Expr → Claim (Next Kids)
  JoinedTo kids (exprs.Name link) = Seq (Added kids link) (λ all. Gave (more all))
  JoinedTo kids (exprs.NameMember link) = Seq (Added kids link) (λ all. Gave (more all))
  JoinedTo kids (exprs.Call link called) = Nothing
  JoinedTo kids (exprs.Other link) = Nothing

  abbrev LeftOf : Kids → Ranged → Claim (Next Kids)
  LeftOf kids None = Gave (stop kids)
  LeftOf kids (Some comma) = Seq (Expressed e.text (Prec 1 true)) (λ x. JoinedTo kids x)

  abbrev pub LeftTurn : Kids → Claim (Next Kids)
  LeftTurn kids = Seq (Ranges kind.Comma) (λ comma. LeftOf kids comma)

  module _ (d : ℕ) (prec : (n : ℕ) (lambda : Bool) → Sound e (Expressed e.text (Prec (n + 1) lambda)) ((levels e d).prec (n + 1) lambda)) where
    left-of-sound : (comma : Ranged) (kids : Kids) → Sound e (LeftOf kids comma) (left_of (levels e d) comma kids)
    unfolding left_of
    left-of-sound None kids = gives e
    left-of-sound (Some comma) kids = after-expr e (JoinedTo kids) _ (prec 0 true) joins joins (λ link called. record { ends = λ s w h. ill (came-refl e h) }) (λ link. record { ends = λ s w h. ill (came-refl e h) })
      where
        joins : (link : ℕ) → Sound e (Seq (Added kids link) (λ all. Gave (more all))) (add kids link >>= (λ all. give (more all)))
        joins link = binds e (add-sound e kids link) (λ all. gives e)

    pub lefts-sound : (kids : Kids) → Sound e (Star LeftTurn kids) (lefts (levels e d) kids)
    unfolding lefts left_turn
    lefts-sound kids = loops e (left-turn-takes e d) (λ k. binds e (eat-range-sound e kind.Comma (λ q. omega (arith, q))) (λ comma. left-of-sound comma k)) kids

  and_left : {f : Form} {p q r : Place} {n m a last : ℕ} {xs ys : List ℕ} {l : Label} {ks : Trees} {v : Spot} {k : Kids} (kids : Kids) → Tok kind.Comma p q → (d : Derives e.text (Prec 1 true f) q r) → Assignable f → shape d 0 blank ≡ only (tree l ks)
      → ((es : List Entry) → Stack xs n es → Stack ys m (whole n a last l ks ∷ es)) → Lefted e.text (added kids a) (at r m (linked ys kids.last a)) v k → Lefted e.text kids (at p n xs) v k
  unfolding shape
  and_left {a = a} {k = k} kids t d h s f (lefted {n = n} o (listed b g)) =
      lefted {k = k} {n = suc n} (λ c q. let i = o (c + 1) (word_more c q) in omega (arith, i)) (listed (a-left t d h b) (λ lo c ts es k st. as-shape (ap (λ z. shape b 0 (longer (sofar ts c) z)) (sym s)) (g lo (c + 1) _ es (word_more c k) (joined kids a (f _ st)))))

  pub lefts-read : {u v : Spot} {kids k : Kids} → Star LeftTurn kids u v k → Lefted e.text kids u v k
  unfolding shape
  lefts-read {kids = kids} (halt (no-range n ▸ gave)) = lefted {k = kids} {n = 0} (λ c q. omega (arith, q)) (listed (no-left n) (λ lo c ts es u st. record { stack = st; count = u; last = refl }))
  lefts-read {kids = kids} (turn (ranges t ▸ expressed {x = exprs.Name link} b s g ▸ added-to ▸ gave) r) = and_left kids t b a-name s (λ es st. (g es st).stack) (lefts-read r)
  lefts-read {kids = kids} (turn (ranges t ▸ expressed {x = exprs.NameMember link} b s g ▸ added-to ▸ gave) r) = and_left kids t b a-member s (λ es st. (g es st).stack) (lefts-read r)
  lefts-read (turn (ranges t ▸ expressed {x = exprs.Call link called} b s g ▸ c) r) = absurd c
  lefts-read (turn (ranges t ▸ expressed {x = exprs.Other link} b s g ▸ c) r) = absurd c
  lefts-read (turn (no-range n ▸ g) r) = absurd (not-both (sym (answer g)))
  lefts-read (halt (ranges t ▸ expressed {x = exprs.Name link} b s h ▸ added-to ▸ g)) = absurd (not-both (answer g))
  lefts-read (halt (ranges t ▸ expressed {x = exprs.NameMember link} b s h ▸ added-to ▸ g)) = absurd (not-both (answer g))
  lefts-read (halt (ranges t ▸ expressed {x = exprs.Call link called} b s g ▸ c)) = absurd c
  lefts-read (halt (ranges t ▸ expressed {x = exprs.Other link} b s g ▸ c)) = absurd c

  -- right sides: a turn asks whether there are enough
  abbrev RightStep : Kids → Claim (Next Kids)
  RightStep kids = Seq (Took kind.Comma) (λ _. Seq (Value e.text (Whole true)) (λ link. Seq (Added kids link) (λ more_kids. Gave (more more_kids))))

  abbrev pub RightTurn : ℕ → Kids → Claim (Next Kids)
  RightTurn all kids = If (ltb kids.count all) (RightStep kids) (Gave (stop kids))

  module _ (all : ℕ) where
    and_right : {p q r : Place} {n m a last : ℕ} {xs ys : List ℕ} {l : Label} {ks : Trees} {v : Spot} {k : Kids} (kids : Kids) → kids.count < all → Tok kind.Comma p q → (d : Derives e.text (Whole true) q r) → shape d 0 blank ≡ only (tree l ks)
        → ((es : List Entry) → Stack xs n es → Stack ys m (whole n a last l ks ∷ es)) → Righted e.text all (added kids a) (at r m (linked ys kids.last a)) v k → Righted e.text all kids (at p n xs) v k
    unfolding shape
    and_right {a = a} kids less t d s f (righted {n = n} o (listed b g)) =
        righted {n = suc n} (λ i u. let j = o (omega (arith, less)) u in omega (arith, j, less, u)) (listed (a-right t d b) (λ lo c ts es k st. as-shape (ap (λ z. shape b 0 (longer (sofar ts c) z)) (sym s)) (g lo (c + 1) _ es (word_more c k) (joined kids a (f _ st)))))

    stops-by : {u v : Spot} {kids k : Kids} (b : Bool) → ltb kids.count all ≡ b → If b (RightStep kids) (Gave (stop kids)) u v (stop k) → Righted e.text all kids u v k
    unfolding shape
    stops-by true q (took t ▸ v ▸ added-to ▸ g) = absurd (not-both (answer g))
    stops-by {u = at p n xs} {kids = kids} false q gave = righted {n = 0} (λ i u. let j = ltb-false kids.count all q in omega (arith, i, j)) (listed no-right (λ lo c ts es o st. record { stack = st; count = o; last = refl }))

    goes_by : {u v w : Spot} {kids j k : Kids} (b : Bool) → ltb kids.count all ≡ b → If b (RightStep kids) (Gave (stop kids)) u v (more j) → Righted e.text all j v w k → Righted e.text all kids u w k
    goes_by {kids = kids} true q (took t ▸ value d s f ▸ added-to ▸ gave) r = and_right kids (ltb-true kids.count all q) t d s f r
    goes_by false q g r = absurd (not-both (sym (answer g)))

    pub rights-read : {u v : Spot} {kids k : Kids} → Star (RightTurn all) kids u v k → Righted e.text all kids u v k
    rights-read {kids = kids} (halt c) = stops-by (ltb kids.count all) refl c
    rights-read {kids = kids} (turn c r) = goes_by (ltb kids.count all) refl c (rights-read r)
