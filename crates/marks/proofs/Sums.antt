-- Sums over marks, put together as a production's parts are, and what they come to by where a part stands.
use Prim.Native.Nat.{ℕ, suc, ◌+◌, ◌*◌, ◌^◌}
use native.Mathlib.Nat.{pow-succ'}
use native.Mathlib.Omega.{arith}
use mathlib.Core.Path.{◌≡◌, refl, ap, ◌∙◌}
use mathlib.Core.List.{List, [], ◌∷◌, ◌++◌}
use Rattle.kinds.specs.Number as kind
use Rattle.grammar.specs.Places.{Token, Place, Tok}
use Rattle.grammar.specs.Symbols.{Stmt, Stmts, Exprs}
use Rattle.grammar.specs.Derives.{Derives}
use Rattle.grammar.specs.Derives as by
use Rattle.complete.proofs.Cost.{taken_in, taken, spent, one-spent, Costs, flat, keyed, nameless, fronted, opened, costs}
use Rattle.marks.specs.Marks.{Stand, Leading, First, Within, opening, again, as_key, as_name, mark_in, mark, token, readings}

-- so that its sums are checked first

-- tokens with these marks are read so often
pub record Sums (ms : List ℕ) (n : ℕ) : Type 0 where
  pub sum : readings ms ≡ n

-- the readings of a part by where it stands: with those in vain at its front
abbrev pub total : Stand → Costs → ℕ
total Leading c = c.key + (c.fn + c.whole)
total First c = c.fn + c.whole
total Within c = c.whole

readings-append : (a b : List ℕ) → readings (a ++ b) ≡ readings a + readings b
unfolding readings
readings-append [] b = omega arith
readings-append (m ∷ a) b = ap (λ n. 2 ^ m + n) (readings-append a b) ∙ nat (2 ^ m) (readings a) (readings b)
  where
    nat : (x y z : ℕ) → x + (y + z) ≡ x + y + z
    nat x y z = omega arith

-- one mark higher, each token is read twice as often
readings-again : (a : List ℕ) → readings (again a) ≡ readings a + readings a
unfolding readings again
readings-again [] = omega arith
readings-again (m ∷ a) = let ih = readings-again a in let p : 2 ^ suc m ≡ 2 * 2 ^ m = pow-succ' 2 m in omega (arith, ih, p)

infixl 6 ◌⊕◌
pub ◌⊕◌ : {a b : List ℕ} {x y : ℕ} → Sums a x → Sums b y → Sums (a ++ b) (x + y)
◌⊕◌ {a} {b} s t = record { sum = let e = readings-append a b in let i = s.sum in let j = t.sum in omega (arith, e, i, j) }

pub none : Sums [] 0
unfolding readings
none = record { sum = refl }

-- a token
in_list : (ts : List Token) → readings (mark_in ts) ≡ taken_in ts
unfolding readings
in_list [] = refl
in_list (t ∷ ts) = omega arith

pub place : (p : Place) → Sums (mark p) (taken p)
place p = record { sum = in_list p.rest }

pub taking : {k : ℕ} {p q : Place} (t : Tok k p q) → Sums (token t) (spent t)
taking {p = p} t = place p

-- a part with nothing at its front
pub level : (at : Stand) {ms : List ℕ} {n : ℕ} → Sums ms n → Sums ms (total at (flat n))
level Leading s = record { sum = omega (arith, s.sum) }
level First s = record { sum = omega (arith, s.sum) }
level Within s = s

-- a part with something at its front, and more behind it
total-more : (at : Stand) (c : Costs) (n : ℕ) → total at c + n ≡ total at (fronted c (c.whole + n))
total-more Leading c n = omega arith
total-more First c n = omega arith
total-more Within c n = refl

adjusted : {ms : List ℕ} {m n : ℕ} → m ≡ n → Sums ms m → Sums ms n
adjusted e s = record { sum = s.sum ∙ e }

pub front : (at : Stand) (c : Costs) {a b : List ℕ} {x : ℕ} → Sums a (total at c) → Sums b x → Sums (a ++ b) (total at (fronted c (c.whole + x)))
front at c {x = x} s t = adjusted (total-more at c x) (s ⊕ t)

-- Eols before statements
pub behind : (at : Stand) (c : Costs) {a b : List ℕ} {x : ℕ} → Sums a x → Sums b (total at c) → Sums (a ++ b) (total at (fronted c (x + c.whole)))
behind at c {x = x} s t = adjusted (go at) (s ⊕ t)
  where
    go : (at : Stand) → x + total at c ≡ total at (fronted c (x + c.whole))
    go Leading = omega arith
    go First = omega arith
    go Within = refl

-- an expression that opens a statement
pub opens : (at : Stand) (c : Costs) {ms : List ℕ} → Sums ms (total (opening at) c) → Sums ms (total at (keyed c.key (opened c)))
opens Leading c s = record { sum = omega (arith, s.sum) }
opens First c s = record { sum = omega (arith, s.sum) }
opens Within c s = s

-- what an attempted key reads is read once more
pub as-key : (at : Stand) {ms : List ℕ} {k n : ℕ} → Sums ms n → k ≡ n → Sums (as_key at ms) (total at (keyed k n))
as-key Leading {ms = ms} s e = record { sum = let i = readings-again ms in omega (arith, i, s.sum, e) }
as-key First s e = record { sum = omega (arith, s.sum) }
as-key Within s e = s

pub paren-key : {p q r s : Place} (a : Tok kind.OpenParen p q) (n : ℕ) (b : Tok kind.CloseParen r s) → 2 + n ≡ spent a + n + spent b
paren-key a n b = let i = one-spent a refl in let j = one-spent b refl in omega (arith, i, j)

-- so is a `fn` that opens a statement
twice : {k : ℕ} {p q : Place} (t : Tok k p q) → Sums (again (token t)) (spent t + spent t)
twice t = record { sum = let i = readings-again (token t) in let j = (taking t).sum in omega (arith, i, j) }

pub as-name : (at : Stand) {p q : Place} {ms : List ℕ} {n : ℕ} (a : Tok kind.Fn p q) → Sums ms n → Sums (as_name at (token a) ++ ms) (total at (nameless (spent a + n)))
as-name Leading a s = let i = one-spent a refl in record { sum = let e = (twice a ⊕ s).sum in omega (arith, e, i) }
as-name First a s = let i = one-spent a refl in record { sum = let e = (twice a ⊕ s).sum in omega (arith, e, i) }
as-name Within a s = taking a ⊕ s

-- no `fn` is left over at the front of statements
no-fn-stmt : {text : List ℕ} {p q : Place} (d : Derives text Stmt p q) → (costs d).fn ≡ 0
unfolding costs
no-fn-stmt (by.fn-stmt a d e) = refl
no-fn-stmt (by.import-stmt a d) = refl
no-fn-stmt (by.effect-stmt d) = refl
no-fn-stmt (by.glo-fn a b d e) = refl
no-fn-stmt (by.glo-effect a d) = refl
no-fn-stmt (by.glo-assign a d b e) = refl
no-fn-stmt (by.expr-stmt d h) = refl
no-fn-stmt (by.assign d f a e) = refl
no-fn-stmt (by.typed-assign d a e b f) = refl
no-fn-stmt (by.op-assign d f c a e) = refl
no-fn-stmt (by.unpack d f e a g h) = refl
no-fn-stmt (by.multi d f e a g h) = refl

no-fn-stmts : {text : List ℕ} {end : ℕ} {p q : Place} (d : Derives text (Stmts end) p q) → (costs d).fn ≡ 0
unfolding costs
no-fn-stmts (by.no-stmt a) = refl
no-fn-stmts (by.last-stmt d a) = no-fn-stmt d
no-fn-stmts (by.a-line d a b e) = no-fn-stmt d

no_fn : {text : List ℕ} {end : ℕ} {p q : Place} (d : Derives text (Exprs end) p q) → (costs d).fn ≡ 0
unfolding costs
no_fn (by.exprs-of a d) = no-fn-stmts d

-- the statements of a block that is an expression
pub in_block : {text : List ℕ} {end : ℕ} {p q : Place} {ms : List ℕ} (d : Derives text (Exprs end) p q) → Sums ms (total Leading (costs d)) → Sums ms ((costs d).key + (costs d).whole)
in_block d s = record { sum = let i = no_fn d in omega (arith, i, s.sum) }
