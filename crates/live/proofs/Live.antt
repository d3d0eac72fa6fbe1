-- How many kinds a rule leaves on the live list, where it begins at no trivia. Numbers are counted from a base N, which is higher the more levels
-- are left. A rule that ends has passed no token and added at most a kinds, or it has passed one, which emptied the list, and then at most b kinds
-- above the base are on it. So the list does not fill under a rule that is begun with room for a kinds. The lemmas here and in Together follow
-- the ways in which rules are put together, so that the proof for a rule is one term that mirrors its text; its numbers are computed from that
-- term, and `refl` says that they are not above those of the claim.
use mathlib.Core.Path.{◌≡◌, refl, ap, ◌∙◌, subst}
use mathlib.Core.Bool.{Bool, true, false}
use Prim.Native.Nat.{ℕ, ◌+◌, ◌≤◌, max}
use native.Mathlib.Nat.{le_refl}
use native.Mathlib.Omega.{arith}
use lib.Dec.{leb}
use borrow.Author.Tests.{leb-true}
use Rattle.kinds.specs.Kinds.{is_trivia}
use Rattle.cursor.specs.declared.State.{State}
use Rattle.cursor.specs.declared.Fault.{Fault}
use Rattle.cursor.specs.Sheet.{Sheet, kind_at}
use Rattle.cursor.specs.Rule.{World, fault, refused, Out, done, failed, bind, or_else, Rule, give, refuse, if_so, Next, more, stop}
use Rattle.cursor.specs.Checks.{live_room}

-- how a rule ends: P holds where it is done, F where it fails by a fault; and where the whole reading is refused it is not for a full live list
pub data Ends {A : Type 0} (P : State → A → Type 0) (F : State → Type 0) : Out A → Type 0 where
  well : {s : State} {w : World} {a : A} → P s a → Ends P F (done s w a)
  ill : {s : State} {w : World} {f : Fault} → F s → Ends P F (failed (fault s w f))
  cut : {n : ℕ} → (n ≡ 11 → ⊥) → Ends P F (failed (refused n))

module _ {A : Type 0} {P : State → A → Type 0} {F : State → Type 0} where
  pub branch : (b : Bool) {x y : Out A} → (b ≡ true → Ends P F x) → (b ≡ false → Ends P F y) → Ends P F (elim b as (λ _. Out A) [ true ↦ x | false ↦ y ])
  branch true f g = f refl
  branch false f g = g refl

  pub not_full : {o : Out A} {n : ℕ} → Ends P F o → o ≡ failed (refused n) → n ≡ 11 → ⊥
  not_full h q = by (subst (λ o. Ends P F o) q h)
    where
      by : {n : ℕ} → Ends P F (failed (refused n)) → n ≡ 11 → ⊥
      by (cut p) = p

pub weaken : {A : Type 0} {P Q : State → A → Type 0} {F G : State → Type 0} {o : Out A} → Ends P F o → ((s : State) (a : A) → P s a → Q s a) → ((s : State) → F s → G s) → Ends Q G o
weaken (well p) f g = well (f _ _ p)
weaken (ill h) f g = ill (g _ h)
weaken (cut n) f g = cut n

module _ {A B : Type 0} {P : State → A → Type 0} {Q : State → B → Type 0} {F G : State → Type 0} where
  pub then : {o : Out A} {k : State → World → A → Out B} → Ends P F o → ((s : State) → F s → G s) → ((s : State) (w : World) (a : A) → P s a → Ends Q G (k s w a)) → Ends Q G (bind o k)
  then (well p) g f = f _ _ _ p
  then (ill h) g f = ill (g _ h)
  then (cut n) g f = cut n

  pub either : {o : Out A} {k : State → World → A → Out B} {back : State → World → Fault → Out B} → Ends P F o → ((s : State) (w : World) (a : A) → P s a → Ends Q G (k s w a)) → ((s : State) (w : World) (f : Fault) → F s → Ends Q G (back s w f)) → Ends Q G (or_else o k back)
  either (well p) f g = f _ _ _ p
  either (ill h) f g = g _ _ _ h
  either (cut n) f g = cut n

-- no trivia stands here
pub record Settled (e : Sheet) (s : State) : Type 0 where
  pub calm : is_trivia (kind_at e.tokens s.at) ≡ false

pub settled-by : {e : Sheet} {s s1 : State} → s1.at ≡ s.at → Settled e s → Settled e s1
settled-by {e} q h = record { calm = ap (λ i. is_trivia (kind_at e.tokens i)) q ∙ h.calm }

-- the live list at the end of a rule that began at s: where it is known that a token was passed, and where it is not
pub data Kept (N : ℕ) (s s1 : State) (a m b : ℕ) : Bool → Type 0 where
  taken : s1.live ≤ N + m → Kept N s s1 a m b true
  fresh : s1.live ≤ N + b → Kept N s s1 a m b false
  same : s1.at ≡ s.at → s1.live ≤ s.live + a → Kept N s s1 a m b false

-- the answers that tell that a token was passed: none, each, or those on which a loop goes on
abbrev pub none : {A : Type 0} → A → Bool
none x = false

abbrev pub all : {A : Type 0} → A → Bool
all x = true

abbrev pub going : {A : Type 0} → Next A → Bool
going (more x) = true
going (stop x) = false

-- where the answer tells that a token was passed there are at most m kinds above the base, otherwise as said; of a fault f is what b is; and
-- nowhere on the way behind a token are there more than j
pub record Bounded (e : Sheet) (N : ℕ) {A : Type 0} (φ : A → Bool) (a m b f j : ℕ) (r : Rule A) : Type 0 where
  pub ends : (s : State) (w : World) → Settled e s → s.live + a ≤ live_room → N + j ≤ live_room → Ends (λ s1 x. Settled e s1 × Kept N s s1 a m b (φ x)) (λ s1. Settled e s1 × Kept N s s1 a 0 f false) (r s w)

-- a rule that may pass no token; one that passes a token where it is done; a turn of a loop
abbrev pub Adds : (e : Sheet) (N : ℕ) {A : Type 0} → ℕ → ℕ → ℕ → ℕ → Rule A → Type 0
Adds e N a b f j r = Bounded e N none a 0 b f j r

abbrev pub Takes : (e : Sheet) (N : ℕ) {A : Type 0} → ℕ → ℕ → ℕ → ℕ → Rule A → Type 0
Takes e N a m f j r = Bounded e N all a m 0 f j r

abbrev pub Turns : (e : Sheet) (N : ℕ) {A : Type 0} → ℕ → ℕ → ℕ → ℕ → ℕ → Rule (Next A) → Type 0
Turns e N a m b f j r = Bounded e N going a m b f j r

module _ {N : ℕ} {s : State} where
  pub loosen : {a m b a1 m1 b1 : ℕ} {c : Bool} {s1 : State} → a ≤ a1 → m ≤ m1 → b ≤ b1 → Kept N s s1 a m b c → Kept N s s1 a1 m1 b1 c
  loosen p q r (taken l) = taken (omega arith)
  loosen p q r (fresh l) = fresh (omega arith)
  loosen p q r (same t l) = same t (omega arith)

  -- whatever the answer tells
  pub anyway : {a m : ℕ} (c : Bool) {s1 : State} → s1.live ≤ N + m → Kept N s s1 a m m c
  anyway true l = taken l
  anyway false l = fresh l

  -- one end and then another
  pub later : {a1 m1 b1 a2 m2 b2 : ℕ} {c : Bool} {s1 s2 : State} → Kept N s s1 a1 m1 b1 false → Kept N s1 s2 a2 m2 b2 c → Kept N s s2 (a1 + a2) m2 (max (b1 + a2) b2) c
  later p (taken l) = taken l
  later p (fresh l) = fresh (omega arith)
  later (fresh k) (same q l) = fresh (omega arith)
  later (same t k) (same q l) = same (q ∙ t) (omega arith)

  pub later-room : (a2 : ℕ) {a1 m1 b1 n : ℕ} {s1 : State} → Kept N s s1 a1 m1 b1 false → s.live + (a1 + a2) ≤ n → N + (b1 + a2) ≤ n → s1.live + a2 ≤ n
  later-room a2 (fresh k) p q = omega arith
  later-room a2 (same t k) p q = omega arith

  pub at_most : {a m b : ℕ} {s1 : State} → Kept N s s1 a m b true → s1.live ≤ N + m
  at_most (taken l) = l

  -- behind a token
  pub behind : (n : ℕ) {a m b : ℕ} {s1 : State} → s.live ≤ N + n → Kept N s s1 a m b false → s1.live ≤ N + max (n + a) b
  behind n h (fresh l) = omega arith
  behind n h (same q l) = omega arith

  -- for an answer that tells nothing m is no matter, and for one that tells b is not
  pub without-m : {a m b : ℕ} {s1 : State} → Kept N s s1 a m b false → Kept N s s1 a 0 b false
  without-m (fresh l) = fresh l
  without-m (same q l) = same q l

  without-b : {a m b : ℕ} {s1 : State} → Kept N s s1 a m b true → Kept N s s1 a m 0 true
  without-b (taken l) = taken l

  untold : {a m b : ℕ} {c : Bool} {s1 : State} → Kept N s s1 a m b c → Kept N s s1 a 0 (max m b) false
  untold (taken l) = fresh (omega arith)
  untold (fresh l) = fresh (omega arith)
  untold (same q l) = same q (omega arith)

pub left-of : (x y : ℕ) → x ≤ max x y
left-of x y = omega arith

pub right_of : (x y : ℕ) → y ≤ max x y
right_of x y = omega arith

higher : (c : ℕ) {N M : ℕ} {s s1 : State} {a m b m1 b1 : ℕ} {d : Bool} → N + c ≤ M → m ≤ c + m1 → b ≤ c + b1 → Kept N s s1 a m b d → Kept M s s1 a m1 b1 d
higher c h p q (taken l) = taken (omega arith)
higher c h p q (fresh l) = fresh (omega arith)
higher c h p q (same t l) = same t l

module _ {e : Sheet} {N : ℕ} where
  module _ {A : Type 0} where
    -- larger numbers
    pub eased : {φ : A → Bool} {a m b f j a1 m1 b1 f1 j1 : ℕ} {r : Rule A} → Bounded e N φ a m b f j r → a ≤ a1 → m ≤ m1 → b ≤ b1 → f ≤ f1 → j ≤ j1 → Bounded e N φ a1 m1 b1 f1 j1 r
    eased x p q u t v = record { ends = λ s w h g k. weaken (x.ends s w h (omega arith) (omega arith)) (λ s1 _ z. (z.0, loosen p q u z.1)) (λ s1 z. (z.0, loosen p (le_refl _) t z.1)) }

    pub fits : {φ : A → Bool} {a m b f j a1 m1 b1 f1 j1 : ℕ} {r : Rule A} → Bounded e N φ a m b f j r → leb a a1 ≡ true → leb m m1 ≡ true → leb b b1 ≡ true → leb f f1 ≡ true → leb j j1 ≡ true → Bounded e N φ a1 m1 b1 f1 j1 r
    fits x p q u t v = eased x (leb-true _ _ p) (leb-true _ _ q) (leb-true _ _ u) (leb-true _ _ t) (leb-true _ _ v)

    pub adds : {a m b f j a1 b1 f1 j1 : ℕ} {r : Rule A} → Bounded e N none a m b f j r → leb a a1 ≡ true → leb b b1 ≡ true → leb f f1 ≡ true → leb j j1 ≡ true → Adds e N a1 b1 f1 j1 r
    adds x p q t v = fits (record { ends = λ s w h g k. weaken (x.ends s w h g k) (λ s1 _ z. (z.0, without-m z.1)) (λ s1 z. z) }) p refl q t v

    pub takes : {a m b f j a1 m1 f1 j1 : ℕ} {r : Rule A} → Bounded e N all a m b f j r → leb a a1 ≡ true → leb m m1 ≡ true → leb f f1 ≡ true → leb j j1 ≡ true → Takes e N a1 m1 f1 j1 r
    takes x p q t v = fits (record { ends = λ s w h g k. weaken (x.ends s w h g k) (λ s1 _ z. (z.0, without-b z.1)) (λ s1 z. z) }) p q refl t v

    -- what the answer tells is forgotten
    pub forget : {φ : A → Bool} {a m b f j : ℕ} {r : Rule A} → Bounded e N φ a m b f j r → Adds e N a (max m b) f j r
    forget x = record { ends = λ s w h g k. weaken (x.ends s w h g k) (λ s1 y z. (z.0, untold z.1)) (λ s1 z. z) }

    -- the same of a rule that passes a token
    pub passed : {a m b f j : ℕ} {r : Rule A} → Bounded e N all a m b f j r → Adds e N a m f j r
    passed x = record { ends = λ s w h g k. weaken (x.ends s w h g k) (λ s1 y z. (z.0, fresh (at_most z.1))) (λ s1 z. z) }

    pub gives : {a : A} → Adds e N 0 0 0 0 (give a)
    gives = record { ends = λ s w h g k. well (h, same refl (omega arith)) }

    pub stops : {a : A} → Turns e N 0 0 0 0 0 (give (stop a))
    stops = record { ends = λ s w h g k. well (h, same refl (omega arith)) }

    pub refuses : {φ : A → Bool} {a m b f j n : ℕ} → (n ≡ 11 → ⊥) → Bounded e N φ a m b f j (refuse n)
    refuses p = record { ends = λ s w h g k. cut p }

    -- the one rule or the other
    pub ifs : {φ : A → Bool} {a m b f j a1 m1 b1 f1 j1 : ℕ} {r q : Rule A} (c : Bool) → Bounded e N φ a m b f j r → Bounded e N φ a1 m1 b1 f1 j1 q → Bounded e N φ (max a a1) (max m m1) (max b b1) (max f f1) (max j j1) (if_so r q c)
    ifs true x y = eased x (left-of _ _) (left-of _ _) (left-of _ _) (left-of _ _) (left-of _ _)
    ifs false x y = eased y (right_of _ _) (right_of _ _) (right_of _ _) (right_of _ _) (right_of _ _)

    -- above a higher base, where the base is higher by c
    pub lifted : (c : ℕ) {M : ℕ} {φ : A → Bool} {a m b f j m1 b1 f1 j1 : ℕ} {r : Rule A} → N + c ≤ M → Bounded e N φ a m b f j r → leb m (c + m1) ≡ true → leb b (c + b1) ≡ true → leb f (c + f1) ≡ true → leb j (c + j1) ≡ true → Bounded e M φ a m1 b1 f1 j1 r
    lifted c {M} {j = j} {j1 = j1} l x p q t v = record {
      ends = λ s w h g k. let i : j ≤ c + j1 = leb-true _ _ v in weaken (x.ends s w h g (omega arith)) (λ s1 _ z. (z.0, higher c l (leb-true _ _ p) (leb-true _ _ q) z.1)) (λ s1 z. (z.0, higher c l (omega arith) (leb-true _ _ t) z.1));
    }
