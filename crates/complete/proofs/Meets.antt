-- Completeness: begun at a place where a derivation begins, a rule comes to the place where it ends, with no error, with exactly the
-- readings and records that the derivation costs, and then all of them and the levels that it needs were there; or the whole reading is refused, and
-- what was too small is told. It never ends in a fault.
--
-- `Meets e d p q c P r` says this of rule r from place p to place q, at a cost c, with d levels left; P holds of its answer. `Fails` is for an
-- attempt that has to fail: it tells what that costs.
use mathlib.Core.Path.{◌≡◌, refl, ◌∙◌}
use mathlib.Core.List.{List}
use Prim.Native.Nat.{ℕ, suc, ◌+◌, ◌<◌, ◌≤◌, max}
use native.Mathlib.Omega.{arith}
use lib.ListN.{length}
use Rattle.cursor.specs.declared.State.{State}
use Rattle.cursor.specs.declared.Fault.{Fault}
use Rattle.cursor.specs.Sheet.{Sheet}
use Rattle.cursor.specs.Rule.{World, fault, refused, Out, done, failed, Rule, Next, more, stop}
use Rattle.cursor.proofs.RecordPaths.{room_for}
use Rattle.grammar.specs.Places.{Place}
use Rattle.grammar.specs.Symbols.{Sym}
use Rattle.grammar.specs.Derives.{Derives}
use Rattle.complete.proofs.Cost.{cost}
use Rattle.complete.proofs.Records.{records}
use Rattle.complete.specs.Depth.{entered, need}
use Rattle.sound.proofs.Links.{place_at, Settled}

-- what a rule takes: readings, node records, and levels of depth
pub record Cost : Type 0 where
  pub reads : ℕ
  pub nodes : ℕ
  pub need : ℕ

-- one cost and then another
infixr 6 ◌⊕◌
abbrev pub ◌⊕◌ : Cost → Cost → Cost
◌⊕◌ a b = record { reads = a.reads + b.reads; nodes = a.nodes + b.nodes; need = max a.need b.need }

abbrev pub nothing : Cost
nothing = record { reads = 0; nodes = 0; need = 0 }

-- so many readings; one record
abbrev pub reading : ℕ → Cost
reading n = record { reads = n; nodes = 0; need = 0 }

abbrev pub building : Cost
building = record { reads = 0; nodes = 1; need = 0 }

-- one level further in
abbrev pub inside : Cost → Cost
inside c = record { reads = c.reads; nodes = c.nodes; need = suc c.need }

-- behind an attempt that was undone: its readings stay, its records do not, and what is read instead needs no fewer levels
abbrev pub undone : Cost → Cost → Cost
undone a b = record { reads = a.reads + b.reads; nodes = b.nodes; need = b.need }

-- what a derivation costs, and what it costs as an item of a list or where its rule is entered one level further in
abbrev pub cost_of : {text : List ℕ} {y : Sym} {p q : Place} → Derives text y p q → Cost
cost_of d = record { reads = cost d; nodes = records d; need = need d }

abbrev pub item_cost : {text : List ℕ} {y : Sym} {p q : Place} → Derives text y p q → Cost
item_cost {y = y} d = record { reads = cost d; nodes = records d; need = entered y (need d) }

-- the same of one whose rule needs no level
abbrev pub flat_cost : {text : List ℕ} {y : Sym} {p q : Place} → Derives text y p q → Cost
flat_cost d = record { reads = cost d; nodes = records d; need = 0 }

-- nothing is said of an answer
abbrev pub Any : {A : Type 0} → A → Type 0
Any a = Unit {0}

-- a turn goes on, or stops, with such a value
pub data Goes {A : Type 0} (P : A → Type 0) : Next A → Type 0 where
  goes : {a : A} → P a → Goes P (more a)

pub data Stops {A : Type 0} (P : A → Type 0) : Next A → Type 0 where
  stops : {a : A} → P a → Stops P (stop a)

module _ (e : Sheet) where
  -- where a rule has come to with d levels, and that allowance, room and levels were enough for it
  pub record Arrived (d : ℕ) (q : Place) (c : Cost) (s : State) (w : World) (s1 : State) (w1 : World) : Type 0 where
    pub calm : Settled e.tokens s1
    pub place : place_at e.tokens s1 ≡ q
    pub errors : s1.errors ≡ s.errors
    pub wanted : s1.wanted ≡ s.wanted
    pub reads : s1.reads ≡ s.reads + c.reads
    pub paid : s1.reads ≤ max s.reads e.limits.allowance
    pub nodes : s1.nodes ≡ s.nodes + c.nodes
    pub housed : s1.nodes ≤ max s.nodes (room_for w)
    pub deep : c.need ≤ d
    pub long : length w1.nodes ≡ length w.nodes

  -- what was too small, by the number of the refusal. Of the live list nothing more is told than that it is full
  pub data Lacks (d : ℕ) (c : Cost) (s : State) (w : World) : ℕ → Type 0 where
    few-nodes : room_for w < s.nodes + c.nodes → Lacks d c s w 7
    few-levels : d < c.need → Lacks d c s w 9
    few-reads : e.limits.allowance < s.reads + c.reads → Lacks d c s w 10
    full : Lacks d c s w 11

  pub data EndsAt {A : Type 0} (d : ℕ) (c : Cost) (q : Place) (P : A → Type 0) (s : State) (w : World) : Out A → Type 0 where
    arrives : {s1 : State} {w1 : World} {a : A} → Arrived d q c s w s1 w1 → P a → EndsAt d c q P s w (done s1 w1 a)
    short : {n : ℕ} → Lacks d c s w n → EndsAt d c q P s w (failed (refused n))

  pub record Meets {A : Type 0} (d : ℕ) (p q : Place) (c : Cost) (P : A → Type 0) (r : Rule A) : Type 0 where
    pub runs : (s : State) (w : World) → Settled e.tokens s → place_at e.tokens s ≡ p → EndsAt d c q P s w (r s w)

  -- a rule reads whatever is derived of a symbol
  pub record Reads {A : Type 0} (d : ℕ) (y : Sym) (r : Rule A) : Type 0 where
    pub meets : {p q : Place} (D : Derives e.text y p q) → Meets d p q (item_cost D) Any r

  -- a fault, after the readings of a cost; it may have come to need as many records and levels
  pub data FailsAt {A : Type 0} (d : ℕ) (c : Cost) (s : State) (w : World) : Out A → Type 0 where
    faulty : {s1 : State} {w1 : World} {f : Fault} → s1.reads ≡ s.reads + c.reads → s1.reads ≤ max s.reads e.limits.allowance → length w1.nodes ≡ length w.nodes → FailsAt d c s w (failed (fault s1 w1 f))
    lacking : {n : ℕ} → Lacks d c s w n → FailsAt d c s w (failed (refused n))

  pub record Fails {A : Type 0} (d : ℕ) (p : Place) (c : Cost) (r : Rule A) : Type 0 where
    pub fails : (s : State) (w : World) → Settled e.tokens s → place_at e.tokens s ≡ p → FailsAt d c s w (r s w)

module _ {e : Sheet} {d : ℕ} where
  -- what was too small for the one is too small for what takes no less
  pub lacks : {c c1 : Cost} {s s1 : State} {w w1 : World} {n : ℕ} → s.reads + c.reads ≤ s1.reads + c1.reads → s.nodes + c.nodes ≤ s1.nodes + c1.nodes → c.need ≤ c1.need → length w.nodes ≡ length w1.nodes
      → Lacks e d c s w n → Lacks e d c1 s1 w1 n
  lacks p q r l (few-nodes h) = few-nodes (omega arith)
  lacks p q r l (few-levels h) = few-levels (omega arith)
  lacks p q r l (few-reads h) = few-reads (omega arith)
  lacks p q r l full = full

  -- the first of two costs is too small
  pub lacks-first : {a : Cost} (b : Cost) {s : State} {w : World} {n : ℕ} → Lacks e d a s w n → Lacks e d (a ⊕ b) s w n
  lacks-first b l = lacks (omega arith) (omega arith) (omega arith) refl l

  -- the second is
  pub lacks-later : {a b : Cost} {q : Place} {s s1 : State} {w w1 : World} {n : ℕ} → Arrived e d q a s w s1 w1 → Lacks e d b s1 w1 n → Lacks e d (a ⊕ b) s w n
  lacks-later x l = lacks (omega (arith, x.reads)) (omega (arith, x.nodes)) (omega arith) x.long l

-- nothing was taken
pub remains : {e : Sheet} {d : ℕ} {p : Place} {s s1 : State} {w w1 : World} → Settled e.tokens s1 → place_at e.tokens s1 ≡ p → s1.errors ≡ s.errors → s1.wanted ≡ s.wanted → s1.reads ≡ s.reads → s1.nodes ≡ s.nodes → length w1.nodes ≡ length w.nodes
    → Arrived e d p nothing s w s1 w1
remains h z f x g i l = record { calm = h; place = z; errors = f; wanted = x; reads = omega (arith, g); paid = omega (arith, g); nodes = omega (arith, i); housed = omega (arith, i); deep = omega arith; long = l }

pub stays : {e : Sheet} {d : ℕ} {p : Place} {s : State} {w : World} → Settled e.tokens s → place_at e.tokens s ≡ p → Arrived e d p nothing s w s w
stays h z = remains h z refl refl refl refl refl

pub arrived-trans : {e : Sheet} {d : ℕ} {a b : Cost} {q v : Place} {s s1 s2 : State} {w w1 w2 : World} → Arrived e d q a s w s1 w1 → Arrived e d v b s1 w1 s2 w2 → Arrived e d v (a ⊕ b) s w s2 w2
arrived-trans x y = record { calm = y.calm; place = y.place; errors = y.errors ∙ x.errors; wanted = y.wanted ∙ x.wanted; reads = omega (arith, x.reads, y.reads); paid = omega (arith, x.paid, y.paid); nodes = omega (arith, x.nodes, y.nodes); housed = omega (arith, x.housed, y.housed, x.long); deep = omega (arith, x.deep, y.deep); long = y.long ∙ x.long }
