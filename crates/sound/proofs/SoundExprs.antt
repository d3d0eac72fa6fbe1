-- Expressions: the claim of a rule that answers one with its form, and of a loop that makes more of one; operators of a level or higher.
use Rattle.std.specs.Prelude.{Some, None, Option}
use mathlib.Core.Path.{◌≡◌, refl, sym, ap, ◌∙◌}
use mathlib.Core.List.{List, ◌∷◌}
use mathlib.Core.Bool.{true, false}
use Prim.Native.Nat.{ℕ, suc, ◌+◌, ◌*◌, ◌≤◌}
use lib.ListN.{length}
use Rattle.cursor.specs.declared.State.{State}
use Rattle.cursor.specs.declared.Label.{Label}
use Rattle.cursor.specs.Sheet.{Sheet, kind_at, range_at, Ranged}
use Rattle.cursor.specs.Layout.{node_words}
use Rattle.cursor.specs.Node as node
use Rattle.cursor.specs.Rule.{World, Next, more}
use Rattle.cursor.specs.Records.{write, flagged}
use Rattle.cursor.specs.Tree.{Trees, tree}
use Rattle.cursor.proofs.Stack.{Entry, whole, Stack}
use Rattle.types.specs.Patterns.{span_of as range_of}
use Rattle.parts.specs.declared.values.Called.{Called}
use Rattle.parts.specs.declared.values.Expr.{Expr}
use Rattle.parts.specs.declared.values.Expr.TheVariants as exprs
use Rattle.parts.specs.Values.{link_of}
use Rattle.parts.specs.Steps.{checked_type, type_checked, type_check_at, type_check}
use Rattle.grammar.specs.Places.{Place, kind_of, span_of, start_of, after}
use Rattle.grammar.specs.Symbols.{Form, Name, NameMember, Call, Other, Sym}
use Rattle.grammar.specs.Derives.{Derives}
use Rattle.grammar.specs.Builders.{blank, only, some}
use Rattle.grammar.specs.Shape.{shape}
use Rattle.sound.proofs.Links.{place_at, Settled, kind-place}
use Rattle.sound.proofs.Sound.{Spot, at, Seq, ◌▸◌, Gave, EndsBy, Sound, gives, reads, binds, going}
use Rattle.sound.proofs.SoundSteps.{Bumped, bumped, bump-sound, unexpected-sound, span-place}
use Rattle.sound.proofs.SoundValues.{labelled, Closed, closed, close-sound}

abbrev pub form_of : Expr → Form
form_of (exprs.Name link) = Name
form_of (exprs.NameMember link) = NameMember
form_of (exprs.Call link called) = Call
form_of (exprs.Other link) = Other

-- what an answer says of its record besides the link: of a Call, its last child, behind which handlers may still join, and its flags
pub data Fits : Expr → ℕ → Label → Trees → Type 0 where
  fits-name : {a last : ℕ} {l : Label} {ks : Trees} → Fits (exprs.Name a) last l ks
  fits-member : {a last : ℕ} {l : Label} {ks : Trees} → Fits (exprs.NameMember a) last l ks
  fits-other : {a last : ℕ} {l : Label} {ks : Trees} → Fits (exprs.Other a) last l ks
  fits-call : {a last : ℕ} {l : Label} {ks : Trees} {called : Called} → called.kids.last ≡ last → called.kids.count ≡ 0 → l.flags ≡ flagged called.arguments 0 called.lambda false → some ks ≡ true → Fits (exprs.Call a called) last l ks

-- the same of a Call by name
pub record CallFits (called : Called) (last : ℕ) (l : Label) (ks : Trees) : Type 0 where
  pub behind : called.kids.last ≡ last
  pub uncounted : called.kids.count ≡ 0
  pub flags : l.flags ≡ flagged called.arguments 0 called.lambda false
  pub kids : some ks ≡ true

pub call_fits : {a last : ℕ} {l : Label} {ks : Trees} {called : Called} → Fits (exprs.Call a called) last l ks → CallFits called last l ks
call_fits (fits-call o c f h) = record { behind = o; uncounted = c; flags = f; kids = h }

-- an expression on the stack
pub record Held (ys : List ℕ) (m lo last : ℕ) (x : Expr) (l : Label) (ks : Trees) (es : List Entry) : Type 0 where
  pub fits : Fits x last l ks
  pub stack : Stack ys m (whole lo (link_of x) last l ks ∷ es)

-- a derivation of y in the answer's form, whose shape is one tree; that tree stands on the stack behind the answer's link
pub data Expressed (text : List ℕ) (y : Form → Sym) : Spot → Spot → Expr → Type 0 where
  expressed : {p q : Place} {n m last : ℕ} {xs ys : List ℕ} {x : Expr} {l : Label} {ks : Trees} (d : Derives text (y (form_of x)) p q) → shape d 0 blank ≡ only (tree l ks)
      → ((es : List Entry) → Stack xs n es → Held ys m n last x l ks es) → Expressed text y (at p n xs) (at q m ys) x

-- what a tree on the stack has become, whose derivation starts at `from`
pub record Onward {text : List ℕ} {y : Sym} {p q : Place} (d : Derives text y p q) (from : ℕ) (x z : Expr) (xs ys : List ℕ) (n m last : ℕ) (l : Label) (ks : Trees) : Type 0 where
  pub last-now : ℕ
  pub label-now : Label
  pub kids-now : Trees
  pub same : shape d from (only (tree l ks)) ≡ only (tree label-now kids-now)
  pub push : (lo : ℕ) (es : List Entry) → Held xs n lo last x l ks es → Held ys m lo last-now z label-now kids-now es

-- a derivation of what goes on from an expression x, whatever its tree is
pub data Grown (text : List ℕ) (y : Form → Form → Sym) (from : ℕ) (x : Expr) : Spot → Spot → Expr → Type 0 where
  grown : {p q : Place} {n m : ℕ} {xs ys : List ℕ} {z : Expr} (d : Derives text (y (form_of x) (form_of z)) p q) → ((last : ℕ) (l : Label) (ks : Trees) → Onward d from x z xs ys n m last l ks) → Grown text y from x (at p n xs) (at q m ys) z

-- a production of an expression and of what goes on from it, which starts where the expression does
pub record Headed (text : List ℕ) (head all : Form → Sym) (rest : Form → Form → Sym) : Type 0 where
  pub both : {f g : Form} {p q r : Place} → Derives text (head f) p q → Derives text (rest f g) q r → Derives text (all g) p r
  pub both_is : {f g : Form} {p q r : Place} (d : Derives text (head f) p q) (b : Derives text (rest f g) q r) → shape (both d b) 0 blank ≡ shape b (start_of p) (shape d 0 blank)

-- what has grown onto an expression is one with it
pub onto : {text : List ℕ} {head all : Form → Sym} {rest : Form → Form → Sym} {p q : Place} {n m last : ℕ} {xs ys : List ℕ} {x z : Expr} {l : Label} {ks : Trees} {v : Spot} → Headed text head all rest → (d : Derives text (head (form_of x)) p q)
    → shape d 0 blank ≡ only (tree l ks) → ((es : List Entry) → Stack xs n es → Held ys m n last x l ks es) → Grown text rest (start_of p) x (at q m ys) v z → Expressed text all (at p n xs) v z
onto {p = p} {last = last} {l = l} {ks = ks} h d s g (grown b k) =
    let o = k last l ks in
    expressed (h.both d b) (h.both_is d b ∙ ap (λ z. shape b (start_of p) z) s ∙ o.same) (λ es st. o.push _ es (g es st))

module _ (e : Sheet) where
  -- behind `is`
  pub data Tested (from : ℕ) (x : Expr) : Spot → Spot → Next Expr → Type 0 where
    tested : {p q : Place} {n word : ℕ} {xs : List ℕ} → checked_type e.text (kind_of p) (span_of p) ≡ Some word → after p ≡ q → node_words * suc n ≤ length xs
        → Tested from x (at p n xs) (at q (n + 1) (write xs n (labelled node.TypeCheck from word (start_of p) 0 q) (link_of x))) (more (exprs.Other (n + 1)))

  module _ (from : ℕ) (x : Expr) where
    test_by : (s : State) (w : World) → Settled e.tokens s → (r : Ranged) (c : Option ℕ) → range_of r ≡ span_of (place_at e.tokens s) → checked_type e.text (kind_of (place_at e.tokens s)) (span_of (place_at e.tokens s)) ≡ c
        → EndsBy e (Tested from x) s w (type_checked e from x (range_of r) c s w)
    unfolding type_checked
    test_by s w h r (Some k) a q = reads e (binds e (bump-sound e) (λ _. binds e (close-sound e node.TypeCheck from k (range_of r).start 0 (link_of x)) (λ link. gives e))) h (λ y b c. go (range_of r).start (ap (λ z. z.start) (sym a)) q c)
      where
        go : {p : Place} {n : ℕ} {xs : List ℕ} {y : Spot} {b : Next Expr} (begin : ℕ) → start_of p ≡ begin → checked_type e.text (kind_of p) (span_of p) ≡ Some k
            → Seq Bumped (λ _. Seq (Closed node.TypeCheck from k begin 0 (link_of x)) (λ link. Gave (more (exprs.Other link)))) (at p n xs) y b → Tested from x (at p n xs) y b
        go begin u v (bumped t ▸ closed o ▸ g) = going (Tested from x _) g (rw (← u) (tested v t o))
    test_by s w h r None a q = (unexpected-sound e).ends s w h

    test_at : (s : State) (w : World) → Settled e.tokens s → (r : Ranged) → range_at e.tokens s.at ≡ r → EndsBy e (Tested from x) s w (type_check_at e from x (kind_at e.tokens s.at) r s w)
    unfolding type_check_at
    test_at s w h (Some r) q =
        let a = span-place e s h ∙ ap range_of q in
        test_by s w h (Some r) _ (sym a) (λ i. checked_type e.text (kind-place e.tokens s h i) (a i))
    test_at s w h None q = (unexpected-sound e).ends s w h

    pub test-sound : Sound e (Tested from x) (type_check e from x)
    unfolding type_check
    test-sound = record { ends = λ s w h. test_at s w h _ refl }
