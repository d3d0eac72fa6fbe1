-- Values: a rule that answers the link to one tree. Where it starts, how its record is closed; literals and names.
use Rattle.std.specs.Prelude.{Some, None}
use mathlib.Core.Path.{◌≡◌, refl, sym, ap, ◌∙◌, subst}
use mathlib.Core.List.{List, [], ◌∷◌}
use mathlib.Core.Bool.{Bool, true, false, true≢false}
use Prim.Native.Nat.{ℕ, zero, suc, ◌+◌, ◌*◌, ◌/◌, ◌≤◌}
use native.Mathlib.Omega.{arith}
use native.Mathlib.Numerals.{add-one}
use lib.ListN.{length}
use lib.Dec.{ltb}
use borrow.Author.Tests.{ltb-true}
use Rattle.kinds.specs.Number as kind
use Rattle.cursor.specs.declared.State.{State}
use Rattle.cursor.specs.declared.Kids.{Kids}
use Rattle.cursor.specs.declared.Label.{Label}
use Rattle.cursor.specs.declared.Span.{Span}
use Rattle.cursor.specs.Sheet.{Sheet, count, kind_at, range_at, Ranged}
use Rattle.cursor.specs.Layout.{node_words}
use Rattle.cursor.specs.Node as node
use Rattle.cursor.specs.Rule.{World, world}
use Rattle.cursor.specs.Records.{write, no_kids}
use Rattle.cursor.specs.Tree.{Trees, none, join, tree}
use Rattle.cursor.proofs.Ends.{well, ill}
use Rattle.cursor.proofs.RecordPaths.{linked, added}
use Rattle.cursor.proofs.Stack.{Entry, whole, row, Stack, link-some}
use Rattle.cursor.proofs.Grows.{begin, wrap}
use Rattle.cursor.proofs.Stacked.{add-stack}
use Rattle.types.specs.declared.lits.Literal.{Literal}
use Rattle.types.specs.declared.lits.Literal.TheVariants as literals
use Rattle.types.specs.Lits.{leaf_label, literal, lit_from, lit_at, lit, ident_at, ident}
use Rattle.types.specs.Items.{start, close, pair, add_some, is_ended}
use Rattle.types.specs.Patterns.{span_of as range_of}
use Rattle.grammar.specs.Places.{Place, kind_of, span_of, start_of, after}
use Rattle.grammar.specs.Symbols.{Sym, Lit, Ident}
use Rattle.grammar.specs.Derives.{Derives, a-literal, an-ident}
use Rattle.grammar.specs.Builders.{Shape, blank, only, marked, unmarked}
use Rattle.grammar.specs.Shape.{shape}
use Rattle.sound.proofs.Links.{view-token, place_at, Settled, kind-place, start-place}
use Rattle.sound.proofs.Sound.{Spot, at, Seq, ◌▸◌, Gave, gave, spot, came-refl, holds, EndsBy, Sound, gives, maps, reads, binds}
use Rattle.sound.proofs.SoundSteps.{Bumped, bumped, Took, took, Appended, appended, Added, added-to, append-sound, add-sound, bump-sound, unexpected-sound, expect-sound, span-place}

-- a derivation of y, whose shape f makes of one tree; pushed on any stack that tree stands behind the answer
pub data Pushes (text : List ℕ) (y : Sym) (f : Trees → Shape) : Spot → Spot → ℕ → Type 0 where
  value : {p q : Place} {n m a last : ℕ} {xs ys : List ℕ} {l : Label} {ks : Trees} (d : Derives text y p q) → shape d 0 blank ≡ f (tree l ks) → ((es : List Entry) → Stack xs n es → Stack ys m (whole n a last l ks ∷ es))
      → Pushes text y f (at p n xs) (at q m ys) a

-- a value; a last item of a list that is one
abbrev pub Value : List ℕ → Sym → Spot → Spot → ℕ → Type 0
Value text y = Pushes text y only

abbrev pub Lastly : List ℕ → Sym → Spot → Spot → ℕ → Type 0
Lastly text y = Pushes text y (λ t. marked t unmarked)

-- the same, or a derivation of y without a tree and the answer 0
pub data Optional (text : List ℕ) (y : Sym) : Spot → Spot → ℕ → Type 0 where
  some-value : {x z : Spot} {a : ℕ} → Value text y x z a → Optional text y x z a
  no_value : {p q : Place} {n : ℕ} {xs : List ℕ} (d : Derives text y p q) → shape d 0 blank ≡ blank → Optional text y (at p n xs) (at q n xs) 0

-- a record over a row, and one more in a row, on a stack
pub wrapped : {xs : List ℕ} {n lo first last : ℕ} {ks : Trees} {es : List Entry} (l : Label) → Stack xs n (row lo first last ks ∷ es) → node_words * suc n ≤ length xs → Stack (write xs n l first) (n + 1) (whole lo (n + 1) last l ks ∷ es)
wrapped {xs} {n} {lo} {first} {last} {ks} {es} l st h = subst (λ m. Stack (write xs n l first) m (whole lo m last l ks ∷ es)) (sym (add-one n)) (wrap l st h)

pub joined : {xs : List ℕ} {n lo mid last : ℕ} {l : Label} {ts ks : Trees} {es : List Entry} (k : Kids) (link : ℕ) → Stack xs n (whole mid link last l ks ∷ row lo k.first k.last ts ∷ es) → Stack (linked xs k.last link) n (row lo (added k link).first link (join ts (tree l ks)) ∷ es)
joined {xs} {n} k link st = (add-stack k link (record { at = 0; prev = 0; reads = 0; nodes = n; errors = 0; wanted = 0; live = 0 }) (world xs [] [] []) st).stack

-- no tree stands behind the link 0
pub unlinked : {xs : List ℕ} {n lo last : ℕ} {l : Label} {ks : Trees} {es : List Entry} → Stack xs n (whole lo 0 last l ks ∷ es) → ⊥
unlinked st = let h = link-some st in omega (arith, h)

-- an entry by another label that is the same
pub relabel : {ys : List ℕ} {m lo a last : ℕ} {l k : Label} {ks : Trees} {es : List Entry} → l ≡ k → Stack ys m (whole lo a last l ks ∷ es) → Stack ys m (whole lo a last k ks ∷ es)
relabel {ys} {m} {lo} {a} {last} {ks = ks} {es} q st = subst (λ z. Stack ys m (whole lo a last z ks ∷ es)) q st

-- a row by other trees that are the same
pub retree : {ys : List ℕ} {m lo a b : ℕ} {ts us : Trees} {es : List Entry} → ts ≡ us → Stack ys m (row lo a b ts ∷ es) → Stack ys m (row lo a b us ∷ es)
retree {ys} {m} {lo} {a} {b} {es = es} q st = subst (λ z. Stack ys m (row lo a b z ∷ es)) q st

-- the start of what begins here
pub data Started : Spot → Spot → ℕ → Type 0 where
  started : {p : Place} {n : ℕ} {xs : List ℕ} → Started (at p n xs) (at p n xs) (start_of p)

abbrev pub labelled : ℕ → ℕ → ℕ → ℕ → ℕ → Place → Label
labelled k from one two flags p = record { kind = k; start = from; end = p.prev; one = one; two = two; flags = flags }

-- the record of what ends here
pub data Closed (k from one two flags first : ℕ) : Spot → Spot → ℕ → Type 0 where
  closed : {p : Place} {n : ℕ} {xs : List ℕ} → node_words * suc n ≤ length xs → Closed k from one two flags first (at p n xs) (at p (n + 1) (write xs n (labelled k from one two flags p) first)) (n + 1)

-- what holds of the spot behind that record and of its link holds where a rule has closed one
pub closing : {k from one two flags first : ℕ} {p : Place} {n a : ℕ} {xs : List ℕ} {v : Spot} (P : Spot → ℕ → Type 0) → Closed k from one two flags first (at p n xs) v a
    → (node_words * suc n ≤ length xs → P (at p (n + 1) (write xs n (labelled k from one two flags p) first)) (n + 1)) → P v a
closing P (closed o) f = f o

-- the record of two values: the second on the stack, and the first below it
pub data Paired (k from a b : ℕ) : Spot → Spot → ℕ → Type 0 where
  paired : {p : Place} {n m c : ℕ} {xs ys : List ℕ} → ((lo mid last : ℕ) (l : Label) (ts ks : Trees) (es : List Entry) → Stack xs n (whole mid b last l ks ∷ row lo a a ts ∷ es) → Stack ys m (whole lo c b (labelled k from 0 0 0 p) (join ts (tree l ks)) ∷ es))
      → Paired k from a b (at p n xs) (at p m ys) c

-- one more in a row, where there is one
pub data SomeAdded (kids : Kids) : ℕ → Spot → Spot → Kids → Type 0 where
  none-added : {x : Spot} → SomeAdded kids 0 x x kids
  some-added : {p : Place} {n i : ℕ} {xs : List ℕ} → SomeAdded kids (suc i) (at p n xs) (at p n (linked xs kids.last (suc i))) (added kids (suc i))

module _ (e : Sheet) where
  pub add-some-sound : (kids : Kids) (a : ℕ) → Sound e (SomeAdded kids a) (add_some kids a)
  unfolding add_some
  add-some-sound kids zero = maps e (λ x y k c. go c) (gives e)
    where
      go : {x y : Spot} {k : Kids} → Gave kids x y k → SomeAdded kids 0 x y k
      go gave = none-added
  add-some-sound kids (suc i) = maps e (λ x y k c. go c) (add-sound e kids (suc i))
    where
      go : {x y : Spot} {k : Kids} → Added kids (suc i) x y k → SomeAdded kids (suc i) x y k
      go added-to = some-added

  pub start-sound : Sound e Started (start e)
  unfolding start
  start-sound = record { ends = λ s w h. well (holds e h refl (subst (λ a. Started (spot e s w) (spot e s w) a) (start-place e.tokens s h) started)) }

  pub close-sound : (k from one two flags first : ℕ) → Sound e (Closed k from one two flags first) (close k from one two flags first)
  unfolding close
  close-sound k from one two flags first = record { ends = λ s w h. reads e (append-sound e _ first) h (λ y a c. go c) }
    where
      go : {p : Place} {n a : ℕ} {xs : List ℕ} {y : Spot} → Appended (labelled k from one two flags p) first (at p n xs) y a → Closed k from one two flags first (at p n xs) y a
      go (appended r) = closed r

  pub pair-sound : (k from a b : ℕ) → Sound e (Paired k from a b) (pair k from a b)
  unfolding pair
  pair-sound k from a b = maps e (λ x y c u. go u) (binds e (add-sound e no_kids a) (λ one. binds e (add-sound e one b) (λ two. close-sound k from 0 0 0 two.first)))
    where
      go : {x y : Spot} {c : ℕ} → Seq (Added no_kids a) (λ one. Seq (Added one b) (λ two. Closed k from 0 0 0 two.first)) x y c → Paired k from a b x y c
      go (added-to ▸ added-to ▸ closed r) = paired (λ lo mid last l ts ks es st. wrapped _ (joined (added no_kids a) b st) r)

  -- where the token here has a range, its end is the end before the next place
  end-place : (s : State) → Settled e.tokens s → is_ended (range_at e.tokens s.at) ≡ true → (after (place_at e.tokens s)).prev ≡ (range_of (range_at e.tokens s.at)).end
  unfolding after range_at count
  end-place s h r = go (ltb s.at (length e.tokens / 3)) refl r
    where
      go : (b : Bool) → ltb s.at (length e.tokens / 3) ≡ b → is_ended (range_at e.tokens s.at) ≡ true → (after (place_at e.tokens s)).prev ≡ (range_of (range_at e.tokens s.at)).end
      go true q r = rw (q, range_at) (rw (view-token e.tokens _ (ltb-true _ _ q) h.settled) refl)
      go false q r = absurd (true≢false (sym r ∙ (rw (q, range_at) refl)))

  -- names
  ident-at : (s : State) (w : World) → Settled e.tokens s → (r : Ranged) → range_at e.tokens s.at ≡ r → EndsBy e (Value e.text Ident) s w (ident_at e r s w)
  unfolding ident_at shape
  ident-at s w h (Some r) q =
      reads e (binds e (expect-sound e kind.Ident) (λ _. append-sound e (leaf_label node.Ident r 0) 0)) h (λ y a c. go (span-place e s h ∙ ap range_of q) (end-place s h (ap is_ended q) ∙ ap (λ z. (range_of z).end) q) c)
    where
      go : {p : Place} {n a : ℕ} {xs : List ℕ} {y : Spot} → span_of p ≡ r → (after p).prev ≡ r.end → Seq (Took kind.Ident) (λ _. Appended (leaf_label node.Ident r 0) 0) (at p n xs) y a → Value e.text Ident (at p n xs) y a
      go u v (took t ▸ appended f) = value (an-ident t) (λ i. only (tree (record { kind = node.Ident; start = (u i).start; end = (ap (λ z. z.prev) (sym t.next) ∙ v) i; one = 0; two = 0; flags = 0 }) none)) (λ es st. wrapped _ (begin st) f)
  ident-at s w h None q = (unexpected-sound e).ends s w h

  pub ident-sound : Sound e (Value e.text Ident) (ident e)
  unfolding ident
  ident-sound = record { ends = λ s w h. ident-at s w h _ refl }

  -- literals
  lit-from : (s : State) (w : World) → Settled e.tokens s → (r : Span) (l : Literal) → literal e.text (kind_of (place_at e.tokens s)) (span_of (place_at e.tokens s)) ≡ l → EndsBy e (Value e.text Lit) s w (lit_from e r l s w)
  unfolding lit_from shape
  lit-from s w h r (literals.Value l) q = reads e (binds e (bump-sound e) (λ _. append-sound e l 0)) h (λ y a c. go q c)
    where
      go : {p : Place} {n a : ℕ} {xs : List ℕ} {y : Spot} → literal e.text (kind_of p) (span_of p) ≡ literals.Value l → Seq Bumped (λ _. Appended l 0) (at p n xs) y a → Value e.text Lit (at p n xs) y a
      go u (bumped t ▸ appended f) = value (a-literal u t) refl (λ es st. wrapped l (begin st) f)
  lit-from s w h r (literals.Faulty n) q = ill (came-refl e h)
  lit-from s w h r literals.Nothing q = (unexpected-sound e).ends s w h

  lit-at : (s : State) (w : World) → Settled e.tokens s → (r : Ranged) → range_at e.tokens s.at ≡ r → EndsBy e (Value e.text Lit) s w (lit_at e (kind_at e.tokens s.at) r s w)
  unfolding lit_at
  lit-at s w h (Some r) q = lit-from s w h r _ (λ i. literal e.text (kind-place e.tokens s h i) ((span-place e s h ∙ ap range_of q) i))
  lit-at s w h None q = (unexpected-sound e).ends s w h

  pub lit-sound : Sound e (Value e.text Lit) (lit e)
  unfolding lit
  lit-sound = record { ends = λ s w h. lit-at s w h _ refl }
