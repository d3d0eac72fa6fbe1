-- The claims of cursor's rules: what they take and see, and what they write.
use Rattle.std.specs.Prelude.{Some, None}
use mathlib.Core.Path.{◌≡◌, refl, sym, ap, ◌∙◌, subst}
use mathlib.Core.List.{List, [], ◌∷◌}
use mathlib.Core.Bool.{Bool, true, false}
use Prim.Native.Nat.{ℕ, zero, suc, ◌+◌, ◌*◌, ◌/◌, ◌<◌, ◌≤◌, min}
use native.Mathlib.Omega.{arith}
use lib.ListN.{length}
use lib.Dec.{ltb, eqb}
use borrow.Author.Tests.{eqb-true, eqb-false, ltb-true, ltb-false}
use Rattle.kinds.specs.Number as kind
use Rattle.cursor.specs.declared.State.{State}
use Rattle.cursor.specs.declared.Kids.{Kids}
use Rattle.cursor.specs.declared.Label.{Label}
use Rattle.cursor.specs.Sheet.{Sheet, count, kind_at, range_at, Ranged}
use Rattle.cursor.specs.Layout.{node_words, node_limit}
use Rattle.cursor.specs.Rule.{World, Rule, Next, more, stop}
use Rattle.cursor.specs.Tokens.{past_trivia, eat_trivia, bump, eol_turn, eat_eol}
use Rattle.cursor.specs.Checks.{live_room, want, check, eat, unexpected, expect, eat_range, Case, ◌⇒◌, choose}
use Rattle.cursor.specs.Records.{write, append, add, reflag}
use Rattle.cursor.proofs.Ends.{well, ill, cut, branch, weaken}
use Rattle.cursor.proofs.TokenPaths.{there, range-in, eol-takes}
use Rattle.cursor.proofs.RecordPaths.{linked, added, add_is}
use Rattle.cursor.proofs.Stacked.{reflagged}
use Rattle.types.specs.Patterns.{span_of as range_of}
use Rattle.grammar.specs.Places.{Place, span_in, kind_of, span_of, after, Tok, Here, Not}
use Rattle.grammar.specs.Symbols.{Eols}
use Rattle.grammar.specs.Derives.{Derives, no-eol, an-eol}
use Rattle.sound.proofs.Links.{view, view-settle, view-token, view-past, calm-settle, place_at, Settled, kind-place, after-place}
use Rattle.sound.proofs.Sound.{Spot, at, Claim, Seq, ◌▸◌, Gave, gave, If, Nothing, Star, halt, turn, spot, came-refl, holds, Sound, gives, maps, reads, ifs, binds, loops}

-- one token further
pub data Bumped : Spot → Spot → Unit {0} → Type 0 where
  bumped : {p q : Place} {n : ℕ} {xs : List ℕ} → after p ≡ q → Bumped (at p n xs) (at q n xs) tt

-- over a token of this kind
pub data Took (k : ℕ) : Spot → Spot → Unit {0} → Type 0 where
  took : {p q : Place} {n : ℕ} {xs : List ℕ} → Tok k p q → Took k (at p n xs) (at q n xs) tt

-- over it where it stands here, and not where it does not
pub data Ate (k : ℕ) : Spot → Spot → Bool → Type 0 where
  yes-ate : {p q : Place} {n : ℕ} {xs : List ℕ} → Tok k p q → Ate k (at p n xs) (at q n xs) true
  not-ate : {p : Place} {n : ℕ} {xs : List ℕ} → Not k p → Ate k (at p n xs) (at p n xs) false

-- the same, where its range is the answer
pub data Ranges (k : ℕ) : Spot → Spot → Ranged → Type 0 where
  ranges : {p q : Place} {n : ℕ} {xs : List ℕ} → Tok k p q → Ranges k (at p n xs) (at q n xs) (Some (span_of p))
  no-range : {p : Place} {n : ℕ} {xs : List ℕ} → Not k p → Ranges k (at p n xs) (at p n xs) None

-- is it here?
pub data Saw (k : ℕ) : Spot → Spot → Bool → Type 0 where
  yes-saw : {p : Place} {n : ℕ} {xs : List ℕ} → Here k p → Saw k (at p n xs) (at p n xs) true
  not-saw : {p : Place} {n : ℕ} {xs : List ℕ} → Not k p → Saw k (at p n xs) (at p n xs) false

-- a chain of checks: where this kind stands here the one, and where it does not the other
pub data Way {A : Type 0} (k : ℕ) (X Y : Claim A) : Spot → Spot → A → Type 0 where
  this-one : {p : Place} {n : ℕ} {xs : List ℕ} {v : Spot} {a : A} → Here k p → X (at p n xs) v a → Way k X Y (at p n xs) v a
  later-one : {p : Place} {n : ℕ} {xs : List ℕ} {v : Spot} {a : A} → Not k p → Y (at p n xs) v a → Way k X Y (at p n xs) v a

-- past all Eols
pub data Lined (text : List ℕ) : Spot → Spot → Unit {0} → Type 0 where
  lined : {p q : Place} {n : ℕ} {xs : List ℕ} → Derives text Eols p q → Lined text (at p n xs) (at q n xs) tt

more-lines : {text : List ℕ} {p q : Place} {n : ℕ} {xs : List ℕ} {y : Spot} {b : Unit {0}} → Tok kind.Eol p q → Lined text (at q n xs) y b → Lined text (at p n xs) y b
more-lines t (lined d) = lined (an-eol t d)

-- what a turn of those does
data EolTurn : Spot → Spot → Next (Unit {0}) → Type 0 where
  one-eol : {p q : Place} {n : ℕ} {xs : List ℕ} → Tok kind.Eol p q → EolTurn (at p n xs) (at q n xs) (more tt)
  last-eol : {p : Place} {n : ℕ} {xs : List ℕ} → Not kind.Eol p → EolTurn (at p n xs) (at p n xs) (stop tt)

-- all as it was
pub data Stood : Spot → Spot → Unit {0} → Type 0 where
  stood : {x : Spot} → Stood x x tt

-- a record more, for which there was room
pub data Appended (l : Label) (first : ℕ) : Spot → Spot → ℕ → Type 0 where
  appended : {p : Place} {n : ℕ} {xs : List ℕ} → node_words * suc n ≤ length xs → Appended l first (at p n xs) (at p (n + 1) (write xs n l first)) (n + 1)

-- one more in a row
pub data Added (k : Kids) (link : ℕ) : Spot → Spot → Kids → Type 0 where
  added-to : {p : Place} {n : ℕ} {xs : List ℕ} → Added k link (at p n xs) (at p n (linked xs k.last link)) (added k link)

-- what holds of a row with one more in it holds where a rule has come to that
pub adding : {k j : Kids} {link n : ℕ} {p : Place} {xs : List ℕ} {v : Spot} (P : Spot → Kids → Type 0) → Added k link (at p n xs) v j → P (at p n (linked xs k.last link)) (added k link) → P v j
adding P added-to z = z

-- other flags
pub data Reflagged (link flags : ℕ) : Spot → Spot → Unit {0} → Type 0 where
  flags_of : {p : Place} {n : ℕ} {xs : List ℕ} → Reflagged link flags (at p n xs) (at p n (reflagged xs link flags)) tt

-- there is room for a record more
fits : (n len : ℕ) → n < min (len / node_words) node_limit → node_words * suc n ≤ len
fits n len h = omega arith

pub append-sound : (e : Sheet) (l : Label) (first : ℕ) → Sound e (Appended l first) (append l first)
unfolding append
append-sound e l first = record { ends = λ s w h. branch (ltb s.nodes (min (length w.nodes / node_words) node_limit)) (λ q. well (holds e (record { settled = h.settled }) refl (appended (fits _ _ (ltb-true _ _ q))))) (λ _. cut) }

pub add-sound : (e : Sheet) (k : Kids) (link : ℕ) → Sound e (Added k link) (add k link)
add-sound e k link = record { ends = λ s w h. rw (add_is k link s w) (well (holds e h refl added-to)) }

pub reflag-sound : (e : Sheet) (link flags : ℕ) → Sound e (Reflagged link flags) (reflag link flags)
unfolding reflag
reflag-sound e zero flags = record { ends = λ s w h. well (holds e h refl flags_of) }
reflag-sound e (suc i) flags = record { ends = λ s w h. well (holds e h refl flags_of) }

module _ (e : Sheet) where
  -- where the rules stand at no trivia, kinds are what the grammar sees
  sees : {s : State} {k : ℕ} → Settled e.tokens s → kind_at e.tokens s.at ≡ k → kind_of (place_at e.tokens s) ≡ k
  sees h q = kind-place e.tokens _ h ∙ q

  misses : {s : State} {k : ℕ} → Settled e.tokens s → (kind_at e.tokens s.at ≡ k → ⊥) → Not k (place_at e.tokens s)
  misses h n = record { differs = λ q. n (sym (kind-place e.tokens _ h) ∙ q) }

  -- past the last token one stays there
  pub after-end : (s : State) → length e.tokens / 3 ≤ s.at → after (place_at e.tokens s) ≡ place_at e.tokens s
  unfolding after
  after-end s q = rw (view-past e.tokens s.at q) refl

  pub bump-sound : Sound e Bumped (bump e)
  unfolding bump count
  bump-sound = record {
    ends = λ s w h. branch (ltb s.at (count e.tokens))
        (λ q. branch (ltb s.reads e.limits.allowance) (λ _. well (holds e (record { settled = calm-settle e.tokens (s.at + 1) }) refl (bumped (after-place e.tokens s h (ltb-true _ _ q))))) (λ _. cut))
        (λ q. well (holds e (record { settled = h.settled }) refl (bumped (after-end s (ltb-false _ _ q)))));
  }

  -- an expected kind more
  want-sound : (k : ℕ) → Sound e Stood (want k)
  unfolding want
  want-sound k = record { ends = λ s w h. branch (ltb s.live live_room) (λ _. well (holds e (record { settled = h.settled }) refl stood)) (λ _. cut) }

  pub check_sound : (k : ℕ) → Sound e (Saw k) (check e k)
  unfolding check
  check_sound k = record {
    ends = λ s w h. branch (eqb (kind_at e.tokens s.at) k) (λ q. well (holds e h refl (yes-saw (record { stands = sees h (eqb-true _ _ q) }))))
        (λ q. weaken ((binds e (want-sound k) (λ _. gives e {a = false})).ends s w h) (λ s1 w1 b p. record { came = p.came; fact = λ z. missed (misses h (eqb-false _ _ q)) (p.fact z) }) (λ _ _ _ p. p));
  }
    where
      missed : {p : Place} {n : ℕ} {xs : List ℕ} {y : Spot} {b : Bool} → Not k p → Seq Stood (λ _. Gave false) (at p n xs) y b → Saw k (at p n xs) y b
      missed n (stood ▸ gave) = not-saw n

  pub eat-sound : (k : ℕ) → Sound e (Ate k) (eat e k)
  unfolding eat
  eat-sound k = maps e (λ x y b c. go c) (binds e (check_sound k) (λ here. ifs e here (binds e bump-sound (λ _. gives e)) (gives e)))
    where
      go : {x y : Spot} {b : Bool} → Seq (Saw k) (λ here. If here (Seq Bumped (λ _. Gave true)) (Gave false)) x y b → Ate k x y b
      go (yes-saw h ▸ bumped q ▸ gave) = yes-ate (record { here = h.stands; next = q })
      go (not-saw n ▸ gave) = not-ate n

  pub unexpected-sound : {A : Type 0} {X : Claim A} → Sound e X (unexpected e)
  unfolding unexpected
  unexpected-sound = record { ends = λ s w h. ill (came-refl e h) }

  pub expect-sound : (k : ℕ) → Sound e (Took k) (expect e k)
  unfolding expect
  expect-sound k = maps e (λ x y b c. go c) (binds e (eat-sound k) (λ here. ifs e here (gives e) (unexpected-sound {X = Nothing})))
    where
      go : {x y : Spot} {b : Unit {0}} → Seq (Ate k) (λ here. If here (Gave tt) Nothing) x y b → Took k x y b
      go (yes-ate t ▸ gave) = took t
      go (not-ate n ▸ q) = absurd q

  -- the range of the token here
  pub span-place : (s : State) → Settled e.tokens s → span_of (place_at e.tokens s) ≡ range_of (range_at e.tokens s.at)
  unfolding span_of range_at count
  span-place s h = go (ltb s.at (length e.tokens / 3)) refl
    where
      go : (b : Bool) → ltb s.at (length e.tokens / 3) ≡ b → span_of (place_at e.tokens s) ≡ range_of (range_at e.tokens s.at)
      go true q = rw (q, range_at) (ap span_in (view-token e.tokens _ (ltb-true _ _ q) h.settled))
      go false q = rw (q, range_at) (ap span_in (view-past e.tokens _ (ltb-false _ _ q)))

  -- where the input has not ended the token here has one
  pub range-place : (s : State) (k : ℕ) → (k ≡ kind.Eof → ⊥) → Settled e.tokens s → kind_of (place_at e.tokens s) ≡ k → range_at e.tokens s.at ≡ Some (span_of (place_at e.tokens s))
  range-place s k n h q =
      let r = range-in e.tokens s.at (there e.tokens s.at (λ z. n (sym q ∙ kind-place e.tokens s h ∙ z))) in
      r ∙ ap Some (sym (span-place s h ∙ ap range_of r))

  pub eat-range-sound : (k : ℕ) → (k ≡ kind.Eof → ⊥) → Sound e (Ranges k) (eat_range e k)
  unfolding eat_range
  eat-range-sound k n = record { ends = λ s w h. reads e (binds e (check_sound k) (λ here. ifs e here (binds e bump-sound (λ _. gives e)) (gives e))) h (λ y a c. go (range-place s k n h) c) }
    where
      go : {p : Place} {m : ℕ} {xs : List ℕ} {y : Spot} {r a : Ranged} → (kind_of p ≡ k → r ≡ Some (span_of p)) → Seq (Saw k) (λ here. If here (Seq Bumped (λ _. Gave r)) (Gave None)) (at p m xs) y a → Ranges k (at p m xs) y a
      go {p} {m} {xs} f (yes-saw h ▸ bumped {q = q} t ▸ gave) = subst (λ z. Ranges k (at p m xs) (at q m xs) z) (sym (f h.stands)) (ranges (record { here = h.stands; next = t }))
      go f (not-saw h ▸ gave) = no-range h

  -- what a chain of checks claims: of its first way and of the others, and where there is none, of what is left
  pub record Chain {A : Type 0} (X : Claim A) (cases : List (Case A)) (other : Rule A) : Type 0 where
    pub sound : Sound e X (choose e cases other)

  pub way : {A : Type 0} {X Y : Claim A} {k : ℕ} {r other : Rule A} {cases : List (Case A)} → Sound e X r → Chain Y cases other → Chain (Way k X Y) ((k ⇒ r) ∷ cases) other
  unfolding choose
  way {A} {X} {Y} {k} x y = record { sound = maps e (λ u v a c. go c) (binds e (check_sound k) (λ here. ifs e here x y.sound)) }
    where
      go : {u v : Spot} {a : A} → Seq (Saw k) (λ here. If here X Y) u v a → Way k X Y u v a
      go (yes-saw h ▸ c) = this-one h c
      go (not-saw h ▸ c) = later-one h c

  pub otherwise : {A : Type 0} {X : Claim A} {other : Rule A} → Sound e X other → Chain X [] other
  unfolding choose
  otherwise x = record { sound = x }

  pub chooses : {A : Type 0} {X : Claim A} (cases : List (Case A)) {other : Rule A} → Chain X cases other → Sound e X (choose e cases other)
  chooses cases x = x.sound

  -- Eols: each turn takes one, or none stands here
  eol-sound : (a : Unit {0}) → Sound e (λ x y n. EolTurn x y n) (eol_turn e a)
  unfolding eol_turn
  eol-sound a = record {
    ends = λ s w h. branch (eqb (kind_at e.tokens s.at) kind.Eol)
        (λ q. weaken ((binds e bump-sound (λ _. gives e {a = more tt})).ends s w h) (λ s1 w1 b p. record { came = p.came; fact = λ z. one (sees h (eqb-true _ _ q)) (p.fact z) }) (λ _ _ _ p. p))
        (λ q. well (holds e h refl (last-eol (misses h (eqb-false _ _ q)))));
  }
    where
      one : {p : Place} {n : ℕ} {xs : List ℕ} {y : Spot} {b : Next (Unit {0})} → kind_of p ≡ kind.Eol → Seq Bumped (λ _. Gave (more tt)) (at p n xs) y b → EolTurn (at p n xs) y b
      one h (bumped q ▸ gave) = one-eol (record { here = h; next = q })

  -- at no trivia there is none to pass
  trivia-sound : Sound e Stood (eat_trivia e)
  unfolding eat_trivia
  trivia-sound = record { ends = λ s w h. well (holds e (record { settled = calm-settle e.tokens s.at }) refl (still s w)) }
    where
      still : (s : State) (w : World) → Stood (spot e s w) (at (record { prev = s.prev; rest = view e.tokens (past_trivia e.tokens s.at) }) s.nodes w.nodes) tt
      still s w = rw (view-settle e.tokens s.at) stood

  pub eat-eol-sound : Sound e (Lined e.text) (eat_eol e)
  unfolding eat_eol
  eat-eol-sound = maps e (λ x y b c. go c) (binds e trivia-sound (λ _. loops e (eol-takes e) eol-sound tt))
    where
      all : {x y : Spot} {a b : Unit {0}} → Star (λ _. EolTurn) a x y b → Lined e.text x y b
      all (halt (last-eol n)) = lined (no-eol n)
      all (turn (one-eol t) r) = more-lines t (all r)

      go : {x y : Spot} {b : Unit {0}} → Seq Stood (λ _. Star (λ _. EolTurn) tt) x y b → Lined e.text x y b
      go (stood ▸ r) = all r
