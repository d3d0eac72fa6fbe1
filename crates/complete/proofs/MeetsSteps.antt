-- What cursor's rules meet: the rules alone, and as steps before the rest of a rule, as its text has them.
use Rattle.std.specs.Prelude.{Some, None}
use mathlib.Core.Path.{◌≡◌, refl, sym, ap, ◌∙◌, subst}
use mathlib.Core.List.{List, [], ◌∷◌}
use mathlib.Core.Bool.{Bool, true, false}
use Prim.Native.Nat.{ℕ, zero, suc, ◌+◌, ◌/◌, ◌<◌, ◌≤◌}
use native.Mathlib.Omega.{arith}
use lib.ListN.{length}
use lib.Dec.{ltb, eqb}
use borrow.Author.Tests.{eqb-true, eqb-false, ltb-true, ltb-false}
use Rattle.kinds.specs.Number as kind
use Rattle.cursor.specs.declared.State.{State}
use Rattle.cursor.specs.declared.Kids.{Kids}
use Rattle.cursor.specs.declared.Label.{Label}
use Rattle.cursor.specs.Sheet.{Sheet, count, kind_at, Ranged}
use Rattle.cursor.specs.Rule.{World, Out, Rule, ◌>>=◌, ◌>>◌, if_so, iterate}
use Rattle.cursor.specs.Tokens.{past_trivia, eat_trivia, bump, eol_turn, eat_eol}
use Rattle.cursor.specs.Checks.{live_room, want, check, eat, unexpected, expect, eat_range, Case, ◌⇒◌, choose}
use Rattle.cursor.specs.Records.{append, add, reflag}
use Rattle.cursor.proofs.Chosen.{kinds_of}
use Rattle.cursor.proofs.RecordPaths.{room_for, linked, added, add_is}
use Rattle.cursor.proofs.TokenPaths.{eol-takes}
use Rattle.cursor.proofs.Writes.{put-length, write-length}
use Rattle.grammar.specs.Places.{Place, kind_of, span_of, after, Tok, Here, Not, Free, from-none, from_all}
use Rattle.grammar.specs.Symbols.{Eols}
use Rattle.grammar.specs.Derives.{Derives, no-eol, an-eol}
use Rattle.grammar.proofs.Tests.{at-token}
use Rattle.sound.proofs.Links.{view, view-settle, view-token, view-past, calm-settle, place_at, Settled, kind-place, after-place}
use Rattle.sound.proofs.SoundSteps.{after-end, range-place}
use Rattle.complete.proofs.Cost.{taken_in, taken, costs, cost}
use Rattle.complete.proofs.Meets.{Cost, ◌⊕◌, nothing, reading, building, Any, Goes, Stops, stops, full, few-nodes, few-reads, EndsAt, arrives, short, remains, Meets, Fails, faulty, stays}
use Rattle.complete.proofs.MeetsBinds.{gives, answers, answers-more, yes-so, not_so, fits, next, turn_more, turn-stop}
use Rattle.complete.proofs.MeetsFails.{fails-later, fails-fit}

-- the rule that a chain of checks comes to where this kind stands
abbrev pub rule_for : {A : Type 0} → ℕ → List (Case A) → Rule A → Rule A
rule_for k [] other = other
rule_for {A} k ((j ⇒ r) ∷ cases) other = elim (eqb k j) as (λ _. Rule A) [ true ↦ r | false ↦ rule_for k cases other ]

module _ {e : Sheet} {A : Type 0} {d : ℕ} {c : Cost} {q : Place} {P : A → Type 0} {s : State} {w : World} where
  -- by a test
  pub ends-if : (b : Bool) {x y : Out A} → (b ≡ true → EndsAt e d c q P s w x) → (b ≡ false → EndsAt e d c q P s w y) → EndsAt e d c q P s w (elim b as (λ _. Out A) [ true ↦ x | false ↦ y ])
  ends-if true f g = f refl
  ends-if false f g = g refl

module _ {e : Sheet} {A B : Type 0} {d : ℕ} {p q v : Place} {c : Cost} {P : A → Type 0} {Q : B → Type 0} {r : Rule A} {k : A → Rule B} where
  -- a step that costs nothing, then a rule
  pub after_none : Meets e d p q nothing P r → ((x : A) → P x → Meets e d q v c Q (k x)) → Meets e d p v c Q (r >>= k)
  after_none x y = fits (omega arith) (omega arith) (omega arith) (next x y)

  -- a rule, then a step that costs nothing
  pub before-none : Meets e d p q c P r → ((x : A) → P x → Meets e d q v nothing Q (k x)) → Meets e d p v c Q (r >>= k)
  before-none x y = fits (omega arith) (omega arith) (omega arith) (next x y)

-- a token is one reading, the end of input none
module _ (e : Sheet) (s : State) where
  taken_here : Settled e.tokens s → s.at < length e.tokens / 3 → taken (place_at e.tokens s) ≡ 1
  taken_here h l = ap taken_in (view-token e.tokens s.at l h.settled)

  taken-end : length e.tokens / 3 ≤ s.at → taken (place_at e.tokens s) ≡ 0
  taken-end l = ap taken_in (view-past e.tokens s.at l)

linked-length : (xs : List ℕ) (n link : ℕ) → length (linked xs n link) ≡ length xs
linked-length xs zero link = refl
linked-length xs (suc i) link = put-length xs _ link

-- the rules alone
module _ {e : Sheet} {d : ℕ} where
  bump_at : (s : State) (w : World) → Settled e.tokens s → EndsAt e d (reading (taken (place_at e.tokens s))) (after (place_at e.tokens s)) Any s w (bump e s w)
  unfolding bump count
  bump_at s w h = ends-if (ltb s.at (count e.tokens))
      (λ q. let l = ltb-true s.at (count e.tokens) q in let t = taken_here e s h l in ends-if (ltb s.reads e.limits.allowance)
      (λ f. let g = ltb-true s.reads e.limits.allowance f in arrives (record { calm = record { settled = calm-settle e.tokens (s.at + 1) }; place = sym (after-place e.tokens s h l); errors = refl; wanted = refl; reads = omega (arith, t); paid = omega (arith, g); nodes = omega arith; housed = omega arith; deep = omega arith; long = refl }) tt)
      (λ f. let g = ltb-false s.reads e.limits.allowance f in short (few-reads (omega (arith, t, g)))))
      (λ q. let l = ltb-false s.at (count e.tokens) q in let f : s.reads ≡ s.reads + taken (place_at e.tokens s) = omega (arith, taken-end e s l) in let g : s.nodes ≡ s.nodes + 0 = omega arith in
      arrives (record { calm = record { settled = h.settled }; place = sym (after-end e s l); errors = refl; wanted = refl; reads = f; paid = omega arith; nodes = g; housed = omega arith; deep = omega arith; long = refl }) tt)

  pub bump_meets : {p q : Place} → after p ≡ q → Meets e d p q (reading (taken p)) Any (bump e)
  bump_meets {p} t = record { runs = λ s w h z. subst (λ y. EndsAt e d (reading (taken p)) y Any s w (bump e s w)) t (subst (λ x. EndsAt e d (reading (taken x)) (after x) Any s w (bump e s w)) z (bump_at s w h)) }

  pub unexpected-fails : {A : Type 0} {p : Place} → Fails e d p nothing (unexpected {A = A} e)
  unfolding unexpected
  unexpected-fails = record { fails = λ s w h z. let f : s.reads ≡ s.reads + 0 = omega arith in faulty f (omega arith) refl }

  module _ {p : Place} (k : ℕ) where
    want-meets : Meets e d p p nothing Any (want k)
    unfolding want
    want-meets = record { runs = λ s w h z. ends-if (ltb s.live live_room) (λ _. arrives (remains (record { settled = h.settled }) z refl refl refl refl refl) tt) (λ _. short full) }

    pub check-yes : Here k p → Meets e d p p nothing (λ b. b ≡ true) (check e k)
    unfolding check
    check-yes g = record { runs = λ s w h z. ends-if (eqb (kind_at e.tokens s.at) k) (λ _. arrives (stays h z) refl) (λ f. absurd (eqb-false _ _ f (sym (kind-place e.tokens s h) ∙ ap kind_of z ∙ g.stands))) }

    pub check-not : Not k p → Meets e d p p nothing (λ b. b ≡ false) (check e k)
    unfolding check
    check-not g = record {
      runs = λ s w h z. ends-if (eqb (kind_at e.tokens s.at) k) (λ f. absurd (g.differs (sym (ap kind_of z) ∙ kind-place e.tokens s h ∙ eqb-true _ _ f)))
          (λ _. (after_none want-meets (λ _ _. gives {P = λ b. b ≡ false} refl)).runs s w h z);
    }

    pub eat-yes : {q : Place} → Tok k p q → Meets e d p q (reading (taken p)) (λ b. b ≡ true) (eat e k)
    unfolding eat
    eat-yes t = after_none (check-yes (at-token t)) (λ b f. yes-so _ f (before-none (bump_meets t.next) (λ _ _. gives refl)))

    pub eat-not : Not k p → Meets e d p p nothing (λ b. b ≡ false) (eat e k)
    unfolding eat
    eat-not n = after_none (check-not n) (λ b f. not_so _ f (gives refl))

    pub expect_meets : {q : Place} → Tok k p q → Meets e d p q (reading (taken p)) Any (expect e k)
    unfolding expect
    expect_meets t = before-none (eat-yes t) (λ b f. yes-so _ f answers)

    -- where another kind stands it fails at once
    pub expect-fails : Not k p → Fails e d p nothing (expect e k)
    unfolding expect
    expect-fails n = fails-fit (omega arith) (omega arith) (omega arith) (fails-later {b = nothing} (eat-not n) (λ b f. rw f unexpected-fails))

    pub range-yes : {q : Place} → (k ≡ kind.Eof → ⊥) → Tok k p q → Meets e d p q (reading (taken p)) (λ r. r ≡ Some (span_of p)) (eat_range e k)
    unfolding eat_range
    range-yes n t = record {
      runs = λ s w h z. (after_none (check-yes (at-token t)) (λ b f. yes-so _ f (before-none (bump_meets t.next)
          (λ _ _. gives {P = λ r. r ≡ Some (span_of p)} (range-place e s k n h (ap kind_of z ∙ t.here) ∙ ap (λ x. Some (span_of x)) z))))).runs s w h z;
    }

    pub range-not : Not k p → Meets e d p p nothing (λ r. r ≡ None) (eat_range e k)
    unfolding eat_range
    range-not n = record { runs = λ s w h z. (after_none (check-not n) (λ b f. not_so _ f (gives {P = λ r. r ≡ None} refl))).runs s w h z }

  -- records: one more, or one more child in a row, or other flags
  pub append-meets : {p : Place} (l : Label) (first : ℕ) → Meets e d p p building Any (append l first)
  unfolding append
  append-meets l first = record {
    runs = λ s w h z. ends-if (ltb s.nodes (room_for w))
        (λ q. arrives (record { calm = record { settled = h.settled }; place = z; errors = refl; wanted = refl; reads = omega arith; paid = omega arith; nodes = refl; housed = omega (arith, ltb-true s.nodes (room_for w) q); deep = omega arith; long = write-length w.nodes s.nodes l first }) tt)
        (λ q. short (few-nodes (omega (arith, ltb-false s.nodes (room_for w) q))));
  }

  pub add_meets : {p : Place} (kids : Kids) (link : ℕ) → Meets e d p p nothing (λ k. k ≡ added kids link) (add kids link)
  add_meets kids link = record { runs = λ s w h z. rw (add_is kids link s w) (arrives (remains h z refl refl refl refl (linked-length w.nodes kids.last link)) refl) }

  pub reflag-meets : {p : Place} (link flags : ℕ) → Meets e d p p nothing Any (reflag link flags)
  unfolding reflag
  reflag-meets zero flags = record { runs = λ s w h z. arrives (stays h z) tt }
  reflag-meets (suc i) flags = record { runs = λ s w h z. arrives (remains h z refl refl refl refl (put-length w.nodes _ flags)) tt }

  -- all Eols here
  trivia-meets : {p : Place} → Meets e d p p nothing Any (eat_trivia e)
  unfolding eat_trivia
  trivia-meets {p} = record { runs = λ s w h z. arrives (remains (record { settled = calm-settle e.tokens s.at }) (still s ∙ z) refl refl refl refl refl) tt }
    where
      still : (s : State) → ◌≡◌ {A = Place} (record { prev = s.prev; rest = view e.tokens (past_trivia e.tokens s.at) }) (place_at e.tokens s)
      still s = rw (view-settle e.tokens s.at) refl

  eol-on : (a : Unit {0}) {p q : Place} → Tok kind.Eol p q → Meets e d p q (reading (taken p)) (Goes Any) (eol_turn e a)
  unfolding eol_turn
  eol-on a t = record {
    runs = λ s w h z. ends-if (eqb (kind_at e.tokens s.at) kind.Eol) (λ _. (before-none (bump_meets t.next) (λ _ _. answers-more)).runs s w h z)
        (λ f. absurd (eqb-false _ _ f (sym (kind-place e.tokens s h) ∙ ap kind_of z ∙ t.here)));
  }

  eol-off : (a : Unit {0}) {p : Place} → Not kind.Eol p → Meets e d p p nothing (Stops Any) (eol_turn e a)
  unfolding eol_turn
  eol-off a n = record { runs = λ s w h z. ends-if (eqb (kind_at e.tokens s.at) kind.Eol) (λ f. absurd (n.differs (sym (ap kind_of z) ∙ kind-place e.tokens s h ∙ eqb-true _ _ f))) (λ _. arrives (stays h z) (stops tt)) }

  eols : {p q : Place} (D : Derives e.text Eols p q) (a : Unit {0}) → Meets e d p q (reading (cost D)) Any (iterate e (eol_turn e) a)
  unfolding costs
  eols (no-eol n) a = turn-stop _ _ (eol-off a n)
  eols (an-eol t D) a = fits (omega arith) (omega arith) (omega arith) (turn_more (eol-takes e) (eol-on a t) (λ b _. eols D b))

  pub eols-meet : {p q : Place} (D : Derives e.text Eols p q) → Meets e d p q (reading (cost D)) Any (eat_eol e)
  unfolding eat_eol
  eols-meet D = after_none trivia-meets (λ _ _. eols D tt)

-- the same as steps, before the rest of a rule. A test is one together with the two rules that it decides between
module _ {e : Sheet} {B : Type 0} {d : ℕ} {p v : Place} {c : Cost} {Q : B → Type 0} where
  module _ {q : Place} {r : Rule B} where
    pub bumps : after p ≡ q → Meets e d q v c Q r → Meets e d p v (reading (taken p) ⊕ c) Q (bump e >> r)
    bumps t x = next (bump_meets t) (λ _ _. x)

    pub expects : {k : ℕ} → Tok k p q → Meets e d q v c Q r → Meets e d p v (reading (taken p) ⊕ c) Q (expect e k >> r)
    expects t x = next (expect_meets _ t) (λ _ _. x)

    pub lines : (D : Derives e.text Eols p q) → Meets e d q v c Q r → Meets e d p v (reading (cost D) ⊕ c) Q (eat_eol e >> r)
    lines D x = next (eols-meet D) (λ _ _. x)

  -- the rule that is not taken is written first, as `_` where the goal tells it
  module _ {k : ℕ} {r : Rule B} (t : Rule B) where
    pub here : Here k p → Meets e d p v c Q r → Meets e d p v c Q (check e k >>= if_so r t)
    here h x = after_none (check-yes k h) (λ b f. yes-so t f x)

    pub eats : {q : Place} → Tok k p q → Meets e d q v c Q r → Meets e d p v (reading (taken p) ⊕ c) Q (eat e k >>= if_so r t)
    eats h x = next (eat-yes k h) (λ b f. yes-so t f x)

  module _ {k : ℕ} (r : Rule B) {t : Rule B} where
    pub not-here : Not k p → Meets e d p v c Q t → Meets e d p v c Q (check e k >>= if_so r t)
    not-here h x = after_none (check-not k h) (λ b f. not_so r f x)

    pub eats-not : Not k p → Meets e d p v c Q t → Meets e d p v c Q (eat e k >>= if_so r t)
    eats-not h x = after_none (eat-not k h) (λ b f. not_so r f x)

  -- what follows is written first, as `_` likewise
  module _ {k : ℕ} (f : Ranged → Rule B) where
    pub ranges : {q : Place} → (k ≡ kind.Eof → ⊥) → Tok k p q → Meets e d q v c Q (f (Some (span_of p))) → Meets e d p v (reading (taken p) ⊕ c) Q (eat_range e k >>= f)
    ranges n h x = next (range-yes k n h) (λ r g. rw g x)

    pub ranges-not : Not k p → Meets e d p v c Q (f None) → Meets e d p v c Q (eat_range e k >>= f)
    ranges-not h x = after_none (range-not k h) (λ r g. rw g x)

  -- a chain of checks comes to the rule for the kind that stands here: `rule_for` computes where that is a numeral. What is left is written as `_` likewise
  by_kind : (cases : List (Case B)) (other : Rule B) → Meets e d p v c Q (rule_for (kind_of p) cases other) → Meets e d p v c Q (choose e cases other)
  unfolding choose
  by_kind [] other x = x
  by_kind ((k ⇒ r) ∷ cases) other x = go (eqb (kind_of p) k) refl (λ y. by_kind cases other y) x
    where
      go : (b : Bool) → eqb (kind_of p) k ≡ b → (Meets e d p v c Q (rule_for (kind_of p) cases other) → Meets e d p v c Q (choose e cases other)) → Meets e d p v c Q (elim b as (λ _. Rule B) [ true ↦ r | false ↦ rule_for (kind_of p) cases other ])
          → Meets e d p v c Q (check e k >>= if_so r (choose e cases other))
      go true q f x = here _ (record { stands = eqb-true _ _ q }) x
      go false q f x = not-here _ (record { differs = eqb-false _ _ q }) (f x)

  pub chooses : {k : ℕ} (cases : List (Case B)) (other : Rule B) → kind_of p ≡ k → Meets e d p v c Q (rule_for k cases other) → Meets e d p v c Q (choose e cases other)
  chooses cases other h x = by_kind cases other (subst (λ k. Meets e d p v c Q (rule_for k cases other)) (sym h) x)

  -- none of its kinds
  pub chooses_none : (cases : List (Case B)) {other : Rule B} → Free (kinds_of cases) p → Meets e d p v c Q other → Meets e d p v c Q (choose e cases other)
  unfolding choose
  chooses_none [] from-none x = x
  chooses_none ((k ⇒ r) ∷ cases) (from_all n h) x = not-here _ n (chooses_none cases h x)

  -- one more child in a row
  pub adds : (kids : Kids) (link : ℕ) {f : Kids → Rule B} → ((k : Kids) → Meets e d p v c Q (f k)) → Meets e d p v c Q (add kids link >>= f)
  adds kids link x = after_none (add_meets kids link) (λ k _. x k)
