-- What the statements in a row add to the live list. A statement that failed is skipped up to Eol, Eof or the end of the statements, and what
-- is expected there is added too. The next turn then goes on past an Eol only, with an empty list; and a turn that begins with a longer list
-- does not begin at Eof, and so passes a token before it comes to stop there. So the list does not grow from one turn to the next.
use mathlib.Core.Path.{◌≡◌, refl, sym, ap, ◌∙◌, subst}
use mathlib.Core.List.{List, [], ◌∷◌}
use mathlib.Core.Bool.{Bool, true, false}
use Prim.Native.Nat.{ℕ, zero, suc, ◌+◌, ◌-◌, ◌≤◌}
use native.Mathlib.Nat.{le_refl, le_trans}
use native.Mathlib.Omega.{arith}
use lib.ListN.{length}
use Rattle.kinds.specs.Number as kind
use Rattle.cursor.specs.declared.State.{State}
use Rattle.cursor.specs.declared.Kids.{Kids}
use Rattle.cursor.specs.Sheet.{Sheet, count, kind_at}
use Rattle.cursor.specs.Rule.{World, Rule, ◌>>=◌, give, if_so, Next, more, stop, next, turns, iterate}
use Rattle.cursor.specs.Tokens.{past_trivia, eat_trivia, eol_turn, eat_eol}
use Rattle.cursor.specs.Checks.{live_room, Case, ◌⇒◌, choose}
use Rattle.cursor.specs.Attempts.{unbuilt, recover}
use Rattle.cursor.specs.Records.{no_kids}
use Rattle.cursor.proofs.Chosen.{kinds_of, Every, all, ◌&◌, each}
use Rattle.parts.specs.Recovery.{skip_cases, skip_turn, skip, skipped, after_stmt}
use Rattle.rules.specs.Inner.{Inner}
use Rattle.rules.specs.Exprs.{stmt_or, exprs_turn, exprs}
use Rattle.live.proofs.Live.{Ends, well, weaken, then, either, Settled, settled-by, Kept, fresh, same, at_most, Adds, adds}
use Rattle.live.proofs.Together.{binds}
use Rattle.live.proofs.Cursor.{calm-past, Checked, found, other, check-tells, bump-tells, eols-bounded, eat-eol-bounded, log-still}
use Rattle.live.proofs.Lines.{Eaten, ate, missed, After, closed, over, lined, unlined, stands, eat-tells, after-stmt-tells}
use Rattle.live.proofs.Handed.{Handed}
use Rattle.live.proofs.Stmts.{stmt-bounded}

-- a kind is none of these
abbrev None : ℕ → List ℕ → Type 0
None k [] = Unit {0}
None k (j ∷ ks) = (k ≡ j → ⊥) × None k ks

-- where what is left of a statement is skipped to
abbrev ends_at : ℕ → List ℕ
ends_at end = kind.Eol ∷ kind.Eof ∷ end ∷ []

-- what was skipped: some token, or none, and then one of those kinds stands here
data Skipped (end k : ℕ) (s s1 : State) : Type 0 where
  some : s1.live ≤ 3 → Skipped end k s s1
  nothing : (None k (ends_at end) → ⊥) → s1.at ≡ s.at → s1.live ≤ s.live + 3 → Skipped end k s s1

-- how a rule ends that begins at the place i with at most n kinds on the list
abbrev From : {A : Type 0} (P : State → A → Type 0) (i n : ℕ) → Rule A → Type 0
From P i n r = (s : State) (w : World) → s.at ≡ i → s.live ≤ n → Ends P (λ _. ⊥) (r s w)

module _ (e : Sheet) where
  -- a chain of checks: the way of a kind that stands here, or the other rule where none of its kinds does
  choose-tells : {A : Type 0} {P : State → A → Type 0} {i k n : ℕ} (cases : List (Case A)) {other : Rule A} → kind_at e.tokens i ≡ k → n ≤ live_room → Every (λ r. (None k (kinds_of cases) → ⊥) → From P i n r) cases → (None k (kinds_of cases) → From P i n other)
      → (s : State) (w : World) → s.at ≡ i → s.live + length cases ≤ n → Ends P (λ _. ⊥) (choose e cases other s w)
  unfolding choose
  choose-tells [] q g all x s w t l = x tt s w t (omega arith)
  choose-tells {P = P} {i} {k} {n} ((c ⇒ r) ∷ cases) {other = or} q g (h & hs) x s w t l = then (check-tells e c s w (stands e t q) (omega arith)) (λ _ z. z) (λ s1 w1 b z. by s1 w1 b z (choose-tells cases q g (each (λ _ f m. f (λ o. m o.1)) cases hs)))
    where
      by : (s1 : State) (w1 : World) (b : Bool) → Checked k c s s1 b → ((None k (kinds_of cases) → From P i n or) → (s : State) (w : World) → s.at ≡ i → s.live + length cases ≤ n → Ends P (λ _. ⊥) (choose e cases or s w)) → Ends P (λ _. ⊥) (if_so r (choose e cases or) b s1 w1)
      by s1 w1 true (found p u o) f = h (λ m. m.0 p) s1 w1 (u ∙ t) (omega arith)
      by s1 w1 false (other p u o) f = f (λ m. x (p, m)) s1 w1 (u ∙ t) (omega arith)

  -- a turn of skipping stops at one of the kinds, or passes a token
  data Skips (end k : ℕ) (s s1 : State) : Next (Unit {0}) → Type 0 where
    halts : {x : Unit {0}} → (None k (ends_at end) → ⊥) → s1.at ≡ s.at → s1.live ≤ s.live + 3 → Skips end k s s1 (stop x)
    passes : {x : Unit {0}} → s1.live ≤ 0 → Skips end k s s1 (more x)

  skip-turn-tells : {k : ℕ} (end : ℕ) (x : Unit {0}) (s : State) (w : World) → kind_at e.tokens s.at ≡ k → Settled e s → s.live + 3 ≤ live_room → Ends (λ s1 n. Settled e s1 × Skips end k s s1 n) (λ _. ⊥) (skip_turn e end x s w)
  unfolding skip_turn
  skip-turn-tells {k} end x s w q h g =
      choose-tells (skip_cases e end) q g (halt & halt & halt & all) (λ _ s1 w1 t l. then (bump-tells e s1 w1 (settled-by t h)) (λ _ u. u) (λ s2 w2 _ u. well (u.0, passes u.1))) s w refl (le_refl _)
    where
      halt : (None k (ends_at end) → ⊥) → From (λ s1 n. Settled e s1 × Skips end k s s1 n) s.at (s.live + 3) (give (stop tt))
      halt m s1 w1 t l = well (settled-by t h, halts m t l)

  skips-on : (end n : ℕ) (x : Unit {0}) (s : State) (w : World) → Settled e s → s.live ≤ 0 → Ends (λ s1 _. Settled e s1 × (s1.live ≤ 3)) (λ _. ⊥) (turns (skip_turn e end) n x s w)
  unfolding turns
  skips-on end zero x s w h l = well (h, le_trans l (omega arith))
  skips-on end (suc n) x s w h l = then (skip-turn-tells end x s w refl h (omega arith)) (λ _ z. z) (λ s1 w1 y z. by (skips-on end n) s s1 w1 y l z.0 z.1)
    where
      by : {r : Unit {0} → Rule (Unit {0})} {k : ℕ} → ((x : Unit {0}) (s : State) (w : World) → Settled e s → s.live ≤ 0 → Ends (λ s1 _. Settled e s1 × (s1.live ≤ 3)) (λ _. ⊥) (r x s w)) → (s s1 : State) (w1 : World) (y : Next (Unit {0})) → s.live ≤ 0 → Settled e s1 → Skips end k s s1 y → Ends (λ s2 _. Settled e s2 × (s2.live ≤ 3)) (λ _. ⊥) (next r y s1 w1)
      by on s s1 w1 (stop x) l h (halts n t o) = well (h, omega arith)
      by on s s1 w1 (more x) l h (passes o) = on x s1 w1 h o

  skip-tells : {k : ℕ} (end : ℕ) (s : State) (w : World) → kind_at e.tokens s.at ≡ k → Settled e s → s.live + 3 ≤ live_room → Ends (λ s1 _. Settled e s1 × Skipped end k s s1) (λ _. ⊥) (skip e end s w)
  unfolding skip iterate turns
  skip-tells {k} end s w q h g = then (skip-turn-tells end tt s w q h g) (λ _ z. z) (λ s1 w1 y z. by (count e.tokens - s.at) s1 w1 y z.0 z.1)
    where
      by : (n : ℕ) (s1 : State) (w1 : World) (y : Next (Unit {0})) → Settled e s1 → Skips end k s s1 y → Ends (λ s2 _. Settled e s2 × Skipped end k s s2) (λ _. ⊥) (next (turns (skip_turn e end) n) y s1 w1)
      by n s1 w1 (stop x) h (halts m t o) = well (h, nothing m t o)
      by n s1 w1 (more x) h (passes o) = weaken (skips-on end n x s1 w1 h o) (λ s2 _ z. (z.0, some z.1)) (λ _ z. z)

-- behind a statement: it is done, or it was skipped
data Stated (e : Sheet) (N end : ℕ) (s s1 : State) : Type 0 where
  well-done : s1.live ≤ N + 42 → Stated e N end s s1
  given-up : (None (kind_at e.tokens s1.at) (ends_at end) → ⊥) → Kept N s s1 26 0 45 false → Stated e N end s s1

-- where a turn goes on: with an empty list, or not at Eof
pub data Open (e : Sheet) (N : ℕ) (s : State) : Type 0 where
  low : s.live ≤ 0 → Open e N s
  high : (kind_at e.tokens s.at ≡ kind.Eof → ⊥) → s.live ≤ N + 45 → Open e N s

-- a turn over statements
pub data Turned (e : Sheet) (N : ℕ) (s s1 : State) : Next Kids → Type 0 where
  goes : {x : Kids} → Open e N s1 → Turned e N s s1 (more x)
  stops-low : {x : Kids} → s1.live ≤ N + 46 → Turned e N s s1 (stop x)
  stops-at-end : {x : Kids} → kind_at e.tokens s.at ≡ kind.Eof → s1.at ≡ s.at → s1.live ≤ s.live + 28 → Turned e N s s1 (stop x)

module _ {r : Inner} {N : ℕ} (x : Handed r N) (room : N + 112 ≤ live_room) where
  stmt-or-tells : (end : ℕ) (s : State) (w : World) → Settled r.sheet s → s.live + 26 ≤ live_room → Ends (λ s1 _. Settled r.sheet s1 × Stated r.sheet N end s s1) (λ _. ⊥) (stmt_or r end s w)
  unfolding stmt_or recover skipped
  stmt-or-tells end s w h g =
      either ((stmt-bounded x).ends s w h (omega arith) (omega arith))
      (λ s1 w1 _ z. well (z.0, well-done (at_most z.1)))
      (λ s1 w1 f z. then ((log-still f).stays (unbuilt s s1) w1) (λ _ u. u)
      (λ s2 w2 _ u. then (skip-tells r.sheet end s2 w2 refl (settled-by u.0 z.0) (few s1 s2 u.1 z.1)) (λ _ v. v)
      (λ s3 w3 _ v. well (v.0, by s1 s2 s3 u.0 u.1 z.1 v.1))))
    where
      few : (s1 s2 : State) → s2.live ≤ s1.live → Kept N s s1 23 0 42 false → s2.live + 3 ≤ live_room
      few s1 s2 l (fresh o) = omega arith
      few s1 s2 l (same t o) = omega arith

      by : (s1 s2 s3 : State) → s2.at ≡ s1.at → s2.live ≤ s1.live → Kept N s s1 23 0 42 false → Skipped end (kind_at r.sheet.tokens s2.at) s2 s3 → Stated r.sheet N end s s3
      by s1 s2 s3 p l z (some o) = well-done (omega arith)
      by s1 s2 s3 p l (fresh o) (nothing n t u) = given-up (λ m. n (subst (λ i. None (kind_at r.sheet.tokens i) (ends_at end)) t m)) (fresh (omega arith))
      by s1 s2 s3 p l (same v o) (nothing n t u) = given-up (λ m. n (subst (λ i. None (kind_at r.sheet.tokens i) (ends_at end)) t m)) (same (t ∙ p ∙ v) (omega arith))

  pub body-turn-tells : (end : ℕ) (kids : Kids) (s : State) (w : World) → Settled r.sheet s → s.live + 30 ≤ live_room → Ends (λ s1 n. Settled r.sheet s1 × Turned r.sheet N s s1 n) (λ _. ⊥) (exprs_turn r end kids s w)
  unfolding exprs_turn
  body-turn-tells end kids s w h g = then (eat-tells r.sheet end s w refl h (omega arith)) (λ _ z. z) (λ s1 w1 b z. by s1 w1 b z)
    where
      -- behind the statement, from s1 on
      joins : (s1 s2 s3 : State) (n : Next Kids) → s1.at ≡ s.at → s1.live ≤ s.live + 1 → Stated r.sheet N end s1 s2 → After r.sheet end (kind_at r.sheet.tokens s2.at) s2 s3 n → Turned r.sheet N s s3 n
      joins s1 s2 s3 (stop y) t l z (closed o) = stops-low (omega arith)
      joins s1 s2 s3 (stop y) t l (well-done v) (over p u o) = stops-low (omega arith)
      joins s1 s2 s3 (stop y) t l (given-up n (fresh v)) (over p u o) = stops-low (omega arith)
      joins s1 s2 s3 (stop y) t l (given-up n (same v q)) (over p u o) = stops-at-end (sym (ap (kind_at r.sheet.tokens) (v ∙ t)) ∙ p) (u ∙ v ∙ t) (omega arith)
      joins s1 s2 s3 (more y) t l z (lined o) = goes (low o)
      joins s1 s2 s3 (more y) t l (well-done v) (unlined p q n u o) = goes (high (λ m. q (sym (ap (kind_at r.sheet.tokens) u) ∙ m)) (omega arith))
      joins s1 s2 s3 (more y) t l (given-up m v) (unlined p q n u o) = absurd (m (n, (q, (p, tt))))

      few : (s1 s2 : State) → s1.live ≤ s.live + 1 → Stated r.sheet N end s1 s2 → s2.live + 3 ≤ live_room
      few s1 s2 l (well-done o) = omega arith
      few s1 s2 l (given-up n (fresh o)) = omega arith
      few s1 s2 l (given-up n (same t o)) = omega arith

      by : (s1 : State) (w1 : World) (b : Bool) → Eaten r.sheet (kind_at r.sheet.tokens s.at) end s s1 b → Ends (λ s2 n. Settled r.sheet s2 × Turned r.sheet N s s2 n) (λ _. ⊥) (if_so (give (stop kids)) (stmt_or r end >>= (λ link. after_stmt r.sheet end kids link)) b s1 w1)
      by s1 w1 true (ate p i l) = well (i, stops-low (le_trans l (omega arith)))
      by s1 w1 false (missed p t l) =
          then (stmt-or-tells end s1 w1 (settled-by t h) (omega arith)) (λ _ z. z)
          (λ s2 w2 link z. weaken (after-stmt-tells r.sheet end kids link s2 w2 refl z.0 (few s1 s2 l z.1)) (λ s3 n u. (u.0, joins s1 s2 s3 n t l z.1 u.1)) (λ _ u. u))

  -- turn after turn, where one went on
  rows_on : (end n : ℕ) (kids : Kids) (s : State) (w : World) → Settled r.sheet s → Open r.sheet N s → Ends (λ s1 _. Settled r.sheet s1 × (s1.live ≤ N + 46)) (λ _. ⊥) (turns (exprs_turn r end) n kids s w)
  unfolding turns
  rows_on end zero kids s w h o = well (h, at-worst o)
    where
      at-worst : {s : State} → Open r.sheet N s → s.live ≤ N + 46
      at-worst (low l) = omega arith
      at-worst (high n l) = omega arith
  rows_on end (suc n) kids s w h o = then (body-turn-tells end kids s w h (enough o)) (λ _ z. z) (λ s1 w1 y z. by (rows_on end n) s s1 w1 y o z.0 z.1)
    where
      enough : {s : State} → Open r.sheet N s → s.live + 30 ≤ live_room
      enough (low l) = omega arith
      enough (high n l) = omega arith

      by : {q : Kids → Rule Kids} → ((x : Kids) (s : State) (w : World) → Settled r.sheet s → Open r.sheet N s → Ends (λ s1 _. Settled r.sheet s1 × (s1.live ≤ N + 46)) (λ _. ⊥) (q x s w)) → (s s1 : State) (w1 : World) (y : Next Kids) → Open r.sheet N s → Settled r.sheet s1 → Turned r.sheet N s s1 y → Ends (λ s2 _. Settled r.sheet s2 × (s2.live ≤ N + 46)) (λ _. ⊥) (next q y s1 w1)
      by on s s1 w1 (more y) o h (goes p) = on y s1 w1 h p
      by on s s1 w1 (stop y) o h (stops-low l) = well (h, l)
      by on s s1 w1 (stop y) (low l) h (stops-at-end p t n) = well (h, omega arith)
      by on s s1 w1 (stop y) (high m l) h (stops-at-end p t n) = absurd (m p)

module _ {r : Inner} {N : ℕ} (x : Handed r N) where
  rows-bounded : (end : ℕ) (kids : Kids) → Adds r.sheet N 30 46 0 112 (iterate r.sheet (exprs_turn r end) kids)
  unfolding iterate turns
  rows-bounded end kids = record { ends = λ s w h g t. then (body-turn-tells x t end kids s w h g) (λ _ z. absurd z) (λ s1 w1 y z. by t (count r.sheet.tokens - s.at) s s1 w1 y z.0 z.1) }
    where
      by : N + 112 ≤ live_room → (n : ℕ) (s s1 : State) (w1 : World) (y : Next Kids) → Settled r.sheet s1 → Turned r.sheet N s s1 y → Ends (λ s2 _. Settled r.sheet s2 × Kept N s s2 30 0 46 false) (λ s2. Settled r.sheet s2 × Kept N s s2 30 0 0 false) (next (turns (exprs_turn r end) n) y s1 w1)
      by t n s s1 w1 (more y) h (goes p) = weaken (rows_on x t end n y s1 w1 h p) (λ s2 _ z. (z.0, fresh z.1)) (λ _ z. absurd z)
      by t n s s1 w1 (stop y) h (stops-low l) = well (h, fresh l)
      by t n s s1 w1 (stop y) h (stops-at-end p q l) = well (h, same q (le_trans l (omega arith)))

  -- from behind the trivia on
  rest-bounded : (end : ℕ) → Adds r.sheet N 30 46 30 112 (iterate r.sheet (eol_turn r.sheet) tt >>= (λ _. iterate r.sheet (exprs_turn r end) no_kids))
  rest-bounded end = adds (binds (eols-bounded tt) (λ _. rows-bounded end no_kids)) refl refl refl refl

  pub body-bounded : (end : ℕ) → Adds r.sheet N 30 46 30 112 (exprs r end)
  unfolding exprs
  body-bounded end = adds (binds eat-eol-bounded (λ _. rows-bounded end no_kids)) refl refl refl refl

  -- wherever they begin
  pub body-anywhere : (end : ℕ) (s : State) (w : World) → s.live + 30 ≤ live_room → N + 112 ≤ live_room → Ends (λ s1 _. s1.live ≤ live_room) (λ _. Unit {0}) (exprs r end s w)
  unfolding exprs eat_eol eat_trivia
  body-anywhere end s w g t = weaken ((rest-bounded end).ends (record { at = past_trivia r.sheet.tokens s.at; prev = s.prev; reads = s.reads; nodes = s.nodes; errors = s.errors; wanted = s.wanted; live = s.live }) w (record { calm = calm-past r.sheet.tokens s.at }) g t) (λ s1 _ z. by s1 g z.1) (λ _ _. tt)
    where
      by : {s : State} (s1 : State) → s.live + 30 ≤ live_room → Kept N s s1 30 0 46 false → s1.live ≤ live_room
      by s1 g (fresh l) = omega arith
      by s1 g (same q l) = omega arith
