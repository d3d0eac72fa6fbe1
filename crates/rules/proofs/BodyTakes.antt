-- That each turn over statements that goes on takes a token: a statement that is done has taken one; one that failed was skipped to Eol, Eof
-- or the end of the statements, and from there a turn goes on only past an Eol.
use mathlib.Core.Path.{◌≡◌, refl, sym, ap, ◌∙◌, subst}
use mathlib.Core.List.{List, [], ◌∷◌}
use mathlib.Core.Bool.{Bool, true, false}
use Prim.Native.Nat.{ℕ, ◌+◌, ◌<◌, ◌≤◌}
use native.Mathlib.Omega.{arith}
use native.Mathlib.Decide.{dec_lt, ℕ_discrete}
use lib.Dec.{ltb}
use lib.ListN.{length}
use borrow.Author.Tests.{lt-ltb}
use Rattle.kinds.specs.Number as kind
use Rattle.cursor.specs.declared.State.{State}
use Rattle.cursor.specs.declared.Kids.{Kids}
use Rattle.cursor.specs.Sheet.{Sheet, count, kind_at}
use Rattle.cursor.specs.Rule.{World, Rule, ◌>>=◌, ◌>>◌, give, if_so, Next, more, stop}
use Rattle.cursor.specs.Tokens.{bump, eat_eol}
use Rattle.cursor.specs.Checks.{live_room, check, eat, expect, unexpected, pick_from}
use Rattle.cursor.specs.Attempts.{unbuilt, recover}
use Rattle.cursor.proofs.Ends.{Ends, well, cut, Any, branch, then, either, weaken, both}
use Rattle.cursor.proofs.Loops.{left, Goes, on, off, Turning, Takes, loop-ends}
use Rattle.cursor.proofs.TokenPaths.{there, bump_takes}
use Rattle.cursor.proofs.CheckPaths.{check-yes, check-no, check-full}
use Rattle.cursor.proofs.Keeps.{Plain, ground-stands, gives, binds, thens}
use Rattle.cursor.proofs.Kept.{bump-keeps, eat-keeps, eat-eol-keeps, log-keeps}
use Rattle.cursor.proofs.Spends.{Spends, Further, takes, spares, either-spends, then-spends}
use Rattle.types.specs.Items.{add_some}
use Rattle.rules.specs.Inner.{Inner}
use Rattle.parts.specs.When.{when}
use Rattle.parts.proofs.Placed.{skip-turn-placed}
use Rattle.parts.specs.Recovery.{skip_turn, skip, skipped, log_here, line_end, after_stmt}
use Rattle.rules.specs.Exprs.{stmt_or, exprs_turn}
use Rattle.rules.specs.Levels.{levels}
use Rattle.rules.proofs.Stays.{Stays, add-some-stays}
use Rattle.rules.proofs.StmtStays.{stmt-starts, skip-stays, log-here-stays, after-stmt-stays, knot-stays}

-- a kind is one of these
pub data Among (k : ℕ) : List ℕ → Type 0 where
  here : {j : ℕ} {ks : List ℕ} → k ≡ j → Among k (j ∷ ks)
  behind : {j : ℕ} {ks : List ℕ} → Among k ks → Among k (j ∷ ks)

-- what a test says
abbrev Said : Type 0 → Bool → Type 0
Said P true = P
Said P false = P → ⊥

-- what a chain of tests that ends at n says: the kind is one of these, or it is none of them
data Chained (k : ℕ) (ks : List ℕ) (n : ℕ) : ℕ → Type 0 where
  found : {j : ℕ} → j < n → Among k ks → Chained k ks n j
  none : {j : ℕ} → j ≡ n → (Among k ks → ⊥) → Chained k ks n j

nobody : {k : ℕ} → Among k [] → ⊥
nobody = elim [ ]

neither : {k j : ℕ} {ks : List ℕ} → (k ≡ j → ⊥) → (Among k ks → ⊥) → Among k (j ∷ ks) → ⊥
neither p n (here q) = p q
neither p n (behind a) = n a

-- with one test more before it
longer : {k i : ℕ} {ks : List ℕ} {n m j : ℕ} → n ≡ m → (k ≡ i → ⊥) → Chained k ks n j → Chained k (i ∷ ks) m j
longer {j = j} q p (found l a) = found {j = j} (omega arith) (behind a)
longer q p (none r n) = none (r ∙ q) (neither p n)

module _ (e : Sheet) where
  check-says : (k : ℕ) (s : State) (w : World) → Ends (λ s1 _ b. (s1.at ≡ s.at) × Said (kind_at e.tokens s.at ≡ k) b) Any (check e k s w)
  check-says k s w = by (ℕ_discrete (kind_at e.tokens s.at) k) (dec_lt s.live live_room)
    where
      by : Dec (kind_at e.tokens s.at ≡ k) → Dec (s.live < live_room) → Ends (λ s1 _ b. (s1.at ≡ s.at) × Said (kind_at e.tokens s.at ≡ k) b) Any (check e k s w)
      by (yes p) d = rw (check-yes e k s w p) (well (refl, p))
      by (no p) (yes q) = rw (check-no e k s w p q refl) (well (refl, p))
      by (no p) (no q) = rw (check-full e k s w p (omega arith)) cut

  pick-says : (ks : List ℕ) (i : ℕ) (s : State) (w : World) → Ends (λ s1 _ j. (s1.at ≡ s.at) × Chained (kind_at e.tokens s.at) ks (i + length ks) j) Any (pick_from e ks i s w)
  unfolding pick_from
  pick-says [] i s w = well {a = i} (refl, none {j = i} (omega arith) nobody)
  pick-says (k ∷ ks) i s w = then (check-says k s w) (λ _ _ _ _. tt) (λ s1 w1 b p. by s1 w1 b p.0 p.1 (pick-says ks (i + 1) s1 w1))
    where
      by : (s1 : State) (w1 : World) (b : Bool) → s1.at ≡ s.at → Said (kind_at e.tokens s.at ≡ k) b → Ends (λ s2 _ j. (s2.at ≡ s1.at) × Chained (kind_at e.tokens s1.at) ks (i + 1 + length ks) j) Any (pick_from e ks (i + 1) s1 w1) → Ends (λ s2 _ j. (s2.at ≡ s.at) × Chained (kind_at e.tokens s.at) (k ∷ ks) (i + length (k ∷ ks)) j) Any (if_so (give i) (pick_from e ks (i + 1)) b s1 w1)
      by s1 w1 true q p x = well {a = i} (q, found {j = i} (omega arith) (here p))
      by s1 w1 false q p x = weaken x (λ s2 w2 j z. (z.0 ∙ q, longer (omega arith) p (subst (λ a. Chained (kind_at e.tokens a) ks (i + 1 + length ks) j) q z.1))) (λ _ _ _ _. tt)

  -- where what is left of a statement is skipped to
  abbrev stops : ℕ → List ℕ
  stops end = kind.Eol ∷ kind.Eof ∷ end ∷ []

  abbrev Stopped : ℕ → State → Type 0
  Stopped end s = Among (kind_at e.tokens s.at) (stops end)

  skip-turning : (end : ℕ) → Turning (λ _ _ _. Unit {0}) (λ s _ _. Stopped end s) Any e (skip_turn e end)
  unfolding count
  skip-turning end s w a _ = rw (skip-turn-placed e end a) (then (pick-says (stops end) 0 s w) (λ _ _ _ _. tt) (λ s1 w1 j p. by s1 w1 j p.0 p.1))
    where
      no-eof : (Among (kind_at e.tokens s.at) (stops end) → ⊥) → kind_at e.tokens s.at ≡ kind.Eof → ⊥
      no-eof n q = n (behind (here q))

      by : (s1 : State) (w1 : World) (j : ℕ) → s1.at ≡ s.at → Chained (kind_at e.tokens s.at) (stops end) 3 j → Ends (Goes (λ _ _ _. Unit {0}) (λ s2 _ _. Stopped end s2) e (left e s)) Any (when {A = Next (Unit {0})} (ltb j 3) (give (stop tt)) (bump e >> give (more tt)) s1 w1)
      by s1 w1 j q (found l a) = rw (lt-ltb j 3 l) (well (off (subst (λ i. Among (kind_at e.tokens i) (stops end)) (sym q) a)))
      by s1 w1 j q (none r n) = rw r (then (bump_takes e s1 w1 (subst (λ i. i < count e.tokens) (sym q) (there e.tokens s.at (no-eof n)))) (λ _ _ _ _. tt) (λ s2 w2 _ l. well (on {s = s2} tt (omega arith))))

  skip-stops : (end : ℕ) (s : State) (w : World) → Ends (λ s1 _ _. Stopped end s1) Any (skip e end s w)
  unfolding skip
  skip-stops end s w = loop-ends e (skip_turn e end) (skip-turning end) s w tt tt

  -- where a kind is not eaten nothing moved, and another kind stands here
  abbrev Missed : ℕ → State → State → Bool → Type 0
  Missed k s s1 true = Unit {0}
  Missed k s s1 false = (s1.at ≡ s.at) × (kind_at e.tokens s.at ≡ k → ⊥)

  eat-says : (k : ℕ) (s : State) (w : World) → Ends (λ s1 _ b. Missed k s s1 b) Any (eat e k s w)
  unfolding eat
  eat-says k s w = then (check-says k s w) (λ _ _ _ _. tt) (λ s1 w1 b p. by s1 w1 b p.0 p.1)
    where
      by : (s1 : State) (w1 : World) (b : Bool) → s1.at ≡ s.at → Said (kind_at e.tokens s.at ≡ k) b → Ends (λ s2 _ c. Missed k s s2 c) Any (if_so (bump e >> give true) (give false) b s1 w1)
      by s1 w1 true q p = then ((bump-keeps e).ends s1 w1 (ground-stands s1)) (λ _ _ _ _. tt) (λ s2 w2 _ _. well tt)
      by s1 w1 false q p = well {a = false} (q, p)

  -- a bump never fails by a fault, and so at an Eol the end of a line does not
  bump-clean : (s : State) (w : World) → Ends (λ _ _ _. Unit {0}) (λ _ _ _. ⊥) (bump e s w)
  unfolding bump
  bump-clean s w = branch (ltb s.at (count e.tokens)) (λ _. branch (ltb s.reads e.limits.allowance) (λ _. well tt) (λ _. cut)) (λ _. well tt)

  eat-eol : (s : State) (w : World) → kind_at e.tokens s.at ≡ kind.Eol → Ends (λ s1 _ b. (b ≡ true) × (left e s1 < left e s)) (λ _ _ _. ⊥) (eat e kind.Eol s w)
  unfolding eat count
  eat-eol s w q = rw (check-yes e kind.Eol s w q) (then (both (bump_takes e s w (there e.tokens s.at (λ p. other (sym q ∙ p)))) (bump-clean s w)) (λ _ _ _ p. p.1) (λ s1 w1 _ p. well (refl, p.0)))
    where
      other : kind.Eol ≡ kind.Eof → ⊥
      other p = absurd (omega arith)

  line-end-takes : (s : State) (w : World) → kind_at e.tokens s.at ≡ kind.Eol → Ends (λ s1 _ _. left e s1 < left e s) Any (line_end e s w)
  unfolding line_end recover expect
  line-end-takes s w q = either (then (eat-eol s w q) (λ _ _ _ p. p) (λ s1 w1 b p. by s1 w1 b p.0 p.1)) (λ s1 w1 _ p. well p) (λ s1 w1 f p. absurd p)
    where
      by : (s1 : State) (w1 : World) (b : Bool) → b ≡ true → left e s1 < left e s → Ends (λ s2 _ _. left e s2 < left e s) (λ _ _ _. ⊥) (if_so (give {A = Unit {0}} tt) (unexpected e) b s1 w1)
      by s1 w1 b p l = rw p (well l)

  -- after what was skipped
  eol-left : {end : ℕ} {k : ℕ} → Among k (stops end) → (k ≡ end → ⊥) → (k ≡ kind.Eof → ⊥) → k ≡ kind.Eol
  eol-left (here q) p n = q
  eol-left (behind (here q)) p n = absurd (n q)
  eol-left (behind (behind (here q))) p n = absurd (p q)
  eol-left (behind (behind (behind a))) p n = absurd (nobody a)

  after-skip : (end : ℕ) (kids : Kids) (link : ℕ) (s : State) (w : World) → Stopped end s → Ends (λ s1 _ n. Further n → left e s1 < left e s) Any (after_stmt e end kids link s w)
  unfolding after_stmt
  after-skip end kids link s w z = then (eat-says end s w) (λ _ _ _ _. tt) (λ s1 w1 b p. closed s1 w1 b p)
    where
      stopping : Rule (Next Kids)
      stopping = add_some kids link >>= (λ all. give (stop all))

      going : Rule (Next Kids)
      going = line_end e >> (eat_eol e >> (add_some kids link >>= (λ longer. give (more longer))))

      stops-there : (s1 : State) (w1 : World) → Ends (λ s2 _ n. Further n → left e s2 < left e s) Any (stopping s1 w1)
      stops-there s1 w1 = then ((add-some-stays kids link).ends s1 w1 (ground-stands s1)) (λ _ _ _ _. tt) (λ s2 w2 all _. well (λ x. absurd x))

      goes_on_lem : (s1 : State) (w1 : World) → s1.at ≡ s.at → kind_at e.tokens s.at ≡ kind.Eol → Ends (λ s2 _ n. Further n → left e s2 < left e s) Any (going s1 w1)
      goes_on_lem s1 w1 q p =
          then (line-end-takes s1 w1 (ap (kind_at e.tokens) q ∙ p)) (λ _ _ _ _. tt)
          (λ s2 w2 _ l. weaken ((thens (eat-eol-keeps e) (binds (add-some-stays kids link) (λ longer _. gives {G = Plain} tt))).ends s2 w2 (ground-stands s2)) (λ s3 w3 n g _. let a = g.0.later.at in omega arith) (λ _ _ _ _. tt))

      over : (s1 s2 : State) (w2 : World) (b : Bool) → s1.at ≡ s.at → (kind_at e.tokens s.at ≡ end → ⊥) → s2.at ≡ s1.at → Said (kind_at e.tokens s1.at ≡ kind.Eof) b → Ends (λ s3 _ n. Further n → left e s3 < left e s) Any (if_so (log_here e >> stopping) going b s2 w2)
      over s1 s2 w2 true q p r o = then ((log-here-stays e).ends s2 w2 (ground-stands s2)) (λ _ _ _ _. tt) (λ s3 w3 _ _. stops-there s3 w3)
      over s1 s2 w2 false q p r o = goes_on_lem s2 w2 (r ∙ q) (eol-left z p (λ x. o (ap (kind_at e.tokens) q ∙ x)))

      closed : (s1 : State) (w1 : World) (b : Bool) → Missed end s s1 b → Ends (λ s2 _ n. Further n → left e s2 < left e s) Any (if_so stopping (check e kind.Eof >>= if_so (log_here e >> stopping) going) b s1 w1)
      closed s1 w1 true p = stops-there s1 w1
      closed s1 w1 false p = then (check-says kind.Eof s1 w1) (λ _ _ _ _. tt) (λ s2 w2 b o. over s1 s2 w2 b p.0 p.1 o.0 o.1)

  -- where a statement ended: it took a token, or what was left of it was skipped
  data Behind (end : ℕ) (s s1 : State) : Type 0 where
    took : left e s1 < left e s → Behind end s s1
    passed : left e s1 ≤ left e s → Stopped end s1 → Behind end s s1

module _ {r : Inner} (h : Stays r) where
  stmt-or-ends : (end : ℕ) (s : State) (w : World) → Ends (λ s1 _ _. Behind r.sheet end s s1) Any (stmt_or r end s w)
  unfolding stmt_or recover skipped
  stmt-or-ends end s w =
      either (both ((stmt-starts h).stays.ends s w (ground-stands s)) ((stmt-starts h).spends.ends s w))
      (λ s1 w1 link p. well (took (p.1 tt)))
      (λ s1 w1 f p. then ((log-keeps f).ends (unbuilt s s1) w1 (ground-stands _)) (λ _ _ _ _. tt) (λ s2 w2 _ q. then (both ((skip-stays r.sheet end).ends s2 w2 (ground-stands s2)) (skip-stops r.sheet end s2 w2)) (λ _ _ _ _. tt) (λ s3 w3 _ z. by s s1 s2 s3 w3 p.0.later.at q.0.later.at z.0.0.later.at z.1)))
    where
      by : (s s1 s2 s3 : State) (w3 : World) → s.at ≤ s1.at → s1.at ≤ s2.at → s2.at ≤ s3.at → Stopped r.sheet end s3 → Ends {A = ℕ} (λ s4 _ _. Behind r.sheet end s s4) Any (give 0 s3 w3)
      by s s1 s2 s3 w3 a b c z = well {s = s3} (passed (omega arith) z)

  pub body-spends : (end : ℕ) (kids : Kids) → Spends r.sheet Further (exprs_turn r end kids)
  unfolding exprs_turn
  body-spends end kids = then-spends (eat-keeps r.sheet end) (λ closed. either-spends closed (spares (λ x. x)) (record { ends = λ s w. then (stmt-or-ends end s w) (λ _ _ _ _. tt) (λ s1 w1 link p. by s s1 w1 link p) }))
    where
      by : (s s1 : State) (w1 : World) (link : ℕ) → Behind r.sheet end s s1 → Ends (λ s2 _ n. Further n → left r.sheet s2 < left r.sheet s) Any (after_stmt r.sheet end kids link s1 w1)
      by s s1 w1 link (took l) = weaken ((after-stmt-stays r.sheet end kids link).ends s1 w1 (ground-stands s1)) (λ s2 w2 n p _. let a = p.0.later.at in omega arith) (λ _ _ _ _. tt)
      by s s1 w1 link (passed l z) = weaken (after-skip r.sheet end kids link s1 w1 z) (λ s2 w2 n f o. let a = f o in omega arith) (λ _ _ _ _. tt)

pub body-turn-takes : (e : Sheet) (d end : ℕ) → Takes e (exprs_turn (levels e d) end)
body-turn-takes e d end = takes (body-spends (knot-stays e d) end)
