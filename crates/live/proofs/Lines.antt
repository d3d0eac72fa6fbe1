-- What the kind that stands behind a statement tells of the live list: past the end of the statements or of a line it is empty.
use mathlib.Core.Path.{◌≡◌, refl, sym, ap, ◌∙◌}
use mathlib.Core.Bool.{Bool, true, false}
use Prim.Native.Nat.{ℕ, zero, suc, ◌+◌, ◌-◌, ◌≤◌}
use native.Mathlib.Nat.{le_refl, le_trans}
use native.Mathlib.Omega.{arith}
use lib.Dec.{eqb}
use borrow.Author.Tests.{eqb-true}
use Rattle.kinds.specs.Number as kind
use Rattle.cursor.specs.declared.State.{State}
use Rattle.cursor.specs.declared.Kids.{Kids}
use Rattle.cursor.specs.Sheet.{Sheet, count, kind_at}
use Rattle.cursor.specs.Rule.{World, Rule, ◌>>=◌, ◌>>◌, give, if_so, Next, more, stop, next, turns, iterate}
use Rattle.cursor.specs.Tokens.{past_trivia, eat_trivia, bump, eol_turn, eat_eol}
use Rattle.cursor.specs.Checks.{live_room, check, eat, expect, unexpected, unexpected_at}
use Rattle.cursor.specs.Attempts.{unbuilt, recover}
use Rattle.cursor.proofs.TokenPaths.{past_off}
use Rattle.types.specs.Items.{add_some}
use Rattle.parts.specs.Recovery.{log_here, line_end, after_stmt}
use Rattle.live.proofs.Live.{Ends, well, ill, branch, then, either, Settled, settled-by}
use Rattle.live.proofs.Cursor.{calm-past, Still, Checked, found, other, check-tells, bump-tells, add-still, log-still}

add-some-still : (kids : Kids) (link : ℕ) → Still (add_some kids link)
unfolding add_some
add-some-still kids zero = record { stays = λ s w. well (refl, le_refl _) }
add-some-still kids (suc i) = add-still kids (suc i)

log-here-still : (e : Sheet) → Still (log_here e)
unfolding log_here
log-here-still e = record { stays = λ s w. (log-still (unexpected_at e s)).stays s w }

-- what is told where a kind is eaten or not
pub data Eaten (e : Sheet) (k kind : ℕ) (s s1 : State) : Bool → Type 0 where
  ate : k ≡ kind → Settled e s1 → s1.live ≤ 0 → Eaten e k kind s s1 true
  missed : (k ≡ kind → ⊥) → s1.at ≡ s.at → s1.live ≤ s.live + 1 → Eaten e k kind s s1 false

-- behind a statement: the end of the statements, the end of input, the end of a line, or none of them
pub data After (e : Sheet) (end k : ℕ) (s s1 : State) : Next Kids → Type 0 where
  closed : {x : Kids} → s1.live ≤ 0 → After e end k s s1 (stop x)
  over : {x : Kids} → k ≡ kind.Eof → s1.at ≡ s.at → s1.live ≤ s.live + 1 → After e end k s s1 (stop x)
  lined : {x : Kids} → s1.live ≤ 0 → After e end k s s1 (more x)
  unlined : {x : Kids} → (k ≡ end → ⊥) → (k ≡ kind.Eof → ⊥) → (k ≡ kind.Eol → ⊥) → s1.at ≡ s.at → s1.live ≤ s.live + 3 → After e end k s s1 (more x)

less : (n : ℕ) {a b c d : ℕ} → a ≤ b → b ≤ c → c ≤ d + 1 → d ≤ n + 2 → a ≤ n + 3
less n p q r t = omega arith

more_by : (n : ℕ) {a b : ℕ} → a ≤ b + 1 → b ≤ n + 1 → a ≤ n + 2
more_by n p q = omega arith

module _ (e : Sheet) where
  -- the same kind where the place is the same
  pub stands : {i j k : ℕ} → i ≡ j → kind_at e.tokens j ≡ k → kind_at e.tokens i ≡ k
  stands q p = ap (kind_at e.tokens) q ∙ p

  pub eat-tells : {k : ℕ} (kind : ℕ) (s : State) (w : World) → kind_at e.tokens s.at ≡ k → Settled e s → s.live + 1 ≤ live_room → Ends (λ s1 b. Eaten e k kind s s1 b) (λ _. ⊥) (eat e kind s w)
  unfolding eat
  eat-tells {k} kind s w q h g = then (check-tells e kind s w q g) (λ _ z. z) (λ s1 w1 b z. by s1 w1 b z)
    where
      by : (s1 : State) (w1 : World) (b : Bool) → Checked k kind s s1 b → Ends (λ s2 c. Eaten e k kind s s2 c) (λ _. ⊥) (if_so (bump e >> give true) (give false) b s1 w1)
      by s1 w1 true (found p t l) = then (bump-tells e s1 w1 (settled-by t h)) (λ _ z. z) (λ s2 w2 _ z. well (ate p z.0 z.1))
      by s1 w1 false (other p t l) = well (missed p t l)

  -- no Eol is passed where none stands
  eols-stay : (s : State) (w : World) → Settled e s → (kind_at e.tokens s.at ≡ kind.Eol → ⊥) → Ends (λ s1 _. (s1.at ≡ s.at) × (s1.live ≤ s.live)) (λ _. ⊥) (eat_eol e s w)
  unfolding eat_eol eat_trivia iterate turns eol_turn
  eols-stay s w h n = then
      (branch {P = λ s1 x. Off s1 x} (eqb (kind_at e.tokens (past_trivia e.tokens s.at)) kind.Eol)
      (λ p. absurd (n (ap (kind_at e.tokens) (sym (past_off e.tokens s.at h.calm)) ∙ eqb-true _ _ p)))
      (λ _. well (past_off e.tokens s.at h.calm, le_refl _)))
      (λ _ z. z) (λ s1 w1 x z. by s1 w1 x z)
    where
      Off : State → Next (Unit {0}) → Type 0
      Off s1 (more x) = ⊥
      Off s1 (stop x) = (s1.at ≡ s.at) × (s1.live ≤ s.live)

      by : (s1 : State) (w1 : World) (x : Next (Unit {0})) → Off s1 x → Ends (λ s2 _. (s2.at ≡ s.at) × (s2.live ≤ s.live)) (λ _. ⊥) (next (turns (eol_turn e) (count e.tokens - past_trivia e.tokens s.at)) x s1 w1)
      by s1 w1 (more x) z = absurd z
      by s1 w1 (stop x) z = well z

  -- Eols that are passed leave the list empty
  eols-pass : (n : ℕ) (x : Unit {0}) (s : State) (w : World) → Settled e s → s.live ≤ 0 → Ends (λ s1 _. Settled e s1 × (s1.live ≤ 0)) (λ _. ⊥) (turns (eol_turn e) n x s w)
  unfolding turns eol_turn
  eols-pass zero x s w h l = well (h, l)
  eols-pass (suc n) x s w h l = then (branch {P = λ s1 _. Settled e s1 × (s1.live ≤ 0)} (eqb (kind_at e.tokens s.at) kind.Eol) (λ _. then (bump-tells e s w h) (λ _ z. z) (λ s1 w1 _ z. well z)) (λ _. well (h, l))) (λ _ z. z) (λ s1 w1 y z. by (eols-pass n) s1 w1 y z.0 z.1)
    where
      by : {r : Unit {0} → Rule (Unit {0})} → ((x : Unit {0}) (s : State) (w : World) → Settled e s → s.live ≤ 0 → Ends (λ s1 _. Settled e s1 × (s1.live ≤ 0)) (λ _. ⊥) (r x s w)) → (s1 : State) (w1 : World) (y : Next (Unit {0})) → Settled e s1 → s1.live ≤ 0 → Ends (λ s2 _. Settled e s2 × (s2.live ≤ 0)) (λ _. ⊥) (next r y s1 w1)
      by on s1 w1 (more x) h l = on x s1 w1 h l
      by on s1 w1 (stop x) h l = well (h, l)

  eat-eol-passes : (s : State) (w : World) → s.live ≤ 0 → Ends (λ s1 _. Settled e s1 × (s1.live ≤ 0)) (λ _. ⊥) (eat_eol e s w)
  unfolding eat_eol eat_trivia iterate
  eat-eol-passes s w l = eols-pass _ tt _ w (record { calm = calm-past e.tokens s.at }) l

  -- the end of a line
  data Lined (k : ℕ) (s s1 : State) : Type 0 where
    ended : k ≡ kind.Eol → Settled e s1 → s1.live ≤ 0 → Lined k s s1
    unended : (k ≡ kind.Eol → ⊥) → s1.at ≡ s.at → s1.live ≤ s.live + 1 → Lined k s s1

  line-end-tells : {k : ℕ} (s : State) (w : World) → kind_at e.tokens s.at ≡ k → Settled e s → s.live + 1 ≤ live_room → Ends (λ s1 _. Lined k s s1) (λ _. ⊥) (line_end e s w)
  unfolding line_end recover expect unexpected
  line-end-tells {k} s w q h g =
      either (then {G = λ s1. Lined k s s1} (eat-tells kind.Eol s w q h g) (λ _ z. absurd z) (λ s1 w1 b z. by s1 w1 b z))
      (λ s1 w1 _ z. well z)
      (λ s1 w1 f z. then ((log-still f).stays (unbuilt s s1) w1) (λ _ u. u) (λ s2 w2 _ u. well (moved s1 s2 u.0 u.1 z)))
    where
      by : (s1 : State) (w1 : World) (b : Bool) → Eaten e k kind.Eol s s1 b → Ends {A = Unit {0}} (λ s2 _. Lined k s s2) (λ s2. Lined k s s2) (if_so (give tt) (unexpected e) b s1 w1)
      by s1 w1 true (ate p t l) = well (ended p t l)
      by s1 w1 false (missed p t l) = ill (unended p t l)

      moved : (s1 s2 : State) → s2.at ≡ s1.at → s2.live ≤ s1.live → Lined k s s1 → Lined k s s2
      moved s1 s2 p l (ended u t n) = ended u (settled-by p t) (le_trans l n)
      moved s1 s2 p l (unended u t n) = unended u (p ∙ t) (le_trans l n)

  pub after-stmt-tells : {k : ℕ} (end : ℕ) (kids : Kids) (link : ℕ) (s : State) (w : World) → kind_at e.tokens s.at ≡ k → Settled e s → s.live + 3 ≤ live_room → Ends (λ s1 x. Settled e s1 × After e end k s s1 x) (λ _. ⊥) (after_stmt e end kids link s w)
  unfolding after_stmt
  after-stmt-tells {k} end kids link s w q h g = then (eat-tells end s w q h (omega arith)) (λ _ z. z) (λ s1 w1 b z. eaten s1 w1 b z)
    where
      stopping : Rule (Next Kids)
      stopping = add_some kids link >>= (λ every. give (stop every))

      onward : Rule (Next Kids)
      onward = line_end e >> (eat_eol e >> (add_some kids link >>= (λ longer. give (more longer))))

      -- past the end of the line
      past : (s1 s2 : State) (w2 : World) → (k ≡ end → ⊥) → (k ≡ kind.Eof → ⊥) → s1.at ≡ s.at → s1.live ≤ s.live + 2 → Lined k s1 s2 → Ends (λ s3 x. Settled e s3 × After e end k s s3 x) (λ _. ⊥) ((eat_eol e >> (add_some kids link >>= (λ longer. give (more longer)))) s2 w2)
      past s1 s2 w2 n m t l (ended u i o) =
          then (eat-eol-passes s2 w2 o) (λ _ z. z)
          (λ s3 w3 _ z. then ((add-some-still kids link).stays s3 w3) (λ _ z. z) (λ s4 w4 longer v. well (settled-by v.0 z.0, lined (le_trans v.1 z.1))))
      past s1 s2 w2 n m t l (unended u i o) =
          then (eols-stay s2 w2 (settled-by (i ∙ t) h) (λ v. u (sym (stands (i ∙ t) q) ∙ v))) (λ _ z. z)
          (λ s3 w3 _ z. then ((add-some-still kids link).stays s3 w3) (λ _ z. z) (λ s4 w4 longer v. well (settled-by (v.0 ∙ z.0 ∙ i ∙ t) h, unlined n m u (v.0 ∙ z.0 ∙ i ∙ t) (less s.live v.1 z.1 o l))))

      goes_on_lem : (s1 : State) (w1 : World) → (k ≡ end → ⊥) → (k ≡ kind.Eof → ⊥) → s1.at ≡ s.at → s1.live ≤ s.live + 2 → Ends (λ s2 x. Settled e s2 × After e end k s s2 x) (λ _. ⊥) (onward s1 w1)
      goes_on_lem s1 w1 n m t l = then (line-end-tells s1 w1 (stands t q) (settled-by t h) (omega arith)) (λ _ z. z) (λ s2 w2 _ z. past s1 s2 w2 n m t l z)

      stops_at : (s1 : State) (w1 : World) → Settled e s1 → ((s2 : State) (x : Kids) → s2.at ≡ s1.at → s2.live ≤ s1.live → After e end k s s2 (stop x)) → Ends (λ s2 x. Settled e s2 × After e end k s s2 x) (λ _. ⊥) (stopping s1 w1)
      stops_at s1 w1 i f = then ((add-some-still kids link).stays s1 w1) (λ _ z. z) (λ s2 w2 every z. well (settled-by z.0 i, f s2 every z.0 z.1))

      -- at the end of input or not
      checked : (s1 s2 : State) (w2 : World) (b : Bool) → (k ≡ end → ⊥) → s1.at ≡ s.at → s1.live ≤ s.live + 1 → Checked k kind.Eof s1 s2 b → Ends (λ s3 x. Settled e s3 × After e end k s s3 x) (λ _. ⊥) (if_so (log_here e >> stopping) onward b s2 w2)
      checked s1 s2 w2 true n t l (found p u o) =
          then ((log-here-still e).stays s2 w2) (λ _ z. z) (λ s3 w3 _ z. stops_at s3 w3 (settled-by (z.0 ∙ u ∙ t) h) (λ s4 x v y. over p (v ∙ z.0 ∙ u ∙ t) (le_trans y (le_trans z.1 (le_trans o l)))))
      checked s1 s2 w2 false n t l (other p u o) = goes_on_lem s2 w2 n p (u ∙ t) (more_by s.live o l)

      eaten : (s1 : State) (w1 : World) (b : Bool) → Eaten e k end s s1 b → Ends (λ s2 x. Settled e s2 × After e end k s s2 x) (λ _. ⊥) (if_so stopping (check e kind.Eof >>= if_so (log_here e >> stopping) onward) b s1 w1)
      eaten s1 w1 true (ate p i l) = stops_at s1 w1 i (λ s2 x v y. closed (le_trans y l))
      eaten s1 w1 false (missed p t l) = then (check-tells e kind.Eof s1 w1 (stands t q) (omega arith)) (λ _ z. z) (λ s2 w2 b z. checked s1 s2 w2 b p t l z)
