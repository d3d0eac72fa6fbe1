-- Each way through an undone attempt, through recovery, and through what follows a statement.
use Rattle.std.specs.Prelude.{Result, Err}
use mathlib.Core.Path.{◌≡◌, refl, ap, ◌∙◌}
use mathlib.Core.Bool.{true, false}
use mathlib.Core.List.{[], ◌∷◌}
use Prim.Native.Nat.{ℕ, ◌<◌, ◌≤◌}
use borrow.Author.Tests.{lt-ltb, le-ltb}
use Rattle.kinds.specs.Number as kind
use Rattle.cursor.specs.declared.State.{State}
use Rattle.cursor.specs.declared.Kids.{Kids}
use Rattle.cursor.specs.declared.Fault.{Fault}
use Rattle.cursor.specs.declared.Stop as declared
use Rattle.cursor.specs.Sheet.{Sheet}
use Rattle.cursor.specs.Rule.{World, Stop, fault, refused, Out, done, failed, more, stop, iterate}
use Rattle.cursor.specs.Tokens.{bump, eat_eol}
use Rattle.cursor.specs.Checks.{check, eat, expect, pick, unexpected_at}
use Rattle.cursor.specs.Records.{log}
use Rattle.cursor.specs.Attempts.{unbuilt, recover}
use Rattle.types.specs.Items.{add_some}
use Rattle.parts.specs.Recovery.{skip_turn, skip, skipped, recovering, log_here, line_end, after_stmt}
use Rattle.parts.proofs.Placed.{skip-turn-placed}

-- an error, told apart in two steps
pub told-apart : {A : Type 0} {r : Result A declared.Stop} {x y : declared.Stop} → r ≡ Err x → x ≡ y → r ≡ Err y
told-apart p q = p ∙ ap (λ z. Err z) q

module _ (e : Sheet) (end : ℕ) (s : State) (w : World) where
  pub skip_is : skip e end s w ≡ iterate e (skip_turn e end) tt s w
  unfolding skip
  skip_is = refl

  pub skip-full : {x : Stop} → pick e (kind.Eol ∷ kind.Eof ∷ end ∷ []) s w ≡ failed x → skip_turn e end tt s w ≡ failed x
  skip-full p = rw (skip-turn-placed e end tt) (rw p)

  module _ {which : ℕ} {s1 : State} {w1 : World} (p : pick e (kind.Eol ∷ kind.Eof ∷ end ∷ []) s w ≡ done s1 w1 which) where
    pub skip-here : which < 3 → skip_turn e end tt s w ≡ done s1 w1 (stop tt)
    skip-here q = rw (skip-turn-placed e end tt) (rw p (rw (lt-ltb _ _ q)))

    pub skip-spent : {x : Stop} → 3 ≤ which → bump e s1 w1 ≡ failed x → skip_turn e end tt s w ≡ failed x
    skip-spent q r = rw (skip-turn-placed e end tt) (rw p (rw (le-ltb _ _ q) (rw r)))

    pub skip-more : {s2 : State} {w2 : World} → 3 ≤ which → bump e s1 w1 ≡ done s2 w2 tt → skip_turn e end tt s w ≡ done s2 w2 (more tt)
    skip-more q r = rw (skip-turn-placed e end tt) (rw p (rw (le-ltb _ _ q) (rw r)))

  pub skipped-failed : {x : Stop} → skip e end s w ≡ failed x → skipped e end s w ≡ failed x
  unfolding skipped
  skipped-failed p = rw p

  pub skipped-on : {s1 : State} {w1 : World} → skip e end s w ≡ done s1 w1 tt → skipped e end s w ≡ done s1 w1 0
  unfolding skipped
  skipped-on p = rw p

-- how a statement that began at a mark goes on
module _ (e : Sheet) (end : ℕ) (mark : State) {o : Out ℕ} where
  pub recovering-node : {s : State} {w : World} {link : ℕ} → o ≡ done s w link → recovering e end mark o ≡ done s w link
  unfolding recovering
  recovering-node p = rw p

  pub recovering-refused : {n : ℕ} → o ≡ failed (refused n) → recovering e end mark o ≡ failed (refused n)
  unfolding recovering
  recovering-refused p = rw p

  module _ {s back : State} {w : World} {f : Fault} (p : o ≡ failed (fault s w f)) (q : back ≡ unbuilt mark s) where
    pub recovering-full : {x : Stop} → log f back w ≡ failed x → recovering e end mark o ≡ failed x
    unfolding recovering
    recovering-full r = rw p (rw (← q) (rw r))

    module _ {s1 : State} {w1 : World} (r : log f back w ≡ done s1 w1 tt) where
      pub recovering-on : recovering e end mark o ≡ skipped e end s1 w1
      unfolding recovering
      recovering-on = rw p (rw (← q) (rw r))

module _ (e : Sheet) (s : State) (w : World) where
  pub log-here : {f : Fault} → f ≡ unexpected_at e s → log_here e s w ≡ log f s w
  unfolding log_here
  log-here p = rw p

  -- the end of a line
  pub line-there : {s1 : State} {w1 : World} → expect e kind.Eol s w ≡ done s1 w1 tt → line_end e s w ≡ done s1 w1 tt
  unfolding line_end recover
  line-there p = rw p

  pub line_refused : {n : ℕ} → expect e kind.Eol s w ≡ failed (refused n) → line_end e s w ≡ failed (refused n)
  unfolding line_end recover
  line_refused p = rw p

  -- where it is missing the line ends as its logging does
  pub line-missing : (o : Out Unit) {s1 back : State} {w1 : World} {f : Fault} → expect e kind.Eol s w ≡ failed (fault s1 w1 f) → back ≡ unbuilt s s1 → o ≡ log f back w1 → line_end e s w ≡ o
  unfolding line_end recover
  line-missing (done s2 w2 tt) p q r = rw p (rw (← q) (rw (← r)))
  line-missing (failed x) p q r = rw p (rw (← q) (rw (← r)))

-- after a statement
module _ (e : Sheet) (end : ℕ) (kids : Kids) (link : ℕ) (s : State) (w : World) where
  pub after-full : {x : Stop} → eat e end s w ≡ failed x → after_stmt e end kids link s w ≡ failed x
  unfolding after_stmt
  after-full p = rw p

  pub after-closed : {all : Kids} {s1 s2 : State} {w1 w2 : World} → eat e end s w ≡ done s1 w1 true → done s2 w2 all ≡ add_some kids link s1 w1 → after_stmt e end kids link s w ≡ done s2 w2 (stop all)
  unfolding after_stmt
  after-closed p q = rw p (rw (← q))

  module _ {s1 : State} {w1 : World} (p : eat e end s w ≡ done s1 w1 false) where
    pub after-lost : {x : Stop} → check e kind.Eof s1 w1 ≡ failed x → after_stmt e end kids link s w ≡ failed x
    unfolding after_stmt
    after-lost q = rw p (rw q)

    module _ {s2 : State} {w2 : World} {f : Fault} (q : check e kind.Eof s1 w1 ≡ done s2 w2 true) (u : f ≡ unexpected_at e s2) where
      pub after-unlogged : {x : Stop} → log f s2 w2 ≡ failed x → after_stmt e end kids link s w ≡ failed x
      unfolding after_stmt
      after-unlogged r = rw p (rw q (rw (log-here e s2 w2 u) (rw r)))

      pub after-over : {all : Kids} {s3 s4 : State} {w3 w4 : World} → log f s2 w2 ≡ done s3 w3 tt → done s4 w4 all ≡ add_some kids link s3 w3 → after_stmt e end kids link s w ≡ done s4 w4 (stop all)
      unfolding after_stmt
      after-over r a = rw p (rw q (rw (log-here e s2 w2 u) (rw r (rw (← a)))))

    module _ {s2 : State} {w2 : World} (q : check e kind.Eof s1 w1 ≡ done s2 w2 false) where
      pub after-broken : {x : Stop} → line_end e s2 w2 ≡ failed x → after_stmt e end kids link s w ≡ failed x
      unfolding after_stmt
      after-broken r = rw p (rw q (rw r))

      module _ {s3 : State} {w3 : World} (r : line_end e s2 w2 ≡ done s3 w3 tt) where
        pub after-spent : {x : Stop} → eat_eol e s3 w3 ≡ failed x → after_stmt e end kids link s w ≡ failed x
        unfolding after_stmt
        after-spent a = rw p (rw q (rw r (rw a)))

        pub after_more : {longer : Kids} {s4 s5 : State} {w4 w5 : World} → eat_eol e s3 w3 ≡ done s4 w4 tt → done s5 w5 longer ≡ add_some kids link s4 w4 → after_stmt e end kids link s w ≡ done s5 w5 (more longer)
        unfolding after_stmt
        after_more a b = rw p (rw q (rw r (rw a (rw (← b)))))
