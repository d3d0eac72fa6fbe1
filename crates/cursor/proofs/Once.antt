-- Each record of a finished tree is met exactly once when the tree is read, and no other record is.
use Rattle.std.proofs.Common.{◌≡◌, ℕ, zero, suc, ◌+◌, ◌-◌, ◌<◌, ◌≤◌, eqb, ltb, List, length, refl, ◌∙◌, arith, le-ltb, lt-ltb, eq-eqb, ne_eqb}
use native.Mathlib.Decide.{dec_lt, ℕ_discrete}
use Rattle.cursor.specs.declared.Label.{Label}
use Rattle.cursor.specs.Layout.{FIRST, NEXT}
use Rattle.cursor.specs.Tree.{Trees, word}
use Rattle.cursor.specs.Visits.{times, met, uses}
use Rattle.cursor.proofs.Finished.{after, Built, built, Row, nil, snoc, built_in, row-le}

module _ (i : ℕ) where
  -- 1 for the records below n
  under : ℕ → ℕ
  under n = times (ltb i n)

  under-in : (n : ℕ) → i < n → under n ≡ 1
  unfolding under
  under-in n h = rw (lt-ltb _ _ h, under)

  under-out : (n : ℕ) → n ≤ i → under n ≡ 0
  unfolding under
  under-out n h = rw (le-ltb _ _ h, under)

  -- from one record to the next, that one comes in
  step : (r : ℕ) → times (eqb i r) + under r ≡ under (suc r)
  step r = by (dec_lt i r) (ℕ_discrete i r)
    where
      by : Dec (i < r) → Dec (i ≡ r) → times (eqb i r) + under r ≡ under (suc r)
      by (yes p) q = rw (ne_eqb i r (omega arith), under-in r p, under-in (suc r) (omega arith)) refl
      by (no p) (yes q) = rw (eq-eqb i r q, under-out r (omega arith), under-in (suc r) (omega arith)) refl
      by (no p) (no q) = rw (ne_eqb i r q, under-out r (omega arith), under-out (suc r) (omega arith)) refl

  ups : (a b : ℕ) → a ≤ b → under a ≤ under b
  ups a b h = by (dec_lt i a)
    where
      by : Dec (i < a) → under a ≤ under b
      by (yes p) = rw (under-in a p, under-in b (omega arith)) (omega arith)
      by (no p) = rw (under-out a (omega arith)) (omega arith)

  -- so often, wherever the reading may take at least k steps
  record Meets (xs : List ℕ) (k link n : ℕ) : Type 0 where
    at : (j : ℕ) → k ≤ j → met j xs link i ≡ n

  meets-none : (xs : List ℕ) {link : ℕ} → link ≡ 0 → Meets xs 1 link 0
  unfolding met
  meets-none xs {link} e = record { at = go }
    where
      go : (j : ℕ) → 1 ≤ j → met j xs link i ≡ 0
      go zero h = absurd (omega arith)
      go (suc j) h = rw e refl

  meets-node : (xs : List ℕ) (k m r a b : ℕ) {link : ℕ} → link ≡ suc r → Meets xs m (word xs r FIRST) a → Meets xs k (word xs r NEXT) b → 1 ≤ k → 1 ≤ m → Meets xs (k + m) link (times (eqb i r) + (a + b))
  unfolding met
  meets-node xs k m r a b {link} e x y p q = record { at = go }
    where
      go : (j : ℕ) → k + m ≤ j → met j xs link i ≡ times (eqb i r) + (a + b)
      go zero h = absurd (omega arith)
      go (suc j) h = rw (e, x.at j (omega arith), y.at j (omega arith)) refl

  mutual
    built-met : {xs : List ℕ} {lo hi root last : ℕ} {l : Label} {ks : Trees} → Built xs lo hi root last l ks → Meets xs (hi - lo) (word xs root FIRST) (under hi - under (suc root) + (under root - under lo))
    built-met {xs} (built {root = root} e q a b z u) =
        let ia = row-le a in
        let ib = row-le b in
        let x = row-met a (row-met b (meets-none xs z) (omega arith)) (omega arith) in
        record { at = λ j h. rw q (x.at j (omega arith) ∙ omega arith) }

    row-met : {xs : List ℕ} {first lo hi m n k c : ℕ} {ts : Trees} → Row xs first lo hi m n ts → Meets xs k (after xs first n) c → 1 ≤ k → Meets xs (k + (hi - lo)) (after xs first m) (c + (under hi - under lo))
    row-met (nil h) x p = record { at = λ j o. rw h (x.at j (omega arith) ∙ omega arith) }
    row-met {xs} {k = k} {c = c} (snoc {lo = lo} {mid = mid} {hi = hi} {root = root} a q b u) x p =
        let ia = row-le a in
        let ib = built_in b in
        let y = meets-node xs k (hi - mid) root _ c q (built-met b) x p (omega arith) in
        let v = row-met a y (omega arith) in
        record { at = λ j o. v.at j (omega arith) ∙ omega (arith, step root, ups lo mid ia, ups mid root ib.0, ups (suc root) hi ib.1) }

module _ {xs : List ℕ} {lo hi root last : ℕ} {l : Label} {ks : Trees} (b : Built xs lo hi root last l ks) (fits : hi ≤ length xs) (i : ℕ) where
  built-uses : uses xs root i + under i lo ≡ under i hi
  unfolding uses
  built-uses =
      let j = built_in b in
      rw ((built-met i b).at (length xs) (omega arith)) (omega (arith, step i root, ups i lo root j.0, ups i (suc root) hi j.1))

  -- each of the tree's records once
  pub built-once : lo ≤ i → i < hi → uses xs root i ≡ 1
  built-once p q = omega (arith, built-uses, under-out i lo p, under-in i hi q)

  -- and no other
  pub built-never-below : i < lo → uses xs root i ≡ 0
  built-never-below p = let j = built_in b in omega (arith, built-uses, under-in i lo p, under-in i hi (omega arith))

  pub built-never-above : hi ≤ i → uses xs root i ≡ 0
  built-never-above p = omega (arith, built-uses, under-out i hi p)
