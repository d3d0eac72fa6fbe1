-- The rules of cursor are blind to what the lent buffers held.
use mathlib.Core.Path.{◌≡◌, refl, sym, ap, ◌∙◌, subst}
use mathlib.Core.List.{List, [], ◌∷◌}
use mathlib.Core.Bool.{Bool, true, false, cond}
use Prim.Native.Nat.{ℕ, zero, suc, ◌+◌, ◌*◌, ◌/◌, ◌≤◌, min}
use native.Mathlib.Nat.{le_refl}
use native.Mathlib.Omega.{arith}
use lib.Dec.{ltb, leb, eqb}
use lib.ListN.{length, get_or, set, length-set}
use Rattle.cursor.specs.declared.State.{State}
use Rattle.cursor.specs.declared.Fault.{Fault}
use Rattle.cursor.specs.declared.Kids.{Kids}
use Rattle.cursor.specs.declared.Label.{Label}
use Rattle.cursor.specs.Layout.{node_words, KIND, START, END, FIRST, NEXT, ONE, TWO, FLAGS, cell, error_words, error_cell, node_limit, error_limit, expected_limit}
use Rattle.cursor.specs.Sheet.{Sheet, count, kind_at}
use Rattle.cursor.specs.Buffer.{put, copy}
use Rattle.cursor.specs.Rule.{World, Out, done, Rule}
use Rattle.cursor.specs.Tokens.{eat_trivia, bump, eol_turn, eat_eol}
use Rattle.cursor.specs.Checks.{live_room, want, check, eat, expect, eat_range, unexpected, Case, ◌⇒◌, choose}
use Rattle.cursor.specs.Records.{word32, with_nodes, append, write, add, reflag, list_length, write_error, log}
use Rattle.cursor.specs.Attempts.{unbuilt, recover}
use Rattle.cursor.proofs.Chosen.{Every, all, ◌&◌}
use Rattle.cursor.proofs.Keeps.{Mark, mark, mark-stands, Stands, Same}
use Rattle.blind.proofs.Blind.{Twin, twin-below, no_node, no-error, all-spent, too-many-kinds, Twins, well, ill, cut, on, Blind, branch, either, lowered, gives, ifs, binds, thens, loops}

-- the same word written into two buffers: they agree there, and elsewhere where they did
at-put : (xs ys : List ℕ) (i a j : ℕ) → length ys ≡ length xs → ((j ≡ i → ⊥) → get_or ys j 0 ≡ get_or xs j 0) → get_or (set ys i a) j 0 ≡ get_or (set xs i a) j 0
at-put [] [] i a j l h = refl
at-put [] (y ∷ ys) i a j l h = absurd (omega (arith, l))
at-put (x ∷ xs) [] i a j l h = absurd (omega (arith, l))
at-put (x ∷ xs) (y ∷ ys) zero a zero l h = refl
at-put (x ∷ xs) (y ∷ ys) zero a (suc j) l h = h (λ q. omega (arith, q))
at-put (x ∷ xs) (y ∷ ys) (suc i) a zero l h = h (λ q. omega (arith, q))
at-put (x ∷ xs) (y ∷ ys) (suc i) a (suc j) l h = at-put xs ys i a j (omega (arith, l)) (λ n. h (λ q. n (omega (arith, q))))

pub same-put : {n : ℕ} {xs ys : List ℕ} (i a : ℕ) → Same n xs ys → Same n (put xs i a) (put ys i a)
unfolding put
same-put {n} {xs} {ys} i a h = record { long = length-set ys i a ∙ h.long ∙ sym (length-set xs i a); below = λ j p. at-put xs ys i a j h.long (λ _. h.below j p) }

-- at the place where they agree up to: they agree one further
pub same_more : {n : ℕ} {xs ys : List ℕ} (a : ℕ) → Same n xs ys → Same (n + 1) (put xs n a) (put ys n a)
unfolding put
same_more {n} {xs} {ys} a h = record { long = length-set ys n a ∙ h.long ∙ sym (length-set xs n a); below = λ j p. at-put xs ys n a j h.long (λ q. h.below j (omega (arith, p, q))) }

-- the same at a place and up to a number that are told otherwise
same_next : {xs ys : List ℕ} (n i k a : ℕ) → n ≡ i → n + 1 ≡ k → Same n xs ys → Same k (put xs i a) (put ys i a)
same_next {xs} {ys} n i k a p q h = subst (λ x. Same x (put xs i a) (put ys i a)) q (subst (λ x. Same (n + 1) (put xs x a) (put ys x a)) p (same_more a h))

copy-same : {n k : ℕ} {xs ys us vs : List ℕ} (i c : ℕ) → Same n xs ys → Same k us vs → i + c ≤ k → Same (n + c) (copy xs n us i c) (copy ys n vs i c)
unfolding copy
copy-same {n} i zero h g p = let e : n + 0 ≡ n = omega arith in rw e h
copy-same {n} {k} {xs} {ys} {us} {vs} i (suc c) h g p =
    let e : n + suc c ≡ n + 1 + c = omega arith in
    let d : get_or vs i 0 ≡ get_or us i 0 = g.below i (omega arith) in
    rw e (rw d (copy-same {n = n + 1} {k = k} {xs = put xs n (get_or us i 0)} {ys = put ys n (get_or us i 0)} {us = us} {vs = vs} (i + 1) c (same_more (get_or us i 0) h) g (omega arith)))

error-same : {xs ys : List ℕ} (i : ℕ) (f : Fault) (from c : ℕ) → Same (error_words * i) xs ys → Same (error_words * (i + 1)) (write_error xs i f from c) (write_error ys i f from c)
unfolding write_error
error-same i f from c h =
    let one = same_next (error_words * i) (error_cell i 0) (error_cell i 1) f.class (omega arith) (omega arith) h in
    let two = same_next (error_cell i 1) (error_cell i 1) (error_cell i 2) f.found refl (omega arith) one in
    let three = same_next (error_cell i 2) (error_cell i 2) (error_cell i 3) f.span.start refl (omega arith) two in
    let four = same_next (error_cell i 3) (error_cell i 3) (error_cell i 4) f.span.end refl (omega arith) three in
    let five = same_next (error_cell i 4) (error_cell i 4) (error_cell i 5) from refl (omega arith) four in
    same_next (error_cell i 5) (error_cell i 5) (error_words * (i + 1)) c refl (omega arith) five

write_same : {xs ys : List ℕ} (n : ℕ) (l : Label) (first : ℕ) → Same (node_words * n) xs ys → Same (node_words * (n + 1)) (write xs n l first) (write ys n l first)
unfolding write
write_same n l first h =
    let one = same_next (node_words * n) (cell n KIND) (cell n START) l.kind (omega arith) (omega arith) h in
    let two = same_next (cell n START) (cell n START) (cell n END) l.start refl (omega arith) one in
    let three = same_next (cell n END) (cell n END) (cell n FIRST) l.end refl (omega arith) two in
    let four = same_next (cell n FIRST) (cell n FIRST) (cell n NEXT) first refl (omega arith) three in
    let five = same_next (cell n NEXT) (cell n NEXT) (cell n ONE) 0 refl (omega arith) four in
    let six = same_next (cell n ONE) (cell n ONE) (cell n TWO) l.one refl (omega arith) five in
    let seven = same_next (cell n TWO) (cell n TWO) (cell n FLAGS) l.two refl (omega arith) six in
    same_next (cell n FLAGS) (cell n FLAGS) (node_words * (n + 1)) l.flags refl (omega arith) seven

-- no more kinds are listed than the live list has
listed-few : (f : Fault) (s : State) → 0 + list_length f s ≤ s.live
listed-few f s = by f.listed
  where
    by : (b : Bool) → 0 + cond b (min s.live live_room) 0 ≤ s.live
    by true = omega arith
    by false = omega arith

pub want-blind : (k : ℕ) → Blind (want k)
unfolding want
want-blind k = record {
  ends = λ m s w v h t. branch (ltb s.live live_room) refl
      (well (record { nodes = h.nodes; errors = h.errors; wanted = h.wanted }) (record { nodes = t.nodes; errors = t.errors; expected = t.expected; live = same_more k t.live }))
      (cut too-many-kinds);
}

module _ (e : Sheet) where
  pub eat-trivia-blind : Blind (eat_trivia e)
  unfolding eat_trivia
  eat-trivia-blind = record { ends = λ m s w v h t. on refl refl refl (le_refl _) h t }

  pub bump-blind : Blind (bump e)
  unfolding bump
  bump-blind = record {
    ends = λ m s w v h t. branch (ltb s.at (count e.tokens)) refl
        (branch (ltb s.reads e.limits.allowance) refl (on refl refl refl (omega arith) h t) (cut all-spent))
        (on refl refl refl (omega arith) h t);
  }

  eol-blind : (a : Unit) → Blind (eol_turn e a)
  unfolding eol_turn
  eol-blind a = record { ends = λ m s w v h t. branch (eqb (kind_at e.tokens s.at) 69) refl ((thens bump-blind gives).ends m s w v h t) (well h t) }

  pub check-blind : (k : ℕ) → Blind (check e k)
  unfolding check
  check-blind k = record { ends = λ m s w v h t. branch (eqb (kind_at e.tokens s.at) k) refl (well h t) ((thens (want-blind k) gives).ends m s w v h t) }

  pub eat-blind : (k : ℕ) → Blind (eat e k)
  unfolding eat
  eat-blind k = binds (check-blind k) (λ here. ifs here (thens bump-blind gives) gives)

  pub unexpected-blind : {A : Type 0} → Blind {A = A} (unexpected e)
  unfolding unexpected
  unexpected-blind = record { ends = λ m s w v h t. ill h t }

  pub expect-blind : (k : ℕ) → Blind (expect e k)
  unfolding expect
  expect-blind k = binds (eat-blind k) (λ here. ifs here gives unexpected-blind)

  pub eat-range-blind : (k : ℕ) → Blind (eat_range e k)
  unfolding eat_range
  eat-range-blind k = record { ends = λ m s w v h t. (binds (check-blind k) (λ here. ifs here (thens bump-blind gives) gives)).ends m s w v h t }

  -- a chain of checks is blind where all its ways are
  pub chooses : {A : Type 0} (cases : List (Case A)) {other : Rule A} → Every Blind cases → Blind other → Blind (choose e cases other)
  unfolding choose
  chooses [] all x = x
  chooses ((k ⇒ r) ∷ cases) (h & hs) x = binds (check-blind k) (λ here. ifs here h (chooses cases hs x))

  pub eat-eol-blind : Blind (eat_eol e)
  unfolding eat_eol
  eat-eol-blind = thens eat-trivia-blind (loops eol-blind e tt)

-- records
pub append-blind : (l : Label) (first : ℕ) → Blind (append l first)
unfolding append
append-blind l first = record {
  ends = λ m s w v h t. (branch (ltb s.nodes (min (length w.nodes / node_words) node_limit)) (ap (λ n. ltb s.nodes (min (n / node_words) node_limit)) t.nodes.long)
      (well (record { nodes = omega (arith, h.nodes); errors = h.errors; wanted = h.wanted }) (record { nodes = write_same s.nodes l first t.nodes; errors = t.errors; expected = t.expected; live = t.live }))
      (cut no_node));
}

pub add-blind : (k : Kids) (link : ℕ) → Blind (add k link)
unfolding add
add-blind k link = record { ends = λ m s w v h t. by k.last m s w v h t }
  where
    by : (last : ℕ) (m : Mark) (s : State) (w v : World) → Stands m s → Twin s w v → Twins {A = Kids} m (elim last as (λ _. Out Kids) [
      | zero ↦ done s w (record { first = link; last = link; count = word32 (k.count + 1) })
      | suc i ↦ done s (with_nodes w (put w.nodes (cell i NEXT) link)) (record { first = k.first; last = link; count = word32 (k.count + 1) })
    ]) (elim last as (λ _. Out Kids) [
      | zero ↦ done s v (record { first = link; last = link; count = word32 (k.count + 1) })
      | suc i ↦ done s (with_nodes v (put v.nodes (cell i NEXT) link)) (record { first = k.first; last = link; count = word32 (k.count + 1) })
    ])
    by zero m s w v h t = well h t
    by (suc i) m s w v h t = well h (record { nodes = same-put (cell i NEXT) link t.nodes; errors = t.errors; expected = t.expected; live = t.live })

pub reflag-blind : (link flags : ℕ) → Blind (reflag link flags)
unfolding reflag
reflag-blind zero flags = gives
reflag-blind (suc i) flags = record { ends = λ m s w v h t. well h (record { nodes = same-put (cell i FLAGS) flags t.nodes; errors = t.errors; expected = t.expected; live = t.live }) }

pub log-blind : (f : Fault) → Blind (log f)
unfolding log
log-blind f = record {
  ends = λ m s w v h t. (branch (ltb s.errors (min (length w.errors / error_words) error_limit)) (ap (λ n. ltb s.errors (min (n / error_words) error_limit)) t.errors.long)
      (branch (leb (s.wanted + list_length f s) (min (length w.expected) expected_limit)) (ap (λ n. leb (s.wanted + list_length f s) (min n expected_limit)) t.expected.long)
      (well (record { nodes = h.nodes; errors = omega (arith, h.errors); wanted = omega (arith, h.wanted) })
      (record { nodes = t.nodes; errors = error-same s.errors f _ _ t.errors; expected = copy-same 0 (list_length f s) t.expected t.live (listed-few f s); live = t.live }))
      (cut no-error))
      (cut no-error));
}

-- recovery: the error is logged, with the node records given back that were built since
pub recovers : {A B : Type 0} {r : Rule A} {k : A → Rule B} {back : Rule B} → Blind r → ((a : A) → Blind (k a)) → Blind back → Blind (recover r k back)
unfolding recover
recovers x y z = record {
  ends = λ m s w v h t. lowered h (either (x.ends (mark s) s w v (mark-stands s) t)
      (λ s1 w1 v1 a g u. (y a).ends (mark s) s1 w1 v1 g u)
      (λ s1 w1 v1 f g u. (thens (log-blind f) z).ends (mark s) (unbuilt s s1) w1 v1 (record { nodes = le_refl _; errors = g.errors; wanted = g.wanted }) (twin-below g.nodes (le_refl _) (le_refl _) (le_refl _) u)));
}
