-- What each rule of this crate keeps (Keeps). Each is stated for any mark; a rule on records says which links it may be handed.
use Rattle.std.proofs.Common.{◌≡◌, ℕ, zero, suc, ◌+◌, ◌*◌, ◌/◌, ◌<◌, ◌≤◌, min, eqb, ltb, leb, List, [], ◌∷◌, length, get_or, refl, ◌∙◌, le_trans, le_refl, arith, get_or-set_other}
use Rattle.cursor.specs.declared.State.{State}
use Rattle.cursor.specs.declared.Fault.{Fault}
use Rattle.cursor.specs.declared.Kids.{Kids}
use Rattle.cursor.specs.declared.Label.{Label}
use Rattle.cursor.specs.Layout.{NEXT, FLAGS, cell, error_words, error_cell, error_limit, expected_limit}
use Rattle.cursor.specs.Sheet.{Sheet, count, kind_at}
use Rattle.cursor.specs.Buffer.{put, copy}
use Rattle.cursor.specs.Rule.{World, Rule}
use Rattle.cursor.specs.Tokens.{eat_trivia, bump, eol_turn, eat_eol}
use Rattle.cursor.specs.Checks.{live_room, want, check, eat, expect, eat_range, unexpected, Case, ◌⇒◌, choose}
use Rattle.cursor.specs.Records.{with_nodes, append, add, reflag, list_length, write_error, log}
use Rattle.cursor.specs.Attempts.{unbuilt, recover}
use Rattle.cursor.proofs.Ends.{well, ill, cut, branch, either}
use Rattle.cursor.proofs.TokenPaths.{past-ge}
use Rattle.cursor.proofs.Writes.{put-length, put-below, put-agree, write-agree, write-length}
use Rattle.cursor.proofs.RecordPaths.{room_for, linked, add_is}
use Rattle.cursor.proofs.Chosen.{Every, all, ◌&◌}
use Rattle.cursor.proofs.Keeps.{later, later_refl, Mark, mark_behind, ground, stands-later, Same, same_refl, same-trans, Kept, kept_refl, kept-nodes, went_refl, earlier, Keeps, Plain, gives, ifs, binds, thens, Nexts, loops}

module _ {m : Mark} where
  pub want-keeps : (k : ℕ) → Keeps m Plain (want k)
  unfolding want
  want-keeps k = record {
    ends = λ s w h. branch (ltb s.live live_room)
        (λ _. well (record { later = later (le_refl _) (le_refl _) (le_refl _) (le_refl _) (le_refl _); kept = record { nodes = record { at = λ i k p q r n. refl }; nodes-long = refl; errors = same_refl _ _; expected = same_refl _ _; live-long = put-length _ _ _ } }, tt))
        (λ _. cut);
  }

module _ {m : Mark} (e : Sheet) where
  pub eat-trivia-keeps : Keeps m Plain (eat_trivia e)
  unfolding eat_trivia
  eat-trivia-keeps = record { ends = λ s w h. well (record { later = later (past-ge _ _) (le_refl _) (le_refl _) (le_refl _) (le_refl _); kept = kept_refl m w }, tt) }

  pub bump-keeps : Keeps m Plain (bump e)
  unfolding bump
  bump-keeps = record {
    ends = λ s w h. branch (ltb s.at (count e.tokens))
        (λ _. branch (ltb s.reads e.limits.allowance) (λ _. well (record { later = later (omega (arith, past-ge e.tokens (s.at + 1))) (omega arith) (le_refl _) (le_refl _) (le_refl _); kept = kept_refl m w }, tt)) (λ _. cut))
        (λ _. well (record { later = later (le_refl _) (le_refl _) (le_refl _) (le_refl _) (le_refl _); kept = kept_refl m w }, tt));
  }

  pub eol-keeps : (a : Unit) → Keeps m (Nexts Plain) (eol_turn e a)
  unfolding eol_turn
  eol-keeps a = record { ends = λ s w h. branch (eqb (kind_at e.tokens s.at) 69) (λ _. (thens bump-keeps (gives tt)).ends s w h) (λ _. well (went_refl m s w, tt)) }

  pub check-keeps : (k : ℕ) → Keeps m Plain (check e k)
  unfolding check
  check-keeps k = record { ends = λ s w h. branch (eqb (kind_at e.tokens s.at) k) (λ _. well (went_refl m s w, tt)) (λ _. (thens (want-keeps k) (gives tt)).ends s w h) }

  pub eat-keeps : (k : ℕ) → Keeps m Plain (eat e k)
  unfolding eat
  eat-keeps k = binds (check-keeps k) (λ here _. ifs here (thens bump-keeps (gives tt)) (gives tt))

  pub unexpected-keeps : {A : Type 0} {G : A → Type 0} → Keeps m G (unexpected e)
  unfolding unexpected
  unexpected-keeps = record { ends = λ s w h. ill (went_refl m s w) }

  pub expect-keeps : (k : ℕ) → Keeps m Plain (expect e k)
  unfolding expect
  expect-keeps k = binds (eat-keeps k) (λ here _. ifs here (gives tt) unexpected-keeps)

  pub eat-range-keeps : (k : ℕ) → Keeps m Plain (eat_range e k)
  unfolding eat_range
  eat-range-keeps k = record { ends = λ s w h. (binds (check-keeps k) (λ here _. ifs here (thens bump-keeps (gives tt)) (gives tt))).ends s w h }

  -- a chain of checks keeps what all its ways keep
  pub chooses : {A : Type 0} {G : A → Type 0} (cases : List (Case A)) {other : Rule A} → Every (Keeps m G) cases → Keeps m G other → Keeps m G (choose e cases other)
  unfolding choose
  chooses [] all x = x
  chooses ((k ⇒ r) ∷ cases) (h & hs) x = binds (check-keeps k) (λ here _. ifs here h (chooses cases hs x))

  pub eat-eol-keeps : Keeps m Plain (eat_eol e)
  unfolding eat_eol
  eat-eol-keeps = thens eat-trivia-keeps (loops (λ a _. eol-keeps a) e tt)

-- a word written at or above a place
put-same-below : (n : ℕ) (xs : List ℕ) (i a : ℕ) → n ≤ i → Same n xs (put xs i a)
unfolding put
put-same-below n xs i a h = record { long = put-length xs i a; below = λ j p. get_or-set_other xs i j a 0 (omega arith) }

copy-same : (n : ℕ) (ys : List ℕ) (i : ℕ) (xs : List ℕ) (k c : ℕ) → n ≤ i → Same n ys (copy ys i xs k c)
unfolding copy
copy-same n ys i xs k zero h = same_refl n ys
copy-same n ys i xs k (suc c) h = same-trans (put-same-below n ys i _ h) (copy-same n (put ys i (get_or xs k 0)) (i + 1) xs (k + 1) c (omega arith))

error-same : (n : ℕ) (xs : List ℕ) (i : ℕ) (f : Fault) (from c : ℕ) → n ≤ i → Same (error_words * n) xs (write_error xs i f from c)
unfolding write_error
error-same n xs i f from c h =
    let at : (ys : List ℕ) (k a : ℕ) → Same (error_words * n) ys (put ys (error_cell i k) a) = λ ys k a. put-same-below _ ys _ a (omega arith) in
    same-trans (same-trans (same-trans (same-trans (same-trans (at _ 0 _) (at _ 1 _)) (at _ 2 _)) (at _ 3 _)) (at _ 4 _)) (at _ 5 _)

-- what may be written behind: no record, the one whose next link is the mark's spare word, or a record at or above the mark
pub data Mine (m : Mark) : ℕ → Type 0 where
  nothing : Mine m 0
  theirs : {i : ℕ} → cell i NEXT ≡ m.spare → Mine m (suc i)
  ours : {i : ℕ} → m.nodes ≤ i → Mine m (suc i)

-- a link to a record that was made since the mark
abbrev pub Fresh : Mark → ℕ → Type 0
Fresh m link = m.nodes < link

-- a row of which that holds
abbrev pub RowFor : Mark → Kids → Type 0
RowFor m k = Mine m k.last

-- the row that a caller hands over; and any row, where nothing need stay
pub row-behind : (s : State) (link : ℕ) → Mine (mark_behind s link) link
row-behind s zero = nothing
row-behind s (suc i) = theirs refl

pub ground-mine : (link : ℕ) → Mine ground link
ground-mine zero = nothing
ground-mine (suc i) = ours {i = i} (omega arith)

module _ {m : Mark} where
  pub fresh-mine : (link : ℕ) → Fresh m link → Mine m link
  fresh-mine zero h = nothing
  fresh-mine (suc i) h = ours {i = i} (omega arith)

  pub append-keeps : (l : Label) (first : ℕ) → Keeps m (Fresh m) (append l first)
  unfolding append
  append-keeps l first = record {
    ends = λ s w h. branch (ltb s.nodes (room_for w))
        (λ _. well (record { later = later (le_refl _) (le_refl _) (omega arith) (le_refl _) (le_refl _); kept = kept-nodes w (write-agree _ _ l first 0 m.nodes _ h.nodes) (write-length _ _ l first) }, omega arith))
        (λ _. cut);
  }

  linked-kept : {last : ℕ} (w : World) (link : ℕ) → Mine m last → Kept m w (with_nodes w (linked w.nodes last link))
  linked-kept w link nothing = kept_refl m w
  linked-kept w link (theirs {i} q) = kept-nodes w (record { at = λ j k a b c n. (put-agree w.nodes _ link 0 _).at j k a b c (λ x. n (x ∙ q)) }) (put-length _ _ _)
  linked-kept w link (ours {i} p) = kept-nodes w (put-below w.nodes (cell i NEXT) link 0 m.nodes (omega arith)) (put-length _ _ _)

  -- one more in a row: what is written is the link behind its last child
  pub add-keeps : (k : Kids) (link : ℕ) → RowFor m k → Mine m link → Keeps m (RowFor m) (add k link)
  add-keeps k link p q = record { ends = λ s w h. rw (add_is k link s w) (well (record { later = later_refl s; kept = linked-kept w link p }, q)) }

  pub reflag-keeps : (link flags : ℕ) → Fresh m link → Keeps m Plain (reflag link flags)
  unfolding reflag
  reflag-keeps zero flags p = absurd (omega arith)
  reflag-keeps (suc i) flags p = record { ends = λ s w h. well (record { later = later_refl s; kept = kept-nodes w (put-below w.nodes (cell i FLAGS) flags 0 m.nodes (omega arith)) (put-length _ _ _) }, tt) }

  pub log-keeps : (f : Fault) → Keeps m Plain (log f)
  unfolding log
  log-keeps f = record {
    ends = λ s w h. branch (ltb s.errors (min (length w.errors / error_words) error_limit))
        (λ _. branch (leb (s.wanted + list_length f s) (min (length w.expected) expected_limit))
        (λ _. well (record { later = later (le_refl _) (le_refl _) (le_refl _) (omega arith) (omega arith); kept = record { nodes = record { at = λ i k p q r n. refl }; nodes-long = refl; errors = error-same _ _ _ f _ _ h.errors; expected = copy-same _ _ _ _ _ _ h.wanted; live-long = refl } }, tt))
        (λ _. cut))
        (λ _. cut);
  }

-- recovery: the error is logged, with the node records given back that were built since
module _ {A B : Type 0} {m : Mark} {G : A → Type 0} {H : B → Type 0} where
  pub recovers : {r : Rule A} {k : A → Rule B} {back : Rule B} → Keeps m G r → ((a : A) → G a → Keeps m H (k a)) → Keeps m H back → Keeps m H (recover r k back)
  unfolding recover
  recovers x y z = record {
    ends = λ s w h. either (x.ends s w h)
        (λ s1 w1 a p. earlier p.0 ((y a p.1).ends s1 w1 (stands-later h p.0.later)))
        (λ s1 w1 f p. let l = p.later in earlier (record { later = later l.at l.reads (le_refl _) l.errors l.wanted; kept = p.kept }) ((thens (log-keeps f) z).ends (unbuilt s s1) w1 (record { nodes = h.nodes; errors = le_trans h.errors l.errors; wanted = le_trans h.wanted l.wanted })));
  }
