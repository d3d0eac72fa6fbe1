-- Each way through the rules that write records.
use Rattle.std.proofs.Common.{◌≡◌, ℕ, zero, suc, ◌+◌, ◌-◌, ◌*◌, ◌/◌, ◌<◌, ◌≤◌, min, Bool, true, false, cond, List, length, get_or, set, sym, refl, ◌∙◌, le_of_lt, arith, le-ltb, lt-ltb, le-leb}
use native.Mathlib.Nat.{min-eq_left, min-eq_right}
use lib.Seq.{set_out}
use borrow.Author.Tests.{lt-leb}
use Rattle.cursor.specs.declared.State.{State}
use Rattle.cursor.specs.declared.Fault.{Fault}
use Rattle.cursor.specs.declared.Kids.{Kids}
use Rattle.cursor.specs.declared.Label.{Label}
use Rattle.cursor.specs.Buffer.{put, copy}
use Rattle.cursor.specs.Layout.{node_words, NEXT, FLAGS, cell, error_words, node_limit, error_limit, expected_limit}
use Rattle.cursor.specs.Rule.{World, refused, done, failed}
use Rattle.cursor.specs.Checks.{live_room}
use Rattle.cursor.specs.Records.{word32, bit, write, with_nodes, append, add, reflag, list_length, write_error, log}

-- the smaller of a room and a limit, as the code picks it
pub within-room : {a b : ℕ} → a < b → a ≡ min a b
within-room p = sym (min-eq_left (le_of_lt p))

pub within-limit : {a b : ℕ} → b ≤ a → b ≡ min a b
within-limit p = sym (min-eq_right p)

-- a store past the end changes nothing
pub put-past : (xs : List ℕ) (i a : ℕ) → length xs ≤ i → put xs i a ≡ xs
unfolding put
put-past xs i a h = set_out xs i a h

-- the eight stores of a record
pub written : (xs : List ℕ) (n : ℕ) (l : Label) (first : ℕ) → set (set (set (set (set (set (set (set xs (8 * n + 0) l.kind) (8 * n + 1) l.start) (8 * n + 2) l.end) (8 * n + 3) first) (8 * n + 4) 0) (8 * n + 5) l.one) (8 * n + 6) l.two) (8 * n + 7) l.flags ≡ write xs n l first
unfolding write put
written xs n l first = refl

-- how many node records there is room for
abbrev pub room_for : World → ℕ
room_for w = min (length w.nodes / node_words) node_limit

-- one record more
abbrev pub counted : State → State
counted s = record { at = s.at; prev = s.prev; reads = s.reads; nodes = s.nodes + 1; errors = s.errors; wanted = s.wanted; live = s.live }

module _ (l : Label) (first : ℕ) (s : State) (w : World) {room : ℕ} (r : room ≡ room_for w) where
  pub append-full : room ≤ s.nodes → append l first s w ≡ failed (refused 7)
  unfolding append
  append-full p = rw (le-ltb _ _ (rw r at p), append)

  pub append-room : {xs : List ℕ} → s.nodes < room → xs ≡ write w.nodes s.nodes l first → append l first s w ≡ done (counted s) (with_nodes w xs) (s.nodes + 1)
  unfolding append
  append-room p q = rw (lt-ltb _ _ (rw r at p), append) (rw q)

module _ (k : Kids) (link : ℕ) (s : State) (w : World) where
  pub add-first : {n : ℕ} → k.last ≡ 0 → n ≡ word32 (k.count + 1) → add k link s w ≡ done s w (record { first = link; last = link; count = n })
  unfolding add
  add-first p q = rw (p, add) (rw q)

  pub add-more : {n i : ℕ} {xs : List ℕ} → k.last ≡ suc i → n ≡ word32 (k.count + 1) → xs ≡ put w.nodes (cell i NEXT) link → add k link s w ≡ done s (with_nodes w xs) (record { first = k.first; last = link; count = n })
  unfolding add
  add-more p q r = rw (p, add) (rw (q, r))

-- the buffer, and the row, with one more child that a link leads to
abbrev pub linked : List ℕ → ℕ → ℕ → List ℕ
linked xs zero link = xs
linked xs (suc i) link = put xs (cell i NEXT) link

abbrev pub first_of : ℕ → ℕ → ℕ → ℕ
first_of zero first link = link
first_of (suc i) first link = first

abbrev pub added : Kids → ℕ → Kids
added k link = record { first = first_of k.last k.first link; last = link; count = word32 (k.count + 1) }

-- the two ways of `add` in one equation
pub add_is : (k : Kids) (link : ℕ) (s : State) (w : World) → add k link s w ≡ done s (with_nodes w (linked w.nodes k.last link)) (added k link)
add_is k link s w = go k.first k.last k.count
  where
    go : (f n c : ℕ) → let k1 : Kids = record { first = f; last = n; count = c } in add k1 link s w ≡ done s (with_nodes w (linked w.nodes n link)) (added k1 link)
    go f zero c = add-first _ link s w refl refl
    go f (suc i) c = add-more _ link s w refl refl refl

module _ (link flags : ℕ) (s : State) (w : World) where
  pub reflag-none : link ≡ 0 → reflag link flags s w ≡ done s w tt
  unfolding reflag
  reflag-none p = rw (p, reflag)

  pub reflag-on : {i : ℕ} {xs : List ℕ} → link ≡ suc i → xs ≡ put w.nodes (cell i FLAGS) flags → reflag link flags s w ≡ done s (with_nodes w xs) tt
  unfolding reflag
  reflag-on p q = rw (p, reflag) (rw q)

pub bit_le : (b : Bool) → bit b ≤ 1
bit_le true = omega arith
bit_le false = omega arith

-- a number that is not 0 is one more than the number before it
pub before : {n : ℕ} → (n ≡ 0 → ⊥) → n ≡ suc (n - 1)
before p = omega arith

module _ (f : Fault) (s : State) where
  pub length-listed : {n : ℕ} → f.listed ≡ true → n ≡ min s.live live_room → n ≡ list_length f s
  length-listed p q = q ∙ sym (rw p)

  pub length-unlisted : f.listed ≡ false → 0 ≡ list_length f s
  length-unlisted p = sym (rw p)

  pub length-le : list_length f s ≤ live_room
  length-le = by f.listed
    where
      by : (b : Bool) → cond b (min s.live live_room) 0 ≤ live_room
      by true = omega arith
      by false = omega arith

-- the six stores of an error record
pub error-written : (xs : List ℕ) (i : ℕ) (f : Fault) (from n : ℕ) → set (set (set (set (set (set xs (6 * i + 0) f.class) (6 * i + 1) f.found) (6 * i + 2) f.span.start) (6 * i + 3) f.span.end) (6 * i + 4) from) (6 * i + 5) n ≡ write_error xs i f from n
unfolding write_error put
error-written xs i f from n = refl

module _ (f : Fault) (s : State) (w : World) {room : ℕ} (r : room ≡ min (length w.errors / error_words) error_limit) where
  pub log-full : room ≤ s.errors → log f s w ≡ failed (refused 8)
  unfolding log
  log-full p = rw (le-ltb _ _ (rw r at p), log)

  module _ {n most : ℕ} (p : s.errors < room) (q : n ≡ list_length f s) (m : most ≡ min (length w.expected) expected_limit) where
    pub log-crowded : most < s.wanted + n → log f s w ≡ failed (refused 8)
    unfolding log
    log-crowded h = rw (lt-ltb _ _ (rw r at p), log) (rw (lt-leb _ _ (rw (m, q) at h)))

    pub log-on : {es xs : List ℕ} → s.wanted + n ≤ most → es ≡ write_error w.errors s.errors f s.wanted n → xs ≡ copy w.expected s.wanted w.live 0 n → log f s w ≡ done (record { at = s.at; prev = s.prev; reads = s.reads; nodes = s.nodes; errors = s.errors + 1; wanted = s.wanted + n; live = s.live }) (record { nodes = w.nodes; errors = es; expected = xs; live = w.live }) tt
    unfolding log
    log-on h c d = rw (lt-ltb _ _ (rw r at p), log) (rw (le-leb _ _ (rw (m, q) at h), c, d, q))

-- one more of the values that are copied, and the last one past
module _ (ys xs : List ℕ) (from k n : ℕ) where
  pub copy-on : {zs : List ℕ} → k < n → zs ≡ put ys (from + k) (get_or xs k 0) → copy ys (from + k) xs k (n - k) ≡ copy zs (from + (k + 1)) xs (k + 1) (n - (k + 1))
  unfolding copy
  copy-on p q =
      let h : n - k ≡ suc (n - (k + 1)) = omega arith in
      let i : from + (k + 1) ≡ from + k + 1 = omega arith in
      rw (h, q, i)

  pub copy-end : n ≤ k → copy ys (from + k) xs k (n - k) ≡ ys
  unfolding copy
  copy-end p = let h : n - k ≡ 0 = omega arith in rw h
