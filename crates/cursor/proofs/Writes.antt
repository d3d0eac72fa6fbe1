-- What a write into the node buffer does, word for word.
use Rattle.std.proofs.Common.{◌≡◌, ℕ, zero, suc, ◌+◌, ◌*◌, ◌<◌, ◌≤◌, List, [], ◌∷◌, length, get_or, refl, ◌∙◌, arith, length-set, get_or-set_other, get_or-set_same}
use Rattle.cursor.specs.declared.Label.{Label}
use Rattle.cursor.specs.Layout.{node_words, KIND, START, END, ONE, TWO, FLAGS, cell}
use Rattle.cursor.specs.Buffer.{put}
use Rattle.cursor.specs.Records.{write}
use Rattle.cursor.specs.Tree.{word, label}
use Rattle.cursor.proofs.Finished.{Agree}

-- one word: the others stay, it is there, and the buffer is as long as before
pub put_other : (xs : List ℕ) (x a i k : ℕ) → (cell i k ≡ x → ⊥) → word (put xs x a) i k ≡ word xs i k
unfolding word put
put_other xs x a i k n = get_or-set_other xs x (cell i k) a 0 n

pub put_same : (xs : List ℕ) (a i k : ℕ) → cell i k < length xs → word (put xs (cell i k) a) i k ≡ a
unfolding word put
put_same xs a i k h = get_or-set_same xs (cell i k) a 0 h

pub put-length : (xs : List ℕ) (x a : ℕ) → length (put xs x a) ≡ length xs
unfolding put
put-length xs x a = length-set xs x a

pub put-agree : (xs : List ℕ) (x a lo hi : ℕ) → Agree xs (put xs x a) lo hi x
put-agree xs x a lo hi = record { at = λ i k p q r n. put_other xs x a i k n }

pub put-below : (xs : List ℕ) (x a lo hi : ℕ) {y : ℕ} → node_words * hi ≤ x → Agree xs (put xs x a) lo hi y
put-below xs x a lo hi h = record { at = λ i k p q r _. put_other xs x a i k (omega arith) }

pub put-above : (xs : List ℕ) (x a lo hi : ℕ) {y : ℕ} → x < node_words * lo → Agree xs (put xs x a) lo hi y
put-above xs x a lo hi h = record { at = λ i k p q r _. put_other xs x a i k (omega arith) }

-- the words of record n from word k on, one after the other
unfoldable pub puts : List ℕ → ℕ → ℕ → List ℕ → List ℕ
puts xs n k [] = xs
puts xs n k (v ∷ vs) = puts (put xs (cell n k) v) n (suc k) vs

pub puts-length : (xs : List ℕ) (n k : ℕ) (vs : List ℕ) → length (puts xs n k vs) ≡ length xs
unfolding puts
puts-length xs n k [] = refl
puts-length xs n k (v ∷ vs) = puts-length (put xs (cell n k) v) n (suc k) vs ∙ put-length xs (cell n k) v

pub puts-other : (xs : List ℕ) (n k : ℕ) (vs : List ℕ) (i j : ℕ) → cell i j < cell n k → word (puts xs n k vs) i j ≡ word xs i j
unfolding puts
puts-other xs n k [] i j h = refl
puts-other xs n k (v ∷ vs) i j h = puts-other (put xs (cell n k) v) n (suc k) vs i j (omega arith) ∙ put_other xs (cell n k) v i j (omega arith)

pub puts-same : (xs : List ℕ) (n k : ℕ) (vs : List ℕ) (i : ℕ) → i < length vs → cell n (k + length vs) ≤ length xs → word (puts xs n k vs) n (k + i) ≡ get_or vs i 0
unfolding puts
puts-same xs n k [] i h r = absurd (omega arith)
puts-same xs n k (v ∷ vs) zero h r =
    let e : k + 0 ≡ k = omega arith in
    rw e (puts-other _ n (suc k) vs n k (omega arith) ∙ put_same xs v n k (omega arith))
puts-same xs n k (v ∷ vs) (suc i) h r =
    let e : k + suc i ≡ suc k + i = omega arith in
    rw e (puts-same (put xs (cell n k) v) n (suc k) vs i (omega arith) (rw put-length (omega arith)))

-- a record's words in their order: a label's, and the two links
abbrev pub words_of : Label → ℕ → List ℕ
words_of l first = l.kind ∷ l.start ∷ l.end ∷ first ∷ 0 ∷ l.one ∷ l.two ∷ l.flags ∷ []

module _ (xs : List ℕ) (n : ℕ) (l : Label) (first : ℕ) where
  -- a record is its words, one after the other
  write-puts : write xs n l first ≡ puts xs n 0 (words_of l first)
  unfolding write puts
  write-puts = refl

  pub write-length : length (write xs n l first) ≡ length xs
  write-length = rw write-puts (puts-length xs n 0 (words_of l first))

  -- the records below it stay
  pub write-agree : (lo hi x : ℕ) → hi ≤ n → Agree xs (write xs n l first) lo hi x
  write-agree lo hi x h = record { at = λ i k p q r _. rw write-puts (puts-other xs n 0 (words_of l first) i k (omega arith)) }

  module _ (room : node_words * suc n ≤ length xs) where
    pub write_word : (k : ℕ) → k < node_words → word (write xs n l first) n k ≡ get_or (words_of l first) k 0
    write_word k h = let e : 0 + k ≡ k = omega arith in rw write-puts (rw e at (puts-same xs n 0 (words_of l first) k h (omega arith)))

    pub write-label : label (write xs n l first) n ≡ l
    unfolding label
    write-label = λ j. record { kind = write_word KIND (omega arith) j; start = write_word START (omega arith) j; end = write_word END (omega arith) j; one = write_word ONE (omega arith) j; two = write_word TWO (omega arith) j; flags = write_word FLAGS (omega arith) j }
