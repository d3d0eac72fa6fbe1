-- Demands 2 and 3 of an outcome, and what they speak of: a reading without an error, the tree that it left, and what a sheet that follows the grammar
-- takes: room for the records of its tree, depth for its nesting, an allowance for its readings.
use Rattle.std.specs.Prelude.{◌≡◌, List, ◌↔◌, ℕ, suc, ◌-◌, ◌/◌, ◌<◌, ◌≤◌, min, length, Ok}
use Rattle.cursor.specs.Layout.{node_words, node_limit}
use Rattle.cursor.specs.Tree.{Trees, size, meaning}
use Rattle.cursor.specs.Visits.{uses}
use Rattle.entry.specs.Check.{entry_of}
use Rattle.grammar.specs.Places.{tokens_of, significant}
use Rattle.grammar.specs.Follows.{Follows, tree_of}
use Rattle.grammar.specs.Words.{token_words, words}
use Rattle.complete.specs.Depth.{need}
use Rattle.marks.specs.Marks.{marks, readings}
use Rattle.parser.specs.Outcome.{Outcome}
use Rattle.parser.specs.Parse.{depth}

-- answered 0, with no error listed
pub record Clean (o : Outcome) : Type 0 where
  pub read : o.number ≡ 0
  pub flawless : o.errors ≡ 0

-- the tree that the node records mean: its root is the last one
abbrev pub tree_in : Outcome → Trees
tree_in o = meaning o.records (o.nodes - 1)

-- how many node records there is room for: the whole records that fit, at most 8,192
abbrev pub node_room : List ℕ → ℕ
node_room n = min (length n / node_words) node_limit

-- how deep a sheet nests: one level for the program's statements, and those below it, which are read off the derivation
abbrev pub levels : {text tokens : List ℕ} → Follows text tokens → ℕ
levels f = suc (need f.body)

-- the sum over the sheet's tokens: two to the power of each one's mark
abbrev pub sum : {text tokens : List ℕ} → Follows text tokens → ℕ
sum f = readings (marks f.body)

module _ {text tokens : List ℕ} (f : Follows text tokens) where
  -- there is enough of everything that the sheet takes
  pub record Enough (allowance : ℕ) (n : List ℕ) : Type 0 where
    pub room : size (tree_of f) ≤ node_room n
    pub deep : levels f ≤ depth
    pub paid : sum f ≤ allowance

  -- a refusal, and what there is not enough of
  pub data Short (allowance : ℕ) (n : List ℕ) : ℕ → Type 0 where
    few-records : node_room n < size (tree_of f) → Short allowance n 7
    few-levels : depth < levels f → Short allowance n 9
    few-readings : allowance < sum f → Short allowance n 10

  -- a number that is 0 exactly if there is enough, and otherwise 7, 9 or 10, each only where its own condition fails
  pub record Afforded (allowance : ℕ) (n : List ℕ) (number : ℕ) : Type 0 where
    pub read : (number ≡ 0) ↔ Enough allowance n
    pub refused : (number ≡ 0 → ⊥) → Short allowance n number

-- what is promised of the outcome of a sheet that is read with this allowance into a node buffer as long as n
pub record Demands (text tokens : List ℕ) (allowance : ℕ) (n : List ℕ) (o : Outcome) : Type 0 where
  -- 2: where the answer is 0, no error is listed exactly if the tokens follow the grammar; then no expected kind is listed either
  pub judged : o.number ≡ 0 → (o.errors ≡ 0) ↔ Follows text tokens
  pub unlisted : Clean o → o.expected ≡ 0
  -- 2: then the records are the sheet's own tree: all of them, and each exactly once
  pub grown : Clean o → (f : Follows text tokens) → tree_in o ≡ tree_of f
  pub sized : Clean o → o.nodes ≡ size (tree_in o)
  pub once : Clean o → (i : ℕ) → i < o.nodes → uses o.records (o.nodes - 1) i ≡ 1
  -- 2: and the tree's words, in order, are all the sheet's words
  pub spoken : Clean o → words (tree_in o) ≡ token_words (tokens_of tokens)
  -- 3: the marks of a sheet that follows the grammar are as many as its tokens that are no trivia, and its readings are the sum over them
  pub marked : (f : Follows text tokens) → length (marks f.body) ≡ length (significant (tokens_of tokens))
  pub summed : Clean o → (f : Follows text tokens) → o.reads ≡ sum f
  -- 3: past the entry check it is read exactly if there is room for its tree, depth for its nesting and an allowance for that sum, and otherwise refused
  -- for what there is not enough of. So, given room and depth, it is refused for its readings exactly if the sum passes the allowance
  pub afforded : (f : Follows text tokens) → entry_of text tokens ≡ Ok tt → Afforded f allowance n o.number
