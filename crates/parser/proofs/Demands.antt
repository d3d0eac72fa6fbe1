-- Demands 2 and 3: where the answer is 0, no error is listed exactly when the sheet follows the grammar; then the records are its tree, each of them once,
-- the tree's words are the sheet's, and the readings are the sum over its marks.
use Rattle.std.specs.Prelude.{Result, Ok, Err}
use mathlib.Core.Path.{◌≡◌, refl, sym, ap, ◌∙◌, subst}
use mathlib.Core.List.{List, [], ◌∷◌}
use Prim.Native.Nat.{ℕ, zero, suc, ◌-◌, ◌*◌, ◌^◌, ◌<◌}
use native.Mathlib.Omega.{arith}
use lib.ListN.{length, get_or, replicate}
use Rattle.kinds.specs.Number as kind
use Rattle.cursor.specs.Layout.{node_words, cell}
use Rattle.cursor.specs.Sheet.{Sheet, count, kind_at}
use Rattle.cursor.specs.Rule.{world, begin, fault, refused, Out, done, failed}
use Rattle.cursor.specs.Checks.{live_room}
use Rattle.cursor.specs.Tree.{word, size, meaning}
use Rattle.cursor.specs.Visits.{uses}
use Rattle.cursor.proofs.Finished.{Agree}
use Rattle.entry.specs.declared.Refusal.{Refusal}
use Rattle.entry.specs.Check.{entry_of}
use Rattle.entry.proofs.Sound.{fit-sheet}
use Rattle.rules.specs.Levels.{levels, program}
use Rattle.grammar.specs.Places.{tokens_of}
use Rattle.grammar.specs.Follows.{Follows, tree_of}
use Rattle.grammar.specs.Words.{token_words, words}
use Rattle.sound.proofs.Links.{in-range}
use Rattle.grammar.proofs.Unambiguous.{one-tree}
use Rattle.grammar.proofs.WordsOfAll.{words-all}
use Rattle.complete.proofs.SizeOf.{size-all}
use Rattle.complete.proofs.MeetsProgram.{Finds, finds, program-meets}
use Rattle.sound.proofs.SoundProgram.{SheetRead, program-sound}
use Rattle.marks.specs.Marks.{marks, readings}
use Rattle.marks.proofs.Marked.{cost-marks}
use Rattle.parser.specs.Blank.{up_to, blank, cleared}
use Rattle.parser.specs.Outcome.{Outcome}
use Rattle.parser.specs.Finish.{finished}
use Rattle.parser.specs.Parse.{depth, allowed, reading, parse}
use Rattle.parser.specs.Demands.{Clean, tree_in}
use Rattle.parser.proofs.Blanks.{cleared-long}
use Rattle.parser.proofs.Numbers.{read-has-a-record}

-- what lies below a place is not cleared
up-to-below : (k : ℕ) (xs : List ℕ) (i : ℕ) → i < k → get_or (up_to k xs) i 0 ≡ get_or xs i 0
unfolding cleared
up-to-below k [] i h = refl
up-to-below zero (a ∷ xs) i h = absurd (omega (arith, h))
up-to-below (suc k) (a ∷ xs) zero h = refl
up-to-below (suc k) (a ∷ xs) (suc i) h = up-to-below k xs i (omega (arith, h))

records-stay : (m : ℕ) (xs : List ℕ) → Agree xs (up_to (node_words * m) xs) 0 m (node_words * m)
unfolding word
records-stay m xs = record { at = λ i k p q c n. up-to-below (node_words * m) xs (cell i k) (omega (arith, q, c)) }

-- what holds of the outcome for a sheet that follows the grammar, where it is answered 0
pub record Faultless {text tokens : List ℕ} (f : Follows text tokens) (o : Outcome) : Type 0 where
  pub errors : o.errors ≡ 0
  pub expected : o.expected ≡ 0
  pub nodes : o.nodes ≡ size (tree_of f)
  pub reads : o.reads ≡ readings (marks f.body)

module _ (text tokens : List ℕ) (allowance : ℕ) where
  abbrev pub lent : Sheet
  lent = allowed text tokens allowance

  module _ (fit : entry_of text tokens ≡ Ok tt) where
    pub few : length tokens < 2 ^ 32
    few = let h = (fit-sheet text tokens fit).few in omega (arith, h)

    no_end : (i : ℕ) → i < count tokens → kind_at tokens i ≡ kind.Eof → ⊥
    unfolding count
    no_end i h q = ((fit-sheet text tokens fit).token i h).not_end (sym (in-range tokens i h) ∙ q)

    -- a reading that ended so
    by_end : (n e x : List ℕ) (o : Out ℕ) → program (levels (allowed text tokens allowance) depth) begin (world n e x (replicate live_room 0)) ≡ o → ((finished n e x o).number ≡ 0 → 0 < (finished n e x o).nodes) → Clean (finished n e x o)
        → SheetRead lent (finished n e x o).records (finished n e x o).nodes
    unfolding finished
    by_end n e x (done s w link) q has c = program-sound lent few no_end _ s _ w link q c.flawless _ (records-stay s.nodes w.nodes) (cleared-long {A = ℕ} 0 _ w.nodes)
    by_end n e x (failed (refused k)) q has c = let h = has c.read in absurd (omega (arith, h))
    by_end n e x (failed (fault s w f)) q has c = let h = has c.read in absurd (omega (arith, h))

  module _ (n e x : List ℕ) where
    by-entry : (c : Result (Unit {0}) Refusal) → entry_of text tokens ≡ c → ((parse text tokens allowance n e x).number ≡ 0 → 0 < (parse text tokens allowance n e x).nodes) → Clean (parse text tokens allowance n e x)
        → SheetRead lent (parse text tokens allowance n e x).records (parse text tokens allowance n e x).nodes
    unfolding parse reading
    by-entry (Ok tt) h = rw (h, parse) (by_end h (blank n) (blank e) (blank x) _ refl)
    by-entry (Err r) h = rw (h, parse) (λ has c. let z = has c.read in absurd (omega (arith, z)))

    -- answered 0 with no error listed: the sheet follows the grammar, the last record means its tree, and every record belongs to that exactly once
    pub clean-sheet : Clean (parse text tokens allowance n e x) → SheetRead lent (parse text tokens allowance n e x).records (parse text tokens allowance n e x).nodes
    clean-sheet = by-entry (entry_of text tokens) refl (read-has-a-record text tokens allowance n e x)

    -- of a sheet that follows the grammar and is answered 0 no error is listed, and its readings are the sum over its marks
    module _ (f : Follows text tokens) where
      by-reading : (fit : entry_of text tokens ≡ Ok tt) (n e x : List ℕ) (o : Out ℕ) → Finds lent depth f (world n e x (replicate live_room 0)) o → ((finished n e x o).number ≡ 0 → 0 < (finished n e x o).nodes) → (finished n e x o).number ≡ 0 → Faultless f (finished n e x o)
      unfolding finished
      by-reading fit n e x (done s w link) (finds k) has q = record { errors = k.errors; expected = k.wanted; nodes = k.nodes ∙ sym (size-all f); reads = k.reads ∙ cost-marks f }
      by-reading fit n e x (failed (fault _ _ _)) r has q = elim r [ ]
      by-reading fit n e x (failed (refused k)) r has q = let h = has q in absurd (omega (arith, h))

      by-check : (c : Result (Unit {0}) Refusal) → entry_of text tokens ≡ c → ((parse text tokens allowance n e x).number ≡ 0 → 0 < (parse text tokens allowance n e x).nodes) → (parse text tokens allowance n e x).number ≡ 0 → Faultless f (parse text tokens allowance n e x)
      unfolding parse reading
      by-check (Ok tt) h = rw (h, parse) (by-reading h (blank n) (blank e) (blank x) _ (program-meets lent (few h) _ _ f))
      by-check (Err r) h = rw (h, parse) (λ has q. let z = has q in absurd (omega (arith, z)))

      pub followed : (parse text tokens allowance n e x).number ≡ 0 → Faultless f (parse text tokens allowance n e x)
      followed = by-check (entry_of text tokens) refl (read-has-a-record text tokens allowance n e x)

    -- its tree is the sheet's, by whatever derivation; all records are of that tree, each once; and the tree's words are the sheet's
    module _ (c : Clean (parse text tokens allowance n e x)) where
      pub clean-tree : (f : Follows text tokens) → tree_in (parse text tokens allowance n e x) ≡ tree_of f
      clean-tree f = let read = clean-sheet c in ap (λ k. meaning (parse text tokens allowance n e x).records k) (last read) ∙ read.tree_is ∙ one-tree read.follows f
        where
          last : {zs : List ℕ} {m : ℕ} (read : SheetRead lent zs m) → m - 1 ≡ read.root
          last read = let h = read.is in omega (arith, h)

      pub clean-size : (parse text tokens allowance n e x).nodes ≡ size (tree_in (parse text tokens allowance n e x))
      clean-size = let f = (clean-sheet c).follows in (followed f c.read).nodes ∙ sym (ap size (clean-tree f))

      pub clean-once : (i : ℕ) → i < (parse text tokens allowance n e x).nodes → uses (parse text tokens allowance n e x).records ((parse text tokens allowance n e x).nodes - 1) i ≡ 1
      clean-once i h = go (clean-sheet c) h
        where
          go : {ys : List ℕ} {m : ℕ} (read : SheetRead lent ys m) → i < m → uses ys (m - 1) i ≡ 1
          go {ys} {m} read h = subst (λ r. uses ys r i ≡ 1) (back read.is) (read.once i h)
            where
              back : {r : ℕ} → m ≡ suc r → r ≡ m - 1
              back q = omega (arith, q)

      pub clean-words : words (tree_in (parse text tokens allowance n e x)) ≡ token_words (tokens_of tokens)
      clean-words = let f = (clean-sheet c).follows in ap words (clean-tree f) ∙ words-all f
