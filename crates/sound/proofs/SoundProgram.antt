-- A whole sheet: where its rule is done and logged no error, the sheet follows the grammar, the last record means the sheet's tree, and each record
-- belongs to that tree exactly once. This holds of any buffer with the same records below the count, as what lies past it is cleared in the end.
use mathlib.Core.Path.{◌≡◌, refl, sym, ap, ◌∙◌, subst}
use mathlib.Core.List.{List, []}
use mathlib.Core.Bool.{false}
use Prim.Native.Nat.{ℕ, suc, ◌+◌, ◌*◌, ◌^◌, ◌<◌, ◌≤◌, max}
use native.Mathlib.Nat.{le_refl}
use native.Mathlib.Omega.{arith}
use lib.ListN.{length}
use Rattle.kinds.specs.Number as kind
use Rattle.cursor.specs.declared.State.{State}
use Rattle.cursor.specs.declared.Kids.{Kids}
use Rattle.cursor.specs.declared.Label.{Label}
use Rattle.cursor.specs.Layout.{node_words}
use Rattle.cursor.specs.Node as node
use Rattle.cursor.specs.Sheet.{Sheet, count, kind_at}
use Rattle.cursor.specs.Rule.{World, done}
use Rattle.cursor.specs.Records.{write, no_kids, flagged}
use Rattle.cursor.specs.Tree.{none, meaning}
use Rattle.cursor.proofs.Ends.{at_done}
use Rattle.cursor.proofs.Finished.{Agree}
use Rattle.cursor.proofs.Stack.{bottom, keep, room, top}
use Rattle.cursor.proofs.Meaning.{built-meaning}
use Rattle.cursor.specs.Visits.{uses}
use Rattle.cursor.proofs.Once.{built-once}
use Rattle.cursor.proofs.Grows.{begin}
use Rattle.rules.specs.Levels.{levels, program_record, program}
use Rattle.grammar.specs.Places.{Place, opening}
use Rattle.grammar.specs.Symbols.{Exprs}
use Rattle.grammar.specs.Derives.{Derives}
use Rattle.grammar.specs.Builders.{blank}
use Rattle.grammar.specs.Shape.{shape}
use Rattle.grammar.specs.Follows.{Follows, program_over, tree_of}
use Rattle.sound.proofs.Links.{calm-settle, place_at}
use Rattle.sound.proofs.Outset.{outset, settled_at, program-is, first-place}
use Rattle.sound.proofs.WholeSheet.{whole-sheet}
use Rattle.sound.proofs.Sound.{Spot, at, Seq, ◌▸◌, Sound, reads, binds}
use Rattle.sound.proofs.SoundSteps.{Appended, appended, append-sound}
use Rattle.sound.proofs.SoundValues.{wrapped, relabel}
use Rattle.sound.proofs.SoundItems.{listed, word_flags}
use Rattle.sound.proofs.SoundNames.{Rowing}
use Rattle.sound.proofs.SoundKnot.{knot-sound}

-- the program's record
abbrev program_label : ℕ → Place → ℕ → Label
program_label from p flags = record { kind = node.Program; start = from; end = max from p.prev; one = 0; two = 0; flags = flags }

data Sealed (from : ℕ) (row : Kids) : Spot → Spot → ℕ → Type 0 where
  sealed : {p : Place} {n : ℕ} {xs : List ℕ} → node_words * suc n ≤ length xs → Sealed from row (at p n xs) (at p (n + 1) (write xs n (program_label from p (flagged row.count 0 false false)) row.first)) (n + 1)

-- what holds of the spot behind that record holds where a rule has made one
sealing : {from : ℕ} {row : Kids} {p q : Place} {n m a : ℕ} {xs ys : List ℕ} (P : Place → ℕ → List ℕ → Type 0) → Sealed from row (at p n xs) (at q m ys) a
    → (node_words * suc n ≤ length xs → P p (n + 1) (write xs n (program_label from p (flagged row.count 0 false false)) row.first)) → P q m ys
sealing P (sealed o) f = f o

-- what a sheet is read as, between two places, in a buffer of so many records
record SheetOn (e : Sheet) (p q : Place) (ys : List ℕ) (m : ℕ) : Type 0 where
  der : Derives e.text (Exprs kind.Eof) p q
  root : ℕ
  is : m ≡ suc root
  tree_is : meaning ys root ≡ program_over (opening e.tokens) q (shape der 0 blank)
  once : (i : ℕ) → i < m → uses ys root i ≡ 1

pub record SheetRead (e : Sheet) (ys : List ℕ) (m : ℕ) : Type 0 where
  pub follows : Follows e.text e.tokens
  pub root : ℕ
  pub is : m ≡ suc root
  pub tree_is : meaning ys root ≡ tree_of follows
  pub once : (i : ℕ) → i < m → uses ys root i ≡ 1

module _ (e : Sheet) where
  sealed-sound : (from : ℕ) (row : Kids) → Sound e (Sealed from row) (program_record from row)
  unfolding program_record
  sealed-sound from row = record { ends = λ s w h. reads e (append-sound e _ row.first) h (λ v a c. go c) }
    where
      go : {p : Place} {n a : ℕ} {xs : List ℕ} {v : Spot} → Appended (program_label from p (flagged row.count 0 false false)) row.first (at p n xs) v a → Sealed from row (at p n xs) v a
      go (appended r) = sealed r

  sheet-read : {p q : Place} {m link : ℕ} {xs ys zs : List ℕ} → Agree ys zs 0 m (node_words * m) → length zs ≡ length ys → Seq (Rowing e.text (Exprs kind.Eof) no_kids) (λ row. Sealed (opening e.tokens) row) (at p 0 xs) (at q m ys) link → SheetOn e p q zs m
  sheet-read {p = p} {zs = zs} same long (listed {q = q} {m = n} d f ▸ c) = sealing (λ q m ys. Agree ys zs 0 m (node_words * m) → length zs ≡ length ys → SheetOn e p q zs m) c (λ r same long.
      let g = f 0 0 none [] refl (begin (bottom {hi = 0} (omega arith))) in
      let st = keep (relabel (ap (λ z. program_label (opening e.tokens) q z) (word_flags _ false false g.count)) (wrapped _ g.stack r)) same (le_refl _) long in
      let t = top st in
      let o = room st in
      record { der = d; root = t.root; is = t.is; tree_is = built-meaning t.tree-of (omega (arith, o)); once = λ i h. built-once t.tree-of (omega (arith, o)) i (omega arith) h })
      same long

  pub program-sound : length e.tokens < 2 ^ 32 → ((i : ℕ) → i < count e.tokens → kind_at e.tokens i ≡ kind.Eof → ⊥) → (d : ℕ) (s1 : State) (w w1 : World) (link : ℕ) → program (levels e d) outset w ≡ done s1 w1 link → s1.errors ≡ 0
      → (zs : List ℕ) → Agree w1.nodes zs 0 s1.nodes (node_words * s1.nodes) → length zs ≡ length w1.nodes → SheetRead e zs s1.nodes
  unfolding tree_of
  program-sound few none_is d s1 w w1 link q clean zs same long =
      let sound = binds e ((knot-sound e few d).bodies kind.Eof) (λ row. sealed-sound (opening e.tokens) row) in
      let fact = (at_done (sound.ends (settled_at e outset) w (record { settled = calm-settle e.tokens 0 })) (sym (program-is e d w) ∙ q)).fact clean in
      let read = subst (λ z. SheetOn e z (place_at e.tokens s1) zs s1.nodes) (first-place e) (sheet-read same long fact) in
      record { follows = record { end = place_at e.tokens s1; body = read.der; whole = whole-sheet e.tokens none_is read.der }; root = read.root; is = read.is; tree_is = read.tree_is; once = read.once }
