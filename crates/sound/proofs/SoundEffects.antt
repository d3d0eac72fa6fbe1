-- Effects: parse_effect_stmt, and the statement that one is.
use mathlib.Core.Path.{◌≡◌, sym, ap}
use mathlib.Core.List.{List, ◌∷◌}
use mathlib.Core.Bool.{false}
use Prim.Native.Nat.{ℕ, ◌+◌}
use lib.Dec.{ltb}
use Rattle.kinds.specs.Number as kind
use Rattle.cursor.specs.declared.Kids.{Kids}
use Rattle.cursor.specs.declared.Label.{Label}
use Rattle.cursor.specs.Sheet.{Ranged, Sheet}
use Rattle.cursor.specs.Node as node
use Rattle.cursor.specs.Records.{no_kids, flagged}
use Rattle.cursor.specs.Tree.{Trees, none, join, tree}
use Rattle.cursor.proofs.Laws.{join-none}
use Rattle.cursor.proofs.RecordPaths.{added}
use Rattle.cursor.proofs.Stack.{Entry, whole, Stack}
use Rattle.cursor.proofs.Grows.{as_row}
use Rattle.types.specs.declared.items.Items.{Items as Row}
use Rattle.types.specs.Items.{is_ended}
use Rattle.types.specs.Types.{atoms}
use Rattle.types.specs.Patterns.{span_of as range_of}
use Rattle.parts.specs.Effects.{effect_record, effect_stmt}
use Rattle.grammar.specs.Places.{Place, start_of, Tok}
use Rattle.grammar.specs.Symbols.{Sym, Ident, Returns, Params, Effect}
use Rattle.grammar.specs.Derives.{Derives, effect_of}
use Rattle.grammar.specs.Builders.{Shape, blank, only, signature, effect_over}
use Rattle.grammar.specs.Shape.{shape}
use Rattle.sound.proofs.Sound.{Spot, at, Claim, Seq, ◌▸◌, Sound, maps, binds}
use Rattle.sound.proofs.SoundSteps.{Took, took, Added, added-to, add-sound, expect-sound}
use Rattle.sound.proofs.SoundValues.{Value, value, Optional, wrapped, joined, relabel, retree, Started, started, labelled, Closed, closed, SomeAdded, start-sound, close-sound, add-some-sound, ident-sound, closing}
use Rattle.sound.proofs.SoundItems.{Listed}
use Rattle.sound.proofs.SoundSignature.{Signed, signed_by, signed}
use Rattle.sound.proofs.SoundTypes.{atoms-sound, params-sound, returns-sound}

-- a derivation of y, and the tree that g makes of its shape, begun at x, where it ends; that tree stands on the stack behind the answer
pub data Becomes (text : List ℕ) (y : Sym) (x : ℕ) (g : Place → Shape → Shape) : Spot → Spot → ℕ → Type 0 where
  becomes : {p q : Place} {n m a last : ℕ} {xs ys : List ℕ} {l : Label} {ks : Trees} (d : Derives text y p q) → g q (shape d x blank) ≡ only (tree l ks) → ((es : List Entry) → Stack xs n es → Stack ys m (whole n a last l ks ∷ es))
      → Becomes text y x g (at p n xs) (at q m ys) a

module _ (e : Sheet) (from : ℕ) (glo : Ranged) where
  abbrev Built : ℕ → ℕ → Row → ℕ → Claim ℕ
  Built inside name i link = Seq (SomeAdded i.kids link) (λ kids. Seq (Closed node.Effect inside 0 0 (flagged i.kids.count 0 (is_ended i.ended) (ltb 0 link)) kids.first) (λ effect.
      Seq (Added no_kids name) (λ one. Seq (Added one effect) (λ two. Closed node.ExprEffect from (range_of glo).start (range_of glo).end (flagged 0 0 (is_ended glo) false) two.first))))

  pub effect-sound : (d : ℕ) → Sound e (Becomes e.text Effect 0 (λ q f. effect_over from q glo f)) (effect_stmt e (atoms e d) from glo)
  unfolding effect_stmt effect_record shape join
  effect-sound d =
      maps e (λ u v a c. go c) (binds e (start-sound e) (λ inside. binds e (expect-sound e kind.Effect) (λ _. binds e (ident-sound e) (λ name. binds e (params-sound e d (atoms-sound e d) no_kids) (λ i.
      binds e (returns-sound e d (atoms-sound e d)) (λ link. binds e (add-some-sound e i.kids link) (λ kids. binds e (close-sound e node.Effect inside 0 0 _ kids.first) (λ effect.
      binds e (add-sound e no_kids name) (λ one. binds e (add-sound e one effect) (λ two. close-sound e node.ExprEffect from (range_of glo).start (range_of glo).end _ two.first))))))))))
    where
      build : {p q r : Place} {n m a last c : ℕ} {xs ys : List ℕ} {l : Label} {ks : Trees} {i : Row} {link : ℕ} {kids : Kids} {v w : Spot} → Tok kind.Effect p q → (b : Derives e.text Ident q r) → shape b 0 blank ≡ only (tree l ks)
          → ((es : List Entry) → Stack xs n es → Stack ys m (whole n a last l ks ∷ es)) → Signed e.text (Params false) i link kids (at r m ys) v
          → Seq (Closed node.Effect (start_of p) 0 0 (flagged i.kids.count 0 (is_ended i.ended) (ltb 0 link)) kids.first) (λ effect.
          Seq (Added no_kids a) (λ one. Seq (Added one effect) (λ two. Closed node.ExprEffect from (range_of glo).start (range_of glo).end (flagged 0 0 (is_ended glo) false) two.first))) v w c
          → Becomes e.text Effect 0 (λ q f. effect_over from q glo f) (at p n xs) w c
      build {p} {a = a} t b s f (signed_by o k g) (closed {p = z} {n = n} r ▸ added-to ▸ added-to ▸ u) = closing (Becomes e.text Effect 0 (λ q f. effect_over from q glo f) _) u (λ h.
          becomes (effect_of t b o k) (ap (λ j. effect_over from z glo (only (join j.row (signature node.Effect (start_of p) z (shape o 0 blank) (shape k 0 blank) none).row))) s)
          (λ es st.
          let i = g _ (as_row (f es st)) in
          let x = relabel (ap (λ y. labelled node.Effect (start_of p) 0 0 y z) i.flags) (wrapped _ (retree (ap (λ y. join (shape o 0 blank).row y) (sym (join-none (shape k 0 blank).row))) i.stack) r) in
          wrapped _ (joined (added no_kids a) (n + 1) x) h))

      go : {u v : Spot} {a : ℕ} → Seq Started (λ inside. Seq (Took kind.Effect) (λ _. Seq (Value e.text Ident) (λ name. Seq (Listed e.text (Params false) no_kids) (λ i. Seq (Optional e.text Returns) (λ link. Built inside name i link))))) u v a
          → Becomes e.text Effect 0 (λ q f. effect_over from q glo f) u v a
      go (started ▸ took t ▸ value b s f ▸ i ▸ r ▸ k ▸ c) = build t b s f (signed i r k) c
