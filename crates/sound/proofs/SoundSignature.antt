-- Parameters and a returned type, as a function type, an effect and a function have them: one row on the stack, and the flags over it.
use mathlib.Core.Path.{◌≡◌, refl, sym, ap, ◌∙◌, subst}
use mathlib.Core.List.{List, ◌∷◌}
use mathlib.Core.Bool.{false}
use Prim.Native.Nat.{ℕ}
use lib.Dec.{ltb}
use borrow.Author.Tests.{lt-ltb}
use Rattle.cursor.specs.declared.Kids.{Kids}
use Rattle.cursor.specs.Records.{no_kids, flagged}
use Rattle.cursor.specs.Tree.{none, join}
use Rattle.cursor.proofs.Laws.{join-none}
use Rattle.cursor.proofs.Stack.{Entry, row, Stack, link-some}
use Rattle.cursor.proofs.Grows.{begin}
use Rattle.types.specs.declared.items.Items.{Items as Row}
use Rattle.types.specs.Items.{is_ended}
use Rattle.grammar.specs.Places.{Place}
use Rattle.grammar.specs.Symbols.{Sym, Returns}
use Rattle.grammar.specs.Derives.{Derives}
use Rattle.grammar.specs.Builders.{Shape, blank, some}
use Rattle.grammar.specs.Shape.{shape}
use Rattle.sound.proofs.Sound.{Spot, at}
use Rattle.sound.proofs.SoundValues.{value, Optional, some-value, no_value, joined, unlinked, retree, SomeAdded, none-added, some-added}
use Rattle.sound.proofs.SoundItems.{Listed, listed, list-flags}

pub record SignedOn (ys : List ℕ) (m lo : ℕ) (i : Row) (r : ℕ) (kids : Kids) (f g : Shape) (es : List Entry) : Type 0 where
  pub stack : Stack ys m (row lo kids.first kids.last (join f.row g.row) ∷ es)
  pub flags : flagged i.kids.count 0 (is_ended i.ended) (ltb 0 r) ≡ flagged f.count 0 (is_ended f.last) (some g.row)

signed-as : {ys : List ℕ} {m lo r : ℕ} {i : Row} {kids : Kids} {f g h : Shape} {es : List Entry} → g ≡ h → SignedOn ys m lo i r kids f g es → SignedOn ys m lo i r kids f h es
signed-as {ys} {m} {lo} {r} {i} {kids} {f} {es = es} q x = subst (λ z. SignedOn ys m lo i r kids f z es) q x

-- a list of symbol z, perhaps a returned type, and the row of all of them
pub data Signed (text : List ℕ) (z : Sym) (i : Row) (r : ℕ) (kids : Kids) : Spot → Spot → Type 0 where
  signed_by : {p q o : Place} {n m : ℕ} {xs ys : List ℕ} (d : Derives text z p q) (b : Derives text Returns q o) → ((es : List Entry) → Stack xs n es → SignedOn ys m n i r kids (shape d 0 blank) (shape b 0 blank) es)
      → Signed text z i r kids (at p n xs) (at o m ys)

pub signed : {text : List ℕ} {z : Sym} {i : Row} {r : ℕ} {kids : Kids} {u v w t : Spot} → Listed text z no_kids u v i → Optional text Returns v w r → SomeAdded i.kids r w t kids → Signed text z i r kids u t
signed (listed {j = i} d f) (some-value (value {a = a} b s g)) some-added = signed_by d b (λ es st.
    let l = f _ 0 none es refl (begin st) in
    let t = g _ l.stack in
    signed-as (sym s) (record {
      stack = joined i.kids a t;
      flags = list-flags (ltb 0 a) l ∙ ap (λ z. flagged (shape d 0 blank).count 0 (is_ended (shape d 0 blank).last) z) (lt-ltb 0 a (link-some t));
    }))
signed (listed d f) (some-value (value b s g)) none-added = signed_by d b (λ es st. absurd (unlinked (g _ (f _ 0 none es refl (begin st)).stack)))
signed (listed d f) (no_value b s) none-added = signed_by d b (λ es st.
    let l = f _ 0 none es refl (begin st) in
    signed-as (sym s) (record { stack = retree (sym (join-none (shape d 0 blank).row)) l.stack; flags = list-flags false l }))
