-- Names, literals and the records over them: what the rules meet that lead to no list.
use mathlib.Core.Path.{◌≡◌, refl, sym, ap, ◌∙◌}
use mathlib.Core.List.{List, [], ◌∷◌}
use mathlib.Core.Bool.{Bool, true, false, true≢false}
use Prim.Native.Nat.{ℕ, zero, suc}
use native.Mathlib.Omega.{arith}
use borrow.Author.Tests.{eqb-false}
use Rattle.kinds.specs.Number as kind
use Rattle.cursor.specs.declared.State.{State}
use Rattle.cursor.specs.declared.Kids.{Kids}
use Rattle.cursor.specs.declared.Label.{Label}
use Rattle.cursor.specs.Sheet.{Sheet, kind_at}
use Rattle.cursor.specs.Rule.{World, Rule, ◌>>=◌, ◌>>◌}
use Rattle.cursor.specs.Tokens.{bump}
use Rattle.cursor.specs.Records.{append}
use Rattle.types.specs.declared.lits.Literal.TheVariants as literals
use Rattle.types.specs.Lits.{literal, lit_from, lit_at, lit, ident_at, ident}
use Rattle.types.specs.Items.{start, close, pair, add_some}
use Rattle.grammar.specs.Places.{Place, kind_of, span_of, after, Tok, Free, from-none, from_all}
use Rattle.grammar.specs.Symbols.{Lit, Ident}
use Rattle.grammar.specs.Derives.{Derives, a-literal, an-ident}
use Rattle.grammar.specs.Words.{among}
use Rattle.sound.proofs.Links.{place_at, Settled, kind-place}
use Rattle.sound.proofs.SoundSteps.{range-place}
use Rattle.grammar.proofs.FirstKinds.{lits, apart}
use Rattle.grammar.proofs.Starts.{starts}
use Rattle.complete.proofs.Cost.{taken, costs}
use Rattle.complete.proofs.Records.{records}
use Rattle.complete.proofs.Meets.{Cost, ◌⊕◌, nothing, reading, building, flat_cost, Any, arrives, Meets, stays}
use Rattle.complete.proofs.MeetsBinds.{answers, fits, any}
use Rattle.complete.proofs.MeetsSteps.{after_none, bumps, expects, adds, append-meets, add_meets}

-- are all of these kinds other than the ones that begin a literal?
unfoldable pub unlike : List ℕ → Bool
unlike [] = true
unlike (k ∷ ks) = elim (among k lits) as (λ _. Bool) [ true ↦ false | false ↦ unlike ks ]

-- then none of them stands where a literal does
pub lit-free : {text : List ℕ} {ks : List ℕ} {p q : Place} → unlike ks ≡ true → Derives text Lit p q → Free ks p
unfolding unlike
lit-free {ks = ks} {p = p} f D = go ks f
  where
    step : (k : ℕ) (ks : List ℕ) (b : Bool) → among k lits ≡ b → (unlike ks ≡ true → Free ks p) → elim b as (λ _. Bool) [ true ↦ false | false ↦ unlike ks ] ≡ true → Free (k ∷ ks) p
    step k ks true h rest f = absurd (true≢false (sym f))
    step k ks false h rest f = from_all (apart k (starts D) h) (rest f)

    go : (ks : List ℕ) → unlike ks ≡ true → Free ks p
    go [] f = from-none
    go (k ∷ ks) f = step k ks (among k lits) refl (go ks) f

module _ {e : Sheet} {d : ℕ} {p : Place} where
  pub start-meets : Meets e d p p nothing Any (start e)
  unfolding start
  start-meets = record { runs = λ s w h z. arrives (stays h z) tt }

  pub close-meets : (k from one two flags first : ℕ) → Meets e d p p building Any (close k from one two flags first)
  unfolding close
  close-meets k from one two flags first = record { runs = λ s w h z. (append-meets _ first).runs s w h z }

  pub pair-meets : (k from a b : ℕ) → Meets e d p p building Any (pair k from a b)
  unfolding pair
  pair-meets k from a b = adds _ _ (λ one. adds _ _ (λ two. close-meets k from 0 0 0 _))

  pub add-some-meets : (kids : Kids) (link : ℕ) → Meets e d p p nothing Any (add_some kids link)
  unfolding add_some
  add-some-meets kids zero = answers
  add-some-meets kids (suc i) = any (add_meets kids (suc i))

module _ {e : Sheet} {B : Type 0} {d : ℕ} {p v : Place} {c : Cost} {Q : B → Type 0} where
  pub begins : {f : ℕ → Rule B} → ((from : ℕ) → Meets e d p v c Q (f from)) → Meets e d p v c Q (start e >>= f)
  begins x = after_none start-meets (λ from _. x from)

  pub adds-some : (kids : Kids) (link : ℕ) {f : Kids → Rule B} → ((k : Kids) → Meets e d p v c Q (f k)) → Meets e d p v c Q (add_some kids link >>= f)
  adds-some kids link x = after_none (add-some-meets kids link) (λ k _. x k)

-- a literal is read and then built
lit_is : (e : Sheet) {p : Place} {l : Label} (s : State) (w : World) → Settled e.tokens s → place_at e.tokens s ≡ p → (kind_of p ≡ kind.Eof → ⊥) → literal e.text (kind_of p) (span_of p) ≡ literals.Value l → lit e s w ≡ (bump e >> append l 0) s w
unfolding lit lit_at lit_from
lit_is e {p} {l} s w h z n f =
    let k : kind_at e.tokens s.at ≡ kind_of p = sym (kind-place e.tokens s h) ∙ ap kind_of z in
    ap (λ x. lit_at e (kind_at e.tokens s.at) x s w) (range-place e s (kind_of p) n h (ap kind_of z))
    ∙ (λ i. lit_from e (span_of (z i)) (literal e.text (k i) (span_of (z i))) s w) ∙ ap (λ x. lit_from e (span_of p) x s w) f

module _ {e : Sheet} {d : ℕ} {p q : Place} where
  named : Tok kind.Ident p q → Meets e d p q (reading (taken p) ⊕ building) Any (ident e)
  unfolding ident ident_at
  named t = record { runs = λ s w h z. rw (range-place e s kind.Ident (eqb-false kind.Ident kind.Eof refl) h (ap kind_of z ∙ t.here), ident) ((expects t (append-meets _ 0)).runs s w h z) }

  pub ident-meets : (D : Derives e.text Ident p q) → Meets e d p q (flat_cost D) Any (ident e)
  unfolding costs records
  ident-meets (an-ident t) = fits (omega arith) (omega arith) (omega arith) (named t)

  valued : {l : Label} → (kind_of p ≡ kind.Eof → ⊥) → literal e.text (kind_of p) (span_of p) ≡ literals.Value l → after p ≡ q → Meets e d p q (reading (taken p) ⊕ building) Any (lit e)
  valued {l} n f t = record { runs = λ s w h z. rw (lit_is e s w h z n f) ((bumps t (append-meets l 0)).runs s w h z) }

  pub lit-meets : (D : Derives e.text Lit p q) → Meets e d p q (flat_cost D) Any (lit e)
  unfolding costs records among
  lit-meets (a-literal f t) = fits (omega arith) (omega arith) (omega arith) (valued (λ g. (apart kind.Eof (starts (a-literal f t)) refl).differs g) f t)
