-- Each way through the rules on literals and names.
use Rattle.std.specs.Prelude.{Some, None, Ok, Err}
use mathlib.Core.Path.{◌≡◌, refl}
use mathlib.Core.Bool.{false}
use mathlib.Core.List.{List}
use Prim.Native.Nat.{ℕ, ◌/◌, ◌%◌, ◌^◌}
use lib.Dec.{eqb}
use borrow.Author.Tests.{eq-eqb, ne_eqb}
use Rattle.kinds.specs.Number as kind
use Rattle.kinds.specs.Text.{part}
use Rattle.ints.specs.declared.Int.{Int}
use Rattle.ints.specs.declared.IntFault.{IntFault}
use Rattle.ints.specs.Answer.{int_of, fault_number}
use Rattle.cursor.specs.declared.State.{State}
use Rattle.cursor.specs.declared.Label.{Label}
use Rattle.cursor.specs.declared.Span.{Span}
use Rattle.cursor.specs.Node as node
use Rattle.cursor.specs.Sheet.{Sheet, kind_at, range_at}
use Rattle.cursor.specs.Rule.{World, Stop, fault, done, failed}
use Rattle.cursor.specs.Tokens.{bump}
use Rattle.cursor.specs.Checks.{unexpected_at, unexpected, expect}
use Rattle.cursor.specs.Records.{append}
use Rattle.types.specs.declared.lits.Literal.{Literal}
use Rattle.types.specs.declared.lits.Literal.TheVariants as literals
use Rattle.types.specs.Lits.{bits_of, leaf_label, leaf, int_literal, when, literal, lit_from, lit_at, lit, ident_at, ident}

-- the one or the other, by a test of a kind
module _ (k m : ℕ) (l n : Literal) where
  pub on : k ≡ m → when (eqb k m) l n ≡ l
  on p = rw (eq-eqb _ _ p)

  pub off : (k ≡ m → ⊥) → when (eqb k m) l n ≡ n
  off p = rw (ne_eqb _ _ p)

pub literal-is : (text : List ℕ) (k : ℕ) (r : Span) → literal text k r ≡ when (eqb k kind.Int) (int_literal text r) (when (eqb k kind.Float) (leaf node.Float r 0) (when (eqb k kind.Str) (leaf node.Str r 0) (when (eqb k kind.RawStr) (leaf node.Str r 1) (when (eqb k kind.ByteStr) (leaf node.Bytes r 0) (when (eqb k kind.Null) (leaf node.Null r 0) (when (eqb k kind.True) (leaf node.Bool r 1) (when (eqb k kind.False) (leaf node.Bool r 0) literals.Nothing)))))))
unfolding literal
literal-is text k r = refl

module _ (text : List ℕ) (r : Span) where
  pub int-value : {i : Int} {v : ℕ} → Ok i ≡ int_of (part text r.start r.end) → v ≡ bits_of i.sign i.magnitude → int_literal text r ≡ literals.Value (record { kind = node.Int; start = r.start; end = r.end; one = v % 2 ^ 32; two = v / 2 ^ 32; flags = 0 })
  unfolding int_literal
  int-value p q = rw (← p, q)

  pub int-fault : {f : IntFault} {n : ℕ} → Err f ≡ int_of (part text r.start r.end) → n ≡ fault_number f → int_literal text r ≡ literals.Faulty n
  unfolding int_literal
  int-fault p q = rw (← p, q)

module _ (e : Sheet) (s : State) (w : World) where
  pub lit-out : range_at e.tokens s.at ≡ None → lit e s w ≡ failed (fault s w (unexpected_at e s))
  unfolding lit lit_at unexpected
  lit-out p = rw (p, lit, lit_at)

  pub ident-out : range_at e.tokens s.at ≡ None → ident e s w ≡ failed (fault s w (unexpected_at e s))
  unfolding ident ident_at unexpected
  ident-out p = rw (p, ident, ident_at)

  module _ {r : Span} (p : range_at e.tokens s.at ≡ Some r) where
    pub ident-failed : {x : Stop} → expect e kind.Ident s w ≡ failed x → ident e s w ≡ failed x
    unfolding ident ident_at
    ident-failed q = rw (p, ident, ident_at) (rw q)

    pub ident-on : {s1 : State} {w1 : World} → expect e kind.Ident s w ≡ done s1 w1 tt → ident e s w ≡ append (leaf_label node.Ident r 0) 0 s1 w1
    unfolding ident ident_at
    ident-on q = rw (p, ident, ident_at) (rw q)

    module _ {k : ℕ} (h : k ≡ kind_at e.tokens s.at) where
      pub lit-none : literals.Nothing ≡ literal e.text k r → lit e s w ≡ failed (fault s w (unexpected_at e s))
      unfolding lit lit_at lit_from unexpected
      lit-none q = rw (p, ← h, lit, lit_at) (rw (← q, lit_from))

      pub lit-faulty : {n : ℕ} → literals.Faulty n ≡ literal e.text k r → lit e s w ≡ failed (fault s w (record { class = 1; found = n; span = r; listed = false }))
      unfolding lit lit_at lit_from
      lit-faulty q = rw (p, ← h, lit, lit_at) (rw (← q, lit_from))

      pub lit-spent : {l : Label} {x : Stop} → literals.Value l ≡ literal e.text k r → bump e s w ≡ failed x → lit e s w ≡ failed x
      unfolding lit lit_at lit_from
      lit-spent q b = rw (p, ← h, lit, lit_at) (rw (← q, lit_from) (rw b))

      pub lit-on : {l : Label} {s1 : State} {w1 : World} → literals.Value l ≡ literal e.text k r → bump e s w ≡ done s1 w1 tt → lit e s w ≡ append l 0 s1 w1
      unfolding lit lit_at lit_from
      lit-on q b = rw (p, ← h, lit, lit_at) (rw (← q, lit_from) (rw b))
