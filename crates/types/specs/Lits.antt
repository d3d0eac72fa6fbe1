-- Literals and names: parse_lit and parse_ident.
use Rattle.std.specs.Prelude.{ℕ, ◌-◌, ◌/◌, ◌%◌, ◌^◌, List, Bool, true, false, eqb, Some, None, Result, Ok, Err}
use Rattle.kinds.specs.Number as kind
use Rattle.kinds.specs.Text.{part}
use Rattle.ints.specs.declared.Sign.{Sign}
use Rattle.ints.specs.declared.Sign.TheVariants as signs
use Rattle.ints.specs.declared.Int.{Int}
use Rattle.ints.specs.declared.IntFault.{IntFault}
use Rattle.ints.specs.Answer.{int_of, fault_number}
use Rattle.cursor.specs.declared.Label.{Label}
use Rattle.cursor.specs.declared.Span.{Span}
use Rattle.cursor.specs.Sheet.{Sheet, kind_at, range_at, Ranged}
use Rattle.cursor.specs.Node as node
use Rattle.cursor.specs.Layout.{FAULTY_INT}
use Rattle.cursor.specs.Rule.{fault, failed, Rule, ◌>>◌}
use Rattle.cursor.specs.Tokens.{bump}
use Rattle.cursor.specs.Checks.{unexpected, expect}
use Rattle.cursor.specs.Records.{append, no_link}
use Rattle.types.specs.declared.lits.Literal.{Literal}
use Rattle.types.specs.declared.lits.Literal.TheVariants as literals

-- an i64 as 64 bits, two's complement: a negative number is 2^64 less its magnitude
abbrev pub bits_of : Sign → ℕ → ℕ
bits_of signs.Absent m = m
bits_of signs.Plus m = m
bits_of signs.Minus m = (2 ^ 64 - m) % 2 ^ 64

-- a record with no children: its kind, its range and its flags
abbrev pub leaf_label : ℕ → Span → ℕ → Label
leaf_label k r flags = record { kind = k; start = r.start; end = r.end; one = 0; two = 0; flags = flags }

-- an integer's value goes into its record as 64 bits, the low 32 first
abbrev pub int_by : Result Int IntFault → Span → Literal
int_by (Ok i) r = literals.Value (record { kind = node.Int; start = r.start; end = r.end; one = bits_of i.sign i.magnitude % 2 ^ 32; two = bits_of i.sign i.magnitude / 2 ^ 32; flags = 0 })
int_by (Err f) r = literals.Faulty (fault_number f)

unfoldable pub int_literal : List ℕ → Span → Literal
int_literal text r = int_by (int_of (part text r.start r.end)) r

abbrev pub when : Bool → Literal → Literal → Literal
when true l m = l
when false l m = m

abbrev pub leaf : ℕ → Span → ℕ → Literal
leaf k r flags = literals.Value (leaf_label k r flags)

-- what a token is as a literal; strings and floats are carried by their range
unfoldable pub literal : List ℕ → ℕ → Span → Literal
literal text k r =
    when (eqb k kind.Int) (int_literal text r)
    (when (eqb k kind.Float) (leaf node.Float r 0)
    (when (eqb k kind.Str) (leaf node.Str r 0)
    (when (eqb k kind.RawStr) (leaf node.Str r 1)
    (when (eqb k kind.ByteStr) (leaf node.Bytes r 0)
    (when (eqb k kind.Null) (leaf node.Null r 0)
    (when (eqb k kind.True) (leaf node.Bool r 1)
    (when (eqb k kind.False) (leaf node.Bool r 0) literals.Nothing)))))))

-- a literal is read and then built; a faulty integer is an error with its fault and the token's range
unfoldable pub lit_from : Sheet → Span → Literal → Rule ℕ
lit_from e r (literals.Value l) = do
  bump e
  append l no_link
lit_from e r (literals.Faulty n) = λ s w. failed (fault s w (record { class = FAULTY_INT; found = n; span = r; listed = false }))
lit_from e r literals.Nothing = unexpected e

unfoldable pub lit_at : Sheet → ℕ → Ranged → Rule ℕ
lit_at e k (Some r) = lit_from e r (literal e.text k r)
lit_at e k None = unexpected e

unfoldable pub lit : Sheet → Rule ℕ
lit e s w = lit_at e (kind_at e.tokens s.at) (range_at e.tokens s.at) s w

-- a name: the record of its range
unfoldable pub ident_at : Sheet → Ranged → Rule ℕ
ident_at e (Some r) = do
  expect e kind.Ident
  append (leaf_label node.Ident r 0) no_link
ident_at e None = unexpected e

unfoldable pub ident : Sheet → Rule ℕ
ident e s w = ident_at e (range_at e.tokens s.at) s w
