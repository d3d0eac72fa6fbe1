-- Two wrong answers to each function of exprs that only its own modules call, those of suffix. No other crate can name their contracts, so that the
-- equations `IsSuffix` and `NoSuffix` are copied: they are the text of the `ensures` clauses in the source. Assumes nothing.
use Rattle.std.specs.Prelude.{Result, Ok}
use Rattle.std.proofs.Common.{◌≡◌, ℕ, Bool, true, false, [], refl}
use Rattle.kinds.specs.Number as kind
use Rattle.cursor.specs.declared.Sheet.{Sheet}
use Rattle.cursor.specs.declared.Parser.{Parser}
use Rattle.cursor.specs.declared.Stop.{Stop}
use Rattle.cursor.specs.Sheet.{count, kind_at}
use Rattle.cursor.specs.Rule.{begin}
use Rattle.cursor.specs.Checks.{want, check, pick_from}
use Rattle.cursor.specs.Records.{bit}
use Rattle.cursor.specs.Answers.{sheet_of, run, ended}
use Rattle.parts.specs.declared.values.Expr.{Expr}
use Rattle.parts.specs.declared.values.Expr.TheVariants as sorts
use Rattle.exprs.specs.Suffix.{is_suffix, no_suffix}
use Rattle.ruled_out.proofs.Small.{sheet, parser, state, apart, strays, answer, sort}

-- the contracts, as functions of what they are handed, answer and leave in the parser
abbrev IsSuffix : ℕ → Bool → Type 0
IsSuffix k r = r ≡ is_suffix k

abbrev NoSuffix : Parser → Sheet → Expr → Bool → Result Expr Stop → Parser → Type 0
NoSuffix p e x lambda r q = ended q r ≡ run (no_suffix (sheet_of e) lambda x) p

pub is-suffix-brace-left-out : IsSuffix kind.OpenBrace false → ⊥
unfolding is_suffix
is-suffix-brace-left-out p = apart bit p refl

pub is-suffix-of-an-operator : IsSuffix kind.Add true → ⊥
unfolding is_suffix
is-suffix-of-an-operator p = apart bit p refl

-- at the end of a sheet, where no lambda may stand: five kinds were looked for
pub no-suffix-brace-looked-for : (q : Parser) → NoSuffix (parser begin).now (sheet []).now (sorts.Name 1) false (Ok (sorts.Name 1)) q → q.state ≡ state 0 0 0 0 6 → ⊥
unfolding no_suffix pick_from check want kind_at count
no-suffix-brace-looked-for q p h = strays (λ s. s.live) p h refl

-- a plain name that nothing can be assigned to
pub no-suffix-name-as-another-expression : (q : Parser) → NoSuffix (parser begin).now (sheet []).now (sorts.Name 1) true (Ok (sorts.Other 1)) q → ⊥
unfolding no_suffix pick_from check want kind_at count
no-suffix-name-as-another-expression q p = apart (answer sort) p refl
