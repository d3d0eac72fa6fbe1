-- The code's functions that are handed a place of a chain of checks, and no kind: what each reads. Several forms share one function there, and their steps. No
-- rule goes by these; that they are the rules by kinds is in proofs/Placed.antt.
use Rattle.std.specs.Prelude.{ℕ, Bool, true, false, ltb, eqb, None}
use Rattle.kinds.specs.Number as kind
use Rattle.cursor.specs.Node as node
use Rattle.cursor.specs.Rule.{Rule, ◌>>=◌, ◌>>◌, give}
use Rattle.cursor.specs.Tokens.{bump}
use Rattle.cursor.specs.Checks.{expect}
use Rattle.cursor.specs.Records.{no_link, no_kids}
use Rattle.types.specs.Lits.{lit, ident}
use Rattle.types.specs.Items.{over}
use Rattle.parts.specs.Forms as forms
use Rattle.parts.specs.When.{when}
use Rattle.parts.specs.Records.{list_record, fn_record, round_record}
use Rattle.parts.specs.Steps.{Elements, meta_end, leaf, loop_names}
use Rattle.rules.specs.Inner.{Inner, expr}
use Rattle.rules.specs.Blocks.{block, expr_and_block}
use Rattle.rules.specs.Functions.{function}
use Rattle.rules.specs.Tables.{items_of, brace}
use Rattle.rules.specs.Atoms.{if_expr, match_expr}

module _ (r : Inner) where
  -- the property of a member by the place of its opening token among `[`, `.` and `::`; none where it is a meta member
  unfoldable pub member_property : ℕ → Bool → Rule ℕ
  member_property which meta = when meta (meta_end r.sheet which) (when (ltb 0 which) (ident r.sheet) (do
    link ← expr r true
    expect r.sheet kind.CloseBracket
    give link))

  -- an expression in parentheses, a list, and `return` with its argument
  unfoldable pub group : ℕ → ℕ → Rule ℕ
  group from which = do
    bump r.sheet
    when (eqb which forms.OpenBracket) (do
      i ← items_of r Elements no_kids
      list_record node.List from i) (do
        link ← expr r true
        when (eqb which forms.Return) (over node.Return from link) (do
          expect r.sheet kind.CloseParen
          over node.Paren from link))

  -- the function of `do`
  unfoldable pub do_function : ℕ → Rule ℕ
  do_function from = do
    body ← block r node.None
    over node.Do from body

  -- the function without a name: `fn`, a closure or `do`
  unfoldable pub anon_function : ℕ → ℕ → Rule ℕ
  anon_function from which = when (eqb which forms.VBar) (function r from true) (do
    bump r.sheet
    when (eqb which forms.Fn) (function r from false) (do_function from))

  -- the expression over it
  unfoldable pub anon : ℕ → ℕ → Rule ℕ
  anon from which = do
    f ← anon_function from which
    fn_record from None no_link f

  -- `loop`, `while` and `for`
  unfoldable pub loops : ℕ → ℕ → Rule ℕ
  loops from which = do
    bump r.sheet
    when (eqb which forms.Loop) (do
      body ← block r node.None
      over node.Loop from body) (do
        names ← loop_names r.sheet which
        kids ← expr_and_block r names
        round_record from which names.count kids)

  -- the forms of an atom, in the order of the chain: `fn`, a closure and `do` come before `if`, the loops before `break`, and it and `continue` before
  -- `return`; otherwise a literal
  unfoldable pub form : ℕ → ℕ → Rule ℕ
  form from which =
      when (eqb which forms.OpenParen) (group from which)
      (when (eqb which forms.Ident) (ident r.sheet)
      (when (eqb which forms.OpenBrace) (brace r from)
      (when (eqb which forms.OpenBracket) (group from which)
      (when (ltb which forms.If) (anon from which)
      (when (eqb which forms.If) (if_expr r from)
      (when (eqb which forms.Match) (match_expr r from)
      (when (ltb which forms.Break) (loops from which)
      (when (ltb which forms.Return) (leaf r.sheet from which)
      (when (eqb which forms.Return) (group from which) (lit r.sheet))))))))))
