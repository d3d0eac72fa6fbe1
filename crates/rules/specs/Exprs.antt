-- Statements in a row: parse_exprs.
use Rattle.std.specs.Prelude.{ℕ}
use Rattle.cursor.specs.declared.Kids.{Kids}
use Rattle.cursor.specs.Rule.{Rule, ◌>>=◌, ◌>>◌, give, if_so, stop, Turn, iterate}
use Rattle.cursor.specs.Tokens.{eat_eol}
use Rattle.cursor.specs.Checks.{eat}
use Rattle.cursor.specs.Records.{no_kids}
use Rattle.cursor.specs.Attempts.{recover}
use Rattle.parts.specs.Recovery.{skipped, after_stmt}
use Rattle.rules.specs.Inner.{Inner}
use Rattle.rules.specs.Statements.{stmt}

module _ (r : Inner) where
  -- a statement's link; where the statement fails, 0 behind what is skipped
  unfoldable pub stmt_or : ℕ → Rule ℕ
  stmt_or end = recover (stmt r) give (skipped r.sheet end)

  unfoldable pub exprs_turn : ℕ → Turn Kids
  exprs_turn end kids = do
    closed ← eat r.sheet end
    if_so (give (stop kids))
        (do
          link ← stmt_or end
          after_stmt r.sheet end kids link) closed

  -- parse_exprs
  unfoldable pub exprs : ℕ → Rule Kids
  exprs end = do
    eat_eol r.sheet
    iterate r.sheet (exprs_turn end) no_kids
