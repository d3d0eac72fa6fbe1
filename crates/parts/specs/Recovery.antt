-- Undone attempts, recovery, and what follows a statement: the parts of parse_exprs.
use Rattle.std.specs.Prelude.{ℕ, List, [], ◌∷◌}
use Rattle.kinds.specs.Number as kind
use Rattle.cursor.specs.declared.State.{State}
use Rattle.cursor.specs.declared.Kids.{Kids}
use Rattle.cursor.specs.Sheet.{Sheet}
use Rattle.cursor.specs.Rule.{Stop, fault, refused, Out, done, failed, Rule, ◌>>=◌, ◌>>◌, or_else, give, if_so, Next, more, stop, Turn, iterate}
use Rattle.cursor.specs.Tokens.{bump, eat_eol, rewind}
use Rattle.cursor.specs.Checks.{check, eat, expect, Case, ◌⇒◌, choose, unexpected_at}
use Rattle.cursor.specs.Records.{no_link, log}
use Rattle.cursor.specs.Attempts.{unbuilt, recover}
use Rattle.types.specs.Items.{add_some}

-- a failed attempt is undone; a refusal ends the whole reading
abbrev pub undone : State → Stop → Out Unit
undone mark (fault s w f) = done (rewind mark s) w tt
undone mark (refused n) = failed (refused n)

module _ (e : Sheet) where
  -- past all tokens up to Eol, Eof or the end of the statements
  abbrev pub skip_cases : ℕ → List (Case (Next Unit))
  skip_cases end = kind.Eol ⇒ give (stop tt) ∷ kind.Eof ⇒ give (stop tt) ∷ end ⇒ give (stop tt) ∷ []

  unfoldable pub skip_turn : ℕ → Turn Unit
  skip_turn end a = choose e (skip_cases end) (do
    bump e
    give (more tt))

  unfoldable pub skip : ℕ → Rule Unit
  skip end = iterate e (skip_turn end) tt

  -- what is left of a failed statement is skipped; it has no link
  unfoldable pub skipped : ℕ → Rule ℕ
  skipped end = do
    skip end
    give no_link

  -- how a statement that began at a mark goes on: where it failed its error is logged and its node records are given back
  unfoldable pub recovering : ℕ → State → Out ℕ → Out ℕ
  recovering end mark o = or_else o done (λ s w f. (log f >> skipped end) (unbuilt mark s) w)

  -- the end of input where a statement's end has to be is logged
  unfoldable pub log_here : Rule Unit
  log_here s w = log (unexpected_at e s) s w

  -- the end of a line; where it is missing that is logged, and nothing is skipped
  unfoldable pub line_end : Rule Unit
  line_end = recover (expect e kind.Eol) give (give tt)

  -- after a statement: the end of the statements, the end of input, or a line's end. The statement joins its row last, when nothing can fail
  unfoldable pub after_stmt : ℕ → Kids → ℕ → Rule (Next Kids)
  after_stmt end kids link = do
    closed ← eat e end
    if_so (do
      all ← add_some kids link
      give (stop all))
        (do
          over ← check e kind.Eof
          if_so (do
            log_here
            all ← add_some kids link
            give (stop all))
              (do
                line_end
                eat_eol e
                longer ← add_some kids link
                give (more longer)) over) closed
