-- Statements in a row: parse_exprs. No statement begins with the kind that ends them, and none is ended by the end of a line alone.
use mathlib.Core.Path.{◌≡◌, refl}
use mathlib.Core.Bool.{false}
use Prim.Native.Nat.{ℕ, ◌^◌, ◌<◌}
use native.Mathlib.Omega.{arith}
use lib.ListN.{length}
use lib.Dec.{eqb}
use Rattle.kinds.specs.Number as kind
use Rattle.cursor.specs.declared.Kids.{Kids}
use Rattle.cursor.specs.Sheet.{Sheet}
use Rattle.cursor.specs.Rule.{give, iterate}
use Rattle.cursor.specs.Records.{no_kids}
use Rattle.parts.specs.Recovery.{skipped, line_end, after_stmt}
use Rattle.rules.specs.Exprs.{stmt_or, exprs_turn, exprs}
use Rattle.rules.specs.Levels.{levels}
use Rattle.rules.proofs.BodyTakes.{body-turn-takes}
use Rattle.grammar.specs.Places.{Place, Tok}
use Rattle.grammar.specs.Symbols.{Exprs, Stmts, Stmt}
use Rattle.grammar.specs.Derives.{Derives, exprs-of, no-stmt, last-stmt, a-line}
use Rattle.grammar.specs.Words.{among}
use Rattle.grammar.proofs.Tests.{at-token, elsewhere}
use Rattle.grammar.proofs.FirstKinds.{stmts, apart}
use Rattle.grammar.proofs.Starts.{starts}
use Rattle.complete.proofs.Cost.{taken, costs}
use Rattle.complete.proofs.Records.{records}
use Rattle.complete.specs.Depth.{need}
use Rattle.complete.proofs.Meets.{reading, cost_of, Any, Meets}
use Rattle.complete.proofs.MeetsBinds.{answers, answers-more, answers-stop, fits, next, kept-recover, turn_more, turn-stop}
use Rattle.complete.proofs.MeetsSteps.{expect_meets, lines, not-here, eats, eats-not}
use Rattle.complete.proofs.MeetsValues.{adds-some}
use Rattle.complete.proofs.MeetsBlocks.{Handed}
use Rattle.complete.proofs.MeetsStmts.{stmts-meet}

line-meets : {e : Sheet} {d : ℕ} {p q : Place} → Tok kind.Eol p q → Meets e d p q (reading (taken p)) Any (line_end e)
unfolding line_end
line-meets t = fits (omega arith) (omega arith) (omega arith) (kept-recover (expect_meets kind.Eol t) (λ _ _. answers) (give tt))

module _ {e : Sheet} {d : ℕ} (h : Handed e d) (few : length e.tokens < 2 ^ 32) (end : ℕ) where
  stmt-or-meets : {p q : Place} (D : Derives e.text Stmt p q) → Meets e d p q (cost_of D) Any (stmt_or (levels e d) end)
  unfolding stmt_or
  stmt-or-meets D = fits (omega arith) (omega arith) (omega arith) (kept-recover (stmts-meet h few D) (λ link _. answers) (skipped e end))

  module _ (closed : among end stmts ≡ false) (lined : eqb kind.Eol end ≡ false) where
    rows-meet : {p q : Place} (D : Derives e.text (Stmts end) p q) (kids : Kids) → Meets e d p q (cost_of D) Any (iterate e (exprs_turn (levels e d) end) kids)
    unfolding exprs_turn after_stmt costs records need
    rows-meet (no-stmt t) kids = turn-stop _ _ (fits (omega arith) (omega arith) (omega arith) (eats _ t answers-stop))
    rows-meet (last-stmt D t) kids = turn-stop _ _ (fits (omega arith) (omega arith) (omega arith) (eats-not _ (apart end (starts D) closed) (next (stmt-or-meets D) (λ link _. eats _ t (adds-some _ _ (λ all. answers-stop))))))
    rows-meet (a-line D t E R) kids = fits (omega arith) (omega arith) (omega arith) (turn_more (body-turn-takes e d end) (eats-not _ (apart end (starts D) closed) (next (stmt-or-meets D) (λ link _. eats-not _ (elsewhere end lined (at-token t))
        (not-here _ (elsewhere kind.Eof refl (at-token t)) (next (line-meets t) (λ _ _. lines E (adds-some _ _ (λ longer. answers-more)))))))) (λ k _. rows-meet R k))

    pub body-meets : {p q : Place} (D : Derives e.text (Exprs end) p q) → Meets e d p q (cost_of D) Any (exprs (levels e d) end)
    unfolding exprs costs records need
    body-meets (exprs-of E D) = fits (omega arith) (omega arith) (omega arith) (lines E (rows-meet D no_kids))
