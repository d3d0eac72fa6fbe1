use Rattle.std.proofs.Common.{rules, ap, sym, ◌∙◌}
use Rattle.cursor.proofs.TokenPaths as paths
use Rattle.cursor.proofs.Loops as loops
use Rattle.cursor.proofs.Exits.{refused-anywhere}
use Rattle.cursor.specs.Rule.{failed}
use Rattle.cursor.specs.declared.Parser.{Parser}
use Rattle.cursor.specs.Tokens.{eol_turn}
use Rattle.cursor.specs.Answers.{sheet_of}
use Rattle.cursor.proofs.Parser.eat_eol.Goals as goal

pub loop-mark-smaller : goal.loop-mark-smaller
loop-mark-smaller c = loops.loop-less (sheet_of c.args.sheet.now) (eol_turn _) (paths.eol-takes _) (paths.eol-on _ _ _ (sym c.current_kind.ensures ∙ c.loop-mark-test.true) (sym c.in_default.ensures.ended))

pub loop-mark-preserved : goal.loop-mark-preserved
loop-mark-preserved c = record {
  rest = c.loop-mark.invariant.rest ∙ loops.loop-more _ _ (paths.eol-takes _) (paths.eol-on _ _ _ (sym c.current_kind.ensures ∙ c.loop-mark-test.true) (sym c.in_default.ensures.ended));
  lent = search rules;
}

-- what is put back is not seen in a refusal
pub returns-in-Err-clause-ended : goal.returns-in-Err-clause-ended
returns-in-Err-clause-ended c =
    let r = paths.bump-refused _ _ _ c.in-Err.ensures.ended in
    let p = c.bump.new.self in
    let back : Parser = record { nodes = p.nodes; errors = p.errors; expected = p.expected; live = p.live; state = c.args.self.now.state } in
    ap failed (refused-anywhere p back _ r ∙ sym r) ∙ sym ((paths.eat-eol-on _ _ _ (sym c.eat_trivia.ensures.ended) ∙ c.loop-mark.invariant.rest) ∙ loops.loop-failed _ _ (paths.eol-spent _ _ _ (sym c.current_kind.ensures ∙ c.loop-mark-test.true) (sym c.in-Err.ensures.ended)))

pub returns-clause-ended : goal.returns-clause-ended
returns-clause-ended c = sym ((paths.eat-eol-on _ _ _ (sym c.eat_trivia.ensures.ended) ∙ c.loop-mark.invariant.rest) ∙ loops.loop-stop _ _ (paths.eol-off _ _ _ (λ q. c.loop-mark-test.false (c.current_kind.ensures ∙ q))))
