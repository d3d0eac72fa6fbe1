-- Atoms: parse_expr_atom and parse_match_case. The first token tells the form.
use Rattle.std.specs.Prelude.{None}
use mathlib.Core.Path.{◌≡◌, refl}
use mathlib.Core.List.{List}
use Prim.Native.Nat.{ℕ}
use native.Mathlib.Omega.{arith}
use Rattle.kinds.specs.Number as kind
use Rattle.cursor.specs.declared.Kids.{Kids}
use Rattle.cursor.specs.Node as node
use Rattle.cursor.specs.Sheet.{Sheet}
use Rattle.cursor.specs.Rule.{Rule, ◌>>=◌, if_so, iterate}
use Rattle.cursor.specs.Checks.{eat}
use Rattle.cursor.specs.Records.{no_kids}
use Rattle.parts.specs.Values.{row_of}
use Rattle.parts.specs.Records.{if_record}
use Rattle.types.specs.Lits.{lit}
use Rattle.rules.specs.Atoms.{paren_expr, list_expr, return_expr, fn_expr, closure_expr, do_expr, alternate, if_expr, match_case, case_turn, match_expr, loop_expr, while_expr, for_expr, break_expr, continue_expr, other, atom_cases, atom}
use Rattle.rules.specs.Levels.{levels}
use Rattle.rules.proofs.Takes.{case-turn-takes}
use Rattle.cursor.proofs.Chosen.{kinds_of}
use Rattle.grammar.specs.Places.{Place, kind_of, Not, Free}
use Rattle.grammar.specs.Symbols.{Form, Other, Eols, Alternate, Cases, Case, Atom}
use Rattle.grammar.specs.Derives.{
  Derives,
  no-eol,
  an-eol,
  paren-expr,
  name,
  table,
  block-expr,
  list,
  atom-literal,
  fn-expr,
  closure-expr,
  do-expr,
  if-expr,
  match-expr,
  loop-expr,
  while-expr,
  for-expr,
  break-expr,
  continue-expr,
  return-expr,
  no-else,
  else-if,
  else-block,
  no-case,
  more-cases,
  case-of,
}
use Rattle.grammar.specs.Words.{among}
use Rattle.grammar.proofs.Tests.{elsewhere, at-token}
use Rattle.grammar.proofs.FirstKinds.{apart}
use Rattle.grammar.proofs.Starts.{starts}
use Rattle.sound.proofs.SoundExprs.{form_of}
use Rattle.complete.proofs.Cost.{costs}
use Rattle.complete.proofs.Records.{records}
use Rattle.complete.specs.Depth.{need}
use Rattle.complete.proofs.Meets.{Cost, ◌⊕◌, building, cost_of, Any, Meets}
use Rattle.complete.proofs.MeetsBinds.{gives, answers-more, answers-stop, fits, next, turn_more, turn-stop}
use Rattle.complete.proofs.MeetsSteps.{rule_for, before-none, bumps, expects, lines, here, not-here, eats, eats-not, chooses, chooses_none, adds}
use Rattle.complete.proofs.MeetsValues.{unlike, lit-free, close-meets, begins, ident-meets, lit-meets}
use Rattle.complete.proofs.MeetsPatterns.{names-meet, case-patterns-meet}
use Rattle.complete.proofs.MeetsRecords.{row-record-meets, list-record-meets, fn-record-meets, if-record-meets}
use Rattle.complete.proofs.MeetsBlocks.{Handed, Braces, exprs-meet, blocks-meet, block-meets, and-block-meets, elements-meet, functions-meet}

-- a case with the Eols before it begins with no brace that closes
case-apart : {text : List ℕ} {p q r : Place} → Derives text Eols p q → Derives text Case q r → Not kind.CloseBrace p
unfolding among
case-apart (no-eol n) D = apart kind.CloseBrace (starts D) refl
case-apart (an-eol t E) D = elsewhere kind.CloseBrace refl (at-token t)

module _ {e : Sheet} {d : ℕ} (h : Handed e d) where
  -- what stands behind an `if` and its block, and the record over all
  alternate-meets : {p q : Place} (D : Derives e.text Alternate p q) (from : ℕ) (kids : Kids)
      → Meets e d p q (cost_of D ⊕ building) Any (eat e kind.Else >>= if_so (alternate (levels e d) >>= (λ a. if_record from kids a)) (if_record from kids 0))
  unfolding alternate costs records need
  alternate-meets (no-else n) from kids = fits (omega arith) (omega arith) (omega arith) (eats-not _ n (if-record-meets from kids 0))
  alternate-meets (else-if t i D) from kids = fits (omega arith) (omega arith) (omega arith) (eats _ t (next (here _ i (exprs-meet h D)) (λ a _. if-record-meets from kids a)))
  alternate-meets (else-block t D) from kids =
      fits (omega arith) (omega arith) (omega arith) (eats _ t (next (not-here _ (elsewhere kind.If refl (starts D)) (blocks-meet h D node.ExprBlock)) (λ a _. if-record-meets from kids a)))

  -- parse_match_case
  case-meets : {p q : Place} (D : Derives e.text Case p q) → Meets e d p q (cost_of D) Any (match_case (levels e d))
  unfolding match_case costs records need
  case-meets (case-of D t E) = fits (omega arith) (omega arith) (omega arith) (begins (λ from. next (case-patterns-meet D) (λ row _. expects t (next (exprs-meet h E) (λ link _. row-record-meets node.MatchCase from row link)))))

  cases_meet : {p q : Place} (D : Derives e.text Cases p q) (kids : Kids) → Meets e d p q (cost_of D) Any (iterate e (case_turn (levels e d)) kids)
  unfolding case_turn costs records need
  cases_meet (no-case t) kids = turn-stop _ _ (fits (omega arith) (omega arith) (omega arith) (eats _ t answers-stop))
  cases_meet (more-cases E D F G) kids = fits (omega arith) (omega arith) (omega arith) (turn_more (case-turn-takes e d) (eats-not _ (case-apart E D) (lines E (next (case-meets D) (λ c _. lines F (adds kids c (λ longer. answers-more)))))) (λ k _. cases_meet G k))

  -- an atom by the kind of its first token, and one that no such kind begins
  module _ {f : Form} {p q : Place} {c : Cost} where
    by_kind : {k : ℕ} → kind_of p ≡ k → ((from : ℕ) → Meets e d p q c (λ x. form_of x ≡ f) (rule_for k (atom_cases (levels e d) from) (other (levels e d) (lit e)))) → Meets e d p q c (λ x. form_of x ≡ f) (atom (levels e d))
    unfolding atom
    by_kind i x = begins (λ from. chooses (atom_cases (levels e d) from) _ i (x from))

    by-none : Free (kinds_of (atom_cases (levels e d) 0)) p → Meets e d p q c (λ x. form_of x ≡ f) (other (levels e d) (lit e)) → Meets e d p q c (λ x. form_of x ≡ f) (atom (levels e d))
    unfolding atom
    by-none i x = begins (λ from. chooses_none (atom_cases (levels e d) from) i x)

  -- all but a name are no names
  others : {p q : Place} {c : Cost} {r : Rule ℕ} → Meets e d p q c Any r → Meets e d p q c (λ x. form_of x ≡ Other) (other (levels e d) r)
  others x = before-none x (λ link _. gives refl)

  -- parse_expr_atom
  pub atoms-meet : Braces e d → {f : Form} {p q : Place} (D : Derives e.text (Atom f) p q) → Meets e d p q (cost_of D) (λ x. form_of x ≡ f) (atom (levels e d))
  unfolding paren_expr list_expr return_expr fn_expr closure_expr do_expr if_expr match_expr loop_expr while_expr for_expr break_expr continue_expr unlike among costs records need
  atoms-meet b (paren-expr t D u) = by_kind t.here (λ from. others (fits (omega arith) (omega arith) (omega arith) (bumps t.next (next (exprs-meet h D) (λ link _. expects u (close-meets node.Paren from 0 0 0 link))))))
  atoms-meet b (name D) = by_kind (starts D).stands (λ from. before-none (fits (omega arith) (omega arith) (omega arith) (ident-meets D)) (λ link _. gives refl))
  atoms-meet b (table t D) = by_kind t.here (λ from. others (b.tables t D from))
  atoms-meet b (block-expr t E n D) = by_kind t.here (λ from. others (b.block-exprs t E n D from))
  atoms-meet b (list t D) = by_kind t.here (λ from. others (fits (omega arith) (omega arith) (omega arith) (bumps t.next (next (elements-meet h D no_kids) (λ i _. list-record-meets node.List from i)))))
  atoms-meet b (atom-literal D) = by-none (lit-free refl D) (others (fits (omega arith) (omega arith) (omega arith) (lit-meets D)))
  atoms-meet b (fn-expr t D) = by_kind t.here (λ from. others (fits (omega arith) (omega arith) (omega arith) (bumps t.next (next (functions-meet h D from) (λ f _. fn-record-meets from None 0 f)))))
  atoms-meet b (closure-expr D) = by_kind (starts D).stands (λ from. others (fits (omega arith) (omega arith) (omega arith) (next (functions-meet h D from) (λ f _. fn-record-meets from None 0 f))))
  atoms-meet b (do-expr t D) = by_kind t.here (λ from. others (fits (omega arith) (omega arith) (omega arith)
      (bumps t.next (next (block-meets h D) (λ body _. next (close-meets node.Do from 0 0 0 body) (λ f _. fn-record-meets from None 0 f))))))
  atoms-meet b (if-expr t D E F) = by_kind t.here (λ from. others (fits (omega arith) (omega arith) (omega arith) (bumps t.next (next (and-block-meets h D E no_kids) (λ kids _. alternate-meets F from kids)))))
  atoms-meet b (match-expr t D u E) = by_kind t.here (λ from. others (fits (omega arith) (omega arith) (omega arith)
      (bumps t.next (next (exprs-meet h D) (λ link _. expects u (next (cases_meet E (row_of link)) (λ row _. close-meets node.Match from 0 0 _ row.first)))))))
  atoms-meet b (loop-expr t D) = by_kind t.here (λ from. others (fits (omega arith) (omega arith) (omega arith) (bumps t.next (next (block-meets h D) (λ body _. close-meets node.Loop from 0 0 0 body)))))
  atoms-meet b (while-expr t D E) = by_kind t.here (λ from. others (fits (omega arith) (omega arith) (omega arith) (bumps t.next (next (and-block-meets h D E no_kids) (λ kids _. close-meets node.While from 0 0 0 kids.first)))))
  atoms-meet b (for-expr t D u E F) = by_kind t.here (λ from. others (fits (omega arith) (omega arith) (omega arith)
      (bumps t.next (next (names-meet D) (λ row _. expects u (next (and-block-meets h E F row) (λ kids _. close-meets node.For from 0 0 _ kids.first)))))))
  atoms-meet b (break-expr t) = by_kind t.here (λ from. others (fits (omega arith) (omega arith) (omega arith) (bumps t.next (close-meets node.Break from 0 0 0 0))))
  atoms-meet b (continue-expr t) = by_kind t.here (λ from. others (fits (omega arith) (omega arith) (omega arith) (bumps t.next (close-meets node.Continue from 0 0 0 0))))
  atoms-meet b (return-expr t D) = by_kind t.here (λ from. others (fits (omega arith) (omega arith) (omega arith) (bumps t.next (next (exprs-meet h D) (λ link _. close-meets node.Return from 0 0 0 link)))))
