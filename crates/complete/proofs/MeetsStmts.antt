-- Statements. At a `fn` a named function is attempted; where the function has no name the attempt fails behind that one token.
use Rattle.std.specs.Prelude.{Some, None}
use mathlib.Core.Path.{◌≡◌, refl}
use mathlib.Core.List.{[], ◌∷◌}
use mathlib.Core.Bool.{true, false}
use Prim.Native.Nat.{ℕ, ◌+◌, ◌^◌, ◌<◌}
use native.Mathlib.Omega.{arith}
use lib.ListN.{length}
use Rattle.kinds.specs.Number as kind
use Rattle.cursor.specs.declared.State.{State}
use Rattle.cursor.specs.Sheet.{Sheet, range_at, Ranged}
use Rattle.cursor.specs.Node as node
use Rattle.cursor.specs.Rule.{World}
use Rattle.cursor.specs.Checks.{choose}
use Rattle.types.specs.Lits.{ident_at, ident}
use Rattle.rules.specs.Functions.{named_function}
use Rattle.rules.specs.Statements.{assign as assign_rule, glo_assign, glo_cases, glo, stmt_cases, plain as plain_rule, function_stmt, stmt}
use Rattle.rules.specs.Levels.{levels}
use Rattle.grammar.specs.Places.{Place, after, Tok, Here, Not, Free, from-none, from_all}
use Rattle.grammar.specs.Symbols.{Form, Ident, Stmt, Function, Prec}
use Rattle.grammar.specs.Derives.{Derives, fn-stmt, import-stmt, effect-stmt, glo-fn, glo-effect, glo-assign, expr-stmt, assign, typed-assign, op-assign, unpack, multi}
use Rattle.grammar.specs.Words.{among}
use Rattle.grammar.proofs.FirstKinds.{opening-apart}
use Rattle.grammar.proofs.Tests.{at-token, elsewhere}
use Rattle.sound.proofs.Links.{place_at, Settled}
use Rattle.grammar.proofs.Starts.{starts}
use Rattle.complete.proofs.Cost.{taken, costs, cost, one-spent}
use Rattle.complete.proofs.Records.{records}
use Rattle.complete.specs.Depth.{need}
use Rattle.complete.proofs.Leading.{Fns, no_fn, a-fn, prec-fns}
use Rattle.complete.proofs.Meets.{Cost, ◌⊕◌, nothing, reading, cost_of, Any, Meets, FailsAt, Fails}
use Rattle.complete.proofs.MeetsBinds.{answers, fits, next, kept-attempt}
use Rattle.complete.proofs.MeetsFails.{fails-first, fails-later, fails-fit, retried}
use Rattle.complete.proofs.MeetsSteps.{unexpected-fails, expect_meets, expect-fails, bumps, expects, here, not-here, chooses, chooses_none}
use Rattle.complete.proofs.MeetsValues.{start-meets, begins, ident-meets}
use Rattle.complete.proofs.MeetsTypes.{typed-ident-meets}
use Rattle.complete.proofs.MeetsParts.{import-meets, effect-meets}
use Rattle.complete.proofs.MeetsRecords.{fn-record-meets}
use Rattle.complete.proofs.MeetsBlocks.{Handed, functions-meet}
use Rattle.complete.proofs.MeetsAssign.{right-meets, plain-meets, assign-meets, op-assign-meets, typed-assign-meets, unpack-meets, multi-meets}

module _ {e : Sheet} {d : ℕ} {p : Place} where
  -- where no name stands none is read
  ident-fails : Not kind.Ident p → Fails e d p nothing (ident e)
  unfolding ident ident_at
  ident-fails n = record { fails = λ s w h z. go s w h z (range_at e.tokens s.at) }
    where
      go : (s : State) (w : World) → Settled e.tokens s → place_at e.tokens s ≡ p → (r : Ranged) → FailsAt e d nothing s w (ident_at e r s w)
      go s w h z (Some r) = (fails-first _ (expect-fails kind.Ident n)).fails s w h z
      go s w h z None = unexpected-fails.fails s w h z

module _ {e : Sheet} {d : ℕ} {p : Place} where
  -- an attempt at a named function fails behind `fn` where a parenthesis stands
  nameless-fails : {q : Place} → Tok kind.Fn p q → Here kind.OpenParen q → Fails e d p (reading 1) (function_stmt (levels e d))
  unfolding function_stmt named_function
  nameless-fails t o =
      let i = one-spent t refl in
      fails-fit {a = nothing ⊕ (reading (taken p) ⊕ nothing)} (omega (arith, i)) (omega arith) (omega arith) (fails-later start-meets (λ from _. fails-later (expect_meets kind.Fn t) (λ _ _. fails-first _ (ident-fails (elsewhere kind.Ident refl o)))))

  -- behind `glo`, whose range is handed on
  glo-meets : {q r : Place} {c : Cost} (from : ℕ) → after p ≡ q → ((g : Ranged) → Meets e d q r c Any (choose e (glo_cases (levels e d) from g) (glo_assign (levels e d) from))) → Meets e d p r (reading (taken p) ⊕ c) Any (glo (levels e d) from)
  unfolding glo
  glo-meets from t x = record { runs = λ s w h z. (bumps t (x (range_at e.tokens s.at))).runs s w h z }

  -- a statement that begins with an expression
  opened : {f : Form} {q u : Place} {c : Cost} (D : Derives e.text (Prec 1 true f) p u) → ((from : ℕ) → Meets e d p q c Any (assign_rule (levels e d) from)) → Meets e d p q (record { reads = (costs D).fn + c.reads; nodes = c.nodes; need = c.need }) Any (stmt (levels e d))
  unfolding stmt plain_rule among
  opened {q = q} {c = c} D x = by (costs D).fn (prec-fns D)
    where
      other : Free (kind.Import ∷ kind.Effect ∷ kind.Glo ∷ []) p
      other = from_all (opening-apart kind.Import (starts D) refl) (from_all (opening-apart kind.Effect (starts D) refl) (from_all (opening-apart kind.Glo (starts D) refl) from-none))

      plainly : Meets e d p q c Any (plain_rule (levels e d))
      plainly = begins (λ from. chooses_none (stmt_cases (levels e d) from) other (x from))

      by : (n : ℕ) → Fns p n → Meets e d p q (record { reads = n + c.reads; nodes = c.nodes; need = c.need }) Any (stmt (levels e d))
      by n (no_fn f i) = fits (omega (arith, i)) (omega arith) (omega arith) (not-here _ f plainly)
      by n (a-fn t o i) = fits (omega (arith, i)) (omega arith) (omega arith) (here _ (at-token t) (retried {b = c} _ (nameless-fails t o) (omega arith) (omega arith) plainly))

module _ {e : Sheet} {d : ℕ} (h : Handed e d) where
  -- a named function, also behind `glo`
  named-meets : {p q r s : Place} → Tok kind.Fn p q → (D : Derives e.text Ident q r) (E : Derives e.text (Function false) r s) (from : ℕ) (g : Ranged)
      → Meets e d p s (record { reads = taken p + cost D + cost E; nodes = records D + records E + 1; need = need E }) Any (named_function (levels e d) from g)
  unfolding named_function
  named-meets t D E from g = fits (omega arith) (omega arith) (omega arith) (expects t (next (ident-meets D) (λ name _. next (functions-meet h E from) (λ link _. fn-record-meets _ _ _ _))))

  module _ (few : length e.tokens < 2 ^ 32) where
    -- parse_stmt
    pub stmts-meet : {p q : Place} (D : Derives e.text Stmt p q) → Meets e d p q (cost_of D) Any (stmt (levels e d))
    unfolding stmt plain_rule function_stmt glo_assign costs records need
    stmts-meet (fn-stmt a D E) = fits (omega arith) (omega arith) (omega arith) (here _ (at-token a) (kept-attempt (begins (λ from. named-meets a D E from None)) (λ link _. answers) (plain_rule (levels e d))))
    stmts-meet (import-stmt a D) = fits (omega arith) (omega arith) (omega arith) (not-here _ (elsewhere kind.Fn refl (at-token a)) (begins (λ from. chooses (stmt_cases (levels e d) from) _ a.here (import-meets a D from))))
    stmts-meet (effect-stmt D) = fits (omega arith) (omega arith) (omega arith) (not-here _ (elsewhere kind.Fn refl (starts D)) (begins (λ from. chooses (stmt_cases (levels e d) from) _ (starts D).stands (effect-meets D from None))))
    stmts-meet (glo-fn a b D E) = fits (omega arith) (omega arith) (omega arith)
        (not-here _ (elsewhere kind.Fn refl (at-token a)) (begins (λ from. chooses (stmt_cases (levels e d) from) _ a.here (glo-meets from a.next (λ g. chooses (glo_cases (levels e d) from g) _ b.here (named-meets b D E from g))))))
    stmts-meet (glo-effect a D) = fits (omega arith) (omega arith) (omega arith)
        (not-here _ (elsewhere kind.Fn refl (at-token a)) (begins (λ from. chooses (stmt_cases (levels e d) from) _ a.here (glo-meets from a.next (λ g. chooses (glo_cases (levels e d) from g) _ (starts D).stands (effect-meets D from g))))))
    stmts-meet (glo-assign a D b E) = fits (omega arith) (omega arith) (omega arith)
        (not-here _ (elsewhere kind.Fn refl (at-token a)) (begins (λ from. chooses (stmt_cases (levels e d) from) _ a.here (glo-meets from a.next (λ g. chooses (glo_cases (levels e d) from g) _ (starts D).stands (next (typed-ident-meets D) (λ name _. expects b (right-meets h E from node.GloAssign 0 name))))))))
    stmts-meet (expr-stmt D n) = fits (omega arith) (omega arith) (omega arith) (opened D (λ from. plain-meets h few from D n))
    stmts-meet (assign D f a E) = fits (omega arith) (omega arith) (omega arith) (opened D (λ from. assign-meets h few from D f a E))
    stmts-meet (typed-assign D a T b E) = fits (omega arith) (omega arith) (omega arith) (opened D (λ from. typed-assign-meets h few from D a T b E))
    stmts-meet (op-assign D f c a E) = fits (omega arith) (omega arith) (omega arith) (opened D (λ from. op-assign-meets h few from D f c a E))
    stmts-meet (unpack D f L a E n) = fits (omega arith) (omega arith) (omega arith) (opened D (λ from. unpack-meets h few from D f L a E n))
    stmts-meet (multi D f L a E R) = fits (omega arith) (omega arith) (omega arith) (opened D (λ from. multi-meets h few from D f L a E R))
