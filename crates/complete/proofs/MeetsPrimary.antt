-- Calls and members: parse_expr_primary, an atom with all that follow.
use Rattle.std.specs.Prelude.{None}
use mathlib.Core.Path.{◌≡◌, refl, subst}
use mathlib.Core.Bool.{Bool, true, false}
use Prim.Native.Nat.{ℕ, ◌+◌, max}
use native.Mathlib.Omega.{arith}
use borrow.Author.Tests.{eqb-false}
use Rattle.kinds.specs.Number as kind
use Rattle.cursor.specs.Node as node
use Rattle.cursor.specs.Sheet.{Ranged, Sheet}
use Rattle.cursor.specs.Rule.{Rule, Next, iterate}
use Rattle.cursor.specs.Checks.{choose}
use Rattle.parts.specs.declared.values.Expr.{Expr}
use Rattle.parts.specs.declared.values.Expr.TheVariants as exprs
use Rattle.parts.specs.Values.{link_of, row_of}
use Rattle.parts.specs.Records.{member_record}
use Rattle.parts.specs.Steps.{braced, no_member}
use Rattle.rules.specs.Primary.{bracket_member, dot_member, double_colon_member, member_cases, access, call as call_rule, postfix_turn, primary_of}
use Rattle.rules.specs.Atoms.{primary}
use Rattle.rules.specs.Levels.{levels}
use Rattle.rules.proofs.Takes.{postfix-turn-takes}
use Rattle.grammar.specs.Places.{Place, Here, Not, from_all}
use Rattle.grammar.specs.Symbols.{Form, Call, Until, NoLast, Block, Primary, Posts, Member, Expr as Whole}
use Rattle.grammar.specs.Derives.{Derives, NoLambda, no-brace, not_taken, primary-of, no-post, call, call-lambda, lambda-alone, member, safe-member, bracket, dot, double-colon, bracket-meta, dot-meta, double-colon-meta}
use Rattle.grammar.specs.Words.{among}
use Rattle.grammar.proofs.Tests.{elsewhere, at-token}
use Rattle.grammar.proofs.FirstKinds.{apart, opening-apart}
use Rattle.grammar.proofs.Starts.{starts}
use Rattle.sound.proofs.SoundExprs.{form_of}
use Rattle.complete.proofs.Cost.{costs, cost}
use Rattle.complete.proofs.Records.{records}
use Rattle.complete.specs.Depth.{need}
use Rattle.complete.proofs.Meets.{◌⊕◌, nothing, building, cost_of, Goes, goes, stops, Meets}
use Rattle.complete.proofs.MeetsBinds.{gives, yes-so, not_so, fits, maps, next, turn_more, turn-stop}
use Rattle.complete.proofs.MeetsSteps.{after_none, check-yes, check-not, bumps, expects, eats, eats-not, ranges, ranges-not, chooses, chooses_none}
use Rattle.complete.proofs.MeetsValues.{begins, ident-meets}
use Rattle.complete.proofs.MeetsRecords.{OfForm, a-name, a-name-member, a_call, another, call-record-meets, member-record-meets, safe-record-meets}
use Rattle.complete.proofs.MeetsBlocks.{Handed, Braces, exprs-meet, blocks-meet, arguments-meet}
use Rattle.complete.proofs.MeetsAtoms.{atoms-meet}

-- the form of an answer, told in two ways
pub of-form : {f : Form} (x : Expr) → form_of x ≡ f → OfForm f x
of-form (exprs.Name link) h = subst (λ f. OfForm f (exprs.Name link)) h a-name
of-form (exprs.NameMember link) h = subst (λ f. OfForm f (exprs.NameMember link)) h a-name-member
of-form (exprs.Call link called) h = subst (λ f. OfForm f (exprs.Call link called)) h a_call
of-form (exprs.Other link) h = subst (λ f. OfForm f (exprs.Other link)) h another

form-of : {f : Form} {x : Expr} → OfForm f x → form_of x ≡ f
form-of a-name = refl
form-of a-name-member = refl
form-of a_call = refl
form-of another = refl

goes-as : {f : Form} (n : Next Expr) → Goes (OfForm f) n → Goes (λ x. form_of x ≡ f) n
goes-as n (goes h) = goes (form-of h)

module _ {e : Sheet} {d : ℕ} where
  -- a trailing lambda is asked for where one is taken; none stands here
  unbraced : {p : Place} (lambda : Bool) → Not kind.OpenBrace p → Meets e d p p nothing (λ b. b ≡ false) (braced e lambda)
  unfolding braced
  unbraced true n = check-not kind.OpenBrace n
  unbraced false n = gives refl

  no-lambda : {p : Place} {lambda : Bool} → NoLambda lambda p → Meets e d p p nothing (λ b. b ≡ false) (braced e lambda)
  unfolding braced
  no-lambda (no-brace n) = check-not kind.OpenBrace n
  no-lambda not_taken = gives refl

  a-lambda : {p : Place} → Here kind.OpenBrace p → Meets e d p p nothing (λ b. b ≡ true) (braced e true)
  unfolding braced
  a-lambda i = check-yes kind.OpenBrace i

module _ {e : Sheet} {d : ℕ} (h : Handed e d) where
  -- a member and its record
  module _ (from : ℕ) (safe : Ranged) (x : Expr) (none : Rule (Next Expr)) {Q : Next Expr → Type 0} where
    member-meets : {n : ℕ} {p q : Place} (D : Derives e.text (Member n) p q) → ((k link : ℕ) → Meets e d q q building Q (member_record from safe k x link)) → Meets e d p q (cost_of D ⊕ building) Q (choose e (member_cases (levels e d) from safe x) none)
    unfolding bracket_member dot_member double_colon_member among costs records need
    member-meets (bracket a D b) y = fits (omega arith) (omega arith) (omega arith)
        (chooses (member_cases (levels e d) from safe x) _ a.here (bumps a.next (eats-not _ (opening-apart kind.Pound (starts D) refl) (next (exprs-meet h D) (λ link _. expects b (y _ link))))))
    member-meets (dot a D) y = fits (omega arith) (omega arith) (omega arith)
        (chooses (member_cases (levels e d) from safe x) _ a.here (bumps a.next (eats-not _ (elsewhere kind.Pound refl (starts D)) (next (ident-meets D) (λ link _. y _ link)))))
    member-meets (double-colon a D) y = fits (omega arith) (omega arith) (omega arith)
        (chooses (member_cases (levels e d) from safe x) _ a.here (bumps a.next (eats-not _ (elsewhere kind.Pound refl (starts D)) (next (ident-meets D) (λ link _. y _ link)))))
    member-meets (bracket-meta a b c) y = fits (omega arith) (omega arith) (omega arith) (chooses (member_cases (levels e d) from safe x) _ a.here (bumps a.next (eats _ b (expects c (y _ _)))))
    member-meets (dot-meta a b) y = fits (omega arith) (omega arith) (omega arith) (chooses (member_cases (levels e d) from safe x) _ a.here (bumps a.next (eats _ b (y _ _))))
    member-meets (double-colon-meta a b) y = fits (omega arith) (omega arith) (omega arith) (chooses (member_cases (levels e d) from safe x) _ a.here (bumps a.next (eats _ b (y _ _))))

  -- arguments and a trailing lambda
  lambda-call : {p q r : Place} (D : Derives e.text (Until (Whole true) NoLast kind.CloseParen) p q) (F : Derives e.text Block q r) (from : ℕ) (x : Expr)
      → Meets e d p r (record { reads = cost D + cost F; nodes = records D + records F + 2; need = max (need D) (need F) }) (Goes (OfForm Call)) (call_rule (levels e d) from true x)
  unfolding call_rule
  lambda-call D F from x = fits (omega arith) (omega arith) (omega arith)
      (next (arguments-meet h D (row_of (link_of x))) (λ r _. after_none (a-lambda (starts F)) (λ t j. yes-so _ j (next (blocks-meet h F node.Closure) (λ c _. call-record-meets from r.kids c)))))

  -- calls and members behind an expression
  posts-meet : {lambda : Bool} {f g : Form} {p q : Place} (D : Derives e.text (Posts lambda f g) p q) (from : ℕ) (x : Expr) → form_of x ≡ f → Meets e d p q (cost_of D) (λ z. form_of z ≡ g) (iterate e (postfix_turn (levels e d) from lambda) x)
  unfolding postfix_turn call_rule access no_member among costs records need
  posts-meet (no-post (from_all a (from_all b o)) l) from x i = turn-stop _ _ (eats-not _ a (after_none (no-lambda l) (λ t j. not_so _ j (ranges-not _ b (chooses_none (member_cases (levels e d) from None x) o (gives (stops i)))))))
  posts-meet {lambda} (call a D l E) from x i = fits (omega arith) (omega arith) (omega arith)
      (turn_more (postfix-turn-takes e d from lambda) (maps goes-as (eats _ a (next (arguments-meet h D (row_of (link_of x))) (λ r _. after_none (no-lambda l) (λ t j. not_so _ j (call-record-meets from r.kids 0)))))) (λ y j. posts-meet E from y j))
  posts-meet (call-lambda a D F E) from x i = fits (omega arith) (omega arith) (omega arith) (turn_more (postfix-turn-takes e d from true) (maps goes-as (eats _ a (lambda-call D F from x))) (λ y j. posts-meet E from y j))
  posts-meet (lambda-alone D E) from x i = fits (omega arith) (omega arith) (omega arith)
      (turn_more (postfix-turn-takes e d from true) (maps goes-as (eats-not _ (elsewhere kind.OpenParen refl (starts D)) (after_none (a-lambda (starts D)) (λ t j. yes-so _ j (next (blocks-meet h D node.Closure) (λ c _. call-record-meets from (row_of (link_of x)) c)))))) (λ y j. posts-meet E from y j))
  posts-meet {lambda} (member D E) from x i = fits (omega arith) (omega arith) (omega arith)
      (turn_more (postfix-turn-takes e d from lambda) (maps goes-as (eats-not _ (apart kind.OpenParen (starts D) refl) (after_none (unbraced lambda (apart kind.OpenBrace (starts D) refl)) (λ t j. not_so _ j (ranges-not _ (apart kind.Question (starts D) refl)
      (member-meets from None x _ D (λ k link. member-record-meets from k link (of-form x i)))))))) (λ y j. posts-meet E from y j))
  posts-meet {lambda} (safe-member a D E) from x i = fits (omega arith) (omega arith) (omega arith)
      (turn_more (postfix-turn-takes e d from lambda) (maps goes-as (eats-not _ (elsewhere kind.OpenParen refl (at-token a)) (after_none (unbraced lambda (elsewhere kind.OpenBrace refl (at-token a))) (λ t j. not_so _ j
      (ranges _ (eqb-false kind.Question kind.Eof refl) a (member-meets from _ x _ D (λ k link. safe-record-meets from _ k x link))))))) (λ y j. posts-meet E from y j))

  -- parse_expr_primary
  pub primaries-meet : Braces e d → {lambda : Bool} {f : Form} {p q : Place} (D : Derives e.text (Primary lambda f) p q) → Meets e d p q (cost_of D) (λ x. form_of x ≡ f) (primary (levels e d) lambda)
  unfolding primary primary_of costs records need
  primaries-meet b (primary-of D E) = fits (omega arith) (omega arith) (omega arith) (begins (λ from. next (atoms-meet h b D) (λ x i. posts-meet E from x i)))
