-- That the rules of this crate never move back, however they end (Keeps, at the mark `ground`), with nothing said of their answers, and which
-- of them take a token (Spends): what a rule has to be handed for that, and the ways in which rules are put together.
use mathlib.Core.Path.{◌≡◌}
use mathlib.Core.List.{List}
use mathlib.Core.Bool.{Bool, true, false}
use Prim.Native.Nat.{ℕ, zero, suc}
use native.Mathlib.Omega.{arith}
use lib.Dec.{eqb}
use Rattle.kinds.specs.Number as kind
use Rattle.cursor.specs.declared.State.{State}
use Rattle.cursor.specs.declared.Kids.{Kids}
use Rattle.cursor.specs.declared.Fault.{Fault}
use Rattle.cursor.specs.Sheet.{Sheet}
use Rattle.cursor.specs.Rule.{Rule, ◌>>=◌, ◌>>◌, if_so, Next, more, stop, Turn, iterate}
use Rattle.cursor.specs.Tokens.{bump}
use Rattle.cursor.specs.Checks.{expect, Case, choose}
use Rattle.cursor.specs.Records.{add, reflag, no_kids}
use Rattle.cursor.proofs.Ends.{ill}
use Rattle.cursor.proofs.Chosen.{kinds_of, Every, each}
use Rattle.cursor.proofs.Keeps.{Keeps, Plain, Nexts, ground, went_refl, gives, eases, plain, binds, thens, loops}
use Rattle.cursor.proofs.Kept.{bump-keeps, expect-keeps, chooses, append-keeps, add-keeps, reflag-keeps, Fresh, ground-mine}
use Rattle.cursor.proofs.Spends.{Spends, Feeds, feeds, first-spends, first-feeds, then-spends}
use Rattle.cursor.proofs.Spent.{no_eof, bump-feeds, expect-spends, choose-spends}
use Rattle.types.specs.Items.{close, pair, add_some}
use Rattle.rules.specs.Inner.{Inner, expr}
use Rattle.parts.specs.When.{fail_with}

-- a loop whose turns never move back
next-plain : {A : Type 0} (n : Next A) → Nexts Plain n
next-plain (more a) = tt
next-plain (stop a) = tt

pub rounds : {A : Type 0} {t : Turn A} → ((a : A) → Keeps ground Plain (t a)) → (e : Sheet) (a : A) → Keeps ground Plain (iterate e t a)
rounds turn e a = loops (λ b _. eases (turn b) (λ n _. next-plain n)) e tt

pub fails : {A : Type 0} (f : Fault) → Keeps {A = A} ground Plain (fail_with f)
fails f = record { ends = λ s w h. ill (went_refl ground s w) }

-- records
pub add-stays : (kids : Kids) (link : ℕ) → Keeps ground Plain (add kids link)
add-stays kids link = plain (add-keeps kids link (ground-mine _) (ground-mine link))

pub add-some-stays : (kids : Kids) (link : ℕ) → Keeps ground Plain (add_some kids link)
unfolding add_some
add-some-stays kids zero = gives tt
add-some-stays kids (suc i) = add-stays kids (suc i)

pub close-stays : (k from one two flags first : ℕ) → Keeps ground Plain (close k from one two flags first)
unfolding close
close-stays k from one two flags first = record { ends = λ s w h. (plain (append-keeps _ first)).ends s w h }

pub pair-stays : (k from a b : ℕ) → Keeps ground Plain (pair k from a b)
unfolding pair
pair-stays k from a b = binds (add-stays no_kids a) (λ one _. binds (add-stays one b) (λ two _. close-stays k from 0 0 0 two.first))

pub reflag-stays : (link flags : ℕ) → Keeps ground Plain (reflag link flags)
unfolding reflag
reflag-stays zero flags = gives tt
reflag-stays (suc i) flags = reflag-keeps (suc i) flags (omega arith)

-- a rule that never moves back and always takes a token; and one that takes the token which stands here, where one does
pub record Starts {A : Type 0} (e : Sheet) (rule : Rule A) : Type 0 where
  pub stays : Keeps ground Plain rule
  pub spends : Spends e Plain rule

pub record Opens {A : Type 0} (e : Sheet) (rule : Rule A) : Type 0 where
  pub stays : Keeps ground Plain rule
  pub feeds : Feeds e Plain rule

module _ {A : Type 0} {e : Sheet} where
  pub opens : {rule : Rule A} → Starts e rule → Opens e rule
  opens x = record { stays = x.stays; feeds = feeds x.spends }

  pub bumps : {rule : Rule A} → Keeps ground Plain rule → Opens e (bump e >> rule)
  bumps x = record { stays = thens (bump-keeps e) x; feeds = first-feeds bump-feeds (λ _. x) }

  pub expects : {rule : Rule A} (k : ℕ) → eqb k kind.Eof ≡ false → Keeps ground Plain rule → Starts e (expect e k >> rule)
  expects k n x = record { stays = thens (expect-keeps e k) x; spends = first-spends (expect-spends k n) (λ _. x) }

  pub either-starts : {r q : Rule A} (b : Bool) → Starts e r → Starts e q → Starts e (if_so r q b)
  either-starts true x y = x
  either-starts false x y = y

  -- a chain of checks: what follows takes the token that was found; past the chain it has to take one all the same
  pub chooses-start : (cases : List (Case A)) {other : Rule A} → no_eof (kinds_of cases) ≡ true → Every (Opens e) cases → Starts e other → Starts e (choose e cases other)
  chooses-start cases n x y = record { stays = chooses e cases (each (λ r o. o.stays) cases x) y.stays; spends = choose-spends cases n (each (λ r o. o.feeds) cases x) y.spends }

  -- a rule that looks at the state which it begins in
  pub opens_at : {rule : State → Rule A} → ((s : State) → Opens e (rule s)) → Opens e (λ s w. rule s s w)
  opens_at x = record { stays = record { ends = λ s w h. (x s).stays.ends s w h }; feeds = record { ends = λ s w h. (x s).feeds.ends s w h } }

module _ {A B : Type 0} {e : Sheet} {rule : Rule A} {k : A → Rule B} where
  -- what takes a token first, or last
  pub opens-first : Opens e rule → ((a : A) → Keeps ground Plain (k a)) → Opens e (rule >>= k)
  opens-first x y = record { stays = binds x.stays (λ a _. y a); feeds = first-feeds x.feeds y }

  pub starts_first : Starts e rule → ((a : A) → Keeps ground Plain (k a)) → Starts e (rule >>= k)
  starts_first x y = record { stays = binds x.stays (λ a _. y a); spends = first-spends x.spends y }

  pub starts-then : {G : A → Type 0} → Keeps ground G rule → ((a : A) → Starts e (k a)) → Starts e (rule >>= k)
  starts-then x y = record { stays = binds x (λ a _. (y a).stays); spends = then-spends x (λ a. (y a).spends) }

-- what the rules that are handed over keep: an expression takes a token; of a type atom the rules on types ask for its link to be one
pub record Stays (r : Inner) : Type 0 where
  pub exprs : (end : ℕ) → Keeps ground Plain (r.exprs end)
  pub prec : (min : ℕ) (lambda : Bool) → Starts r.sheet (r.prec min lambda)
  pub type_atom : Keeps ground (Fresh ground) r.type_atom
  pub pattern : Keeps ground Plain r.pattern

-- an expression
pub expr-starts : {r : Inner} → Stays r → (lambda : Bool) → Starts r.sheet (expr r lambda)
unfolding expr
expr-starts h lambda = starts_first (h.prec 1 lambda) (λ x. gives tt)

pub expr-stays : {r : Inner} → Stays r → (lambda : Bool) → Keeps ground Plain (expr r lambda)
expr-stays h lambda = (expr-starts h lambda).stays
