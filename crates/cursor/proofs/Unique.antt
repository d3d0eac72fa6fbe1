-- No second answer satisfies a contract: of each public function, two answers that its `ensures` admits for the same arguments are one, and so
-- is where the parser stands and what it holds, unless the whole reading was refused (Told). `Post` is the contract as the check reads it from the
-- source: of a parser that is lent, the equation with the rule is its first clause.
-- Assumes nothing.
use Rattle.std.specs.Prelude.{Err}
use Rattle.std.proofs.Common.{◌≡◌, sym, ◌∙◌}
use Rattle.cursor.specs.declared.Parser.{Parser}
use Rattle.cursor.specs.declared.Fault.{Fault}
use Rattle.cursor.specs.declared.Stop.TheVariants as stops
use Rattle.cursor.specs.Rule.{Out}
use Rattle.cursor.specs.Answers.{ended}
use Rattle.cursor.proofs.Told.{Same, One, one, one_held, alike}
use Rattle.cursor.proofs.reader.Reader.over.Reads as over
use Rattle.cursor.proofs.reader.Reader.kind.Reads as kind
use Rattle.cursor.proofs.reader.Reader.range.Reads as range
use Rattle.cursor.proofs.reader.Reader.past.Reads as past
use Rattle.cursor.proofs.Parser.current_kind.Reads as current-kind
use Rattle.cursor.proofs.Parser.current_range.Reads as current-range
use Rattle.cursor.proofs.Parser.bump.Reads as bump
use Rattle.cursor.proofs.Parser.eat_trivia.Reads as eat-trivia
use Rattle.cursor.proofs.Parser.eat_eol.Reads as eat-eol
use Rattle.cursor.proofs.Parser.start_range.Reads as start-range
use Rattle.cursor.proofs.Parser.end_range.Reads as end-range
use Rattle.cursor.proofs.Parser.rewind.Reads as rewind
use Rattle.cursor.proofs.Parser.check.Reads as check
use Rattle.cursor.proofs.Parser.eat.Reads as eat
use Rattle.cursor.proofs.Parser.unexpected_at.Reads as unexpected-at
use Rattle.cursor.proofs.Parser.unexpected.Reads as unexpected
use Rattle.cursor.proofs.Parser.expect.Reads as expect
use Rattle.cursor.proofs.Parser.eat_range.Reads as eat-range
use Rattle.cursor.proofs.checks.is_in.Reads as is-in
use Rattle.cursor.proofs.Parser.pick.Reads as pick
use Rattle.cursor.proofs.Parser.append.Reads as append
use Rattle.cursor.proofs.Parser.add.Reads as add
use Rattle.cursor.proofs.Parser.reflag.Reads as reflag
use Rattle.cursor.proofs.records.flagged.Reads as flagged
use Rattle.cursor.proofs.Parser.log_error.Reads as log-error

-- a contract that is an equation with the answer
pub one-over : (κs : _) (args : _) (r s : _) (x y : _) → over.Post κs args r x → over.Post κs args s y → r ≡ s
one-over κs args r s x y p q = p ∙ sym q

pub one-kind : (κs : _) (args : _) (r s : _) (x y : _) → kind.Post κs args r x → kind.Post κs args s y → r ≡ s
one-kind κs args r s x y p q = p ∙ sym q

pub one-range : (κs : _) (args : _) (r s : _) (x y : _) → range.Post κs args r x → range.Post κs args s y → r ≡ s
one-range κs args r s x y p q = p ∙ sym q

pub one-past : (κs : _) (args : _) (r s : _) (x y : _) → past.Post κs args r x → past.Post κs args s y → r ≡ s
one-past κs args r s x y p q = p ∙ sym q

pub one-current-kind : (κs : _) (args : _) (r s : _) (x y : _) → current-kind.Post κs args r x → current-kind.Post κs args s y → r ≡ s
one-current-kind κs args r s x y p q = p ∙ sym q

pub one-current-range : (κs : _) (args : _) (r s : _) (x y : _) → current-range.Post κs args r x → current-range.Post κs args s y → r ≡ s
one-current-range κs args r s x y p q = p ∙ sym q

pub one-start-range : (κs : _) (args : _) (r s : _) (x y : _) → start-range.Post κs args r x → start-range.Post κs args s y → r ≡ s
one-start-range κs args r s x y p q = p ∙ sym q

pub one-end-range : (κs : _) (args : _) (r s : _) (x y : _) → end-range.Post κs args r x → end-range.Post κs args s y → r ≡ s
one-end-range κs args r s x y p q = p ∙ sym q

pub one-unexpected-at : (κs : _) (args : _) (r s : _) (x y : _) → unexpected-at.Post κs args r x → unexpected-at.Post κs args s y → r ≡ s
one-unexpected-at κs args r s x y p q = p ∙ sym q

pub one-unexpected : (κs : _) (args : _) (r s : _) (x y : _) → unexpected.Post κs args r x → unexpected.Post κs args s y → r ≡ s
one-unexpected κs args r s x y p q = p ∙ sym q

pub one-is-in : (κs : _) (args : _) (r s : _) (x y : _) → is-in.Post κs args r x → is-in.Post κs args s y → r ≡ s
one-is-in κs args r s x y p q = p ∙ sym q

pub one-flagged : (κs : _) (args : _) (r s : _) (x y : _) → flagged.Post κs args r x → flagged.Post κs args s y → r ≡ s
one-flagged κs args r s x y p q = p ∙ sym q

-- a rule that ends by a fault: the fault, where it was met, and what the buffers then hold
pub one-erred : {A : Type 0} {o : Out A} (p q : Parser) (f g : Fault) → ended {A = A} p (Err (stops.Fault f)) ≡ o → ended q (Err (stops.Fault g)) ≡ o → (f ≡ g) × Same p q
one-erred p q f g h k = (cc (h, k), (cc (h, k), cc (h, k)))

-- a rule that writes no buffer: on a refusal too
pub one-bump : (κs : _) (args : _) (r s : _) (x y : _) → bump.Post κs args r x → bump.Post κs args s y → (r ≡ s) × Same x.0.now y.0.now
one-bump κs args r s x y p q = one_held args.0.now x.0.now y.0.now r s p.0 q.0 p.1.1 q.1.1 p.1.0 q.1.0

pub one-eat-eol : (κs : _) (args : _) (r s : _) (x y : _) → eat-eol.Post κs args r x → eat-eol.Post κs args s y → (r ≡ s) × Same x.0.now y.0.now
one-eat-eol κs args r s x y p q = one_held args.0.now x.0.now y.0.now r s p.0 q.0 p.1.1 q.1.1 p.1.0 q.1.0

-- a rule

pub one-check : (κs : _) (args : _) (r s : _) (x y : _) → check.Post κs args r x → check.Post κs args s y → One x.0.now y.0.now r s
one-check κs args r s x y p q = one x.0.now y.0.now r s p.0 q.0

pub one-eat : (κs : _) (args : _) (r s : _) (x y : _) → eat.Post κs args r x → eat.Post κs args s y → One x.0.now y.0.now r s
one-eat κs args r s x y p q = one x.0.now y.0.now r s p.0 q.0

pub one-expect : (κs : _) (args : _) (r s : _) (x y : _) → expect.Post κs args r x → expect.Post κs args s y → One x.0.now y.0.now r s
one-expect κs args r s x y p q = one x.0.now y.0.now r s p.0 q.0

pub one-eat-range : (κs : _) (args : _) (r s : _) (x y : _) → eat-range.Post κs args r x → eat-range.Post κs args s y → One x.0.now y.0.now r s
one-eat-range κs args r s x y p q = one x.0.now y.0.now r s p.0 q.0

pub one-pick : (κs : _) (args : _) (r s : _) (x y : _) → pick.Post κs args r x → pick.Post κs args s y → One x.0.now y.0.now r s
one-pick κs args r s x y p q = one x.0.now y.0.now r s p.0 q.0

pub one-append : (κs : _) (args : _) (r s : _) (x y : _) → append.Post κs args r x → append.Post κs args s y → One x.0.now y.0.now r s
one-append κs args r s x y p q = one x.0.now y.0.now r s p.0 q.0

pub one-log-error : (κs : _) (args : _) (r s : _) (x y : _) → log-error.Post κs args r x → log-error.Post κs args s y → One x.0.now y.0.now r s
one-log-error κs args r s x y p q = one x.0.now y.0.now r s p.0 q.0

-- a rule that cannot fail
pub one-eat-trivia : (κs : _) (args : _) (r s : _) (x y : _) → eat-trivia.Post κs args r x → eat-trivia.Post κs args s y → Same x.0.now y.0.now
one-eat-trivia κs args r s x y p q = (alike x.0.now y.0.now _ _ p.0 q.0).1

pub one-rewind : (κs : _) (args : _) (r s : _) (x y : _) → rewind.Post κs args r x → rewind.Post κs args s y → Same x.0.now y.0.now
one-rewind κs args r s x y p q = (alike x.0.now y.0.now _ _ p.0 q.0).1

pub one-reflag : (κs : _) (args : _) (r s : _) (x y : _) → reflag.Post κs args r x → reflag.Post κs args s y → Same x.0.now y.0.now
one-reflag κs args r s x y p q = (alike x.0.now y.0.now _ _ p.0 q.0).1

pub one-add : (κs : _) (args : _) (r s : _) (x y : _) → add.Post κs args r x → add.Post κs args s y → (r ≡ s) × Same x.0.now y.0.now
one-add κs args r s x y p q = alike x.0.now y.0.now r s p.0 q.0
