-- No second outcome satisfies a contract: for the same arguments two answers that the `ensures` admits tell the same number, the same four
-- counts and the same words of the three buffers. `Post` is the contract as the check reads it from the source.
-- Assumes nothing.
use mathlib.Core.Path.{◌≡◌, sym, ◌∙◌}
use denote.Builtin.{u8, u32}
use Rattle.parser.specs.Outcome.{told, handed}
use Rattle.parser.proofs.Numbers.{read-has-a-record, one_answer}
use Rattle.parser.proofs.Contract.{delivered}
use Rattle.parser.proofs.Refusal.number.Reads as number
use Rattle.parser.proofs.clear.Reads as clear
use Rattle.parser.proofs.parse.Reads as parse
use Rattle.parser.proofs.lucia_parse.Reads as lucia-parse

pub one-number : (κs : _) (args : _) (r s : _) (x y : _) → number.Post κs args r x → number.Post κs args s y → r ≡ s
one-number κs args r s x y p q = p ∙ sym q

pub one-clear : (T : _) (L : _) (C : _) (G : _) (D : _) (κs : _) (args : _) (r s : _) (x y : _) → clear.Post T L C G D κs args r x → clear.Post T L C G D κs args s y → x.0.now ≡ y.0.now
one-clear T L C G D κs args r s x y p q = p ∙ sym q

-- of words and of bytes, as `read` and `refuse` clear them
module _ (L : _) (C : _) (G : _) (D : _) where
  pub one-clear-words : (κs : _) (args : _) (r s : _) (x y : _) → clear.Post u32 L C G D κs args r x → clear.Post u32 L C G D κs args s y → x.0.now ≡ y.0.now
  one-clear-words = one-clear u32 L C G D

  pub one-clear-bytes : (κs : _) (args : _) (r s : _) (x y : _) → clear.Post u8 L C G D κs args r x → clear.Post u8 L C G D κs args s y → x.0.now ≡ y.0.now
  one-clear-bytes = one-clear u8 L C G D

pub one-parse : (κs : _) (args : _) (r s : _) (x y : _) → parse.Post κs args r x → parse.Post κs args s y
    → told r x.1.1.1.0.now x.1.1.1.1.0.now x.1.1.1.1.1.0.now ≡ told s y.1.1.1.0.now y.1.1.1.1.0.now y.1.1.1.1.1.0.now
one-parse κs args r s x y p q = p.same ∙ sym q.same

-- and they are one answer
pub one-answer-of-parse : (κs : _) (args : _) (r s : _) (x y : _) → parse.Post κs args r x → parse.Post κs args s y → r ≡ s
one-answer-of-parse κs args r s x y p q = one_answer _ (read-has-a-record _ _ _ _ _ _) r s _ _ _ _ _ _ p.same q.same

pub one-lucia-parse : (κs : _) (args : _) (r s : _) (x y : _) → lucia-parse.Post κs args r x → lucia-parse.Post κs args s y
    → handed r x.1.1.1.1.1.1.0.now x.1.1.1.0.now x.1.1.1.1.0.now x.1.1.1.1.1.0.now ≡ handed s y.1.1.1.1.1.1.0.now y.1.1.1.0.now y.1.1.1.1.0.now y.1.1.1.1.1.0.now
one-lucia-parse κs args r s x y p q = delivered _ _ _ _ _ _ p ∙ sym (delivered _ _ _ _ _ _ q)
