-- `ints::int_value` meets its contract: with a prefix and without one, the definition's two ways.
use Rattle.std.proofs.Common.{◌≡◌, ℕ, List, sym, ◌∙◌, ap, Option, Some, None, unwrap_or, arith}
use Rattle.ints.specs.Spelling.{kept}
use Rattle.ints.specs.Answer.{int_of, from_str_radix}
use Rattle.ints.specs.Reading.{unread, Prefixed}
use Rattle.ints.specs.declared.kept.Kept.{Kept}
use Rattle.ints.proofs.Paths as paths
use Rattle.ints.proofs.int_value.Goals as goal

module _ (all : Kept) where
  usable : (r : Option (ℕ × Kept)) → Prefixed (unread all) r → paths.Usable (unwrap_or r (10, all)).0
  usable None e = omega arith
  usable (Some p) e = paths.named-usable (unread all) e.0

  answered : (s : List ℕ) → kept s ≡ unread all → (r : Option (ℕ × Kept)) → Prefixed (unread all) r
      → from_str_radix (unwrap_or r (10, all)).0 (unread (unwrap_or r (10, all)).1) ≡ int_of s
  answered s is None e = sym (paths.int-of-none s is e)
  answered s is (Some p) e = ap (from_str_radix p.0) e.1 ∙ sym (paths.int-of-some s is e.0)

pub from_str_radix-requires : goal.from_str_radix-requires
from_str_radix-requires c = rw c.unwrap_or-radix.ensures (usable c.of-all.result c.prefixed.result c.prefixed.ensures)

pub returns : goal.returns
returns c =
    c.from_str_radix.ensures
    ∙ ap (λ p. from_str_radix p.0 (unread p.1)) c.unwrap_or-radix.ensures
    ∙ answered c.of-all.result _ (sym c.of-all.ensures) c.prefixed.result c.prefixed.ensures
    ∙ ap int_of c.part.ensures
