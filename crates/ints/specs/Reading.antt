-- What is left to read, and what the code makes of it step by step.
use Rattle.std.specs.Prelude.{ℕ, ◌≡◌, ◌+◌, ◌*◌, List, drop, Option, Some, None, MatchOption, Result, Ok, Err}
use Rattle.ints.specs.Spelling.{kept, prefix_radix, digit_of}
use Rattle.ints.specs.Answer.{right, wrong, judged}
use Rattle.ints.specs.declared.Sign.{Sign}
use Rattle.ints.specs.declared.IntFault.{IntFault}
use Rattle.ints.specs.declared.kept.Kept.{Kept}

-- the bytes that are left, underscores dropped
abbrev pub unread : Kept → List ℕ
unread k = kept k.rest.now

-- the radix that the prefix of these bytes names, with what is left after it; None where they have none
abbrev pub Prefixed : List ℕ → Option (ℕ × Kept) → Type 0
Prefixed s r = MatchOption r (prefix_radix s ≡ None) (λ p. (prefix_radix s ≡ Some p.0) × (unread p.1 ≡ drop 2 s))

-- the number so far with one more digit behind it, or the fault at that digit
unfoldable pub grown : ℕ → Sign → ℕ → ℕ → Result ℕ IntFault
grown radix sign size b = elim (judged radix sign (digit_of b) (size * radix + digit_of b)) as (λ _. Result ℕ IntFault) [
  | right ↦ Ok (size * radix + digit_of b)
  | wrong f ↦ Err f
]
