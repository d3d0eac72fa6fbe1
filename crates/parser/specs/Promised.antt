-- What the contracts of `parse` and `lucia_parse` say.
use Rattle.std.specs.Prelude.{◌≡◌, List, ℕ}
use Rattle.parser.specs.Outcome.{Outcome, Handed, four_counts, received}
use Rattle.parser.specs.Parse.{parse}
use Rattle.parser.specs.Concluded.{Concluded}
use Rattle.parser.specs.Demands.{Demands}

-- Of the outcome of a text and tokens that are read with this allowance into buffers that held n, e and x: it is what the rules come to, to the last
-- word; and demand 1, and demands 2 and 3, hold of it, which follows, and is said here so that nobody has to read the rules to know it
pub record Promised (text tokens : List ℕ) (allowance : ℕ) (n e x : List ℕ) (o : Outcome) : Type 0 where
  pub same : o ≡ parse text tokens allowance n e x
  pub concluded : Concluded text tokens n e x o
  pub demanded : Demands text tokens allowance n o

-- Of what a caller in C is handed: four counts, and the same of the outcome that the caller reads off it
pub record Delivered (text tokens : List ℕ) (allowance : ℕ) (n e x : List ℕ) (h : Handed) : Type 0 where
  pub counted : h.counts ≡ four_counts (received h)
  pub promised : Promised text tokens allowance n e x (received h)
