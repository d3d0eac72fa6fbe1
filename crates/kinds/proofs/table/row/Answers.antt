-- `kinds::table::row` meets its contract: the table's rule is one test, computed over its 79 entries, and past them the entry is 0.
-- Assumes nothing.
use Rattle.std.proofs.Common.{ℕ, ◌≤◌, ◌/◌, ◌%◌, Bool, List, length, get_or, ◌≡◌, rules, arith}
use native.Mathlib.Decide.{dec_lt}
use lib.Dec.{T, eqb, eqb→eq}
use lib.ListN.{get_or-eq_default}
use Rattle.kinds.specs.Kinds.{is_trivia}
use Rattle.kinds.specs.Operators.{level_of, binary_of}
use Rattle.kinds.specs.Listing.{name_place, listing_name}
use Rattle.kinds.specs.declared.table.TheConstants.{TABLE}
use Rattle.kinds.specs.Row.{Row, flag}
use Rattle.kinds.proofs.Every.{both, both_first, both-second, every, at}
use Rattle.kinds.proofs.Rest.{past}
use Rattle.kinds.proofs.table.row.Goals as goal

abbrev right : ℕ → ℕ → Bool
right k x = both (eqb (x % 16) (flag (is_trivia k))) (both (eqb (x / 16 % 16) (level_of k)) (eqb (x / 256) (name_place k)))

rule : (k x : ℕ) → T (right k x) → Row k x
rule k x t =
    let rest : T (both (eqb (x / 16 % 16) (level_of k)) (eqb (x / 256) (name_place k))) = both-second (eqb (x % 16) (flag (is_trivia k))) _ t in
    record {
      trivia = eqb→eq _ _ (both_first (eqb (x % 16) (flag (is_trivia k))) _ t);
      level = eqb→eq _ _ (both_first (eqb (x / 16 % 16) (level_of k)) _ rest);
      name = eqb→eq _ _ (both-second (eqb (x / 16 % 16) (level_of k)) _ rest);
    }

no-kind : (k : ℕ) → 79 ≤ k → Row k 0
unfolding is_trivia level_of binary_of name_place listing_name
no-kind k h = let e = past k h in record { trivia = rw e; level = rw e; name = rw e }

module _ (table : List ℕ) (t : T (every 79 (λ k. right k (get_or table k 0)))) (long : length table ≤ 79) (k : ℕ) where
  entry : Row k (get_or table k 0)
  entry = elim (dec_lt k 79) [
    | yes h ↦ rule k (get_or table k 0) (at 79 (λ k. right k (get_or table k 0)) t k h)
    | no h ↦ let gone : length table ≤ k = omega arith in rw (get_or-eq_default table 0 gone) (no-kind k (omega arith))
  ]

pub returns : goal.returns
unfolding is_trivia level_of binary_of name_place listing_name
returns c = let read : c.unwrap_or.result ≡ get_or TABLE c.args.kind 0 = search rules in rw read (entry TABLE tt (omega arith) c.args.kind)
