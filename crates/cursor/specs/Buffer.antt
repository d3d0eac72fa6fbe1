-- Writing into a buffer.
use Rattle.std.specs.Prelude.{ℕ, zero, suc, ◌+◌, List, slice_index, slice_set}

-- one word of a buffer anew; past its end nothing. (A name for the library's `set` that stays shut, so that rules can be told apart by it.)
unfoldable pub put : List ℕ → ℕ → ℕ → List ℕ
put xs i a = slice_set xs i a

-- n values of a list, from its place k on, one after the other from place i of a buffer on
unfoldable pub copy : List ℕ → ℕ → List ℕ → ℕ → ℕ → List ℕ
copy ys i xs k zero = ys
copy ys i xs k (suc n) = copy (put ys i (slice_index xs k)) (i + 1) xs (k + 1) n
