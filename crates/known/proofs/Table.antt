-- The sheets with known outcomes, computed: `parse` comes to what each row of the table says.
use Prim.Native.Nat.{ℕ}
use mathlib.Core.Path.{◌≡◌, refl, ap, ◌∙◌}
use mathlib.Core.List.{List, map}
use lib.ListN.{length, replicate}
use Rattle.parser.specs.Parse.{reading, parse}
use Rattle.known.specs.Known.{Seen, seen, Row, words, table, parsed, Known, allowance, node_room, error_room, expected_room}
use Rattle.known.proofs.Opened.{of-kinds, of-ints, of_entry, of-cursor, of_types, of_parts, of-exprs, of-parser}

-- a row's sheet without the entry check, read into blank buffers of these lengths
abbrev read_into : ℕ → ℕ → ℕ → Row → Seen
read_into i j k row = seen (reading row.text (words row.tokens) allowance (replicate i 0) (replicate j 0) (replicate k 0))

-- with the lister's lengths, the rules compute the table
computed : map (read_into node_room error_room expected_room) table ≡ map (λ row. row.outcome) table
unfolding seen of-kinds of-ints of-cursor of_types of_parts of-exprs of-parser
computed = refl

-- every sheet of the table passes the entry check, and of the lent buffers only the lengths matter to it
entered : (n e x : List ℕ) → map (parsed n e x) table ≡ map (read_into (length n) (length e) (length x)) table
unfolding parse of-kinds of_entry
entered n e x = refl

pub known : Known
known n e x hn he hx = entered n e x ∙ ap (λ i. map (read_into i (length e) (length x)) table) hn ∙ ap (λ j. map (read_into node_room j (length x)) table) he ∙ ap (λ k. map (read_into node_room error_room k) table) hx ∙ computed
