-- Records: raw buffers, exactly as the code writes them.
use Rattle.std.specs.Prelude.{ℕ, zero, suc, ◌+◌, ◌*◌, ◌/◌, ◌%◌, ◌^◌, min, Bool, true, false, cond, List, length, nat_le, nat_lt}
use Rattle.cursor.specs.declared.State.{State}
use Rattle.cursor.specs.declared.Fault.{Fault}
use Rattle.cursor.specs.declared.Kids.{Kids}
use Rattle.cursor.specs.declared.Label.{Label}
use Rattle.cursor.specs.Layout.{node_words, KIND, START, END, FIRST, NEXT, ONE, TWO, FLAGS, cell, error_words, CLASS, FOUND, ERROR_START, ERROR_END, KINDS_FROM, KINDS_COUNT, error_cell, node_limit, error_limit, expected_limit}
use Rattle.cursor.specs.Rule.{World, refused, Out, done, failed, Rule}
use Rattle.cursor.specs.Buffer.{put, copy}
use Rattle.cursor.specs.Checks.{live_room}

-- what a 32-bit word keeps of a number. That no list of a sheet is long enough to show it is proved in crate lengths
abbrev pub word32 : ℕ → ℕ
word32 n = n % 2 ^ 32

abbrev pub bit : Bool → ℕ
bit true = 1
bit false = 0

-- all eight words of record n, with no next link
unfoldable pub write : List ℕ → ℕ → Label → ℕ → List ℕ
write xs n l first =
    put (put (put (put (put (put (put (put xs (cell n KIND) l.kind) (cell n START) l.start) (cell n END) l.end) (cell n FIRST) first) (cell n NEXT) 0) (cell n ONE) l.one) (cell n TWO) l.two) (cell n FLAGS) l.flags

-- the node buffer anew
abbrev pub with_nodes : World → List ℕ → World
with_nodes w xs = record { nodes = xs; errors = w.errors; expected = w.expected; live = w.live }

-- one more record, over the children from a link on; its answer is the link to it. 7 where there is no room: the whole records that fit, at most 8,192
unfoldable pub append : Label → ℕ → Rule ℕ
append l first s w = elim (nat_lt s.nodes (min (length w.nodes / node_words) node_limit)) as (λ _. Out ℕ) [
  | true ↦ done (record { at = s.at; prev = s.prev; reads = s.reads; nodes = s.nodes + 1; errors = s.errors; wanted = s.wanted; live = s.live }) (with_nodes w (write w.nodes s.nodes l first)) (s.nodes + 1)
  | false ↦ failed (refused 7)
]

-- the link that leads to no record
abbrev pub no_link : ℕ
no_link = 0

-- a row with no child yet
abbrev pub no_kids : Kids
no_kids = record { first = no_link; last = no_link; count = 0 }

-- one more child at the end of a row
unfoldable pub add : Kids → ℕ → Rule Kids
add k link s w = elim k.last as (λ _. Out Kids) [
  | zero ↦ done s w (record { first = link; last = link; count = word32 (k.count + 1) })
  | suc i ↦ done s (with_nodes w (put w.nodes (cell i NEXT) link)) (record { first = k.first; last = link; count = word32 (k.count + 1) })
]

-- other flags for the record that a link leads to
unfoldable pub reflag : ℕ → ℕ → Rule Unit
reflag zero flags s w = done s w tt
reflag (suc i) flags s w = done s (with_nodes w (put w.nodes (cell i FLAGS) flags)) tt

-- a flags word: the lengths of two lists, of 15 bits each, and two flags
abbrev pub flagged : ℕ → ℕ → Bool → Bool → ℕ
flagged n m one two = word32 (n + 2 ^ 15 * m + 2 ^ 30 * bit one + 2 ^ 31 * bit two)

-- how many kinds an error lists: the live list's, where it is the error's own
abbrev pub list_length : Fault → State → ℕ
list_length f s = cond f.listed (min s.live live_room) 0

-- all six words of error record i, whose n expected kinds start at a place of the expected buffer
unfoldable pub write_error : List ℕ → ℕ → Fault → ℕ → ℕ → List ℕ
write_error xs i f from n =
    put (put (put (put (put (put xs (error_cell i CLASS) f.class) (error_cell i FOUND) f.found) (error_cell i ERROR_START) f.span.start) (error_cell i ERROR_END) f.span.end) (error_cell i KINDS_FROM) from) (error_cell i KINDS_COUNT) n

-- an error record, with so many kinds of the live list in the expected buffer
abbrev pub logged : Fault → ℕ → State → World → World
logged f n s w = record { nodes = w.nodes; errors = write_error w.errors s.errors f s.wanted n; expected = copy w.expected s.wanted w.live 0 n; live = w.live }

-- logs an error. 8 where there is no room for its record, the whole records that fit, at most 64, or for its kinds
unfoldable pub log : Fault → Rule Unit
log f s w = elim (nat_lt s.errors (min (length w.errors / error_words) error_limit)) as (λ _. Out Unit) [
  | true ↦ elim (nat_le (s.wanted + list_length f s) (min (length w.expected) expected_limit)) as (λ _. Out Unit) [
    | true ↦ done (record { at = s.at; prev = s.prev; reads = s.reads; nodes = s.nodes; errors = s.errors + 1; wanted = s.wanted + list_length f s; live = s.live }) (logged f (list_length f s) s w) tt
    | false ↦ failed (refused 8)
  ]
  | false ↦ failed (refused 8)
]
