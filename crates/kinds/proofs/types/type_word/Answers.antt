-- `kinds::types::type_word` meets its contract: a comparison that holds makes the part the word, whose type the definition computes; where
-- none holds, each of the definition's tests fails.
-- Assumes nothing.
use Rattle.std.proofs.Common.{◌≡◌, ℕ, List, Bool, true, sym, ◌∙◌, ap}
use Rattle.kinds.specs.Text.{part}
use Rattle.kinds.specs.Spelling.{bytes, equal}
use Rattle.kinds.specs.TypeWords.{type_word}
use Rattle.kinds.proofs.Parts.{equal-same}
use Rattle.kinds.proofs.types.type_word.Goals as goal

named : (text : List ℕ) (start end : ℕ) (word : List ℕ) {same : Bool} → same ≡ equal (part text start end) word → same ≡ true → type_word word ≡ type_word (part text start end)
named text start end word e t = sym (ap type_word (equal-same (part text start end) word (sym e ∙ t)))

pub returns-then-same_bytes : goal.returns-then-same_bytes
unfolding type_word equal
returns-then-same_bytes c = named c.args.text.now c.args.start c.args.end (bytes "bool") c.same_bytes.ensures c.if-same_bytes.true

pub returns-then-same_bytes-2 : goal.returns-then-same_bytes-2
unfolding type_word equal
returns-then-same_bytes-2 c = named c.args.text.now c.args.start c.args.end (bytes "int") c.same_bytes-2.ensures c.if-same_bytes-2.true

pub returns-then-same_bytes-3 : goal.returns-then-same_bytes-3
unfolding type_word equal
returns-then-same_bytes-3 c = named c.args.text.now c.args.start c.args.end (bytes "float") c.same_bytes-3.ensures c.if-same_bytes-3.true

pub returns-then-same_bytes-4 : goal.returns-then-same_bytes-4
unfolding type_word equal
returns-then-same_bytes-4 c = named c.args.text.now c.args.start c.args.end (bytes "str") c.same_bytes-4.ensures c.if-same_bytes-4.true

pub returns-then-same_bytes-5 : goal.returns-then-same_bytes-5
unfolding type_word equal
returns-then-same_bytes-5 c = named c.args.text.now c.args.start c.args.end (bytes "bytes") c.same_bytes-5.ensures c.if-same_bytes-5.true

pub returns-then-same_bytes-6 : goal.returns-then-same_bytes-6
unfolding type_word equal
returns-then-same_bytes-6 c = named c.args.text.now c.args.start c.args.end (bytes "table") c.same_bytes-6.ensures c.if-same_bytes-6.true

pub returns-then-same_bytes-7 : goal.returns-then-same_bytes-7
unfolding type_word equal
returns-then-same_bytes-7 c = named c.args.text.now c.args.start c.args.end (bytes "function") c.same_bytes-7.ensures c.if-same_bytes-7.true

pub returns-then-same_bytes-8 : goal.returns-then-same_bytes-8
unfolding type_word equal
returns-then-same_bytes-8 c = named c.args.text.now c.args.start c.args.end (bytes "effect") c.same_bytes-8.ensures c.if-same_bytes-8.true

pub returns-then-same_bytes-9 : goal.returns-then-same_bytes-9
unfolding type_word equal
returns-then-same_bytes-9 c = named c.args.text.now c.args.start c.args.end (bytes "userdata") c.same_bytes-9.ensures c.if-same_bytes-9.true

pub returns : goal.returns
unfolding type_word equal
returns c = sym (rw (
  sym c.same_bytes.ensures ∙ c.if-same_bytes.false,
  sym c.same_bytes-2.ensures ∙ c.if-same_bytes-2.false,
  sym c.same_bytes-3.ensures ∙ c.if-same_bytes-3.false,
  sym c.same_bytes-4.ensures ∙ c.if-same_bytes-4.false,
  sym c.same_bytes-5.ensures ∙ c.if-same_bytes-5.false,
  sym c.same_bytes-6.ensures ∙ c.if-same_bytes-6.false,
  sym c.same_bytes-7.ensures ∙ c.if-same_bytes-7.false,
  sym c.same_bytes-8.ensures ∙ c.if-same_bytes-8.false,
  sym c.same_bytes-9.ensures ∙ c.if-same_bytes-9.false,
))
