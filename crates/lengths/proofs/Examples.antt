-- Sheets that the theorems speak of.
use Rattle.std.specs.Prelude.{Ok}
use mathlib.Core.Path.{◌≡◌, refl}
use mathlib.Core.List.{[], ◌∷◌}
use Rattle.kinds.specs.Spelling.{bytes}
use Rattle.entry.specs.Utf8.{fits, first_fit, ascii_run, arrives, no_tail}
use Rattle.entry.specs.Check.{bad_range, quoted, marked, bad_quotes, token_fault, tokens_fault, entry_of}
use Rattle.grammar.specs.Follows.{tree_of}
use Rattle.grammar.proofs.Examples.{product-text, product-tokens, product, number-tokens, number-block, key-tokens, group-table}
use Rattle.lengths.specs.Sorts as sort
use Rattle.lengths.specs.Children.{one}
use Rattle.lengths.specs.Told.{Told}
use Rattle.lengths.proofs.Sheets.{fit-told}

-- a is int * b, {1} and {(x): 1} pass the entry check
product-fit : entry_of product-text product-tokens ≡ Ok tt
unfolding entry_of tokens_fault token_fault bad_range bad_quotes quoted marked fits first_fit ascii_run arrives no_tail
product-fit = refl

number-fit : entry_of (bytes "{1}") number-tokens ≡ Ok tt
unfolding entry_of tokens_fault token_fault bad_range bad_quotes quoted marked fits first_fit ascii_run arrives no_tail
number-fit = refl

key-fit : entry_of (bytes "{(x): 1}") key-tokens ≡ Ok tt
unfolding entry_of tokens_fault token_fault bad_range bad_quotes quoted marked fits first_fit ascii_run arrives no_tail
key-fit = refl

product-told : Told (one sort.Program ∷ []) (tree_of product)
product-told = fit-told product product-fit

number-told : Told (one sort.Program ∷ []) (tree_of number-block)
number-told = fit-told number-block number-fit

key-told : Told (one sort.Program ∷ []) (tree_of group-table)
key-told = fit-told group-table key-fit
