-- Patterns, and items in a row with a token between them: the patterns of a case and the names of a `for`.
use mathlib.Core.Path.{refl}
use Prim.Native.Nat.{ℕ, zero, suc}
use native.Mathlib.Omega.{arith}
use Rattle.kinds.specs.Number as kind
use Rattle.cursor.specs.declared.Kids.{Kids}
use Rattle.cursor.specs.Sheet.{Sheet}
use Rattle.cursor.specs.Rule.{Rule, ◌>>=◌, give, if_so, more, stop, iterate}
use Rattle.cursor.specs.Checks.{eat}
use Rattle.cursor.specs.Records.{add, no_kids}
use Rattle.types.specs.declared.items.Items.{Items as Row}
use Rattle.types.specs.Patterns.{pattern_end, pattern_last, table_pattern_pair, pattern_item, pattern_items, pattern_row, pattern_cases, pattern, patterns}
use Rattle.types.proofs.PatternKeeps.{pattern-items-take}
use Rattle.parts.specs.Steps.{name_turn, names, pattern_turn, case_patterns}
use Rattle.parts.proofs.StepTakes.{names-take, case-patterns-take}
use Rattle.grammar.specs.Places.{Place, Tok, Not}
use Rattle.grammar.specs.Symbols.{Until, Dots, Pattern, PatternPair, Names, Patterns}
use Rattle.grammar.specs.Derives.{Derives, dots, pattern-name, pattern-table, pattern-list, pattern-literal, pattern-pair, last_name, more-names, last-pattern, more-patterns}
use Rattle.grammar.specs.Words.{among}
use Rattle.grammar.proofs.FirstKinds.{apart}
use Rattle.grammar.proofs.Starts.{starts}
use Rattle.complete.proofs.Cost.{taken, costs}
use Rattle.complete.proofs.Records.{records}
use Rattle.complete.specs.Depth.{need}
use Rattle.complete.proofs.Meets.{Cost, ◌⊕◌, reading, cost_of, flat_cost, Any, Goes, Stops, Meets, Reads}
use Rattle.complete.proofs.MeetsBinds.{answers, answers-more, answers-stop, refuses, fits, deeper, next, turn_more, turn-stop}
use Rattle.complete.proofs.MeetsSteps.{before-none, bump_meets, eats, eats-not, bumps, expects, chooses, chooses_none, adds}
use Rattle.complete.proofs.MeetsValues.{close-meets, pair-meets, begins, ident-meets, lit-meets, unlike, lit-free}
use Rattle.complete.proofs.MeetsLists.{items-meet}

module _ {e : Sheet} {d : ℕ} (inner : Reads e d Pattern (patterns e d)) where
  dots-meet : (i : Row) {p q : Place} (D : Derives e.text Dots p q) → Meets e d p q (cost_of D) Any (pattern_last e i)
  unfolding pattern_last costs records need
  dots-meet i (dots t) = record { runs = λ s w h z. (before-none (bump_meets t.next) (λ _ _. answers)).runs s w h z }

  pair_reads : Reads e d PatternPair (table_pattern_pair e (patterns e d))
  unfolding table_pattern_pair costs records need
  pair_reads = record { meets = λ D. by D }
    where
      by : {p q : Place} (D : Derives e.text PatternPair p q) → Meets e d p q (cost_of D) Any (table_pattern_pair e (patterns e d))
      by (pattern-pair D t E) = fits (omega arith) (omega arith) (omega arith) (begins (λ from. next (lit-meets D) (λ key _. expects t (next (inner.meets E) (λ val _. pair-meets _ _ _ _)))))

  pairs-list : {p q : Place} (D : Derives e.text (Until PatternPair Dots kind.CloseBrace) p q) (kids : Kids) → Meets e d p q (cost_of D) Any (pattern_items e (patterns e d) 0 kids)
  unfolding pattern_items pattern_item pattern_end among
  pairs-list D kids = items-meet kind.CloseBrace _ refl pair_reads _ _ (pattern-items-take e d 0 kind.CloseBrace) (λ i. record { meets = λ D. dots-meet i D })
      (record { no_end = λ D. apart _ (starts D) refl; no_last = λ D. apart _ (starts D) refl; lastly = λ D. starts D; differ = refl }) D kids

  patterns-list : {p q : Place} (D : Derives e.text (Until Pattern Dots kind.CloseBracket) p q) (kids : Kids) → Meets e d p q (cost_of D) Any (pattern_items e (patterns e d) 1 kids)
  unfolding pattern_items pattern_item pattern_end among
  patterns-list D kids = items-meet kind.CloseBracket _ refl inner _ _ (pattern-items-take e d 1 kind.CloseBracket) (λ i. record { meets = λ D. dots-meet i D })
      (record { no_end = λ D. apart _ (starts D) refl; no_last = λ D. apart _ (starts D) refl; lastly = λ D. starts D; differ = refl }) D kids

  -- parse_pattern
  pattern-meets : {p q : Place} (D : Derives e.text Pattern p q) → Meets e d p q (cost_of D) Any (pattern e (patterns e d))
  unfolding pattern pattern_row unlike among costs records need
  pattern-meets (pattern-name D) = begins (λ from. chooses (pattern_cases e (patterns e d) from) _ (starts D).stands (ident-meets D))
  pattern-meets (pattern-table a D) = fits (omega arith) (omega arith) (omega arith) (begins (λ from. chooses (pattern_cases e (patterns e d) from) _ a.here (bumps a.next (next (pairs-list D no_kids) (λ i _. close-meets _ _ _ _ _ _)))))
  pattern-meets (pattern-list a D) = fits (omega arith) (omega arith) (omega arith) (begins (λ from. chooses (pattern_cases e (patterns e d) from) _ a.here (bumps a.next (next (patterns-list D no_kids) (λ i _. close-meets _ _ _ _ _ _)))))
  pattern-meets (pattern-literal D) = begins (λ from. chooses_none (pattern_cases e (patterns e d) from) (lit-free refl D) (lit-meets D))

-- with so many levels left
pub patterns-read : (e : Sheet) (d : ℕ) → Reads e d Pattern (patterns e d)
unfolding patterns
patterns-read e zero = record { meets = λ D. refuses (omega arith) }
patterns-read e (suc d) = record { meets = λ D. deeper (pattern-meets (patterns-read e d) D) }

-- an item joins its row; a sign behind it means one more
module _ {e : Sheet} {d : ℕ} {p q : Place} {c : Cost} {item : Rule ℕ} (sign : ℕ) (one : Meets e d p q c Any item) (kids : Kids) where
  row-stops : Not sign q → Meets e d p q c (Stops Any) (item >>= (λ link. add kids link >>= (λ longer. eat e sign >>= if_so (give (more longer)) (give (stop longer)))))
  row-stops n = before-none one (λ link _. adds _ _ (λ longer. eats-not _ n answers-stop))

  row_goes : {r : Place} → Tok sign q r → Meets e d p r (c ⊕ reading (taken q)) (Goes Any) (item >>= (λ link. add kids link >>= (λ longer. eat e sign >>= if_so (give (more longer)) (give (stop longer)))))
  row_goes t = fits (omega arith) (omega arith) (omega arith) (next one (λ link _. adds _ _ (λ longer. eats _ t answers-more)))

module _ {e : Sheet} {d : ℕ} where
  named-on : {p q : Place} (D : Derives e.text Names p q) (kids : Kids) → Meets e d p q (flat_cost D) Any (iterate e (name_turn e) kids)
  unfolding name_turn costs records
  named-on (last_name D n) kids = turn-stop _ _ (row-stops kind.Comma (ident-meets D) kids n)
  named-on (more-names D t E) kids = fits (omega arith) (omega arith) (omega arith) (turn_more (names-take e) (row_goes kind.Comma (ident-meets D) kids t) (λ k _. named-on E k))

  -- parse_items, for the names of a `for`
  pub names-meet : {p q : Place} (D : Derives e.text Names p q) → Meets e d p q (flat_cost D) Any (names e)
  unfolding names
  names-meet D = named-on D no_kids

  cased_on : {p q : Place} (D : Derives e.text Patterns p q) (kids : Kids) → Meets e d p q (cost_of D) Any (iterate e (pattern_turn e (patterns e d)) kids)
  unfolding pattern_turn costs records need
  cased_on (last-pattern D n) kids = turn-stop _ _ (row-stops kind.VBar ((patterns-read e d).meets D) kids n)
  cased_on (more-patterns D t E) kids = fits (omega arith) (omega arith) (omega arith) (turn_more (case-patterns-take e d) (row_goes kind.VBar ((patterns-read e d).meets D) kids t) (λ k _. cased_on E k))

  -- the patterns of a case
  pub case-patterns-meet : {p q : Place} (D : Derives e.text Patterns p q) → Meets e d p q (cost_of D) Any (case_patterns e (patterns e d))
  unfolding case_patterns
  case-patterns-meet D = cased_on D no_kids
