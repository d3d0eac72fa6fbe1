-- The chains of checks of this crate by places, as the code goes through them.
use mathlib.Core.Path.{◌≡◌, refl}
use mathlib.Core.List.{List, [], ◌∷◌}
use mathlib.Core.Bool.{true, false}
use Prim.Native.Nat.{ℕ, zero, suc}
use lib.Dec.{ltb, eqb}
use native.Mathlib.Omega.{arith}
use borrow.Author.Tests.{ne_eqb, lt-ltb, le-ltb}
use Rattle.kinds.specs.Number as kind
use Rattle.cursor.specs.declared.State.{State}
use Rattle.cursor.specs.declared.Kids.{Kids}
use Rattle.cursor.specs.Sheet.{Sheet}
use Rattle.cursor.specs.Rule.{World, Rule, ◌>>=◌, ◌>>◌, give, Next, more, stop}
use Rattle.cursor.specs.Tokens.{bump}
use Rattle.cursor.specs.Checks.{pick, unexpected}
use Rattle.cursor.proofs.Chosen.{case_at, chosen}
use Rattle.parts.specs.declared.imports.Imported.{Imported}
use Rattle.parts.specs.When.{when}
use Rattle.parts.specs.Values.{uncounted}
use Rattle.parts.specs.Recovery.{skip_cases, skip_turn}
use Rattle.parts.specs.Imports.{imported, import_items, import_simple, import_alias, import_nested, import_glob, end_cases, tail_cases, import_end, import_tail}

module _ (e : Sheet) where
  -- behind a path
  abbrev pub end_chain : List ℕ
  end_chain = kind.Eol ∷ kind.As ∷ []

  abbrev pub end_by : Kids → ℕ → Rule (Next Imported)
  end_by kids which = when (eqb which 0) (import_simple e kids) (when (ltb 1 which) (unexpected e) (import_alias e kids))

  pub import-end-placed : (kids : Kids) → import_end e kids ≡ (pick e end_chain >>= end_by kids)
  unfolding import_end
  import-end-placed kids = chosen e (unexpected e) (end_cases e kids) by
    where
      by : (i : ℕ) (s : State) (w : World) → case_at (end_cases e kids) (unexpected e) i s w ≡ end_by kids i s w
      by zero s w = refl
      by (suc zero) s w = refl
      by (suc (suc i)) s w = rw (ne_eqb (suc (suc i)) 0 (omega arith), lt-ltb 1 (suc (suc i)) (omega arith))

  -- behind a path's `::`
  abbrev pub tail_chain : List ℕ
  tail_chain = kind.OpenBrace ∷ kind.Mul ∷ []

  abbrev pub tail_by : Kids → ℕ → Rule (Next Imported)
  tail_by kids which = when (ltb 1 which) (unexpected e) (do
    bump e
    when (eqb which 1) (give (stop (imported kids kids.count 0 true true))) (do
      i ← import_items e (uncounted kids)
      give (stop (imported i.kids kids.count i.kids.count false true))))

  pub import-tail-placed : (kids : Kids) → import_tail e kids ≡ (pick e tail_chain >>= tail_by kids)
  unfolding import_tail import_nested import_glob
  import-tail-placed kids = chosen e (unexpected e) (tail_cases e kids) by
    where
      by : (i : ℕ) (s : State) (w : World) → case_at (tail_cases e kids) (unexpected e) i s w ≡ tail_by kids i s w
      by zero s w = refl
      by (suc zero) s w = refl
      by (suc (suc i)) s w = rw (lt-ltb 1 (suc (suc i)) (omega arith))

  -- what is left of a failed statement
  abbrev pub skip_by : ℕ → Rule (Next Unit)
  skip_by which = when (ltb which 3) (give (stop tt)) (bump e >> give (more tt))

  pub skip-turn-placed : (end : ℕ) (a : Unit) → skip_turn e end a ≡ (pick e (kind.Eol ∷ kind.Eof ∷ end ∷ []) >>= skip_by)
  unfolding skip_turn
  skip-turn-placed end a = chosen e (bump e >> give (more tt)) (skip_cases e end) by
    where
      by : (i : ℕ) (s : State) (w : World) → case_at (skip_cases e end) (bump e >> give (more tt)) i s w ≡ skip_by i s w
      by zero s w = refl
      by (suc zero) s w = refl
      by (suc (suc zero)) s w = refl
      by (suc (suc (suc i))) s w = rw (le-ltb (suc (suc (suc i))) 3 (omega arith))
