-- Imports and effects.
use mathlib.Core.Path.{refl}
use mathlib.Core.List.{List}
use mathlib.Core.Bool.{Bool, true, false}
use Prim.Native.Nat.{ℕ, ◌-◌, ◌≤◌}
use native.Mathlib.Omega.{arith}
use Rattle.kinds.specs.Number as kind
use Rattle.cursor.specs.declared.Kids.{Kids}
use Rattle.cursor.specs.Sheet.{Ranged, Sheet}
use Rattle.cursor.specs.Rule.{iterate}
use Rattle.cursor.specs.Records.{no_kids}
use Rattle.types.specs.Types.{atoms}
use Rattle.parts.specs.declared.imports.Imported.{Imported}
use Rattle.parts.specs.Effects.{effect_record, effect_stmt}
use Rattle.parts.specs.Imports.{import_item, import_items, import_simple, import_alias, import_nested, import_glob, end_cases, tail_cases, import_end, import_tail, path_turn, import_stmt}
use Rattle.parts.specs.Steps.{any_params}
use Rattle.parts.proofs.ImportTakes.{path-takes, import-items-keep}
use Rattle.parts.proofs.UntilPaths.{until-takes}
use Rattle.grammar.specs.Places.{Place, Tok}
use Rattle.grammar.specs.Symbols.{Until, Items, NoLast, Effect, Path, ImportItem, Params}
use Rattle.grammar.specs.Derives.{Derives, until-of, items-end, items-last, items-final, items-comma, effect_of, path-more, path-alone, path-as, path-items, path-all, item-alone, item-as}
use Rattle.grammar.proofs.Tests.{elsewhere, at-token}
use Rattle.grammar.proofs.Starts.{starts}
use Rattle.complete.proofs.Cost.{taken, cost, costs}
use Rattle.complete.proofs.Records.{records}
use Rattle.complete.specs.Depth.{need}
use Rattle.complete.proofs.Meets.{◌⊕◌, reading, building, cost_of, flat_cost, Any, Meets, Reads}
use Rattle.complete.proofs.MeetsBinds.{answers-more, answers-stop, fits, next, turn_more, turn-stop}
use Rattle.complete.proofs.MeetsSteps.{before-none, bumps, expects, here, not-here, eats, eats-not, chooses, adds}
use Rattle.complete.proofs.MeetsValues.{close-meets, begins, adds-some, ident-meets}
use Rattle.complete.proofs.MeetsLists.{until-meets}
use Rattle.complete.proofs.MeetsTypes.{returns-meet, params-meet, closure-params-meet}

-- an import needs no level
item-level : {text : List ℕ} {p q : Place} (D : Derives text ImportItem p q) → need D ≤ 0
unfolding need
item-level (item-alone D n) = omega arith
item-level (item-as D t E) = omega arith

items-level : {text : List ℕ} {end : ℕ} {p q : Place} (D : Derives text (Items ImportItem NoLast end) p q) → need D ≤ 0
unfolding need
items-level (items-end t) = omega arith
items-level (items-last D E t) = absurd (starts D)
items-level (items-final D E t) = item-level D
items-level (items-comma D E t F G) = omega (arith, item-level D, items-level G)

until-level : {text : List ℕ} {end : ℕ} {p q : Place} (D : Derives text (Until ImportItem NoLast end) p q) → need D ≤ 0
unfolding need
until-level (until-of E D) = items-level D

-- a path has the Import's record
path-some : {text : List ℕ} {p q : Place} (D : Derives text Path p q) → 1 ≤ records D
unfolding records
path-some (path-more D t E) = omega (arith, path-some E)
path-some (path-alone D h) = omega arith
path-some (path-as D t E) = omega arith
path-some (path-items D t b E) = omega arith
path-some (path-all D t b) = omega arith

module _ {e : Sheet} {d : ℕ} where
  item-reads : Reads e d ImportItem (import_item e)
  unfolding import_item costs records need
  item-reads = record { meets = λ D. by D }
    where
      by : {p q : Place} (D : Derives e.text ImportItem p q) → Meets e d p q (cost_of D) Any (import_item e)
      by (item-alone D n) = fits (omega arith) (omega arith) (omega arith) (begins (λ from. next (ident-meets D) (λ name _. eats-not _ n (close-meets _ _ _ _ _ _))))
      by (item-as D t E) = fits (omega arith) (omega arith) (omega arith) (begins (λ from. next (ident-meets D) (λ name _. eats _ t (next (ident-meets E) (λ alias _. adds _ _ (λ one. adds _ _ (λ two. close-meets _ _ _ _ _ _)))))))

  items_of : {p q : Place} (D : Derives e.text (Until ImportItem NoLast kind.CloseBrace) p q) (kids : Kids) → Meets e d p q (flat_cost D) Any (import_items e kids)
  unfolding import_items
  items_of D kids = fits refl refl (omega (arith, until-level D)) (until-meets kind.CloseBrace (import_item e) refl item-reads (until-takes e (import_item e) kind.CloseBrace (import-items-keep e)) (record { no_end = λ D. elsewhere kind.CloseBrace refl (starts D); none = λ D. starts D }) D kids)

  -- a path, name by name. The Import's own record, which is one of its derivation's, is built behind it
  path-meets : {p q : Place} (D : Derives e.text Path p q) (i : Imported) → Meets e d p q (record { reads = cost D; nodes = records D - 1; need = 0 }) Any (iterate e (path_turn e) i)
  unfolding path_turn import_end import_tail import_simple import_alias import_nested import_glob costs records
  path-meets (path-more D t E) i = fits (omega arith) (omega (arith, path-some E)) (omega arith) (turn_more (path-takes e) (next (ident-meets D) (λ name _. adds _ _ (λ longer. eats _ t (here _ (starts E) answers-more)))) (λ j _. path-meets E j))
  path-meets (path-alone D h) i = turn-stop _ _ (fits (omega arith) (omega arith) (omega arith) (next (ident-meets D) (λ name _. adds _ _ (λ longer. eats-not _ (elsewhere kind.DoubleColon refl h) (chooses (end_cases e longer) _ h.stands answers-stop)))))
  path-meets (path-as D t E) i = turn-stop _ _ (fits (omega arith) (omega arith) (omega arith) (next (ident-meets D) (λ name _. adds _ _ (λ longer. eats-not _ (elsewhere kind.DoubleColon refl (at-token t))
      (chooses (end_cases e longer) _ t.here (bumps t.next (next (ident-meets E) (λ alias _. adds _ _ (λ all. answers-stop)))))))))
  path-meets (path-items D t b E) i = turn-stop _ _ (fits (omega arith) (omega arith) (omega arith) (next (ident-meets D) (λ name _. adds _ _ (λ longer. eats _ t (not-here _ (elsewhere kind.Ident refl (at-token b))
      (chooses (tail_cases e longer) _ b.here (bumps b.next (before-none (items_of E _) (λ j _. answers-stop)))))))))
  path-meets (path-all D t b) i = turn-stop _ _ (fits (omega arith) (omega arith) (omega arith) (next (ident-meets D) (λ name _. adds _ _ (λ longer. eats _ t (not-here _ (elsewhere kind.Ident refl (at-token b))
      (chooses (tail_cases e longer) _ b.here (bumps b.next answers-stop)))))))

  -- the statement from its keyword on
  pub import-meets : {p q r : Place} → Tok kind.Import p q → (D : Derives e.text Path q r) (from : ℕ) → Meets e d p r (reading (taken p) ⊕ flat_cost D) Any (import_stmt e from)
  unfolding import_stmt
  import-meets t D from = fits (omega arith) (omega (arith, path-some D)) (omega arith) (bumps t.next (next (path-meets D _) (λ i _. close-meets _ _ _ _ _ _)))

  -- parameters of a function or of a closure
  pub any-params-meet : {p q : Place} (closure : Bool) (D : Derives e.text (Params closure) p q) → Meets e d p q (cost_of D) Any (any_params e (atoms e d) closure)
  unfolding any_params
  any-params-meet true D = closure-params-meet D no_kids
  any-params-meet false D = params-meet D no_kids

  -- an effect, and the statement over it
  pub effect-meets : {p q : Place} (D : Derives e.text Effect p q) (from : ℕ) (glo : Ranged) → Meets e d p q (cost_of D ⊕ building) Any (effect_stmt e (atoms e d) from glo)
  unfolding effect_stmt effect_record costs records need
  effect-meets (effect_of t D E F) from glo = fits (omega arith) (omega arith) (omega arith) (begins (λ within. expects t (next (ident-meets D) (λ name _. next (params-meet E no_kids) (λ i _. next (returns-meet F) (λ link _.
      adds-some _ _ (λ kids. next (close-meets _ _ _ _ _ _) (λ effect _. adds _ _ (λ one. adds _ _ (λ two. close-meets _ _ _ _ _ _))))))))))
