-- Types, typed names, parameters and returned types.
use mathlib.Core.Path.{◌≡◌, refl}
use mathlib.Core.Bool.{true, false}
use Prim.Native.Nat.{ℕ, zero, suc}
use native.Mathlib.Omega.{arith}
use lib.Dec.{eqb}
use Rattle.kinds.specs.Number as kind
use Rattle.cursor.specs.declared.Kids.{Kids}
use Rattle.cursor.specs.Sheet.{Sheet}
use Rattle.cursor.specs.Rule.{Rule, ◌>>◌, iterate}
use Rattle.cursor.specs.Checks.{expect}
use Rattle.cursor.specs.Records.{no_kids}
use Rattle.types.specs.Types.{union_turn, union as union_of, type, returns, named, typed_ident, table_ty_pair, table_ty_other, type_item, type_last_kind, type_end, type_last_item, type_last, type_items, type_paren, type_table, type_function, type_cases, type_atom, atoms, params, closure_params}
use Rattle.types.proofs.TypeKeeps.{union-takes, type-items-take}
use Rattle.grammar.specs.Places.{Place}
use Rattle.grammar.specs.Symbols.{Sym, Until, Rest, Ty, TyAtom, Bars, TyPair, Others, Returns, Typed, Params}
use Rattle.grammar.specs.Derives.{Derives, rest_of, one_type, union, no-bar, a-bar, ty-paren, ty-name, ty-table, ty-function, ty-literal, ty-pair, others, no-type, returned, bare, typed-ident, params_of, closure-params}
use Rattle.grammar.specs.Words.{among}
use Rattle.grammar.proofs.Tests.{elsewhere}
use Rattle.grammar.proofs.FirstKinds.{apart}
use Rattle.grammar.proofs.Starts.{starts}
use Rattle.complete.proofs.Cost.{costs}
use Rattle.complete.proofs.Records.{records}
use Rattle.complete.specs.Depth.{need}
use Rattle.complete.proofs.Meets.{cost_of, Any, Meets, Reads}
use Rattle.complete.proofs.MeetsBinds.{answers, answers-more, answers-stop, refuses, fits, deeper, next, turn_more, turn-stop}
use Rattle.complete.proofs.MeetsSteps.{before-none, bumps, expects, here, not-here, eats, eats-not, chooses, chooses_none, adds}
use Rattle.complete.proofs.MeetsValues.{close-meets, pair-meets, begins, adds-some, ident-meets, lit-meets, unlike, lit-free}
use Rattle.complete.proofs.MeetsLists.{Parted, items-meet}

-- parse_typed_ident, with a type of any symbol
pub typed-meets : {e : Sheet} {d : ℕ} {x : Sym} {ty : Rule ℕ} → Reads e d x ty → {p q : Place} (D : Derives e.text (Typed x) p q) → Meets e d p q (cost_of D) Any (typed_ident e ty)
unfolding typed_ident costs records need
typed-meets ty (bare D n) = fits (omega arith) (omega arith) (omega arith) (begins (λ from. before-none (ident-meets D) (λ name _. eats-not _ n answers)))
typed-meets ty (typed-ident D t E) = fits (omega arith) (omega arith) (omega arith) (begins (λ from. next (ident-meets D) (λ name _. eats _ t (next (ty.meets E) (λ type _. pair-meets _ _ _ _)))))

module _ {e : Sheet} {d : ℕ} (atom : Reads e d TyAtom (atoms e d)) where
  bars : {p q : Place} (D : Derives e.text Bars p q) (kids : Kids) → Meets e d p q (cost_of D) Any (iterate e (union_turn e (atoms e d)) kids)
  unfolding union_turn costs records need
  bars (no-bar n) kids = turn-stop _ _ (eats-not _ n answers-stop)
  bars (a-bar t D E) kids = fits (omega arith) (omega arith) (omega arith) (turn_more (union-takes e d) (eats _ t (next (atom.meets D) (λ r _. adds _ _ (λ longer. answers-more)))) (λ k _. bars E k))

  -- parse_type
  type_reads : Reads e d Ty (type e (atoms e d))
  unfolding type union_of costs records need
  type_reads = record { meets = λ D. by D }
    where
      by : {p q : Place} (D : Derives e.text Ty p q) → Meets e d p q (cost_of D) Any (type e (atoms e d))
      by (one_type D n) = fits (omega arith) (omega arith) (omega arith) (begins (λ from. before-none (atom.meets D) (λ first _. not-here _ n answers)))
      by (union D h E) = fits (omega arith) (omega arith) (omega arith) (begins (λ from. next (atom.meets D) (λ first _. here _ h (adds _ _ (λ kids. next (bars E kids) (λ all _. close-meets _ _ _ _ _ _))))))

  -- parse_returns
  returned-meets : {p q : Place} (D : Derives e.text Returns p q) → Meets e d p q (cost_of D) Any (returns e (atoms e d))
  unfolding returns costs records need
  returned-meets (no-type n) = eats-not _ n answers
  returned-meets (returned t D) = fits (omega arith) (omega arith) (omega arith) (eats _ t (type_reads.meets D))

  -- the items of the lists and their last items
  typed-reads : {x : Sym} {ty : Rule ℕ} → Reads e d x ty → Reads e d (Typed x) (typed_ident e ty)
  typed-reads ty = record { meets = λ D. typed-meets ty D }

  pair_reads : Reads e d TyPair (table_ty_pair e (atoms e d))
  unfolding table_ty_pair costs records need
  pair_reads = record { meets = λ D. by D }
    where
      by : {p q : Place} (D : Derives e.text TyPair p q) → Meets e d p q (cost_of D) Any (table_ty_pair e (atoms e d))
      by (ty-pair D t E) = fits (omega arith) (omega arith) (omega arith) (begins (λ from. next (ident-meets D) (λ key _. expects t (next (type_reads.meets E) (λ val _. pair-meets _ _ _ _)))))

  others-read : Reads e d Others (table_ty_other e (atoms e d))
  unfolding table_ty_other costs records need
  others-read = record { meets = λ D. by D }
    where
      by : {p q : Place} (D : Derives e.text Others p q) → Meets e d p q (cost_of D) Any (table_ty_other e (atoms e d))
      by (others a D b c E) = fits (omega arith) (omega arith) (omega arith) (begins (λ from. expects a (next (type_reads.meets D) (λ key _. expects b (expects c (next (type_reads.meets E) (λ val _. pair-meets _ _ _ _)))))))

  rest-reads : {x : Sym} {item : Rule ℕ} → Reads e d x item → Reads e d (Rest x) (expect e kind.Ellipsis >> item)
  unfolding costs records need
  rest-reads {x} {item} one = record { meets = λ D. by D }
    where
      by : {p q : Place} (D : Derives e.text (Rest x) p q) → Meets e d p q (cost_of D) Any (expect e kind.Ellipsis >> item)
      by (rest_of t D) = fits (omega arith) (omega arith) (omega arith) (expects t (one.meets D))

  -- a list with such items
  list-meets : (k : ℕ) {x y : Sym} → Reads e d x (type_item e (atoms e d) k) → Reads e d y (type_last_item e (atoms e d) k) → eqb kind.Comma (type_end k) ≡ false → Parted e.text x y (type_end k) (type_last_kind k)
      → {p q : Place} (D : Derives e.text (Until x y (type_end k)) p q) (kids : Kids) → Meets e d p q (cost_of D) Any (type_items e (atoms e d) k kids)
  unfolding type_items type_last
  list-meets k one last unlike-comma parted D kids =
      items-meet (type_end k) _ unlike-comma one _ _ (type-items-take e d k (type_end k)) (λ i. record { meets = λ D. before-none (last.meets D) (λ r _. adds _ _ (λ after. answers)) }) parted D kids

  params-list : {p q : Place} (D : Derives e.text (Until (Typed Ty) (Rest (Typed Ty)) kind.CloseParen) p q) (kids : Kids) → Meets e d p q (cost_of D) Any (type_items e (atoms e d) 0 kids)
  unfolding type_item type_last_item type_end type_last_kind named
  params-list D kids = list-meets 0 (typed-reads type_reads) (rest-reads (typed-reads type_reads)) refl (record { no_end = λ D. elsewhere _ refl (starts D); no_last = λ D. elsewhere _ refl (starts D); lastly = λ D. starts D; differ = refl }) D kids

  closure-list : {p q : Place} (D : Derives e.text (Until (Typed TyAtom) (Rest (Typed TyAtom)) kind.VBar) p q) (kids : Kids) → Meets e d p q (cost_of D) Any (type_items e (atoms e d) 1 kids)
  unfolding type_item type_last_item type_end type_last_kind named
  closure-list D kids = list-meets 1 (typed-reads atom) (rest-reads (typed-reads atom)) refl (record { no_end = λ D. elsewhere _ refl (starts D); no_last = λ D. elsewhere _ refl (starts D); lastly = λ D. starts D; differ = refl }) D kids

  pairs-list : {p q : Place} (D : Derives e.text (Until TyPair Others kind.CloseBrace) p q) (kids : Kids) → Meets e d p q (cost_of D) Any (type_items e (atoms e d) 2 kids)
  unfolding type_item type_last_item type_end type_last_kind
  pairs-list D kids = list-meets 2 pair_reads others-read refl (record { no_end = λ D. elsewhere _ refl (starts D); no_last = λ D. elsewhere _ refl (starts D); lastly = λ D. starts D; differ = refl }) D kids

  types-list : {p q : Place} (D : Derives e.text (Until Ty (Rest Ty) kind.CloseParen) p q) (kids : Kids) → Meets e d p q (cost_of D) Any (type_items e (atoms e d) 3 kids)
  unfolding type_item type_last_item type_end type_last_kind among
  types-list D kids = list-meets 3 type_reads (rest-reads type_reads) refl (record { no_end = λ D. apart _ (starts D) refl; no_last = λ D. apart _ (starts D) refl; lastly = λ D. starts D; differ = refl }) D kids

  -- parse_type_atom
  atom-meets : {p q : Place} (D : Derives e.text TyAtom p q) → Meets e d p q (cost_of D) Any (type_atom e (atoms e d))
  unfolding type_atom type_paren type_table type_function unlike among costs records need
  atom-meets (ty-paren a D b) = fits (omega arith) (omega arith) (omega arith) (begins (λ from. chooses (type_cases e (atoms e d) from) _ a.here (bumps a.next (next (type_reads.meets D) (λ t _. expects b (adds _ _ (λ kids. close-meets _ _ _ _ _ _)))))))
  atom-meets (ty-name D) = fits (omega arith) (omega arith) (omega arith) (begins (λ from. chooses (type_cases e (atoms e d) from) _ (starts D).stands (ident-meets D)))
  atom-meets (ty-table a D) = fits (omega arith) (omega arith) (omega arith) (begins (λ from. chooses (type_cases e (atoms e d) from) _ a.here (bumps a.next (next (pairs-list D no_kids) (λ i _. close-meets _ _ _ _ _ _)))))
  atom-meets (ty-function a D E) = fits (omega arith) (omega arith) (omega arith) (begins (λ from. chooses (type_cases e (atoms e d) from) _ a.here (bumps a.next (next (types-list D no_kids) (λ i _. next (returned-meets E) (λ r _. adds-some _ _ (λ kids. close-meets _ _ _ _ _ _)))))))
  atom-meets (ty-literal D) = fits (omega arith) (omega arith) (omega arith) (begins (λ from. chooses_none (type_cases e (atoms e d) from) (lit-free refl D) (lit-meets D)))

-- with so many levels left
pub atoms-read : (e : Sheet) (d : ℕ) → Reads e d TyAtom (atoms e d)
unfolding atoms
atoms-read e zero = record { meets = λ D. refuses (omega arith) }
atoms-read e (suc d) = record { meets = λ D. deeper (atom-meets (atoms-read e d) D) }

pub types-read : (e : Sheet) (d : ℕ) → Reads e d Ty (type e (atoms e d))
types-read e d = type_reads (atoms-read e d)

module _ {e : Sheet} {d : ℕ} {p q : Place} where
  pub types-meet : (D : Derives e.text Ty p q) → Meets e d p q (cost_of D) Any (type e (atoms e d))
  types-meet D = (types-read e d).meets D

  pub returns-meet : (D : Derives e.text Returns p q) → Meets e d p q (cost_of D) Any (returns e (atoms e d))
  returns-meet D = returned-meets (atoms-read e d) D

  -- a name, perhaps with a type
  pub typed-ident-meets : (D : Derives e.text (Typed Ty) p q) → Meets e d p q (cost_of D) Any (typed_ident e (named e (atoms e d) false))
  unfolding named
  typed-ident-meets D = typed-meets (types-read e d) D

  -- parse_params and parse_closure_params
  pub params-meet : (D : Derives e.text (Params false) p q) (kids : Kids) → Meets e d p q (cost_of D) Any (params e (atoms e d) kids)
  unfolding params costs records need
  params-meet (params_of t D) kids = fits (omega arith) (omega arith) (omega arith) (expects t (params-list (atoms-read e d) D kids))

  pub closure-params-meet : (D : Derives e.text (Params true) p q) (kids : Kids) → Meets e d p q (cost_of D) Any (closure_params e (atoms e d) kids)
  unfolding closure_params costs records need
  closure-params-meet (closure-params t D) kids = fits (omega arith) (omega arith) (omega arith) (expects t (closure-list (atoms-read e d) D kids))
