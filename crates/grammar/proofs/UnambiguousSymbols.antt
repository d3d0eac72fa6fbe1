-- From the claims on its parts to the claim on a derivation, by its symbol.
use Prim.Native.Nat.{ℕ}
use mathlib.Core.List.{List}
use Rattle.grammar.specs.Places.{Place}
use Rattle.grammar.specs.Symbols.{Sym}
use Rattle.grammar.specs.Symbols as s
use Rattle.grammar.specs.Derives.{Derives}
use Rattle.grammar.proofs.Starts.{starts}
use Rattle.grammar.proofs.UnambiguousClaims.{Sole}
use Rattle.grammar.proofs.UnambiguousBelow.{Below}
use Rattle.grammar.proofs.UnambiguousTokens.{all-eols, ident, lit}
use Rattle.grammar.proofs.UnambiguousLists.{dots, rest, items, until, first_of, first-until}
use Rattle.grammar.proofs.UnambiguousTypes.{ty, bars, ty-atom, ty-pair, others, returns, typed}
use Rattle.grammar.proofs.UnambiguousPatterns.{pattern, pattern-pair, patterns, case, cases}
use Rattle.grammar.proofs.UnambiguousParts.{params, block, function, effect, handler, handlers, names, alternate}
use Rattle.grammar.proofs.UnambiguousImports.{import-item, path}
use Rattle.grammar.proofs.UnambiguousExprs.{expr, prec, ops, unary, primary}
use Rattle.grammar.proofs.UnambiguousPosts.{posts, member}
use Rattle.grammar.proofs.UnambiguousTails.{lefts, rights}
use Rattle.grammar.proofs.UnambiguousStmts.{stmt, stmt-keyless, stmts, stmts-keyless, body, body-keyless}
use Rattle.grammar.proofs.UnambiguousAtoms.{atom}
use Rattle.grammar.proofs.UnambiguousTables.{key, key-lead, property, property-lead}

module _ {text : List ℕ} where
  pub by-symbol : (y : Sym) (p q : Place) (d : Derives text y p q) → Below d → Sole y p q d
  by-symbol s.Eols p q d b = record { agrees = all-eols d }
  by-symbol (s.Until x y end) p q d b = λ i. record { agrees = until i d b; first = first-until i d b }
  by-symbol (s.Items x y end) p q d b = λ i. record { agrees = items i d b; first = first_of d b }
  by-symbol s.NoLast p q d b = absurd (starts d)
  by-symbol s.Dots p q d b = record { agrees = dots d b }
  by-symbol (s.Rest x) p q d b = λ i. record { agrees = rest i d b }
  by-symbol s.Lit p q d b = record { agrees = lit d }
  by-symbol s.Ident p q d b = record { agrees = ident d }
  by-symbol s.Ty p q d b = record { agrees = ty d b }
  by-symbol s.TyAtom p q d b = record { agrees = ty-atom d b }
  by-symbol s.Bars p q d b = record { agrees = bars d b }
  by-symbol s.TyPair p q d b = record { agrees = ty-pair d b }
  by-symbol s.Others p q d b = record { agrees = others d b }
  by-symbol s.Returns p q d b = record { agrees = returns d b }
  by-symbol (s.Typed x) p q d b = λ i. record { agrees = typed i d b }
  by-symbol s.Pattern p q d b = record { agrees = pattern d b }
  by-symbol s.PatternPair p q d b = record { agrees = pattern-pair d b }
  by-symbol (s.Exprs end) p q d b = λ c. record { agrees = body c d b; keyless = body-keyless c d b }
  by-symbol (s.Stmts end) p q d b = λ c. record { agrees = stmts c d b; keyless = stmts-keyless c d b }
  by-symbol s.Block p q d b = record { agrees = block d b }
  by-symbol s.Stmt p q d b = record { agrees = stmt d b; keyless = stmt-keyless d b }
  by-symbol s.Effect p q d b = record { agrees = effect d b }
  by-symbol s.Path p q d b = record { agrees = path d b }
  by-symbol s.ImportItem p q d b = record { agrees = import-item d b }
  by-symbol (s.Lefts n) p q d b = record { agrees = lefts d b }
  by-symbol (s.Rights n) p q d b = record { agrees = rights d b }
  by-symbol (s.Params closure) p q d b = record { agrees = params d b }
  by-symbol (s.Function closure) p q d b = record { agrees = function d b }
  by-symbol (s.Expr lambda) p q d b = record { agrees = expr d b }
  by-symbol (s.Prec n lambda f) p q d b = record { agrees = prec d b }
  by-symbol (s.Ops n lambda f h) p q d b = record { agrees = ops d b }
  by-symbol (s.Unary lambda f) p q d b = record { agrees = unary d b }
  by-symbol s.Handler p q d b = record { agrees = handler d b }
  by-symbol s.Handlers p q d b = record { agrees = handlers d b }
  by-symbol (s.Primary lambda f) p q d b = record { agrees = primary d b }
  by-symbol (s.Posts lambda f h) p q d b = record { agrees = posts d b }
  by-symbol (s.Member n) p q d b = record { agrees = member d b }
  by-symbol (s.Atom f) p q d b = record { agrees = atom d b }
  by-symbol s.Key p q d b = record { agrees = key d b; lead = key-lead d b }
  by-symbol s.Property p q d b = record { agrees = property d b; lead = property-lead d b }
  by-symbol s.Alternate p q d b = record { agrees = alternate d b }
  by-symbol s.Names p q d b = record { agrees = names d b }
  by-symbol s.Cases p q d b = record { agrees = cases d b }
  by-symbol s.Case p q d b = record { agrees = case d b }
  by-symbol s.Patterns p q d b = record { agrees = patterns d b }
