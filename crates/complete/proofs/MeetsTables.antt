-- What `{` opens where an expression may begin: keys and properties, tables and blocks. Where a block stands the attempt at a key fails, behind what Leading tells.
use Rattle.std.specs.Prelude.{Some, None}
use mathlib.Core.Path.{◌≡◌, refl, sym, ap, ◌∙◌}
use mathlib.Core.Bool.{Bool, true, false, true≢false}
use Prim.Native.Nat.{ℕ, ◌+◌, max}
use native.Mathlib.Omega.{arith}
use Rattle.kinds.specs.Number as kind
use Rattle.cursor.specs.declared.State.{State}
use Rattle.cursor.specs.declared.Kids.{Kids}
use Rattle.cursor.specs.Sheet.{Sheet, kind_at, range_at, Ranged}
use Rattle.cursor.specs.declared.Span.{Span}
use Rattle.cursor.specs.Rule.{World, Rule, if_so}
use Rattle.types.specs.declared.lits.Literal.{Literal}
use Rattle.types.specs.declared.lits.Literal.TheVariants as literals
use Rattle.types.specs.Lits.{literal, lit_from, lit_at, lit}
use Rattle.parts.specs.Values.{row_with}
use Rattle.parts.specs.Records.{list_record, wrapped, block_record}
use Rattle.parts.specs.Steps.{items_end, lit_key, paren_key_at, paren_key}
use Rattle.rules.specs.Tables.{key, property as property_rule, item, items_of, table as table_rule, brace_block, table_or_block, brace}
use Rattle.rules.specs.Levels.{levels}
use Rattle.rules.proofs.Takes.{until-turn-takes}
use Rattle.grammar.specs.Places.{Place, kind_of, Tok, Not}
use Rattle.grammar.specs.Symbols.{Eols, Until, NoLast, Exprs, Expr, Key, Property}
use Rattle.grammar.specs.Derives.{Derives, until-of, items-end, items-last, items-final, items-comma, table, block-expr, property, paren-key, literal-key}
use Rattle.grammar.specs.Words.{among}
use Rattle.grammar.proofs.Tests.{at-token, elsewhere}
use Rattle.sound.proofs.Links.{place_at, Settled, kind-place}
use Rattle.grammar.proofs.FirstKinds.{lits, apart}
use Rattle.grammar.proofs.Starts.{literal-first, starts}
use Rattle.complete.proofs.Cost.{taken, costs, cost}
use Rattle.complete.proofs.Records.{records}
use Rattle.complete.specs.Depth.{need}
use Rattle.complete.proofs.Leading.{Leads, no_key, a-group, a-literal, body-leads}
use Rattle.complete.proofs.Meets.{Cost, ◌⊕◌, nothing, reading, building, inside, cost_of, flat_cost, Any, FailsAt, faulty, Fails, Meets}
use Rattle.complete.proofs.MeetsBinds.{answers, fits, next, kept-attempt}
use Rattle.complete.proofs.MeetsFails.{fails-first, fails-later, fails-fit, retried}
use Rattle.complete.proofs.MeetsSteps.{unexpected-fails, eat-yes, eat-not, expect_meets, expect-fails, append-meets, bumps, expects, lines, eats, eats-not}
use Rattle.complete.proofs.MeetsValues.{begins, start-meets, close-meets, pair-meets, lit-meets}
use Rattle.complete.proofs.MeetsLists.{until-meets}
use Rattle.complete.proofs.MeetsBlocks.{Handed, Braces, exprs-meet}

-- where no literal stands none is read
module _ {e : Sheet} {d : ℕ} {p : Place} where
  lit-fails : among (kind_of p) lits ≡ false → Fails e d p nothing (lit e)
  unfolding lit lit_at lit_from
  lit-fails f = record { fails = λ s w h z. go s w h z (ap (λ k. among k lits) (sym (kind-place e.tokens s h) ∙ ap kind_of z) ∙ f) (range_at e.tokens s.at) }
    where
      by : (s : State) (w : World) → Settled e.tokens s → place_at e.tokens s ≡ p → (k : ℕ) → among k lits ≡ false → (r : Span) (l : Literal) → literal e.text k r ≡ l → FailsAt e d nothing s w (lit_from e r l s w)
      by s w h z k f r (literals.Value l) g = absurd (true≢false (sym (literal-first e.text k r l g) ∙ f))
      by s w h z k f r (literals.Faulty n) g = let i : s.reads ≡ s.reads + 0 = omega arith in faulty i (omega arith) refl
      by s w h z k f r literals.Nothing g = unexpected-fails.fails s w h z

      go : (s : State) (w : World) → Settled e.tokens s → place_at e.tokens s ≡ p → among (kind_at e.tokens s.at) lits ≡ false → (r : Ranged) → FailsAt e d nothing s w (lit_at e (kind_at e.tokens s.at) r s w)
      go s w h z f (Some r) = by s w h z (kind_at e.tokens s.at) f r _ refl
      go s w h z f None = unexpected-fails.fails s w h z

  -- the colon of a key in parentheses and its record
  colon-meets : {q : Place} → Tok kind.Colon p q → (from link : ℕ) → Meets e d p q (reading (taken p) ⊕ building) Any (paren_key_at e from link)
  unfolding paren_key_at
  colon-meets t from link = record { runs = λ s w h z. (expects t (append-meets _ link)).runs s w h z }

  colon-fails : Not kind.Colon p → (from link : ℕ) → Fails e d p nothing (paren_key_at e from link)
  unfolding paren_key_at
  colon-fails n from link = record { fails = λ s w h z. (fails-first _ (expect-fails kind.Colon n)).fails s w h z }

-- a rule fails where the one fails that a test decides for
module _ {e : Sheet} {A : Type 0} {d : ℕ} {p : Place} {c : Cost} where
  fails-yes : {r : Rule A} (t : Rule A) {b : Bool} → b ≡ true → Fails e d p c r → Fails e d p c (if_so r t b)
  fails-yes t f x = rw f x

  fails-not : (r : Rule A) {t : Rule A} {b : Bool} → b ≡ false → Fails e d p c t → Fails e d p c (if_so r t b)
  fails-not r f x = rw f x

module _ {e : Sheet} {d : ℕ} (h : Handed e d) where
  -- parse_table_key_and_colon
  keys-meet : {p q : Place} (D : Derives e.text Key p q) → Meets e d p q (cost_of D) Any (key (levels e d))
  unfolding key paren_key lit_key costs records need among
  keys-meet (paren-key a D b c) = fits (omega arith) (omega arith) (omega arith) (begins (λ from. eats _ a (next (exprs-meet h D) (λ link _. expects b (colon-meets c from link)))))
  keys-meet (literal-key D a) = fits (omega arith) (omega arith) (omega arith) (begins (λ from. eats-not _ (apart kind.OpenParen (starts D) refl) (next (lit-meets D) (λ link _. expects a answers))))

  -- where no key stands the attempt fails behind what it reads in vain
  key-fails : {p : Place} {n m k : ℕ} → Leads e.text (Not kind.Colon) p n m k → Fails e d p (record { reads = n; nodes = m; need = k }) (key (levels e d))
  unfolding key paren_key lit_key costs records need among
  key-fails (no_key a b c) = fails-fit {a = nothing ⊕ (nothing ⊕ nothing)} (omega (arith, c)) (omega arith) (omega arith) (fails-later start-meets (λ from _. fails-later (eat-not kind.OpenParen a) (λ o i. fails-not _ i (fails-first _ (lit-fails b)))))
  key-fails {p} (a-group {u = u} {v = v} a D b c f g i) = fails-fit {a = nothing ⊕ (reading (taken p) ⊕ (cost_of D ⊕ (reading (taken v) ⊕ nothing)))} (omega (arith, f)) (omega arith) (omega arith)
      (fails-later start-meets (λ from _. fails-later (eat-yes kind.OpenParen a) (λ o j. fails-yes _ j (fails-later (exprs-meet h D) (λ link _. fails-later (expect_meets kind.CloseParen b) (λ _ _. colon-fails c from link))))))
  key-fails (a-literal D c f g) = fails-fit {a = nothing ⊕ (nothing ⊕ (flat_cost D ⊕ nothing))} (omega (arith, f)) (omega arith) (omega arith)
      (fails-later start-meets (λ from _. fails-later (eat-not kind.OpenParen (apart kind.OpenParen (starts D) refl)) (λ o i. fails-not _ i (fails-later (lit-meets D) (λ link _. fails-first _ (expect-fails kind.Colon c))))))

  -- parse_table_property
  properties-meet : {p q : Place} (D : Derives e.text Property p q) → Meets e d p q (cost_of D) Any (property_rule (levels e d))
  unfolding property_rule costs records need
  properties-meet (property D E) = fits (omega arith) (omega arith) (omega arith) (begins (λ from. next (keys-meet D) (λ name _. next (exprs-meet h E) (λ value _. pair-meets _ _ _ _))))

  -- the properties behind the first one
  more-properties : {p q : Place} (D : Derives e.text (Until Property NoLast kind.CloseBrace) p q) (kids : Kids) → Meets e d p q (cost_of D) Any (items_of (levels e d) 2 kids)
  unfolding items_of item items_end among
  more-properties D kids = until-meets kind.CloseBrace (property_rule (levels e d)) refl (record { meets = λ E. properties-meet E }) (until-turn-takes e d 2 kind.CloseBrace) (record { no_end = λ E. apart kind.CloseBrace (starts E) refl; none = λ E. starts E }) D kids

  -- a table from behind its first key on
  module _ (from inside_of first : ℕ) where
    table-stops : {p q r s : Place} (D : Derives e.text (Expr true) p q) (E : Derives e.text Eols q r) → Tok kind.CloseBrace r s
        → Meets e d p s (cost_of D ⊕ (building ⊕ (reading (cost E) ⊕ (reading (taken r) ⊕ building)))) Any (table_rule (levels e d) from inside_of first)
    unfolding table_rule
    table-stops D E t = next (exprs-meet h D) (λ value _. next (pair-meets _ _ _ _) (λ link _. lines E (eats _ t (close-meets _ _ _ _ _ _))))

    table-goes : {p q r s t : Place} (D : Derives e.text (Expr true) p q) (E : Derives e.text Eols q r) → Tok kind.Comma r s → (F : Derives e.text (Until Property NoLast kind.CloseBrace) s t)
        → Meets e d p t (record { reads = cost D + cost E + taken r + cost F; nodes = records D + records F + 2; need = max (need D) (need F) }) Any (table_rule (levels e d) from inside_of first)
    unfolding table_rule list_record
    table-goes D E t F = fits (omega arith) (omega arith) (omega arith) (next (exprs-meet h D) (λ value _. next (pair-meets _ _ _ _) (λ link _. lines E (eats-not _ (elsewhere kind.CloseBrace refl (at-token t)) (expects t (next (more-properties F (row_with link)) (λ i _. close-meets _ _ _ _ _ _)))))))

  -- behind the brace and its Eols
  tables-meet : {p q r : Place} (a : Tok kind.OpenBrace p q) (D : Derives e.text (Until Property NoLast kind.CloseBrace) q r) (from : ℕ) → Meets e d p r (cost_of (table a D)) Any (brace (levels e d) from)
  unfolding brace table_or_block costs records need among
  tables-meet a (until-of E (items-end t)) from = fits (omega arith) (omega arith) (omega arith) (bumps a.next (lines E (eats _ t (close-meets _ _ _ _ _ _))))
  tables-meet a (until-of E (items-last x _ _)) from = elim x [ ]
  tables-meet a (until-of E (items-final (property D F) G t)) from = fits (omega arith) (omega arith) (omega arith)
      (bumps a.next (lines E (eats-not _ (apart kind.CloseBrace (starts D) refl) (begins (λ inside_of. kept-attempt (keys-meet D) (λ first _. table-stops from inside_of first F G t) (brace_block (levels e d) from inside_of))))))
  tables-meet a (until-of E (items-comma (property D F) G t I K)) from = fits (omega arith) (omega arith) (omega arith)
      (bumps a.next (lines E (eats-not _ (apart kind.CloseBrace (starts D) refl) (begins (λ inside_of. kept-attempt (keys-meet D) (λ first _. table-goes from inside_of first F G t (until-of I K)) (brace_block (levels e d) from inside_of))))))

  block-exprs-meet : {p q r s : Place} (a : Tok kind.OpenBrace p q) (E : Derives e.text Eols q r) (n : Not kind.CloseBrace r) (D : Derives e.text (Exprs kind.CloseBrace) r s) (from : ℕ) → Meets e d p s (cost_of (block-expr a E n D)) Any (brace (levels e d) from)
  unfolding brace table_or_block brace_block block_record wrapped costs records need
  block-exprs-meet a E n D from = fits (omega arith) (omega arith) (omega arith)
      (bumps a.next (lines E (eats-not _ n (begins (λ inside_of. retried {b = inside (cost_of D) ⊕ (building ⊕ building)} _ (key-fails (body-leads E D)) (omega arith) (omega arith) (next (h.bodies D) (λ row _. next (close-meets _ _ _ _ _ _) (λ link _. close-meets _ _ _ _ _ _))))))))

  pub braces-meet : Braces e d
  braces-meet = record { tables = λ a D from. tables-meet a D from; block-exprs = λ a E n D from. block-exprs-meet a E n D from }
