-- Each way through the statement `effect`.
use mathlib.Core.Path.{◌≡◌}
use mathlib.Core.Bool.{Bool, false}
use Prim.Native.Nat.{ℕ}
use lib.Dec.{ltb}
use Rattle.kinds.specs.Number as kind
use Rattle.cursor.specs.declared.State.{State}
use Rattle.cursor.specs.declared.Kids.{Kids}
use Rattle.cursor.specs.declared.Span.{Span}
use Rattle.cursor.specs.Sheet.{Sheet, range_at, Ranged}
use Rattle.cursor.specs.Node as node
use Rattle.cursor.specs.Rule.{World, Stop, done, failed, Rule}
use Rattle.cursor.specs.Tokens.{start_of}
use Rattle.cursor.specs.Checks.{expect}
use Rattle.cursor.specs.Records.{add, no_kids, flagged}
use Rattle.types.specs.declared.items.Items.{Items}
use Rattle.types.specs.Lits.{ident}
use Rattle.types.specs.Items.{close, add_some, is_ended}
use Rattle.types.specs.Types.{params, returns}
use Rattle.types.specs.Patterns.{span_of}
use Rattle.types.proofs.TypePaths.{starts}
use Rattle.parts.specs.Effects.{effect_record, effect_stmt}

-- the record of an effect, and the statement's over it
module _ (from inside : ℕ) (glo : Ranged) (name : ℕ) (i : Items) (link : ℕ) (s : State) (w : World) {kids : Kids} {s1 : State} {w1 : World} {b : Bool} {flags : ℕ} (p : done s1 w1 kids ≡ add_some i.kids link s w) (ended : b ≡ is_ended i.ended) (f : flags ≡ flagged i.kids.count 0 b (ltb 0 link)) where
  pub record-failed : {x : Stop} → close node.Effect inside 0 0 flags kids.first s1 w1 ≡ failed x → effect_record from inside glo name i link s w ≡ failed x
  unfolding effect_record
  record-failed q = rw (← p) (rw (← ended) (rw (← f) (rw q)))

  pub record-on : {effect : ℕ} {s2 s3 s4 : State} {w2 w3 w4 : World} {one two : Kids} {mark : Span} {told : Bool} {words : ℕ} → close node.Effect inside 0 0 flags kids.first s1 w1 ≡ done s2 w2 effect → done s3 w3 one ≡ add no_kids name s2 w2 → done s4 w4 two ≡ add one effect s3 w3 → mark ≡ span_of glo → told ≡ is_ended glo → words ≡ flagged 0 0 told false → effect_record from inside glo name i link s w ≡ close node.ExprEffect from mark.start mark.end words two.first s4 w4
  unfolding effect_record
  record-on q a c m t h = rw (← p) (rw (← ended) (rw (← f) (rw q (rw (← a) (rw (← c) (rw (h, t, m)))))))

-- parse_effect_stmt
module _ (e : Sheet) (atom : Rule ℕ) (from : ℕ) (glo : Ranged) (s : State) (w : World) {inside : ℕ} (f : inside ≡ start_of (range_at e.tokens s.at)) where
  pub stmt-shut : {x : Stop} → expect e kind.Effect s w ≡ failed x → effect_stmt e atom from glo s w ≡ failed x
  unfolding effect_stmt
  stmt-shut p = rw (starts e s w f) (rw p)

  module _ {s1 : State} {w1 : World} (p : expect e kind.Effect s w ≡ done s1 w1 tt) where
    pub stmt-nameless : {x : Stop} → ident e s1 w1 ≡ failed x → effect_stmt e atom from glo s w ≡ failed x
    unfolding effect_stmt
    stmt-nameless q = rw (starts e s w f) (rw p (rw q))

    module _ {name : ℕ} {s2 : State} {w2 : World} (q : ident e s1 w1 ≡ done s2 w2 name) where
      pub stmt-failed : {x : Stop} → params e atom no_kids s2 w2 ≡ failed x → effect_stmt e atom from glo s w ≡ failed x
      unfolding effect_stmt
      stmt-failed r = rw (starts e s w f) (rw p (rw q (rw r)))

      module _ {i : Items} {s3 : State} {w3 : World} (r : params e atom no_kids s2 w2 ≡ done s3 w3 i) where
        pub stmt-lost : {x : Stop} → returns e atom s3 w3 ≡ failed x → effect_stmt e atom from glo s w ≡ failed x
        unfolding effect_stmt
        stmt-lost h = rw (starts e s w f) (rw p (rw q (rw r (rw h))))

        pub stmt-on : {link : ℕ} {s4 : State} {w4 : World} → returns e atom s3 w3 ≡ done s4 w4 link → effect_stmt e atom from glo s w ≡ effect_record from inside glo name i link s4 w4
        unfolding effect_stmt
        stmt-on h = rw (starts e s w f) (rw p (rw q (rw r (rw h))))
