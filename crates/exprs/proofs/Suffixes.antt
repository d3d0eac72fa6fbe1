-- An operand behind which no call and no member stands: the loop over them ends in its first turn, in which all were looked for.
use mathlib.Core.Path.{◌≡◌, refl, sym}
use mathlib.Core.Bool.{Bool, true, false, ◌||◌, true≢false}
use mathlib.Core.List.{List, [], ◌∷◌}
use Prim.Native.Nat.{ℕ, ◌+◌}
use borrow.Author.Tests.{eqb-false, ltb-true, ltb-false}
use lib.Dec.{eqb, ltb}
use Rattle.kinds.proofs.Logic.{neither}
use Rattle.kinds.specs.Number as kind
use Rattle.cursor.specs.declared.State.{State}
use Rattle.cursor.specs.Sheet.{Sheet, kind_at}
use Rattle.cursor.specs.Buffer.{put}
use Rattle.cursor.specs.Rule.{World, Stop, Out, done, failed, bind, ◌>>=◌, if_so, Next, stop, iterate}
use Rattle.cursor.specs.Checks.{live_room, check, eat, eat_range, is_in, pick_from, pick}
use Rattle.cursor.proofs.CheckPaths.{check-no, check-full}
use Rattle.cursor.proofs.Loops as turning
use Rattle.parts.specs.declared.values.Expr.{Expr}
use Rattle.cursor.specs.Node as node
use Rattle.parts.specs.Values.{link_of, row_of}
use Rattle.parts.specs.Records.{call_record}
use Rattle.parts.specs.Steps.{braced, no_member}
use Rattle.rules.specs.Blocks.{block}
use Rattle.rules.specs.Inner.{Inner}
use Rattle.rules.specs.Primary.{access, postfix_turn}
use Rattle.rules.proofs.Placed.{member_chain, member_by, access-placed}
use Rattle.exprs.specs.Suffix.{suffixes, is_suffix, no_suffix}

-- the ways through `no_suffix`
module _ (e : Sheet) (lambda : Bool) (s : State) (w : World) where
  pub picks : {b : Bool} → lambda ≡ b → pick e (suffixes b) s w ≡ pick e (suffixes lambda) s w
  picks p = rw p

  pub none-on : (x : Expr) {s1 : State} {w1 : World} {i : ℕ} → pick e (suffixes lambda) s w ≡ done s1 w1 i → no_suffix e lambda x s w ≡ done s1 w1 x
  unfolding no_suffix
  none-on x p = rw p

  pub none-failed : (x : Expr) {z : Stop} → pick e (suffixes lambda) s w ≡ failed z → no_suffix e lambda x s w ≡ failed z
  unfolding no_suffix
  none-failed x p = rw p

-- a kind that is neither one nor another nor among the rest is not the first of them and not among the rest
without : (a b c : Bool) → (a || (b || c)) ≡ false → (a || c) ≡ false
without true b c p = absurd (true≢false p)
without false b c p = (neither b c p).1

module _ (r : Inner) (from : ℕ) (x : Expr) where
  abbrev here : State → ℕ
  here s = kind_at r.sheet.tokens s.at

  -- one kind more in the live list
  abbrev told : State → State
  told s = record { at = s.at; prev = s.prev; reads = s.reads; nodes = s.nodes; errors = s.errors; wanted = s.wanted; live = s.live + 1 }

  abbrev telling : World → State → ℕ → World
  telling w s k = record { nodes = w.nodes; errors = w.errors; expected = w.expected; live = put w.live s.live k }

  -- what stands here is not the first of these kinds
  other : (s : State) (k : ℕ) (ks : List ℕ) → is_in (here s) (k ∷ ks) ≡ false → here s ≡ k → ⊥
  other s k ks b = eqb-false _ _ (neither _ _ b).0

  others : (s : State) (k : ℕ) (ks : List ℕ) → is_in (here s) (k ∷ ks) ≡ false → is_in (here s) ks ≡ false
  others s k ks b = (neither (eqb (here s) k) (is_in (here s) ks) b).1

  abbrev ended : State → World → ℕ → Out (Next Expr)
  ended s w i = done s w (stop x)

  -- where a chain ends that begins at a place
  abbrev last : List ℕ → ℕ → ℕ
  last [] i = i
  last (k ∷ ks) i = last ks (i + 1)

  -- none of a chain's kinds stands here: whatever its places are called
  chain-none : (ks : List ℕ) (i j : ℕ) (k : State → World → ℕ → Out (Next Expr)) → ((s : State) (w : World) → done s w (stop x) ≡ k s w (last ks j)) → (s : State) (w : World) → is_in (here s) ks ≡ false → bind (pick_from r.sheet ks i s w) ended ≡ bind (pick_from r.sheet ks j s w) k
  unfolding pick_from
  chain-none [] i j k h s w b = h s w
  chain-none (a ∷ ks) i j k h s w b = go (chain-none ks (i + 1) (j + 1) k h) (ltb s.live live_room) refl
    where
      go : ((s1 : State) (w1 : World) → is_in (here s1) ks ≡ false → bind (pick_from r.sheet ks (i + 1) s1 w1) ended ≡ bind (pick_from r.sheet ks (j + 1) s1 w1) k) → (t : Bool) → ltb s.live live_room ≡ t → bind (pick_from r.sheet (a ∷ ks) i s w) ended ≡ bind (pick_from r.sheet (a ∷ ks) j s w) k
      go rest true q = rw (check-no r.sheet a s w (other s a ks b) (ltb-true _ _ q) refl) (rest (told s) (telling w s a) (others s a ks b))
      go rest false q = rw (check-full r.sheet a s w (other s a ks b) (ltb-false _ _ q)) refl

  access-none : (i : ℕ) (s : State) (w : World) → is_in (here s) (kind.Question ∷ member_chain r) ≡ false → bind (pick_from r.sheet (kind.Question ∷ member_chain r) i s w) ended ≡ access r from x s w
  unfolding pick_from eat_range no_member
  access-none i s w b = rw (access-placed r from x) (go (ltb s.live live_room) refl)
    where
      go : (t : Bool) → ltb s.live live_room ≡ t → bind (pick_from r.sheet (kind.Question ∷ member_chain r) i s w) ended ≡ (eat_range r.sheet kind.Question >>= (λ safe. pick r.sheet (member_chain r) >>= member_by r from x safe)) s w
      go true q = rw (check-no r.sheet kind.Question s w (other s kind.Question (member_chain r) b) (ltb-true _ _ q) refl) (chain-none (member_chain r) (i + 1) 0 _ (λ s1 w1. refl) (told s) (telling w s kind.Question) (others s kind.Question (member_chain r) b))
      go false q = rw (check-full r.sheet kind.Question s w (other s kind.Question (member_chain r) b) (ltb-false _ _ q)) refl

  turn-none : (lambda : Bool) (s : State) (w : World) → is_suffix (here s) ≡ false → bind (pick_from r.sheet (suffixes lambda) 0 s w) ended ≡ postfix_turn r from lambda x s w
  unfolding pick_from postfix_turn eat braced is_suffix
  turn-none true s w b = go (ltb s.live live_room) refl
    where
      brace : (s1 : State) (w1 : World) → is_in (here s1) (kind.OpenBrace ∷ kind.Question ∷ member_chain r) ≡ false → (t : Bool) → ltb s1.live live_room ≡ t → bind (pick_from r.sheet (kind.OpenBrace ∷ kind.Question ∷ member_chain r) 1 s1 w1) ended ≡ bind (check r.sheet kind.OpenBrace s1 w1) (λ s2 w2 trailing. if_so (block r node.Closure >>= λ closure. call_record from (row_of (link_of x)) closure) (access r from x) trailing s2 w2)
      brace s1 w1 c true q = rw (check-no r.sheet kind.OpenBrace s1 w1 (other s1 kind.OpenBrace (kind.Question ∷ member_chain r) c) (ltb-true _ _ q) refl) (access-none 2 (told s1) (telling w1 s1 kind.OpenBrace) (others s1 kind.OpenBrace (kind.Question ∷ member_chain r) c))
      brace s1 w1 c false q = rw (check-full r.sheet kind.OpenBrace s1 w1 (other s1 kind.OpenBrace (kind.Question ∷ member_chain r) c) (ltb-false _ _ q)) refl

      go : (t : Bool) → ltb s.live live_room ≡ t → bind (pick_from r.sheet (suffixes true) 0 s w) ended ≡ postfix_turn r from true x s w
      go true q = rw (check-no r.sheet kind.OpenParen s w (other s kind.OpenParen (kind.OpenBrace ∷ kind.Question ∷ member_chain r) b) (ltb-true _ _ q) refl) (brace (told s) (telling w s kind.OpenParen) (others s kind.OpenParen (kind.OpenBrace ∷ kind.Question ∷ member_chain r) b) (ltb (s.live + 1) live_room) refl)
      go false q = rw (check-full r.sheet kind.OpenParen s w (other s kind.OpenParen (kind.OpenBrace ∷ kind.Question ∷ member_chain r) b) (ltb-false _ _ q)) refl
  turn-none false s w b = go (ltb s.live live_room) refl
    where
      bare : is_in (here s) (suffixes false) ≡ false
      bare = without (eqb (here s) kind.OpenParen) (eqb (here s) kind.OpenBrace) (is_in (here s) (kind.Question ∷ member_chain r)) b

      go : (t : Bool) → ltb s.live live_room ≡ t → bind (pick_from r.sheet (suffixes false) 0 s w) ended ≡ postfix_turn r from false x s w
      go true q = rw (check-no r.sheet kind.OpenParen s w (other s kind.OpenParen (kind.Question ∷ member_chain r) bare) (ltb-true _ _ q) refl) (access-none 1 (told s) (telling w s kind.OpenParen) (others s kind.OpenParen (kind.Question ∷ member_chain r) bare))
      go false q = rw (check-full r.sheet kind.OpenParen s w (other s kind.OpenParen (kind.Question ∷ member_chain r) bare) (ltb-false _ _ q)) refl

  -- then the loop comes to what is told at once
  pub unsuffixed : (lambda : Bool) (s : State) (w : World) → is_suffix (here s) ≡ false → no_suffix r.sheet lambda x s w ≡ iterate r.sheet (postfix_turn r from lambda) x s w
  unfolding no_suffix
  unsuffixed lambda s w b = go (pick_from r.sheet (suffixes lambda) 0 s w) (turn-none lambda s w b)
    where
      go : (o : Out ℕ) → bind o ended ≡ postfix_turn r from lambda x s w → bind o (λ s1 w1 _. done s1 w1 x) ≡ iterate r.sheet (postfix_turn r from lambda) x s w
      go (done s1 w1 i) p = sym (turning.loop-stop _ _ (sym p))
      go (failed z) p = sym (turning.loop-failed _ _ (sym p))
