-- Each way through the rules on calls and members, as the code goes through them.
use mathlib.Core.Path.{◌≡◌}
use mathlib.Core.Bool.{Bool, true, false}
use Prim.Native.Nat.{ℕ, ◌<◌, ◌≤◌}
use borrow.Author.Tests.{lt-ltb, le-ltb}
use Rattle.kinds.specs.Number as kind
use Rattle.cursor.specs.declared.State.{State}
use Rattle.cursor.specs.Sheet.{Ranged}
use Rattle.cursor.specs.Node as node
use Rattle.cursor.specs.Rule.{World, Stop, done, failed}
use Rattle.cursor.specs.Checks.{eat, expect, eat_range, pick}
use Rattle.types.specs.declared.items.Items.{Items}
use Rattle.types.specs.Lits.{ident}
use Rattle.parts.specs.declared.values.Expr.{Expr}
use Rattle.parts.specs.Members.{member_at}
use Rattle.parts.specs.Values.{link_of, row_of}
use Rattle.rules.specs.Inner.{Inner, expr}
use Rattle.parts.specs.Records.{call_record, member_record}
use Rattle.parts.specs.Steps.{braced, no_member, pound, meta_end}
use Rattle.rules.specs.Blocks.{block}
use Rattle.rules.specs.Tables.{items_of}
use Rattle.rules.specs.Primary.{access, call, postfix_turn}
use Rattle.rules.specs.Placed.{member_property}
use Rattle.rules.proofs.Placed.{member_chain, access-placed}

-- the property of a member
module _ (r : Inner) (which : ℕ) {meta : Bool} (s : State) (w : World) where
  pub property-meta : meta ≡ true → member_property r which meta s w ≡ meta_end r.sheet which s w
  unfolding member_property
  property-meta m = rw m

  module _ (m : meta ≡ false) where
    pub property-name : 0 < which → member_property r which meta s w ≡ ident r.sheet s w
    unfolding member_property
    property-name t = rw m (rw (lt-ltb _ _ t))

    module _ (t : which ≤ 0) where
      pub property-failed : {y : Stop} → expr r true s w ≡ failed y → member_property r which meta s w ≡ failed y
      unfolding member_property
      property-failed a = rw m (rw (le-ltb _ _ t) (rw a))

      module _ {link : ℕ} {s1 : State} {w1 : World} (a : expr r true s w ≡ done s1 w1 link) where
        pub property-open : {y : Stop} → expect r.sheet kind.CloseBracket s1 w1 ≡ failed y → member_property r which meta s w ≡ failed y
        unfolding member_property
        property-open b = rw m (rw (le-ltb _ _ t) (rw a (rw b)))

        pub property-on : {s2 : State} {w2 : World} → expect r.sheet kind.CloseBracket s1 w1 ≡ done s2 w2 tt → member_property r which meta s w ≡ done s2 w2 link
        unfolding member_property
        property-on b = rw m (rw (le-ltb _ _ t) (rw a (rw b)))

module _ (r : Inner) (from : ℕ) where
  -- a member, where one stands here
  module _ (x : Expr) (s : State) (w : World) where
    pub access-failed : {y : Stop} → eat_range r.sheet kind.Question s w ≡ failed y → access r from x s w ≡ failed y
    access-failed p = rw (access-placed r from x) (rw p)

    module _ {safe : Ranged} {s1 : State} {w1 : World} (p : eat_range r.sheet kind.Question s w ≡ done s1 w1 safe) where
      pub access-full : {y : Stop} → pick r.sheet (member_chain r) s1 w1 ≡ failed y → access r from x s w ≡ failed y
      access-full q = rw (access-placed r from x) (rw p (rw q))

      module _ {which : ℕ} {s2 : State} {w2 : World} (q : pick r.sheet (member_chain r) s1 w1 ≡ done s2 w2 which) where
        pub access-none : 2 < which → access r from x s w ≡ no_member r.sheet safe x s2 w2
        access-none t = rw (access-placed r from x) (rw p (rw q (rw (lt-ltb _ _ t))))

        module _ (t : which ≤ 2) where
          pub access-spent : {y : Stop} → pound r.sheet s2 w2 ≡ failed y → access r from x s w ≡ failed y
          access-spent a = rw (access-placed r from x) (rw p (rw q (rw (le-ltb _ _ t) (rw a))))

          module _ {meta : Bool} {s3 : State} {w3 : World} (a : pound r.sheet s2 w2 ≡ done s3 w3 meta) where
            pub access-lost : {y : Stop} → member_property r which meta s3 w3 ≡ failed y → access r from x s w ≡ failed y
            access-lost b = rw (access-placed r from x) (rw p (rw q (rw (le-ltb _ _ t) (rw a (rw b)))))

            pub access-on : {link : ℕ} {s4 : State} {w4 : World} → member_property r which meta s3 w3 ≡ done s4 w4 link → access r from x s w ≡ member_record from safe (member_at which meta) x link s4 w4
            access-on b = rw (access-placed r from x) (rw p (rw q (rw (le-ltb _ _ t) (rw a (rw b)))))

  module _ (lambda : Bool) (x : Expr) (s : State) (w : World) where
    -- a call from behind its opening parenthesis on
    module _ {callee : ℕ} (l : callee ≡ link_of x) where
      pub call-failed : {y : Stop} → items_of r 0 (row_of callee) s w ≡ failed y → call r from lambda x s w ≡ failed y
      unfolding call
      call-failed p = rw (← l) (rw p)

      module _ {i : Items} {s1 : State} {w1 : World} (p : items_of r 0 (row_of callee) s w ≡ done s1 w1 i) where
        pub call-full : {y : Stop} → braced r.sheet lambda s1 w1 ≡ failed y → call r from lambda x s w ≡ failed y
        unfolding call
        call-full q = rw (← l) (rw p (rw q))

        pub call-bare : {s2 : State} {w2 : World} → braced r.sheet lambda s1 w1 ≡ done s2 w2 false → call r from lambda x s w ≡ call_record from i.kids 0 s2 w2
        unfolding call
        call-bare q = rw (← l) (rw p (rw q))

        module _ {s2 : State} {w2 : World} (q : braced r.sheet lambda s1 w1 ≡ done s2 w2 true) where
          pub call-lost : {y : Stop} → block r node.Closure s2 w2 ≡ failed y → call r from lambda x s w ≡ failed y
          unfolding call
          call-lost a = rw (← l) (rw p (rw q (rw a)))

          pub call-on : {closure : ℕ} {s3 : State} {w3 : World} → block r node.Closure s2 w2 ≡ done s3 w3 closure → call r from lambda x s w ≡ call_record from i.kids closure s3 w3
          unfolding call
          call-on a = rw (← l) (rw p (rw q (rw a)))

    -- one call or member more
    pub suffix-failed : {y : Stop} → eat r.sheet kind.OpenParen s w ≡ failed y → postfix_turn r from lambda x s w ≡ failed y
    unfolding postfix_turn
    suffix-failed p = rw p

    pub suffix-call : {s1 : State} {w1 : World} → eat r.sheet kind.OpenParen s w ≡ done s1 w1 true → postfix_turn r from lambda x s w ≡ call r from lambda x s1 w1
    unfolding postfix_turn
    suffix-call p = rw p

    module _ {s1 : State} {w1 : World} (p : eat r.sheet kind.OpenParen s w ≡ done s1 w1 false) where
      pub suffix-full : {y : Stop} → braced r.sheet lambda s1 w1 ≡ failed y → postfix_turn r from lambda x s w ≡ failed y
      unfolding postfix_turn
      suffix-full q = rw p (rw q)

      pub suffix-access : {s2 : State} {w2 : World} → braced r.sheet lambda s1 w1 ≡ done s2 w2 false → postfix_turn r from lambda x s w ≡ access r from x s2 w2
      unfolding postfix_turn
      suffix-access q = rw p (rw q)

      module _ {s2 : State} {w2 : World} (q : braced r.sheet lambda s1 w1 ≡ done s2 w2 true) where
        pub suffix-lost : {y : Stop} → block r node.Closure s2 w2 ≡ failed y → postfix_turn r from lambda x s w ≡ failed y
        unfolding postfix_turn
        suffix-lost a = rw p (rw q (rw a))

        pub suffix-lambda : {callee closure : ℕ} {s3 : State} {w3 : World} → callee ≡ link_of x → block r node.Closure s2 w2 ≡ done s3 w3 closure → postfix_turn r from lambda x s w ≡ call_record from (row_of callee) closure s3 w3
        unfolding postfix_turn
        suffix-lambda l a = rw p (rw q (rw (a, l)))
