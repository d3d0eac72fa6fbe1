-- Calls, with and without a trailing lambda, and an atom with all calls and members that follow: parse_expr_primary.
use mathlib.Core.Path.{◌≡◌, refl, sym, ap, ◌∙◌}
use mathlib.Core.List.{List, ◌∷◌}
use mathlib.Core.Bool.{Bool, true, false}
use Prim.Native.Nat.{ℕ}
use lib.Dec.{ltb}
use borrow.Author.Tests.{lt-ltb}
use Rattle.kinds.specs.Number as kind
use Rattle.cursor.specs.declared.Kids.{Kids}
use Rattle.cursor.specs.declared.Label.{Label}
use Rattle.cursor.specs.Node as node
use Rattle.cursor.specs.Sheet.{Sheet}
use Rattle.cursor.specs.Rule.{Next, more}
use Rattle.cursor.specs.Records.{word32, no_kids, flagged}
use Rattle.cursor.specs.Tree.{Trees, join, tree}
use Rattle.cursor.proofs.Laws.{join-none, join-assoc}
use Rattle.cursor.proofs.Stack.{Entry, whole, row, Stack, link-some}
use Rattle.cursor.proofs.Grows.{as_row}
use Rattle.types.specs.declared.items.Items.{Items as Row}
use Rattle.parts.specs.declared.values.Called.{Called}
use Rattle.parts.specs.declared.values.Expr.{Expr}
use Rattle.parts.specs.declared.values.Expr.TheVariants as exprs
use Rattle.parts.specs.Values.{link_of, row_of, uncounted}
use Rattle.parts.specs.Records.{call_record}
use Rattle.parts.specs.Steps.{braced}
use Rattle.rules.specs.Inner.{expr}
use Rattle.rules.specs.Blocks.{block}
use Rattle.rules.specs.Primary.{call as call-rule, postfix_turn, primary_of}
use Rattle.rules.specs.Atoms.{atom, primary}
use Rattle.rules.specs.Levels.{levels}
use Rattle.rules.proofs.Takes.{postfix-turn-takes}
use Rattle.grammar.specs.Places.{Place, Tok, Here}
use Rattle.grammar.specs.Symbols.{Until, NoLast, Exprs, Block, Atom, Primary, Posts, Expr as Whole}
use Rattle.grammar.specs.Derives.{Derives, NoLambda, no-brace, not_taken, primary-of, call, call-lambda, lambda-alone}
use Rattle.grammar.specs.Builders.{blank, only, some, made, call_over, covered}
use Rattle.grammar.specs.Shape.{shape}
use Rattle.sound.proofs.Sound.{Spot, at, Claim, Seq, ◌▸◌, Gave, gave, If, Star, Sound, gives, maps, ifs, binds, loops, going}
use Rattle.sound.proofs.SoundSteps.{Ate, yes-ate, not-ate, Saw, yes-saw, not-saw, check_sound, eat-sound}
use Rattle.sound.proofs.SoundValues.{Value, wrapped, relabel, Started, started, labelled, Closed, closed, start-sound, close-sound}
use Rattle.sound.proofs.SoundItems.{sofar, Rowed, as-shape, Listed, listed, word_flags}
use Rattle.sound.proofs.ListShape.{under, behind-none, until-behind}
use Rattle.sound.proofs.SoundNames.{Rowing}
use Rattle.sound.proofs.SoundEffects.{Becomes, becomes}
use Rattle.sound.proofs.SoundExprs.{fits-call, Held, Expressed, expressed, Headed, onto}
use Rattle.sound.proofs.SoundBody.{covered-sound}
use Rattle.sound.proofs.SoundTables.{arguments_sound}
use Rattle.sound.proofs.SoundMembers.{Lengthened, lengthened, lengthens, PostTurn, goes, posts-read, Accessed, access-sound, access-read}

-- does a trailing lambda follow, where one is taken?
data LambdaHere : Bool → Spot → Spot → Bool → Type 0 where
  a-lambda : {p : Place} {n : ℕ} {xs : List ℕ} → Here kind.OpenBrace p → LambdaHere true (at p n xs) (at p n xs) true
  no-lambda : {lambda : Bool} {p : Place} {n : ℕ} {xs : List ℕ} → NoLambda lambda p → LambdaHere lambda (at p n xs) (at p n xs) false

braced-sound : (e : Sheet) (lambda : Bool) → Sound e (LambdaHere lambda) (braced e lambda)
unfolding braced
braced-sound e true = maps e (λ u v b c. go c) (check_sound e kind.OpenBrace)
  where
    go : {u v : Spot} {b : Bool} → Saw kind.OpenBrace u v b → LambdaHere true u v b
    go (yes-saw h) = a-lambda h
    go (not-saw h) = no-lambda (no-brace h)
braced-sound e false = maps e (λ u v b c. go c) (gives e)
  where
    go : {u v : Spot} {b : Bool} → Gave false u v b → LambdaHere false u v b
    go (gave {x = at p n xs}) = no-lambda not_taken

abbrev call_label : ℕ → Place → ℕ → Bool → Label
call_label from q c lambda = labelled node.Call from 0 0 (flagged c 0 lambda false) q

-- a Call's record over a row of its callee and its arguments, and over its trailing lambda, where it has one
data CallMade (from : ℕ) (kids : Kids) (a : ℕ) : Spot → Spot → Next Expr → Type 0 where
  call-made : {p : Place} {n m link : ℕ} {xs ys : List ℕ} {called : Called}
      → (a ≡ 0 → (lo c : ℕ) (ts : Trees) (es : List Entry) → some ts ≡ true → kids.count ≡ word32 c → Stack xs n (row lo kids.first kids.last ts ∷ es)
      → Held ys m lo called.kids.last (exprs.Call link called) (call_label from p c false) ts es)
      → ((lo mid last c : ℕ) (i : Label) (ts js : Trees) (es : List Entry) → some (join ts (tree i js)) ≡ true → kids.count ≡ word32 c → Stack xs n (whole mid a last i js ∷ row lo kids.first kids.last ts ∷ es)
      → Held ys m lo called.kids.last (exprs.Call link called) (call_label from p c true) (join ts (tree i js)) es)
      → CallMade from kids a (at p n xs) (at p m ys) (more (exprs.Call link called))

-- a count in a word, and a flag by another name
flags-as : {k : ℕ} {b f : Bool} (c : ℕ) → b ≡ f → k ≡ word32 c → flagged k 0 b false ≡ flagged c 0 f false
flags-as {b = b} c q w = word_flags c b false w ∙ ap (λ z. flagged c 0 z false) q

call-record-sound : (e : Sheet) (from : ℕ) (kids : Kids) (a : ℕ) → Sound e (CallMade from kids a) (call_record from kids a)
unfolding call_record
call-record-sound e from kids a = maps e (λ u v b c. go c) (binds e (lengthens e kids a) (λ all. binds e (close-sound e node.Call from 0 0 (flagged kids.count 0 (ltb 0 a) false) all.first) (λ link. gives e)))
  where
    held : {ys : List ℕ} {m lo link : ℕ} {ts : Trees} {es : List Entry} {f : Bool} (p : Place) (all : Kids) (c : ℕ) → ltb 0 a ≡ f → some ts ≡ true → kids.count ≡ word32 c
        → Stack ys m (whole lo link all.last (call_label from p kids.count (ltb 0 a)) ts ∷ es)
        → Held ys m lo all.last (exprs.Call link (record { kids = uncounted all; arguments = kids.count; lambda = ltb 0 a })) (call_label from p c f) ts es
    held p all c q h w st = let z = flags-as c q w in record { fits = fits-call refl refl (sym z) h; stack = relabel (ap (λ k. labelled node.Call from 0 0 k p) z) st }

    go : {u v : Spot} {b : Next Expr}
        → Seq (Lengthened kids a) (λ all. Seq (Closed node.Call from 0 0 (flagged kids.count 0 (ltb 0 a) false) all.first) (λ link. Gave (more (exprs.Call link (record { kids = uncounted all; arguments = kids.count; lambda = ltb 0 a }))))) u v b
        → CallMade from kids a u v b
    go (lengthened {k = all} u z ▸ closed {p = p} r ▸ y) = going (CallMade from kids a _) y (call-made
        (λ q lo c ts es h w st. held p all c (ap (λ k. ltb 0 k) q) h w (wrapped _ (z q ts lo es st) r))
        (λ lo mid last c i ts js es h w st. held p all c (lt-ltb 0 a (link-some st)) h w (wrapped _ (u lo mid last i ts js es st) r)))

-- a block as a trailing lambda
abbrev Lambda : List ℕ → Claim ℕ
Lambda text = Becomes text Block 0 (λ q f. only (covered node.Closure f.row))

module _ (text : List ℕ) (from : ℕ) (x : Expr) where
  -- arguments behind their callee
  argued : {p q : Place} {xs ys : List ℕ} {n m lo last : ℕ} {l : Label} {ks : Trees} {es : List Entry} {j : Row} (d : Derives text (Until (Whole true) NoLast kind.CloseParen) p q)
      → ((lo c : ℕ) (ts : Trees) (es : List Entry) → 0 ≡ word32 c → Stack xs n (row lo (link_of x) (link_of x) ts ∷ es) → Rowed ys m lo j (shape d 0 (sofar ts c)) es)
      → Stack xs n (whole lo (link_of x) last l ks ∷ es) → Rowed ys m lo j (under (tree l ks) (shape d 0 blank)) es
  argued {lo = lo} {l = l} {ks = ks} {es = es} d f st = as-shape (until-behind d (tree l ks) 0 ∙ behind-none (tree l ks) (shape d 0 blank)) (f lo 0 (tree l ks) es refl (as_row st))

  -- what stands behind an opening parenthesis
  abbrev Calling : Bool → Claim (Next Expr)
  Calling lambda = Seq (Listed text (Until (Whole true) NoLast kind.CloseParen) (row_of (link_of x))) (λ i. Seq (LambdaHere lambda) (λ b. If b (Seq (Lambda text) (λ a. CallMade from i.kids a)) (CallMade from i.kids 0)))

  call-read : {lambda : Bool} {o p : Place} {n : ℕ} {xs : List ℕ} {v : Spot} {b : Next Expr} → Tok kind.OpenParen o p → Calling lambda (at p n xs) v b → PostTurn text lambda from x (at o n xs) v b
  unfolding shape join
  call-read t (listed {q = q} d f ▸ no-lambda h ▸ call-made {called = called} u w) =
      goes (record { before = λ g r b. call t d h b; before-is = λ g r b so. refl }) (λ last l ks. record {
        last-now = called.kids.last;
        label-now = call_label from q (shape d 0 blank).count false;
        kids-now = join (tree l ks) (shape d 0 blank).row;
        same = ap (λ k. made node.Call from q 0 0 (flagged (shape d 0 blank).count 0 false false) (join (tree l ks) k)) (join-none (shape d 0 blank).row);
        push = λ lo es y. let r = argued d f y.stack in u refl lo _ _ es refl r.count r.stack;
      })
  call-read t (listed d f ▸ a-lambda h ▸ becomes {q = q} {l = i} {ks = js} c s g ▸ call-made {called = called} u w) =
      goes (record { before = λ g r b. call-lambda t d c b; before-is = λ g r b so. refl }) (λ last l ks. record {
        last-now = called.kids.last;
        label-now = call_label from q (shape d 0 blank).count true;
        kids-now = join (join (tree l ks) (shape d 0 blank).row) (tree i js);
        same = ap (λ k. call_over from q (only (tree l ks)) (shape d 0 blank) k.row) s
            ∙ ap (λ k. made node.Call from q 0 0 (flagged (shape d 0 blank).count 0 true false) k) (sym (join-assoc (tree l ks) (shape d 0 blank).row (tree i js)));
        push = λ lo es y. let r = argued d f y.stack in w lo _ _ _ i _ js es refl r.count (g _ r.stack);
      })

  -- a trailing lambda alone
  lambda-read : {u v : Spot} {b : Next Expr} → Seq (Lambda text) (λ a. CallMade from (row_of (link_of x)) a) u v b → PostTurn text true from x u v b
  unfolding shape join
  lambda-read (becomes {q = q} {l = i} {ks = js} c s g ▸ call-made {called = called} u w) =
      goes (record { before = λ g r b. lambda-alone c b; before-is = λ g r b so. refl }) (λ last l ks. record {
        last-now = called.kids.last;
        label-now = call_label from q 0 true;
        kids-now = join (tree l ks) (tree i js);
        same = ap (λ k. call_over from q (only (tree l ks)) blank k.row) s;
        push = λ lo es y. w lo _ _ 0 i (tree l ks) js es refl refl (g _ (as_row y.stack));
      })

module _ (e : Sheet) (d : ℕ) (wholes : (lambda : Bool) → Sound e (Value e.text (Whole lambda)) (expr (levels e d) lambda)) (bodies : (end : ℕ) → Sound e (Rowing e.text (Exprs end) no_kids) ((levels e d).exprs end)) where
  -- a trailing lambda; the kind Closure is 36, and the kind over a block is handed over as the number before it
  closure-sound : Sound e (Lambda e.text) (block (levels e d) node.Closure)
  closure-sound = covered-sound e d bodies 35

  -- what stands where no parenthesis does
  abbrev Unopened : ℕ → Bool → Expr → Claim (Next Expr)
  Unopened from lambda x = Seq (LambdaHere lambda) (λ b. If b (Seq (Lambda e.text) (λ a. CallMade from (row_of (link_of x)) a)) (Accessed e d wholes from x))

  turn-sound : (from : ℕ) (lambda : Bool) (x : Expr) → Sound e (PostTurn e.text lambda from x) (postfix_turn (levels e d) from lambda x)
  unfolding postfix_turn call-rule
  turn-sound from lambda x = maps e (λ u v b c. go c) (binds e (eat-sound e kind.OpenParen) (λ b. ifs e b
      (binds e (arguments_sound e d wholes (row_of (link_of x))) (λ i. binds e (braced-sound e lambda) (λ t. ifs e t (binds e closure-sound (λ a. call-record-sound e from i.kids a)) (call-record-sound e from i.kids 0))))
      (binds e (braced-sound e lambda) (λ t. ifs e t (binds e closure-sound (λ a. call-record-sound e from (row_of (link_of x)) a)) (access-sound e d wholes from x)))))
    where
      go : {lambda : Bool} {u v : Spot} {b : Next Expr} → Seq (Ate kind.OpenParen) (λ b. If b (Calling e.text from x lambda) (Unopened from lambda x)) u v b → PostTurn e.text lambda from x u v b
      go (yes-ate t ▸ c) = call-read e.text from x t c
      go (not-ate n ▸ a-lambda h ▸ c) = lambda-read e.text from x c
      go {lambda} (not-ate n ▸ no-lambda h ▸ c) = access-read e d wholes lambda from x n h c

  -- parse_expr_primary
  pub primary-sound : Sound e (Expressed e.text Atom) (atom (levels e d)) → (lambda : Bool) → Sound e (Expressed e.text (Primary lambda)) (primary (levels e d) lambda)
  unfolding primary primary_of shape
  primary-sound atoms lambda = maps e (λ u v a c. go c) (binds e (start-sound e) (λ from. binds e atoms (λ x. loops e (postfix-turn-takes e d from lambda) (turn-sound from lambda) x)))
    where
      headed : Headed e.text Atom (Primary lambda) (Posts lambda)
      headed = record { both = λ d b. primary-of d b; both_is = λ d b. refl }

      go : {u v : Spot} {a : Expr} → Seq Started (λ from. Seq (Expressed e.text Atom) (λ x. Star (PostTurn e.text lambda from) x)) u v a → Expressed e.text (Primary lambda) u v a
      go (started ▸ expressed b s g ▸ r) = onto headed b s g (posts-read e.text lambda _ r)
