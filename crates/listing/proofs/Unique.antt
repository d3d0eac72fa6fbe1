-- No second answer satisfies a contract: of each public function, two answers that its `ensures` admits for the same arguments are one, and
-- the lent buffers hold the same at exit. `Post` is the contract as the check reads it from the source.
-- Assumes nothing.
use Prim.Native.Nat.{ℕ}
use mathlib.Core.List.{List}
use mathlib.Core.Path.{◌≡◌, refl, sym, ap, ◌∙◌}
use Rattle.std.specs.Prelude.{Option, Some, None}
use Rattle.kinds.specs.Listing.{name_bytes}
use Rattle.listing.specs.declared.bundle.Decoded.{Decoded}
use Rattle.listing.specs.Answers.{as_listed, wrote}
use Rattle.listing.specs.Bundle.{as_decoded}
use Rattle.listing.specs.Names.{letters, other_bytes, name_from, record_name, word_of}
use Rattle.listing.proofs.bundle.decode.Reads as decode
use Rattle.listing.proofs.lines.error_line.Reads as error-line
use Rattle.listing.proofs.lines.first_line.Reads as first-line
use Rattle.listing.proofs.lines.node_line.Reads as node-line
use Rattle.listing.proofs.lines.word_at.Reads as word_at
use Rattle.listing.proofs.list.lent_listing.Reads as lent-listing
use Rattle.listing.proofs.list.listing.Reads as listing
use Rattle.listing.proofs.list.refusal.Reads as refusal
use Rattle.listing.proofs.names.detail_place.Reads as detail-place
use Rattle.listing.proofs.names.put_name.Reads as put-name
use Rattle.listing.proofs.names.record_place.Reads as record-place
use Rattle.listing.proofs.page.Page.put_byte.Reads as put_byte
use Rattle.listing.proofs.page.Page.put_bytes.Reads as put-bytes
use Rattle.listing.proofs.page.Page.put_integer.Reads as put-integer
use Rattle.listing.proofs.page.Page.put_number.Reads as put-number
use Rattle.listing.proofs.walk.node_lines.Reads as node-lines
use Rattle.listing.proofs.walk.within.Reads as within

-- an answer and what the buffers hold, told as one value, can be read off it again
abbrev Telling : {R B O : Type 0} → (R → B → O) → Type 0
Telling {R} {B} f = (r s : R) (a b : B) → f r a ≡ f s b → (r ≡ s) × (a ≡ b)

-- so a contract that says what this value is determines both
both : {R B O : Type 0} {f : R → B → O} → Telling f → (r s : R) (a b : B) {o : O} → f r a ≡ o → f s b ≡ o → (r ≡ s) × (a ≡ b)
both telling r s a b p q = telling r s a b (p ∙ sym q)

listeds : Telling as_listed
listeds (Some n) (Some m) a b e = (cc, cc)
listeds (Some n) None a b e = (cc, cc)
listeds None (Some m) a b e = (cc, cc)
listeds None None a b e = (refl, cc)

writtens : Telling wrote
writtens r s a b e = (cc, cc)

decodeds : Telling (λ (r : Option Decoded) (a : List ℕ × List ℕ). as_decoded r a.0 a.1)
decodeds (Some d) (Some f) (a, c) (b, g) e =
    let n : d.text ≡ f.text = cc in
    let m : d.tokens ≡ f.tokens = cc in
    (λ i. Some (record { text = n i; tokens = m i }), cc)
decodeds (Some d) None (a, c) (b, g) e = (cc, cc)
decodeds None (Some f) (a, c) (b, g) e = (cc, cc)
decodeds None None (a, c) (b, g) e = (refl, cc)

-- bundle in, listing out
pub one-decode : (κs : _) (args : _) (r s : _) (x y : _) → decode.Post κs args r x → decode.Post κs args s y → (r ≡ s) × (x.1.0.now ≡ y.1.0.now) × (x.1.1.0.now ≡ y.1.1.0.now)
one-decode κs args r s x y p q =
    let z = both decodeds r s (x.1.0.now, x.1.1.0.now) (y.1.0.now, y.1.1.0.now) p.1 q.1 in
    (z.0, ap (λ (h : List ℕ × List ℕ). h.0) z.1, ap (λ (h : List ℕ × List ℕ). h.1) z.1)

pub one-listing : (κs : _) (args : _) (r s : _) (x y : _) → listing.Post κs args r x → listing.Post κs args s y → (r ≡ s) × (x.1.1.1.0.now ≡ y.1.1.1.0.now)
one-listing κs args r s x y p q = both listeds r s x.1.1.1.0.now y.1.1.1.0.now p q

pub one-refusal : (κs : _) (args : _) (r s : _) (x y : _) → refusal.Post κs args r x → refusal.Post κs args s y → (r ≡ s) × (x.0.now ≡ y.0.now)
one-refusal κs args r s x y p q = both listeds r s x.0.now y.0.now p q

pub one-lent-listing : (κs : _) (args : _) (r s : _) (x y : _) → lent-listing.Post κs args r x → lent-listing.Post κs args s y → (r ≡ s) × (x.1.1.1.0.now ≡ y.1.1.1.0.now)
one-lent-listing κs args r s x y p q = both writtens r s x.1.1.1.0.now y.1.1.1.0.now p q

-- the writers: the page, with what its buffer holds and where its next byte goes
pub one-put-byte : (κs : _) (args : _) (r s : _) (x y : _) → put_byte.Post κs args r x → put_byte.Post κs args s y → x.0.now ≡ y.0.now
one-put-byte κs args r s x y p q = p ∙ sym q

pub one-put-bytes : (κs : _) (args : _) (r s : _) (x y : _) → put-bytes.Post κs args r x → put-bytes.Post κs args s y → x.0.now ≡ y.0.now
one-put-bytes κs args r s x y p q = p ∙ sym q

pub one-put-number : (κs : _) (args : _) (r s : _) (x y : _) → put-number.Post κs args r x → put-number.Post κs args s y → x.0.now ≡ y.0.now
one-put-number κs args r s x y p q = p ∙ sym q

pub one-put-integer : (κs : _) (args : _) (r s : _) (x y : _) → put-integer.Post κs args r x → put-integer.Post κs args s y → x.0.now ≡ y.0.now
one-put-integer κs args r s x y p q = p ∙ sym q

pub one-put-name : (κs : _) (args : _) (r s : _) (x y : _) → put-name.Post κs args r x → put-name.Post κs args s y → x.0.now ≡ y.0.now
one-put-name κs args r s x y p q = p ∙ sym q

pub one-first-line : (κs : _) (args : _) (r s : _) (x y : _) → first-line.Post κs args r x → first-line.Post κs args s y → x.0.now ≡ y.0.now
one-first-line κs args r s x y p q = p ∙ sym q

pub one-node-line : (κs : _) (args : _) (r s : _) (x y : _) → node-line.Post κs args r x → node-line.Post κs args s y → x.0.now ≡ y.0.now
one-node-line κs args r s x y p q = p ∙ sym q

pub one-error-line : (κs : _) (args : _) (r s : _) (x y : _) → error-line.Post κs args r x → error-line.Post κs args s y → x.1.1.0.now ≡ y.1.1.0.now
one-error-line κs args r s x y p q = p ∙ sym q

pub one-node-lines : (κs : _) (args : _) (r s : _) (x y : _) → node-lines.Post κs args r x → node-lines.Post κs args s y → x.1.0.now ≡ y.1.0.now
one-node-lines κs args r s x y p q = p ∙ sym q

-- a contract that is an equation with the answer
pub one-word-at : (κs : _) (args : _) (r s : _) (x y : _) → word_at.Post κs args r x → word_at.Post κs args s y → r ≡ s
one-word-at κs args r s x y p q = p ∙ sym q

pub one-within : (κs : _) (args : _) (r s : _) (x y : _) → within.Post κs args r x → within.Post κs args s y → r ≡ s
one-within κs args r s x y p q = p ∙ sym q

-- a place is determined as far as it matters: by the name that starts there. `Assign` also starts within `GloAssign`
pub two-places : (name_from 238 ≡ record_name 29) × (name_from 231 ≡ record_name 29)
unfolding name_from letters name_bytes other_bytes record_name
two-places = (refl, refl)

pub one-record-place : (κs : _) (args : _) (r s : _) (x y : _) → record-place.Post κs args r x → record-place.Post κs args s y → name_from r ≡ name_from s
one-record-place κs args r s x y p q = p ∙ sym q

pub one-detail-place : (κs : _) (args : _) (r s : _) (x y : _) → detail-place.Post κs args r x → detail-place.Post κs args s y → word_of r ≡ word_of s
one-detail-place κs args r s x y p q = p ∙ sym q
