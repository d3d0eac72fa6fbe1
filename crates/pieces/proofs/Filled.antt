-- What stands in front of a room after a read, and what a piece that was read is.
-- Assumes nothing.
use Rattle.std.proofs.Common.{◌≡◌, ℕ, ◌+◌, ◌≤◌, List, [], ◌∷◌, ◌++◌, Option, arith, length, take, drop, ap, ◌∙◌, le_refl, drop_at, length-take, length-take-le, take_all}
use Rattle.std.proofs.lemmas.Slice.{take-put_mid_below}
use Rattle.std.specs.Int.{from_le_bytes, w32}
use Rattle.std.specs.Io.KnownBytes.{Consumes}
use Rattle.std.proofs.KnownBytes.{Consumes-trans}
use borrow.Rule.Slice.PartMut.{put_mid, post_of}
use lib.Seq.{take-add, take-append-le}
use Rattle.pieces.specs.Pieces.{IsPiece}

-- n bytes more, behind those that stand there
pub take-filled : (a k n : ℕ) (xs ys : List ℕ) → a ≤ length xs → n ≤ length ys → take (a + n) (put_mid a k xs ys) ≡ take a xs ++ take n ys
take-filled a k n xs ys within fits =
    let after = post_of a k xs in
    let front : take a (put_mid a k xs ys) ≡ take a xs = take-put_mid_below a k xs ys a (le_refl a) within in
    let behind : take n (drop a (put_mid a k xs ys)) ≡ take n ys = ap (take n) (drop_at (take a xs) (ys ++ after) a (length-take-le a xs within)) ∙ take-append-le n ys after fits in
    take-add a n (put_mid a k xs ys) ∙ rw (front, behind)

-- a length in four bytes, and so many bytes of the piece as the room then begins with
pub piece-read :
    (u v w : Option (List ℕ)) (head room rest : List ℕ) (r size n : ℕ) → length head ≡ 4 → 4 ≤ r → Consumes u v (take r head) → size ≡ from_le_bytes w32 head → length room ≡ size → n ≤ length room → Consumes v w (take n room) →
    IsPiece u w (take n (room ++ rest))
piece-read u v w (a ∷ b ∷ c ∷ d ∷ []) room rest r size n l h e s m f g =
    let all : take r (a ∷ b ∷ c ∷ d ∷ []) ≡ a ∷ b ∷ c ∷ d ∷ [] = take_all r (a ∷ b ∷ c ∷ d ∷ []) h in
    let front : take n (room ++ rest) ≡ take n room = take-append-le n room rest f in
    (a, b, c, d, rw front (omega (arith, length-take n room)), rw front (Consumes-trans u v w (a ∷ b ∷ c ∷ d ∷ []) (take n room) (rw all at e) g))
piece-read u v w [] room rest r size n l h e s m f g = absurd (omega arith)
piece-read u v w (a ∷ []) room rest r size n l h e s m f g = absurd (omega arith)
piece-read u v w (a ∷ b ∷ []) room rest r size n l h e s m f g = absurd (omega arith)
piece-read u v w (a ∷ b ∷ c ∷ []) room rest r size n l h e s m f g = absurd (omega arith)
piece-read u v w (a ∷ b ∷ c ∷ d ∷ x ∷ xs) room rest r size n l h e s m f g = absurd (omega arith)
