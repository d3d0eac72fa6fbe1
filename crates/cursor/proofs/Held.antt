-- What a reader owns, and what its slice and its place own, for proofs by hand of functions over it, which Rattle makes by itself today: all at one
-- lifetime, κ. A `&[u32]` and a reader are Copy: what they own is had twice, and one copy is kept for the exit.
-- Assumes nothing.
use Rattle.std.proofs.Common.{◌≡◌, ℕ, ◌^◌, ◌<◌, List, [], ◌∷◌, length, refl, w32, w64, Bor}
use seplogic.Ra.Ura.{Ura}
use mir.Syntax.{named, erased}
use mir.Val.{Val, vint}
use base.Logic.{ent, sep, emp}
use base.Fml.{Lft, Share, Fml, ftrue, fsep, flft}
use types.Logic.{Logic, sem}
use types.Kit.{‵, ◌⊛◌, given, ⋆, ◌$◌, ◌∵◌, !, qed, by, move, drop, use1, split, join, learn, fsplit, fjoin, frame, done}
use denote.RattleType.{RattleType, owns}
use denote.Laws.{Is}
use denote.Plain.{uint_Makes, uint_row_laws}
use denote.Builtin.{u32, usize}
use denote.Ref.{NamedLft}
use denote.Slice.{slice_val, ShrSlice, shr_slice_copy}
use denote.Steps.{nothing, owned}
use denote.Struct.Declared.{Declared}
use denote.Struct.Laws as LL
use denote.Struct.Rest.{all_own, own_open, own_shut}
use denote.Struct.Values.{Values}
use Rattle.cursor.specs.declared.reader.Reader.{Reader}
use Rattle.cursor.specs.contracts.reader.Reader as T
use Rattle.cursor.proofs.reader.Reader.TheLaws as T'

-- the lifetime as a signature has it, and as a local of a body has it
abbrev pub named-0 : Lft → NamedLft
named-0 κ = record { mir = named 0; lft = κ }

abbrev pub in_body : Lft → NamedLft
in_body κ = record { mir = erased; lft = κ }

abbrev pub reader : Lft → RattleType
reader κ = T.the_row (named-0 κ)

abbrev pub slice : Lft → RattleType
slice κ = ShrSlice (named 0) κ u32

-- the machine value of a slice
abbrev pub lent : Bor (List ℕ) → Val
lent t = slice_val t.ref_ptr (length t.now)

-- what a slice owns, a slice and a place, and a reader
abbrev pub Slice : Lft → Bor (List ℕ) → Fml
Slice κ t = (slice κ).own_val t (lent t ∷ [])

abbrev pub Parts : Lft → Bor (List ℕ) → ℕ → Fml
Parts κ t n = owns (slice κ ∷ usize ∷ []) (t, (n, tt)) (lent t ∷ [], (vint w64 n ∷ [], tt))

abbrev pub Whole : Lft → Reader → Fml
Whole κ d = owns (reader κ ∷ []) (d, tt) (T'.lowered d ∷ [], tt)

module _ {M : Type 1} {𝓤 : Ura M} (𝓛 : Logic 𝓤) (κ : Lft) where
  -- what a function is passed that asks nothing
  pub asks : (q : Share) (P : Fml) → ent 𝓤 (⋆ 𝓛 ((‵ (flft κ q) ⊛ ‵ ftrue) ∷ ‵ P ∷ [])) (sep 𝓤 (⋆ 𝓛 ((‵ (flft κ q) ⊛ ‵ ftrue) ∷ ‵ P ∷ [])) (emp 𝓤))
  asks q P = qed 𝓛 ((‵ (flft κ q) ⊛ ‵ ftrue) ∷ ‵ P ∷ []) ∵ join ! $ frame ! $ done !

  -- a reader at the machine value u, as a function's only parameter
  pub hands : (q : Share) (d : Reader) (u : Val) → ent 𝓤 (⋆ 𝓛 (‵ ((reader κ).own_val d (u ∷ [])) ∷ (‵ (flft κ q) ⊛ ‵ ftrue) ∷ []))
      (sep 𝓤 (⋆ 𝓛 ((‵ (flft κ q) ⊛ ‵ ftrue) ∷ ‵ (owns (reader κ ∷ []) (d, tt) (u ∷ [], tt)) ∷ [])) (emp 𝓤))
  hands q d u = qed 𝓛 (‵ ((reader κ).own_val d (u ∷ [])) ∷ (‵ (flft κ q) ⊛ ‵ ftrue) ∷ []) ∵ nothing ! $ move ! (1 ∷ 0 ∷ []) $ fjoin ! $ move ! (1 ∷ 0 ∷ []) $ join ! $ frame ! $ done !

  module _ (t : Bor (List ℕ)) where
    -- of a function's parameters, the first of which is a slice: a slice and a place, and the parameters kept
    pub lends : (P : Fml) (n : ℕ) → n < 2 ^ 64 → ent 𝓤 (sem 𝓛 (fsep (Slice κ t) P)) (sep 𝓤 (sem 𝓛 (Parts κ t n)) (sem 𝓛 (fsep (Slice κ t) P)))
    lends P n fits =
        qed 𝓛 (‵ (fsep (Slice κ t) P) ∷ []) ∵ fsplit ! $ use1 𝓛 (‵ (Slice κ t) ⊛ ‵ (Slice κ t)) ((shr_slice_copy 𝓛 (named 0) κ u32 (uint_row_laws w32)).twice t (lent t ∷ [])) $ split ! $
        nothing ! $ owned ! usize (Is usize) (uint_Makes 𝓛 w64) n _ (refl, fits) $ fjoin ! $ move ! (1 ∷ 0 ∷ []) $ fjoin ! $ frame ! $ fjoin ! $ done !

  module _ (d : Reader) where
    abbrev D : Declared
    D = T.the_type (named-0 κ)

    abbrev L : LL.Laws D
    L = T'.the_laws (named-0 κ)

    abbrev vd : Values D.parts
    vd = (d.tokens, (d.at, tt))

    abbrev Own : Fml
    Own = (reader κ).own_val d (T'.lowered d ∷ [])

    -- of a slice and a place a reader
    pub shut : ent 𝓤 (sem 𝓛 (Parts κ d.tokens d.at)) (sem 𝓛 Own)
    shut = qed 𝓛 (‵ (Parts κ d.tokens d.at) ∷ []) ∵ by ! (own_shut 𝓛 D L vd)

    -- of a reader its slice and its place, and the reader kept
    pub apart : ent 𝓤 (sem 𝓛 (Whole κ d)) (sep 𝓤 (sem 𝓛 (Parts κ d.tokens d.at)) (sem 𝓛 (Whole κ d)))
    apart =
        qed 𝓛 (‵ (Whole κ d) ∷ []) ∵ fsplit ! $ use1 𝓛 (‵ Own ⊛ ‵ Own) ((LL.copy D (T'.the_copy (named-0 κ)) 𝓛).twice d (T'.lowered d ∷ [])) $ split ! $
        use1 𝓛 (given (T'.lowered d ∷ [] ≡ T'.lowered d ∷ []) (‵ (all_own D.parts L vd))) (own_open 𝓛 D L vd (T'.lowered d)) $ learn ! (λ _. frame ! $ fjoin ! $ done !)

  -- of a reader one at another place, and the reader kept
  pub placed : (d : Reader) (n : ℕ) → n < 2 ^ 64 → ent 𝓤 (sem 𝓛 (Whole κ d)) (sep 𝓤 (sem 𝓛 (Whole κ d)) (sem 𝓛 (Own (record { tokens = d.tokens; at = n }))))
  placed d n fits =
      qed 𝓛 (‵ (Whole κ d) ∷ []) ∵ use1 𝓛 (‵ (Parts κ d.tokens d.at) ⊛ ‵ (Whole κ d)) (apart d) $ split ! $ move ! (1 ∷ []) $ frame ! $ fsplit ! $ move ! (1 ∷ []) $ drop ! $
      nothing ! $ owned ! usize (Is usize) (uint_Makes 𝓛 w64) n _ (refl, fits) $ fjoin ! $ move ! (1 ∷ 0 ∷ []) $ fjoin ! $ by ! (shut (record { tokens = d.tokens; at = n }))
