-- The tokens as the grammar sees them, the places between them, and what may be said of the token behind a place.
use Rattle.std.specs.Prelude.{ℕ, ◌≡◌, List, [], ◌∷◌, true, false}
use Rattle.kinds.specs.Number as kind
use Rattle.kinds.specs.Kinds.{is_trivia}
use Rattle.cursor.specs.declared.Span.{Span}

pub record Token : Type 0 where
  pub kind : ℕ
  pub start : ℕ
  pub end : ℕ

-- the tokens that the lent words spell, three words each; what is left over is no token
unfoldable pub tokens_of : List ℕ → List Token
tokens_of [] = []
tokens_of (k ∷ []) = []
tokens_of (k ∷ a ∷ []) = []
tokens_of (k ∷ a ∷ b ∷ ws) = record { kind = k; start = a; end = b } ∷ tokens_of ws

-- the tokens that are no trivia
unfoldable pub significant : List Token → List Token
significant [] = []
significant (t ∷ ts) = elim (is_trivia t.kind) as (λ _. List Token) [ true ↦ significant ts | false ↦ t ∷ significant ts ]

-- a place between tokens: the end of the last token before it, 0 before the first, and the tokens behind it
pub record Place : Type 0 where
  pub prev : ℕ
  pub rest : List Token

-- what stands first in a list: its kind, which is Eof where nothing is left, and its range, 0 to 0 there
abbrev pub kind_in : List Token → ℕ
kind_in [] = kind.Eof
kind_in (t ∷ ts) = t.kind

abbrev pub span_in : List Token → Span
span_in [] = record { start = 0; end = 0 }
span_in (t ∷ ts) = record { start = t.start; end = t.end }

-- one token further; at the end of input one stays there
abbrev pub past : ℕ → List Token → Place
past n [] = record { prev = n; rest = [] }
past n (t ∷ ts) = record { prev = t.end; rest = ts }

-- the kind and the range of the token behind a place
unfoldable pub kind_of : Place → ℕ
kind_of p = kind_in p.rest

unfoldable pub span_of : Place → Span
span_of p = span_in p.rest

-- where a value starts that begins at a place
abbrev pub start_of : Place → ℕ
start_of p = (span_of p).start

unfoldable pub after : Place → Place
after p = past p.prev p.rest

-- a terminal: a token of this kind leads from one place to the next. At the end of input Eof does, and nothing is taken
pub record Tok (k : ℕ) (p q : Place) : Type 0 where
  pub here : kind_of p ≡ k
  pub next : after p ≡ q

-- what follows: a token of this kind, one of another kind, one of none of these kinds. Nothing is taken
pub record Here (k : ℕ) (p : Place) : Type 0 where
  pub stands : kind_of p ≡ k

pub record Not (k : ℕ) (p : Place) : Type 0 where
  pub differs : kind_of p ≡ k → ⊥

pub data Free : List ℕ → Place → Type 0 where
  from-none : {p : Place} → Free [] p
  from_all : {k : ℕ} {ks : List ℕ} {p : Place} → Not k p → Free ks p → Free (k ∷ ks) p

-- the place before the first token of a sheet
unfoldable pub before : List ℕ → Place
before tokens = record { prev = 0; rest = significant (tokens_of tokens) }

-- where the first token of a sheet starts, trivia too; 0 where there is none
unfoldable pub opening : List ℕ → ℕ
opening tokens = (span_in (tokens_of tokens)).start
