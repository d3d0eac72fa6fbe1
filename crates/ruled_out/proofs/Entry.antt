-- Two wrong answers to `refusal_number`, and some to `entry_check` for each of its tests. `Post` is the contract as the check reads it from the source.
-- Assumes nothing.
use Rattle.std.specs.Prelude.{Ok, Err}
use Rattle.std.proofs.Common.{◌≡◌, ℕ, List, [], ◌∷◌, length, refl, ◌∙◌}
use Rattle.kinds.specs.Number as kind
use Rattle.entry.specs.declared.Refusal.TheVariants as refusals
use Rattle.entry.specs.Utf8.{fits, first_fit, arrives}
use Rattle.entry.specs.Check.{number, bad_range, quoted, bad_quotes, token_fault, tokens_fault, entry_of}
use Rattle.entry.proofs.refusal_number.Reads as refusal-number
use Rattle.entry.proofs.entry_check.Reads as entry-check
use Rattle.ruled_out.proofs.Small.{lent, apart, itself}

pub refusal-number-of-not-utf8 : (κs : _) (x : _) → refusal-number.Post κs (refusals.NotUtf8, tt) 4 x → ⊥
refusal-number-of-not-utf8 κs x p = apart itself p refl

pub refusal-number-from-zero : (κs : _) (x : _) → refusal-number.Post κs (refusals.BadQuotes, tt) 5 x → ⊥
refusal-number-from-zero κs x p = apart itself p refl

pub entry-check-empty-range : (κs : _) (x : _) → entry-check.Post κs (lent (97 ∷ []), (lent (kind.Ident ∷ 1 ∷ 1 ∷ []), tt)) (Ok tt) x → ⊥
unfolding entry_of tokens_fault token_fault bad_range arrives first_fit fits
entry-check-empty-range κs x p = apart number p refl

pub entry-check-overlap : (κs : _) (x : _) → entry-check.Post κs (lent (97 ∷ 98 ∷ []), (lent (kind.Ident ∷ 0 ∷ 2 ∷ kind.Ident ∷ 1 ∷ 2 ∷ []), tt)) (Ok tt) x → ⊥
unfolding entry_of tokens_fault token_fault bad_range arrives first_fit fits bad_quotes
entry-check-overlap κs x p = apart number p refl

-- the first byte of a character of two
pub entry-check-cut-at-the-end : (κs : _) (x : _) → entry-check.Post κs (lent (0xC3 ∷ 0xA9 ∷ []), (lent (kind.Ident ∷ 0 ∷ 1 ∷ []), tt)) (Ok tt) x → ⊥
unfolding entry_of tokens_fault token_fault bad_range arrives first_fit fits
entry-check-cut-at-the-end κs x p = apart number p refl

-- U+D800
pub entry-check-surrogate : (κs : _) (x : _) → entry-check.Post κs (lent (0xED ∷ 0xA0 ∷ 0x80 ∷ []), (lent [], tt)) (Ok tt) x → ⊥
unfolding entry_of arrives first_fit fits
entry-check-surrogate κs x p = apart number p refl

pub entry-check-eof-taken : (κs : _) (x : _) → entry-check.Post κs (lent (97 ∷ []), (lent (kind.Eof ∷ 0 ∷ 1 ∷ []), tt)) (Ok tt) x → ⊥
unfolding entry_of tokens_fault token_fault arrives first_fit fits
entry-check-eof-taken κs x p = apart number p refl

-- one more than the last kind
pub entry-check-last-kind : (κs : _) (x : _) → entry-check.Post κs (lent (97 ∷ []), (lent (79 ∷ 0 ∷ 1 ∷ []), tt)) (Ok tt) x → ⊥
unfolding entry_of tokens_fault token_fault arrives first_fit fits
entry-check-last-kind κs x p = apart number p refl

-- a quote that is not closed
pub entry-check-quote-left-open : (κs : _) (x : _) → entry-check.Post κs (lent (0x22 ∷ 97 ∷ []), (lent (kind.Str ∷ 0 ∷ 2 ∷ []), tt)) (Ok tt) x → ⊥
unfolding entry_of tokens_fault token_fault bad_range arrives first_fit fits bad_quotes quoted
entry-check-quote-left-open κs x p = apart number p refl

-- a kind that is too large, with an empty range
pub entry-check-range-before-kind : (κs : _) (x : _) → entry-check.Post κs (lent (97 ∷ []), (lent (79 ∷ 1 ∷ 1 ∷ []), tt)) (Err refusals.BadRange) x → ⊥
unfolding entry_of tokens_fault token_fault arrives first_fit fits
entry-check-range-before-kind κs x p = apart number p refl

-- a text of one byte more than is allowed, whatever its bytes and tokens
too-long : (text tokens : List ℕ) → length text ≡ 65536 → entry_of text tokens ≡ Err refusals.TextTooLong
unfolding entry_of
too-long text tokens h = rw h

pub entry-check-text-limit : (κs : _) (x : _) (text tokens : List ℕ) → length text ≡ 65536 → entry-check.Post κs (lent text, (lent tokens, tt)) (Ok tt) x → ⊥
entry-check-text-limit κs x text tokens h p = apart number (p ∙ too-long text tokens h) refl

pub entry-check-tokens-before-text : (κs : _) (x : _) (text tokens : List ℕ) → length text ≡ 65536 → entry-check.Post κs (lent text, (lent tokens, tt)) (Err refusals.TooManyTokens) x → ⊥
entry-check-tokens-before-text κs x text tokens h p = apart number (p ∙ too-long text tokens h) refl
