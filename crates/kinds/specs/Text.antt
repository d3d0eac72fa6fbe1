use Rattle.std.specs.Prelude.{ℕ, ◌-◌, List, take, drop}

-- The bytes of a text from `start` up to `end`: what `&text[start..end]` is in the Rust. Past the end of the text there is nothing.
abbrev pub part : List ℕ → ℕ → ℕ → List ℕ
part text start end = take (end - start) (drop start text)
