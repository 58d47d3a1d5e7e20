-- Lists of texts, owned and lent, and texts of whole lines.
use Rattle.std.specs.Prelude.{◌≡◌, ◌⊎◌, ℕ, Bool, Vec, List, [], ◌∷◌, ◌++◌, map, if◌then◌else◌}
use Rattle.std.specs.List.{list_any}
use Rattle.std.specs.Str.{bytes_eq}
use Rattle.std.specs.Borrow.{Bor}
use Rattle.std.specs.declared.alloc.Global.{Global}

-- a text behind those before it, unless it is one of them
abbrev pub added : List (List ℕ) → List ℕ → List (List ℕ)
added texts text = if list_any (bytes_eq text) texts then texts else texts ++ text ∷ []

-- the texts that own their bytes
abbrev pub key_texts : List (Vec ℕ Global) → List (List ℕ)
key_texts keys = map (λ k. k.items) keys

-- what references lead to
abbrev pub behind : {X : Type 0} → List (Bor X) → List X
behind references = map (λ b. b.now) references

-- whether a text is one of those that are lent
abbrev pub is_among : List (Bor (List ℕ)) → List ℕ → Bool
is_among texts text = list_any (λ (b : Bor (List ℕ)). bytes_eq text b.now) texts

-- whole lines: no bytes, or bytes that end with a line feed
abbrev pub AreLines : List ℕ → Type 0
AreLines text = (text ≡ []) ⊎ ((before : List ℕ) × (text ≡ before ++ 10 ∷ []))
