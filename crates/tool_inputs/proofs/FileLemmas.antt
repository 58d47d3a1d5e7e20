-- A command whose file is there and whose text is accepted is done, where no count rises: `completes`.
use Rattle.std.proofs.Common.{◌≡◌, ℕ, ◌≤◌, List, [], length, unwrap_or, Option, Some, None, sym, ap, ◌∙◌, arith, inl, inr}
use Rattle.tester_types.specs.Outside.{HasRisen, Files, TellsFile}
use Rattle.tool_inputs.specs.Endings.{limit, LoadFailed, IsTooLong, IsThere}

-- ---- the file is the one that is there

pub same_bytes : (told : Option Files) (file bytes there : List ℕ) → TellsFile told file (λ found. found ≡ Some bytes)
    → IsThere told file there → bytes ≡ there
same_bytes None file bytes there are is = absurd is
same_bytes (Some files) file bytes there are is =
    ap (λ (o : Option (List ℕ)). unwrap_or o []) (sym are ∙ is)

pub not_lacking : (told : Option Files) (before now : ℕ) (file there : List ℕ) → IsThere told file there → (HasRisen before now → ⊥)
    → LoadFailed told before now file → ⊥
not_lacking told before now file there is steady (inl risen) = steady risen
not_lacking None before now file there is steady (inr lacks) = is
not_lacking (Some files) before now file there is steady (inr lacks) = let wrong = sym lacks ∙ is in cc

pub not_too_long : (told : Option Files) (file there : List ℕ) → IsThere told file there → length there ≤ limit
    → TellsFile told file IsTooLong → ⊥
not_too_long None file there is fits long = is
not_too_long (Some files) file there is fits long =
    let same : there ≡ long.bytes = ap (λ (o : Option (List ℕ)). unwrap_or o []) (sym is ∙ long.is_there) in
    omega (arith, ap length same, fits, long.more)
