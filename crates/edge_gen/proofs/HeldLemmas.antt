-- What a cache holds once the numbers of a table and a row were asked for.
use Rattle.std.proofs.Common.{◌≡◌, ℕ, ◌-◌, Bool, true, false, cond, List, [], ◌∷◌, take, is_some, IfSome, Some, None, refl, sym, ap, ◌∙◌}
use Rattle.std.proofs.lemmas.Bool.{and_parts, eqb-true, cond-true, cond-false, false≢true}
use Rattle.std.specs.Map.{lookup, lookup_entry, remove_entry}
use Rattle.std.specs.Option.{option_map_or}
use Rattle.lru.specs.LruCache.{lru_cache, promoted, put_entries}
use Rattle.tester_types.specs.declared.cycle.Moment.{Moment}
use Rattle.edge_gen.specs.Held.{Held, is_pair, HoldsOnly, asked}

-- entries, from the first on
abbrev pub Entries : Type 0
Entries = List ((ℕ × ℕ) × List Moment)

-- numbers that are those of a pair
pub same_pair : (pair other : ℕ × ℕ) → is_pair pair other ≡ true → other ≡ pair
same_pair pair other is =
    let parts = and_parts _ _ is in
    let first = eqb-true pair.0 other.0 parts.0 in
    let second = eqb-true pair.1 other.1 parts.1 in
    λ i. (sym first i, sym second i)

-- the entry of numbers that are held with these moments alone
entry_held : (pair : ℕ × ℕ) (moments : List Moment) (entries : Entries)
    → is_some (lookup (is_pair pair) entries) ≡ true
    → IfSome (lookup (is_pair pair) entries) (λ found. found ≡ moments)
    → lookup_entry (is_pair pair) entries ≡ Some (pair, moments)
entry_held pair moments [] held only = absurd (false≢true held)
entry_held pair moments (e ∷ es) held only = by (entry_held pair moments es) (is_pair pair e.0) refl held only
  where
    by : (is_some (lookup (is_pair pair) es) ≡ true → IfSome (lookup (is_pair pair) es) (λ found. found ≡ moments)
        → lookup_entry (is_pair pair) es ≡ Some (pair, moments))
        → (b : Bool) → is_pair pair e.0 ≡ b → is_some (cond b (Some e.1) (lookup (is_pair pair) es)) ≡ true
        → IfSome (cond b (Some e.1) (lookup (is_pair pair) es)) (λ found. found ≡ moments)
        → cond b (Some e) (lookup_entry (is_pair pair) es) ≡ Some (pair, moments)
    by rest true same held only = let key = same_pair pair e.0 same in λ i. Some (key i, only i)
    by rest false other held only = rest held only

-- numbers that aren't held have no entry
no_entry : (pair : ℕ × ℕ) (entries : Entries) → is_some (lookup (is_pair pair) entries) ≡ false
    → lookup_entry (is_pair pair) entries ≡ None
no_entry pair [] none = refl
no_entry pair (e ∷ es) none = by (no_entry pair es) (is_pair pair e.0) none
  where
    by : (is_some (lookup (is_pair pair) es) ≡ false → lookup_entry (is_pair pair) es ≡ None)
        → (b : Bool) → is_some (cond b (Some e.1) (lookup (is_pair pair) es)) ≡ false
        → cond b (Some e) (lookup_entry (is_pair pair) es) ≡ None
    by rest true none = absurd (false≢true (sym none))
    by rest false none = rest none

-- the numbers are held: they go first
pub promoted-asked : (held : Held) (pair : ℕ × ℕ) (moments : List Moment)
    → is_some (lookup (is_pair pair) held.entries) ≡ true → HoldsOnly held pair moments
    → lru_cache (promoted (is_pair pair) held.entries) held.cap ≡ asked held pair moments
promoted-asked held pair moments is only =
    let rest = remove_entry (is_pair pair) held.entries in
    ap (λ o. lru_cache (option_map_or (λ e. e ∷ rest) o held.entries) held.cap) (entry_held pair moments held.entries is only)
    ∙ ap (λ es. lru_cache ((pair, moments) ∷ es) held.cap) (sym (cond-true _ rest _ is))

-- they aren't held: nothing moves
pub promoted-none : (held : Held) (pair : ℕ × ℕ) → is_some (lookup (is_pair pair) held.entries) ≡ false
    → lru_cache (promoted (is_pair pair) held.entries) held.cap ≡ held
promoted-none held pair none =
    ap (λ o. lru_cache (option_map_or (λ e. e ∷ remove_entry (is_pair pair) held.entries) o held.entries) held.cap)
    (no_entry pair held.entries none)

-- and they are put first, with their moments
pub put-asked : (held : Held) (pair : ℕ × ℕ) (moments : List Moment)
    → is_some (lookup (is_pair pair) held.entries) ≡ false
    → lru_cache (put_entries is_pair held pair moments) held.cap ≡ asked held pair moments
put-asked held pair moments none =
    let front = take (held.cap - 1) held.entries in
    ap (λ o. lru_cache (option_map_or (λ e. (e.0, moments) ∷ remove_entry (is_pair pair) held.entries) o ((pair, moments) ∷ front)) held.cap)
    (no_entry pair held.entries none)
    ∙ ap (λ es. lru_cache ((pair, moments) ∷ es) held.cap) (sym (cond-false _ (remove_entry (is_pair pair) held.entries) front none))
