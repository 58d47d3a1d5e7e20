-- Where names stand in a table, and the signals there.
use Rattle.std.proofs.Common.{◌≡◌, ℕ, ◌+◌, ◌-◌, ◌<◌, true, false, cond, not, ◌||◌, List, [], ◌∷◌, length, get_or, Option, Some, None, refl, sym, ap, ◌∙◌, subst, arith, inl, inr}
use Rattle.std.specs.Prelude.{is_some, IfSome, Ok}
use Rattle.std.specs.List.{list_any}
use Rattle.std.specs.Cmp.Lexicographic.{bytes_decides}
use Rattle.std.proofs.lemmas.Bool.{cases_Bool, lt-ltb, le-ltb}
use Rattle.std.proofs.lemmas.List.Folds.{list_all_at}
use Rattle.std.proofs.lemmas.List.Quantifiers.{position-Some}
use Rattle.stil_ast.specs.Data.Texts.{same}
use Rattle.stil_ast.specs.Meaning.Members.{is_based_on, reference_kind, members}
use Rattle.stil_ast.specs.Meaning.Signals.{Names}
use Rattle.stil_ast.specs.declared.fault.StilKind.TheVariants.{UnknownName}
use Rattle.signal_groups.specs.Table.{Table, IsSound, table_of}
use Rattle.signal_groups.specs.Lookup.{number_in, are_apart, place_from, place_in, signals_at, plain_in, kind_in, signals_in, plain_ref, Resolves}
use Rattle.signal_groups.proofs.LookupLemmas.{number_in-within}
use Rattle.signal_groups.proofs.ResolveLemmas.{resolves}

-- what stands at the place of a name
place_resolves : (table : Table) (name : List ℕ) (p : ℕ) → place_in table name ≡ Some p
    → Resolves (kind_in table (plain_ref name)) (signals_in table (plain_ref name)) (Ok (signals_at table p))
place_resolves table name p e = by_numbers (number_in table.texts name) (number_in table.groups name) refl e
  where
    by_numbers : (signal group : Option ℕ) → number_in table.texts name ≡ signal
        → place_from (length table.texts) signal group ≡ Some p
        → (cond (is_some signal || is_some group || list_any (is_based_on name) table.bases) None (Some UnknownName) ≡ None)
        × (signals_at table p ≡ plain_in table name signal group)
    by_numbers (Some s) group is e =
        let place : s ≡ p = cc in (
          refl,
          subst (λ p. signals_at table p ≡ s ∷ []) place
              (ap (λ b. cond b (s ∷ []) (get_or table.members (s - length table.texts) []))
              (lt-ltb s (length table.texts) (number_in-within table.texts name s is))),
        )
    by_numbers None (Some g) is e =
        let count = length table.texts in
        let place : count + g ≡ p = cc in (
          refl,
          subst (λ p. signals_at table p ≡ get_or table.members g []) place
              (ap (λ b. cond b ((count + g) ∷ []) (get_or table.members (count + g - count) [])) (le-ltb (count + g) count (omega arith))
              ∙ ap (λ n. get_or table.members n []) (omega arith)),
        )
    by_numbers None None is e = cc

-- the same, as the names say
pub place_named : (names : Names) (table : Table) (name : List ℕ) (place : Option ℕ) → table ≡ table_of names
    → place ≡ place_in table name
    → IfSome place (λ p. Resolves (reference_kind names (plain_ref name)) (members names (plain_ref name)) (Ok (signals_at table p)))
place_named names table name None e is = tt
place_named names table name (Some p) e is =
    resolves names table (plain_ref name) (Ok (signals_at table p)) e (place_resolves table name p (sym is))

-- a place is one of those that there are
pub place-within : (table : Table) (name : List ℕ) (place : Option ℕ) → IsSound table → place ≡ place_in table name
    → IfSome place (λ p. p < length table.texts + length table.members)
place-within table name place sound is =
    subst (λ (o : Option ℕ). IfSome o (λ p. p < length table.texts + length table.members)) (sym is)
    (by_numbers (number_in table.texts name) (number_in table.groups name) refl refl)
  where
    by_numbers : (signal group : Option ℕ) → number_in table.texts name ≡ signal → number_in table.groups name ≡ group
        → IfSome (place_from (length table.texts) signal group) (λ p. p < length table.texts + length table.members)
    by_numbers (Some s) group e f = omega (arith, number_in-within table.texts name s e)
    by_numbers None (Some g) e f = omega (arith, number_in-within table.groups name g f, sound.each_group)
    by_numbers None None e f = tt

-- none of the groups that are apart has the name of a signal
none_at : (signals groups : List (List ℕ)) (g : ℕ) → are_apart signals groups ≡ true → g < length groups
    → is_some (number_in signals (get_or groups g [])) ≡ false
none_at signals groups g apart few =
    elim (cases_Bool (is_some (number_in signals (get_or groups g [])))) [
      | inl e ↦
          let some = list_all_at (λ n. not (is_some (number_in signals n))) groups g [] few (ap not e) in
          cc
      | inr e ↦ e
    ]

-- a name that stands among the groups has no signal, where they are apart
pub place-group : (table : Table) (name : List ℕ) (g : ℕ) → are_apart table.texts table.groups ≡ true
    → number_in table.groups name ≡ Some g → place_in table name ≡ Some (length table.texts + g)
place-group table name g apart e =
    let at = position-Some (λ t. same t name) table.groups g [] e in
    let is : get_or table.groups g [] ≡ name = (bytes_decides (get_or table.groups g []) name).0 at.1 in
    let alone = none_at table.texts table.groups g apart at.0 in
    by_signal (number_in table.texts name) (ap (λ (n : List ℕ). is_some (number_in table.texts n)) (sym is) ∙ alone)
  where
    by_signal : (o : Option ℕ) → is_some o ≡ false
        → place_from (length table.texts) o (number_in table.groups name) ≡ Some (length table.texts + g)
    by_signal None f = ap (place_from (length table.texts) None) e
    by_signal (Some s) f = cc
