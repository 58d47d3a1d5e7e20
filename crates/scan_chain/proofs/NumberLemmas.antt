-- The numbers of signals by their texts, the passes of a Shift, and the texts of indices.
use Rattle.std.proofs.Common.{◌≡◌, ℕ, suc, ◌<◌, ◌+◌, ◌-◌, arith, List, [], ◌∷◌, length, map, Option, Some, refl, sym, ap, ◌∙◌}
use Rattle.std.specs.Prelude.{max, nat_le}
use Rattle.std.specs.List.{list_all}
use Rattle.std.proofs.lemmas.List.Folds.{list_all-map}
use Rattle.text_bytes.specs.Limits.{longest_name}
use Rattle.stil_ast.specs.Data.Texts.{upwards, indices, indexed, names_with}
use Rattle.stil_ast.specs.declared.name.IndexRange.{IndexRange}
use Rattle.stil_ast.specs.Meaning.Signals.{Names}
use Rattle.stil_ast.specs.Meaning.Members.{signal_of}
use Rattle.stil_ast.specs.Meaning.Chains.{scan_out_of}
use Rattle.stil_ast.specs.Meaning.Arguments.{Argument, argument_of}
use Rattle.stil_ast.specs.Meaning.Shift.{passes}
use Rattle.signal_groups.specs.Lookup.{number_in}
use Rattle.signal_groups.specs.Table.{Table, table_of}
use Rattle.signal_groups.proofs.ResolveLemmas.{number_in-signals}
use Rattle.scan_chain.specs.Held.{greatest}

-- the table of names numbers signals as they do
pub number_in-signal : (table : Table) (names : Names) (name : List ℕ) → table ≡ table_of names
    → number_in table.texts name ≡ signal_of names name
number_in-signal table names name same =
    ap (λ (t : Table). number_in t.texts name) same ∙ number_in-signals names.signals name

-- the signal of a name that is there
pub scan_out_of-name : (names : Names) (o : Option (List ℕ)) (name : List ℕ) → Some name ≡ o
    → signal_of names name ≡ scan_out_of names o
scan_out_of-name names o name e = ap (scan_out_of names) e

-- what is left the longest decides how many passes there are
pub greatest-left : (signals : List ℕ) (args : List Argument)
    → greatest (map (λ signal. length (argument_of args signal).left) signals) ≡ passes signals args
greatest-left [] args = refl
greatest-left (signal ∷ signals) args = ap (max (length (argument_of args signal).left)) (greatest-left signals args)

-- what holds of the texts of all indices holds of the texts of a name with these indices
pub all-indexed : (name other : List ℕ) (o : Option IndexRange) (range : IndexRange) → other ≡ name → o ≡ Some range
    → list_all (λ i. nat_le (length (indexed other i)) longest_name) (indices range)
    ≡ list_all (λ (text : List ℕ). nat_le (length text) longest_name) (names_with name o)
all-indexed name other o range same with_range =
    ap (λ n. list_all (λ i. nat_le (length (indexed n i)) longest_name) (indices range)) same
    ∙ sym (list_all-map (λ (text : List ℕ). nat_le (length text) longest_name) (indexed name) (indices range))
    ∙ ap (λ r. list_all (λ (text : List ℕ). nat_le (length text) longest_name) (names_with name r)) (sym with_range)

-- the numbers from one on begin with it
pub upwards-next : (n count : ℕ) → n < count → n ∷ upwards (n + 1) (count - (n + 1)) ≡ upwards n (count - n)
upwards-next n count lt =
    let up : n + 1 ≡ suc n = omega arith in
    let left : count - n ≡ suc (count - (n + 1)) = omega (arith, lt) in
    ap (λ m. n ∷ upwards m (count - (n + 1))) up ∙ ap (upwards n) (sym left)
