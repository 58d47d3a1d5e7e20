-- A second pass leaves the state as the first one did.
use Rattle.std.proofs.Common.{◌≡◌, ℕ, ◌<◌, List, Option, None, length, get_or, sym, ap, subst, ◌∙◌}
use Rattle.std.proofs.lemmas.List.{ext_get_or}
use Rattle.stil_ast.specs.Meaning.State.{State}
use Rattle.stil_ast.specs.Meaning.Flat.{Flat, flat_run}
use Rattle.cycle_comp.proofs.EffectLemmas.{changed, change_of, changed-again, tabled, table_of, tabled-again, run-length, run-at, run-table}

same_state : (a b : State) → a.table ≡ b.table → a.characters ≡ b.characters → a ≡ b
same_state a b e f =
    ap (λ (t : Option ℕ). record { table = t; characters = a.characters }) e
    ∙ ap (λ (characters : List (Option ℕ)). record { table = b.table; characters = characters }) f

pub settles : (f : Flat) (base s : State) → (flat_run f base (flat_run f base s).here).here ≡ (flat_run f base s).here
settles f base s =
    let once = (flat_run f base s).here in
    let twice = (flat_run f base once).here in
    same_state twice once
    (run-table f base once
    ∙ (ap (tabled (table_of f)) (run-table f base s) ∙ (tabled-again (table_of f) s.table ∙ sym (run-table f base s))))
    (ext_get_or None twice.characters once.characters (run-length f base once)
    (λ x within.
    let first : x < length once.characters = subst (λ (k : ℕ). x < k) (run-length f base once) within in
    let before : x < length s.characters = subst (λ (k : ℕ). x < k) (run-length f base s) first in
    let h = get_or base.characters x None in
    run-at f x base once first
    ∙ (ap (changed (change_of x f) h) (run-at f x base s before)
    ∙ (changed-again (change_of x f) h (get_or s.characters x None) ∙ sym (run-at f x base s before)))))
