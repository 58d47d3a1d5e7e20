-- Which signals are Out, one after another.
use Rattle.std.proofs.Common.{◌≡◌, ℕ, ◌+◌, Bool, List, [], ◌∷◌, ◌++◌, Some, refl, sym, ap, ◌∙◌, length, map, take}
use Rattle.std.specs.Prelude.{slice_get}
use Rattle.std.proofs.Math.Seq.{take-length}
use Rattle.std.proofs.lemmas.List.{map-append, length-map}
use Rattle.stil_ast.specs.Meaning.Resolved.{is_out, outs_of}
use Rattle.stil_ast.specs.Meaning.Signals.{Names, Signal}
use Rattle.signal_groups.specs.Table.{Table, table_of}
use Rattle.tester_types.specs.declared.signal.Direction.{Direction}
use Rattle.wave_tables.proofs.TakenLemmas.{front_found}

pub outs_more : (directions : List Direction) (outs : List Bool) (n : ℕ) (d : Direction) → slice_get directions n ≡ Some d
    → outs ≡ map is_out (take n directions) → outs ++ (is_out d ∷ []) ≡ map is_out (take (n + 1) directions)
outs_more directions outs n d at is =
    ap (λ (all : List Bool). all ++ (is_out d ∷ [])) is
    ∙ sym (map-append is_out (take n directions) (d ∷ []))
    ∙ ap (map is_out) (sym (front_found directions n d at))

map_twice : (signals : List Signal)
    → map is_out (map (λ (s : Signal). s.direction) signals) ≡ map (λ (s : Signal). is_out s.direction) signals
map_twice [] = refl
map_twice (s ∷ signals) = ap (λ (all : List Bool). is_out s.direction ∷ all) (map_twice signals)

all_of : (names : Names) (outs : List Bool) (n : ℕ) → outs ≡ map is_out (take n (table_of names).directions)
    → n ≡ length (table_of names).texts → outs ≡ outs_of names
all_of names outs n is count =
    let directions = map (λ (s : Signal). s.direction) names.signals in
    let whole : n ≡ length directions =
    count ∙ length-map names.signals (λ (s : Signal). s.text) ∙ sym (length-map names.signals (λ (s : Signal). s.direction)) in
    is
    ∙ ap (map is_out) (ap (λ (k : ℕ). take k directions) whole ∙ take-length directions)
    ∙ map_twice names.signals

pub outs_all : (names : Names) (signals : Table) (outs : List Bool) (n : ℕ) → signals ≡ table_of names
    → outs ≡ map is_out (take n signals.directions) → n ≡ length signals.texts → outs ≡ outs_of names
outs_all names signals outs n named is count =
    all_of names outs n (is ∙ ap (λ (t : Table). map is_out (take n t.directions)) named)
    (count ∙ ap (λ (t : Table). length t.texts) named)
