-- The totals of a lot are sums over its sites.
use Rattle.std.proofs.Common.{◌≡◌, ℕ, List, [], ◌∷◌, ◌++◌, map, refl, ap, ◌∙◌, arith}
use Rattle.std.specs.Prelude.{sum_by}
use Rattle.std.specs.List.{flat_map, range_with_len}
use Rattle.std.proofs.lemmas.List.Sums.{sum_by-cons}
use Rattle.tester_types.specs.declared.record.Record.{Record}
use Rattle.packed_code.specs.Program.{Program}
use Rattle.lot_plan.specs.Bound.{Bound}
use Rattle.datalog.proofs.CountLemmas.{dies_in-append}
use Rattle.datalog.specs.DatalogText.{die_bin, site_text, numbered, bins_of, dies_in, total_line, totals_text, lot_text}

-- how many dies of a site a bin has
abbrev dies_at : Bound → ℕ → List Record → ℕ
dies_at plan bin entries = dies_in bin (map (die_bin plan) entries)

-- a bin's dies are those of the sites
dies_are_sums : (plan : Bound) (bin : ℕ) (sites : List (List Record)) → dies_in bin (bins_of plan sites) ≡ sum_by (dies_at plan bin) sites
dies_are_sums plan bin [] = refl
dies_are_sums plan bin (entries ∷ sites) =
    omega (
      arith,
      dies_in-append bin (map (die_bin plan) entries) (bins_of plan sites),
      dies_are_sums plan bin sites,
      sum_by-cons (dies_at plan bin) entries sites,
    )

lines_are : (plan : Bound) (sites : List (List Record)) (bins : List ℕ)
    → flat_map (λ bin. total_line bin (dies_in bin (bins_of plan sites))) bins
    ≡ flat_map (λ bin. total_line bin (sum_by (dies_at plan bin) sites)) bins
lines_are plan sites [] = refl
lines_are plan sites (bin ∷ bins) =
    ap (λ (n : ℕ). total_line bin n ++ flat_map (λ bin. total_line bin (dies_in bin (bins_of plan sites))) bins) (dies_are_sums plan bin sites)
    ∙ ap (λ (l : List ℕ). total_line bin (sum_by (dies_at plan bin) sites) ++ l) (lines_are plan sites bins)

pub text_is_sums : (code : Program) (plan : Bound) (sites : List (List Record)) → lot_text code plan sites
    ≡ numbered (site_text code plan) 0 sites
    ++ flat_map (λ bin. total_line bin (sum_by (λ entries. dies_in bin (map (die_bin plan) entries)) sites)) (range_with_len 1 99)
unfolding totals_text
text_is_sums code plan sites = ap (λ (l : List ℕ). numbered (site_text code plan) 0 sites ++ l) (lines_are plan sites (range_with_len 1 99))
