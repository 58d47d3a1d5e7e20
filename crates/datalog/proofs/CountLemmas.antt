-- Counting the dies of each bin in one pass.
use Rattle.std.proofs.Common.{◌≡◌, ◌==◌, ℕ, ◌+◌, ◌<◌, List, [], ◌∷◌, ◌++◌, length, take, get_or, map, sym, ap, ◌∙◌, suc, lit<, arith, cond, replicate}
use Rattle.std.proofs.lemmas.Grind.{flat_map-append}
use Rattle.std.proofs.lemmas.List.{append-nil, map_more, length-replicate, get_or-replicate}
use Rattle.std.proofs.lemmas.List.Sums.{sum_by-append}
use Rattle.std.proofs.lemmas.List.FromFn.{fill_by_all}
use Rattle.std.specs.List.{flat_map, range_with_len}
use Rattle.tester_types.specs.Records.{SiteRecords, records_of}
use Rattle.lot_plan.specs.Bound.{Bound}
use Rattle.datalog.specs.Counts.{AreCounts}
use Rattle.datalog.specs.DatalogText.{die_bin, bins_of, dies_in, numbered, total_line, totals_text}
use Rattle.datalog.proofs.NumberedLemmas.{numbered-counts}

-- dies of two lists
pub dies_in-append : (bin : ℕ) (xs ys : List ℕ) → dies_in bin (xs ++ ys) ≡ dies_in bin xs + dies_in bin ys
dies_in-append bin xs ys = sum_by-append (λ x. cond {A = ℕ} (x == bin) 1 0) xs ys

-- the bins of the dies of one more site
bins_of-more : (plan : Bound) (sites : List SiteRecords) (i : ℕ) (site : SiteRecords) → i < length sites →
    site ≡ get_or sites i site → bins_of plan (records_of (take (i + 1) sites)) ≡
    bins_of plan (records_of (take i sites)) ++ map (die_bin plan) site.records
bins_of-more plan sites i site within is =
    ap (bins_of plan) (map_more (λ (s : SiteRecords). s.records) sites i site within
    ∙ ap (λ (s : SiteRecords). records_of (take i sites) ++ s.records ∷ []) (sym is))
    ∙ flat_map-append (map (die_bin plan)) (records_of (take i sites)) (site.records ∷ [])
    ∙ ap (λ t. bins_of plan (records_of (take i sites)) ++ t) (append-nil (map (die_bin plan) site.records))

-- nothing is counted at first
pub counts_start : (n : ℕ) (counts : List ℕ) → n ≡ 100 → counts ≡ replicate n 0 → AreCounts [] counts
counts_start n counts is zeros = record {
  size = ap length zeros ∙ length-replicate n 0 ∙ is;
  none = ap (λ xs. get_or xs 0 0) zeros ∙ get_or-replicate n 0 0 0 (omega (arith, is));
  each = λ bin fits. ap (λ xs. get_or xs bin 0) zeros ∙ get_or-replicate n bin 0 0 (omega (arith, is, fits));
}

-- the lines of counts are those of the bins below so many
counted-lines : (bins counts : List ℕ) (n : ℕ) → length counts ≡ n →
    ((bin : ℕ) → bin < n → get_or counts bin 0 ≡ dies_in bin bins) →
    numbered total_line 0 counts ≡ flat_map (λ bin. total_line bin (dies_in bin bins)) (range_with_len 0 n)
counted-lines bins counts n size each =
    ap (numbered total_line 0) (fill_by_all (λ bin. dies_in bin bins) counts n 0 size each)
    ∙ numbered-counts total_line (λ bin. dies_in bin bins) 0 n

-- bin 0 has no line
without_first : (text : ℕ → List ℕ) (n : ℕ) → text 0 ≡ [] →
    flat_map text (range_with_len 0 (suc n)) ≡ flat_map text (range_with_len 1 n)
without_first text n none = ap (λ t. t ++ flat_map text (range_with_len 1 n)) none

-- the lines of counts are the totals
pub counts-are-totals : (bins counts : List ℕ) → AreCounts bins counts → numbered total_line 0 counts ≡ totals_text bins
unfolding totals_text
counts-are-totals bins counts are =
    let none : dies_in 0 bins ≡ 0 = sym (are.each 0 (lit< tt)) ∙ are.none in
    counted-lines bins counts 100 are.size are.each
    ∙ without_first (λ bin. total_line bin (dies_in bin bins)) 99 (ap (total_line 0) none)
