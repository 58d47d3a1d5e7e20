-- The datalog of a plan is what is put of its parts.
use Rattle.std.proofs.Common.{◌≡◌, ℕ, zero, suc, ◌+◌, ◌*◌, ◌/◌, ◌%◌, ◌<◌, List, [], ◌∷◌, ◌++◌, length, map, get_or, refl, sym, ap, ◌∙◌, arith}
use Rattle.std.specs.List.{flat_map, range_with_len}
use Rattle.std.proofs.lemmas.List.FromFn.{length-map-range_with_len, get_or-map-range_with_len}
use Rattle.std.proofs.lemmas.List.Sums.{sum_by-cons}
use Rattle.plan_rows.specs.declared.row.Row.{Row}
use Rattle.plan_rows.specs.Judging.{names_at}
use Rattle.plan_parts.specs.Cut.{sites_with_dies, sites_in_part, site_at}
use Rattle.datalog.specs.DatalogText.{site_line, total_line, dies_in, totals_text}
use Rattle.datalog.proofs.CountLemmas.{dies_in-append}
use Rattle.log_parts.specs.Log.{DieLog, dies_text, bins_of, AreLogs}
use Rattle.log_parts.specs.Slices.{SlicedLog, site_texts}
use Rattle.log_parts.specs.Merged.{names_in, log_of_rank, dealt, merged_sites, merged_text, no_log, AreOfPlan}
use Rattle.log_parts.specs.Step.{die_bins}
use Rattle.log_parts.specs.Dealt.{text_of_rank, dealt_site, dealt_text, dies_of, sums_text}
use Rattle.log_parts.proofs.DealLemmas.{total, total-same, total-front, total-dealt, number_within}

-- ---- dies in bins

-- the dies of sites that are numbered
dies_in-numbered : (bin : ℕ) (f : ℕ → List DieLog) (k n : ℕ) →
    dies_in bin (bins_of (map f (range_with_len k n))) ≡ total (λ i. dies_in bin (die_bins (f (k + i)))) n
dies_in-numbered bin f k zero = refl
dies_in-numbered bin f k (suc n) =
    let weight : ℕ → ℕ = λ m. dies_in bin (die_bins (f m)) in
    let parts = dies_in-append bin (die_bins (f k)) (bins_of (map f (range_with_len (k + 1) n))) in
    let rest = dies_in-numbered bin f (k + 1) n in
    let same = total-same (λ i. weight (k + 1 + i)) (λ i. weight (k + suc i)) n
    (λ i below. ap weight (let e : k + 1 + i ≡ k + suc i = omega arith in e)) in
    let front = total-front (λ i. weight (k + i)) n in
    let first = ap weight (let e : k + 0 ≡ k = omega arith in e) in
    omega arith

-- the dies of the sites of a part
dies_in-part : (bin : ℕ) (logs : List (List DieLog)) →
    dies_in bin (bins_of logs) ≡ total (λ j. dies_in bin (die_bins (get_or logs j []))) (length logs)
dies_in-part bin [] = refl
dies_in-part bin (log ∷ logs) =
    let parts = dies_in-append bin (die_bins log) (bins_of logs) in
    let rest = dies_in-part bin logs in
    let front = total-front (λ j. dies_in bin (die_bins (get_or (log ∷ logs) j []))) (length logs) in
    omega arith

-- the dies of all parts
dies_of-parts : (bin : ℕ) (logs : List SlicedLog) →
    dies_of logs bin ≡ total (λ p. dies_in bin (get_or logs p no_log).bins) (length logs)
dies_of-parts bin [] = refl
dies_of-parts bin (log ∷ logs) =
    let one = sum_by-cons (λ (l : SlicedLog). dies_in bin l.bins) log logs in
    let rest = dies_of-parts bin logs in
    let front = total-front (λ p. dies_in bin (get_or (log ∷ logs) p no_log).bins) (length logs) in
    omega arith

-- as many logs as sites
logs_length : (names : List (List (List ℕ))) (logs : List (List DieLog)) → AreLogs names logs → length logs ≡ length names
logs_length [] [] are = refl
logs_length [] (log ∷ logs) are = absurd are
logs_length (n ∷ names) [] are = absurd are
logs_length (n ∷ names) (log ∷ logs) are = let e = logs_length names logs are.1 in omega arith

-- how many sites a part has
names_length : (parts part : ℕ) (rows : List Row) →
    length (names_in parts part rows) ≡ sites_in_part parts part (length (sites_with_dies rows))
unfolding names_in
names_length parts part rows =
    length-map-range_with_len (λ number. names_at (site_at parts part rows number) rows) 0 (sites_in_part parts part (length (sites_with_dies rows)))

-- the dies of a bin in all parts are those of the sites as they are dealt
dies_dealt : (rows : List Row) (parts : List (List (List DieLog))) (sites : List ℕ) (logs : List SlicedLog) (bin : ℕ) →
    AreOfPlan rows parts sites logs → 0 < length logs → dies_of logs bin ≡ dies_in bin (bins_of (dealt parts rows))
dies_dealt rows parts sites logs bin all some =
    let count = length logs in
    let ranks = length (sites_with_dies rows) in
    let weight : ℕ → ℕ → ℕ = λ p j. dies_in bin (die_bins (get_or (get_or parts p []) j [])) in
    dies_of-parts bin logs
    ∙ total-same (λ p. dies_in bin (get_or logs p no_log).bins) (λ p. total (weight p) (sites_in_part count p ranks)) count
    (λ p below.
    let one = all.each p below in
    ap (dies_in bin) one.bins ∙ dies_in-part bin (get_or parts p [])
    ∙ ap (total (weight p)) (logs_length (names_in count p rows) (get_or parts p []) one.are ∙ names_length count p rows))
    ∙ total-dealt weight count ranks some
    ∙ total-same (λ rank. weight (rank % count) (rank / count)) (λ i. dies_in bin (die_bins (log_of_rank parts (0 + i)))) ranks
    (λ rank below.
    ap (λ n. dies_in bin (die_bins (get_or (get_or parts (rank % n) []) (rank / n) []))) (sym all.count)
    ∙ ap (λ r. dies_in bin (die_bins (log_of_rank parts r))) (let e : rank ≡ 0 + rank = omega arith in e))
    ∙ sym (dies_in-numbered bin (log_of_rank parts) 0 ranks)

-- ---- sites

-- what stands behind the line of a site of a part
text_at : (names : List (List (List ℕ))) (logs : List (List DieLog)) (j : ℕ) → AreLogs names logs → j < length names →
    get_or (site_texts names logs) j [] ≡ dies_text (get_or names j []) (get_or logs j [])
text_at [] logs j are within = absurd (omega arith)
text_at (n ∷ names) [] j are within = absurd are
text_at (n ∷ names) (log ∷ logs) zero are within = refl
text_at (n ∷ names) (log ∷ logs) (suc j) are within = text_at names logs j are.1 (omega arith)

-- the names of the dies of the site that went to a place of a part
names_at_place : (rows : List Row) (parts rank : ℕ) → 0 < parts → rank < length (sites_with_dies rows) →
    get_or (names_in parts (rank % parts) rows) (rank / parts) [] ≡ names_at (get_or (sites_with_dies rows) rank 0) rows
unfolding names_in
names_at_place rows parts rank some below =
    get_or-map-range_with_len (λ number. names_at (site_at parts (rank % parts) rows number) rows) 0
    (sites_in_part parts (rank % parts) (length (sites_with_dies rows))) (rank / parts) (rank / parts) []
    (number_within parts rank (length (sites_with_dies rows)) some below) (omega arith)
    ∙ ap (λ r. names_at (get_or (sites_with_dies rows) r 0) rows)
    (let e : rank % parts + (rank / parts) * parts ≡ rank = omega arith in e)

-- the lines of the dies of the site of a rank, as its part has them
rank_text : (rows : List Row) (parts : List (List (List DieLog))) (sites : List ℕ) (logs : List SlicedLog) (rank : ℕ) →
    AreOfPlan rows parts sites logs → 0 < length logs → rank < length sites →
    text_of_rank logs rank ≡ dies_text (names_at (get_or sites rank 0) rows) (log_of_rank parts rank)
rank_text rows parts sites logs rank all some below =
    let count = length logs in
    let part = rank % count in
    let place = rank / count in
    let one = all.each part (omega arith) in
    let ranks : length sites ≡ length (sites_with_dies rows) = ap length all.are_sites in
    let there : rank < length (sites_with_dies rows) = omega arith in
    let inside : place < length (names_in count part rows) =
    (let n = number_within count rank (length (sites_with_dies rows)) some there in let l = names_length count part rows in omega arith) in
    ap (λ t. get_or t place []) one.texts
    ∙ text_at (names_in count part rows) (get_or parts part []) place one.are inside
    ∙ ap (λ ns. dies_text ns (get_or (get_or parts part []) place []))
    (names_at_place rows count rank some there ∙ ap (λ s. names_at (get_or s rank 0) rows) (sym all.are_sites))
    ∙ ap (λ n. dies_text (names_at (get_or sites rank 0) rows) (get_or (get_or parts (rank % n) []) (rank / n) [])) (sym all.count)

-- the sites of a plan, one by one
sites_same : (rows : List Row) (xs : List ℕ) (k : ℕ) (F : ℕ → List ℕ) (L : ℕ → List DieLog) →
    ((i : ℕ) → i < length xs → F (k + i) ≡ site_line (get_or xs i 0) ++ dies_text (names_at (get_or xs i 0) rows) (L (k + i))) →
    flat_map F (range_with_len k (length xs)) ≡ merged_sites rows xs (map L (range_with_len k (length xs)))
sites_same rows [] k F L each = refl
sites_same rows (x ∷ xs) k F L each =
    let here : k + 0 ≡ k = omega arith in
    let first : F k ≡ site_line x ++ dies_text (names_at x rows) (L k) =
    ap F (sym here) ∙ each 0 (omega arith) ∙ ap (λ m. site_line x ++ dies_text (names_at x rows) (L m)) here in
    ap (λ t. t ++ flat_map F (range_with_len (k + 1) (length xs))) first
    ∙ ap (λ t. (site_line x ++ dies_text (names_at x rows) (L k)) ++ t)
    (sites_same rows xs (k + 1) F L (λ i below.
    let next : k + 1 + i ≡ k + suc i = omega arith in
    ap F next ∙ each (suc i) (omega arith)
    ∙ ap (λ m. site_line (get_or xs i 0) ++ dies_text (names_at (get_or xs i 0) rows) (L m)) (sym next)))

-- texts that are the same, one by one
flat_same : (f g : ℕ → List ℕ) (xs : List ℕ) → ((x : ℕ) → f x ≡ g x) → flat_map f xs ≡ flat_map g xs
flat_same f g [] same = refl
flat_same f g (x ∷ xs) same = ap (λ t. t ++ flat_map f xs) (same x) ∙ ap (λ t. g x ++ t) (flat_same f g xs same)

-- what is put of the parts is the datalog of the plan
pub merged_is : (rows : List Row) (parts : List (List (List DieLog))) (sites : List ℕ) (logs : List SlicedLog) →
    AreOfPlan rows parts sites logs → 0 < length logs → dealt_text logs sites ++ sums_text logs ≡ merged_text rows parts
unfolding merged_text totals_text
merged_is rows parts sites logs all some =
    ap (λ t. t ++ sums_text logs)
    (sites_same rows sites 0 (λ rank. dealt_site logs (get_or sites rank 0) rank) (log_of_rank parts)
    (λ i below.
    let here : 0 + i ≡ i = omega arith in
    ap (λ r. dealt_site logs (get_or sites r 0) r) here
    ∙ ap (λ t. site_line (get_or sites i 0) ++ t) (rank_text rows parts sites logs i all some below)
    ∙ ap (λ m. site_line (get_or sites i 0) ++ dies_text (names_at (get_or sites i 0) rows) (log_of_rank parts m)) (sym here))
    ∙ ap (λ s. merged_sites rows s (map (log_of_rank parts) (range_with_len 0 (length s)))) all.are_sites)
    ∙ ap (λ t. merged_sites rows (sites_with_dies rows) (dealt parts rows) ++ t)
    (flat_same (λ bin. total_line bin (dies_of logs bin)) (λ bin. total_line bin (dies_in bin (bins_of (dealt parts rows)))) (range_with_len 1 99)
    (λ bin. ap (total_line bin) (dies_dealt rows parts sites logs bin all some)))
