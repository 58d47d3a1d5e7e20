-- What was read of the sites and the totals, and where reading stopped.
use Rattle.std.proofs.Common.{◌≡◌, ℕ, zero, suc, ◌+◌, ◌-◌, ◌<◌, ◌≤◌, List, [], ◌∷◌, ◌++◌, length, take, drop, get_or, Bor, Vec, codes, false, ◌⊎◌, inl, inr, refl, sym, ap, subst, ◌∙◌, arith, append_assoc, length-append}
use Rattle.std.specs.declared.alloc.Global.{Global}
use Rattle.std.specs.Prelude.{decimal, ◌==◌}
use Rattle.std.proofs.lemmas.Bool.{false≢true}
use Rattle.std.proofs.lemmas.List.{append-nil, map_more, take_at}
use Rattle.text_bytes.specs.Texts.{AreLines}
use Rattle.text_bytes.proofs.TextLemmas.{lines_behind}
use Rattle.datalog.specs.DatalogText.{site_line, total_line, dies_in, totals_text}
use Rattle.part_lines.specs.Lines.{ended, lines_in}
use Rattle.part_lines.specs.LineFault.{IsLineFault}
use Rattle.part_lines.specs.Reading.{Reading, IsNext, GoesOn, HasRead, FaultFrom}
use Rattle.part_lines.specs.declared.fault.LineFault.{LineFault}
use Rattle.part_lines.specs.declared.fault.LineFault.TheVariants.{NoMemory, Line}
use Rattle.part_lines.proofs.LineLemmas.{lines_more, no_lines}
use Rattle.part_lines.proofs.FaultLemmas.{goes_on_more, one_fault, no_fault_where_whole}
use Rattle.part_lines.proofs.HasReadLemmas.{read_none, read_more, read_as, fault_from_behind, fault_here}
use Rattle.log_parts.specs.Log.{DieLog, IsLogOf, dies_text, sites_text, bins_of, AreDieLogs, AreLogs, log_text}
use Rattle.log_parts.specs.Slices.{lent, lent_sites, site_texts, IsSliced, SlicedLog}
use Rattle.log_parts.specs.Step.{die_bins, IsRest, IsText, site_words, total_words, totals_from, AreRead, AreOneLine, AreOneLineEach, SiteIsRead, SitesAreRead, IsFaultOf}
use Rattle.log_parts.proofs.WordLemmas.{one_total}
use Rattle.log_parts.proofs.SiteLemmas.{goes_into_site, goes_sites, goes_log, goes_to_totals, site_fault, site_text, lines_sites}
use Rattle.log_parts.proofs.TotalLemmas.{goes_text, text_fault, totals_more, totals_all, lines_totals, lines_all_totals, total_there}

-- ---- a site

-- the line of the site isn't there
pub site_stops : (number : ℕ) (names : List (List ℕ)) (at : Reading) (e : LineFault) → e ≡ Line (lines_in at.front + 1) →
    (IsNext at.rest (site_words number) → ⊥) → (later : List (List (List ℕ))) (before : List ℕ) →
    FaultFrom (IsRest [] number (names ∷ later) before) at e
site_stops number names at e is none later before =
    fault_here (IsRest [] number (names ∷ later) before) at e is (site_fault number names later before at.rest none)

-- reading stopped in a die of the site
pub site_dies_stop : (number : ℕ) (names : List (List ℕ)) (a b : Reading) (e : LineFault) → HasRead a b (site_line number) →
    ((n : ℕ) (later : List (List (List ℕ))) (before : List ℕ) → FaultFrom (IsRest names n later before) b e) →
    (later : List (List (List ℕ))) (before : List ℕ) → FaultFrom (IsRest [] number (names ∷ later) before) a e
site_dies_stop number names a b e read stops later before =
    fault_from_behind (IsRest [] number (names ∷ later) before) (IsRest names (number + 1) later before) a b (site_line number) e
    (lines_more [] (site_words number)) read (goes_into_site number names later before) (stops (number + 1) later before)

-- a site was read
pub site_read : (number : ℕ) (names : List (List ℕ)) (a b c : Reading) (olds news left : List ℕ) (len : ℕ) → HasRead a b (site_line number) →
    AreRead names b c olds news → left ≡ b.rest → len ≡ length c.front - length b.front →
    SiteIsRead number names a c olds news (take len left)
site_read number names a b c olds news left len first dies is size = record {
  logs = dies.logs;
  are = dies.are;
  read = read_more a b c (site_line number) (dies_text names dies.logs) first dies.read;
  bins = dies.bins;
  is = ap (take len) (is ∙ dies.read.rest) ∙ take_at (dies_text names dies.logs) c.rest len
      (let whole : length c.front ≡ length (b.front ++ dies_text names dies.logs) = ap length dies.read.front in
      let sum = length-append b.front (dies_text names dies.logs) in omega arith);
}

-- ---- sites

-- the lines of one site more
sites_text-more : (number : ℕ) (names : List (List (List ℕ))) (logs : List (List DieLog)) (site : List (List ℕ)) (log : List DieLog) →
    AreLogs names logs →
    sites_text number (names ++ site ∷ []) (logs ++ log ∷ []) ≡ sites_text number names logs ++ site_text (number + length names) site log
sites_text-more number [] [] site log are =
    append-nil (site_text number site log) ∙ ap (λ n. site_text n site log) (let e : number ≡ number + 0 = omega arith in e)
sites_text-more number [] (l ∷ logs) site log are = absurd are
sites_text-more number (n ∷ names) [] site log are = absurd are
sites_text-more number (n ∷ names) (l ∷ logs) site log are =
    ap (λ t. site_text number n l ++ t) (sites_text-more (number + 1) names logs site log are.1)
    ∙ ap (λ k. site_text number n l ++ (sites_text (number + 1) names logs ++ site_text k site log))
    (let e : number + 1 + length names ≡ number + length (n ∷ names) = omega arith in e)
    ∙ sym (append_assoc (site_text number n l) (sites_text (number + 1) names logs) (site_text (number + length (n ∷ names)) site log))

-- the logs of one site more
are_logs_more : (names : List (List (List ℕ))) (logs : List (List DieLog)) (site : List (List ℕ)) (log : List DieLog) →
    AreLogs names logs → AreDieLogs site log → AreLogs (names ++ site ∷ []) (logs ++ log ∷ [])
are_logs_more [] [] site log are one = (one, tt)
are_logs_more [] (l ∷ logs) site log are one = absurd are
are_logs_more (n ∷ names) [] site log are one = absurd are
are_logs_more (n ∷ names) (l ∷ logs) site log are one = (are.0, are_logs_more names logs site log are.1 one)

-- what stands behind the line of one site more
site_texts-more : (names : List (List (List ℕ))) (logs : List (List DieLog)) (site : List (List ℕ)) (log : List DieLog) →
    AreLogs names logs → site_texts (names ++ site ∷ []) (logs ++ log ∷ []) ≡ site_texts names logs ++ dies_text site log ∷ []
site_texts-more [] [] site log are = refl
site_texts-more [] (l ∷ logs) site log are = absurd are
site_texts-more (n ∷ names) [] site log are = absurd are
site_texts-more (n ∷ names) (l ∷ logs) site log are = ap (λ t. dies_text n l ∷ t) (site_texts-more names logs site log are.1)

-- the bins of one site more
bins_of-more : (logs : List (List DieLog)) (log : List DieLog) → bins_of (logs ++ log ∷ []) ≡ bins_of logs ++ die_bins log
bins_of-more [] log = append-nil (die_bins log)
bins_of-more (l ∷ logs) log = ap (λ t. die_bins l ++ t) (bins_of-more logs log) ∙ sym (append_assoc (die_bins l) (bins_of logs) (die_bins log))

-- no sites were read
pub no_sites_read : (at : Reading) (bins : List ℕ) → SitesAreRead [] at at bins bins []
no_sites_read at bins = record { logs = []; are = tt; read = read_none at; bins = sym (append-nil bins); texts_are = refl }

-- one more
one_more_site : (number : ℕ) (names : List (List (List ℕ))) (site : List (List ℕ)) (a b c : Reading) (olds mids news : List ℕ)
    (texts : List (List ℕ)) (text : List ℕ) → number ≡ length names → SitesAreRead names a b olds mids texts →
    SiteIsRead number site b c mids news text → SitesAreRead (names ++ site ∷ []) a c olds news (texts ++ text ∷ [])
one_more_site number names site a b c olds mids news texts text is so_far one = record {
  logs = so_far.logs ++ one.logs ∷ [];
  are = are_logs_more names so_far.logs site one.logs so_far.are one.are;
  read = read_as a c (sites_text 0 names so_far.logs ++ site_text number site one.logs) (sites_text 0 (names ++ site ∷ []) (so_far.logs ++ one.logs ∷ []))
      (ap (λ n. sites_text 0 names so_far.logs ++ site_text n site one.logs) (let e : number ≡ 0 + length names = omega arith in e)
      ∙ sym (sites_text-more 0 names so_far.logs site one.logs so_far.are))
      (read_more a b c (sites_text 0 names so_far.logs) (site_text number site one.logs) so_far.read one.read);
  bins = one.bins ∙ ap (λ t. t ++ die_bins one.logs) so_far.bins ∙ append_assoc olds (bins_of so_far.logs) (die_bins one.logs)
      ∙ ap (λ t. olds ++ t) (sym (bins_of-more so_far.logs one.logs));
  texts_are = ap (λ t. t ++ text ∷ []) so_far.texts_are ∙ ap (λ t. site_texts names so_far.logs ++ t ∷ []) one.is
      ∙ sym (site_texts-more names so_far.logs site one.logs so_far.are);
}

-- the names of a site that are lent
abbrev pub site_names : Vec (Bor (List ℕ)) Global → List (List ℕ)
site_names site = lent site.items

-- how many sites stand before one
front_size : (names : List (Vec (Bor (List ℕ)) Global)) (i : ℕ) → i < length names → length (lent_sites (take i names)) ≡ i
front_size [] i within = absurd (omega arith)
front_size (n ∷ names) zero within = refl
front_size (n ∷ names) (suc i) within = let e = front_size names i (omega arith) in omega arith

-- the site at hand was read
pub sites_more : (names : List (Vec (Bor (List ℕ)) Global)) (i : ℕ) (d : Vec (Bor (List ℕ)) Global) (a b c : Reading)
    (olds mids news : List ℕ) (texts : List (List ℕ)) (text : List ℕ) → i < length names →
    SitesAreRead (lent_sites (take i names)) a b olds mids texts → SiteIsRead i (site_names (get_or names i d)) b c mids news text →
    SitesAreRead (lent_sites (take (i + 1) names)) a c olds news (texts ++ text ∷ [])
sites_more names i d a b c olds mids news texts text within so_far one =
    subst (λ (ns : List (List (List ℕ))). SitesAreRead ns a c olds news (texts ++ text ∷ [])) (sym (map_more site_names names i d within))
    (one_more_site i (lent_sites (take i names)) (site_names (get_or names i d)) a b c olds mids news texts text
    (sym (front_size names i within)) so_far one)

-- the sites up to one, it, and those behind it
sites_cut : (names : List (Vec (Bor (List ℕ)) Global)) (i : ℕ) (d : Vec (Bor (List ℕ)) Global) → i < length names →
    lent_sites names ≡ lent_sites (take i names) ++ (site_names (get_or names i d) ∷ lent_sites (drop (suc i) names))
sites_cut [] i d within = absurd (omega arith)
sites_cut (name ∷ names) zero d within = refl
sites_cut (name ∷ names) (suc i) d within = ap (λ t. site_names name ∷ t) (sites_cut names i d (omega arith))

-- reading stopped in a site
pub sites_stop : (names : List (Vec (Bor (List ℕ)) Global)) (i : ℕ) (d : Vec (Bor (List ℕ)) Global) (a b : Reading) (olds mids : List ℕ)
    (texts : List (List ℕ)) (e : LineFault) → i < length names → SitesAreRead (lent_sites (take i names)) a b olds mids texts →
    ((later : List (List (List ℕ))) (before : List ℕ) → FaultFrom (IsRest [] i (site_names (get_or names i d) ∷ later) before) b e) →
    (before : List ℕ) → FaultFrom (IsRest [] 0 (lent_sites names) before) a e
sites_stop names i d a b olds mids texts e within so_far stops before =
    let front = lent_sites (take i names) in
    let later = lent_sites (drop (suc i) names) in
    let back = site_names (get_or names i d) ∷ later in
    let bins = before ++ bins_of so_far.logs in
    subst (λ (ns : List (List (List ℕ))). FaultFrom (IsRest [] 0 ns before) a e) (sym (sites_cut names i d within))
    (fault_from_behind (IsRest [] 0 (front ++ back) before) (IsRest [] i back bins) a b (sites_text 0 front so_far.logs) e
    (lines_sites 0 front so_far.logs) so_far.read
    (goes_sites 0 i front so_far.logs back before (let size = front_size names i within in omega arith) so_far.are)
    (stops later bins))

-- ---- totals

-- the line of a total isn't there
pub total_stops : (bin dies : ℕ) (at : Reading) (e : LineFault) → 1 ≤ dies → e ≡ Line (lines_in at.front + 1) →
    (IsNext at.rest (total_words bin dies) → ⊥) → (back : List ℕ) → FaultFrom (IsText (total_line bin dies ++ back)) at e
total_stops bin dies at e some is none back =
    subst (λ (t : List ℕ). FaultFrom (IsText (t ++ back)) at e) (sym (total_there bin dies some))
    (fault_here (IsText (ended (total_words bin dies) ++ back)) at e is (text_fault (total_words bin dies) back at.rest (one_total bin dies) none))

-- reading stopped in a total
pub totals_stop : (bins : List ℕ) (bin : ℕ) (a b : Reading) (e : LineFault) → 1 ≤ bin → bin ≤ 99 →
    HasRead a b (totals_from bins 1 (bin - 1)) →
    ((back : List ℕ) → FaultFrom (IsText (total_line bin (dies_in bin bins) ++ back)) b e) → FaultFrom (IsText (totals_text bins)) a e
totals_stop bins bin a b e some last read stops =
    let back = totals_from bins (bin + 1) (99 - bin) in
    fault_from_behind (IsText (totals_text bins)) (IsText (total_line bin (dies_in bin bins) ++ back)) a b (totals_from bins 1 (bin - 1)) e
    (lines_totals bins 1 (bin - 1)) read
    (goes_text (totals_from bins 1 (bin - 1)) (total_line bin (dies_in bin bins) ++ back) (totals_text bins) (totals_all bins bin some last))
    (stops back)

-- one more total was read
pub total_read : (bins : List ℕ) (bin : ℕ) (a b c : Reading) → 1 ≤ bin → HasRead a b (totals_from bins 1 (bin - 1)) →
    HasRead b c (total_line bin (dies_in bin bins)) → HasRead a c (totals_from bins 1 (bin + 1 - 1))
total_read bins bin a b c some first second =
    read_as a c (totals_from bins 1 (bin - 1) ++ total_line bin (dies_in bin bins)) (totals_from bins 1 (bin + 1 - 1))
    (sym (totals_more bins bin (bin + 1) some refl)) (read_more a b c (totals_from bins 1 (bin - 1)) (total_line bin (dies_in bin bins)) first second)

-- ---- the whole text

-- a fault from the first line on is that of the text
pub fault_of : (names : List (List (List ℕ))) (text : List ℕ) (at : Reading) (e : LineFault) → at.front ≡ [] → at.rest ≡ text →
    FaultFrom (IsLogOf names) at e → IsFaultOf names text e
fault_of names text at NoMemory none is fault = tt
fault_of names text at (Line line) none is fault =
    let same : line ≡ fault.number = fault.is ∙ ap (λ t. lines_in t + fault.number) none ∙ (let e : 0 + fault.number ≡ fault.number = omega arith in e) in
    subst (λ (n : ℕ). IsLineFault (IsLogOf names) text n) (sym same) (subst (λ (t : List ℕ). IsLineFault (IsLogOf names) t fault.number) is fault.fault)

-- reading stopped in the sites
pub log_sites_stop : (names : List (List (List ℕ))) (text : List ℕ) (a : Reading) (e : LineFault) → a.front ≡ [] → a.rest ≡ text →
    ((before : List ℕ) → FaultFrom (IsRest [] 0 names before) a e) → IsFaultOf names text e
log_sites_stop names text a e none is stops =
    fault_of names text a e none is
    (fault_from_behind (IsLogOf names) (IsRest [] 0 names []) a a [] e no_lines (read_none a) (goes_log names) (stops []))

-- behind the sites stand the totals
goes_past_sites : (names : List (List (List ℕ))) (logs : List (List DieLog)) → AreLogs names logs →
    GoesOn (IsLogOf names) (IsText (totals_text (bins_of logs))) (sites_text 0 names logs)
goes_past_sites names logs are =
    let W = IsLogOf names in
    let A = IsRest [] 0 names [] in
    let B = IsRest [] (length names) [] (bins_of logs) in
    let C = IsText (totals_text (bins_of logs)) in
    let into : GoesOn A B (sites_text 0 names logs) =
    subst (λ (ns : List (List (List ℕ))). GoesOn (IsRest [] 0 ns []) B (sites_text 0 names logs)) (append-nil names)
    (goes_sites 0 (length names) names logs [] [] (let e : length names ≡ 0 + length names = omega arith in e) are) in
    subst (λ (t : List ℕ). GoesOn W C t) (append-nil (sites_text 0 names logs))
    (goes_on_more W B C (sites_text 0 names logs) [] (goes_on_more W A B [] (sites_text 0 names logs) (goes_log names) into)
    (goes_to_totals (length names) (bins_of logs)))

-- reading stopped in the totals
pub log_totals_stop : (names : List (List (List ℕ))) (text bins : List ℕ) (texts : List (List ℕ)) (a b : Reading) (e : LineFault) →
    a.front ≡ [] → a.rest ≡ text → SitesAreRead names a b [] bins texts → FaultFrom (IsText (totals_text bins)) b e → IsFaultOf names text e
log_totals_stop names text bins texts a b e none is read stops =
    fault_of names text a e none is
    (fault_from_behind (IsLogOf names) (IsText (totals_text (bins_of read.logs))) a b (sites_text 0 names read.logs) e
    (lines_sites 0 names read.logs) read.read (goes_past_sites names read.logs read.are)
    (subst (λ (bs : List ℕ). FaultFrom (IsText (totals_text bs)) b e) read.bins stops))

-- more stands behind the totals
pub log_end_stop : (names : List (List (List ℕ))) (text bins : List ℕ) (texts : List (List ℕ)) (a b c : Reading) (e : LineFault) →
    a.front ≡ [] → a.rest ≡ text → SitesAreRead names a b [] bins texts → HasRead b c (totals_text bins) → FaultFrom (IsText []) c e →
    IsFaultOf names text e
log_end_stop names text bins texts a b c e none is read totals stops =
    log_totals_stop names text bins texts a b e none is read
    (fault_from_behind (IsText (totals_text bins)) (IsText []) b c (totals_text bins) e (lines_all_totals bins) totals
    (goes_text (totals_text bins) [] (totals_text bins) (sym (append-nil (totals_text bins)))) stops)

-- the whole text was read
pub log_read : (names : List (List (List ℕ))) (text bins : List ℕ) (texts : List (List ℕ)) (a b c : Reading) →
    a.rest ≡ text → SitesAreRead names a b [] bins texts → HasRead b c (totals_text bins) → c.rest ≡ [] →
    IsSliced names text (record { texts = texts; bins = bins })
unfolding log_text
log_read names text bins texts a b c is read totals none = record {
  logs = read.logs;
  is_log = record {
    are = read.are;
    is = sym is ∙ read.read.rest
        ∙ ap (λ t. sites_text 0 names read.logs ++ t)
        (totals.rest ∙ ap (λ t. totals_text bins ++ t) none ∙ append-nil (totals_text bins) ∙ ap totals_text read.bins);
  };
  texts = read.texts_are;
  bins = read.bins;
}

-- what the datalog is, is whole lines
pub log_is_lines : (names : List (List (List ℕ))) (text : List ℕ) → IsLogOf names text → AreLines text
unfolding log_text
log_is_lines names text (logs, is_log) =
    subst AreLines (sym is_log.is)
    (lines_behind (sites_text 0 names logs) (totals_text (bins_of logs)) (lines_sites 0 names logs) (lines_all_totals (bins_of logs)))

-- ---- what calls ask and give

-- the names of each site are one line each
pub one_line_each_at : (names : List (Vec (Bor (List ℕ)) Global)) (i : ℕ) (d : Vec (Bor (List ℕ)) Global) → i < length names →
    AreOneLineEach (lent_sites names) → AreOneLine (site_names (get_or names i d))
one_line_each_at [] i d within are = absurd (omega arith)
one_line_each_at (n ∷ names) zero d within are = are.0
one_line_each_at (n ∷ names) (suc i) d within are = one_line_each_at names i d (omega arith) are.1

-- one text more that is lent
pub lent_more : (texts : List (Bor (List ℕ))) (text : Bor (List ℕ)) → lent (texts ++ text ∷ []) ≡ lent texts ++ text.now ∷ []
lent_more [] text = refl
lent_more (t ∷ texts) text = ap (λ ts. t.now ∷ ts) (lent_more texts text)

-- what is said of the words of a total
pub total_only : (P : List ℕ → Type 0) (bin b dies : ℕ) → b ≡ bin →
    P (codes "total " ++ (decimal b ++ (codes " " ++ (decimal dies ++ [])))) → P (total_words bin dies)
total_only P bin b dies same h =
    subst P
    (ap (λ n. codes "total " ++ (decimal n ++ (codes " " ++ (decimal dies ++ [])))) same
    ∙ ap (λ t. codes "total " ++ (decimal bin ++ (codes " " ++ t))) (append-nil (decimal dies))
    ∙ ap (λ t. codes "total " ++ t) (sym (append_assoc (decimal bin) (codes " ") (decimal dies)))
    ∙ sym (append_assoc (codes "total ") (decimal bin ++ codes " ") (decimal dies))
    ∙ ap (λ t. t ++ decimal dies) (sym (append_assoc (codes "total ") (decimal bin) (codes " "))))
    h

-- what is left isn't empty
pub not_empty : (left rest : List ℕ) → false ≡ (length left == 0) → left ≡ rest → rest ≡ [] → ⊥
not_empty left rest e is none = false≢true (e ∙ ap (λ (l : List ℕ). length l == 0) (is ∙ none))

-- a datalog has no fault
pub no_fault : (names : List (List (List ℕ))) (text : List ℕ) → IsLogOf names text → (e : LineFault) → IsFaultOf names text e → e ≡ NoMemory
no_fault names text whole NoMemory fault = refl
no_fault names text whole (Line line) fault =
    absurd (no_fault_where_whole (IsLogOf names) text line (log_is_lines names text whole) whole fault)

-- the fault is the one that the text has
pub that_fault : (names : List (List (List ℕ))) (text : List ℕ) (line : ℕ) → IsLineFault (IsLogOf names) text line → (e : LineFault) →
    IsFaultOf names text e → (e ≡ NoMemory) ⊎ (e ≡ Line line)
that_fault names text line there NoMemory fault = inl refl
that_fault names text line there (Line other) fault = inr (ap Line (one_fault (IsLogOf names) text other line fault there))

-- a text with a fault isn't kept
pub none_kept : (names : List (List (List ℕ))) (text : List ℕ) (line : ℕ) → IsLineFault (IsLogOf names) text line → (log : SlicedLog) →
    IsSliced names text log → ⊥
none_kept names text line there log kept =
    let whole : IsLogOf names text = (kept.logs, kept.is_log) in
    no_fault_where_whole (IsLogOf names) text line (log_is_lines names text whole) whole there
