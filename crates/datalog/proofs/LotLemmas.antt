-- The text of a site that has records.
use Rattle.std.proofs.Common.{◌≡◌, ◌==◌, ℕ, ◌+◌, ◌<◌, Bool, false, List, [], ◌∷◌, ◌++◌, length, get_or, All, refl, ap, sym, ◌∙◌, subst, arith}
use Rattle.std.proofs.lemmas.List.{get_or-map, length-map}
use Rattle.std.specs.List.{flat_map}
use Rattle.tester_types.specs.declared.record.Record.{Record}
use Rattle.tester_types.specs.Records.{SiteRecords, records_of}
use Rattle.packed_code.specs.Program.{Program}
use Rattle.lot_plan.specs.Bound.{Bound}
use Rattle.datalog.specs.DatalogText.{site_line, site_text, filed_text, record_text, numbered}
use Rattle.datalog.specs.Printable.{ArePrintable, IsPrintableAt}

-- a site with records
pub site-some : (code : Program) (plan : Bound) (number : ℕ) (entries : List Record) (empty : Bool) →
    empty ≡ (length entries == 0) → empty ≡ false →
    site_line number ++ flat_map (record_text code plan) entries ≡ site_text code plan number entries
site-some code plan number [] empty is some = cc
site-some code plan number (entry ∷ entries) empty is some = refl

-- sites as their records were filed
pub numbered-filed : (code : Program) (plan : Bound) (n : ℕ) (sites : List SiteRecords)
    → numbered (filed_text code plan) n sites ≡ numbered (site_text code plan) n (records_of sites)
numbered-filed code plan n [] = refl
numbered-filed code plan n (site ∷ sites) = ap (λ t. site_text code plan n site.records ++ t) (numbered-filed code plan (n + 1) sites)

-- what holds of the records at a place holds of those of the site that was found there
pub at_site : (P : List Record → Type 0) (sites : List SiteRecords) (i : ℕ) (site : SiteRecords) → i < length sites
    → site ≡ get_or sites i site
    → ((none : List Record) → i < length (records_of sites) → P (get_or (records_of sites) i none)) → P site.records
at_site P sites i site within is each =
    let found : get_or (records_of sites) i site.records ≡ site.records =
    get_or-map (λ (s : SiteRecords). s.records) sites i site site.records within ∙ ap (λ (s : SiteRecords). s.records) (sym is) in
    let there : i < length (records_of sites) = omega (arith, within, length-map sites (λ (s : SiteRecords). s.records)) in
    subst P found (each site.records there)

-- the records of a site, among those that can be printed
pub printable-site : (code : Program) (plan : Bound) (sites : List SiteRecords) (i : ℕ) (site : SiteRecords) → i < length sites
    → site ≡ get_or sites i site → ArePrintable code plan (records_of sites) → All (IsPrintableAt code plan i) site.records
printable-site code plan sites i site within is printable =
    at_site (All (IsPrintableAt code plan i)) sites i site within is (λ none there. printable.each i none there)
