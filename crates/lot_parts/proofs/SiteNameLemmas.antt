-- The names of the dies of a part as they are gathered, site by site, and how many sites there are.
use Rattle.std.proofs.Common.{◌≡◌, ℕ, ◌+◌, ◌*◌, ◌<◌, ◌≤◌, List, [], ◌∷◌, ◌++◌, length, map, get_or, sym, ap, ◌∙◌, arith, Vec, cond, Bool, ◌==◌}
use Rattle.std.specs.Prelude.{filter, slice_index_or}
use Rattle.std.specs.List.{range_with_len}
use Rattle.std.specs.Borrow.{Bor}
use Rattle.std.specs.declared.alloc.Global.{Global}
use Rattle.std.proofs.Math.ListN.{take}
use Rattle.std.proofs.Math.Nat.{mul-le-mul_left}
use Rattle.std.proofs.lemmas.List.{map-append, append-nil, take_more}
use Rattle.std.proofs.lemmas.List.Elements.{filter-append}
use Rattle.plan_rows.specs.declared.row.Row.{Row}
use Rattle.plan_rows.specs.declared.row.Row.TheVariants as row
use Rattle.plan_rows.specs.declared.row.DieRow.{DieRow}
use Rattle.std.proofs.lemmas.Bool.{eq-eqb, ne_eqb}
use Rattle.text_bytes.specs.Limits.{most_plan_sites}
use Rattle.text_bytes.proofs.ListLemmas.{range-more}
use Rattle.plan_rows.specs.Rows.{as_die, one, dies_of, dies_at}
use Rattle.plan_rows.specs.Judging.{names_at}
use Rattle.plan_rows.proofs.KeptLemmas.{each_of-last}
use Rattle.plan_parts.specs.Cut.{sites_with_dies, sites_in_part, rank_at, site_at}
use Rattle.plan_parts.proofs.RankLemmas.{number_within}
use Rattle.log_parts.specs.Slices.{lent, lent_sites}
use Rattle.log_parts.specs.Merged.{names_in}

-- ---- how many sites there are

-- a number in a part is small
pub small_number : (parts part ranks number : ℕ) → part < parts → number < sites_in_part parts part ranks → ranks ≤ 64
    → number < most_plan_sites
small_number parts part ranks number less within few =
    let rank : rank_at parts part number < ranks = (number_within parts part ranks less number).0 within in
    let more : number * 1 ≤ number * parts = mul-le-mul_left number (omega (arith, less)) in
    omega (arith, rank, more, few)

-- ---- the name in a row

-- a die of the site
pub name_here : (site : ℕ) (x : Row) (d : DieRow) (name : List ℕ) → x ≡ row.Die d → d.site ≡ site → name ≡ d.name
    → names_at site (x ∷ []) ≡ name ∷ []
name_here site x d name is here name_is =
    ap (λ (r : Row). names_at site (r ∷ [])) is
    ∙ ap (λ (b : Bool). map (λ (e : DieRow). e.name) (cond b (d ∷ []) [])) (eq-eqb d.site site here)
    ∙ ap (λ (n : List ℕ). n ∷ []) (sym name_is)

-- one of another site
pub name_elsewhere : (site : ℕ) (x : Row) (d : DieRow) → x ≡ row.Die d → (d.site ≡ site → ⊥) → names_at site (x ∷ []) ≡ []
name_elsewhere site x d is other =
    ap (λ (r : Row). names_at site (r ∷ [])) is
    ∙ ap (λ (b : Bool). map (λ (e : DieRow). e.name) (cond b (d ∷ []) [])) (ne_eqb d.site site other)

-- ---- the names of a site

-- those of one row more
names_at-last : (site : ℕ) (rows : List Row) (x : Row) → names_at site (rows ++ x ∷ []) ≡ names_at site rows ++ names_at site (x ∷ [])
names_at-last site rows x =
    let p : DieRow → Bool = λ d. d.site == site in
    ap (λ (l : List DieRow). map (λ (d : DieRow). d.name) (filter p l)) (each_of-last as_die rows x)
    ∙ ap (map (λ (d : DieRow). d.name)) (filter-append p (dies_of rows) (one (as_die x)))
    ∙ map-append (λ (d : DieRow). d.name) (dies_at site rows) (filter p (one (as_die x)))
    ∙ ap (λ (l : List DieRow). names_at site rows ++ map (λ (d : DieRow). d.name) (filter p l)) (sym (append-nil (one (as_die x))))

names_at-take : (site : ℕ) (rows : List Row) (i : ℕ) (x : Row) → i < length rows → x ≡ get_or rows i x
    → names_at site (take (i + 1) rows) ≡ names_at site (take i rows) ++ names_at site (x ∷ [])
names_at-take site rows i x within here =
    ap (names_at site) (take_more rows i x within ∙ ap (λ (y : Row). take i rows ++ y ∷ []) (sym here)) ∙ names_at-last site (take i rows) x

-- a row that isn't that of a die of the site
pub no_name : (site : ℕ) (rows : List Row) (i : ℕ) (x : Row) (names : List (Bor (List ℕ))) → i < length rows → x ≡ get_or rows i x
    → lent names ≡ names_at site (take i rows) → names_at site (x ∷ []) ≡ [] → lent names ≡ names_at site (take (i + 1) rows)
no_name site rows i x names within here are none =
    are ∙ sym (append-nil (names_at site (take i rows)))
    ∙ ap (λ (l : List (List ℕ)). names_at site (take i rows) ++ l) (sym none) ∙ sym (names_at-take site rows i x within here)

-- a row of one
pub next_name : (site : ℕ) (rows : List Row) (i : ℕ) (x : Row) (names names' : List (Bor (List ℕ))) (name : Bor (List ℕ))
    → i < length rows → x ≡ get_or rows i x → lent names ≡ names_at site (take i rows) → names_at site (x ∷ []) ≡ name.now ∷ []
    → names' ≡ names ++ name ∷ [] → lent names' ≡ names_at site (take (i + 1) rows)
next_name site rows i x names names' name within here are one_is more =
    ap lent more ∙ map-append (λ (n : Bor (List ℕ)). n.now) names (name ∷ [])
    ∙ ap (λ (l : List (List ℕ)). l ++ name.now ∷ []) are
    ∙ ap (λ (l : List (List ℕ)). names_at site (take i rows) ++ l) (sym one_is) ∙ sym (names_at-take site rows i x within here)

-- ---- those of a part

-- of one site more
pub next_site : (rows : List Row) (sites : List ℕ) (parts part number site : ℕ) (all all' : List (Vec (Bor (List ℕ)) Global))
    (names : Vec (Bor (List ℕ)) Global) → sites ≡ sites_with_dies rows → site ≡ slice_index_or sites (rank_at parts part number) 0
    → lent names.items ≡ names_at site rows
    → lent_sites all ≡ map (λ (n : ℕ). names_at (site_at parts part rows n) rows) (range_with_len 0 number)
    → all' ≡ all ++ names ∷ []
    → lent_sites all' ≡ map (λ (n : ℕ). names_at (site_at parts part rows n) rows) (range_with_len 0 (number + 1))
next_site rows sites parts part number site all all' names same site_is are so_far more =
    let f : ℕ → List (List ℕ) = λ n. names_at (site_at parts part rows n) rows in
    ap lent_sites more ∙ map-append (λ (s : Vec (Bor (List ℕ)) Global). lent s.items) all (names ∷ [])
    ∙ ap (λ (l : List (List (List ℕ))). l ++ lent names.items ∷ []) so_far
    ∙ ap (λ (l : List (List ℕ)). map f (range_with_len 0 number) ++ l ∷ [])
    (are ∙ ap (λ (s : ℕ). names_at s rows) (site_is ∙ ap (λ (l : List ℕ). slice_index_or l (rank_at parts part number) 0) same))
    ∙ sym (map-append f (range_with_len 0 number) (number ∷ [])) ∙ ap (map f) (sym (range-more number))

-- of all sites of the part
pub all_sites : (rows : List Row) (sites : List ℕ) (parts part number count : ℕ) (all : List (Vec (Bor (List ℕ)) Global))
    → sites ≡ sites_with_dies rows → count ≡ sites_in_part parts part (length sites) → number ≡ count
    → lent_sites all ≡ map (λ (n : ℕ). names_at (site_at parts part rows n) rows) (range_with_len 0 number)
    → lent_sites all ≡ names_in parts part rows
unfolding names_in
all_sites rows sites parts part number count all same count_is past so_far =
    so_far ∙ ap (λ (n : ℕ). map (λ (k : ℕ). names_at (site_at parts part rows k) rows) (range_with_len 0 n))
    (past ∙ count_is ∙ ap (λ (l : List ℕ). sites_in_part parts part (length l)) same)
