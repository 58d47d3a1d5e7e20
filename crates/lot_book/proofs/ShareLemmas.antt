-- The shares of a new book.
use Rattle.std.proofs.Common.{◌≡◌, ℕ, ◌<◌, List, All, length, get_or, sym, ap, ◌∙◌, subst, arith}
use Rattle.std.proofs.lemmas.List.FromFn.{get_or-map-range_with_len, length-map-range_with_len}
use Rattle.lot_book.specs.Shares.{BookFacts, ShareFacts, new_share, new_shares}

-- what is so of a new share at each site is so of each of the new shares
pub each_new_share : (P : ShareFacts → Type 0) (shares : List ShareFacts) (book : BookFacts) (sites : ℕ) → shares ≡ new_shares book sites
    → ((site : ℕ) → site < sites → P (new_share book site)) → All P shares
each_new_share P shares book sites are each k d inside =
    let here : k < sites = omega (arith, ap (λ (l : List ShareFacts). length l) are, length-map-range_with_len (new_share book) 0 sites) in
    let at : get_or shares k d ≡ new_share book k =
    ap (λ (l : List ShareFacts). get_or l k d) are ∙ get_or-map-range_with_len (new_share book) 0 sites k k d here (omega arith) in
    subst P (sym at) (each k here)
