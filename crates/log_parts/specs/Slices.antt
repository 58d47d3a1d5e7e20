-- What is kept of a datalog that was read.
use Rattle.std.specs.Prelude.{◌≡◌, ℕ, List, [], ◌∷◌, map, Vec}
use Rattle.std.specs.Borrow.{Bor}
use Rattle.std.specs.declared.alloc.Global.{Global}
use Rattle.log_parts.specs.Log.{DieLog, IsLog, dies_text, bins_of}

-- what stands behind the line of each site, up to the next one, and the bins of all dies
pub record SlicedLog : Type 0 where
  pub texts : List (List ℕ)
  pub bins : List ℕ

-- the lines of the dies of each site
abbrev pub site_texts : List (List (List ℕ)) → List (List DieLog) → List (List ℕ)
site_texts [] logs = []
site_texts (names ∷ later) [] = []
site_texts (names ∷ later) (log ∷ logs) = dies_text names log ∷ site_texts later logs

-- the text is a datalog of dies with these names, and this is kept of it
pub record IsSliced (names : List (List (List ℕ))) (text : List ℕ) (log : SlicedLog) : Type 0 where
  pub logs : List (List DieLog)
  pub is_log : IsLog names text logs
  pub texts : log.texts ≡ site_texts names logs
  pub bins : log.bins ≡ bins_of logs

-- names that are lent
abbrev pub lent : List (Bor (List ℕ)) → List (List ℕ)
lent names = map (λ (name : Bor (List ℕ)). name.now) names

-- the names of the dies of each site
abbrev pub lent_sites : List (Vec (Bor (List ℕ)) Global) → List (List (List ℕ))
lent_sites sites = map (λ (site : Vec (Bor (List ℕ)) Global). lent site.items) sites
