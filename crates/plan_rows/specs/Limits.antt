-- The limits of a plan, each once: the constants of the code. They are this project's own.
use Rattle.std.specs.Prelude.{ℕ}
use Rattle.plan_rows.specs.declared.kinds.TheConstants.{LAST_SITE, MOST_BATCH, MOST_TRIES, MOST_KEEP, LAST_BATCH, MOST_SKEW, LAST_EXECUTIVE, LAST_BIN}
use Rattle.plan_rows.specs.declared.tally.TheConstants.{MOST_DIES, MOST_KEPT}

-- the greatest number of a site
abbrev pub last_site : ℕ
last_site = LAST_SITE

-- the most dies of a plan
abbrev pub most_dies : ℕ
most_dies = MOST_DIES

-- the most cycles of a batch
abbrev pub most_batch : ℕ
most_batch = MOST_BATCH

-- the most tries of a die
abbrev pub most_tries : ℕ
most_tries = MOST_TRIES

-- the most fails of a try that are kept
abbrev pub most_keep : ℕ
most_keep = MOST_KEEP

-- the most kept fails of all tries of all dies
abbrev pub most_kept : ℕ
most_kept = MOST_KEPT

-- the greatest number of a batch before which a try is stopped
abbrev pub last_batch : ℕ
last_batch = LAST_BATCH

-- the most femtoseconds by which a skew moves events, either way
abbrev pub most_skew : ℕ
most_skew = MOST_SKEW

-- the greatest number of an executive
abbrev pub last_executive : ℕ
last_executive = LAST_EXECUTIVE

-- the greatest number of a bin; the least is 1
abbrev pub last_bin : ℕ
last_bin = LAST_BIN
