-- What the refusal of bytes depends on.
use Rattle.std.specs.Prelude.{◌≡◌, ℕ, ◌+◌, ◌<◌, ◌≤◌, ◌⊎◌, List, ◌++◌, length, take, Ok, Err}
use Rattle.page_code.specs.declared.fault.SavedFault.{SavedFault}
use Rattle.page_code.specs.declared.fault.SavedFault.TheVariants.{Torn, BadCode}
use Rattle.packed_code.specs.Program.{Program}
use Rattle.page_code.specs.Reading.{load_of}

-- bytes with a refused field: it begins at the place, it is no longer than the longest text with its length, the
-- refusal is the same whatever stands behind it, and where the bytes end before it does they are torn, or a whole
-- program that ends at the place, behind which a byte is refused
pub record HasRefusedField (bytes : List ℕ) (place : ℕ) : Type 0 where
  pub before : List ℕ
  pub field : List ℕ
  pub rest : List ℕ
  pub whole : bytes ≡ before ++ (field ++ rest)
  pub begins : length before ≡ place
  pub short : length field ≤ 1026
  pub same : (other : List ℕ) → load_of (before ++ (field ++ other)) ≡ Err (BadCode place)
  pub sooner : (n : ℕ) → n < length before + length field
      → (load_of (take n bytes) ≡ Err (Torn n))
      ⊎ ((n ≡ place) × (length field ≡ 1) × (code : Program) × (load_of (take n bytes) ≡ Ok code))

-- bytes of which so many at most, the first ones, are refused whatever stands behind them, and no fewer are
pub record HasRefusedHead (bytes : List ℕ) (most : ℕ) (fault : SavedFault) : Type 0 where
  pub front : List ℕ
  pub rest : List ℕ
  pub whole : bytes ≡ front ++ rest
  pub short : length front ≤ most
  pub same : (other : List ℕ) → load_of (front ++ other) ≡ Err fault
  pub sooner : (n : ℕ) → n < length front → load_of (take n bytes) ≡ Err (Torn n)

-- all bytes that agree with these up to an end, which is at most so far behind the place, are refused there
pub record AgreeUpTo (bytes : List ℕ) (place : ℕ) : Type 0 where
  pub end : ℕ
  pub behind : place ≤ end
  pub near : end ≤ place + 1026
  pub inside : end ≤ length bytes
  pub same : (other : List ℕ) → take end other ≡ take end bytes → load_of other ≡ Err (BadCode place)
