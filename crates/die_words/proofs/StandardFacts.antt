-- Known words, in whose first four lanes a net is at 0, 1, unknown and off: what each gate gives there, the other net being
-- at 1, 0, 1 and 1.
use Rattle.std.proofs.Common.{[], ◌∷◌, Some, None, refl}
use Rattle.tester_types.specs.declared.level.Level.{Level}
use Rattle.tester_types.specs.declared.level.Level.TheVariants.{Zero, One, X, Z}
use Rattle.bench_net.specs.declared.gate.GateKind.{GateKind}
use Rattle.bench_net.specs.declared.gate.GateKind.TheVariants.{And, Nand, Or, Nor, Xor, Xnor, Not, Buf}
use Rattle.bench_net.specs.Gates.{gate_of}
use Rattle.die_words.specs.declared.word.Word.{Word}
use Rattle.die_words.specs.Lane.{Shows, ShowsFault}

-- what the first four lanes show
abbrev Four : Word → Level → Level → Level → Level → Type 0
Four w a b c d = Shows w 0 a × (Shows w 1 b × (Shows w 2 c × Shows w 3 d))

-- what a gate gives there
abbrev Gives : GateKind → Word → Type 0
Gives kind w =
    Four w (gate_of kind (Zero ∷ One ∷ []) (0 ∷ 1 ∷ [])) (gate_of kind (One ∷ Zero ∷ []) (0 ∷ 1 ∷ []))
    (gate_of kind (X ∷ One ∷ []) (0 ∷ 1 ∷ [])) (gate_of kind (Z ∷ One ∷ []) (0 ∷ 1 ∷ []))

-- the two nets
abbrev one : Word
one = record { zeros = 1; ones = 2 }

abbrev other : Word
other = record { zeros = 2; ones = 13 }

one_shows : Four one Zero One X Z
one_shows = (
  record { zero = refl; one = refl },
  (
    record { zero = refl; one = refl },
    (record { zero = refl; one = refl }, record { zero = refl; one = refl }),
  ),
)

other_shows : Four other One Zero One One
other_shows = (
  record { zero = refl; one = refl },
  (
    record { zero = refl; one = refl },
    (record { zero = refl; one = refl }, record { zero = refl; one = refl }),
  ),
)

-- 0, 0, unknown, unknown
and_gives : Gives And (record { zeros = 3; ones = 0 })
and_gives = (
  record { zero = refl; one = refl },
  (
    record { zero = refl; one = refl },
    (record { zero = refl; one = refl }, record { zero = refl; one = refl }),
  ),
)

nand_gives : Gives Nand (record { zeros = 0; ones = 3 })
nand_gives = (
  record { zero = refl; one = refl },
  (
    record { zero = refl; one = refl },
    (record { zero = refl; one = refl }, record { zero = refl; one = refl }),
  ),
)

-- 1 in all four
or_gives : Gives Or (record { zeros = 0; ones = 15 })
or_gives = (
  record { zero = refl; one = refl },
  (
    record { zero = refl; one = refl },
    (record { zero = refl; one = refl }, record { zero = refl; one = refl }),
  ),
)

nor_gives : Gives Nor (record { zeros = 15; ones = 0 })
nor_gives = (
  record { zero = refl; one = refl },
  (
    record { zero = refl; one = refl },
    (record { zero = refl; one = refl }, record { zero = refl; one = refl }),
  ),
)

-- 1, 1, unknown, unknown
xor_gives : Gives Xor (record { zeros = 0; ones = 3 })
xor_gives = (
  record { zero = refl; one = refl },
  (
    record { zero = refl; one = refl },
    (record { zero = refl; one = refl }, record { zero = refl; one = refl }),
  ),
)

xnor_gives : Gives Xnor (record { zeros = 3; ones = 0 })
xnor_gives = (
  record { zero = refl; one = refl },
  (
    record { zero = refl; one = refl },
    (record { zero = refl; one = refl }, record { zero = refl; one = refl }),
  ),
)

-- of the first net alone: 1, 0, unknown, unknown
not_gives : Gives Not (record { zeros = 2; ones = 1 })
not_gives = (
  record { zero = refl; one = refl },
  (
    record { zero = refl; one = refl },
    (record { zero = refl; one = refl }, record { zero = refl; one = refl }),
  ),
)

buf_gives : Gives Buf (record { zeros = 1; ones = 2 })
buf_gives = (
  record { zero = refl; one = refl },
  (
    record { zero = refl; one = refl },
    (record { zero = refl; one = refl }, record { zero = refl; one = refl }),
  ),
)

-- a net that is stuck at 1 in the second lane and free in the first
stuck_at_1 : ShowsFault (record { zeros = 0; ones = 2 }) 1 (Some One)
stuck_at_1 = record { zero = refl; one = refl }

free_beside : ShowsFault (record { zeros = 0; ones = 2 }) 0 None
free_beside = record { zero = refl; one = refl }
