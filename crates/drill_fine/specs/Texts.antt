-- The texts of drill n: the pattern that is compiled, the netlist of each die, and the plan of the lot. A die is a
-- chain of n registers from its input `d` to the net that `q` is bound to: what is driven is seen n vectors later.
use Rattle.std.specs.Prelude.{ℕ, ◌+◌, ◌-◌, ◌*◌, ◌%◌, Bool, nat_lt, List, ◌++◌, codes, decimal, if◌then◌else◌}
use Rattle.std.specs.List.{flat_map, range_with_len}

-- how many vectors the pattern has
abbrev pub vectors : ℕ → ℕ
vectors n = 500 * n

-- whether vector i drives `d` high
abbrev pub driven_bit : ℕ → ℕ → Bool
driven_bit n i = nat_lt ((i * i + n) % 7) 3

-- the line of vector i: the bit that it drives, and what is seen, which is unknown until the first bit is through, and
-- then the bit of n vectors before
unfoldable pub vector_line : ℕ → ℕ → List ℕ
vector_line n i =
    codes "V { d=" ++ (if driven_bit n i then codes "1" else codes "0")
    ++ codes "; ck=P; q=" ++ (if nat_lt i n then codes "X" else if driven_bit n (i - n) then codes "H" else codes "L")
    ++ codes "; }\n"

-- what stands before the vectors
unfoldable pub stil_head : List ℕ
stil_head =
    codes "STIL 1.0;\n"
    ++ codes "Signals { d In; ck In; q Out; }\n"
    ++ codes "Timing { WaveformTable w { Period '100ns'; Waveforms {\n"
    ++ codes "d { 01 { '0ns' D/U; } }\n"
    ++ codes "ck { P { '0ns' D; '50ns' U; } }\n"
    ++ codes "q { LHX { '40ns' L/H/X; } }\n"
    ++ codes "} } }\n"
    ++ codes "Pattern p { W w;\n"

-- what stands behind them
unfoldable pub stil_tail : List ℕ
stil_tail = codes "}\n" ++ codes "PatternBurst b { PatList { p; } }\n" ++ codes "PatternExec { PatternBurst b; }\n"

-- the pattern
unfoldable pub stil_text : ℕ → List ℕ
stil_text n = stil_head ++ flat_map (vector_line n) (range_with_len 0 (vectors n)) ++ stil_tail

-- the line of register k, which takes what the one before it has
unfoldable pub register_line : ℕ → List ℕ
register_line k = codes "f" ++ decimal k ++ codes " = DFF(f" ++ decimal (k - 1) ++ codes ")\n"

-- the input, the output and the first register
unfoldable pub net_head : ℕ → List ℕ
net_head n = codes "INPUT(d)\n" ++ codes "OUTPUT(f" ++ decimal n ++ codes ")\n" ++ codes "f1 = DFF(d)\n"

-- the netlist
unfoldable pub net_text : ℕ → List ℕ
net_text n = net_head n ++ flat_map register_line (range_with_len 2 (n - 1))

-- the rows of the four dies, of which the one at site 1 has a first register that is stuck at 0
unfoldable pub die_rows : List ℕ
die_rows =
    codes "die,0,a,drill.bench,,\n"
    ++ codes "die,1,b,drill.bench,,\n"
    ++ codes "die,2,c,drill.bench,,\n"
    ++ codes "die,3,d,drill.bench,,\n"
    ++ codes "fault,1,b,f1,0,\n"

-- the plan
unfoldable pub plan_text : ℕ → List ℕ
plan_text n =
    codes "lot,256,1,0,,\n" ++ codes "clock,ck,,,,\n" ++ codes "bind,q,f" ++ decimal n ++ codes ",,,\n" ++ die_rows
