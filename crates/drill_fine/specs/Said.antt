-- The text of a drill's pattern as statements.
use Rattle.std.specs.Prelude.{ℕ, ◌-◌, Bool, nat_lt, List, [], ◌∷◌, codes, if◌then◌else◌}
use Rattle.std.specs.List.{range_with_len}
use Rattle.stil_lex.specs.Pieces.{Piece, token}
use Rattle.stil_lex.specs.declared.token.TokenKind.TheVariants.{Text}
use Rattle.drill_fine.specs.Texts.{vectors, driven_bit}
use Rattle.line_texts.specs.Said.{Said, no_more, statement, braced, a_sign, word, blank, spaced, next_line, each_said}

-- a time
abbrev pub time : List ℕ → Piece
time text = token Text text

-- `to = with;`
abbrev pub assigned : List ℕ → List ℕ → Said → Said
assigned to with more = statement (word to ∷ a_sign 61 ∷ word with ∷ []) more

-- the byte that a vector drives
abbrev pub bit_byte : Bool → ℕ
bit_byte high = if high then 49 else 48

-- the byte that a vector looks for
abbrev pub look_byte : Bool → Bool → ℕ
look_byte unknown high = if unknown then 88 else if high then 72 else 76

-- a vector of these bytes
abbrev pub vector_with : ℕ → ℕ → Said → Said
vector_with bit look more =
    braced (word (codes "V") ∷ blank ∷ [])
    (spaced (assigned (codes "d") (bit ∷ [])
    (spaced (assigned (codes "ck") (codes "P")
    (spaced (assigned (codes "q") (look ∷ []) (spaced no_more)))))))
    (next_line more)

-- a vector, by whether it drives `d` high, whether what is seen is unknown, and whether it is high
abbrev pub vector_of : Bool → Bool → Bool → Said → Said
vector_of high unknown seen more = vector_with (bit_byte high) (look_byte unknown seen) more

-- vector i
abbrev pub vector_said : ℕ → ℕ → Said → Said
vector_said n i more = vector_of (driven_bit n i) (nat_lt i n) (driven_bit n (i - n)) more

-- all vectors
unfoldable pub vectors_said : ℕ → Said
vectors_said n = each_said (vector_said n) (range_with_len 0 (vectors n)) no_more

-- the waveforms of the signals
abbrev pub waves_said : Said
waves_said =
    next_line
    (braced (word (codes "d") ∷ blank ∷ [])
    (spaced (braced (word (codes "01") ∷ blank ∷ [])
    (spaced
    (statement (time (codes "'0ns'") ∷ blank ∷ word (codes "D") ∷ a_sign 47 ∷ word (codes "U") ∷ []) (spaced no_more)))
    (spaced no_more)))
    (next_line
    (braced (word (codes "ck") ∷ blank ∷ [])
    (spaced (braced (word (codes "P") ∷ blank ∷ [])
    (spaced (statement (time (codes "'0ns'") ∷ blank ∷ word (codes "D") ∷ [])
    (spaced (statement (time (codes "'50ns'") ∷ blank ∷ word (codes "U") ∷ []) (spaced no_more)))))
    (spaced no_more)))
    (next_line
    (braced (word (codes "q") ∷ blank ∷ [])
    (spaced (braced (word (codes "LHX") ∷ blank ∷ [])
    (spaced
    (statement
    (time (codes "'40ns'") ∷ blank ∷ word (codes "L") ∷ a_sign 47 ∷ word (codes "H") ∷ a_sign 47 ∷ word (codes "X")
    ∷ []) (spaced no_more)))
    (spaced no_more)))
    (next_line no_more))))))

-- the signals
abbrev pub signals_said : Said
signals_said =
    spaced (statement (word (codes "d") ∷ blank ∷ word (codes "In") ∷ [])
    (spaced (statement (word (codes "ck") ∷ blank ∷ word (codes "In") ∷ [])
    (spaced (statement (word (codes "q") ∷ blank ∷ word (codes "Out") ∷ []) (spaced no_more))))))

-- the waveform table
abbrev pub tables_said : Said
tables_said =
    spaced (braced (word (codes "WaveformTable") ∷ blank ∷ word (codes "w") ∷ blank ∷ [])
    (spaced (statement (word (codes "Period") ∷ blank ∷ time (codes "'100ns'") ∷ [])
    (spaced (braced (word (codes "Waveforms") ∷ blank ∷ []) waves_said (spaced no_more)))))
    (spaced no_more))

-- the pattern's statements, with these vectors
abbrev pub body_said : Said → Said
body_said vectors = spaced (statement (word (codes "W") ∷ blank ∷ word (codes "w") ∷ []) (next_line vectors))

-- the burst
abbrev pub burst_said : Said
burst_said =
    spaced (braced (word (codes "PatList") ∷ blank ∷ [])
    (spaced (statement (word (codes "p") ∷ []) (spaced no_more)))
    (spaced no_more))

-- the executive
abbrev pub exec_said : Said
exec_said = spaced (statement (word (codes "PatternBurst") ∷ blank ∷ word (codes "b") ∷ []) (spaced no_more))

-- the text, with these vectors
abbrev pub text_said : Said → Said
text_said vectors =
    statement (word (codes "STIL") ∷ blank ∷ word (codes "1") ∷ a_sign 46 ∷ word (codes "0") ∷ [])
    (next_line (braced (word (codes "Signals") ∷ blank ∷ []) signals_said
    (next_line (braced (word (codes "Timing") ∷ blank ∷ []) tables_said
    (next_line (braced (word (codes "Pattern") ∷ blank ∷ word (codes "p") ∷ blank ∷ []) (body_said vectors)
    (next_line (braced (word (codes "PatternBurst") ∷ blank ∷ word (codes "b") ∷ blank ∷ []) burst_said
    (next_line (braced (word (codes "PatternExec") ∷ blank ∷ []) exec_said
    (next_line no_more)))))))))))

-- the text of a drill
abbrev pub drill_said : ℕ → Said
drill_said n = text_said (vectors_said n)
