-- Known dumps, computed from the definitions.
use Rattle.std.proofs.Common.{◌≡◌, ℕ, List, [], ◌∷◌, refl, inr, arith, ◌++◌}
use Rattle.std.specs.Prelude.{codes}
use Rattle.std.specs.Fmt.{digits}
use Rattle.text_bytes.specs.Bytes.{begins_name, is_word}
use Rattle.tester_types.specs.declared.level.Drive.TheVariants.{Down, Up, Off, Unknown}
use Rattle.vcd_text.specs.Dump.{timescale, scope, named, upscope, definitions, at, change, name_of, id_of, dump_of}
use Rattle.vcd_text.specs.Refusal.{lines_in, front_of, IsFault}
use Rattle.vcd_text.specs.Standing.{calling, behind_all}
use Rattle.vcd_text.proofs.FaultLemmas.{fault_at_end}

-- an input A that is driven down at 0 and up after 100 ns
abbrev one_input : List ℕ
one_input = dump_of ((0, codes "A") ∷ []) ((0, (0, Down) ∷ []) ∷ (100000000, (0, Up) ∷ []) ∷ [])

one_input_is : one_input
    ≡ codes "$timescale 1 fs $end\n$scope module die $end\n$var wire 1 ! A $end\n$upscope $end\n$enddefinitions $end\n#0\n0!\n#100000000\n1!\n"
unfolding digits
one_input_is = refl

-- without its last two lines it is the dump of the tape without its last call
shorter : front_of 7 one_input ≡ dump_of ((0, codes "A") ∷ []) ((0, (0, Down) ∷ []) ∷ [])
unfolding digits lines_in
shorter = refl

-- an input and a clock that are driven four times
abbrev two_drives : List ℕ
two_drives = dump_of ((0, codes "d") ∷ (1, codes "ck") ∷ [])
    ((0, (0, Down) ∷ (1, Down) ∷ []) ∷ (50000000, (0, Up) ∷ (1, Up) ∷ []) ∷ (100000000, (0, Down) ∷ (1, Down) ∷ [])
    ∷ (150000000, (0, Up) ∷ (1, Up) ∷ []) ∷ [])

two_drives_is : two_drives
    ≡ codes "$timescale 1 fs $end\n$scope module die $end\n$var wire 1 ! d $end\n$var wire 1 \" ck $end\n"
    ++ codes "$upscope $end\n$enddefinitions $end\n"
    ++ codes "#0\n0!\n0\"\n#50000000\n1!\n1\"\n#100000000\n0!\n0\"\n#150000000\n1!\n1\"\n"
unfolding digits
two_drives_is = refl

-- the four values
values : dump_of ((93, codes "a") ∷ (94, codes "b") ∷ [])
    ((7, (93, Off) ∷ (94, Unknown) ∷ []) ∷ [])
    ≡ codes "$timescale 1 fs $end\n$scope module die $end\n$var wire 1 ~ a $end\n$var wire 1 !\" b $end\n$upscope $end\n$enddefinitions $end\n#7\nz~\nx!\"\n"
unfolding digits
values = refl

-- 1023 is 10 * 94 + 83
last_signal : id_of 1023 ≡ 116 ∷ 43 ∷ []
last_signal = refl

-- names that are plain, and others
plain : name_of 3 (codes "_a9") ≡ codes "_a9"
unfolding digits begins_name is_word
plain = refl

dotted : name_of 12 (codes "a.b") ≡ codes "s12"
unfolding digits begins_name is_word
dotted = refl

numbered : name_of 0 (codes "9a") ≡ codes "s0"
unfolding digits begins_name is_word
numbered = refl

-- a rest that no line feed ends is no line
rest : lines_in (codes "a\n\nb") ≡ codes "a\n" ∷ codes "\n" ∷ []
unfolding lines_in
rest = refl

-- without its last line alone it ends with an instant, and the fault is at the line that is missing
cut : IsFault (front_of 8 one_input) 9
unfolding digits lines_in behind_all begins_name is_word
cut = fault_at_end (front_of 8 one_input) [] 8 (calling ((0, codes "A") ∷ []) ((0, (0, Down) ∷ []) ∷ []) 100000000 []) (record {
  lines = timescale ∷ scope ∷ named 0 (codes "A") ∷ upscope ∷ definitions ∷ at 0 ∷ change 0 Down ∷ at 100000000 ∷ [];
  fits = (tt, (tt, ((omega arith, refl, omega arith), (tt, (tt, (omega arith, (omega arith, (omega arith, tt))))))));
  went = refl;
  spelled = refl;
  counted = refl;
  few = omega arith;
}) refl (inr refl)
