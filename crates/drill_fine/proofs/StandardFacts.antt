-- Known lines and texts.
use Rattle.std.proofs.Common.{◌≡◌, refl}
use Rattle.std.specs.Prelude.{◌++◌, codes, length}
use Rattle.std.specs.Fmt.{digits}
use Rattle.drill_fine.specs.Texts.{vector_line, stil_head, stil_tail, register_line, net_head, net_text, die_rows, plan_text}

-- in the drill of number 1 the first vector drives 1, and nothing is known of the output
first_vector : vector_line 1 0 ≡ codes "V { d=1; ck=P; q=X; }\n"
unfolding vector_line
first_vector = refl

-- the second drives 1, and the 1 of the first is seen
second_vector : vector_line 1 1 ≡ codes "V { d=1; ck=P; q=H; }\n"
unfolding vector_line
second_vector = refl

-- the third drives 0, as (4 + 1) % 7 is 5
third_vector : vector_line 1 2 ≡ codes "V { d=0; ck=P; q=H; }\n"
unfolding vector_line
third_vector = refl

-- the fourth drives 0, as (9 + 1) % 7 is 3, and the 0 of the third is seen
fourth_vector : vector_line 1 3 ≡ codes "V { d=0; ck=P; q=L; }\n"
unfolding vector_line
fourth_vector = refl

-- the netlist of the drill of number 2
net_of_two : net_text 2 ≡ codes "INPUT(d)\nOUTPUT(f2)\nf1 = DFF(d)\nf2 = DFF(f1)\n"
unfolding net_text net_head register_line digits
net_of_two = refl

-- the plan of the drill of number 1: four dies, of which the second has a stuck register
plan_of_one : plan_text 1
    ≡ codes "lot,256,1,0,,\nclock,ck,,,,\nbind,q,f1,,,\ndie,0,a,drill.bench,,\ndie,1,b,drill.bench,,\n"
    ++ codes "die,2,c,drill.bench,,\ndie,3,d,drill.bench,,\nfault,1,b,f1,0,\n"
unfolding plan_text die_rows digits
plan_of_one = refl

-- how many bytes stand around the vectors, and how many a vector has
around_vectors : length (stil_head ++ stil_tail) ≡ 272
unfolding stil_head stil_tail
around_vectors = refl

vector_size : length (vector_line 1 0) ≡ 22
unfolding vector_line
vector_size = refl
