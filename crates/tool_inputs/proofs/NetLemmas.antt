-- Netlists that are read one after another are those of all files, or one of them is refused.
use Rattle.std.proofs.Common.{◌≡◌, ℕ, suc, ◌+◌, ◌<◌, ◌≤◌, List, [], ◌∷◌, ◌++◌, length, drop, get_or, Option, refl, sym, ap, ◌∙◌, subst, append_assoc}
use Rattle.std.proofs.lemmas.List.{append-nil, drop_all}
use Rattle.text_bytes.proofs.ListLemmas.{split_more}
use Rattle.tester_types.specs.Outside.{Files}
use Rattle.bench_net.specs.Circuit.{Circuit}
use Rattle.tool_inputs.specs.declared.refusal.Refusal.{Refusal}
use Rattle.tool_inputs.specs.Inputs.{IsNetFile, AreNetFiles, IsNetRefused, AreNetsRefused}
use Rattle.tool_inputs.specs.Inputs.AreNetsRefused.{of_file}
use Rattle.tool_inputs.specs.Nets.{AddsNet}
use Rattle.tool_inputs.proofs.InputLemmas.{wide-net}

-- one file more
files_push : (told : Option Files) (files : List (List ℕ)) (file : List ℕ) (circuits : List Circuit) (circuit : Circuit)
    → AreNetFiles told files circuits → IsNetFile told file circuit → AreNetFiles told (files ++ file ∷ []) (circuits ++ circuit ∷ [])
files_push told [] file [] circuit are is = (is, tt)
files_push told [] file (c ∷ cs) circuit are is = absurd are
files_push told (f ∷ fs) file [] circuit are is = absurd are
files_push told (f ∷ fs) file (c ∷ cs) circuit are is = (are.0, files_push told fs file cs circuit are.1 is)

-- there are as many netlists as files
pub files_long : (told : Option Files) (files : List (List ℕ)) (circuits : List Circuit) → AreNetFiles told files circuits
    → length circuits ≡ length files
files_long told [] [] are = refl
files_long told [] (c ∷ cs) are = absurd are
files_long told (f ∷ fs) [] are = absurd are
files_long told (f ∷ fs) (c ∷ cs) are = ap suc (files_long told fs cs are.1)

-- the files up to a number are read
pub record AreRead (told : Option Files) (files : List (List ℕ)) (number : ℕ) (circuits : List Circuit) : Type 0 where
  pub front : List (List ℕ)
  pub split : files ≡ front ++ drop number files
  pub nets : AreNetFiles told front circuits

-- with the next one
pub next_read : (told told' : Option Files) (files : List (List ℕ)) (number : ℕ) (circuits circuits' : List Circuit) (file : List ℕ)
    → number < length files → file ≡ get_or files number file → told' ≡ told → AreRead told files number circuits
    → AddsNet told' file circuits circuits' → AreRead told files (number + 1) circuits'
next_read told told' files number circuits circuits' file within is same read adds = record {
  front = read.front ++ file ∷ [];
  split = split_more files read.front number file within is read.split
      ∙ sym (append_assoc read.front (file ∷ []) (drop (number + 1) files));
  nets = subst (AreNetFiles told (read.front ++ file ∷ [])) (sym adds.more)
      (files_push told read.front file circuits adds.circuit read.nets
      (subst (λ (t : Option Files). IsNetFile t file adds.circuit) same adds.net));
}

-- behind the last all are
pub all_read : (told : Option Files) (files : List (List ℕ)) (number : ℕ) (circuits : List Circuit) → length files ≤ number
    → AreRead told files number circuits → AreNetFiles told files circuits
all_read told files number circuits past read =
    subst (λ (l : List (List ℕ)). AreNetFiles told l circuits)
    (sym (read.split ∙ ap (λ (l : List (List ℕ)). read.front ++ l) (drop_all number files past) ∙ append-nil read.front)) read.nets

-- the next one is refused
pub next_refused : (told told' : Option Files) (b b' n : ℕ) (files : List (List ℕ)) (number : ℕ) (circuits : List Circuit)
    (file : List ℕ) (r : Refusal) → number < length files → file ≡ get_or files number file → told' ≡ told → b ≤ b' → b' ≤ n
    → AreRead told files number circuits → IsNetRefused told' b' n file r → AreNetsRefused told b n files r
next_refused told told' b b' n files number circuits file r within is same low between read refused =
    of_file read.front (drop (number + 1) files) file (split_more files read.front number file within is read.split) circuits read.nets
    (wide-net told file b b' n r low between (subst (λ (t : Option Files). IsNetRefused t b' n file r) same refused))
