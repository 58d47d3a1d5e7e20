-- The texts of parts that are loaded one after another are those of all files, or one of them isn't loaded.
use Rattle.std.proofs.Common.{◌≡◌, ℕ, ◌+◌, ◌<◌, ◌≤◌, List, [], ◌∷◌, ◌++◌, length, drop, get_or, Option, Some, None, Err, refl, sym, ap, ◌∙◌, subst, append_assoc, arith, inl, inr, String, string_bytes, Vec}
use Rattle.std.specs.declared.alloc.Global.{Global}
use Rattle.std.proofs.lemmas.List.{append-nil, drop_all, length-map, get_or-map}
use Rattle.text_bytes.proofs.ListLemmas.{split_more}
use Rattle.tester_types.specs.Outside.{Files, TellsFile, HandsOut, FailsBy}
use Rattle.tester_types.specs.declared.outside.ShelfFault.{ShelfFault}
use Rattle.tester_types.specs.declared.outside.ShelfFault.TheVariants as shelf
use Rattle.tool_inputs.specs.Endings.{LoadFailed}
use Rattle.tool_inputs.specs.declared.refusal.Refusal.{Refusal}
use Rattle.tool_inputs.specs.declared.refusal.Refusal.TheVariants.{ReadFault, TooLong}
use Rattle.tool_inputs.proofs.InputLemmas.{wide-risen}
use Rattle.lot_parts.specs.Words.{words_seen}
use Rattle.lot_parts.specs.Files.{most_part, texts_seen, IsPartFile, ArePartFiles, IsTooLong, IsUnloaded, AreUnloaded, AddsText}
use Rattle.lot_parts.specs.Files.IsUnloaded.{no_memory, failed, too_long}
use Rattle.lot_parts.specs.Files.AreUnloaded.{of_file}

-- a file that is too long
pub long_so : (told : Option Files) (name : List ℕ) (room : ℕ) → room ≡ most_part
    → TellsFile told name (λ found. (bytes : List ℕ) × (found ≡ Some bytes) × (room < length bytes)) → TellsFile told name IsTooLong
long_so None name room is long = tt
long_so (Some files) name room is long = record { bytes = long.0; is_there = long.1; more = omega (arith, is, long.2) }

-- why a load is refused, by its fault
pub failed_so : (told : Option Files) (before now : ℕ) (name text : List ℕ) (e : ShelfFault) → e ≡ shelf.Failed → text ≡ name
    → FailsBy told name before now (Err e) → IsUnloaded told before now name (ReadFault text)
failed_so told before now name text shelf.Failed is same cause = failed (ap (λ (t : List ℕ). ReadFault t) same) cause
failed_so told before now name text shelf.TooLong is same cause = cc
failed_so told before now name text shelf.NoMemory is same cause = cc

pub too_long_so : (told : Option Files) (before now : ℕ) (name text : List ℕ) (room : ℕ) (e : ShelfFault) → e ≡ shelf.TooLong
    → room ≡ most_part → text ≡ name → HandsOut told name room (Err e) → IsUnloaded told before now name (TooLong text)
too_long_so told before now name text room shelf.Failed is most same long = cc
too_long_so told before now name text room shelf.TooLong is most same long =
    too_long (ap (λ (t : List ℕ). TooLong t) same) (long_so told name room most long)
too_long_so told before now name text room shelf.NoMemory is most same long = cc

-- a file that isn't loaded in a part of a call
pub wide-unloaded : (told : Option Files) (name : List ℕ) (b b' n' n : ℕ) (r : Refusal) → b ≤ b' → b' ≤ n' → n' ≤ n
    → IsUnloaded told b' n' name r → IsUnloaded told b n name r
wide-unloaded told name b b' n' n r low between high (no_memory is) = no_memory is
wide-unloaded told name b b' n' n r low between high (failed is cause) = failed is (wide cause)
  where
    wide : LoadFailed told b' n' name → LoadFailed told b n name
    wide (inl risen) = inl (wide-risen b b' n' n low between high risen)
    wide (inr lacks) = inr lacks
wide-unloaded told name b b' n' n r low between high (too_long is long) = too_long is long

-- files that aren't loaded in a part of a call
pub wide-unloaded_files : (told : Option Files) (files : List (List ℕ)) (b b' n' n : ℕ) (r : Refusal) → b ≤ b' → b' ≤ n' → n' ≤ n
    → AreUnloaded told b' n' files r → AreUnloaded told b n files r
wide-unloaded_files told files b b' n' n r low between high (AreUnloaded.no_memory is) = AreUnloaded.no_memory is
wide-unloaded_files told files b b' n' n r low between high (of_file front later file split texts are is) =
    of_file front later file split texts are (wide-unloaded told file b b' n' n r low between high is)

-- one file more
files_push : (told : Option Files) (files : List (List ℕ)) (file : List ℕ) (texts : List (List ℕ)) (text : List ℕ)
    → ArePartFiles told files texts → IsPartFile told file text → ArePartFiles told (files ++ file ∷ []) (texts ++ text ∷ [])
files_push told [] file [] text are is = (is, tt)
files_push told [] file (t ∷ ts) text are is = absurd are
files_push told (f ∷ fs) file [] text are is = absurd are
files_push told (f ∷ fs) file (t ∷ ts) text are is = (are.0, files_push told fs file ts text are.1 is)

-- there are as many texts as files
pub files_long : (told : Option Files) (files texts : List (List ℕ)) → ArePartFiles told files texts → length files ≡ length texts
files_long told [] [] are = refl
files_long told [] (t ∷ ts) are = absurd are
files_long told (f ∷ fs) [] are = absurd are
files_long told (f ∷ fs) (t ∷ ts) are = omega (arith, files_long told fs ts are.1)

-- as many as there are files among the words
pub loaded_long : (told : Option Files) (files : List (String Global)) (texts : List (Vec ℕ Global))
    → ArePartFiles told (words_seen files) (texts_seen texts) → length files ≡ length texts
loaded_long told files texts are =
    sym (length-map files string_bytes) ∙ files_long told (words_seen files) (texts_seen texts) are
    ∙ length-map texts (λ (text : Vec ℕ Global). text.items)

-- the word at a place
pub word_at : (files : List (String Global)) (number : ℕ) (item : String Global) (seen : List ℕ) → number < length files
    → item ≡ get_or files number item → seen ≡ string_bytes item → seen ≡ get_or (words_seen files) number seen
word_at files number item seen within is seen_is =
    seen_is ∙ ap string_bytes is ∙ sym (get_or-map string_bytes files number item seen within)

-- the texts of the files up to a number
pub record AreLoaded (told : Option Files) (files : List (List ℕ)) (number : ℕ) (texts : List (List ℕ)) : Type 0 where
  pub front : List (List ℕ)
  pub split : files ≡ front ++ drop number files
  pub are : ArePartFiles told front texts

-- with the next one
pub next_loaded : (told told' : Option Files) (files : List (List ℕ)) (number : ℕ) (texts texts' : List (List ℕ)) (file : List ℕ)
    → number < length files → file ≡ get_or files number file → told' ≡ told → AreLoaded told files number texts
    → AddsText told' file texts texts' → AreLoaded told files (number + 1) texts'
next_loaded told told' files number texts texts' file within is same read adds = record {
  front = read.front ++ file ∷ [];
  split = split_more files read.front number file within is read.split
      ∙ sym (append_assoc read.front (file ∷ []) (drop (number + 1) files));
  are = subst (ArePartFiles told (read.front ++ file ∷ [])) (sym adds.more)
      (files_push told read.front file texts adds.text read.are
      (subst (λ (t : Option Files). IsPartFile t file adds.text) same adds.is));
}

-- behind the last all are
pub all_loaded : (told : Option Files) (files : List (List ℕ)) (number : ℕ) (texts : List (List ℕ)) → length files ≤ number
    → AreLoaded told files number texts → ArePartFiles told files texts
all_loaded told files number texts past read =
    subst (λ (l : List (List ℕ)). ArePartFiles told l texts)
    (sym (read.split ∙ ap (λ (l : List (List ℕ)). read.front ++ l) (drop_all number files past) ∙ append-nil read.front)) read.are

-- the next one isn't loaded
pub next_unloaded : (told told' : Option Files) (b b' n : ℕ) (files : List (List ℕ)) (number : ℕ) (texts : List (List ℕ))
    (file : List ℕ) (r : Refusal) → number < length files → file ≡ get_or files number file → told' ≡ told → b ≤ b' → b' ≤ n
    → AreLoaded told files number texts → IsUnloaded told' b' n file r → AreUnloaded told b n files r
next_unloaded told told' b b' n files number texts file r within is same low between read why =
    of_file read.front (drop (number + 1) files) file (split_more files read.front number file within is read.split) texts read.are
    (wide-unloaded told file b b' n n r low between (omega arith) (subst (λ (t : Option Files). IsUnloaded t b' n file r) same why))

-- the text at a place
pub text_at : (texts : List (Vec ℕ Global)) (number : ℕ) (item : Vec ℕ Global) (seen : List ℕ) → number < length texts
    → item ≡ get_or texts number item → seen ≡ item.items → seen ≡ get_or (texts_seen texts) number seen
text_at texts number item seen within is seen_is =
    seen_is ∙ ap (λ (t : Vec ℕ Global). t.items) is ∙ sym (get_or-map (λ (t : Vec ℕ Global). t.items) texts number item seen within)

-- there are as many texts wherever they lie
pub texts_long : (texts : List (Vec ℕ Global)) → length (texts_seen texts) ≡ length texts
texts_long texts = length-map texts (λ (text : Vec ℕ Global). text.items)
