-- The names of the nets of an accepted netlist have no line feeds and are printed as themselves, each once.
use Rattle.std.proofs.Common.{◌≡◌, ℕ, ◌<◌, Bool, true, false, cond, List, [], ◌∷◌, ◌++◌, length, get_or, refl, sym, ap, ◌∙◌, subst, inl, inr, arith}
use Rattle.std.specs.Prelude.{fold, nat_le, not, ◌==◌, ◌&&◌}
use Rattle.std.specs.List.{flat_map, list_any, list_all, AllByRecursion, AllPass, AllZip}
use Rattle.std.specs.Str.{bytes_eq}
use Rattle.std.specs.Str.Lines.{lines}
use Rattle.std.proofs.lemmas.Bool.{cond_both, cases_Bool, eqb-true, and_parts, and_from}
use Rattle.std.proofs.lemmas.List.Elements.{All-head, All-tail}
use Rattle.text_bytes.specs.Texts.{added}
use Rattle.text_bytes.proofs.ListLemmas.{all_append}
use Rattle.tester_types.specs.Printing.{is_bare, quoted, printed_name}
use Rattle.bench_net.specs.Circuit.{Net, number}
use Rattle.bench_net.specs.Line.{is_name_byte, Lexeme, word, delimiter, Spells, Form, nothing, input, output, gate, listed, Says}
use Rattle.bench_net.specs.Net.{named, names, IsNet}
use Rattle.part_lines.specs.Lines.{is_feed, is_one_line}
use Rattle.part_lines.proofs.LineLemmas.{line_more}
use Rattle.bench_net.proofs.NamesLemmas.{AreApart-names}
use Rattle.grade_parts.specs.Printed.{AreOneLine, AreNames}

-- a byte of a name is no line feed
name_byte : (b : ℕ) → is_name_byte b ≡ true → is_feed b ≡ false
name_byte b e =
    elim (cases_Bool (is_feed b)) [
      | inl y ↦ (let wrong : false ≡ true = sym (ap is_name_byte (eqb-true b 10 y)) ∙ e in cc)
      | inr n ↦ n
    ]

word_one : (w : List ℕ) → AllPass is_name_byte w → is_one_line w ≡ true
word_one [] are = refl
word_one (b ∷ w) are =
    line_more b w (name_byte b (All-head (λ x. is_name_byte x ≡ true) b w are))
    (word_one w (All-tail (λ x. is_name_byte x ≡ true) b w are))

-- a byte of a name may stand bare
bare_byte : (b : ℕ) → is_name_byte b ≡ true → is_bare b ≡ true
bare_byte b e =
    let bare = nat_le 33 b && nat_le b 126 in
    let five = (and_parts (bare && not (b == 40) && not (b == 41) && not (b == 44) && not (b == 61)) (not (b == 35)) e).0 in
    let four = (and_parts (bare && not (b == 40) && not (b == 41) && not (b == 44)) (not (b == 61)) five).0 in
    let three = (and_parts (bare && not (b == 40) && not (b == 41)) (not (b == 44)) four).0 in
    let two = (and_parts (bare && not (b == 40)) (not (b == 41)) three).0 in
    (and_parts bare (not (b == 40)) two).0

all_bare : (w : List ℕ) → AllPass is_name_byte w → list_all is_bare w ≡ true
all_bare [] are = refl
all_bare (b ∷ w) are =
    and_from (is_bare b) (list_all is_bare w) (bare_byte b (All-head (λ x. is_name_byte x ≡ true) b w are))
    (all_bare w (All-tail (λ x. is_name_byte x ≡ true) b w are))

word_printed : (w : List ℕ) → 0 < length w → AllPass is_name_byte w → printed_name w ≡ w
word_printed [] some are = absurd (omega (arith, some))
word_printed (b ∷ w) some are = ap (λ (t : Bool). cond t (b ∷ w) (quoted (b ∷ w))) (all_bare (b ∷ w) are)

-- a name without line feeds that is printed as itself
abbrev pub IsPlainName : List ℕ → Type 0
IsPlainName name = (is_one_line name ≡ true) × (printed_name name ≡ name)

-- a part of a line is one, if it is a word
abbrev IsPlain : Lexeme → Type 0
IsPlain (word w) = IsPlainName w
IsPlain (delimiter m) = Unit {0}

spelled_plain : (parts : List Lexeme) (text : List ℕ) → Spells parts text → AllByRecursion IsPlain parts
spelled_plain [] text is = tt
spelled_plain (word w ∷ parts) text is =
    ((word_one w is.1.part_is.1, word_printed w is.1.part_is.0 is.1.part_is.1), spelled_plain parts is.0 is.2)
spelled_plain (delimiter m ∷ parts) text is = (tt, spelled_plain parts is.0 is.2)

-- names of that kind
abbrev ArePlain : List (List ℕ) → Type 0
ArePlain names = AllByRecursion IsPlainName names

listed_plain : (pins : List (List ℕ)) → AllByRecursion IsPlain (listed pins) → ArePlain pins
listed_plain [] are = tt
listed_plain (p ∷ []) are = (are.0, tt)
listed_plain (p ∷ q ∷ pins) are = (are.0, listed_plain (q ∷ pins) are.1.1)

-- the nets that a line names
said_plain : (line : List ℕ) (form : Form) → Says line form → ArePlain (named form)
said_plain line nothing says = tt
said_plain line (input n) says =
    let parts = subst (AllByRecursion IsPlain) says.writes.3 (spelled_plain says.parts line says.spells) in (parts.1.1.0, tt)
said_plain line (output n) says =
    let parts = subst (AllByRecursion IsPlain) says.writes.3 (spelled_plain says.parts line says.spells) in (parts.1.1.0, tt)
said_plain line (gate n f pins) says =
    let parts = subst (AllByRecursion IsPlain) says.writes.5 (spelled_plain says.parts line says.spells) in
    (parts.0, listed_plain pins parts.1.1.1.1)

all_plain : (texts : List (List ℕ)) (forms : List Form) → AllZip Says texts forms → ArePlain (flat_map named forms)
all_plain [] [] are = tt
all_plain [] (form ∷ forms) are = absurd are
all_plain (text ∷ texts) [] are = absurd are
all_plain (text ∷ texts) (form ∷ forms) are =
    all_append IsPlainName (named form) (flat_map named forms)
    (said_plain text form are.0) (all_plain texts forms are.1)

-- each name is kept once
added_plain : (before : List (List ℕ)) (name : List ℕ) → ArePlain before → IsPlainName name → ArePlain (added before name)
added_plain before name are one =
    cond_both (list_any (bytes_eq name) before) before (before ++ name ∷ []) ArePlain (λ _. are)
    (λ _. all_append IsPlainName before (name ∷ []) are (one, tt))

fold_plain : (texts before : List (List ℕ)) → ArePlain before → ArePlain texts → ArePlain (fold added before texts)
fold_plain [] before are others = are
fold_plain (name ∷ texts) before are others =
    fold_plain texts (added before name) (added_plain before name are others.0) others.1

plain_names : (names : List (List ℕ)) → ArePlain names
    → AreOneLine names × AllByRecursion (λ (name : List ℕ). printed_name name ≡ name) names
plain_names [] are = (tt, tt)
plain_names (name ∷ names) are =
    let rest = plain_names names are.1 in ((are.0.0, rest.0), (are.0.1, rest.1))

pub net_names_are : (bytes : List ℕ) (net : Net) → IsNet bytes net → AreNames net.names
net_names_are bytes net is =
    let same : names is.forms ≡ net.names = sym (ap (λ (n : Net). n.names) is.net_is) in
    let plain = plain_names net.names
    (subst ArePlain same (fold_plain (flat_map named is.forms) [] tt (all_plain (lines bytes) is.forms is.reads))) in
    record {
      one = plain.0;
      bare = plain.1;
      apart = subst (λ (ns : List (List ℕ)). (n : ℕ) → n < length ns → number ns (get_or ns n []) ≡ n) same
          (AreApart-names is.forms).each;
    }

pub net_names_plain : (bytes : List ℕ) (net : Net) → IsNet bytes net → AreOneLine net.names
net_names_plain bytes net is = (net_names_are bytes net is).one
