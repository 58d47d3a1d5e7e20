-- Scan structures that are read have their form.
use Rattle.std.proofs.Common.{◌≡◌, ℕ, Bool, true, false, cond, nat_le, nat_lt, nat_eq, ◌≤◌, ◌+◌, arith, ◌||◌, List, [], ◌∷◌, ◌++◌, map, Option, Some, None, is_some, Result, Ok, Err, refl, sym, ap, subst, ◌∙◌}
use Rattle.std.specs.List.{AllByRecursion, list_all, list_any, cons_option}
use Rattle.std.specs.Prelude.{option_map}
use Rattle.std.specs.Cmp.Derive.{both_true}
use Rattle.std.proofs.lemmas.Bool.{or_parts, ne_eqb, ltb-true}
use Rattle.std.proofs.lemmas.List.Sums.{sum_by_push}
use Rattle.std.proofs.lemmas.Slice.Eq.{bytes_eq-Decides}
use Rattle.std.proofs.Math.Dec.{T, eqb_refl}
use Rattle.std.proofs.lemmas.List.{map-append, append-nil}
use Rattle.std.proofs.lemmas.List.Folds.{list_any-append}
use Rattle.std.proofs.lemmas.List.Elements.{filter_map-append}
use Rattle.text_bytes.proofs.ListLemmas.{list_any-map}
use Rattle.stil_tree.specs.Trees.{Entry}
use Rattle.answers.specs.Reading.{and_then}
use Rattle.stil_form.specs.declared.fault.FormKind.{FormKind}
use Rattle.stil_form.specs.declared.fault.FormKind.TheVariants.{OutOfRange, Twice}
use Rattle.stil_form.specs.Setting.{Setting, lexemes_at, at_statement, inner_of, unskipped}
use Rattle.text_bytes.specs.Limits.{most_cells, most_chains}
use Rattle.stil_ast.specs.Data.Texts.{is_name, same}
use Rattle.stil_ast.specs.Data.Forms.{all_differ}
use Rattle.stil_ast.specs.Data.BlockForms.{is_chain_stmt, chain_kind, is_chain_decl, is_scan_block}
use Rattle.stil_ast.specs.declared.name.NameRef.{NameRef}
use Rattle.stil_ast.specs.declared.scan.ChainDecl.{ChainDecl}
use Rattle.stil_ast.specs.declared.scan.ChainStmt.{ChainStmt}
use Rattle.stil_ast.specs.declared.scan.ChainStmt.TheVariants.{Length, In, Out}
use Rattle.stil_ast.specs.declared.scan.ScanBlock.{ScanBlock}
use Rattle.scan_blocks.specs.declared.chain.ChainWord.{ChainWord}
use Rattle.scan_blocks.specs.declared.chain.ChainWord.TheVariants as word
use Rattle.scan_blocks.specs.declared.chain.ChainSaid.{ChainSaid}
use Rattle.pat_read.specs.Statements.{only_name}
use Rattle.block_forms.specs.Heads.{rest_at, titled_block, count_under, under}
use Rattle.block_forms.specs.Named.{Names, named_on}
use Rattle.scan_blocks.specs.Cells.{cells_said}
use Rattle.block_forms.specs.Keywords.{first_meaning}
use Rattle.scan_blocks.specs.Chains.{names_of, chain_words, word_number, same_word, only_number, length_by, end_by, inversion_by, cells_on, stmt_said, plain_said, has_word, new_said, judge_stmt, with_words, stmts_in, effects_of, is_chain, chain_name, one_more, new_chain, chain_on, chain_said, judge_chain, chains_in, scans_called, scan_block}
use Rattle.pat_read.proofs.AcceptedLemmas.{said_at, list_all-one}
use Rattle.pat_read.proofs.AcceptedBodies.{is_name-only_name}
use Rattle.block_forms.proofs.AcceptedLemmas.{both_taken, kept_each, kept_read, IsLined, HasLine, inner_lined}
use Rattle.block_forms.proofs.FormLemmas.{made_where, said_unless, is_name-named_block, is_optional_name-titled_block}
use Rattle.block_forms.proofs.DeclaredForms.{under-more, all_differ-push}
use Rattle.scan_blocks.proofs.CellLemmas.{cells_said-are}

-- a statement of this keyword has its form
abbrev SaidFits : ChainWord → Option ChainStmt → Type 0
SaidFits w None = Unit {0}
SaidFits w (Some stmt) = (is_chain_stmt stmt ≡ true) × (chain_kind stmt ≡ word_number w)

-- a length
within_length : (n : ℕ) (b : Bool) (said : Option ChainStmt) → nat_le n most_cells ≡ b
    → cond {A = Result (Option ChainStmt) FormKind} b (Ok (Some (Length n))) (Err OutOfRange) ≡ Ok said
    → SaidFits word.Length said
within_length n true said within is = let same : Some (Length n) ≡ said = cc in subst (SaidFits word.Length) same (within, refl)
within_length n false said within is = cc

length_fits : (r : Result ℕ FormKind) (said : Option ChainStmt) → length_by r ≡ Ok said
    → SaidFits word.Length said
length_fits (Ok n) said is = within_length n (nat_le n most_cells) said refl is
length_fits (Err kind) said is = cc

-- the ends of a chain
in_fits : (s : Setting) (e : Entry) (r : Result (List ℕ) FormKind) (said : Option ChainStmt)
    → ((c : List ℕ) → r ≡ Ok c → is_name c ≡ true) → HasLine s e
    → end_by (λ called. In (named_on s e called)) r ≡ Ok said → SaidFits word.In said
in_fits s e (Ok c) said named lined is =
    let same : Some (In (named_on s e c)) ≡ said = cc in subst (SaidFits word.In) same (both_true (named c refl) lined, refl)
in_fits s e (Err kind) said named lined is = cc

out_fits : (s : Setting) (e : Entry) (r : Result (List ℕ) FormKind) (said : Option ChainStmt)
    → ((c : List ℕ) → r ≡ Ok c → is_name c ≡ true) → HasLine s e
    → end_by (λ called. Out (named_on s e called)) r ≡ Ok said → SaidFits word.Out said
out_fits s e (Ok c) said named lined is =
    let same : Some (Out (named_on s e c)) ≡ said = cc in subst (SaidFits word.Out) same (both_true (named c refl) lined, refl)
out_fits s e (Err kind) said named lined is = cc

-- the cells
cells_fit : (s : Setting) (e : Entry) (said : Option ChainStmt) → HasLine s e
    → stmt_said s e word.Cells ≡ Ok said → SaidFits word.Cells said
cells_fit s e said lined is =
    let parts = both_taken (cells_said e.first (rest_at s e)) (λ (cells : List NameRef). Ok (Some (cells_on s e cells))) said is in
    let are = cells_said-are e.first (rest_at s e) parts.0 parts.1 in
    let same : Some (cells_on s e parts.0) ≡ said = cc in
    subst (SaidFits word.Cells) same (both_true (both_true are.0 are.1) lined, refl)

-- an inversion has no effect
inversion_fits : (r : Result ℕ FormKind) (said : Option ChainStmt) → inversion_by r ≡ Ok said
    → SaidFits word.Inversion said
inversion_fits (Ok n) said is = let same : ◌≡◌ {A = Option ChainStmt} None said = cc in subst (SaidFits word.Inversion) same tt
inversion_fits (Err kind) said is = cc

-- a statement by its keyword
stmt_fits : (s : Setting) (e : Entry) (w : ChainWord) (said : Option ChainStmt) → HasLine s e
    → stmt_said s e w ≡ Ok said → SaidFits w said
stmt_fits s e word.Length said lined is =
    length_fits (only_number (rest_at s e)) said (said_at e.first (length_by (only_number (rest_at s e))) said is)
stmt_fits s e word.In said lined is =
    in_fits s e (only_name (rest_at s e)) said (is_name-only_name (rest_at s e)) lined
    (said_at e.first (end_by (λ called. In (named_on s e called)) (only_name (rest_at s e))) said is)
stmt_fits s e word.Out said lined is =
    out_fits s e (only_name (rest_at s e)) said (is_name-only_name (rest_at s e)) lined
    (said_at e.first (end_by (λ called. Out (named_on s e called)) (only_name (rest_at s e))) said is)
stmt_fits s e word.Cells said lined is = cells_fit s e said lined is
stmt_fits s e word.Inversion said lined is =
    inversion_fits (only_number (rest_at s e)) said (said_at e.first (inversion_by (only_number (rest_at s e))) said is)

plain_fits : (s : Setting) (e : Entry) (w : ChainWord) (b : Bool) (said : Option ChainStmt) → HasLine s e
    → plain_said s e w b ≡ Ok said → SaidFits w said
plain_fits s e w true said lined is = cc
plain_fits s e w false said lined is = stmt_fits s e w said lined is

-- none of two
none : (a b : Bool) → a ≡ false → b ≡ false → (a || (b || false)) ≡ false
none true b p q = cc
none false true p q = cc
none false false p q = refl

-- a number is itself
not_apart : (b : Bool) → T b → b ≡ false → ⊥
not_apart true itself is = cc
not_apart false itself is = absurd itself

-- numbers that differ, differ in the other order
apart_back : (x k : ℕ) → nat_eq k x ≡ false → nat_eq x k ≡ false
apart_back x k is = ne_eqb x k (λ same. not_apart (nat_eq k k) (eqb_refl k) (subst (λ (n : ℕ). nat_eq k n ≡ false) same is))

-- none of some numbers
any_back : (k : ℕ) (xs : List ℕ) → list_any (nat_eq k) xs ≡ false → list_any (λ x. nat_eq x k) xs ≡ false
any_back k [] is = refl
any_back k (x ∷ xs) is =
    let parts = or_parts (nat_eq k x) (list_any (nat_eq k) xs) is in
    ap (λ (b : Bool). b || list_any (λ y. nat_eq y k) xs) (apart_back x k parts.0) ∙ any_back k xs parts.1

-- the numbers of statements are among those of keywords
abbrev Among : List ChainWord → List ChainStmt → Type 0
Among words stmts = (n : ℕ) → list_any (nat_eq n) (map word_number words) ≡ false → list_any (nat_eq n) (map chain_kind stmts) ≡ false

-- the statements of a chain have their form, and none of them stands twice
abbrev FitBy : List ChainWord → List ChainStmt → Type 0
FitBy words stmts =
    (list_all is_chain_stmt stmts ≡ true) × (all_differ nat_eq (map chain_kind stmts) ≡ true) × Among words stmts

-- the keywords of what is said
abbrev words_of : List ChainSaid → List ChainWord
words_of said = map (λ (d : ChainSaid). d.word) said

-- the same of what is said
abbrev Fit : List ChainSaid → Type 0
Fit said = FitBy (words_of said) (effects_of said)

-- of more keywords
of_more : (words : List ChainWord) (w : ChainWord) (n : ℕ) → list_any (nat_eq n)
    (map word_number (words ++ w ∷ [])) ≡ false
    → (list_any (nat_eq n) (map word_number words) ≡ false) × (nat_eq n (word_number w) ≡ false)
of_more words w n is =
    let split : list_any (nat_eq n) (map word_number (words ++ w ∷ [])) ≡ (list_any (nat_eq n) (map word_number words) || (nat_eq n (word_number w) || false)) =
    ap (list_any (nat_eq n)) (map-append word_number words (w ∷ [])) ∙ list_any-append (nat_eq n) (map word_number words) (word_number w ∷ []) in
    let parts = or_parts (list_any (nat_eq n) (map word_number words)) (nat_eq n (word_number w) || false) (sym split ∙ is) in
    (parts.0, (or_parts (nat_eq n (word_number w)) false parts.1).0)

-- one more statement of a new keyword
effect_fits : (words : List ChainWord) (stmts : List ChainStmt) (w : ChainWord) (effect : Option ChainStmt)
    → FitBy words stmts → SaidFits w effect → list_any (same_word w) words ≡ false
    → FitBy (words ++ w ∷ []) (stmts ++ cons_option effect [])
effect_fits words stmts w None fit one new =
    subst (FitBy (words ++ w ∷ [])) (sym (append-nil stmts))
    (fit.0, fit.1, λ n none_of. fit.2 n (of_more words w n none_of).0)
effect_fits words stmts w (Some stmt) fit one new =
    let away : list_any (nat_eq (word_number w)) (map chain_kind stmts) ≡ false =
    fit.2 (word_number w) (list_any-map word_number (nat_eq (word_number w)) words ∙ new) in (
      list_all-one is_chain_stmt stmts stmt fit.0 one.0,
      ap (all_differ nat_eq) (map-append chain_kind stmts (stmt ∷ []))
          ∙ all_differ-push nat_eq (map chain_kind stmts) (chain_kind stmt) fit.1
          (any_back (chain_kind stmt) (map chain_kind stmts) (ap (λ k. list_any (nat_eq k) (map chain_kind stmts)) one.1 ∙ away)),
      λ n none_of.
          let parts = of_more words w n none_of in
          ap (list_any (nat_eq n)) (map-append chain_kind stmts (stmt ∷ [])) ∙ list_any-append (nat_eq n) (map chain_kind stmts) (chain_kind stmt ∷ [])
          ∙ none (list_any (nat_eq n) (map chain_kind stmts)) (nat_eq n (chain_kind stmt)) (fit.2 n parts.0) (ap (nat_eq n) one.1 ∙ parts.1),
    )

said_fits : (before : List ChainSaid) (w : ChainWord) (effect : Option ChainStmt) → Fit before
    → SaidFits w effect → has_word before w ≡ false → Fit (before ++ record { word = w; effect = effect } ∷ [])
said_fits before w effect fit one new =
    let said : ChainSaid = record { word = w; effect = effect } in
    let more = effect_fits (words_of before) (effects_of before) w effect fit one
    (list_any-map (λ (d : ChainSaid). d.word) (same_word w) before ∙ new) in
    subst (λ (words : List ChainWord). FitBy words (effects_of (before ++ said ∷ [])))
    (sym (map-append (λ (d : ChainSaid). d.word) before (said ∷ [])))
    (subst (FitBy (words_of before ++ w ∷ [])) (sym (filter_map-append (λ (d : ChainSaid). d.effect) before (said ∷ []))) more)

-- what a statement says behind those before it
judge_fits : (s : Setting) (before : List ChainSaid) (p : ChainWord × Entry) (said : ChainSaid) → IsLined s p.1
    → Fit before → judge_stmt s before p ≡ Ok said → Fit (before ++ said ∷ [])
judge_fits s before (w, e) said lined fit is =
    let parts = both_taken (plain_said s e w (is_some e.body)) (λ effect. at_statement e.first (new_said before w effect)) said is in
    let new = said_unless (has_word before w) Twice (Ok (record { word = w; effect = parts.0 })) said
    (said_at e.first (new_said before w parts.0) said parts.2) in
    let same : record { word = w; effect = parts.0 } ≡ said = cc (new.1) in
    subst (λ (x : ChainSaid). Fit (before ++ x ∷ [])) same
    (said_fits before w parts.0 fit (plain_fits s e w (is_some e.body) parts.0 lined.0 parts.1) new.0)

-- those that have a keyword have lines too
lined_by : (s : Setting) (e : Entry) (o : Option ChainWord) (ps : List (ChainWord × Entry)) → IsLined s e
    → AllByRecursion (λ (p : ChainWord × Entry). IsLined s p.1) ps
    → AllByRecursion (λ (p : ChainWord × Entry). IsLined s p.1) (cons_option (option_map (λ word. (word, e)) o) ps)
lined_by s e None ps one all = all
lined_by s e (Some word) ps one all = (one, all)

words_lined : (s : Setting) (es : List Entry) → AllByRecursion (IsLined s) es
    → AllByRecursion (λ (p : ChainWord × Entry). IsLined s p.1) (with_words s es)
words_lined s [] all = tt
words_lined s (e ∷ es) all =
    lined_by s e (first_meaning chain_words (lexemes_at s e)) (with_words s es) all.0 (words_lined s es all.1)

-- the name of a chain
name_fits : (s : Setting) (e : Entry) (b : Bool) (c : List ℕ) → chain_name s e b ≡ Ok c → is_name c ≡ true
name_fits s e true c is = is_name-named_block s e c is
name_fits s e false c is = cc

-- a chain that is read has its form
chain_fits : (s : Setting) (title : List ℕ) (declared : Names) (e : Entry) (d : ChainDecl) → IsLined s e
    → chain_said s title declared e ≡ Ok d → is_chain_decl d ≡ true
chain_fits s title declared e d lined is =
    let outer = both_taken (new_chain s title declared e) (λ called. and_then (stmts_in s (inner_of e.body)) (λ said. Ok (chain_on s e called said))) d is in
    let heads = both_taken (chain_name s e (is_chain (lexemes_at s e))) (λ called. at_statement e.first (one_more declared title called)) outer.0 outer.1 in
    let called : is_name outer.0 ≡ true =
    subst (λ (c : List ℕ). is_name c ≡ true) (made_where (nat_lt (count_under declared title) most_chains) OutOfRange heads.0 outer.0 (said_at e.first (one_more declared title heads.0) outer.0 heads.2)).1
    (name_fits s e (is_chain (lexemes_at s e)) heads.0 heads.1) in
    let inner = both_taken (stmts_in s (inner_of e.body)) (λ said. Ok (chain_on s e outer.0 said)) d outer.2 in
    let fit = kept_read (judge_stmt s) Fit (λ (p : ChainWord × Entry). IsLined s p.1) (judge_fits s)
    [] inner.0 (with_words s (unskipped s (inner_of e.body)))
    (words_lined s (unskipped s (inner_of e.body)) (inner_lined s e lined)) (refl, refl, λ n none_of. refl) inner.1 in
    let same : chain_on s e outer.0 inner.0 ≡ d = cc in
    subst (λ (x : ChainDecl). is_chain_decl x ≡ true) same (both_true (both_true (both_true called fit.0) fit.1) lined.0)

-- a scan structure that is read has its form
pub scan_block-is : (s : Setting) (declared : Names) (e : Entry) (b : ScanBlock) → IsLined s e
    → scan_block s declared e ≡ Ok b → is_scan_block b ≡ true
scan_block-is s declared e b lined is =
    let outer = both_taken (titled_block s e) (λ title. and_then (chains_in s title declared (inner_of e.body)) (λ chains. Ok (scans_called title chains))) b is in
    let titled = is_optional_name-titled_block s e outer.0 outer.1 in
    let inner = both_taken (chains_in s outer.0 declared (inner_of e.body)) (λ chains. Ok (scans_called outer.0 chains)) b outer.2 in
    let each = kept_each (judge_chain s outer.0 declared) is_chain_decl (IsLined s)
    (λ before x d l i. chain_fits s outer.0 (declared ++ _) x d l i) [] inner.0 (unskipped s (inner_of e.body)) (inner_lined s e lined) refl inner.1 in
    let same : scans_called outer.0 inner.0 ≡ b = cc in
    subst (λ (x : ScanBlock). is_scan_block x ≡ true) same (both_true titled each)

-- as many chains as there may be under each title
abbrev pub AreFew : Names → Type 0
AreFew declared = (title : List ℕ) → count_under declared title ≤ most_chains

-- one more under a title with room
few_by : (declared : Names) (title other : List ℕ) (b : Bool) → same title other ≡ b
    → nat_lt (count_under declared title) most_chains ≡ true → count_under declared other ≤ most_chains
    → count_under declared other + cond {A = ℕ} b 1 0 ≤ most_chains
few_by declared title other true is room few =
    let one : title ≡ other = (bytes_eq-Decides title other).0 is in
    let less = ltb-true (count_under declared title) most_chains room in
    let counts = ap (count_under declared) one in
    omega (arith, less, counts)
few_by declared title other false is room few = omega (arith, few)

few_more : (declared : Names) (title called : List ℕ) → nat_lt (count_under declared title) most_chains ≡ true
    → AreFew declared → AreFew (declared ++ (title, called) ∷ [])
few_more declared title called room few = λ other.
    subst (λ (n : ℕ). n ≤ most_chains)
    (sym (sum_by_push (λ (d : List ℕ × List ℕ). cond (same d.0 other) 1 0) declared (title, called)))
    (few_by declared title other (same title other) refl room (few other))

-- there was room
chain_room : (s : Setting) (title : List ℕ) (declared : Names) (e : Entry) (d : ChainDecl)
    → chain_said s title declared e ≡ Ok d → nat_lt (count_under declared title) most_chains ≡ true
chain_room s title declared e d is =
    let outer = both_taken (new_chain s title declared e)
    (λ called. and_then (stmts_in s (inner_of e.body)) (λ said. Ok (chain_on s e called said))) d is in
    let heads = both_taken (chain_name s e (is_chain (lexemes_at s e)))
    (λ called. at_statement e.first (one_more declared title called)) outer.0 outer.1 in
    (made_where (nat_lt (count_under declared title) most_chains) OutOfRange heads.0 outer.0
    (said_at e.first (one_more declared title heads.0) outer.0 heads.2)).0

-- behind a block there are no more under any title than there may be
pub scan_block-few : (s : Setting) (declared : Names) (e : Entry) (b : ScanBlock) → IsLined s e → AreFew declared
    → scan_block s declared e ≡ Ok b → AreFew (declared ++ under b.name (names_of b.chains))
scan_block-few s declared e b lined few is =
    let outer = both_taken (titled_block s e)
    (λ title. and_then (chains_in s title declared (inner_of e.body)) (λ chains. Ok (scans_called title chains))) b is in
    let inner = both_taken (chains_in s outer.0 declared (inner_of e.body)) (λ chains. Ok (scans_called outer.0 chains)) b outer.2 in
    let P : List ChainDecl → Type 0 = λ read. AreFew (declared ++ under outer.0 (names_of read)) in
    let all = kept_read (judge_chain s outer.0 declared) P (IsLined s)
    (λ before x d l p i. subst AreFew (under-more (λ (x : ChainDecl). x.name) outer.0 declared before d)
    (few_more (declared ++ under outer.0 (names_of before)) outer.0 d.name
    (chain_room s outer.0 (declared ++ under outer.0 (names_of before)) x d i) p))
    [] inner.0 (unskipped s (inner_of e.body)) (inner_lined s e lined) (subst AreFew (sym (append-nil declared)) few) inner.1 in
    let same_one : scans_called outer.0 inner.0 ≡ b = cc in
    subst (λ (x : ScanBlock). AreFew (declared ++ under x.name (names_of x.chains))) same_one all
