-- Texts and lines that are written one after another on a sheet.
use Rattle.std.proofs.Common.{◌≡◌, ℕ, ◌+◌, ◌-◌, ◌<◌, Bool, true, false, cond, List, [], ◌∷◌, ◌++◌, length, map, take, get_or, Option, Some, None, refl, sym, ap, ◌∙◌, arith, append_assoc, append-nil, length-append}
use Rattle.std.specs.Prelude.{codes, nat_le}
use Rattle.std.specs.List.{flat_map, range_with_len}
use Rattle.std.proofs.lemmas.List.{take_more, map-append}
use Rattle.std.proofs.lemmas.Grind.{flat_map-append}
use Rattle.std.proofs.lemmas.Bool.{le-leb}
use Rattle.std.proofs.lemmas.Bool.Decides.{nat_tests}
use Rattle.text_bytes.proofs.ListLemmas.{range-more}
use Rattle.flat_parts.specs.FlatText.{with_feed, text_of, block}
use Rattle.flat_stil.specs.Working.{Written, wrote, prints}

-- ---- texts

-- a sheet that holds this text, with this room
abbrev held : List ℕ → ℕ → Option Written
held text room = Some (record { text = text; room = room })

-- no text
pub wrote_nothing : (s : Option Written) → wrote s [] ≡ s
unfolding wrote
wrote_nothing None = refl
wrote_nothing (Some w) =
    let all : w.room - 0 ≡ w.room = omega arith in
    ap (λ (f : Bool). cond f (held (w.text ++ []) (w.room - 0)) None) (le-leb 0 w.room (omega arith))
    ∙ ap (λ (t : List ℕ). held t (w.room - 0)) (append-nil w.text) ∙ ap (held w.text) all

-- a text that has no room in front of another
no_room : (w : Written) (a b : List ℕ) → nat_le (length a) w.room ≡ false → nat_le (length (a ++ b)) w.room ≡ false
no_room w a b h = let l = length-append a b in grind (arith, nat_tests, h, l)

-- one that has: the other has room behind it where both together have
room_behind : (w : Written) (a b : List ℕ) → nat_le (length a) w.room ≡ true
    → nat_le (length (a ++ b)) w.room ≡ nat_le (length b) (w.room - length a)
room_behind w a b h = let l = length-append a b in grind (arith, nat_tests, h, l)

-- what is left behind both
left_behind : (room : ℕ) (a b : List ℕ) → room - length (a ++ b) ≡ room - length a - length b
left_behind room a b = let l = length-append a b in omega arith

split_by : (w : Written) (a b : List ℕ) (fits : Bool) → nat_le (length a) w.room ≡ fits
    → wrote (Some w) (a ++ b) ≡ wrote (cond fits (held (w.text ++ a) (w.room - length a)) None) b
unfolding wrote
split_by w a b false h = ap (λ (f : Bool). cond f (held (w.text ++ (a ++ b)) (w.room - length (a ++ b))) None) (no_room w a b h)
split_by w a b true h =
    ap (λ (f : Bool). cond f (held (w.text ++ (a ++ b)) (w.room - length (a ++ b))) None) (room_behind w a b h)
    ∙ ap (λ (t : List ℕ). cond (nat_le (length b) (w.room - length a)) (held t (w.room - length (a ++ b))) None) (sym (append_assoc w.text a b))
    ∙ ap (λ (n : ℕ). cond (nat_le (length b) (w.room - length a)) (held ((w.text ++ a) ++ b) n) None) (left_behind w.room a b)

-- two texts are written one after the other
pub wrote-append : (s : Option Written) (a b : List ℕ) → wrote s (a ++ b) ≡ wrote (wrote s a) b
unfolding wrote
wrote-append None a b = refl
wrote-append (Some w) a b = split_by w a b (nat_le (length a) w.room) refl

-- three
pub wrote_three : (s : Option Written) (a b c : List ℕ) → wrote (wrote (wrote s a) b) c ≡ wrote s (a ++ (b ++ c))
wrote_three s a b c = sym (wrote-append s a (b ++ c) ∙ wrote-append (wrote s a) b c)

-- ---- lines

-- no line
pub prints_nothing : (s : Option Written) → prints s [] ≡ s
unfolding prints text_of
prints_nothing s = wrote_nothing s

-- lines behind lines
pub prints-append : (s : Option Written) (a b : List (List ℕ)) → prints s (a ++ b) ≡ prints (prints s a) b
unfolding prints text_of
prints-append s a b = ap (wrote s) (flat_map-append with_feed a b) ∙ wrote-append s (flat_map with_feed a) (flat_map with_feed b)

-- lines behind a line
pub prints-cons : (s : Option Written) (line : List ℕ) (lines : List (List ℕ))
    → prints s (line ∷ lines) ≡ prints (prints s (line ∷ [])) lines
prints-cons s line lines = prints-append s (line ∷ []) lines

-- a line and its line feed
pub prints_line : (s : Option Written) (line : List ℕ) → wrote (wrote s line) (codes "\n") ≡ prints s (line ∷ [])
unfolding prints text_of
prints_line s line = sym (wrote-append s line (codes "\n")) ∙ ap (wrote s) (sym (append-nil (with_feed line)))

-- a line, the front of which is written before
pub prints_behind : (s : Option Written) (front line : List ℕ) → prints (wrote s front) (line ∷ []) ≡ prints s ((front ++ line) ∷ [])
prints_behind s front line =
    sym (prints_line (wrote s front) line) ∙ ap (λ (w : Option Written). wrote w (codes "\n")) (sym (wrote-append s front line))
    ∙ prints_line s (front ++ line)

-- a block
pub prints_block : (s : Option Written) (opening : List ℕ) (lines : List (List ℕ))
    → prints (prints (prints s (opening ∷ [])) lines) (codes "}" ∷ []) ≡ prints s (block opening lines)
unfolding block
prints_block s opening lines =
    sym (prints-append (prints s (opening ∷ [])) lines (codes "}" ∷ [])) ∙ sym (prints-cons s opening (lines ++ codes "}" ∷ []))

-- ---- one more of many

-- the lines of an item behind those of the items before it
pub lines_more : {X : Type 0} (lines : X → List (List ℕ)) (s : Option Written) (items : List X) (i : ℕ) (other item : X)
    → i < length items → item ≡ get_or items i other
    → prints (prints s (flat_map lines (take i items))) (lines item) ≡ prints s (flat_map lines (take (i + 1) items))
lines_more {X = X} lines s items i other item within is =
    sym (prints-append s (flat_map lines (take i items)) (lines item))
    ∙ ap (λ (ls : List (List ℕ)). prints s (flat_map lines (take i items) ++ ls)) (sym (append-nil (lines item)))
    ∙ ap (prints s) (sym (flat_map-append lines (take i items) (item ∷ [])))
    ∙ ap (λ (x : X). prints s (flat_map lines (take i items ++ x ∷ []))) is
    ∙ ap (λ xs. prints s (flat_map lines xs)) (sym (take_more items i other within))

-- the line of an item
pub line_more : {X : Type 0} (line : X → List ℕ) (s : Option Written) (items : List X) (i : ℕ) (other item : X)
    → i < length items → item ≡ get_or items i other
    → prints (prints s (map line (take i items))) (line item ∷ []) ≡ prints s (map line (take (i + 1) items))
line_more {X = X} line s items i other item within is =
    sym (prints-append s (map line (take i items)) (line item ∷ []))
    ∙ ap (prints s) (sym (map-append line (take i items) (item ∷ [])))
    ∙ ap (λ (x : X). prints s (map line (take i items ++ x ∷ []))) is
    ∙ ap (λ xs. prints s (map line xs)) (sym (take_more items i other within))

-- the text of an item
pub text_more : {X : Type 0} (text : X → List ℕ) (s : Option Written) (items : List X) (i : ℕ) (other item : X)
    → i < length items → item ≡ get_or items i other
    → wrote (wrote s (flat_map text (take i items))) (text item) ≡ wrote s (flat_map text (take (i + 1) items))
text_more {X = X} text s items i other item within is =
    sym (wrote-append s (flat_map text (take i items)) (text item))
    ∙ ap (λ (t : List ℕ). wrote s (flat_map text (take i items) ++ t)) (sym (append-nil (text item)))
    ∙ ap (wrote s) (sym (flat_map-append text (take i items) (item ∷ [])))
    ∙ ap (λ (x : X). wrote s (flat_map text (take i items ++ x ∷ []))) is
    ∙ ap (λ xs. wrote s (flat_map text xs)) (sym (take_more items i other within))

-- ---- one more of many numbers

-- the lines of a number
pub lines_next : (lines : ℕ → List (List ℕ)) (s : Option Written) (n : ℕ)
    → prints (prints s (flat_map lines (range_with_len 0 n))) (lines n) ≡ prints s (flat_map lines (range_with_len 0 (n + 1)))
lines_next lines s n =
    sym (prints-append s (flat_map lines (range_with_len 0 n)) (lines n))
    ∙ ap (λ (ls : List (List ℕ)). prints s (flat_map lines (range_with_len 0 n) ++ ls)) (sym (append-nil (lines n)))
    ∙ ap (prints s) (sym (flat_map-append lines (range_with_len 0 n) (n ∷ [])))
    ∙ ap (λ (ns : List ℕ). prints s (flat_map lines ns)) (sym (range-more n))

-- the line of a number
pub line_next : (line : ℕ → List ℕ) (s : Option Written) (n : ℕ)
    → prints (prints s (map line (range_with_len 0 n))) (line n ∷ []) ≡ prints s (map line (range_with_len 0 (n + 1)))
line_next line s n =
    sym (prints-append s (map line (range_with_len 0 n)) (line n ∷ []))
    ∙ ap (prints s) (sym (map-append line (range_with_len 0 n) (n ∷ [])))
    ∙ ap (λ (ns : List ℕ). prints s (map line ns)) (sym (range-more n))

-- the text of a number
pub text_next : (text : ℕ → List ℕ) (s : Option Written) (n : ℕ)
    → wrote (wrote s (flat_map text (range_with_len 0 n))) (text n) ≡ wrote s (flat_map text (range_with_len 0 (n + 1)))
text_next text s n =
    sym (wrote-append s (flat_map text (range_with_len 0 n)) (text n))
    ∙ ap (λ (t : List ℕ). wrote s (flat_map text (range_with_len 0 n) ++ t)) (sym (append-nil (text n)))
    ∙ ap (wrote s) (sym (flat_map-append text (range_with_len 0 n) (n ∷ [])))
    ∙ ap (λ (ns : List ℕ). wrote s (flat_map text ns)) (sym (range-more n))

-- ---- the same of sheets on the way

-- three texts, one after another
pub three_texts : (s a b c : Option Written) (x y z : List ℕ) → a ≡ wrote s x → b ≡ wrote a y → c ≡ wrote b z
    → c ≡ wrote s (x ++ (y ++ z))
three_texts s a b c x y z first second third =
    third ∙ ap (λ (w : Option Written). wrote w z) (second ∙ ap (λ (w : Option Written). wrote w y) first) ∙ wrote_three s x y z

-- a line in three pieces
pub three_pieces : (s a b c : Option Written) (x y z : List ℕ) → a ≡ wrote s x → b ≡ wrote a y → c ≡ prints b (z ∷ [])
    → c ≡ prints s ((x ++ (y ++ z)) ∷ [])
three_pieces s a b c x y z first second third =
    third ∙ ap (λ (w : Option Written). prints w (z ∷ [])) second ∙ prints_behind a y z
    ∙ ap (λ (w : Option Written). prints w ((y ++ z) ∷ [])) first ∙ prints_behind s x (y ++ z)

-- lines behind lines
pub then_lines : (s a b : Option Written) (x y : List (List ℕ)) → a ≡ prints s x → b ≡ prints a y → b ≡ prints s (x ++ y)
then_lines s a b x y first second =
    second ∙ ap (λ (w : Option Written). prints w y) first ∙ sym (prints-append s x y)

-- lines behind a line
pub line_then : (s a b : Option Written) (line : List ℕ) (lines : List (List ℕ)) → a ≡ prints s (line ∷ [])
    → b ≡ prints a lines → b ≡ prints s (line ∷ lines)
line_then s a b line lines first second =
    second ∙ ap (λ (w : Option Written). prints w lines) first ∙ sym (prints-cons s line lines)

-- a block
pub block_written : (s a b c : Option Written) (first : List ℕ) (lines : List (List ℕ)) → a ≡ prints s (first ∷ [])
    → b ≡ prints a lines → c ≡ prints b (codes "}" ∷ []) → c ≡ prints s (block first lines)
block_written s a b c first lines opened written closed =
    closed
    ∙ ap (λ (w : Option Written). prints w (codes "}" ∷ [])) (written ∙ ap (λ (w : Option Written). prints w lines) opened)
    ∙ prints_block s first lines

-- the lines of one more item
pub lines_step : {X : Type 0} (lines : X → List (List ℕ)) (s a b : Option Written) (items : List X) (i : ℕ) (other item : X)
    → i < length items → item ≡ get_or items i other → a ≡ prints s (flat_map lines (take i items)) → b ≡ prints a (lines item)
    → b ≡ prints s (flat_map lines (take (i + 1) items))
lines_step lines s a b items i other item within is before more =
    more ∙ ap (λ (w : Option Written). prints w (lines item)) before ∙ lines_more lines s items i other item within is

-- the line of one more item
pub line_step : {X : Type 0} (line : X → List ℕ) (s a b : Option Written) (items : List X) (i : ℕ) (other item : X)
    → i < length items → item ≡ get_or items i other → a ≡ prints s (map line (take i items)) → b ≡ prints a (line item ∷ [])
    → b ≡ prints s (map line (take (i + 1) items))
line_step line s a b items i other item within is before more =
    more ∙ ap (λ (w : Option Written). prints w (line item ∷ [])) before ∙ line_more line s items i other item within is

-- the text of one more item
pub text_step : {X : Type 0} (text : X → List ℕ) (s a b : Option Written) (items : List X) (i : ℕ) (other item : X)
    → i < length items → item ≡ get_or items i other → a ≡ wrote s (flat_map text (take i items)) → b ≡ wrote a (text item)
    → b ≡ wrote s (flat_map text (take (i + 1) items))
text_step text s a b items i other item within is before more =
    more ∙ ap (λ (w : Option Written). wrote w (text item)) before ∙ text_more text s items i other item within is

-- the lines of one more number
pub lines_at : (lines : ℕ → List (List ℕ)) (s a b : Option Written) (n : ℕ) → a ≡ prints s (flat_map lines (range_with_len 0 n))
    → b ≡ prints a (lines n) → b ≡ prints s (flat_map lines (range_with_len 0 (n + 1)))
lines_at lines s a b n before more =
    more ∙ ap (λ (w : Option Written). prints w (lines n)) before ∙ lines_next lines s n

-- the line of one more number
pub line_at : (line : ℕ → List ℕ) (s a b : Option Written) (n : ℕ) → a ≡ prints s (map line (range_with_len 0 n))
    → b ≡ prints a (line n ∷ []) → b ≡ prints s (map line (range_with_len 0 (n + 1)))
line_at line s a b n before more =
    more ∙ ap (λ (w : Option Written). prints w (line n ∷ [])) before ∙ line_next line s n

-- the text of one more number
pub text_at : (text : ℕ → List ℕ) (s a b : Option Written) (n : ℕ) → a ≡ wrote s (flat_map text (range_with_len 0 n))
    → b ≡ wrote a (text n) → b ≡ wrote s (flat_map text (range_with_len 0 (n + 1)))
text_at text s a b n before more =
    more ∙ ap (λ (w : Option Written). wrote w (text n)) before ∙ text_next text s n
