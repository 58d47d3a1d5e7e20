-- The loop over a text: what is read of it so far.
use Rattle.std.proofs.Common.{◌≡◌, ℕ, ◌+◌, ◌≤◌, ◌<◌, List, [], ◌∷◌, ◌++◌, length, take, drop, get_or, true, false, Option, Some, None, Result, Err, refl, sym, ap, subst, ◌∙◌, arith, append_assoc, length-append, cond}
use Rattle.std.specs.Prelude.{count_by, ◌==◌}
use Rattle.std.proofs.lemmas.List.{drop_at, take_at, append-nil, take-append-drop, drop_more, length-take-le, take_all, drop_all}
use Rattle.std.proofs.lemmas.List.Sums.{sum_by-append}
use Rattle.std.specs.List.{list_all}
use Rattle.std.proofs.lemmas.Bool.{and_parts, eqb-true, false≢true, false_from_ne_true}
use Rattle.stil_lex.specs.Bytes.{line_feed}
use Rattle.text_bytes.specs.Bytes.{is_word, is_printing}
use Rattle.stil_lex.specs.Pieces.{Piece, gap, token, spelling, IsPiece}
use Rattle.stil_lex.specs.Tokens.{spelled, ArePieces, tokens_of, line_behind, Reads}
use Rattle.stil_lex.specs.Faults.{IsFaultBehind}
use Rattle.stil_lex.specs.Step.{kept, feeds_of, front_of}
use Rattle.stil_lex.specs.declared.token.TokenKind.TheVariants.{Word, Name, Text, Sign}
use Rattle.stil_lex.specs.declared.token.TokenKind.{TokenKind}
use Rattle.stil_lex.specs.declared.token.Token.{Token}
use Rattle.stil_lex.specs.declared.front.Front.{Front}
use Rattle.stil_lex.specs.declared.fault.LexFault.{LexFault}
use Rattle.stil_lex.proofs.Found.{piece_of, IsFront, IsSo}
use Rattle.stil_lex.proofs.Fronts.{front_is_so}
use Rattle.stil_lex.proofs.Readings.{piece_not_empty, found_behind}

-- the spelling of one piece more
pub spelled-push : (ps : List Piece) (q : Piece) → spelled (ps ++ q ∷ []) ≡ spelled ps ++ spelling q
spelled-push [] q = append-nil (spelling q)
spelled-push (p ∷ ps) q = ap (λ ys. spelling p ++ ys) (spelled-push ps q) ∙ sym (append_assoc (spelling p) (spelled ps) (spelling q))

-- one piece more
pub ArePieces-push : (ps : List Piece) (q : Piece) (after : List ℕ) → ArePieces ps (spelling q ++ after) → IsPiece q after → ArePieces (ps ++ q ∷ []) after
ArePieces-push [] q after are is = (is, tt)
ArePieces-push (p ∷ ps) q after are is =
    let behind : spelled ps ++ (spelling q ++ after) ≡ spelled (ps ++ q ∷ []) ++ after = sym (ap (λ ys. ys ++ after) (spelled-push ps q) ∙ append_assoc (spelled ps) (spelling q) after) in
    (subst (IsPiece p) behind are.0, ArePieces-push ps q after are.1 is)

-- the tokens with those of more pieces
pub tokens_of-append : (before : List ℕ) (ps qs : List Piece) → tokens_of before (ps ++ qs) ≡ tokens_of before ps ++ tokens_of (before ++ spelled ps) qs
tokens_of-append before [] qs = ap (λ ys. tokens_of ys qs) (sym (append-nil before))
tokens_of-append before (gap text ∷ ps) qs =
    tokens_of-append (before ++ text) ps qs ∙ ap (λ ys. tokens_of (before ++ text) ps ++ tokens_of ys qs) (append_assoc before text (spelled ps))
tokens_of-append before (token kind text ∷ ps) qs =
    ap (λ ts. record { kind = kind; start = length before; end = length before + length text; line = line_behind before } ∷ ts)
    (tokens_of-append (before ++ text) ps qs ∙ ap (λ ys. tokens_of (before ++ text) ps ++ tokens_of ys qs) (append_assoc before text (spelled ps)))

-- the tokens of one piece are what is kept of its front
pub tokens_of-front : (before : List ℕ) (kind : Option TokenKind) (text : List ℕ)
    → tokens_of before (piece_of kind text ∷ []) ≡ kept kind (length before) (length before + length text) (line_behind before)
tokens_of-front before None text = refl
tokens_of-front before (Some kind) text = refl

-- what is read of the text up to a place, which stands on this line
pub record IsRead (bytes : List ℕ) (at line : ℕ) (tokens : List Token) : Type 0 where
  pub pieces : List Piece
  pub each : ArePieces pieces (drop at bytes)
  pub whole : take at bytes ≡ spelled pieces
  pub are : tokens ≡ tokens_of [] pieces
  pub within : at ≤ length bytes
  pub is_line : line ≡ line_behind (take at bytes)

-- at the start
pub starts : (bytes : List ℕ) → IsRead bytes 0 1 []
starts bytes = record { pieces = []; each = tt; whole = refl; are = refl; within = omega arith; is_line = refl }

-- the front at a place of the text
pub front_at : (bytes : List ℕ) (at : ℕ) (found : Result Front LexFault) → at < length bytes
    → found ≡ front_of at (drop at bytes) → IsSo (drop at bytes) at found
front_at bytes at found below is =
    let e = drop_more bytes at 0 below in
    subst (IsSo (drop at bytes) at) (sym is) (rw e (front_is_so at (get_or bytes at 0) (drop (at + 1) bytes)))

-- a piece of a kind and spelling has this spelling
pub spelling-piece_of : (kind : Option TokenKind) (text : List ℕ) → spelling (piece_of kind text) ≡ text
spelling-piece_of None text = refl
spelling-piece_of (Some kind) text = refl

-- a front is not empty, and within the text
pub front_len : (bytes : List ℕ) (at : ℕ) (kind : Option TokenKind) (len : ℕ) → at ≤ length bytes → IsFront (drop at bytes) kind len
    → (0 < len) × (at + len ≤ length bytes)
front_len bytes at kind len within f =
    let total = ap length (sym (take-append-drop at bytes) ∙ ap (λ ys. take at bytes ++ ys) f.spelled) ∙ (length-append (take at bytes) (f.by ++ f.after) ∙ ap (λ n. length (take at bytes) + n) (length-append f.by f.after)) in
    let filled : 0 < length f.by = rw (ap length (spelling-piece_of kind f.by)) at (piece_not_empty (piece_of kind f.by) f.after f.piece) in
    (omega (arith, f.is_len), omega (arith, f.is_len, length-take-le at bytes within))

-- one front further on
pub goes_on : (bytes : List ℕ) (at line : ℕ) (tokens : List Token) (kind : Option TokenKind) (len feeds : ℕ)
    → IsRead bytes at line tokens → IsFront (drop at bytes) kind len
    → feeds ≡ count_by (λ b. b == line_feed) (take len (drop at bytes)) → IsRead bytes (at + len) (line + feeds) (tokens ++ kept kind at (at + len) line)
goes_on bytes at line tokens kind len feeds r f is_feeds =
    let read = take at bytes in
    let q = piece_of kind f.by in
    let one : spelling q ≡ f.by = spelling-piece_of kind f.by in
    let read_len : length read ≡ at = length-take-le at bytes r.within in
    let place : length (spelled r.pieces) ≡ at = sym (ap length r.whole) ∙ read_len in
    let joined : bytes ≡ (read ++ f.by) ++ f.after =
    sym (take-append-drop at bytes) ∙ (ap (λ ys. read ++ ys) f.spelled ∙ sym (append_assoc read f.by f.after)) in
    let long : length (read ++ f.by) ≡ at + len = length-append read f.by ∙ omega (arith, f.is_len) in
    let front : take (at + len) bytes ≡ read ++ f.by = ap (take (at + len)) joined ∙ take_at (read ++ f.by) f.after (at + len) long in
    let back : drop (at + len) bytes ≡ f.after = ap (drop (at + len)) joined ∙ drop_at (read ++ f.by) f.after (at + len) long in
    let here : take len (drop at bytes) ≡ f.by = ap (take len) f.spelled ∙ take_at f.by f.after len (sym f.is_len) in
    let feeds_is : feeds ≡ count_by (λ b. b == line_feed) f.by = is_feeds ∙ ap (count_by (λ b. b == line_feed)) here in
    record {
      pieces = r.pieces ++ q ∷ [];
      each = subst (ArePieces (r.pieces ++ q ∷ [])) (sym back)
          (ArePieces-push r.pieces q f.after (subst (ArePieces r.pieces) (f.spelled ∙ ap (λ ys. ys ++ f.after) (sym one)) r.each) f.piece);
      whole = front ∙ (ap (λ ys. ys ++ f.by) r.whole ∙ (ap (λ ys. spelled r.pieces ++ ys) (sym one) ∙ sym (spelled-push r.pieces q)));
      are = ap (λ ts. ts ++ kept kind at (at + len) line) r.are ∙ sym (tokens_of-append [] r.pieces (q ∷ []) ∙ ap (λ ts. tokens_of [] r.pieces ++ ts) (
          tokens_of-front (spelled r.pieces) kind f.by
          ∙ (ap (λ n. kept kind n (n + length f.by) (line_behind (spelled r.pieces))) place
          ∙ (ap (λ n. kept kind at (at + n) (line_behind (spelled r.pieces))) (sym f.is_len)
          ∙ ap (kept kind at (at + len)) (ap line_behind (sym r.whole) ∙ sym r.is_line)))));
      within = let total = ap length joined ∙ length-append (read ++ f.by) f.after in omega arith;
      is_line = let counts = sum_by-append (λ b. cond (b == line_feed) 1 0) read f.by in
          sym (ap line_behind front ∙ (ap (λ n. 1 + n) counts ∙ omega (arith, r.is_line, feeds_is)));
    }

-- a word has no line feed
no_feeds : (text : List ℕ) → list_all is_word text ≡ true → count_by (λ b. b == line_feed) text ≡ 0
unfolding is_word
no_feeds [] each = refl
no_feeds (b ∷ text) each =
    let parts = and_parts (is_word b) (list_all is_word text) each in
    let other : (b == line_feed) ≡ false = false_from_ne_true (b == line_feed) (λ same.
    false≢true (ap is_word (sym (eqb-true b line_feed same)) ∙ parts.0)) in
    rw other (no_feeds text parts.1)

-- a sign has none
no_feed : (b : ℕ) → is_printing b ≡ true → (b == line_feed) ≡ false
unfolding is_printing
no_feed b prints =
    false_from_ne_true (b == line_feed) (λ same. false≢true (ap is_printing (sym (eqb-true b line_feed same)) ∙ prints))

-- what is counted of a piece are all its line feeds
feeds_are : (kind : Option TokenKind) (text after : List ℕ) → IsPiece (piece_of kind text) after →
    feeds_of kind text ≡ count_by (λ b. b == line_feed) text
feeds_are None text after piece = refl
feeds_are (Some Word) text after word = sym (no_feeds text word.each)
feeds_are (Some Name) text after quoted = refl
feeds_are (Some Text) text after quoted = refl
feeds_are (Some (Sign b)) text after sign =
    sym (ap (count_by (λ c. c == line_feed)) sign.spelled ∙ rw (no_feed b sign.printing) refl)

-- the same of the piece at the front of a text
pub feeds_at : (text : List ℕ) (kind : Option TokenKind) (len feeds : ℕ) → IsFront text kind len →
    feeds ≡ feeds_of kind (take len text) → feeds ≡ count_by (λ b. b == line_feed) (take len text)
feeds_at text kind len feeds f is =
    let here : take len text ≡ f.by = ap (take len) f.spelled ∙ take_at f.by f.after len (sym f.is_len) in
    is ∙ ap (feeds_of kind) here ∙ feeds_are kind f.by f.after f.piece ∙ ap (count_by (λ b. b == line_feed)) (sym here)

-- an end
pub is_done : (bytes : List ℕ) (at line : ℕ) (tokens : List Token) → IsRead bytes at line tokens → length bytes ≤ at → Reads bytes tokens
is_done bytes at line tokens r all =
    record {
      pieces = r.pieces;
      each = subst (ArePieces r.pieces) (drop_all at bytes all) r.each;
      whole = sym (take_all at bytes all) ∙ r.whole;
      are = r.are;
    }

-- a fault
pub stops : (bytes : List ℕ) (at line : ℕ) (tokens : List Token) (fault : LexFault) → IsRead bytes at line tokens
    → Err fault ≡ front_of at (drop at bytes) → IsFaultBehind bytes tokens fault
stops bytes at line tokens fault r is =
    let place : length (spelled r.pieces) ≡ at = sym (ap length r.whole) ∙ length-take-le at bytes r.within in
    let found = found_behind bytes r.pieces (drop at bytes) fault r.each (sym (take-append-drop at bytes) ∙ ap (λ ys. ys ++ drop at bytes) r.whole) (ap (λ n. front_of n (drop at bytes)) place ∙ sym is) in
    (found.0, r.are ∙ ap (tokens_of []) (sym found.1))
