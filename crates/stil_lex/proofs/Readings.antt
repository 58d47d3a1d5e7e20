-- A text has one reading: one list of tokens, or one fault.
use Rattle.std.proofs.Common.{◌≡◌, ℕ, ◌<◌, List, [], ◌∷◌, ◌++◌, length, take, drop, Result, Ok, Err, refl, sym, ap, subst, ◌∙◌, inl, inr, ◌⊎◌, arith, append_assoc, length-append}
use Rattle.std.proofs.lemmas.List.{drop_at, take_at, append-nil}
use Rattle.stil_lex.specs.Pieces.{Piece, gap, token, spelling, IsPiece, IsGap.blank, IsGap.line_comment, IsGap.comment, IsGap.annotation}
use Rattle.stil_lex.specs.Tokens.{spelled, ArePieces, tokens_of, Reads}
use Rattle.stil_lex.specs.Faults.{IsRefusal, Refuses, IsFault}
use Rattle.stil_lex.specs.Step.{a_gap, front_of}
use Rattle.stil_lex.specs.declared.token.TokenKind.TheVariants.{Word, Name, Text, Sign}
use Rattle.stil_lex.specs.declared.token.Token.{Token}
use Rattle.stil_lex.specs.declared.front.Front.{Front}
use Rattle.stil_lex.specs.declared.fault.LexFault.{LexFault}
use Rattle.stil_lex.proofs.Found.{IsSo}
use Rattle.stil_lex.proofs.Fronts.{front_is_so}
use Rattle.stil_lex.proofs.Pieces.{front_for, piece_is_found}
use Rattle.stil_lex.proofs.Refusals.{refusal_is_found}

-- no piece stands at the front of the text
abbrev pub Stops : List ℕ → Type 0
Stops text = (text ≡ []) ⊎ ((at : ℕ) × (fault : LexFault) × (front_of at text ≡ Err fault))

-- pieces of one front and one spelling are one piece
pub same_piece : (p q : Piece) → front_for p ≡ front_for q → spelling p ≡ spelling q → p ≡ q
same_piece (gap text) (gap other) f s = ap gap s
same_piece (gap text) (token kind other) f s = let kinds = ap (λ (front : Front). front.kind) f in cc
same_piece (token kind text) (gap other) f s = let kinds = ap (λ (front : Front). front.kind) f in cc
same_piece (token kind text) (token other_kind other) f s = let kinds = ap (λ (front : Front). front.kind) f in cc

-- the length of a piece's front is that of its spelling
pub len-front_for : (p : Piece) → (front_for p).len ≡ length (spelling p)
len-front_for (gap text) = refl
len-front_for (token kind text) = refl

-- no piece is empty
pub piece_not_empty : (p : Piece) (after : List ℕ) → IsPiece p after → 0 < length (spelling p)
piece_not_empty (gap text) after (blank b) = omega (arith, ap length b.spelled)
piece_not_empty (gap text) after (line_comment l) = omega (arith, ap length l.spelled)
piece_not_empty (gap text) after (comment k) = omega (arith, ap length k.spelled)
piece_not_empty (gap text) after (annotation a) = omega (arith, ap length a.spelled)
piece_not_empty (token Word []) after w = absurd (w.not_empty refl)
piece_not_empty (token Word (b ∷ text)) after w = omega arith
piece_not_empty (token Name text) after q = omega (arith, ap length q.spelled)
piece_not_empty (token Text text) after q = omega (arith, ap length q.spelled)
piece_not_empty (token (Sign b) text) after s = omega (arith, ap length s.spelled)

-- two pieces at the front of one text are one, and so is what stands behind them
pub one_piece : (p q : Piece) (after behind : List ℕ) → IsPiece p after → IsPiece q behind → spelling p ++ after ≡ spelling q ++ behind
    → (p ≡ q) × (after ≡ behind)
one_piece p q after behind is_p is_q e =
    let fronts : ◌≡◌ {A = Result Front LexFault} (Ok (front_for p)) (Ok (front_for q)) = sym (piece_is_found 0 p after is_p) ∙ (ap (front_of 0) e ∙ piece_is_found 0 q behind is_q) in
    let same : front_for p ≡ front_for q = cc in
    let long : length (spelling p) ≡ length (spelling q) = sym (len-front_for p) ∙ (ap (λ (f : Front). f.len) same ∙ len-front_for q) in
    let texts : spelling p ≡ spelling q =
    sym (take_at (spelling p) after (length (spelling q)) long) ∙ (ap (take (length (spelling q))) e ∙ take_at (spelling q) behind (length (spelling q)) refl) in (
      same_piece p q same texts,
      sym (drop_at (spelling p) after (length (spelling q)) long) ∙ (ap (drop (length (spelling q))) e ∙ drop_at (spelling q) behind (length (spelling q)) refl),
    )

-- where nothing stands, no piece does
pub no_piece : (text after : List ℕ) (p : Piece) → IsPiece p after → text ≡ spelling p ++ after → Stops text → ⊥
no_piece text after p is e (inl empty) = let long = ap length (sym empty ∙ e) ∙ length-append (spelling p) after in omega (arith, piece_not_empty p after is)
no_piece text after p is e (inr stops) =
    let found : ◌≡◌ {A = Result Front LexFault} (Err stops.1) (Ok (front_for p)) = sym stops.2 ∙ (ap (front_of stops.0) e ∙ piece_is_found stops.0 p after is) in
    cc

-- pieces of one text, up to where no piece stands, are one list
pub one_reading : (ps qs : List Piece) (rest other : List ℕ) → ArePieces ps rest → ArePieces qs other → Stops rest → Stops other
    → spelled ps ++ rest ≡ spelled qs ++ other → (ps ≡ qs) × (rest ≡ other)
one_reading [] [] rest other are_p are_q stops_p stops_q e = (refl, e)
one_reading [] (q ∷ qs) rest other are_p are_q stops_p stops_q e =
    absurd (no_piece rest (spelled qs ++ other) q are_q.0 (e ∙ append_assoc (spelling q) (spelled qs) other) stops_p)
one_reading (p ∷ ps) [] rest other are_p are_q stops_p stops_q e =
    absurd (no_piece other (spelled ps ++ rest) p are_p.0 (sym e ∙ append_assoc (spelling p) (spelled ps) rest) stops_q)
one_reading (p ∷ ps) (q ∷ qs) rest other are_p are_q stops_p stops_q e =
    let first = one_piece p q (spelled ps ++ rest) (spelled qs ++ other) are_p.0 are_q.0 (sym (append_assoc (spelling p) (spelled ps) rest) ∙ (e ∙ append_assoc (spelling q) (spelled qs) other)) in
    let more = one_reading ps qs rest other are_p.1 are_q.1 stops_p stops_q first.1 in
    let heads = first.0 in
    let tails = more.0 in
    (cc, more.1)

-- a refusal stops the reading
pub refusal_stops : (text : List ℕ) (at : ℕ) (fault : LexFault) → IsRefusal text at fault → Stops text
refusal_stops text at fault h = let f = refusal_is_found text at fault h in inr (at, f.found, f.is)

-- the tokens of a text are one list
pub one_token_list : (bytes : List ℕ) (tokens others : List Token) → Reads bytes tokens → Reads bytes others → tokens ≡ others
one_token_list bytes tokens others r s =
    let e : spelled r.pieces ++ [] ≡ spelled s.pieces ++ [] = append-nil (spelled r.pieces) ∙ (sym r.whole ∙ (s.whole ∙ sym (append-nil (spelled s.pieces)))) in
    let same = one_reading r.pieces s.pieces [] [] r.each s.each (inl refl) (inl refl) e in
    r.are ∙ (ap (tokens_of []) same.0 ∙ sym s.are)

-- no text has both tokens and a refusal
pub tokens_or_refusal : (bytes : List ℕ) (tokens : List Token) (fault : LexFault) → Reads bytes tokens → Refuses bytes fault → ⊥
unfolding front_of
tokens_or_refusal bytes tokens fault r f =
    let e : spelled r.pieces ++ [] ≡ spelled f.pieces ++ f.rest = append-nil (spelled r.pieces) ∙ (sym r.whole ∙ f.whole) in
    let same = one_reading r.pieces f.pieces [] f.rest r.each f.each (inl refl) (refusal_stops f.rest _ fault f.refusal) e in
    let found = refusal_is_found f.rest (length (spelled f.pieces)) fault f.refusal in
    let is : ◌≡◌ {A = Result Front LexFault} (Ok (a_gap 0)) (Err found.found) = ap (front_of (length (spelled f.pieces))) same.1 ∙ found.is in
    cc

-- what is found in place of a refusal is a refusal too
pub found_is_refusal : (text : List ℕ) (at : ℕ) (fault : LexFault) → front_of at text ≡ Err fault → IsRefusal text at fault
unfolding front_of
found_is_refusal [] at fault e = let clash : ◌≡◌ {A = Result Front LexFault} (Ok (a_gap 0)) (Err fault) = e in cc
found_is_refusal (b ∷ rest) at fault e = subst (IsSo (b ∷ rest) at) e (front_is_so at b rest)

-- the fault of a text is what is found at its refusal
pub fault_is_found : (bytes : List ℕ) (fault : LexFault) (f : IsFault bytes fault) → front_of (length (spelled f.here.pieces)) f.here.rest ≡ Err fault
fault_is_found bytes fault f =
    let h = f.here in
    let at = length (spelled h.pieces) in
    let found = refusal_is_found h.rest at fault h.refusal in
    let least = f.smallest found.found (record { pieces = h.pieces; rest = h.rest; each = h.each; whole = h.whole; refusal = found_is_refusal h.rest at found.found found.is }) in
    found.is ∙ ap Err (found.same (omega (arith, found.no_later)))

-- what is found first is the fault, and before it stand these pieces
pub found_behind : (bytes : List ℕ) (pieces : List Piece) (rest : List ℕ) (fault : LexFault) → ArePieces pieces rest → bytes ≡ spelled pieces ++ rest
    → front_of (length (spelled pieces)) rest ≡ Err fault → (is : IsFault bytes fault) × (is.here.pieces ≡ pieces)
found_behind bytes pieces rest fault each whole is =
    let at = length (spelled pieces) in (
      record {
        here = record { pieces = pieces; rest = rest; each = each; whole = whole; refusal = found_is_refusal rest at fault is };
        smallest = λ other o.
            let same = one_reading pieces o.pieces rest o.rest each o.each (inr (at, fault, is)) (refusal_stops o.rest _ other o.refusal) (sym whole ∙ o.whole) in
            let found = refusal_is_found o.rest (length (spelled o.pieces)) other o.refusal in
            let one : ◌≡◌ {A = Result Front LexFault} (Err fault) (Err found.found) =
            sym is ∙ (ap (λ ps. front_of (length (spelled ps)) rest) same.0 ∙ (ap (front_of (length (spelled o.pieces))) same.1 ∙ found.is)) in
            let equal : fault ≡ found.found = cc in
            rw equal found.no_later;
      },
      refl,
    )

-- the fault of a text is one
pub one_fault : (bytes : List ℕ) (fault other : LexFault) → IsFault bytes fault → IsFault bytes other → fault ≡ other
one_fault bytes fault other f g =
    let h = f.here in
    let k = g.here in
    let same = one_reading h.pieces k.pieces h.rest k.rest h.each k.each (refusal_stops h.rest _ fault h.refusal) (refusal_stops k.rest _ other k.refusal) (sym h.whole ∙ k.whole) in
    let one : ◌≡◌ {A = Result Front LexFault} (Err fault) (Err other) =
    sym (fault_is_found bytes fault f)
    ∙ (ap (λ ps. front_of (length (spelled ps)) h.rest) same.0 ∙ (ap (front_of (length (spelled k.pieces))) same.1 ∙ fault_is_found bytes other g)) in
    cc
