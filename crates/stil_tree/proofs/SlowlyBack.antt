-- The plain slow reader finds what the grammar has at the front of tokens, so that where it finds none there are no statements.
use Rattle.std.proofs.Common.{◌≡◌, ℕ, suc, ◌+◌, ◌-◌, ◌<◌, true, false, ◌||◌, not, List, [], ◌∷◌, ◌++◌, length, take, drop, get_or, refl, sym, ap, ◌∙◌, subst, arith, length-append, append_assoc, ne_eqb}
use Rattle.std.specs.Prelude.{◌==◌}
use Rattle.std.specs.List.{list_any, position_or_len}
use Rattle.std.proofs.lemmas.Bool.{or_parts, or_left, or_right, cond-true, cond-false, false≢true}
use Rattle.std.proofs.lemmas.List.{take_at, drop_at, get_or_at, drop-drop}
use Rattle.stil_lex.specs.declared.token.Token.{Token}
use Rattle.stil_tree.specs.Signs.{semicolon, open_brace, close_brace, is_sign, is_delimiter}
use Rattle.stil_tree.specs.Trees.{Trees}
use Rattle.stil_tree.specs.Grammar.{most_levels, AreHead, ParsesAt, ParsesAt.nothing, ParsesAt.skipped, ParsesAt.ended, ParsesAt.nested}
use Rattle.stil_tree.specs.Slow.{block_end}
use Rattle.stil_tree.proofs.Steps.{is_kind-other}
use Rattle.stil_tree.proofs.Sound.{ParsesAt-at}
use Rattle.stil_tree.proofs.Cuts.{FirstDelimiter, cut}

-- the first delimiter stands behind a head
pub position-head : (head : List Token) (delimiter : Token) (rest : List Token) → AreHead head
    → is_delimiter delimiter ≡ true → position_or_len is_delimiter (head ++ delimiter ∷ rest) ≡ length head
position-head [] delimiter rest are is = cond-false (not (is_delimiter delimiter)) (1 + position_or_len is_delimiter rest) 0 (ap not is)
position-head (t ∷ head) delimiter rest are is =
    let parts = or_parts (is_delimiter t) (list_any is_delimiter head) are in
    let more = position-head head delimiter rest parts.1 is in
    cond-true (not (is_delimiter t)) (1 + position_or_len is_delimiter (head ++ delimiter ∷ rest)) 0 (ap not parts.0) ∙ omega arith

-- heads and delimiters of one list are one
pub same_cut : (h k : List Token) (m n : Token) (r s : List Token) → AreHead h → AreHead k → is_delimiter m ≡ true
    → is_delimiter n ≡ true → h ++ m ∷ r ≡ k ++ n ∷ s
    → (h ≡ k) × (m ≡ n) × (r ≡ s)
same_cut [] [] m n r s are_h are_k is_m is_n e = (refl, cc, cc)
same_cut [] (u ∷ k) m n r s are_h are_k is_m is_n e =
    let first : m ≡ u = cc in
    absurd (false≢true (sym (or_parts (is_delimiter u) (list_any is_delimiter k) are_k).0 ∙ (ap is_delimiter (sym first) ∙ is_m)))
same_cut (t ∷ h) [] m n r s are_h are_k is_m is_n e =
    let first : t ≡ n = cc in
    absurd (false≢true (sym (or_parts (is_delimiter t) (list_any is_delimiter h) are_h).0 ∙ (ap is_delimiter first ∙ is_n)))
same_cut (t ∷ h) (u ∷ k) m n r s are_h are_k is_m is_n e =
    let first : t ≡ u = cc in
    let behind : h ++ m ∷ r ≡ k ++ n ∷ s = cc in
    let more = same_cut h k m n r s (or_parts (is_delimiter t) (list_any is_delimiter h) are_h).1 (or_parts (is_delimiter u) (list_any is_delimiter k) are_k).1 is_m is_n behind in
    let heads = more.0 in
    (cc, more.1, more.2)

-- each of the three signs is a delimiter
pub semicolon_delimiters : (t : Token) → is_sign semicolon t ≡ true → is_delimiter t ≡ true
semicolon_delimiters t is = or_left (is_sign semicolon t || is_sign open_brace t) (is_sign close_brace t) (or_left (is_sign semicolon t) (is_sign open_brace t) is)

pub brace_delimiters : (t : Token) → is_sign open_brace t ≡ true → is_delimiter t ≡ true
brace_delimiters t is =
    or_left (is_sign semicolon t || is_sign open_brace t) (is_sign close_brace t) (or_right (is_sign semicolon t) (is_sign open_brace t) is)

-- a block behind a head, and statements behind the block
pub record IsNested (depth at : ℕ) (rest : List Token) : Type 0 where
  pub few : depth < most_levels
  pub inner : List Token
  pub close : Token
  pub after : List Token
  pub spelled : rest ≡ inner ++ close ∷ after
  pub body : Trees
  pub inside : ParsesAt (suc depth) at body inner
  pub closes : is_sign close_brace close ≡ true
  pub more : Trees
  pub behind : ParsesAt depth (at + length inner + 1) more after

-- what the grammar has behind the first delimiter
pub data Opens (depth at : ℕ) (delimiter : Token) (rest : List Token) : Type 0 where
  by_semicolon : is_sign semicolon delimiter ≡ true → (more : Trees) → ParsesAt depth at more rest → Opens depth at delimiter rest
  by_brace : is_sign open_brace delimiter ≡ true → IsNested depth at rest → Opens depth at delimiter rest

-- statements, by the first delimiter
pub inverts : {depth at : ℕ} {found : Trees} {tokens : List Token} → ParsesAt depth at found tokens
    → (head : List Token) (delimiter : Token) (rest : List Token)
    → tokens ≡ head ++ delimiter ∷ rest → AreHead head → is_delimiter delimiter ≡ true → Opens depth (at + length head + 1) delimiter rest
inverts (nothing depth at) head delimiter rest e are is = absurd (omega (arith, ap length e, length-append head (delimiter ∷ rest)))
inverts (skipped depth at more stop tail ends p) head delimiter rest e are is =
    let same = same_cut [] head stop delimiter tail rest refl are (semicolon_delimiters stop ends) is e in
    by_semicolon (subst (λ (t : Token). is_sign semicolon t ≡ true) same.1 ends) more
    (subst (λ (ts : List Token). ParsesAt depth (at + length head + 1) more ts) same.2 (ParsesAt-at (at + length head + 1) (omega (arith, ap length same.0)) p))
inverts (ended depth at more front stop tail some are_front ends p) head delimiter rest e are is =
    let same = same_cut front head stop delimiter tail rest are_front are (semicolon_delimiters stop ends) is e in
    by_semicolon (subst (λ (t : Token). is_sign semicolon t ≡ true) same.1 ends) more
    (subst (λ (ts : List Token). ParsesAt depth (at + length head + 1) more ts) same.2 (ParsesAt-at (at + length head + 1) (omega (arith, ap length same.0)) p))
inverts (nested depth at body more front brace inner close tail few are_front opens inside closes p) head delimiter rest e are is =
    let same = same_cut front head brace delimiter (inner ++ close ∷ tail) rest are_front are (brace_delimiters brace opens) is e in
    let long = ap length same.0 in
    by_brace (subst (λ (t : Token). is_sign open_brace t ≡ true) same.1 opens) record {
      few = few;
      inner = inner;
      close = close;
      after = tail;
      spelled = sym same.2;
      body = body;
      inside = ParsesAt-at (at + length head + 1) (omega (arith, long)) inside;
      closes = closes;
      more = more;
      behind = ParsesAt-at (at + length head + 1 + length inner + 1) (omega (arith, long)) p;
    }

-- statements have a first delimiter
pub has_delimiter : {depth at : ℕ} {found : Trees} {tokens : List Token} → ParsesAt depth at found tokens → 0 < length tokens → FirstDelimiter tokens
has_delimiter (nothing depth at) some = absurd (omega (arith, some))
has_delimiter (skipped depth at more stop tail ends p) some =
    record { head = []; delimiter = stop; rest = tail; spelled = refl; are_head = refl; is_it = semicolon_delimiters stop ends; place = position-head [] stop tail refl (semicolon_delimiters stop ends) }
has_delimiter (ended depth at more front stop tail n_empty are_front ends p) some =
    record { head = front; delimiter = stop; rest = tail; spelled = refl; are_head = are_front; is_it = semicolon_delimiters stop ends; place = position-head front stop tail are_front (semicolon_delimiters stop ends) }
has_delimiter (nested depth at body more front brace inner close tail few are_front opens inside closes p) some =
    record {
      head = front;
      delimiter = brace;
      rest = inner ++ close ∷ tail;
      spelled = refl;
      are_head = are_front;
      is_it = brace_delimiters brace opens;
      place = position-head front brace (inner ++ close ∷ tail) are_front (brace_delimiters brace opens);
    }

-- the end of a block stands behind a token that is no brace
pub end-other : (n : ℕ) (t : Token) (ts : List Token) → is_sign open_brace t ≡ false → is_sign close_brace t ≡ false → block_end n (t ∷ ts) ≡ 1 + block_end n ts
end-other n t ts n_open n_close = rw (n_open, n_close)

-- behind a `{`
pub end-open : (n : ℕ) (t : Token) (ts : List Token) → is_sign open_brace t ≡ true → block_end n (t ∷ ts) ≡ 1 + block_end (n + 1) ts
end-open n t ts is = rw is

-- at the `}` that closes it
pub end-close : (t : Token) (ts : List Token) → is_sign close_brace t ≡ true → block_end 0 (t ∷ ts) ≡ 0
end-close t ts is =
    let n_open : is_sign open_brace t ≡ false = is_kind-other close_brace open_brace t.kind is refl in
    rw (n_open, is)

-- behind a `}` that closes another
pub end-close_more : (n : ℕ) (t : Token) (ts : List Token) → is_sign close_brace t ≡ true → 0 < n → block_end n (t ∷ ts) ≡ 1 + block_end (n - 1) ts
end-close_more n t ts is some =
    let n_open : is_sign open_brace t ≡ false = is_kind-other close_brace open_brace t.kind is refl in
    let other : (n == 0) ≡ false = ne_eqb n 0 (λ e. omega (arith, e, some)) in
    rw (n_open, is, other)

-- behind a head
pub end-head : (n : ℕ) (head ys : List Token) → AreHead head → block_end n (head ++ ys) ≡ length head + block_end n ys
end-head n [] ys are = omega arith
end-head n (t ∷ head) ys are =
    let parts = or_parts (is_delimiter t) (list_any is_delimiter head) are in
    let signs = or_parts (is_sign semicolon t || is_sign open_brace t) (is_sign close_brace t) parts.0 in
    let front = or_parts (is_sign semicolon t) (is_sign open_brace t) signs.0 in
    end-other n t (head ++ ys) front.1 signs.1 ∙ omega (arith, end-head n head ys parts.1)

-- behind a `;`
pub end-semicolon : (n : ℕ) (t : Token) (ts : List Token) → is_sign semicolon t ≡ true → block_end n (t ∷ ts) ≡ 1 + block_end n ts
end-semicolon n t ts is = end-other n t ts (is_kind-other semicolon open_brace t.kind is refl) (is_kind-other semicolon close_brace t.kind is refl)

-- behind whole statements
pub end-parses : {depth at : ℕ} {found : Trees} {tokens : List Token} → ParsesAt depth at found tokens
    → (n : ℕ) (ys : List Token) → block_end n (tokens ++ ys) ≡ length tokens + block_end n ys
end-parses (nothing depth at) n ys = omega arith
end-parses (skipped depth at more stop tail ends p) n ys = end-semicolon n stop (tail ++ ys) ends ∙ omega (arith, end-parses p n ys)
end-parses (ended depth at more front stop tail some are_front ends p) n ys =
    ap (block_end n) (append_assoc front (stop ∷ tail) ys)
    ∙ (end-head n front (stop ∷ (tail ++ ys)) are_front
    ∙ omega (arith, end-semicolon n stop (tail ++ ys) ends, end-parses p n ys, length-append front (stop ∷ tail)))
end-parses (nested depth at body more front brace inner close tail few are_front opens inside closes p) n ys =
    let behind = close ∷ (tail ++ ys) in
    let regroup : (front ++ brace ∷ (inner ++ close ∷ tail)) ++ ys ≡ front ++ brace ∷ (inner ++ behind) =
    append_assoc front (brace ∷ (inner ++ close ∷ tail)) ys ∙ ap (λ ts. front ++ brace ∷ ts) (append_assoc inner (close ∷ tail) ys) in
    let less : n + 1 - 1 ≡ n = omega arith in
    ap (block_end n) regroup
    ∙ (end-head n front (brace ∷ (inner ++ behind)) are_front
    ∙ omega (
      arith,
      end-open n brace (inner ++ behind) opens,
      end-parses inside (n + 1) behind,
      end-close_more (n + 1) close (tail ++ ys) closes (omega arith),
      ap (λ k. block_end k (tail ++ ys)) less,
      end-parses p n ys,
      length-append front (brace ∷ (inner ++ close ∷ tail)),
      length-append inner (close ∷ tail),
    ))

-- behind the first delimiter stand whole statements
pub after_semicolon : (depth at count : ℕ) (found : Trees) (tokens : List Token) (d : Token)
    → ParsesAt depth at found tokens → count ≡ position_or_len is_delimiter tokens → count < length tokens
    → is_sign semicolon (get_or tokens count d) ≡ true → (more : Trees) × ParsesAt depth (at + (count + 1)) more (drop (count + 1) tokens)
after_semicolon depth at count found tokens d p is below ends =
    let c = cut tokens count d is below in
    let delimiter = get_or tokens count d in
    by (inverts p c.head delimiter c.rest c.spelled c.are_head (semicolon_delimiters delimiter ends)) c.behind (omega (arith, c.count_is)) delimiter ends
  where
    by : {rest behind : List Token} {place other : ℕ} {m : Token} → Opens depth place m rest → behind ≡ rest
        → place ≡ other → (delimiter : Token) → is_sign semicolon m ≡ true
        → (more : Trees) × ParsesAt depth other more behind
    by {rest} {behind} {place} {other} {m} (by_semicolon is more q) e same delimiter ends =
        (more, subst (λ (ts : List Token). ParsesAt depth other more ts) (sym e) (ParsesAt-at other same q))
    by {rest} {behind} {place} {other} {m} (by_brace is k) e same delimiter ends = absurd (false≢true (sym (is_kind-other semicolon open_brace m.kind ends refl) ∙ is))

-- a block that the grammar has behind a head is what the slow reader looks for
pub record IsBlock (depth at count : ℕ) (tokens : List Token) : Type 0 where
  pub few : depth < most_levels
  pub short : block_end 0 (drop (count + 1) tokens) < length (drop (count + 1) tokens)
  pub closes : (e : Token) → is_sign close_brace (get_or (drop (count + 1) tokens) (block_end 0 (drop (count + 1) tokens)) e) ≡ true
  pub body : Trees
  pub inside : ParsesAt (depth + 1) (at + count + 1) body (take (block_end 0 (drop (count + 1) tokens)) (drop (count + 1) tokens))
  pub more : Trees
  pub behind : ParsesAt depth (at + (count + 1 + block_end 0 (drop (count + 1) tokens) + 1)) more (drop (count + 1 + block_end 0 (drop (count + 1) tokens) + 1) tokens)

-- the same, of a block that is found
pub nested_is : (depth at count : ℕ) (tokens : List Token) → IsNested depth (at + count + 1) (drop (count + 1) tokens) → IsBlock depth at count tokens
nested_is depth at count tokens k =
    let rest = drop (count + 1) tokens in
    let len : block_end 0 rest ≡ length k.inner =
    ap (block_end 0) k.spelled ∙ (end-parses k.inside 0 (k.close ∷ k.after) ∙ omega (arith, end-close k.close k.after k.closes)) in
    let long : length rest ≡ length k.inner + (1 + length k.after) = omega (arith, ap length k.spelled ∙ length-append k.inner (k.close ∷ k.after)) in
    let delimiter : (e : Token) → get_or rest (block_end 0 rest) e ≡ k.close = λ e. ap (λ ts. get_or ts (block_end 0 rest) e) k.spelled ∙ get_or_at k.inner k.close k.after e (block_end 0 rest) (sym len) in
    let front : take (block_end 0 rest) rest ≡ k.inner = ap (take (block_end 0 rest)) k.spelled ∙ take_at k.inner (k.close ∷ k.after) (block_end 0 rest) (sym len) in
    let wide : length (k.inner ++ k.close ∷ []) ≡ block_end 0 rest + 1 = length-append k.inner (k.close ∷ []) ∙ omega (arith, len) in
    let back : drop (block_end 0 rest + 1) rest ≡ k.after =
    ap (drop (block_end 0 rest + 1)) (k.spelled ∙ sym (append_assoc k.inner (k.close ∷ []) k.after)) ∙ drop_at (k.inner ++ k.close ∷ []) k.after (block_end 0 rest + 1) wide in
    let left : drop (count + 1 + block_end 0 rest + 1) tokens ≡ k.after = ap (λ n. drop n tokens) (omega arith) ∙ (sym (drop-drop (block_end 0 rest + 1) (count + 1) tokens) ∙ back) in
    let deeper : suc depth ≡ depth + 1 = omega arith in
    record {
      few = k.few;
      short = omega (arith, len, long);
      closes = λ e. ap (is_sign close_brace) (delimiter e) ∙ k.closes;
      body = k.body;
      inside = subst (λ (n : ℕ). ParsesAt n (at + count + 1) k.body (take (block_end 0 rest) rest)) deeper (subst (λ (ts : List Token). ParsesAt (suc depth) (at + count + 1) k.body ts) (sym front) k.inside);
      more = k.more;
      behind = subst (λ (ts : List Token). ParsesAt depth (at + (count + 1 + block_end 0 rest + 1)) k.more ts) (sym left) (ParsesAt-at (at + (count + 1 + block_end 0 rest + 1)) (omega (arith, len)) k.behind);
    }

-- what the grammar has of tokens whose first delimiter is no `;`
pub block_behind : (depth at count : ℕ) (found : Trees) (tokens : List Token) (d : Token)
    → ParsesAt depth at found tokens → count ≡ position_or_len is_delimiter tokens → count < length tokens
    → is_sign semicolon (get_or tokens count d) ≡ false → (is_sign open_brace (get_or tokens count d) ≡ true) × IsBlock depth at count tokens
block_behind depth at count found tokens d p is below n_end =
    let c = cut tokens count d is below in
    let some : 0 < length tokens = omega (arith, below) in
    let f = has_delimiter p some in
    let delimiter : get_or tokens count d ≡ f.delimiter = ap (λ ts. get_or ts count d) f.spelled ∙ get_or_at f.head f.delimiter f.rest d count (sym f.place ∙ sym is) in
    let is_it : is_delimiter (get_or tokens count d) ≡ true = ap is_delimiter delimiter ∙ f.is_it in
    by (inverts p c.head (get_or tokens count d) c.rest c.spelled c.are_head is_it) c.behind (omega (arith, c.count_is)) n_end
  where
    by : {rest : List Token} {place : ℕ} {m : Token} → Opens depth place m rest → drop (count + 1) tokens ≡ rest
        → place ≡ at + count + 1 → is_sign semicolon m ≡ false
        → (is_sign open_brace m ≡ true) × IsBlock depth at count tokens
    by {rest} {place} {m} (by_semicolon is more q) same here n_end = absurd (false≢true (sym n_end ∙ is))
    by {rest} {place} {m} (by_brace is k) same here n_end =
        (is, nested_is depth at count tokens (subst (λ (ts : List Token). IsNested depth (at + count + 1) ts) (sym same) (subst (λ (n : ℕ). IsNested depth n rest) here k)))

-- tokens without a delimiter are no statements
pub no_delimiter : (depth at : ℕ) (found : Trees) (tokens : List Token) → ParsesAt depth at found tokens
    → 0 < length tokens → position_or_len is_delimiter tokens ≡ length tokens → ⊥
no_delimiter depth at found tokens p some all =
    let f = has_delimiter p some in
    omega (arith, all, f.place, ap length f.spelled, length-append f.head (f.delimiter ∷ f.rest))
