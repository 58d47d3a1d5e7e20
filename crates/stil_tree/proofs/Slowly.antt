-- The plain slow reader: statement by statement, whatever completes the rest completes the whole.
use Rattle.std.proofs.Common.{◌≡◌, ℕ, zero, suc, ◌+◌, ◌≤◌, ◌<◌, true, List, [], ◌∷◌, ◌++◌, length, take, drop, get_or, Option, Some, refl, sym, ap, ◌∙◌, subst, arith}
use Rattle.std.specs.List.{position_or_len}
use Rattle.std.proofs.lemmas.List.{length-take-le, drop-drop, drop_all, take-append-drop, length-drop, drop_more}
use Rattle.stil_lex.specs.declared.token.Token.{Token}
use Rattle.stil_tree.specs.declared.stmt.Stmt.{Stmt}
use Rattle.stil_tree.specs.declared.stmt.StmtList.{StmtList}
use Rattle.stil_tree.specs.declared.stmt.Stmt.TheViews.{roll-Stmt}
use Rattle.stil_tree.specs.Signs.{semicolon, open_brace, close_brace, is_sign, is_delimiter}
use Rattle.stil_tree.specs.Trees.{Trees, end, plain, block, in_front, trees, entry_of}
use Rattle.stil_tree.specs.Grammar.{most_levels, AreHead, ParsesAt, ParsesAt.nothing, ParsesAt.skipped, ParsesAt.ended, ParsesAt.nested}
use Rattle.stil_tree.specs.Step.{join}
use Rattle.stil_tree.specs.Slow.{IsFirst, trees_of, before, plain_before, block_end}
use Rattle.stil_tree.proofs.Lists.{entry_of-block, trees_of-push, join-in_front}
use Rattle.stil_tree.proofs.Runs.{join-end, join_assoc}
use Rattle.stil_tree.proofs.Steps.{is_kind-other}
use Rattle.stil_tree.proofs.Sound.{ParsesAt-at}
use Rattle.stil_tree.proofs.Cuts.{cut}
use Rattle.stil_tree.proofs.SlowlyBack.{after_semicolon, block_behind}

-- a statement that `;` ends, or one that is skipped
pub plain-first : (depth at count : ℕ) (tokens : List Token) (d : Token) (stmt : Option Stmt)
    → count ≡ position_or_len is_delimiter tokens → count < length tokens
    → is_sign semicolon (get_or tokens count d) ≡ true
    → ((more : Trees) → before stmt more ≡ plain_before at count more) → IsFirst depth at stmt (count + 1) tokens
plain-first depth at count tokens d stmt is below ends front =
    let c = cut tokens count d is below in
    record {
      some = omega arith;
      within = omega arith;
      completes = λ more p.
          rw (front more) (subst (λ (ts : List Token). ParsesAt depth at (plain_before at count more) ts) (sym c.spelled)
          (by_count depth at count more c.head (get_or tokens count d) c.rest c.are_head c.count_is ends
          (subst (λ (ts : List Token). ParsesAt depth (at + (count + 1)) more ts) c.behind p)));
      goes = λ found p. after_semicolon depth at count found tokens d p is below ends;
    }
  where
    by_count : (depth at n : ℕ) (more : Trees) (head : List Token) (stop : Token) (rest : List Token) → AreHead head
        → n ≡ length head → is_sign semicolon stop ≡ true
        → ParsesAt depth (at + (n + 1)) more rest → ParsesAt depth at (plain_before at n more) (head ++ stop ∷ rest)
    by_count depth at zero more [] stop rest are n_is is p = skipped depth at more stop rest is (ParsesAt-at (at + 1) (omega arith) p)
    by_count depth at zero more (t ∷ head) stop rest are n_is is p = absurd (omega (arith, n_is))
    by_count depth at (suc n) more [] stop rest are n_is is p = absurd (omega (arith, n_is))
    by_count depth at (suc n) more (t ∷ head) stop rest are n_is is p =
        let width : length (t ∷ head) ≡ suc n = sym n_is in
        subst (λ (k : ℕ). ParsesAt depth at (plain at k more) (t ∷ head ++ stop ∷ rest)) width
        (ended depth at more (t ∷ head) stop rest (λ e. cc) are is (ParsesAt-at (at + length (t ∷ head) + 1) (omega arith) p))

-- a statement with a block
pub block-first : (depth at count len : ℕ) (tokens : List Token) (d e : Token) (stmt : Stmt) (l : StmtList)
    → count ≡ position_or_len is_delimiter tokens → count < length tokens
    → is_sign open_brace (get_or tokens count d) ≡ true → depth < most_levels → len < length (drop (count + 1) tokens)
    → is_sign close_brace (get_or (drop (count + 1) tokens) len e) ≡ true
    → len ≡ block_end 0 (drop (count + 1) tokens) → ParsesAt (depth + 1) (at + count + 1) (trees l) (take len (drop (count + 1) tokens))
    → stmt ≡ roll-Stmt (record { first = at; count = count; body = Some l })
    → IsFirst depth at (Some stmt) (count + 1 + len + 1) tokens
block-first depth at count len tokens d e stmt l is below opens few short closes ends body made =
    let c = cut tokens count d is below in
    let rest = drop (count + 1) tokens in
    let close = get_or rest len e in
    let inner = take len rest in
    let after = drop (len + 1) rest in
    let inner_len : length inner ≡ len = length-take-le len rest (omega arith) in
    let split : c.rest ≡ inner ++ close ∷ after = sym c.behind ∙ (sym (take-append-drop len rest) ∙ ap (λ ts. inner ++ ts) (drop_more rest len e short)) in
    let spelled : tokens ≡ c.head ++ get_or tokens count d ∷ (inner ++ close ∷ after) = c.spelled ∙ ap (λ ts. c.head ++ get_or tokens count d ∷ ts) split in
    let left : drop (count + 1 + len + 1) tokens ≡ after = ap (λ n. drop n tokens) (omega arith) ∙ sym (drop-drop (len + 1) (count + 1) tokens) in
    let seen : entry_of stmt ≡ record { first = at; count = count; body = Some (trees l) } = ap entry_of made ∙ entry_of-block at count l in
    record {
      some = omega arith;
      within = omega (arith, short, length-drop (count + 1) tokens);
      completes = λ more p.
          let behind = ParsesAt-at (at + length c.head + 1 + length inner + 1) (omega (arith, c.count_is, inner_len)) (subst (λ (ts : List Token). ParsesAt depth (at + (count + 1 + len + 1)) more ts) left p) in
          let deeper : depth + 1 ≡ suc depth = omega arith in
          let inside = ParsesAt-at (at + length c.head + 1) (omega (arith, c.count_is)) (subst (λ (n : ℕ). ParsesAt n (at + count + 1) (trees l) inner) deeper body) in
          let nest = nested depth at (trees l) more c.head (get_or tokens count d) inner close after few c.are_head opens inside closes behind in
          rw seen (subst (λ (ts : List Token). ParsesAt depth at (block at count (trees l) more) ts) (sym spelled)
          (subst (λ (n : ℕ). ParsesAt depth at (block at n (trees l) more) (c.head ++ get_or tokens count d ∷ (inner ++ close ∷ after))) (sym c.count_is) nest));
      goes = λ found p.
          let b = (block_behind depth at count found tokens d p is below (is_kind-other open_brace semicolon (get_or tokens count d).kind opens refl)).1 in
          rw ends (b.more, b.behind);
    }

-- what is read of the tokens of a level: whatever completes the rest completes the whole
pub record IsRead (depth at read : ℕ) (done : Trees) (tokens : List Token) : Type 0 where
  pub within : read ≤ length tokens
  pub completes : (more : Trees) → ParsesAt depth (at + read) more (drop read tokens) → ParsesAt depth at (join done more) tokens
  pub goes : (found : Trees) → ParsesAt depth at found tokens → (more : Trees) × ParsesAt depth (at + read) more (drop read tokens)

-- at the start
pub starts : (depth at : ℕ) (tokens : List Token) → IsRead depth at 0 end tokens
starts depth at tokens = record { within = omega arith; completes = λ more p. ParsesAt-at at (omega arith) p; goes = λ found p. (found, ParsesAt-at (at + 0) (omega arith) p) }

-- one statement more
pub goes_on : (depth at read len : ℕ) (done next : Trees) (stmt : Option Stmt) (tokens : List Token)
    → IsRead depth at read done tokens → IsFirst depth (at + read) stmt len (drop read tokens)
    → ((more : Trees) → join next more ≡ join done (before stmt more)) → IsRead depth at (read + len) next tokens
goes_on depth at read len done next stmt tokens r f joined = record {
  within = omega (arith, f.within, r.within, length-drop read tokens);
  completes = λ more p.
      rw (joined more) (r.completes (before stmt more) (f.completes more
      (ParsesAt-at (at + read + len) (omega arith) (subst (λ (ts : List Token). ParsesAt depth (at + (read + len)) more ts) (sym (drop-drop len read tokens)) p))));
  goes = λ found p.
      let here = r.goes found p in
      let next = f.goes here.0 here.1 in
      (next.0, ParsesAt-at (at + (read + len)) (omega arith) (subst (λ (ts : List Token). ParsesAt depth (at + read + len) next.0 ts) (drop-drop len read tokens) next.1));
}

-- at the end
pub is_done : (depth at read : ℕ) (done : Trees) (tokens : List Token) → IsRead depth at read done tokens → length tokens ≤ read → ParsesAt depth at done tokens
is_done depth at read done tokens r all =
    subst (λ (t : Trees). ParsesAt depth at t tokens) (join-end done)
    (r.completes end (subst (λ (ts : List Token). ParsesAt depth (at + read) end ts) (sym (drop_all read tokens all)) (nothing depth (at + read))))

-- one statement more in memory
pub join-push : (xs ys : List Stmt) (s : Stmt) (more : Trees) → ys ≡ xs ++ s ∷ [] → join (trees_of ys) more ≡ join (trees_of xs) (before (Some s) more)
join-push xs ys s more e =
    let seen = entry_of s in
    ap (λ t. join t more) (ap trees_of e ∙ trees_of-push xs s seen refl)
    ∙ (join_assoc (trees_of xs) (in_front seen.first seen.count seen.body end) more ∙ ap (join (trees_of xs)) (join-in_front seen.first seen.count seen.body end more))
