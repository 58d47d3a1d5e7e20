-- What a pool holds once a page was asked for.
use Rattle.std.proofs.Common.{◌≡◌, ℕ, ◌-◌, Bool, true, false, cond, List, [], ◌∷◌, take, slice_get, is_some, nat_eq, Contains, Some, None, refl, sym, ap, subst, ◌∙◌, eqb-true, ⊎_elim}
use Rattle.std.proofs.lemmas.Bool.{cond-true, cond-false, false≢true}
use Rattle.std.proofs.lemmas.Option.{get_or_from_slice_get}
use Rattle.std.specs.Map.{lookup, lookup_entry, remove_entry}
use Rattle.std.specs.Option.{option_map_or}
use Rattle.lru.specs.LruCache.{LruCache, lru_cache, IsValid, promoted, put_entries}
use Rattle.lru.proofs.CallerLemmas.{Contains-lookup_entry, Contains-promoted, Contains-put_entries}
use Rattle.packed_code.specs.declared.instr.Instr.{Instr}
use Rattle.packed_code.specs.Program.{Program}
use Rattle.packed_code.specs.Cycles.{pages_of}
use Rattle.pattern_mem.specs.Pool.{Pool, pool_of, page_at, IsPool, is_held, asked}

-- entries, from the first on
abbrev pub Entries : Type 0
Entries = List (ℕ × List Instr)

-- a page that is held has an entry
entry_there : (page : ℕ) (entries : Entries) → is_some (lookup (nat_eq page) entries) ≡ true
    → (e : ℕ × List Instr) × (lookup_entry (nat_eq page) entries ≡ Some e)
entry_there page [] held = absurd (false≢true held)
entry_there page (e ∷ es) held = by (entry_there page es) (nat_eq page e.0) held
  where
    by : (is_some (lookup (nat_eq page) es) ≡ true → (f : ℕ × List Instr) × (lookup_entry (nat_eq page) es ≡ Some f))
        → (b : Bool) → is_some (cond b (Some e.1) (lookup (nat_eq page) es)) ≡ true
        → (f : ℕ × List Instr) × (cond b (Some e) (lookup_entry (nat_eq page) es) ≡ Some f)
    by rest true held = (e, refl)
    by rest false held = rest held

-- its entry has the code's page
entry_held : (pool : Pool) (page : ℕ) → IsPool pool → is_held page pool ≡ true
    → lookup_entry (nat_eq page) pool.entries ≡ Some (page, page_at pool.code page)
entry_held pool page is held =
    let there = entry_there page pool.entries held in
    let e = there.0 in
    let among = Contains-lookup_entry (nat_eq page) pool.entries e there.1 in
    let number : page ≡ e.0 = eqb-true page e.0 among.1 in
    let instrs : e.1 ≡ page_at pool.code e.0 = is.each e.0 e.1 among.0 in
    there.1 ∙ ap Some (λ i. (sym number i, instrs i)) ∙ ap (λ (n : ℕ). Some (page, page_at pool.code n)) (sym number)

-- a page that isn't held has no entry
no_entry : (page : ℕ) (entries : Entries) → is_some (lookup (nat_eq page) entries) ≡ false → lookup_entry (nat_eq page) entries ≡ None
no_entry page [] none = refl
no_entry page (e ∷ es) none = by (no_entry page es) (nat_eq page e.0) none
  where
    by : (is_some (lookup (nat_eq page) es) ≡ false → lookup_entry (nat_eq page) es ≡ None)
        → (b : Bool) → is_some (cond b (Some e.1) (lookup (nat_eq page) es)) ≡ false
        → cond b (Some e) (lookup_entry (nat_eq page) es) ≡ None
    by rest true none = absurd (false≢true (sym none))
    by rest false none = rest none

module _ (code : Program) (cache : LruCache ℕ (List Instr)) (page : ℕ) where
  abbrev pool : Pool
  pool = pool_of code cache

  -- the page is held: it goes first
  pub promoted-asked : IsPool pool → is_held page pool ≡ true
      → pool_of code (lru_cache (promoted (nat_eq page) cache.entries) cache.cap) ≡ asked pool page
  promoted-asked is held =
      let rest = remove_entry (nat_eq page) cache.entries in
      ap (λ o. pool_of code (lru_cache (option_map_or (λ e. e ∷ rest) o cache.entries) cache.cap)) (entry_held pool page is held)
      ∙ ap (λ (es : Entries). pool_of code (lru_cache ((page, page_at code page) ∷ es) cache.cap)) (sym (cond-true _ rest _ held))

  -- it isn't held: nothing moves
  pub promoted-none : is_held page pool ≡ false → lru_cache (promoted (nat_eq page) cache.entries) cache.cap ≡ cache
  promoted-none none =
      ap (λ o. lru_cache (option_map_or (λ e. e ∷ remove_entry (nat_eq page) cache.entries) o cache.entries) cache.cap)
      (no_entry page cache.entries none)

  -- and it is put first
  pub put-asked : is_held page pool ≡ false
      → pool_of code (lru_cache (put_entries nat_eq cache page (page_at code page)) cache.cap) ≡ asked pool page
  put-asked none =
      let front = take (cache.cap - 1) cache.entries in
      let rest = remove_entry (nat_eq page) cache.entries in
      ap (λ o. pool_of code (lru_cache (option_map_or (λ e. (e.0, page_at code page) ∷ rest) o ((page, page_at code page) ∷ front)) cache.cap))
      (no_entry page cache.entries none)
      ∙ ap (λ (es : Entries). pool_of code (lru_cache ((page, page_at code page) ∷ es) cache.cap)) (sym (cond-false _ rest front none))

  -- each entry is still the code's page of its number
  pub each_promoted : IsPool pool → (number : ℕ) (instrs : List Instr)
      → Contains (promoted (nat_eq page) cache.entries) (number, instrs) → instrs ≡ page_at code number
  each_promoted is number instrs here = is.each number instrs (Contains-promoted (nat_eq page) cache.entries (number, instrs) here)

  pub each_put : IsPool pool → (number : ℕ) (instrs : List Instr)
      → Contains (put_entries nat_eq cache page (page_at code page)) (number, instrs) → instrs ≡ page_at code number
  each_put is number instrs here =
      ⊎_elim (λ was. is.each number instrs was)
      (λ put.
      put.0 ∙ ⊎_elim (λ (same : number ≡ page). ap (page_at code) (sym same)) (λ there. ap (page_at code) (eqb-true page number there.2)) put.1)
      (Contains-put_entries nat_eq cache page (page_at code page) (number, instrs) here)

  -- what holds of every pool still holds of this one
  pub pool_promoted : (new : LruCache ℕ (List Instr)) → IsPool pool → new ≡ lru_cache (promoted (nat_eq page) cache.entries) cache.cap
      → IsValid nat_eq new → IsPool (pool_of code new)
  pool_promoted new is same valid = record {
    each = λ number instrs here.
        each_promoted is number instrs (subst (λ (c : LruCache ℕ (List Instr)). Contains c.entries (number, instrs)) same here);
    distinct = valid.0;
    few = valid.1;
  }

  pub pool_put : (new : LruCache ℕ (List Instr)) → IsPool pool
      → new ≡ lru_cache (put_entries nat_eq cache page (page_at code page)) cache.cap → IsValid nat_eq new → IsPool (pool_of code new)
  pool_put new is same valid = record {
    each = λ number instrs here.
        each_put is number instrs (subst (λ (c : LruCache ℕ (List Instr)). Contains c.entries (number, instrs)) same here);
    distinct = valid.0;
    few = valid.1;
  }

  -- a page that isn't held leaves the cache as it was
  pub nothing_moved : (new : LruCache ℕ (List Instr)) (found : Bool) → found ≡ is_held page pool → found ≡ false
      → new ≡ lru_cache (promoted (nat_eq page) cache.entries) cache.cap → new ≡ cache
  nothing_moved new found is none same = same ∙ promoted-none (sym is ∙ none)

  -- and the cache into which its page is put has it first
  pub put_first : (moved new : LruCache ℕ (List Instr)) (instrs : List Instr) → moved ≡ cache → instrs ≡ page_at code page
      → new ≡ lru_cache (put_entries nat_eq moved page instrs) moved.cap
      → new ≡ lru_cache (put_entries nat_eq cache page (page_at code page)) cache.cap
  put_first moved new instrs same made put =
      put ∙ ap (λ (k : LruCache ℕ (List Instr)). lru_cache (put_entries nat_eq k page instrs) k.cap) same
      ∙ ap (λ (m : List Instr). lru_cache (put_entries nat_eq cache page m) cache.cap) made

-- what is read of a page's number is the code's page
pub page_made : (code read : Program) (page : ℕ) (instrs : List Instr) → read ≡ code → slice_get (pages_of read) page ≡ Some instrs
    → instrs ≡ page_at code page
page_made code read page instrs is reads =
    sym (get_or_from_slice_get (pages_of code) page instrs [] (ap (λ (p : Program). slice_get (pages_of p) page) (sym is) ∙ reads))
