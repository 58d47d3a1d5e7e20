use Rattle.std.proofs.Common.{◌∙◌, ℕ, ap, sym, subst, List}
use Rattle.std.specs.Arc.{arc_value}
use Rattle.text_bytes.proofs.OptionLemmas.{on_err}
use Rattle.lru.specs.LruCache.{LruCache}
use Rattle.packed_code.specs.declared.instr.Instr.{Instr}
use Rattle.pattern_mem.specs.Pool.{Pool, pool_of, IsPool, asked}
use Rattle.pattern_mem.proofs.PoolLemmas.{promoted-asked, put-asked, pool_promoted, pool_put, nothing_moved, put_first, page_made}
use Rattle.pattern_mem.proofs.pool.PoolState.hold.Goals as goal

pub invariant_of-self : goal.invariant_of-self
invariant_of-self c =
    pool_promoted (arc_value c.self.inside.code) c.self.inside.cache c.args.page c.promote.new.self c.self.invariant c.promote.ensures.entries c.len-valid.ensures.valid

pub returns-then-promote-clause-entries : goal.returns-then-promote-clause-entries
returns-then-promote-clause-entries c =
    let code = arc_value c.self.inside.code in
    let held = sym c.promote.ensures.value ∙ c.if-promote.true in
    ap (pool_of code) c.promote.ensures.entries ∙ promoted-asked code c.self.inside.cache c.args.page c.self.invariant held
    ∙ ap (λ (p : Pool). asked p c.args.page) c.self.view_is

pub returns-then-promote-clause-pool : goal.returns-then-promote-clause-pool
returns-then-promote-clause-pool c = invariant_of-self c

pub invariant_of-self-in_err-instrs : goal.invariant_of-self-in_err-instrs
invariant_of-self-in_err-instrs c =
    let code = arc_value c.self.inside.code in
    let same = nothing_moved code c.self.inside.cache c.args.page c.promote.new.self c.promote.result c.promote.ensures.value c.if-promote.false c.promote.ensures.entries in
    subst (λ (k : LruCache ℕ (List Instr)). IsPool (pool_of code k)) (sym same) c.self.invariant

pub returns-in_err-instrs-clause-entries_as_they_were : goal.returns-in_err-instrs-clause-entries_as_they_were
returns-in_err-instrs-clause-entries_as_they_were c =
    let code = arc_value c.self.inside.code in
    let same = nothing_moved code c.self.inside.cache c.args.page c.promote.new.self c.promote.result c.promote.ensures.value c.if-promote.false c.promote.ensures.entries in
    on_err c.from_residual.result (ap (pool_of code) same ∙ c.self.view_is)

pub returns-in_err-instrs-clause-pool : goal.returns-in_err-instrs-clause-pool
returns-in_err-instrs-clause-pool c = invariant_of-self-in_err-instrs c

pub invariant_of-self-in_err-put : goal.invariant_of-self-in_err-put
invariant_of-self-in_err-put c =
    let code = arc_value c.self.inside.code in
    let same = c.in_err-put.ensures.err
    ∙ nothing_moved code c.self.inside.cache c.args.page c.promote.new.self c.promote.result c.promote.ensures.value c.if-promote.false c.promote.ensures.entries in
    subst (λ (k : LruCache ℕ (List Instr)). IsPool (pool_of code k)) (sym same) c.self.invariant

pub returns-in_err-put-clause-entries_as_they_were : goal.returns-in_err-put-clause-entries_as_they_were
returns-in_err-put-clause-entries_as_they_were c =
    let code = arc_value c.self.inside.code in
    let same = c.in_err-put.ensures.err
    ∙ nothing_moved code c.self.inside.cache c.args.page c.promote.new.self c.promote.result c.promote.ensures.value c.if-promote.false c.promote.ensures.entries in
    on_err c.from_residual-in_err-put.result (ap (pool_of code) same ∙ c.self.view_is)

pub returns-in_err-put-clause-pool : goal.returns-in_err-put-clause-pool
returns-in_err-put-clause-pool c = invariant_of-self-in_err-put c

pub invariant_of-self-2 : goal.invariant_of-self-2
invariant_of-self-2 c =
    let code = arc_value c.self.inside.code in
    let cache = c.self.inside.cache in
    let same = nothing_moved code cache c.args.page c.promote.new.self c.promote.result c.promote.ensures.value c.if-promote.false c.promote.ensures.entries in
    let made = page_made code c.deref.result.now c.args.page c.in_ok-instrs.instrs c.deref.ensures c.in_ok-instrs.ensures in
    let put = put_first code cache c.args.page c.promote.new.self c.put.new.self c.in_ok-instrs.instrs same made c.in_ok-put.ensures.entries in
    pool_put code cache c.args.page c.put.new.self c.self.invariant put c.len-valid-2.ensures.valid

pub returns-clause-entries : goal.returns-clause-entries
returns-clause-entries c =
    let code = arc_value c.self.inside.code in
    let cache = c.self.inside.cache in
    let none = sym c.promote.ensures.value ∙ c.if-promote.false in
    let same = nothing_moved code cache c.args.page c.promote.new.self c.promote.result c.promote.ensures.value c.if-promote.false c.promote.ensures.entries in
    let made = page_made code c.deref.result.now c.args.page c.in_ok-instrs.instrs c.deref.ensures c.in_ok-instrs.ensures in
    let put = put_first code cache c.args.page c.promote.new.self c.put.new.self c.in_ok-instrs.instrs same made c.in_ok-put.ensures.entries in
    ap (pool_of code) put ∙ put-asked code cache c.args.page none ∙ ap (λ (p : Pool). asked p c.args.page) c.self.view_is

pub returns-clause-pool : goal.returns-clause-pool
returns-clause-pool c = invariant_of-self-2 c
