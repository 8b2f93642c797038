use Rattle.std.proofs.Common.{◌<◌, ◌∙◌, [], arith, length, refl}
use Rattle.std.proofs.lemmas.List.{get_or_read}
use Rattle.live_locals.specs.Keeping.{kept_on}
use Rattle.live_locals.specs.Sets.{has}
use Rattle.live_locals.proofs.KeepingLemmas.{any_default, settled_one, settles_past}
use Rattle.live_locals.proofs.keeping.settle.Goals as goal

pub returns-then-at-set : goal.returns-then-at-set
returns-then-at-set c = settles_past c.args.set.now c.args.at c.args.keeping.now (omega (arith, c.if-at-set.true)) c.requires

pub index-end-requires : goal.index-end-requires
index-end-requires c = let n = c.requires.sinces in omega (arith, n, c.if-at-set.false, c.args.keeping.now.since.ok.0)

pub index_mut-requires : goal.index_mut-requires
index_mut-requires c = let n = c.requires.rows in omega (arith, n, c.if-at-set.false, c.args.keeping.now.rows.ok.0)

pub put_told-requires : goal.put_told-requires
put_told-requires c =
    let within : c.args.at < length c.args.set.now = omega (arith, c.if-at-set.false) in
    let n = c.requires.sinces in
    let l = c.requires.later c.args.at within in
    let s = get_or_read c.args.keeping.now.since.items c.args.at _ (omega (arith, n, within)) c.index-end.ensures 0 in omega (arith, l, s)

pub returns : goal.returns
returns c =
    let at = c.args.at in
    let set = c.args.set.now in
    let old = c.args.keeping.now in
    let within : at < length set = omega (arith, c.if-at-set.false) in
    let n = c.requires.sinces in
    let m = c.requires.rows in
    let s = get_or_read old.since.items at _ (omega (arith, n, within)) c.index-end.ensures 0 in
    let r = c.index_mut.ensures.value ∙ any_default old.rows.items at c.index_mut.result.now [] (omega (arith, m, within)) in
    settled_one set at old _ c.put_told.new.rows within c.requires refl refl refl (c.in_ok-put_told.ensures ∙ (λ i. kept_on old.left (s i) (has set at) (r i)))
