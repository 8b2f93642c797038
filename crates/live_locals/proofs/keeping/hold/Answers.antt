use Rattle.std.proofs.Common.{◌<◌, ◌∷◌, ◌∙◌, [], ap, arith, length, refl}
use Rattle.std.proofs.lemmas.List.{get_or_read}
use Rattle.live_locals.proofs.KeepingLemmas.{any_default, held_again, held_on, held_one, held_past}
use Rattle.live_locals.proofs.keeping.hold.Goals as goal

pub returns-then-at-set : goal.returns-then-at-set
returns-then-at-set c = λ test start all h. held_past c.args.set.now test start all c.args.at c.args.keeping.now (omega (arith, c.if-at-set.true)) h

pub returns-then-set-at : goal.returns-then-set-at
returns-then-set-at c = λ test start all h. held_on c.args.set.now test start all c.args.at c.args.keeping.now c.if-set-at.true h

pub index-requires : goal.index-requires
index-requires c = let n = c.requires.sinces in omega (arith, n, c.if-at-set.false, c.args.keeping.now.since.ok.0)

pub index_mut-requires : goal.index_mut-requires
index_mut-requires c = let n = c.requires.rows in omega (arith, n, c.if-at-set.false, c.args.keeping.now.rows.ok.0)

pub returns-then-index-keeping : goal.returns-then-index-keeping
returns-then-index-keeping c = λ test start all h.
    let within : c.args.at < length c.args.set.now = omega (arith, c.if-at-set.false) in
    let n = c.requires.sinces in
    let s = get_or_read c.args.keeping.now.since.items c.args.at _ (omega (arith, n, within)) c.index.ensures 0 in
    held_again c.args.set.now test start all c.args.at c.args.keeping.now within (omega (arith, c.if-index-keeping.true, s)) h

pub returns : goal.returns
returns c = λ test start all h.
    let at = c.args.at in
    let set = c.args.set.now in
    let old = c.args.keeping.now in
    let within : at < length set = omega (arith, c.if-at-set.false) in
    let n = c.requires.sinces in
    let m = c.requires.rows in
    let s = get_or_read old.since.items at _ (omega (arith, n, within)) c.index.ensures 0 in
    let r = c.index_mut.ensures.value ∙ any_default old.rows.items at c.index_mut.result.now [] (omega (arith, m, within)) in
    held_one set test start all at old _ c.put.new.self within refl refl refl (omega (arith, c.if-index-keeping.false, s)) c.if-set-at.false
    (c.in_ok-put.ensures ∙ ap (λ ks. old.left ∷ ks) r) h
