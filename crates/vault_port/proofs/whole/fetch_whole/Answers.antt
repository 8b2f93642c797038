use Rattle.std.proofs.Common.{◌∙◌, take, ap, inl, inr, arith}
use Rattle.std.proofs.lemmas.List.{with_items_is}
use Rattle.std.specs.Option.{IsSome}
use Rattle.vault_port.proofs.Fetching.{told_at, told_more, told_whole}
use Rattle.vault_port.proofs.whole.fetch_whole.Goals as goal

pub returns-then-count-eq0-clause-whole : goal.returns-then-count-eq0-clause-whole
returns-then-count-eq0-clause-whole g c =
    let same = ap (take c.fetching.done) c.as_mut_slice.ensures.value ∙ c.in_ok-make_room.ensures.same in
    let long = c.as_mut_slice.ensures.len in
    let held = with_items_is c.make_room.new.buffer c.fetch_behind.new.buffer (c.fetch_behind.auto.buffer ∙ long) in
    told_whole c.args.name.now c.fetching.bytes.items c.as_mut_slice.result.now c.fetch_behind.new.buffer _ _ c.fetching.done c.in_ok-count.count _ c.args.limit _ _ c.fetching.invariant.kept same held
    c.truncate.ensures.items long c.fetching.invariant.read c.in_ok-count.ensures.fetched c.in_ok-make_room.ensures.room
    (elim c.then-count-eq0.either [ inl none ↦ inl none | inr at_limit ↦ inr at_limit.1 ]) (omega (arith, c.in_ok-count.ensures.count, long, c.in_ok-make_room.ensures.bound))

pub returns-then-count-eq0-clause-there : goal.returns-then-count-eq0-clause-there
returns-then-count-eq0-clause-there g c = told_at (λ all. IsSome (all c.args.name.now)) _ _ c.fetching.invariant.kept c.in_ok-count.ensures.there

pub fetching-smaller : goal.fetching-smaller
fetching-smaller g c =
    omega (arith, c.if-count-eq0.false, c.in_ok-count.ensures.count, c.as_mut_slice.ensures.len, c.in_ok-make_room.ensures.bound)

pub fetching-preserved : goal.fetching-preserved
fetching-preserved g c =
    let same = ap (take c.fetching.done) c.as_mut_slice.ensures.value ∙ c.in_ok-make_room.ensures.same in
    let held = with_items_is c.make_room.new.buffer c.fetch_behind.new.buffer (c.fetch_behind.auto.buffer ∙ c.as_mut_slice.ensures.len) in
    record {
      read = told_more c.args.name.now c.fetching.bytes.items c.as_mut_slice.result.now c.fetch_behind.new.buffer _ c.fetching.done c.in_ok-count.count _ _ c.fetching.invariant.kept same held
          c.fetching.invariant.read c.in_ok-count.ensures.fetched;
      within = omega (arith, c.in_ok-count.ensures.count, c.as_mut_slice.ensures.len);
      bound = c.in_ok-make_room.ensures.bound;
      kept = c.in_ok-count.ensures.kept ∙ c.fetching.invariant.kept;
      steady = c.in_ok-count.ensures.stays (λ e. cc) ∙ c.fetching.invariant.steady;
      saves = c.in_ok-count.ensures.saves ∙ c.fetching.invariant.saves;
    }
