use Rattle.std.proofs.Common.{refl, arith}
use Rattle.wasm_build.proofs.SizedParts.{ends_at, no_size, no_room}
use Rattle.wasm_build.proofs.extents.sized_end.Goals as goal

pub returns-clause-some : goal.returns-clause-some
returns-clause-some c =
    let n = c.in-Some.ensures.some in
    let ahead = n.ahead in
    let room = c.if-bytes-place.false in
    let within = c.number.ensures.within in
    (omega (arith, ahead), omega (arith, room, within), ends_at c.args.bytes.now c.args.at c.in-Some.size c.number.new.at _ n refl)

pub returns-then-bytes-place-clause-none : goal.returns-then-bytes-place-clause-none
returns-then-bytes-place-clause-none c = no_room c.args.bytes.now c.args.at c.in-Some.size c.number.new.at c.requires c.in-Some.ensures.some c.if-bytes-place.true

pub returns-in_default-clause-none : goal.returns-in_default-clause-none
returns-in_default-clause-none c = no_size c.args.bytes.now c.args.at c.in_default.ensures.none
