use Rattle.std.proofs.Common.{arith, ◌≤◌, ◌+◌, length, ◌∙◌, ap, refl}
use Rattle.wa_types.specs.Memory.{overwritten}
use Rattle.wa_types.proofs.MemoryLemmas.{length-overwritten}
use Rattle.wa_model.specs.Store.{Store, with_memory}
use Rattle.interp.specs.Host.{code_in, store_in}
use Rattle.pause_host.proofs.Callings.{poke_at}
use Rattle.pause_host.proofs.Hosting.{memory_kept}
use Rattle.pause_host.proofs.Tables.{poked_more, poked_all}
use Rattle.pause_host.proofs.memory.write_pokes.Goals as goal

pub loop-poke-init : goal.loop-poke-init
loop-poke-init c = record { store = refl; size = refl; waits = refl; code = refl }

pub loop-poke-preserved : goal.loop-poke-preserved
loop-poke-preserved c =
    let s = store_in c.loop-poke.instance in
    let p = c.poke-item.result in
    let written = c.write.ensures.store ∙ ap (λ n. with_memory s (overwritten s.memory n c.deref.result.now)) c.from.ensures
    ∙ ap (λ b. with_memory s (overwritten s.memory p.at b)) c.deref.ensures.value in
    let inside = poke_at (length (store_in c.args.instance.now).memory) c.args.pokes.now c.loop-poke.poke-index p c.loop-poke-test.true c.poke-item.is c.requires.inside in
    let within : p.at + length p.bytes.items ≤ length s.memory = omega (arith, inside, c.loop-poke.invariant.size) in
    record {
      store = poked_more (store_in c.args.instance.now) s (store_in c.write.new.instance) c.args.pokes.now c.loop-poke.poke-index p c.loop-poke-test.true c.poke-item.is
          c.loop-poke.invariant.store written;
      size = ap (λ (z : Store). length z.memory) written ∙ length-overwritten s.memory p.at p.bytes.items within ∙ c.loop-poke.invariant.size;
      waits = c.write.ensures.waits ∙ c.loop-poke.invariant.waits;
      code = c.write.ensures.code ∙ c.loop-poke.invariant.code;
    }

pub returns-clause-store : goal.returns-clause-store
returns-clause-store c = poked_all (store_in c.args.instance.now) (store_in c.loop-poke.instance) c.args.pokes.now c.loop-poke.poke-index c.loop-poke-test.false c.loop-poke.invariant.store

pub write-requires-clause-memory : goal.write-requires-clause-memory
write-requires-clause-memory c = memory_kept (code_in c.args.instance.now) (code_in c.loop-poke.instance) c.loop-poke.invariant.code c.requires.memory

pub write-requires-clause-inside : goal.write-requires-clause-inside
write-requires-clause-inside c =
    let inside = poke_at (length (store_in c.args.instance.now).memory) c.args.pokes.now c.loop-poke.poke-index c.poke-item.result c.loop-poke-test.true c.poke-item.is c.requires.inside in
    omega (arith, inside, c.from.ensures, ap length c.deref.ensures.value, c.loop-poke.invariant.size)
