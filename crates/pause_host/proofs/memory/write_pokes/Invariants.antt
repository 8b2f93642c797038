use Rattle.std.proofs.Common.{◌≡◌, length, map, take}
use Rattle.wa_model.specs.Blocking.{poked}
use Rattle.wa_model.specs.View.{poke_of}
use Rattle.interp.specs.Host.{code_in, store_in, waits_in}
use Rattle.pause_host.proofs.memory.write_pokes.Given as goal

abbrev pub invariant-loop-poke : goal.invariant-loop-poke
invariant-loop-poke l = record {
  store : store_in l.instance ≡ poked (store_in l.fn.instance) (map poke_of (take l.poke-index l.pokes));
  size : length (store_in l.instance).memory ≡ length (store_in l.fn.instance).memory;
  waits : waits_in l.instance ≡ waits_in l.fn.instance;
  code : code_in l.instance ≡ code_in l.fn.instance;
}
