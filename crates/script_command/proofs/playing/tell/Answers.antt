-- The end of what programs tell.
use Rattle.std.proofs.Common.{Err, ap}
use Rattle.vault_port.specs.declared.whole.PutFault.{PutFault}
use Rattle.script_command.proofs.Ending.{part_of_fault, programs_cut, programs_told, programs_wanting}
use Rattle.script_command.proofs.playing.tell.Goals as goal

pub returns-in-Ok-clause-end : goal.returns-in-Ok-clause-end
returns-in-Ok-clause-end g c = λ way files name f f' play staged same unstranded none.
    programs_told way name files f f' _ _ _ _ play c.args.detaches.items same unstranded none _ _ (c.in-Ok.ensures.told play.parts staged)

pub returns-in-Err-Fault-clause-end : goal.returns-in-Err-Fault-clause-end
returns-in-Err-Fault-clause-end g c = λ way files name f f' play staged same unstranded none.
    programs_cut way name files f f' _ _ _ _ play c.args.detaches.items same unstranded none _ _ (c.in-Err-Fault.ensures.fault (ap (λ (x : PutFault). Err x) c.in-Err-Fault.field-0-is))
    (part_of_fault play.parts _ _ _ _ _ _ _ c.in-Err-Fault.field-0-is (c.in-Err-Fault.ensures.part play.parts staged))

pub returns-in-Err-Memory-clause-end : goal.returns-in-Err-Memory-clause-end
returns-in-Err-Memory-clause-end g c = λ way files name f f' play staged same unstranded none.
    programs_wanting way name files f f' _ _ _ _ play c.args.detaches.items same unstranded none _ (g.S.Sink.taken c.host_programs.new.out) _ c.out_of_memory.result _ c.out_of_memory.ensures.status
    (c.in-Err-Memory.ensures.stays (λ e. let f = c.in-Err-Memory.field-0-is in cc))
    (part_of_fault play.parts _ _ _ _ _ _ _ c.in-Err-Memory.field-0-is (c.in-Err-Memory.ensures.part play.parts staged)) c.out_of_memory.ensures.printed

pub host_programs-requires-clause-staged : goal.host_programs-requires-clause-staged
host_programs-requires-clause-staged g c = c.requires.staged
