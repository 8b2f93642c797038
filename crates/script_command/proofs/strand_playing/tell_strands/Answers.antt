-- The end of what programs with strands tell.
use Rattle.std.proofs.Common.{Err, ap}
use Rattle.vault_port.specs.declared.whole.PutFault.{PutFault}
use Rattle.script_command.specs.StrandTold.{strands_played}
use Rattle.script_command.proofs.StrandEnding.{strand_part_of_fault, strands_cut, strands_told, strands_wanting}
use Rattle.script_command.proofs.strand_playing.tell_strands.Goals as goal

pub returns-in-Ok-clause-end : goal.returns-in-Ok-clause-end
returns-in-Ok-clause-end g c = λ way files name f f' line play staged same stranded.
    strands_told way name files f f' _ _ _ _ play c.args.detaches.items same line stranded _ _ (c.in-Ok.ensures.told (strands_played play) staged)

pub returns-in-Err-Fault-clause-end : goal.returns-in-Err-Fault-clause-end
returns-in-Err-Fault-clause-end g c = λ way files name f f' line play staged same stranded.
    strands_cut way name files f f' _ _ _ _ play c.args.detaches.items same line stranded _ _ (c.in-Err-Fault.ensures.fault (ap (λ (x : PutFault). Err x) c.in-Err-Fault.field-0-is))
    (strand_part_of_fault (strands_played play) _ _ _ _ _ _ _ c.in-Err-Fault.field-0-is (c.in-Err-Fault.ensures.part (strands_played play) staged))

pub returns-in-Err-Memory-clause-end : goal.returns-in-Err-Memory-clause-end
returns-in-Err-Memory-clause-end g c = λ way files name f f' line play staged same stranded.
    strands_wanting way name files f f' _ _ _ _ play c.args.detaches.items same line stranded _ (g.S.Sink.taken c.host_strand_programs.new.out) _ c.out_of_memory.result _ c.out_of_memory.ensures.status
    (c.in-Err-Memory.ensures.stays (λ e. let f = c.in-Err-Memory.field-0-is in cc))
    (strand_part_of_fault (strands_played play) _ _ _ _ _ _ _ c.in-Err-Memory.field-0-is (c.in-Err-Memory.ensures.part (strands_played play) staged)) c.out_of_memory.ensures.printed

pub host_strand_programs-requires-clause-staged : goal.host_strand_programs-requires-clause-staged
host_strand_programs-requires-clause-staged g c = c.requires.staged
