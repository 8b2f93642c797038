-- The names of the lines of further strands, one after another.
use Rattle.std.proofs.Common.{append-nil, map, sym}
use Rattle.wa_types.specs.View.{module_of}
use Rattle.script_reader.specs.declared.script.StrandText.{StrandText}
use Rattle.script_reader.specs.Views.{strand_of}
use Rattle.script_setup.specs.SetUpRules.{strand_names}
use Rattle.transcript.specs.Printing.{names_of}
use Rattle.script_command.proofs.GatheredStrands.{put_all, put_next}
use Rattle.script_command.proofs.strand_planning.put_names.Goals as goal

pub loop-strand-init : goal.loop-strand-init
loop-strand-init c = sym (append-nil (map names_of c.args.names.now.items))

pub loop-strand-preserved : goal.loop-strand-preserved
loop-strand-preserved c =
    put_next names_of (λ (s : StrandText). strand_names (module_of c.args.«module».now) (strand_of s)) (map names_of c.args.names.now.items) c.loop-strand.names.items c.push.new.self.items c.in_ok-next.next
    c.args.strands.now c.loop-strand.strand-index c.strand-item.result c.in_ok-push.ensures.items c.in_ok-next.ensures c.loop-strand-test.true c.strand-item.is c.loop-strand.invariant

pub returns : goal.returns
returns c =
    put_all (strand_names (module_of c.args.«module».now)) strand_of (map names_of c.args.names.now.items) _ c.args.strands.now c.loop-strand.strand-index c.loop-strand-test.false c.loop-strand.invariant
