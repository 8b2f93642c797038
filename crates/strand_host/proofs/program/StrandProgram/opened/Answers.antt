use Rattle.std.proofs.Common.{Option, Some, false, sym, ap, ◌∙◌, subst, slice_set}
use Rattle.many_host.proofs.TurnPlaces.{stands_at}
use Rattle.strand_host.specs.declared.strands.Strand.{Strand}
use Rattle.strand_host.specs.StrandPrograms.{StartsAt, TurnAt, stock_of}
use Rattle.strand_host.proofs.StrandBeginnings.{opens_first, opens_start, some_strand}
use Rattle.strand_host.proofs.program.StrandProgram.opened.Goals as goal

pub go_on-requires-clause-goes : goal.go_on-requires-clause-goes
go_on-requires-clause-goes g c =
    let h = c.requires.goes in
    let x = stock_of c.args.self.now in
    let i = c.args.instance in
    let s = c.in-Some.strand in
    let start = ap (λ m. m.start) (sym c.module.ensures.same) ∙ c.in-None.is in
    let e = stands_at x.strands 0 c.index_mut.result.now (some_strand h.0 h.1 x i h.2) c.index_mut.ensures.value ∙ ap (λ (o : Option Strand). Some o) (sym c.replace.ensures.value ∙ c.in-Some.is) in
    (h.0, h.1, subst (λ (o : Option Strand). TurnAt h.0 h.1 (record x { strands = slice_set x.strands 0 o }) i 0 s false) (sym c.replace.ensures.after) (opens_first h.0 h.1 x i s h.2 start e))

pub begin_start-requires-clause-goes : goal.begin_start-requires-clause-goes
begin_start-requires-clause-goes g c =
    let h = c.requires.goes in
    let x = stock_of c.args.self.now in
    let i = c.args.instance in
    let s = c.in-Some.strand in
    let func = c.in-Some-start.func in
    let start = ap (λ m. m.start) (sym c.module.ensures.same) ∙ c.in-Some-start.is in
    let e = stands_at x.strands 0 c.index_mut.result.now (some_strand h.0 h.1 x i h.2) c.index_mut.ensures.value ∙ ap (λ (o : Option Strand). Some o) (sym c.replace.ensures.value ∙ c.in-Some.is) in
    (h.0, h.1, subst (λ (o : Option Strand). StartsAt h.0 h.1 (record x { strands = slice_set x.strands 0 o }) i s func) (sym c.replace.ensures.after) (opens_start h.0 h.1 x i s func h.2 start e))

pub returns-in-None-clause-next : goal.returns-in-None-clause-next
returns-in-None-clause-next g c = λ gw t at.
    let x = stock_of c.args.self.now in
    let i = c.args.instance in
    let s = c.in-Some.strand in
    let start = ap (λ m. m.start) (sym c.module.ensures.same) ∙ c.in-None.is in
    let e = stands_at x.strands 0 c.index_mut.result.now (some_strand gw t x i at) c.index_mut.ensures.value ∙ ap (λ (o : Option Strand). Some o) (sym c.replace.ensures.value ∙ c.in-Some.is) in
    c.go_on.ensures.next gw t (subst (λ (o : Option Strand). TurnAt gw t (record x { strands = slice_set x.strands 0 o }) i 0 s false) (sym c.replace.ensures.after) (opens_first gw t x i s at start e))

pub returns-in-Some-start-clause-next : goal.returns-in-Some-start-clause-next
returns-in-Some-start-clause-next g c = λ gw t at.
    let x = stock_of c.args.self.now in
    let i = c.args.instance in
    let s = c.in-Some.strand in
    let func = c.in-Some-start.func in
    let start = ap (λ m. m.start) (sym c.module.ensures.same) ∙ c.in-Some-start.is in
    let e = stands_at x.strands 0 c.index_mut.result.now (some_strand gw t x i at) c.index_mut.ensures.value ∙ ap (λ (o : Option Strand). Some o) (sym c.replace.ensures.value ∙ c.in-Some.is) in
    c.begin_start.ensures.next gw t (subst (λ (o : Option Strand). StartsAt gw t (record x { strands = slice_set x.strands 0 o }) i s func) (sym c.replace.ensures.after) (opens_start gw t x i s func at start e))
