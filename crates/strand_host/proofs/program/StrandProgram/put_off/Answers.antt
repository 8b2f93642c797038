use Rattle.std.proofs.Common.{ap, slice_set, sym, ℕ, Option, None, Some, ◌+◌, ◌≡◌, ◌∙◌}
use Rattle.std.specs.Option.{option_map, unwrap_or}
use Rattle.many_host.proofs.TurnPlaces.{stands_at}
use Rattle.strand_host.specs.declared.program.StrandProgram.{StrandProgram}
use Rattle.strand_host.specs.StrandPrograms.{due_at, stock_of}
use Rattle.strand_host.proofs.program.StrandProgram.put_off.Goals as goal

pub later-requires : goal.later-requires
later-requires c = λ tick is.
    c.requires.few tick (stands_at c.args.self.now.dues.items c.args.going.number c.index.result.now c.requires.there c.index.ensures ∙ ap (λ (o : Option ℕ). Some o) is)

pub returns : goal.returns
returns c =
    let x = c.args.self.now in
    let n = c.args.going.number in
    let there = stands_at x.dues.items n c.index.result.now c.requires.there c.index.ensures in
    let due : c.later.result ≡ option_map (λ tick. tick + c.args.ticks) (due_at n x.dues.items) =
    c.later.ensures ∙ ap (λ (o : Option (Option ℕ)). option_map (λ tick. tick + c.args.ticks) (unwrap_or o None)) (sym there) in (
      ap stock_of c.put_state.ensures ∙ ap stock_of c.put_strand.ensures
          ∙ ap (λ (o : Option ℕ). record (stock_of x) { dues = slice_set x.dues.items n o; strands = slice_set x.strands.items n (Some c.args.going.strand) }) due,
      ap (λ (y : StrandProgram). y.state) c.put_state.ensures,
    )
