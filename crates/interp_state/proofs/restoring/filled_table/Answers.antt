use Rattle.std.proofs.Common.{◌≡◌, ℕ, length, map, replicate, Option, None, ap, sym, ◌∙◌}
use Rattle.std.proofs.lemmas.List.{length-replicate}
use Rattle.wa_types.specs.Modules.{all_tables}
use Rattle.wa_types.specs.View.{elem_of, module_of}
use Rattle.wa_model.specs.Instantiation.{elem_piece, first_out, least_of, put_pieces}
use Rattle.interp_state.specs.Making.{elem_piece_of}
use Rattle.interp_state.proofs.MapLemmas.{map_map}
use Rattle.interp_state.proofs.restoring.filled_table.Goals as goal

pub put_elems-requires : goal.put_elems-requires
put_elems-requires c =
    let g = c.args.globals.now in
    let m = module_of c.args.source.now in
    let elems = c.args.source.now.elems.items in
    let none : Option ℕ = None in
    let entries : c.least_of.result ≡ least_of (all_tables m) = c.least_of.ensures ∙ ap least_of (c.deref.ensures.value ∙ c.in_ok-tables.ensures) in
    let size : length c.in_ok-table.table.items ≡ least_of (all_tables m) = ap length c.in_ok-table.ensures ∙ length-replicate c.least_of.result none ∙ entries in
    ap (λ n. first_out n 0 (map (elem_piece_of g) c.deref-2.result.now)) size
    ∙ ap (λ v. first_out (least_of (all_tables m)) 0 (map (elem_piece_of g) v)) c.deref-2.ensures.value
    ∙ sym (ap (first_out (least_of (all_tables m)) 0) (map_map (elem_piece g) elem_of elems))
    ∙ c.requires

pub returns : goal.returns
returns c =
    let g = c.args.globals.now in
    let m = module_of c.args.source.now in
    let elems = c.args.source.now.elems.items in
    let none : Option ℕ = None in
    let entries : c.least_of.result ≡ least_of (all_tables m) = c.least_of.ensures ∙ ap least_of (c.deref.ensures.value ∙ c.in_ok-tables.ensures) in
    c.in_ok-put_elems.ensures
    ∙ ap (λ v. put_pieces v (map (elem_piece_of g) c.deref-2.result.now)) (c.in_ok-table.ensures ∙ ap (λ n. replicate n none) entries)
    ∙ ap (λ v. put_pieces (replicate (least_of (all_tables m)) none) (map (elem_piece_of g) v)) c.deref-2.ensures.value
    ∙ sym (ap (put_pieces (replicate (least_of (all_tables m)) none)) (map_map (elem_piece g) elem_of elems))
