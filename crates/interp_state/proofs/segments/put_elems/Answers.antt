use Rattle.std.proofs.Common.{arith, ◌≡◌, ◌+◌, ◌≤◌, ◌++◌, Some, length, map, take, drop, ap, sym, ◌∙◌}
use Rattle.wa_types.specs.View.{code}
use Rattle.wa_model.specs.Instantiation.{place_at, put_piece}
use Rattle.interp_state.specs.Making.{elem_piece_of}
use Rattle.interp_state.proofs.MakeLemmas.{fits_next, puts_on, puts_end, put_length}
use Rattle.interp_state.proofs.segments.put_elems.Goals as goal

pub put-requires : goal.put-requires
put-requires c =
    let globals = c.args.globals.now in
    let elems = c.args.elems.now in
    let i = c.loop-elem.elem-index in
    let elem = c.elem-item.result in
    let next = fits_next (elem_piece_of globals) (length c.args.table.now.items) elems i elem c.loop-elem-test.true c.elem-item.is c.loop-elem.invariant.fits in
    let at : c.place_of.result ≡ (elem_piece_of globals elem).at = c.place_of.ensures ∙ ap (λ v. place_at globals (code v)) c.deref-in-loop-elem.ensures.value in
    let items : c.deref-in-loop-elem-2.result.now ≡ (elem_piece_of globals elem).items = c.deref-in-loop-elem-2.ensures.value ∙ c.in_ok-piece.ensures ∙ ap (map (λ x. Some x)) c.deref.ensures.value in
    let n = ap length items in
    omega (arith, next.here, at, n, c.loop-elem.invariant.size)

pub loop-elem-preserved : goal.loop-elem-preserved
loop-elem-preserved c =
    let globals = c.args.globals.now in
    let elems = c.args.elems.now in
    let i = c.loop-elem.elem-index in
    let elem = c.elem-item.result in
    let next = fits_next (elem_piece_of globals) (length c.args.table.now.items) elems i elem c.loop-elem-test.true c.elem-item.is c.loop-elem.invariant.fits in
    let at : c.place_of.result ≡ (elem_piece_of globals elem).at = c.place_of.ensures ∙ ap (λ v. place_at globals (code v)) c.deref-in-loop-elem.ensures.value in
    let items : c.deref-in-loop-elem-2.result.now ≡ (elem_piece_of globals elem).items = c.deref-in-loop-elem-2.ensures.value ∙ c.in_ok-piece.ensures ∙ ap (map (λ x. Some x)) c.deref.ensures.value in
    let old = c.loop-elem.table.items in
    let new = c.put.new.table.items in
    let written : new ≡ put_piece old (elem_piece_of globals elem) =
    c.put.ensures
    ∙ ap (λ v. take v old ++ c.deref-in-loop-elem-2.result.now ++ drop (v + length c.deref-in-loop-elem-2.result.now) old) at
    ∙ ap (λ v. take (elem_piece_of globals elem).at old ++ v ++ drop ((elem_piece_of globals elem).at + length v) old) items in
    let here : (elem_piece_of globals elem).at + length (elem_piece_of globals elem).items ≤ length old = omega (arith, next.here, c.loop-elem.invariant.size) in
    record {
      puts = puts_on (elem_piece_of globals) elems i elem old new c.loop-elem-test.true c.elem-item.is written ∙ c.loop-elem.invariant.puts;
      fits = next.rest;
      size = ap length written ∙ put_length old (elem_piece_of globals elem) here ∙ c.loop-elem.invariant.size;
    }

pub returns : goal.returns
returns c =
    sym (puts_end (elem_piece_of c.args.globals.now) c.args.elems.now c.loop-elem.elem-index c.loop-elem.table.items c.loop-elem-test.false) ∙ c.loop-elem.invariant.puts
