use Rattle.std.proofs.Common.{◌≡◌, ◌*◌, ℕ, List, length, map, replicate, Option, None, ap, sym, ◌∙◌}
use Rattle.std.proofs.lemmas.List.{length-replicate}
use Rattle.std.proofs.lemmas.Result.{IfOk-from_err}
use Rattle.wa_types.specs.Memory.{page_size}
use Rattle.wa_types.specs.View.{elem_of, segment_of}
use Rattle.wa_model.specs.Instantiation.{elem_piece, byte_piece, first_out, put_pieces, opens}
use Rattle.interp_state.specs.Making.{elem_piece_of, byte_piece_of}
use Rattle.interp_state.proofs.MapLemmas.{map_map}
use Rattle.interp_state.proofs.MakeLemmas.{fails_memory, filled_elems, filled_bytes, filled_all}
use Rattle.interp_state.proofs.make.fill.Goals as goal

pub returns-in-Some : goal.returns-in-Some
returns-in-Some c =
    let g = c.args.globals.items in
    let source = c.args.source.now in
    let elems = source.elems.items in
    let segments = source.segments.items in
    let none : Option ℕ = None in
    let table = replicate c.args.entries none in
    let memory : List ℕ = replicate (c.args.pages * page_size) 0 in
    let E = map (elem_piece g) (map elem_of elems) in
    let B = map (byte_piece g) (map segment_of segments) in
    let eE = map_map (elem_piece g) elem_of elems in
    let eB = map_map (byte_piece g) segment_of segments in
    record {
      ok = tt;
      max = tt;
      err =
          let elems_out : first_out (length table) 0 E ≡ c.elem_out.result =
          ap (λ n. first_out n 0 E) (length-replicate c.args.entries none)
          ∙ ap (first_out c.args.entries 0) eE
          ∙ ap (λ v. first_out c.args.entries 0 (map (elem_piece_of v) elems)) (sym c.deref.ensures.value)
          ∙ ap (λ v. first_out c.args.entries 0 (map (elem_piece_of c.deref.result.now) v)) (sym c.deref-2.ensures.value)
          ∙ sym c.elem_out.ensures.first in
          filled_elems g memory table E B c.in-Some.i (elems_out ∙ c.in-Some.is);
    }

pub returns-in-Some-segment_out : goal.returns-in-Some-segment_out
returns-in-Some-segment_out c =
    let g = c.args.globals.items in
    let source = c.args.source.now in
    let elems = source.elems.items in
    let segments = source.segments.items in
    let none : Option ℕ = None in
    let table = replicate c.args.entries none in
    let memory : List ℕ = replicate (c.args.pages * page_size) 0 in
    let E = map (elem_piece g) (map elem_of elems) in
    let B = map (byte_piece g) (map segment_of segments) in
    let eE = map_map (elem_piece g) elem_of elems in
    let eB = map_map (byte_piece g) segment_of segments in
    record {
      ok = tt;
      max = tt;
      err =
          let elems_out : first_out (length table) 0 E ≡ c.elem_out.result =
          ap (λ n. first_out n 0 E) (length-replicate c.args.entries none)
          ∙ ap (first_out c.args.entries 0) eE
          ∙ ap (λ v. first_out c.args.entries 0 (map (elem_piece_of v) elems)) (sym c.deref.ensures.value)
          ∙ ap (λ v. first_out c.args.entries 0 (map (elem_piece_of c.deref.result.now) v)) (sym c.deref-2.ensures.value)
          ∙ sym c.elem_out.ensures.first in
          let bytes = c.bytes.result.now in
          let bytes_are : bytes ≡ memory = c.bytes.ensures ∙ c.in_ok-memory.ensures.bytes in
          let bytes_out : first_out (length memory) 0 B ≡ c.segment_out.result =
          ap (λ v. first_out (length v) 0 B) (sym bytes_are)
          ∙ ap (first_out (length bytes) 0) eB
          ∙ ap (λ v. first_out (length bytes) 0 (map (byte_piece_of v) segments)) (sym c.deref-3.ensures.value)
          ∙ ap (λ v. first_out (length bytes) 0 (map (byte_piece_of c.deref-3.result.now) v)) (sym c.deref-4.ensures.value)
          ∙ sym c.segment_out.ensures.first in
          filled_bytes g memory table E B c.in-Some-segment_out.i (elems_out ∙ c.in_default.is) (bytes_out ∙ c.in-Some-segment_out.is);
    }

pub returns : goal.returns
returns c =
    let g = c.args.globals.items in
    let source = c.args.source.now in
    let elems = source.elems.items in
    let segments = source.segments.items in
    let none : Option ℕ = None in
    let table = replicate c.args.entries none in
    let memory : List ℕ = replicate (c.args.pages * page_size) 0 in
    let E = map (elem_piece g) (map elem_of elems) in
    let B = map (byte_piece g) (map segment_of segments) in
    let eE = map_map (elem_piece g) elem_of elems in
    let eB = map_map (byte_piece g) segment_of segments in
    record {
      ok =
          let elems_out : first_out (length table) 0 E ≡ c.elem_out.result =
          ap (λ n. first_out n 0 E) (length-replicate c.args.entries none)
          ∙ ap (first_out c.args.entries 0) eE
          ∙ ap (λ v. first_out c.args.entries 0 (map (elem_piece_of v) elems)) (sym c.deref.ensures.value)
          ∙ ap (λ v. first_out c.args.entries 0 (map (elem_piece_of c.deref.result.now) v)) (sym c.deref-2.ensures.value)
          ∙ sym c.elem_out.ensures.first in
          let bytes = c.bytes.result.now in
          let bytes_are : bytes ≡ memory = c.bytes.ensures ∙ c.in_ok-memory.ensures.bytes in
          let bytes_out : first_out (length memory) 0 B ≡ c.segment_out.result =
          ap (λ v. first_out (length v) 0 B) (sym bytes_are)
          ∙ ap (first_out (length bytes) 0) eB
          ∙ ap (λ v. first_out (length bytes) 0 (map (byte_piece_of v) segments)) (sym c.deref-3.ensures.value)
          ∙ ap (λ v. first_out (length bytes) 0 (map (byte_piece_of c.deref-3.result.now) v)) (sym c.deref-4.ensures.value)
          ∙ sym c.segment_out.ensures.first in
          let table_is : put_pieces table E ≡ c.put_elems.new.table.items =
          ap (put_pieces table) eE
          ∙ ap (λ v. put_pieces v (map (elem_piece_of g) elems)) (sym c.in_ok-table.ensures)
          ∙ ap (λ v. put_pieces c.in_ok-table.table.items (map (elem_piece_of v) elems)) (sym c.deref-5.ensures.value)
          ∙ ap (λ v. put_pieces c.in_ok-table.table.items (map (elem_piece_of c.deref-5.result.now) v)) (sym c.deref-6.ensures.value)
          ∙ sym c.in_ok-put_elems.ensures in
          let memory_is : put_pieces memory B ≡ c.put_segments.new.memory.bytes =
          ap (put_pieces memory) eB
          ∙ ap (λ v. put_pieces v (map (byte_piece_of g) segments)) (sym c.in_ok-memory.ensures.bytes)
          ∙ ap (λ v. put_pieces c.in_ok-memory.memory.bytes (map (byte_piece_of v) segments)) (sym c.deref-7.ensures.value)
          ∙ ap (λ v. put_pieces c.in_ok-memory.memory.bytes (map (byte_piece_of c.deref-7.result.now) v)) (sym c.deref-8.ensures.value)
          ∙ sym c.put_segments.ensures.bytes in
          filled_all g memory table E B (elems_out ∙ c.in_default.is) (bytes_out ∙ c.in_default-segment_out.is)
          ∙ ap (λ t. opens (record { globals = g; memory = put_pieces memory B; table = t })) table_is
          ∙ ap (λ m. opens (record { globals = g; memory = m; table = c.put_elems.new.table.items })) memory_is;
      max = c.put_segments.ensures.max ∙ c.in_ok-memory.ensures.max;
      err = tt;
    }

pub returns-in_err-table : goal.returns-in_err-table
returns-in_err-table c = record {
  ok = IfOk-from_err c.from_residual.result _ c.from_residual.ensures.0;
  max = IfOk-from_err c.from_residual.result _ c.from_residual.ensures.0;
  err = fails_memory c.from_residual.result _ c.from_residual.ensures.1;
}

pub returns-in_err-memory : goal.returns-in_err-memory
returns-in_err-memory c = record {
  ok = IfOk-from_err c.from_residual-in_err-memory.result _ c.from_residual-in_err-memory.ensures.0;
  max = IfOk-from_err c.from_residual-in_err-memory.result _ c.from_residual-in_err-memory.ensures.0;
  err = fails_memory c.from_residual-in_err-memory.result _ c.from_residual-in_err-memory.ensures.1;
}

pub returns-in_err-put_elems : goal.returns-in_err-put_elems
returns-in_err-put_elems c = record {
  ok = IfOk-from_err c.from_residual-in_err-put_elems.result _ c.from_residual-in_err-put_elems.ensures.0;
  max = IfOk-from_err c.from_residual-in_err-put_elems.result _ c.from_residual-in_err-put_elems.ensures.0;
  err = fails_memory c.from_residual-in_err-put_elems.result _ c.from_residual-in_err-put_elems.ensures.1;
}
