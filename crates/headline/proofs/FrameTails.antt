-- The codes that save and that restore a frame of one layout, with more behind them.
use Rattle.std.proofs.Common.{◌≡◌, ℕ, ◌+◌, List, [], ◌∷◌, None, refl, ap}
use Rattle.wa_types.specs.Frames.{width}
use Rattle.wa_types.specs.Syntax.{Code, basic, branch, const, done, global_get, load, local_get, local_set, local_tee, num, plain, store, unreachable}
use Rattle.wa_types.specs.declared.operators.NumOp.TheVariants.{I32Add, I32LtU, I32Sub}
use Rattle.wa_types.specs.declared.values.ValType.TheVariants.{I32, I64}
use Rattle.wa_types.specs.declared.values.Value.TheVariants as V
use Rattle.run_theory.specs.Flat.{followed_by}
use Rattle.frame_laws.specs.Layout.{FrameField, Layout, fields_size, frame_size, gap, kept, loads, restore_code, save_code, stores}

pub stores_then : (sp off : ℕ) (ps : List FrameField) (c d : Code) → followed_by (stores sp off ps c) d ≡ stores sp off ps (followed_by c d)
unfolding followed_by
stores_then sp off [] c d = refl
stores_then sp off (kept x I32 ∷ ps) c d = ap (λ z. plain (local_get sp) (plain (local_get x) (plain (basic (store 0x36 2 off)) z))) (stores_then sp (off + width I32) ps c d)
stores_then sp off (kept x I64 ∷ ps) c d = ap (λ z. plain (local_get sp) (plain (local_get x) (plain (basic (store 0x37 3 off)) z))) (stores_then sp (off + width I64) ps c d)
stores_then sp off (gap t ∷ ps) c d = stores_then sp (off + width t) ps c d

pub loads_then : (sp off : ℕ) (ps : List FrameField) (c d : Code) → followed_by (loads sp off ps c) d ≡ loads sp off ps (followed_by c d)
unfolding followed_by
loads_then sp off [] c d = refl
loads_then sp off (kept x I32 ∷ ps) c d = ap (λ z. plain (local_get sp) (plain (basic (load 0x28 2 off)) (plain (local_set x) z))) (loads_then sp (off + width I32) ps c d)
loads_then sp off (kept x I64 ∷ ps) c d = ap (λ z. plain (local_get sp) (plain (basic (load 0x29 3 off)) (plain (local_set x) z))) (loads_then sp (off + width I64) ps c d)
loads_then sp off (gap t ∷ ps) c d = loads_then sp (off + width t) ps c d

-- the test of the room in front of the stores
abbrev tested : Layout → Code → Code
tested l next =
    plain (basic (global_get l.address)) (plain (basic (load 0x28 2 4)) (plain (basic (global_get l.address)) (plain (basic (load 0x28 2 0)) (plain (local_tee l.scratch)
    (plain (basic (num I32Sub)) (plain (basic (const (V.I32 (frame_size l)))) (plain (basic (num I32LtU)) (branch None (plain unreachable done) done next))))))))

-- the index and the location behind them
abbrev put_last : Layout → Code → Code
put_last l next =
    plain (local_get l.scratch) (plain (local_get l.index) (plain (basic (store 0x36 2 (fields_size l.fields)))
    (plain (basic (global_get l.address)) (plain (local_get l.scratch) (plain (basic (const (V.I32 (frame_size l)))) (plain (basic (num I32Add)) (plain (basic (store 0x36 2 0)) next)))))))

-- SAVE with more behind it
pub save_then : (l : Layout) (next : Code) → followed_by (save_code l done) next ≡ save_code l next
unfolding followed_by
save_then l next = ap (tested l) (stores_then l.scratch 0 l.fields (put_last l done) next)

-- the location in front of the loads
abbrev lowered : Layout → Code → Code
lowered l next =
    plain (basic (global_get l.address)) (plain (basic (global_get l.address)) (plain (basic (load 0x28 2 0)) (plain (basic (const (V.I32 (frame_size l)))) (plain (basic (num I32Sub))
    (plain (local_tee l.scratch) (plain (basic (store 0x36 2 0)) next))))))

-- the index behind them
abbrev get_last : Layout → Code → Code
get_last l next = plain (local_get l.scratch) (plain (basic (load 0x28 2 (fields_size l.fields))) (plain (local_set l.index) next))

-- and RESTORE
pub restore_then : (l : Layout) (next : Code) → followed_by (restore_code l done) next ≡ restore_code l next
unfolding followed_by
restore_then l next = ap (lowered l) (loads_then l.scratch 0 l.fields (get_last l done) next)
