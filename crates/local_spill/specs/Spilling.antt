-- The code that saves a frame and that restores one. A frame has its locals at their offsets, and in its last four bytes the
-- number of the call at which its function waits; the frames stand in an area, the first words of which are the location
-- of the next frame and the end.
use Rattle.std.specs.Prelude.{ℕ, ◌+◌, ◌-◌, List, [], ◌∷◌, None, Option, Some}
use Rattle.wa_types.specs.Syntax.{const, num, global_get, load, store, basic, local_get, local_set, local_tee, unreachable, Code, done, plain, branch}
use Rattle.wa_types.specs.declared.operators.NumOp.TheVariants.{I32Add, I32Sub, I32LtU}
use Rattle.wa_types.specs.declared.values.ValType.{ValType}
use Rattle.wa_types.specs.declared.values.ValType.TheVariants.{I32, I64}
use Rattle.wa_types.specs.declared.values.Value.TheVariants as V
use Rattle.local_spill.specs.declared.frames.Layout.{Layout}
use Rattle.local_spill.specs.declared.frames.Place.{Place}
use Rattle.local_spill.specs.declared.RuntimeIds.{RuntimeIds}

-- The global of the area's address, the local of the call index, and an i32 local for the frame's address.
pub record SpillIndices : Type 0 where
  pub address : ℕ
  pub index : ℕ
  pub scratch : ℕ

-- aligned as the type is
abbrev pub stored_value : ValType → (offset : ℕ) → Code → Code
stored_value I32 off next = plain (basic (store 0x36 2 off)) next
stored_value I64 off next = plain (basic (store 0x37 3 off)) next

-- the value there is loaded
abbrev pub loaded_value : ValType → (offset : ℕ) → Code → Code
loaded_value I32 off next = plain (basic (load 0x28 2 off)) next
loaded_value I64 off next = plain (basic (load 0x29 3 off)) next

-- each local goes to its offset in the frame
abbrev pub locals_stored : (scratch : ℕ) → List Place → Code → Code
locals_stored sp [] next = next
locals_stored sp (p ∷ ps) next = plain (local_get sp) (plain (local_get p.local) (stored_value p.ty p.offset (locals_stored sp ps next)))

-- each local comes from its offset in the frame
abbrev pub locals_loaded : (scratch : ℕ) → List Place → Code → Code
locals_loaded sp [] next = next
locals_loaded sp (p ∷ ps) next = plain (local_get sp) (loaded_value p.ty p.offset (plain (local_set p.local) (locals_loaded sp ps next)))

-- the location
abbrev pub location_of : (address : ℕ) → Code → Code
location_of adr next = plain (basic (global_get adr)) (plain (basic (load 0x28 2 0)) next)

-- The location is where the frame begins. The code traps where the area has fewer than so many bytes from there to its end.
abbrev pub room_tested : (address scratch size : ℕ) → Code → Code
room_tested adr sp size next =
    plain (basic (global_get adr)) (plain (basic (load 0x28 2 4)) (location_of adr (plain (local_tee sp) (plain (basic (num I32Sub)) (plain (basic (const (V.I32 size)))
    (plain (basic (num I32LtU)) (branch None (plain unreachable done) done next)))))))

-- the call index goes to its offset in the frame
abbrev pub index_saved : (index scratch offset : ℕ) → Code → Code
index_saved ci sp off next = plain (local_get sp) (plain (local_get ci) (stored_value I32 off next))

-- the call index comes from its offset in the frame
abbrev pub index_restored : (index scratch offset : ℕ) → Code → Code
index_restored ci sp off next = plain (local_get sp) (loaded_value I32 off (plain (local_set ci) next))

-- The location becomes the end of the frame.
abbrev pub location_raised : (address scratch size : ℕ) → Code → Code
location_raised adr sp size next =
    plain (basic (global_get adr)) (plain (local_get sp) (plain (basic (const (V.I32 size))) (plain (basic (num I32Add)) (stored_value I32 0 next))))

-- The location becomes the beginning of the frame that ends there, where the frame begins.
abbrev pub location_taken : (address scratch size : ℕ) → Code → Code
location_taken adr sp size next =
    plain (basic (global_get adr)) (location_of adr (plain (basic (const (V.I32 size))) (plain (basic (num I32Sub)) (plain (local_tee sp) (stored_value I32 0 next)))))

-- SAVE: nothing is written before it is known that the frame fits. It has so many bytes before the index.
abbrev pub saving : SpillIndices → (bytes : ℕ) → List Place → Code → Code
saving i n ps next =
    room_tested i.address i.scratch (n + 4) (locals_stored i.scratch ps (index_saved i.index i.scratch n (location_raised i.address i.scratch (n + 4) next)))

-- RESTORE: the location is lowered by the frame, and the locals and the index come back from there.
abbrev pub restoring : SpillIndices → (bytes : ℕ) → List Place → Code → Code
restoring i n ps next = location_taken i.address i.scratch (n + 4) (locals_loaded i.scratch ps (index_restored i.index i.scratch n next))

-- ---- in a function

-- the call index stands behind the flat locals, and behind it the i32 scratch local
abbrev pub spill_indices : (base : ℕ) → RuntimeIds → SpillIndices
spill_indices base ids = record { address = ids.address; index = base; scratch = base + 1 }

-- where the state isn't 0
abbrev pub unless_normal : (state : ℕ) → Code → Code → Code
unless_normal st code next = plain (basic (global_get st)) (branch None code done next)

-- In front of the body the frame is restored where the state isn't 0; all calls have the frame of the first.
abbrev pub prologue_code : (base : ℕ) → RuntimeIds → Option Layout → Code → Code
prologue_code base ids None next = next
prologue_code base ids (Some l) next = unless_normal ids.state (restoring (spill_indices base ids) (l.size - 4) l.places.items done) next

-- behind the body it is saved where the state isn't 0
abbrev pub epilogue_code : (base : ℕ) → RuntimeIds → Option Layout → Code → Code
epilogue_code base ids None next = next
epilogue_code base ids (Some l) next = unless_normal ids.state (saving (spill_indices base ids) (l.size - 4) l.places.items done) next
