-- A store that is put back fits.
use Rattle.std.proofs.Common.{arith, ◌≡◌, ℕ, zero, suc, ◌+◌, ◌*◌, ◌<◌, ◌≤◌, List, [], ◌∷◌, ◌++◌, map, Option, Some, None, refl, sym, ap, ◌∙◌, length, take, drop, replicate, min}
use Rattle.wa_types.specs.declared.values.Value.{Value}
use Rattle.wa_types.specs.Memory.{IsWholePages, page_bound, page_size, pages_of}
use Rattle.wa_types.specs.Modules.{all_globals, all_tables, func_sorts}
use Rattle.wa_types.specs.Syntax.{Elem, Module}
use Rattle.wa_types.specs.Validity.{Valid}
use Rattle.wa_model.specs.Instantiation.{Piece, elem_piece, least_of, put_piece, put_pieces}
use Rattle.wa_model.specs.Step.{memory_max}
use Rattle.run_theory.specs.Fitting.{types_of, global_types, StoreFits}
use Rattle.run_theory.specs.Growth.{Each, EntryNamed}
use Rattle.run_theory.proofs.GrownInstances.{each_append}
use Rattle.run_theory.proofs.NamedModules.{valid_instance}
use Rattle.interp_state.specs.Making.{restored_store}
use Rattle.interp.specs.Restoring.{IsRestorable}

-- ---- what holds of all that is written holds of what stands behind it

module _ {X : Type 0} (P : X → Type 0) where
  each_take : (k : ℕ) (xs : List X) → Each P xs → Each P (take k xs)
  each_take zero xs h = tt
  each_take (suc k) [] h = tt
  each_take (suc k) (x ∷ xs) h = (h.0, each_take k xs h.1)

  each_drop : (k : ℕ) (xs : List X) → Each P xs → Each P (drop k xs)
  each_drop zero xs h = h
  each_drop (suc k) [] h = tt
  each_drop (suc k) (x ∷ xs) h = each_drop k xs h.1

  each_replicate : (k : ℕ) (x : X) → P x → Each P (replicate k x)
  each_replicate zero x h = tt
  each_replicate (suc k) x h = (h, each_replicate k x h)

  each_put : (xs : List X) (p : Piece X) → Each P xs → Each P p.items → Each P (put_piece xs p)
  each_put xs p h i =
      each_append P (take p.at xs ++ p.items) (drop (p.at + length p.items) xs) (each_append P (take p.at xs) p.items (each_take p.at xs h) i) (each_drop (p.at + length p.items) xs h)

  each_put_all : (xs : List X) (ps : List (Piece X)) → Each P xs → Each (λ (p : Piece X). Each P p.items) ps → Each P (put_pieces xs ps)
  each_put_all xs [] h i = h
  each_put_all xs (p ∷ ps) h i = each_put_all (put_piece xs p) ps (each_put xs p h i.0) i.1

-- ---- the table

entries_named : (f : ℕ) (xs : List ℕ) → Each (λ x. x < f) xs → Each (EntryNamed f) (map (λ x. Some x) xs)
entries_named f [] h = tt
entries_named f (x ∷ xs) h = (h.0, entries_named f xs h.1)

pieces_named : (f : ℕ) (globals : List Value) (es : List Elem) → Each (λ (e : Elem). Each (λ x. x < f) e.funcs) es
    → Each (λ (p : Piece (Option ℕ)). Each (EntryNamed f) p.items) (map (elem_piece globals) es)
pieces_named f globals [] h = tt
pieces_named f globals (e ∷ es) h = (entries_named f e.funcs h.0, pieces_named f globals es h.1)

-- ---- the store

-- with globals of their types it fits, whatever the memory
pub restored_fits : (m : Module) (globals : List Value) (memory : List ℕ) → Valid m → types_of globals ≡ global_types (all_globals m) → StoreFits m (restored_store m globals memory)
restored_fits m globals memory v typed =
    let f : ℕ = length (func_sorts m) in
    let none : Option ℕ = None in
    record {
      globals = typed;
      table =
          each_put_all (EntryNamed f) (replicate (least_of (all_tables m)) none) (map (elem_piece globals) m.elems) (each_replicate (EntryNamed f) (least_of (all_tables m)) none tt)
          (pieces_named f globals m.elems (valid_instance m v).elem_funcs);
    }

bound_most : (most : Option ℕ) → page_bound most ≤ 1024
bound_most None = omega arith
bound_most (Some n) = omega arith

-- its memory is whole pages, and not too many
pub restorable_whole : (m : Module) (memory : List ℕ) → IsRestorable m memory → IsWholePages memory
restorable_whole m memory r =
    let most = bound_most (memory_max m) in
    record { whole = r.whole; bounded = omega (arith, r.whole, r.pages.most, most) }
