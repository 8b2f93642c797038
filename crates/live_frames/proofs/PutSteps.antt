-- What is put behind a list of instructions, loop by loop.
use Rattle.std.proofs.Common.{None, ◌≡◌, ℕ, ◌+◌, ◌<◌, ◌≤◌, List, [], ◌∷◌, length, take, drop, get_or, sym, ap, ◌∙◌, arith}
use Rattle.std.proofs.lemmas.List.{take_all, drop_all}
use Rattle.wa_types.specs.declared.instrs.Instr.{Instr}
use Rattle.wa_types.specs.declared.instrs.Instr.TheVariants.{GlobalGet, LocalTee, Num}
use Rattle.wa_types.specs.declared.values.ValType.TheVariants.{I32}
use Rattle.wa_types.specs.declared.operators.NumOp.TheVariants.{I32Sub, I32GtU}
use Rattle.wa_types.specs.Syntax.{local_get, local_set, unreachable, Code, done, plain, branch}
use Rattle.wa_types.specs.View.{onto, in_front}
use Rattle.local_spill.specs.Putting.{Puts}
use Rattle.local_spill.specs.Spilling.{stored_value, loaded_value, location_of}
use Rattle.frame_laws.specs.Layout.{fields_size, stores, loads}
use Rattle.call_frames.specs.FrameParts.{parts_stored, parts_loaded}
use Rattle.call_frames.specs.PlainFrames.{SavedPart, parts_of}
use Rattle.call_frames.specs.declared.frames.KeptLocal.{KeptLocal}
use Rattle.call_frames.specs.declared.frames.KeptPart.{KeptPart}
use Rattle.live_frames.specs.Putting.{room_tested}
use Rattle.call_frames.specs.Views.{fields_of, part_view, part_views}
use Rattle.live_frames.proofs.PieceLemmas.{stored_more, loaded_more, part_stored, part_loaded}
use Rattle.live_frames.proofs.FieldSteps.{shared_bytes}

-- what is put, told otherwise
pub put_same : {X : Type 0} (old new : List Instr) (f : X → Code → Code) (x y : X) → x ≡ y → Puts old new (f x) → Puts old new (f y)
put_same old new f x y e h rest = h rest ∙ ap (λ z. onto old (f z rest)) e

-- the test for room: l loads the end of the area, m the location, and x traps
pub room_put : (adr sp : ℕ) (l m x : Instr) → ((k : Code) → in_front l k ≡ loaded_value I32 4 k) → ((k : Code) → in_front m k ≡ loaded_value I32 0 k)
    → ((k : Code) → in_front x k ≡ branch None (plain unreachable done) done k) → (rest : Code)
    → onto (GlobalGet adr ∷ l ∷ GlobalGet adr ∷ m ∷ LocalTee sp ∷ Num I32Sub ∷ Num I32GtU ∷ x ∷ []) rest ≡ room_tested adr sp rest
unfolding onto in_front
room_put adr sp l m x is_l is_m is_x rest =
    ap (in_front (GlobalGet adr)) (is_l _)
    ∙ ap (λ k. in_front (GlobalGet adr) (loaded_value I32 4 (in_front (GlobalGet adr) k))) (is_m _)
    ∙ ap (λ k. in_front (GlobalGet adr) (loaded_value I32 4 (location_of adr (in_front (LocalTee sp) (in_front (Num I32Sub) (in_front (Num I32GtU) k)))))) (is_x rest)

-- ---- fields

pub stored_step : (old mid new : List Instr) (sp off o : ℕ) (xs : List KeptLocal) (i : ℕ) (d : KeptLocal) → i < length xs → o ≡ off + fields_size (fields_of (take i xs))
    → Puts old mid (stores sp off (fields_of (take i xs))) → Puts mid new (λ c. plain (local_get sp) (plain (local_get (get_or xs i d).local) (stored_value (get_or xs i d).ty o c)))
    → Puts old new (stores sp off (fields_of (take (i + 1) xs)))
stored_step old mid new sp off o xs i d lt e h k rest =
    k rest ∙ h (plain (local_get sp) (plain (local_get (get_or xs i d).local) (stored_value (get_or xs i d).ty o rest))) ∙ ap (onto old) (stored_more sp off o xs i d rest lt e)

pub stored_end : (old new : List Instr) (sp off : ℕ) (xs : List KeptLocal) (i : ℕ) → length xs ≤ i → Puts old new (stores sp off (fields_of (take i xs))) → Puts old new (stores sp off (fields_of xs))
stored_end old new sp off xs i le h rest = h rest ∙ ap (λ ys. onto old (stores sp off (fields_of ys) rest)) (take_all i xs le)

pub loaded_step : (old mid new : List Instr) (sp off o : ℕ) (xs : List KeptLocal) (i : ℕ) (d : KeptLocal) → i < length xs → o ≡ off + fields_size (fields_of (take i xs))
    → Puts old mid (loads sp off (fields_of (take i xs))) → Puts mid new (λ c. plain (local_get sp) (loaded_value (get_or xs i d).ty o (plain (local_set (get_or xs i d).local) c)))
    → Puts old new (loads sp off (fields_of (take (i + 1) xs)))
loaded_step old mid new sp off o xs i d lt e h k rest =
    k rest ∙ h (plain (local_get sp) (loaded_value (get_or xs i d).ty o (plain (local_set (get_or xs i d).local) rest))) ∙ ap (onto old) (loaded_more sp off o xs i d rest lt e)

pub loaded_end : (old new : List Instr) (sp off : ℕ) (xs : List KeptLocal) (i : ℕ) → length xs ≤ i → Puts old new (loads sp off (fields_of (take i xs))) → Puts old new (loads sp off (fields_of xs))
loaded_end old new sp off xs i le h rest = h rest ∙ ap (λ ys. onto old (loads sp off (fields_of ys) rest)) (take_all i xs le)

-- ---- parts

module _ (old mid new : List Instr) (index sp : ℕ) (xs : List KeptPart) (i : ℕ) (d : KeptPart) (lt : i < length xs) where
  pub part_stored_step : (o : ℕ) → o ≡ shared_bytes index (part_views (take i xs)) → Puts old mid (parts_stored sp 0 (parts_of index (part_views (take i xs))))
      → Puts mid new (parts_stored sp o (parts_of index (part_view (get_or xs i d) ∷ []))) → Puts old new (parts_stored sp 0 (parts_of index (part_views (take (i + 1) xs))))
  part_stored_step o e h k rest = k rest ∙ h (parts_stored sp o (parts_of index (part_view (get_or xs i d) ∷ [])) rest) ∙ ap (onto old) (part_stored index sp xs i d lt o rest e)

  pub part_loaded_step : (off o : ℕ) → o ≡ off + shared_bytes index (part_view (get_or xs i d) ∷ []) → Puts old mid (parts_loaded sp o (parts_of index (part_views (drop (i + 1) xs))))
      → Puts mid new (parts_loaded sp off (parts_of index (part_view (get_or xs i d) ∷ []))) → Puts old new (parts_loaded sp off (parts_of index (part_views (drop i xs))))
  part_loaded_step off o e h k rest = k rest ∙ h (parts_loaded sp off (parts_of index (part_view (get_or xs i d) ∷ [])) rest) ∙ ap (onto old) (part_loaded index sp xs i d lt off o rest e)

-- all parts
module _ (old new : List Instr) (index sp : ℕ) (xs : List KeptPart) (i : ℕ) (le : length xs ≤ i) where
  pub part_stored_end : Puts old new (parts_stored sp 0 (parts_of index (part_views (take i xs)))) → Puts old new (parts_stored sp 0 (parts_of index (part_views xs)))
  part_stored_end h rest = h rest ∙ ap (λ ys. onto old (parts_stored sp 0 (parts_of index (part_views ys)) rest)) (take_all i xs le)

pub part_loaded_first : (old : List Instr) (index sp o : ℕ) (xs : List KeptPart) (n : ℕ) → n ≡ length xs → Puts old old (parts_loaded sp o (parts_of index (part_views (drop n xs))))
part_loaded_first old index sp o xs n e rest = ap (λ ys. onto old (parts_loaded sp o (parts_of index (part_views ys)) rest)) (sym (drop_all n xs (omega (arith, e))))

pub part_loaded_end : (old new : List Instr) (index sp o : ℕ) (xs : List KeptPart) (n : ℕ) → n ≡ 0 → o ≡ shared_bytes index (part_views (take n xs))
    → Puts old new (parts_loaded sp o (parts_of index (part_views (drop n xs)))) → Puts old new (parts_loaded sp 0 (parts_of index (part_views xs)))
part_loaded_end old new index sp o xs n e eo h rest =
    let z : o ≡ 0 = eo ∙ ap (λ k. shared_bytes index (part_views (take k xs))) e in
    h rest ∙ ap (λ k. onto old (parts_loaded sp o (parts_of index (part_views (drop k xs))) rest)) e ∙ ap (λ k. onto old (parts_loaded sp k (parts_of index (part_views xs)) rest)) z

-- one part, told otherwise
pub part_same : (old new : List Instr) (f : SavedPart → Code → Code) (p q : KeptPart) → p ≡ q → Puts old new (f (part_view q)) → Puts old new (f (part_view p))
part_same old new f p q e h rest = h rest ∙ ap (λ z. onto old (f (part_view z) rest)) (sym e)
