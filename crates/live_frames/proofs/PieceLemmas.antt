-- Rows of fields and rows of classes, one more behind or in front.
use Rattle.std.proofs.Common.{◌≡◌, ℕ, ◌+◌, ◌<◌, List, [], ◌∷◌, ◌++◌, length, take, drop, get_or, None, sym, ap, ◌∙◌, arith}
use Rattle.std.proofs.lemmas.List.{map_more, drop_more}
use Rattle.wa_types.specs.declared.values.ValType.{ValType}
use Rattle.wa_types.specs.Frames.{width}
use Rattle.wa_types.specs.Syntax.{local_get, local_set, Code, done, plain, branch}
use Rattle.local_spill.specs.Spilling.{stored_value, loaded_value}
use Rattle.frame_laws.specs.Layout.{FrameField, kept, gap, fields_size, stores, loads}
use Rattle.call_frames.specs.FrameParts.{parts_stored, parts_loaded, scratch_raised, scratch_lowered}
use Rattle.call_frames.specs.PlainFrames.{SavedPart, at_every, at_these, at_calls, parts_of}
use Rattle.call_frames.specs.declared.frames.KeptLocal.{KeptLocal}
use Rattle.call_frames.specs.declared.frames.KeptPart.{KeptPart}
use Rattle.call_frames.specs.Views.{kept_field, fields_of, part_view, part_views}
use Rattle.live_frames.proofs.FieldSteps.{shared_bytes}

-- ---- fields

stores_more : (sp off : ℕ) (fs : List FrameField) (x : ℕ) (t : ValType) (c : Code)
    → stores sp off (fs ++ kept x t ∷ []) c ≡ stores sp off fs (plain (local_get sp) (plain (local_get x) (stored_value t (off + fields_size fs) c)))
stores_more sp off [] x t c = let z : off ≡ off + 0 = omega arith in ap (λ n. plain (local_get sp) (plain (local_get x) (stored_value t n c))) z
stores_more sp off (kept y u ∷ fs) x t c =
    let z : off + width u + fields_size fs ≡ off + (width u + fields_size fs) = omega arith in
    ap (λ k. plain (local_get sp) (plain (local_get y) (stored_value u off k)))
    (stores_more sp (off + width u) fs x t c ∙ ap (λ n. stores sp (off + width u) fs (plain (local_get sp) (plain (local_get x) (stored_value t n c)))) z)
stores_more sp off (gap u ∷ fs) x t c =
    let z : off + width u + fields_size fs ≡ off + (width u + fields_size fs) = omega arith in
    stores_more sp (off + width u) fs x t c ∙ ap (λ n. stores sp (off + width u) fs (plain (local_get sp) (plain (local_get x) (stored_value t n c)))) z

loads_more : (sp off : ℕ) (fs : List FrameField) (x : ℕ) (t : ValType) (c : Code)
    → loads sp off (fs ++ kept x t ∷ []) c ≡ loads sp off fs (plain (local_get sp) (loaded_value t (off + fields_size fs) (plain (local_set x) c)))
loads_more sp off [] x t c = let z : off ≡ off + 0 = omega arith in ap (λ n. plain (local_get sp) (loaded_value t n (plain (local_set x) c))) z
loads_more sp off (kept y u ∷ fs) x t c =
    let z : off + width u + fields_size fs ≡ off + (width u + fields_size fs) = omega arith in
    ap (λ k. plain (local_get sp) (loaded_value u off (plain (local_set y) k)))
    (loads_more sp (off + width u) fs x t c ∙ ap (λ n. loads sp (off + width u) fs (plain (local_get sp) (loaded_value t n (plain (local_set x) c)))) z)
loads_more sp off (gap u ∷ fs) x t c =
    let z : off + width u + fields_size fs ≡ off + (width u + fields_size fs) = omega arith in
    loads_more sp (off + width u) fs x t c ∙ ap (λ n. loads sp (off + width u) fs (plain (local_get sp) (loaded_value t n (plain (local_set x) c)))) z

pub stored_more : (sp off o : ℕ) (xs : List KeptLocal) (i : ℕ) (d : KeptLocal) (c : Code) → i < length xs → o ≡ off + fields_size (fields_of (take i xs))
    → stores sp off (fields_of (take i xs)) (plain (local_get sp) (plain (local_get (get_or xs i d).local) (stored_value (get_or xs i d).ty o c))) ≡ stores sp off (fields_of (take (i + 1) xs)) c
stored_more sp off o xs i d c lt e =
    let x = get_or xs i d in
    let fs = fields_of (take i xs) in
    ap (λ n. stores sp off fs (plain (local_get sp) (plain (local_get x.local) (stored_value x.ty n c)))) e ∙ sym (stores_more sp off fs x.local x.ty c)
    ∙ ap (λ gs. stores sp off gs c) (sym (map_more kept_field xs i d lt))

pub loaded_more : (sp off o : ℕ) (xs : List KeptLocal) (i : ℕ) (d : KeptLocal) (c : Code) → i < length xs → o ≡ off + fields_size (fields_of (take i xs))
    → loads sp off (fields_of (take i xs)) (plain (local_get sp) (loaded_value (get_or xs i d).ty o (plain (local_set (get_or xs i d).local) c))) ≡ loads sp off (fields_of (take (i + 1) xs)) c
loaded_more sp off o xs i d c lt e =
    let x = get_or xs i d in
    let fs = fields_of (take i xs) in
    ap (λ n. loads sp off fs (plain (local_get sp) (loaded_value x.ty n (plain (local_set x.local) c)))) e ∙ sym (loads_more sp off fs x.local x.ty c)
    ∙ ap (λ gs. loads sp off gs c) (sym (map_more kept_field xs i d lt))

-- ---- one more part

stored_behind : (index sp off : ℕ) (ps : List SavedPart) (p : SavedPart) (c : Code)
    → parts_stored sp off (parts_of index (ps ++ p ∷ [])) c ≡ parts_stored sp off (parts_of index ps) (parts_stored sp (off + shared_bytes index ps) (parts_of index (p ∷ [])) c)
stored_behind index sp off [] p c = let z : off ≡ off + 0 = omega arith in ap (λ n. parts_stored sp n (parts_of index (p ∷ [])) c) z
stored_behind index sp off (at_every fs ∷ ps) p c =
    let z : off + fields_size fs + shared_bytes index ps ≡ off + (fields_size fs + shared_bytes index ps) = omega arith in
    ap (stores sp off fs) (stored_behind index sp (off + fields_size fs) ps p c
    ∙ ap (λ n. parts_stored sp (off + fields_size fs) (parts_of index ps) (parts_stored sp n (parts_of index (p ∷ [])) c)) z)
stored_behind index sp off (at_these ks fs ∷ ps) p c =
    ap (λ z. at_calls index ks (branch None (stores sp off fs (scratch_raised sp (fields_size fs) done)) done z)) (stored_behind index sp off ps p c)

loaded_front : (index sp off : ℕ) (p : SavedPart) (ps : List SavedPart) (c : Code)
    → parts_loaded sp (off + shared_bytes index (p ∷ [])) (parts_of index ps) (parts_loaded sp off (parts_of index (p ∷ [])) c) ≡ parts_loaded sp off (parts_of index (p ∷ ps)) c
loaded_front index sp off (at_every fs) ps c =
    let z : off + (fields_size fs + 0) ≡ off + fields_size fs = omega arith in ap (λ n. parts_loaded sp n (parts_of index ps) (loads sp off fs c)) z
loaded_front index sp off (at_these ks fs) ps c =
    let z : off + 0 ≡ off = omega arith in
    ap (λ n. parts_loaded sp n (parts_of index ps) (at_calls index ks (branch None (scratch_lowered sp (fields_size fs) (loads sp off fs done)) done c))) z

module _ (index sp : ℕ) (xs : List KeptPart) (i : ℕ) (d : KeptPart) (lt : i < length xs) where
  pub part_stored : (o : ℕ) (c : Code) → o ≡ shared_bytes index (part_views (take i xs))
      → parts_stored sp 0 (parts_of index (part_views (take i xs))) (parts_stored sp o (parts_of index (part_view (get_or xs i d) ∷ [])) c)
      ≡ parts_stored sp 0 (parts_of index (part_views (take (i + 1) xs))) c
  part_stored o c e =
      let z : o ≡ 0 + shared_bytes index (part_views (take i xs)) = omega (arith, e) in
      ap (λ n. parts_stored sp 0 (parts_of index (part_views (take i xs))) (parts_stored sp n (parts_of index (part_view (get_or xs i d) ∷ [])) c)) z
      ∙ sym (stored_behind index sp 0 (part_views (take i xs)) (part_view (get_or xs i d)) c) ∙ ap (λ ps. parts_stored sp 0 (parts_of index ps) c) (sym (map_more part_view xs i d lt))

  -- one more in front
  pub part_loaded : (off o : ℕ) (c : Code) → o ≡ off + shared_bytes index (part_view (get_or xs i d) ∷ [])
      → parts_loaded sp o (parts_of index (part_views (drop (i + 1) xs))) (parts_loaded sp off (parts_of index (part_view (get_or xs i d) ∷ [])) c)
      ≡ parts_loaded sp off (parts_of index (part_views (drop i xs))) c
  part_loaded off o c e =
      ap (λ n. parts_loaded sp n (parts_of index (part_views (drop (i + 1) xs))) (parts_loaded sp off (parts_of index (part_view (get_or xs i d) ∷ [])) c)) e
      ∙ loaded_front index sp off (part_view (get_or xs i d)) (part_views (drop (i + 1) xs)) c ∙ ap (λ ys. parts_loaded sp off (parts_of index (part_views ys)) c) (sym (drop_more xs i d lt))
