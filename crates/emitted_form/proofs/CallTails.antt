-- The codes of frames that differ by call, with more behind them.
use Rattle.std.proofs.Common.{◌≡◌, ◌∙◌, ℕ, zero, suc, ◌+◌, ◌*◌, List, [], ◌∷◌, Bool, true, false, nat_eq, None, refl, ap}
use Rattle.wa_types.specs.declared.operators.NumOp.TheVariants.{I32GtU, I32LtU, I32Or, I32Sub}
use Rattle.wa_types.specs.declared.values.ValType.TheVariants.{I32}
use Rattle.wa_types.specs.declared.values.Value.TheVariants as V
use Rattle.wa_types.specs.Syntax.{const, num, select, global_get, load, basic, local_get, local_set, local_tee, unreachable, Code, done, plain, branch}
use Rattle.local_spill.specs.Spilling.{index_saved, loaded_value, location_of, location_raised}
use Rattle.run_theory.specs.Flat.{followed_by}
use Rattle.frame_laws.specs.Layout.{fields_size, loads, stores}
use Rattle.call_frames.specs.CallTests.{CallRow, at_either, at_row, row_test}
use Rattle.call_frames.specs.CallWords.{at_words, bit_taken, word_of, words_chosen}
use Rattle.call_frames.specs.FrameParts.{frame_stored_by_call, location_lowered, parts_loaded, parts_stored, restoring_by_call, saving_by_call, scratch_lowered, scratch_raised, shared_size}
use Rattle.call_frames.specs.PlainFrames.{SavedPart, SavedParts, WeighedCalls, at_calls, at_every, at_rows, at_these, by_words, calls_test, frames_of, is_one_of, or_rows, own_weights, parts_of, rows_of}
use Rattle.call_frames.specs.PlainFrames.{weighed, weights_added, words_behind}
use Rattle.headline.proofs.FrameTails.{loads_then, stores_then}

-- what stands behind code that this begins may as well stand behind the rest of it
abbrev Carries : (Code → Code) → Type 0
Carries f = (c d : Code) → followed_by (f c) d ≡ f (followed_by c d)

-- ---- tests

row_on : (one from_0 : Bool) (index first more : ℕ) → Carries (row_test one from_0 index first more)
unfolding followed_by
row_on true b index k n c d = refl
row_on false true index k n c d = refl
row_on false false index k n c d = refl

at_row_on : (index : ℕ) (r : CallRow) → Carries (at_row index r)
at_row_on index r c d = row_on (nat_eq r.more 0) (nat_eq r.first 0) index r.first r.more c d

or_on : (index : ℕ) (test : Code → Code) (rs : List CallRow) → Carries test → Carries (or_rows index test rs)
unfolding followed_by
or_on index test [] h c d = h c d
or_on index test (r ∷ rs) h c d =
    or_on index (at_either test (at_row index r)) rs
    (λ a b. h (at_row index r (plain (basic (num I32Or)) a)) b ∙ ap test (at_row_on index r (plain (basic (num I32Or)) a) b)) c d

rows_on : (index : ℕ) (rs : List CallRow) → Carries (at_rows index rs)
unfolding followed_by
rows_on index [] c d = refl
rows_on index (r ∷ rs) c d = or_on index (at_row index r) rs (at_row_on index r) c d

chosen_on : (index : ℕ) (calls : ℕ → Bool) (q n : ℕ) → Carries (words_chosen index calls q n)
unfolding followed_by
chosen_on index calls q zero c d = refl
chosen_on index calls q (suc n) c d =
    ap (λ z. plain (basic (const (V.I64 (word_of calls q)))) (plain (local_get index) (plain (basic (const (V.I32 (64 * q)))) (plain (basic (num I32LtU)) (plain (basic select) z)))))
    (chosen_on index calls (suc q) n c d)

words_on : (index : ℕ) (calls : ℕ → Bool) (n : ℕ) → Carries (at_words index calls n)
unfolding followed_by
words_on index calls n c d = ap (λ z. plain (basic (const (V.I64 (word_of calls 0)))) z) (chosen_on index calls 1 n (bit_taken index c) d)

test_on : (index : ℕ) (ks : List ℕ) → Carries (at_calls index ks)
test_on index ks c d = by (by_words ks)
  where
    by : (b : Bool) → followed_by (calls_test b index ks c) d ≡ calls_test b index ks (followed_by c d)
    by true = words_on index (is_one_of ks) (words_behind ks) c d
    by false = rows_on index (rows_of ks) c d

-- ---- parts

added_on : (index : ℕ) (ws : List WeighedCalls) → Carries (weights_added index ws)
unfolding followed_by
added_on index [] c d = refl
added_on index (w ∷ ws) c d =
    test_on index w.calls (weighed w.bytes (weights_added index ws c)) d ∙ ap (λ z. at_calls index w.calls (weighed w.bytes z)) (added_on index ws c d)

stored_on : (index sp off : ℕ) (ps : List SavedPart) → Carries (parts_stored sp off (parts_of index ps))
unfolding followed_by
stored_on index sp off [] c d = refl
stored_on index sp off (at_every fs ∷ ps) c d =
    stores_then sp off fs (parts_stored sp (off + fields_size fs) (parts_of index ps) c) d ∙ ap (stores sp off fs) (stored_on index sp (off + fields_size fs) ps c d)
stored_on index sp off (at_these ks fs ∷ ps) c d =
    let arm : Code = stores sp off fs (scratch_raised sp (fields_size fs) done) in
    test_on index ks (branch None arm done (parts_stored sp off (parts_of index ps) c)) d ∙ ap (λ z. at_calls index ks (branch None arm done z)) (stored_on index sp off ps c d)

loaded_on : (index sp off : ℕ) (ps : List SavedPart) → Carries (parts_loaded sp off (parts_of index ps))
unfolding followed_by
loaded_on index sp off [] c d = refl
loaded_on index sp off (at_every fs ∷ ps) c d =
    loaded_on index sp (off + fields_size fs) ps (loads sp off fs c) d ∙ ap (parts_loaded sp (off + fields_size fs) (parts_of index ps)) (loads_then sp off fs c d)
loaded_on index sp off (at_these ks fs ∷ ps) c d =
    let arm : Code = scratch_lowered sp (fields_size fs) (loads sp off fs done) in
    loaded_on index sp off ps (at_calls index ks (branch None arm done c)) d ∙ ap (parts_loaded sp off (parts_of index ps)) (test_on index ks (branch None arm done c) d)

-- ---- the codes

module _ (f : SavedParts) where
  abbrev shared : ℕ
  shared = shared_size (parts_of f.index f.parts)

  -- SAVE behind the size of the frame, in front of what is stored
  abbrev room : Code → Code
  room next =
      plain (basic (global_get f.address)) (plain (basic (load 0x28 2 4)) (location_of f.address (plain (local_tee f.scratch) (plain (basic (num I32Sub))
      (plain (basic (num I32GtU)) (branch None (plain unreachable done) done next))))))

  -- and behind the parts
  abbrev last : Code → Code
  last next = index_saved f.index f.scratch shared (location_raised f.address f.scratch (shared + 4) next)

  saving_on : Carries (saving_by_call (frames_of f))
  unfolding followed_by
  saving_on c d =
      let ws : List WeighedCalls = own_weights f.parts in
      ap (λ z. plain (basic (const (V.I32 (shared + 4)))) z)
      (added_on f.index ws (room (frame_stored_by_call (frames_of f) c)) d ∙ ap (λ z. weights_added f.index ws (room z)) (stored_on f.index f.scratch 0 f.parts (last c) d))

  restoring_on : Carries (restoring_by_call (frames_of f))
  unfolding followed_by
  restoring_on c d =
      ap (λ z. location_of f.address (plain (basic (const (V.I32 (shared + 4)))) (plain (basic (num I32Sub)) (plain (local_tee f.scratch) (loaded_value I32 shared (plain (local_set f.index) z))))))
      (loaded_on f.index f.scratch 0 f.parts (location_lowered f.address f.scratch c) d)

-- SAVE with more behind it
pub saving_then : (f : SavedParts) (next : Code) → followed_by (saving_by_call (frames_of f) done) next ≡ saving_by_call (frames_of f) next
unfolding followed_by
saving_then f next = saving_on f done next

-- and RESTORE
pub restoring_then : (f : SavedParts) (next : Code) → followed_by (restoring_by_call (frames_of f) done) next ≡ restoring_by_call (frames_of f) next
unfolding followed_by
restoring_then f next = restoring_on f done next
