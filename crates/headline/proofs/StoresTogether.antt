-- Stores that belong together: the facts that the moves ask for.
use Rattle.headline.specs.World.{World, setting}
use Rattle.frame_laws.specs.FrameMemory.{Lowered}
use Rattle.guard_runs.proofs.AfterPause.{again_law}
use Rattle.guard_runs.proofs.Stores.{Wrote, neither, put_too, wrote}
use Rattle.guard_runs.specs.Alike.{Alike, Setting}
use Rattle.headline.specs.StoreLaws.{StoreLaws}
use Rattle.headline.proofs.TrapStores.{trap_keeps}
use Rattle.guard_runs.specs.Pause.{AreaReady, SameAround}
use Rattle.run_laws.proofs.Keeping.{same_on}
use Rattle.std.proofs.Common.{Bool, List, None, Option, Some, [], ap, arith, drop, false, inl, inr, length, length-append, length-drop, refl, subst, suc, sym, take, true, zero, ℕ, ⊎_elim, ◌++◌, ◌+◌, ◌-◌, ◌<◌, ◌^◌, ◌∙◌, ◌∷◌, ◌≡◌, ◌≢◌, ◌≤◌, ◌⊎◌}
use Rattle.std.proofs.lemmas.Bool.{cases_lt}
use Rattle.std.proofs.lemmas.List.{same_lists, take-append-drop, take_all}
use Rattle.std.proofs.lemmas.Option.{slice_get-get_or}
use Rattle.std.specs.Prelude.{get_or, if◌then◌else◌, nat_le, slice_get}
use Rattle.run_theory.proofs.GrownSteps.{front}
use Rattle.run_theory.proofs.TestedPokes.{first_fits, fits_inside, fits_off}
use Rattle.wa_model.specs.Behaves.{AreaKept}
use Rattle.wa_model.specs.Blocking.{bad_poke, overlap, poke_fits, poked, poked_memory}
use Rattle.wa_model.specs.Expected.{SameEnd}
use Rattle.wa_model.specs.Outside.{Poke}
use Rattle.wa_model.specs.Protocol.{with_words}
use Rattle.wa_model.specs.Store.{Store, value_at, with_memory}
use Rattle.wa_model.specs.declared.answers.Area.{Area}
use Rattle.wa_types.proofs.MemoryLemmas.{bytes_at-overwritten_behind, bytes_at-overwritten_below, length-bytes_of, length-overwritten}
use Rattle.wa_types.specs.Memory.{bytes_at, bytes_of, overwritten, with_piece}
use Rattle.wa_types.specs.Runtime.{global_space}
use Rattle.wa_types.specs.declared.values.Value.{Value}
use Rattle.wa_types.specs.declared.values.Value.TheVariants as V

behind : {X : Type 0} (xs ys : List X) (j : ℕ) → slice_get (xs ++ ys) (length xs + j) ≡ slice_get ys j
behind [] ys j = let z : 0 + j ≡ j = omega arith in ap (slice_get ys) z
behind (x ∷ xs) ys j = let z : length (x ∷ xs) + j ≡ suc (length xs + j) = omega arith in ap (slice_get (x ∷ (xs ++ ys))) z ∙ behind xs ys j

behind_at : {X : Type 0} (xs ys : List X) (x : ℕ) → length xs ≤ x → slice_get (xs ++ ys) x ≡ slice_get ys (x - length xs)
behind_at xs ys x le = let z : x ≡ length xs + (x - length xs) = omega arith in ap (slice_get (xs ++ ys)) z ∙ behind xs ys (x - length xs)

abbrev head : List ℕ → Option ℕ
head [] = None
head (x ∷ xs) = Some x

got_of : (xs : List ℕ) (x : ℕ) → slice_get xs x ≡ head (bytes_at xs x 1)
got_of [] zero = refl
got_of [] (suc x) = refl
got_of (y ∷ ys) zero = refl
got_of (y ∷ ys) (suc x) = got_of ys x

-- ---- the same outside

pub alike_same : (v : Setting) (s s' : Store) → Alike v s s' → SameEnd v.globals v.area s s'
alike_same v s s' h =
    let n0 = h.own_size in let n1 = h.low_size in let n2 = h.held_size in let n3 = h.held_size' in
    let own = h.own in let low = h.low in let held = h.held in let held2 = h.held' in let high = h.high in
    let l1 : length s.memory ≡ length low + (length held + length high) = ap length h.memory ∙ omega (arith, length-append low (held ++ high), length-append held high) in
    let l2 : length s'.memory ≡ length low + (length held2 + length high) = ap length h.memory' ∙ omega (arith, length-append low (held2 ++ high), length-append held2 high) in
    record {
      globals_same = λ x lt. ap (λ gs. slice_get gs x) h.globals ∙ front own h.more x (omega arith) ∙ sym (ap (λ gs. slice_get gs x) h.globals' ∙ front own (V.I32 0 ∷ h.address ∷ []) x (omega arith));
      size = omega arith;
      below = λ x lt. ap (λ m. slice_get m x) h.memory ∙ front low (held ++ high) x (omega arith) ∙ sym (ap (λ m. slice_get m x) h.memory' ∙ front low (held2 ++ high) x (omega arith));
      above = λ x le.
          let e : x - length low - length held ≡ x - length low - length held2 = omega arith in
          ap (λ m. slice_get m x) h.memory ∙ behind_at low (held ++ high) x (omega arith) ∙ behind_at held high (x - length low) (omega arith) ∙ ap (slice_get high) e
          ∙ sym (ap (λ m. slice_get m x) h.memory' ∙ behind_at low (held2 ++ high) x (omega arith) ∙ behind_at held2 high (x - length low) (omega arith));
    }

-- ---- the host's words

over_same : (g : ℕ) (area : Area) (s : Store) (place : ℕ) (piece : List ℕ) → area.at ≤ place → place + length piece ≤ area.at + area.len → area.at + area.len ≤ length s.memory
    → SameEnd g area s (with_memory s (overwritten s.memory place piece))
over_same g area s place piece lo hi ins = record {
  globals_same = λ x lt. refl;
  size = sym (length-overwritten s.memory place piece (omega arith));
  below = λ x lt. got_of s.memory x ∙ ap head (sym (bytes_at-overwritten_below s.memory place piece x 1 (omega arith) (omega arith))) ∙ sym (got_of (overwritten s.memory place piece) x);
  above = λ x le. got_of s.memory x ∙ ap head (sym (bytes_at-overwritten_behind s.memory place piece x 1 (omega arith) (omega arith))) ∙ sym (got_of (overwritten s.memory place piece) x);
}

words_same : (g : ℕ) (area : Area) (s : Store) → 8 ≤ area.len → area.at + area.len ≤ length s.memory → SameEnd g area s (with_words s area)
words_same g area s least ins =
    let w1 = bytes_of 4 (area.at + 8) in
    let w2 = bytes_of 4 (area.at + area.len) in
    let n1 = length-bytes_of 4 (area.at + 8) in
    let n2 = length-bytes_of 4 (area.at + area.len) in
    let m1 = overwritten s.memory area.at w1 in
    let l1 : length m1 ≡ length s.memory = length-overwritten s.memory area.at w1 (omega arith) in
    same_on g area s (with_memory s m1) (with_words s area) (over_same g area s area.at w1 (omega arith) (omega arith) ins)
    (over_same g area (with_memory s m1) (area.at + 4) w2 (omega arith) (omega arith) (omega arith))

-- ---- pokes

-- a poke that fits lies inside, and writes nothing or lies off the area
off_area : (a n at len : ℕ) → 0 < n → overlap a n at len ≡ false → (len ≡ 0) ⊎ ((a + n ≤ at) ⊎ (at + len ≤ a))
off_area a n at len pos e = grind arith

nothing_written : (m : List ℕ) (a : ℕ) (piece : List ℕ) → length piece ≡ 0 → overwritten m a piece ≡ m
nothing_written m a [] e = by (take-append-drop a m)
  where
    by : take a m ++ drop a m ≡ m → take a m ++ [] ++ drop (a + length {A = ℕ} []) m ≡ m
    by h = let z : a + length {A = ℕ} [] ≡ a = omega arith in ap (λ k. take a m ++ [] ++ drop k m) z ∙ ap (λ xs. xs ++ drop a m) (no_more (take a m)) ∙ h
      where
        no_more : (xs : List ℕ) → xs ++ [] ≡ xs
        no_more [] = refl
        no_more (x ∷ xs) = ap (λ ys. x ∷ ys) (no_more xs)
nothing_written m a (x ∷ xs) e = absurd (omega arith)

-- one poke
poke_too : (v : Setting) (s s' : Store) (p : Poke) → Alike v s s' → poke_fits (length s.memory) (v.area ∷ []) p ≡ true
    → Alike v (with_memory s (overwritten s.memory p.at p.bytes)) (with_memory s' (overwritten s'.memory p.at p.bytes))
poke_too v s s' p h fits =
    let le = fits_inside (length s.memory) (v.area ∷ []) p fits in
    let off_it = fits_off (length s.memory) v.area [] p fits in
    ⊎_elim
    (λ pos. by_wrote pos le off_it (with_piece (h.low ++ (h.held ++ h.high)) p.at p.bytes) (with_piece (h.low ++ (h.held' ++ h.high)) p.at p.bytes) refl refl
    (put_too h.low h.held h.held' h.high (let n2 = h.held_size in let n3 = h.held_size' in omega arith) p.at p.bytes
    (λ inside.
    let n1 = h.low_size in let n2 = h.held_size in
    let o = off_area p.at (length p.bytes) v.area.at v.area.len pos off_it in
    subst (λ n. (n ≡ 0) ⊎ ((p.at + length p.bytes ≤ length h.low) ⊎ (length h.low + n ≤ p.at))) (sym n2)
    (subst (λ n. (v.area.len ≡ 0) ⊎ ((p.at + length p.bytes ≤ n) ⊎ (n + v.area.len ≤ p.at))) (sym n1) o))))
    (λ none.
    let e : length p.bytes ≡ 0 = omega arith in
    let made : Alike v (with_memory s s.memory) (with_memory s' s'.memory) = record {
      own = h.own;
      more = h.more;
      quiet = h.quiet;
      address = h.address;
      low = h.low;
      held = h.held;
      held' = h.held';
      high = h.high;
      own_size = h.own_size;
      globals = h.globals;
      globals' = h.globals';
      low_size = h.low_size;
      held_size = h.held_size;
      held_size' = h.held_size';
      memory = h.memory;
      memory' = h.memory';
      table = h.table;
      table' = h.table';
    } in
    subst (λ m. Alike v (with_memory s m) (with_memory s' (overwritten s'.memory p.at p.bytes))) (sym (nothing_written s.memory p.at p.bytes e))
    (subst (λ m. Alike v (with_memory s s.memory) (with_memory s' m)) (sym (nothing_written s'.memory p.at p.bytes e)) made))
    (cases_lt 0 (length p.bytes))
  where
    some_of : (b : Bool) (m : List ℕ) (o : Option (List ℕ)) → b ≡ true → (if b then Some m else None) ≡ o → o ≡ Some m
    some_of true m o e q = sym q
    some_of false m o e q = cc

    by_wrote : 0 < length p.bytes → p.at + length p.bytes ≤ length s.memory → overlap p.at (length p.bytes) v.area.at v.area.len ≡ false → (o o' : Option (List ℕ))
        → with_piece (h.low ++ (h.held ++ h.high)) p.at p.bytes ≡ o → with_piece (h.low ++ (h.held' ++ h.high)) p.at p.bytes ≡ o'
        → Wrote h.low h.held h.held' h.high (let n2 = h.held_size in let n3 = h.held_size' in omega arith) o o'
        → Alike v (with_memory s (overwritten s.memory p.at p.bytes)) (with_memory s' (overwritten s'.memory p.at p.bytes))
    by_wrote pos le off_it _ _ e e' neither =
        let t : nat_le (p.at + length p.bytes) (length s.memory) ≡ true = grind arith in
        let q : None ≡ Some (overwritten (h.low ++ (h.held ++ h.high)) p.at p.bytes) =
        some_of (nat_le (p.at + length p.bytes) (length (h.low ++ (h.held ++ h.high)))) (overwritten (h.low ++ (h.held ++ h.high)) p.at p.bytes) None
        (ap (λ m. nat_le (p.at + length p.bytes) (length m)) (sym h.memory) ∙ t) e in
        cc
    by_wrote pos le off_it _ _ e e' (wrote low2 high2 same) =
        let t : nat_le (p.at + length p.bytes) (length s.memory) ≡ true = grind arith in
        let sz = (alike_same v s s' h).size in
        let t' : nat_le (p.at + length p.bytes) (length s'.memory) ≡ true = ap (nat_le (p.at + length p.bytes)) (sym sz) ∙ t in
        let q : Some (low2 ++ (h.held ++ high2)) ≡ Some (overwritten (h.low ++ (h.held ++ h.high)) p.at p.bytes) =
        some_of (nat_le (p.at + length p.bytes) (length (h.low ++ (h.held ++ h.high)))) (overwritten (h.low ++ (h.held ++ h.high)) p.at p.bytes) _
        (ap (λ m. nat_le (p.at + length p.bytes) (length m)) (sym h.memory) ∙ t) e in
        let q' : Some (low2 ++ (h.held' ++ high2)) ≡ Some (overwritten (h.low ++ (h.held' ++ h.high)) p.at p.bytes) =
        some_of (nat_le (p.at + length p.bytes) (length (h.low ++ (h.held' ++ h.high)))) (overwritten (h.low ++ (h.held' ++ h.high)) p.at p.bytes) _
        (ap (λ m. nat_le (p.at + length p.bytes) (length m)) (sym h.memory') ∙ t') e' in
        record {
          own = h.own;
          more = h.more;
          quiet = h.quiet;
          address = h.address;
          low = low2;
          held = h.held;
          held' = h.held';
          high = high2;
          own_size = h.own_size;
          globals = h.globals;
          globals' = h.globals';
          low_size = same ∙ h.low_size;
          held_size = h.held_size;
          held_size' = h.held_size';
          memory = ap (λ m. overwritten m p.at p.bytes) h.memory ∙ sym (the_some _ _ q);
          memory' = ap (λ m. overwritten m p.at p.bytes) h.memory' ∙ sym (the_some _ _ q');
          table = h.table;
          table' = h.table';
        }
      where
        the_some : (x y : List ℕ) → Some x ≡ Some y → x ≡ y
        the_some x y e = cc

pokes_too : (v : Setting) (ps : List Poke) (s s' : Store) → Alike v s s' → bad_poke (length s.memory) (v.area ∷ []) ps ≡ None → Alike v (poked s ps) (poked s' ps)
pokes_too v [] s s' h none = record {
  own = h.own;
  more = h.more;
  quiet = h.quiet;
  address = h.address;
  low = h.low;
  held = h.held;
  held' = h.held';
  high = h.high;
  own_size = h.own_size;
  globals = h.globals;
  globals' = h.globals';
  low_size = h.low_size;
  held_size = h.held_size;
  held_size' = h.held_size';
  memory = h.memory;
  memory' = h.memory';
  table = h.table;
  table' = h.table';
}
pokes_too v (p ∷ ps) s s' h none =
    let f = first_fits (length s.memory) (v.area ∷ []) p ps none in
    let one = poke_too v s s' p h f.0 in
    let n = length-overwritten s.memory p.at p.bytes (fits_inside (length s.memory) (v.area ∷ []) p f.0) in
    pokes_too v ps (with_memory s (overwritten s.memory p.at p.bytes)) (with_memory s' (overwritten s'.memory p.at p.bytes)) one (subst (λ k. bad_poke k (v.area ∷ []) ps ≡ None) (sym n) f.1)

-- bytes of the area stay
pokes_off : (area : Area) (ps : List Poke) (m : List ℕ) (b n : ℕ) → 0 < n → bad_poke (length m) (area ∷ []) ps ≡ None → area.at ≤ b → b + n ≤ area.at + area.len
    → bytes_at (poked_memory m ps) b n ≡ bytes_at m b n
pokes_off area [] m b n pos none lo hi = refl
pokes_off area (p ∷ ps) m b n pos none lo hi =
    let f = first_fits (length m) (area ∷ []) p ps none in
    let le = fits_inside (length m) (area ∷ []) p f.0 in
    let off_it = fits_off (length m) area [] p f.0 in
    let m1 = overwritten m p.at p.bytes in
    let sz = length-overwritten m p.at p.bytes le in
    let ih = pokes_off area ps m1 b n pos (subst (λ k. bad_poke k (area ∷ []) ps ≡ None) (sym sz) f.1) lo hi in
    ih ∙ ⊎_elim
    (λ some.
    ⊎_elim
    (λ empty. absurd (omega arith))
    (λ o. ⊎_elim (λ below. bytes_at-overwritten_behind m p.at p.bytes b n (omega arith) le) (λ above. bytes_at-overwritten_below m p.at p.bytes b n (omega arith) le) o)
    (off_area p.at (length p.bytes) area.at area.len some off_it))
    (λ none2. ap (λ x. bytes_at x b n) (nothing_written m p.at p.bytes (omega arith)))
    (cases_lt 0 (length p.bytes))

area_kept : (area : Area) (s t : Store) (ps : List Poke) → Lowered area (area.at + 8) s.memory t.memory → 8 ≤ area.len → bad_poke (length t.memory) (area ∷ []) ps ≡ None → AreaKept area s (poked t ps)
area_kept area s t ps low least none =
    let ot = low.others in
    record {
      location = pokes_off area ps t.memory area.at 4 (omega arith) none (omega arith) (omega arith) ∙ low.location;
      others = λ x ge lt.
          got_of (poked_memory t.memory ps) x ∙ ap head (pokes_off area ps t.memory x 1 (omega arith) none (omega arith) (omega arith) ∙ ot.same x 1 (inr ge) (inr ge)) ∙ sym (got_of s.memory x);
    }

-- ---- after a pause

other_default : {X : Type 0} (xs : List X) (i : ℕ) (d e : X) → i < length xs → get_or xs i d ≡ get_or xs i e
other_default xs i d e lt = let a = slice_get-get_or xs i d lt in let b = slice_get-get_or xs i e lt in cc

around_too : (v : Setting) (s s' t : Store) → Alike v s s' → v.area.at + v.area.len ≤ length s'.memory → SameAround v.globals (suc v.globals) v.area s' t → Alike v s t
around_too v s s' t h ins ar =
    again_law v s s' t h (V.I32 v.area.at) globals_are ar.table (record { low = low_is; high = high_is; size = ar.size })
  where
    row : List Value
    row = h.own ++ V.I32 0 ∷ V.I32 v.area.at ∷ []

    value_front : (xs ys : List Value) (k : ℕ) → k < length xs → value_at (xs ++ ys) k ≡ value_at xs k
    value_front [] ys k lt = absurd (omega arith)
    value_front (x ∷ xs) ys zero lt = refl
    value_front (x ∷ xs) ys (suc k) lt = value_front xs ys k (omega arith)

    value_behind : (xs ys : List Value) (k : ℕ) → value_at (xs ++ ys) (length xs + k) ≡ value_at ys k
    value_behind [] ys k = let z : 0 + k ≡ k = omega arith in ap (value_at ys) z
    value_behind (x ∷ xs) ys k = let z : length (x ∷ xs) + k ≡ suc (length xs + k) = omega arith in ap (value_at (x ∷ (xs ++ ys))) z ∙ value_behind xs ys k

    long : length t.globals ≡ length (h.own ++ V.I32 0 ∷ V.I32 v.area.at ∷ [])
    long = ar.count ∙ ap length h.globals' ∙ omega (arith, length-append h.own (V.I32 0 ∷ h.address ∷ []), length-append h.own (V.I32 0 ∷ V.I32 v.area.at ∷ []))

    at_each : (k : ℕ) → k < length t.globals → value_at t.globals k ≡ value_at (h.own ++ V.I32 0 ∷ V.I32 v.area.at ∷ []) k
    at_each k lt =
        let n0 = h.own_size in
        let ln = long in
        let l2 = length-append h.own (V.I32 0 ∷ V.I32 v.area.at ∷ []) in
        ⊎_elim
        (λ own.
        let ne1 : k ≢ v.globals = λ q. let bad : ⊥ = omega arith in bad in
        let ne2 : k ≢ suc v.globals = λ q. let bad : ⊥ = omega arith in bad in
        ar.globals k ne1 ne2 ∙ ap (λ gs. value_at gs k) h.globals' ∙ value_front h.own (V.I32 0 ∷ h.address ∷ []) k (omega arith)
        ∙ sym (value_front h.own (V.I32 0 ∷ V.I32 v.area.at ∷ []) k (omega arith)))
        (λ not_own.
        ⊎_elim
        (λ state.
        let z : k ≡ v.globals = omega arith in
        let z2 : k ≡ length h.own + 0 = omega arith in
        ap (value_at t.globals) z ∙ ar.state ∙ sym (ap (value_at (h.own ++ V.I32 0 ∷ V.I32 v.area.at ∷ [])) z2 ∙ value_behind h.own (V.I32 0 ∷ V.I32 v.area.at ∷ []) 0))
        (λ addr.
        let z : k ≡ suc v.globals = omega arith in
        let z2 : k ≡ length h.own + 1 = omega arith in
        ap (value_at t.globals) z ∙ ar.address ∙ sym (ap (value_at (h.own ++ V.I32 0 ∷ V.I32 v.area.at ∷ [])) z2 ∙ value_behind h.own (V.I32 0 ∷ V.I32 v.area.at ∷ []) 1))
        (cases_lt k (suc v.globals)))
        (cases_lt k v.globals)

    globals_are : t.globals ≡ h.own ++ V.I32 0 ∷ V.I32 v.area.at ∷ []
    globals_are =
        same_lists t.globals (h.own ++ V.I32 0 ∷ V.I32 v.area.at ∷ []) long
        (λ k d lt. let ln = long in other_default t.globals k d (V.I32 0) lt ∙ at_each k lt ∙ other_default (h.own ++ V.I32 0 ∷ V.I32 v.area.at ∷ []) k (V.I32 0) d (omega arith))

    low_is : take v.area.at t.memory ≡ take v.area.at s'.memory
    low_is = ar.outside 0 v.area.at (inl (omega arith))

    high_is : drop (v.area.at + v.area.len) t.memory ≡ drop (v.area.at + v.area.len) s'.memory
    high_is =
        let a = v.area.at + v.area.len in
        let n = length s'.memory in
        let sz = ar.size in
        let e = ar.outside a n (inr (omega arith)) in
        sym (take_all n (drop a t.memory) (omega (arith, length-drop a t.memory))) ∙ e ∙ take_all n (drop a s'.memory) (omega (arith, length-drop a s'.memory))

ready_too : (v : Setting) (s s' : Store) → Alike v s s' → 8 ≤ v.area.len → length s.memory < 2 ^ 32 → AreaReady v.globals v.globals (suc v.globals) v.area s'
ready_too v s s' h least small =
    let n0 = h.own_size in let n1 = h.low_size in let n3 = h.held_size' in
    let lg : length s'.globals ≡ length h.own + 2 = ap length h.globals' ∙ length-append h.own (V.I32 0 ∷ h.address ∷ []) in
    let lm : length s'.memory ≡ length h.low + (length h.held' + length h.high) = ap length h.memory' ∙ omega (arith, length-append h.low (h.held' ++ h.high), length-append h.held' h.high) in
    let sz = (alike_same v s s' h).size in
    record {
      state_above = omega arith;
      address_above = omega arith;
      apart = λ q. let bad : ⊥ = omega arith in bad;
      state_there = omega arith;
      address_there = omega arith;
      least = least;
      inside = omega arith;
      small = omega arith;
    }

-- ALL THAT IS ASKED OF STORES
pub store_laws : (w : World) → StoreLaws w
store_laws w = record {
  same_end = λ top s s' h. alike_same (setting w top) s s' h;
  poked_too = λ top s s' a h none. pokes_too (setting w top) a.pokes s s' h none;
  poked_area = λ s t a low least none. area_kept w.plan.area s t a.pokes low least none;
  around = λ top s s' t h ar.
      let n1 = h.low_size in let n3 = h.held_size' in
      let lm : length s'.memory ≡ length h.low + (length h.held' + length h.high) = ap length h.memory' ∙ omega (arith, length-append h.low (h.held' ++ h.high), length-append h.held' h.high) in
      around_too (setting w top) s s' t h (omega arith) ar;
  words = λ s least ins. words_same (global_space w.original) w.plan.area s least ins;
  trapped = λ c k t s e. trap_keeps w.written c k t s e;
  ready = λ top s s' h least small. ready_too (setting w top) s s' h least small;
}
