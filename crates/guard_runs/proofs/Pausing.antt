-- A pause under the host's protocol.
use Rattle.std.proofs.Common.{◌≡◌, ◌≢◌, ℕ, suc, ◌+◌, ◌-◌, ◌%◌, ◌^◌, ◌<◌, ◌≤◌, ◌⊎◌, inl, inr, List, [], ◌∷◌, ◌++◌, length, take, map, Some, None, Bool, true, false, refl, sym, ap, ◌∙◌, subst, arith, ⊎_elim, length-set, length-append, get_or-set_same, get_or-set_other}
use Rattle.std.specs.Prelude.{nat_eq, nat_lt, if◌then◌else◌, slice_set}
use Rattle.std.proofs.lemmas.Bool.{cases_lt}
use Rattle.std.proofs.lemmas.List.{append-nil, length-map}
use Rattle.wa_types.specs.declared.values.Value.TheVariants as V
use Rattle.wa_types.specs.declared.values.Trap.TheVariants.{Unreachable}
use Rattle.wa_types.specs.Syntax.{Code, Module}
use Rattle.wa_types.specs.Memory.{bytes_at, number_of_bytes, overwritten}
use Rattle.wa_types.specs.Modules.{func_imports, declared_locals, defined_at}
use Rattle.wa_types.specs.Runtime.{start_code, stop_code, state_code, runtime_func}
use Rattle.wa_types.specs.Frames.{word, HoldsBytes}
use Rattle.wa_types.proofs.MemoryLemmas.{length-overwritten, bytes_at-overwritten, bytes_at-overwritten_below, bytes_at-overwritten_behind, number_of_bytes-bytes_of}
use Rattle.wa_model.specs.declared.answers.Area.{Area}
use Rattle.wa_model.specs.declared.events.End.TheVariants.{UnwindTrap}
use Rattle.wa_model.specs.Outside.{Answer, paused, ended}
use Rattle.wa_model.specs.Machine.{Leads, goes}
use Rattle.wa_model.specs.Store.{Store, with_memory, value_at}
use Rattle.run_theory.specs.Alone.{alone}
use Rattle.wa_model.specs.Configuration.{Activation, Configuration, running, waiting}
use Rattle.run_theory.specs.Keeping.{keeps}
use Rattle.wa_model.specs.Step.{zero_of, result_count}
use Rattle.wa_model.specs.Plan.{Entry, Plan}
use Rattle.wa_model.specs.Blocking.{note, Left, resumed}
use Rattle.wa_model.specs.Protocol.{Exports, unwinds, rewinds, give_zero, test_unwound, pause_there, call_again, test_rewound, give_answer, Held, busy, calling, aside, entering, over, with_words, used_of, broken, zeros_of, busy_step, aside_step, busy_enters, protocol}
use Rattle.frame_laws.specs.FrameMemory.{AreaAt}
use Rattle.frame_laws.specs.Function.{function_code, site_code}
use Rattle.frame_laws.specs.Stack.{Level, activation_of, AllFit, HoldsStack, total_size, fit_of, fitting, level_size, behind_call, behind_call_above, outer_of, unwinding_all, unwinding_onto, waiting_above, CallsTo, Chain}
use Rattle.guard_form.specs.Asserts.{assert_code}
use Rattle.guard_form.proofs.Passing.{stops as assert_stops}
use Rattle.guard_runs.specs.Pause.{RuntimeAt, AreaReady, SameAround, SuspendedIn, at_import, PausesAt, Pauses, UnwindTraps, TrapsThere, HaltsThere, EntersEntry, AnswersAt, Answers}
use Rattle.frame_laws.proofs.UnwoundStacks.{fit_above, unwind_all_law, stop_above_law, unwind_onto_law}
use Rattle.frame_laws.proofs.RewoundStacks.{rewind_all_law, ask_again_law, area_lowered}
use Rattle.guard_runs.proofs.RuntimeCalls.{stopped, started, starts, stops, tells, to_return, past_return}
use Rattle.guard_runs.proofs.UnseenMoves.{Through, th_one, th_on, in_unwinding, in_rewinding}

less : (a b c : ℕ) → a + c < b → (a + b) % b ≡ a
less a b c h = grind arith

used_is : (s : Store) (area : Area) (n : ℕ) → HoldsBytes s.memory area.at (word (area.at + n)) → area.at + n < 2 ^ 32 → used_of s area ≡ n
used_is s area n h lt =
    let m : (area.at + n) % 256 ^ 4 ≡ area.at + n = grind arith in
    let e : number_of_bytes (bytes_at s.memory area.at 4) ≡ area.at + n = ap number_of_bytes h ∙ number_of_bytes-bytes_of 4 (area.at + n) ∙ m in
    let d : area.at + n + 2 ^ 32 - area.at ≡ n + 2 ^ 32 = omega arith in
    ap (λ k. (k + 2 ^ 32 - area.at) % 2 ^ 32) e ∙ ap (λ k. k % 2 ^ 32) d ∙ less n (2 ^ 32) area.at (omega arith)

eq_self : (n : ℕ) → nat_eq n n ≡ true
eq_self n = grind arith

fit_below : (len used : ℕ) (vs : List Level) → used ≤ len → fit_of len used vs ≤ len
fit_below len used [] h = h
fit_below len used (v ∷ vs) h = by_room (λ q. fit_below len (used + level_size v) vs q) (nat_lt len (used + level_size v)) refl
  where
    by_room : (used + level_size v ≤ len → fit_of len (used + level_size v) vs ≤ len) → (b : Bool) → nat_lt len (used + level_size v) ≡ b
        → (if b then used else fit_of len (used + level_size v) vs) ≤ len
    by_room ih true q = h
    by_room ih false q = let le : used + level_size v ≤ len = grind arith in ih le

module _ (g st adr : ℕ) (area : Area) where
  -- the store where the unwinding begins
  abbrev begun : Store → Store
  begun s = started st adr 1 area.at (with_words s area)

  area_begun : (s : Store) → AreaReady g st adr area s → AreaAt adr area (begun s) (area.at + 8)
  area_begun s r =
      let least = r.least in let inside = r.inside in let small = r.small in let there = r.address_there in
      let w1 = word (area.at + 8) in
      let w2 = word (area.at + area.len) in
      let m1 = overwritten s.memory area.at w1 in
      let m2 = overwritten m1 (area.at + 4) w2 in
      let n1 : length m1 ≡ length s.memory = length-overwritten s.memory area.at w1 (omega arith) in
      let n2 : length m2 ≡ length m1 = length-overwritten m1 (area.at + 4) w2 (omega arith) in
      let k1 = length-set s.globals st (V.I32 1) in
      record {
        address = get_or-set_same (slice_set s.globals st (V.I32 1)) adr (V.I32 area.at) (V.I32 0) (omega arith);
        location = bytes_at-overwritten_below m1 (area.at + 4) w2 area.at 4 (omega arith) (omega arith) ∙ bytes_at-overwritten s.memory area.at w1 (omega arith);
        limit = bytes_at-overwritten m1 (area.at + 4) w2 (omega arith);
        low = omega arith;
        high = omega arith;
        inside = omega arith;
        small = omega arith;
      }

  state_started : (s : Store) (n : ℕ) → adr ≢ st → st < length s.globals → value_at (started st adr n area.at s).globals st ≡ V.I32 n
  state_started s n ne lt =
      let ne2 : st ≢ adr = λ q. ne (sym q) in
      get_or-set_other (slice_set s.globals st (V.I32 n)) adr st (V.I32 area.at) (V.I32 0) ne2 ∙ get_or-set_same s.globals st (V.I32 n) (V.I32 0) lt

  area_stopped : (s : Store) (loc : ℕ) → adr ≢ st → AreaAt adr area s loc → AreaAt adr area (stopped st s) loc
  area_stopped s loc ne ar = record {
    address = get_or-set_other s.globals st adr (V.I32 0) (V.I32 0) ne ∙ ar.address;
    location = ar.location;
    limit = ar.limit;
    low = ar.low;
    high = ar.high;
    inside = ar.inside;
    small = ar.small;
  }

  area_started : (s : Store) (n loc : ℕ) → adr < length s.globals → HoldsBytes s.memory area.at (word loc) → HoldsBytes s.memory (area.at + 4) (word (area.at + area.len))
      → area.at + 8 ≤ loc → loc ≤ area.at + area.len → area.at + area.len ≤ length s.memory → length s.memory < 2 ^ 32
      → AreaAt adr area (started st adr n area.at s) loc
  area_started s n loc lt h1 h2 low high inside small =
      let k1 = length-set s.globals st (V.I32 n) in
      record {
        address = get_or-set_same (slice_set s.globals st (V.I32 n)) adr (V.I32 area.at) (V.I32 0) (omega arith);
        location = h1;
        limit = h2;
        low = low;
        high = high;
        inside = inside;
        small = small;
      }

  -- the memory alone changed in between
  around : (s s1 : Store) (n : ℕ) (mem : List ℕ) → AreaReady g st adr area s → s1 ≡ started st adr n area.at (with_memory s mem) → (after : List ℕ)
      → length after ≡ length s.memory → ((b w : ℕ) → (b + w ≤ area.at) ⊎ (area.at + area.len ≤ b) → bytes_at after b w ≡ bytes_at s.memory b w)
      → SameAround st adr area s (stopped st (with_memory s1 after))
  around s s1 n mem r is after size outside =
      let ne = r.apart in
      let t1 = r.state_there in let t2 = r.address_there in
      let ga = s.globals in
      let gb = slice_set ga st (V.I32 n) in
      let gc = slice_set gb adr (V.I32 area.at) in
      let k1 = length-set ga st (V.I32 n) in
      let k2 = length-set gb adr (V.I32 area.at) in
      let k3 = length-set gc st (V.I32 0) in
      let to = stopped st (with_memory (started st adr n area.at (with_memory s mem)) after) in
      let made : SameAround st adr area s to = record {
        globals = λ y y1 y2. get_or-set_other gc st y (V.I32 0) (V.I32 0) y1 ∙ get_or-set_other gb adr y (V.I32 area.at) (V.I32 0) y2 ∙ get_or-set_other ga st y (V.I32 n) (V.I32 0) y1;
        count = k3 ∙ k2 ∙ k1;
        state = get_or-set_same gc st (V.I32 0) (V.I32 0) (omega arith);
        address = get_or-set_other gc st adr (V.I32 0) (V.I32 0) ne ∙ get_or-set_same gb adr (V.I32 area.at) (V.I32 0) (omega arith);
        table = refl;
        size = size;
        outside = outside;
      } in
      subst (λ z. SameAround st adr area s (stopped st (with_memory z after))) (sym is) made

module _ (g st adr : ℕ) (p : Module) (x : Exports) (plan : Plan) where
  abbrev T : Held → ℕ → Held → Type 0
  T a n b = Through g plan.area p x plan a n b

  -- up to where the entry runs on, unwinding
  to_unwind : (e : Entry) (i : ℕ) (a : Answer) (l : Left) (s : Store) (waits : Configuration) → RuntimeAt p x st adr → AreaReady g st adr plan.area s
      → (n : ℕ) × T (calling (unwinds e i a) (with_words s plan.area) x.start_unwind (V.I32 plan.area.at ∷ []) (give_zero waits) l) n
      (busy (unwinds e i a) (resumed waits (begun g st adr plan.area s) (zeros_of p i)) l) × (n ≤ 14)
  to_unwind e i a l s waits run r =
      let area = plan.area in
      let runs = starts g area p x.start_unwind st adr 1 (area.at + 8) run.sort (with_words s area) r.state_above r.address_above (area_begun g st adr area s r) in
      let w = runs.within in (
        suc 1 + runs.cost + 1,
        past_return g area p x plan (unwinds e i a) (give_zero waits) l (with_words s area) (begun g st adr area s) x.start_unwind 11
            (V.I32 area.at ∷ []) (take (result_count p x.start_unwind) []) (runtime_func run.sort (start_code 1 st adr))
            (busy (unwinds e i a) (resumed waits (begun g st adr area s) (zeros_of p i)) l) run.start_unwind runs refl,
        omega arith,
      )

  words_size : (s : Store) → 8 ≤ plan.area.len → plan.area.at + plan.area.len ≤ length s.memory → length (with_words s plan.area).memory ≡ length s.memory
  words_size s least inside =
      let at = plan.area.at in
      let w1 = word (at + 8) in
      let n1 : length (overwritten s.memory at w1) ≡ length s.memory = length-overwritten s.memory at w1 (omega arith) in
      length-overwritten (overwritten s.memory at w1) (at + 4) (word (at + plan.area.len)) (omega arith) ∙ n1

  -- behind its two words the memory is as before
  words_outside : (s : Store) (b w : ℕ) → 8 ≤ plan.area.len → plan.area.at + plan.area.len ≤ length s.memory → (b + w ≤ plan.area.at) ⊎ (plan.area.at + 8 ≤ b)
      → bytes_at (with_words s plan.area).memory b w ≡ bytes_at s.memory b w
  words_outside s b w least inside h =
      let at = plan.area.at in
      let w1 = word (at + 8) in
      let w2 = word (at + plan.area.len) in
      let m1 = overwritten s.memory at w1 in
      let n1 : length m1 ≡ length s.memory = length-overwritten s.memory at w1 (omega arith) in
      ⊎_elim
      (λ lo. bytes_at-overwritten_below m1 (at + 4) w2 b w (omega arith) (omega arith) ∙ bytes_at-overwritten_below s.memory at w1 b w lo (omega arith))
      (λ hi. bytes_at-overwritten_behind m1 (at + 4) w2 b w (omega arith) (omega arith) ∙ bytes_at-overwritten_behind s.memory at w1 b w (omega arith) (omega arith))
      h

  pub pauses : (e : Entry) (i : ℕ) (a : Answer) (l : Left) (s : Store) (v : Level) (vs : List Level) → RuntimeAt p x st adr → AreaReady g st adr plan.area s
      → AllFit g plan.area p st adr (v ∷ vs) → 8 + total_size (v ∷ vs) ≤ plan.area.len → PausesAt g st adr p x plan e i a l s v vs
  pauses e i a l s v vs run r fit fits =
      let area = plan.area in
      let ph = unwinds e i a in
      let least = r.least in let inside = r.inside in let small = r.small in
      let s1 = begun g st adr area s in
      let ar1 = area_begun g st adr area s r in
      let t1 = to_unwind e i a l s (at_import s v vs) run r in
      let here = behind_call s1 v (zeros_of p i ++ v.ops) vs in
      let u = unwind_all_law g area p st 0 adr v vs s1 (zeros_of p i ++ v.ops) (area.at + 8) fit (state_started g st adr area (with_words s area) 1 r.apart r.state_there) ar1 (omega arith) in
      let uw = u.goes.within in
      let s2 = with_memory s1 u.after in
      let n1 : length s1.memory ≡ length s.memory = length-overwritten (overwritten s.memory area.at (word (area.at + 8))) (area.at + 4) (word (area.at + area.len))
      (let z = length-overwritten s.memory area.at (word (area.at + 8)) (omega arith) in omega arith) ∙ length-overwritten s.memory area.at (word (area.at + 8)) (omega arith) in
      let n2 = u.others.size in
      let ar2 : AreaAt adr area s2 (area.at + 8 + total_size (v ∷ vs)) = record {
        address = ar1.address;
        location = u.location;
        limit = u.others.same (area.at + 4) 4 (inr (omega arith)) (inl (omega arith)) ∙ ar1.limit;
        low = omega arith;
        high = omega arith;
        inside = omega arith;
        small = omega arith;
      } in
      let t2 = in_unwinding g area p x plan e i a l here u.end u.goes.cost u.goes.goes in
      let t3 = th_one g area p x plan 0 (busy ph u.end l) (calling ph s2 x.get_state [] test_unwound l) u.may (ap (busy_step p x plan ph l) u.ends) in
      let told = tells g area p x.get_state st 1 run.state_sort s2 (state_started g st adr area (with_words s area) 1 r.apart r.state_there) run.tells in
      let t4 = past_return g area p x plan ph test_unwound l s2 s2 x.get_state 1 [] (V.I32 1 ∷ []) (runtime_func run.state_sort (state_code st))
      (calling ph s2 x.stop_unwind [] pause_there l) run.get_state told refl in
      let tw = told.within in
      let s3 = stopped st s2 in
      let ar3 = area_stopped g st adr area s2 (area.at + 8 + total_size (v ∷ vs)) r.apart ar2 in
      let halt = stops g area p x.stop_unwind st adr (area.at + 8 + total_size (v ∷ vs)) run.stop_sort s2 r.state_above ar3 in
      let hw = halt.within in
      let t5 = to_return g area p x plan ph pause_there l s2 s3 x.stop_unwind 9 [] (take (result_count p x.stop_unwind) []) (runtime_func run.stop_sort (stop_code st adr)) run.stop_unwind halt in
      let z : area.at + 8 + total_size (v ∷ vs) ≡ area.at + (8 + total_size (v ∷ vs)) = omega arith in
      let used : used_of s3 area ≡ 8 + total_size (v ∷ vs) = used_is s3 area (8 + total_size (v ∷ vs)) (subst (λ k. HoldsBytes u.after area.at (word k)) z u.location) (omega arith) in
      let whole = th_on g area p x plan t1.0 _ _ _ _ t1.1 (th_on g area p x plan u.goes.cost _ _ _ _ t2
      (th_on g area p x plan 1 _ _ _ _ t3 (th_on g area p x plan (suc 0 + told.cost + 1) _ _ _ _ t4 t5))) in
      let few = t1.2 in
      record {
        cost = t1.0 + (u.goes.cost + (1 + (suc 0 + told.cost + 1 + (suc 0 + halt.cost))));
        within = omega arith;
        at = aside ph halt.end pause_there l;
        before = whole.by;
        store = s3;
        tells = ap (aside_step p x plan ph pause_there l) halt.returns_there
            ∙ ap (λ k. goes 0 (note (paused a.ticks k) s3 ∷ []) (calling (rewinds e i a s3) s3 x.start_rewind (V.I32 area.at ∷ []) call_again l)) used;
        around = around g st adr area s s1 1 (with_words s area).memory r refl u.after (n2 ∙ n1) (λ b w h.
            let h1 : (b + w ≤ area.at) ⊎ (area.at + 4 ≤ b) = ⊎_elim (λ lo. inl lo) (λ hi. inr (omega arith)) h in
            let h2 : (b + w ≤ area.at + 8) ⊎ (area.at + 8 + total_size (v ∷ vs) ≤ b) = ⊎_elim (λ lo. inl (omega arith)) (λ hi. inr (omega arith)) h in
            u.others.same b w h1 h2 ∙ words_outside s b w least inside (⊎_elim (λ lo. inl lo) (λ hi. inr (omega arith)) h));
        suspended = record { frames = u.frames; location = u.location; limit = ar2.limit };
      }

  -- with any activations below the levels
  pub overruns : (under : List Activation) (e : Entry) (i : ℕ) (a : Answer) (l : Left) (s : Store) (v : Level) (vs : List Level) → RuntimeAt p x st adr → AreaReady g st adr plan.area s
      → AllFit g plan.area p st adr (v ∷ vs) → plan.area.len < 8 + total_size (v ∷ vs)
      → UnwindTraps g p x plan e i a l s (record { store = s; here = activation_of v; under = map activation_of vs ++ under }) (14 + unwinding_all v vs) (v ∷ vs)
  overruns under e i a l s v vs run r fit over_len =
      let area = plan.area in
      let ph = unwinds e i a in
      let least = r.least in let inside = r.inside in let small = r.small in
      let s1 = begun g st adr area s in
      let t1 = to_unwind e i a l s (record { store = s; here = activation_of v; under = map activation_of vs ++ under }) run r in
      let here = behind_call_above s1 v (zeros_of p i ++ v.ops) vs under in
      let k = stop_above_law g area p st 0 adr under v vs s1 (zeros_of p i ++ v.ops) 8 fit (state_started g st adr area (with_words s area) 1 r.apart r.state_there) (area_begun g st adr area s r) over_len in
      let q = k.traps_at in
      let qw = q.within in
      let t2 = in_unwinding g area p x plan e i a l here q.at q.cost q.goes in
      let s3 = with_memory s1 k.after in
      let bound = fit_below area.len 8 (v ∷ vs) least in
      let above = fit_above area.len 8 (v ∷ vs) in
      let used : used_of s3 area ≡ fit_of area.len 8 (v ∷ vs) = used_is s3 area (fit_of area.len 8 (v ∷ vs)) k.location (omega arith) in
      let whole = th_on g area p x plan t1.0 q.cost _ _ _ t1.1 t2 in
      let few = t1.2 in
      record {
        cost = t1.0 + q.cost;
        within = omega arith;
        at = busy ph q.at l;
        before = whole.by;
        store = s3;
        config = q.at;
        is = refl;
        traps_there = q.traps_there;
        frames = k.frames;
        location = k.location;
        size = k.others.size ∙ (words_size s least inside);
        others = λ b w h.
            let h1 : (b + w ≤ area.at) ⊎ (area.at + 4 ≤ b) = ⊎_elim (λ lo. inl lo) (λ hi. inr (omega arith)) h in
            let h2 : (b + w ≤ area.at + 8) ⊎ (area.at + 8 + (fit_of area.len 8 (v ∷ vs) - 8) ≤ b) = ⊎_elim (λ lo. inl (omega arith)) (λ hi. inr (omega arith)) h in
            k.others.same b w h1 h2 ∙ words_outside s b w least inside (⊎_elim (λ lo. inl lo) (λ hi. inr (omega arith)) h);
        tells = ap (busy_step p x plan ph l) q.traps_there ∙ ap (λ n. goes 0 (note (ended (UnwindTrap Unreachable n area.len)) s3 ∷ []) (over s3)) used;
      }

  -- ---- to a test

  fit_all : (len used : ℕ) (vs : List Level) → used + total_size vs ≤ len → (fit_of len used vs ≡ used + total_size vs) × (fitting len used vs ≡ vs)
  fit_all len used [] le = (omega arith, refl)
  fit_all len used (v ∷ vs) le =
      let ih = fit_all len (used + level_size v) vs (omega arith) in
      let q : nat_lt len (used + level_size v) ≡ false = grind arith in
      let z : used + level_size v + total_size vs ≡ used + total_size (v ∷ vs) = omega arith in (
        ap (λ b. if b then used else fit_of len (used + level_size v) vs) q ∙ ih.0 ∙ z,
        ap (λ b. if b then [] else v ∷ fitting len (used + level_size v) vs) q ∙ ap (λ ws. v ∷ ws) ih.1,
      )

  -- all frames fit, and the test is met
  at_test : (e : Entry) (i : ℕ) (a : Answer) (l : Left) (s : Store) (inner : List Level) (b : Activation) (rest : List Activation) (code : Code) → RuntimeAt p x st adr → AreaReady g st adr plan.area s
      → AllFit g plan.area p st adr inner → b.code ≡ assert_code st code → 8 + total_size inner ≤ plan.area.len
      → UnwindTraps g p x plan e i a l s (waiting_above s inner b rest) (18 + unwinding_onto inner) inner
  at_test e i a l s inner b rest code run r fit is fits =
      let area = plan.area in
      let ph = unwinds e i a in
      let least = r.least in let inside = r.inside in let small = r.small in
      let s1 = begun g st adr area s in
      let waits = waiting_above s inner b rest in
      let t1 = to_unwind e i a l s waits run r in
      let here = resumed waits s1 (zeros_of p i) in
      let state = state_started g st adr area (with_words s area) 1 r.apart r.state_there in
      let u = unwind_onto_law g area p st 0 adr inner b rest s1 s (zeros_of p i) (area.at + 8) fit state (area_begun g st adr area s r) (omega arith) in
      let uw = u.goes.within in
      let s2 = with_memory s1 u.after in
      let on_code : Code → Configuration = λ c. running s2 b.func rest b.locals (u.results ++ b.operands) c b.labels in
      let k = assert_stops g area p st s2 b.func rest b.locals (u.results ++ b.operands) code b.labels state in
      let k2 : Leads (alone (keeps g area) p) (on_code b.code) 4 [] k.at = subst (λ c. Leads (alone (keeps g area) p) (on_code c) 4 [] k.at) (sym is) k.goes in
      let t2 = in_unwinding g area p x plan e i a l here (on_code b.code) u.goes.cost u.goes.goes in
      let t3 = in_unwinding g area p x plan e i a l (on_code b.code) k.at 4 k2 in
      let f = fit_all area.len 8 inner fits in
      let z : area.at + 8 + total_size inner ≡ area.at + fit_of area.len 8 inner = omega (arith, f.0) in
      let location = subst (λ n. HoldsBytes u.after area.at (word n)) z u.location in
      let used : used_of s2 area ≡ fit_of area.len 8 inner = used_is s2 area (fit_of area.len 8 inner) location (omega (arith, f.0)) in
      let whole = th_on g area p x plan t1.0 (u.goes.cost + 4) _ _ _ t1.1 (th_on g area p x plan u.goes.cost 4 _ _ _ t2 t3) in
      let few = t1.2 in
      record {
        cost = t1.0 + (u.goes.cost + 4);
        within = omega arith;
        at = busy ph k.at l;
        before = whole.by;
        store = s2;
        config = k.at;
        is = refl;
        traps_there = k.traps_there;
        frames = subst (λ vs. HoldsStack u.after (area.at + 8) vs) (sym f.1) u.frames;
        location = location;
        size = u.others.size ∙ (words_size s least inside);
        others = λ c w h.
            let h1 : (c + w ≤ area.at) ⊎ (area.at + 4 ≤ c) = ⊎_elim (λ lo. inl lo) (λ hi. inr (omega (arith, f.0))) h in
            let h2 : (c + w ≤ area.at + 8) ⊎ (area.at + 8 + total_size inner ≤ c) = ⊎_elim (λ lo. inl (omega arith)) (λ hi. inr (omega (arith, f.0))) h in
            u.others.same c w h1 h2 ∙ words_outside s c w least inside (⊎_elim (λ lo. inl lo) (λ hi. inr (omega (arith, f.0))) h);
        tells = ap (busy_step p x plan ph l) k.traps_there ∙ ap (λ n. goes 0 (note (ended (UnwindTrap Unreachable n area.len)) s2 ∷ []) (over s2)) used;
      }

  pub answers : (e : Entry) (i params : ℕ) (a : Answer) (l : Left) (s : Store) (v : Level) (vs : List Level)
      → RuntimeAt p x st adr → AreaReady g st adr plan.area s → AllFit g plan.area p st adr (v ∷ vs) → Chain p st s.table v vs → length vs < 4096
      → SuspendedIn plan.area s (v ∷ vs) → 8 + total_size (v ∷ vs) ≤ plan.area.len
      → EntersEntry p st e (outer_of v vs) → CallsTo p s.table v params i → defined_at p i ≡ None → i < func_imports p → AnswersAt g st adr p x plan e i a l s v vs
  answers e i params a l s v vs run r fit chain few su fits en to def lt =
      let area = plan.area in
      let ph = rewinds e i a s in
      let least = r.least in let inside = r.inside in let small = r.small in
      let top = area.at + 8 + total_size (v ∷ vs) in
      let s5 = started st adr 2 area.at s in
      let ar5 = area_started g st adr area s 2 top r.address_there su.location su.limit (omega arith) (omega arith) inside small in
      let begin = starts g area p x.start_rewind st adr 2 top run.sort s r.state_above r.address_above ar5 in
      let bw = begin.within in
      let t1 = past_return g area p x plan ph call_again l s s5 x.start_rewind 11 (V.I32 area.at ∷ []) (take (result_count p x.start_rewind) [])
      (runtime_func run.sort (start_code 2 st adr)) (entering ph e s5 l) run.start_rewind begin refl in
      let outer = outer_of v vs in
      let ls = e.args ++ map zero_of (declared_locals en.func.locals) in
      let entry = running s5 outer.func [] ls [] (function_code outer.fn) [] in
      let ls_size : length ls ≡ length outer.locals = length-append e.args (map zero_of (declared_locals en.func.locals))
      ∙ ap (λ k. length e.args + k) (length-map (declared_locals en.func.locals) zero_of) ∙ en.size in
      let defined : defined_at p e.func ≡ Some en.func = ap (defined_at p) en.is ∙ en.defined in
      let enters : protocol p x plan (entering ph e s5 l) ≡ goes (length e.args) [] (busy ph entry l) =
      ap (busy_enters ph e s5 l) defined
      ∙ ap (λ f. goes (length e.args) [] (busy ph (running s5 f [] ls [] en.func.body []) l)) en.is
      ∙ ap (λ c. goes (length e.args) [] (busy ph (running s5 outer.func [] ls [] c []) l)) en.body in
      let t2 = th_one g area p x plan (length e.args) (entering ph e s5 l) (busy ph entry l) refl enters in
      let w = rewind_all_law g area p st 1 adr v vs s5 ls (area.at + 8) fit chain few (state_started g st adr area s 2 r.apart r.state_there) ar5 (omega arith) su.frames ls_size in
      let ww = w.goes.within in
      let s6 = with_memory s5 w.after in
      let here = running s6 v.func w.under w.locals [] (site_code v.site) v.site.again in
      let t3 = in_rewinding g area p x plan e i a s l entry here w.goes.cost w.goes.goes in
      let again = ask_again_law g area p st adr s6 w.under w.locals v params i fit.0 w.kept_same to def lt in
      let aw = again.goes.within in let af = again.few in
      let t4 = in_rewinding g area p x plan e i a s l here again.at again.goes.cost again.goes.goes in
      let waits : Configuration = record { store = s6; here = waiting v.func w.locals [] v.taken v.site.behind v.site.again; under = w.under } in
      let asked : protocol p x plan (busy ph again.at l) ≡ goes again.count [] (calling ph s6 x.get_state [] (test_rewound waits) l) =
      ap (busy_step p x plan ph l) again.asks_there
      ∙ ap (λ b. if b then goes again.count [] (calling ph s6 x.get_state [] (test_rewound waits) l) else broken again.count 3 s6) (eq_self i) in
      let t5 = th_one g area p x plan again.count (busy ph again.at l) (calling ph s6 x.get_state [] (test_rewound waits) l) again.may asked in
      let to_call = th_on g area p x plan (suc 1 + begin.cost + 1) _ _ _ _ t1
      (th_on g area p x plan (suc (length e.args)) _ _ _ _ t2 (th_on g area p x plan w.goes.cost _ _ _ _ t3 t4)) in
      let told = tells g area p x.get_state st 2 run.state_sort s6 (state_started g st adr area s 2 r.apart r.state_there) run.tells in
      let tw = told.within in
      let t6 = past_return g area p x plan ph (test_rewound waits) l s6 s6 x.get_state 1 [] (V.I32 2 ∷ []) (runtime_func run.state_sort (state_code st))
      (calling ph s6 x.stop_rewind [] (give_answer waits) l) run.get_state told refl in
      let ar6 = area_lowered g area p adr s5 (area.at + 8) top w.after ar5 w.lowered (omega arith) (omega arith) in
      let s7 = stopped st s6 in
      let halt = stops g area p x.stop_rewind st adr (area.at + 8) run.stop_sort s6 r.state_above (area_stopped g st adr area s6 (area.at + 8) r.apart ar6) in
      let hw = halt.within in
      let t7 = to_return g area p x plan ph (give_answer waits) l s6 s7 x.stop_rewind 9 [] (take (result_count p x.stop_rewind) [])
      (runtime_func run.stop_sort (stop_code st adr)) run.stop_rewind halt in
      let whole = th_on g area p x plan (suc 1 + begin.cost + 1) _ _ _ _ t1
      (th_on g area p x plan (suc (length e.args)) _ _ _ _ t2 (th_on g area p x plan w.goes.cost _ _ _ _ t3
      (th_on g area p x plan again.goes.cost _ _ _ _ t4 (th_on g area p x plan (suc again.count) _ _ _ _ t5 (th_on g area p x plan (suc 0 + told.cost + 1) _ _ _ _ t6 t7))))) in
      let lo = w.lowered in
      record {
        cost = suc 1 + begin.cost + 1 + (suc (length e.args) + (w.goes.cost + (again.goes.cost + (suc again.count + (suc 0 + told.cost + 1 + (suc 0 + halt.cost))))));
        within = omega arith;
        at = aside ph halt.end (give_answer waits) l;
        before = whole.by;
        asking = again.at;
        reach = suc 1 + begin.cost + 1 + (suc (length e.args) + (w.goes.cost + again.goes.cost));
        to_call = to_call.by;
        count = again.count;
        args = again.args;
        all_there = again.all_there;
        under = w.under;
        came_back = w.came_back;
        locals = w.locals;
        kept_same = w.kept_same;
        waits = waits;
        asks_there = again.asks_there;
        waits_as = (refl, refl);
        store = s7;
        tells = ap (aside_step p x plan ph (give_answer waits) l) halt.returns_there;
        around = around g st adr area s s5 2 s.memory r refl w.after lo.others.size (λ b k h.
            let h1 : (b + k ≤ area.at) ⊎ (area.at + 4 ≤ b) = ⊎_elim (λ q. inl q) (λ q. inr (omega arith)) h in
            lo.others.same b k h1 h1);
        lowered = lo;
      }

pub pauses_law : Pauses
pauses_law g st adr p x plan e i a l s v vs run r fit fits = pauses g st adr p x plan e i a l s v vs run r fit fits

pub traps_law : TrapsThere
traps_law g st adr p x plan e i a l s v vs run r fit over_len =
    subst (λ us. UnwindTraps g p x plan e i a l s (record { store = s; here = activation_of v; under = us }) (14 + unwinding_all v vs) (v ∷ vs))
    (append-nil (map activation_of vs)) (overruns g st adr p x plan [] e i a l s v vs run r fit over_len)

pub halts_law : HaltsThere
halts_law g st adr p x plan e i a l s [] b rest code run r fit is = at_test g st adr p x plan e i a l s [] b rest code run r fit is (let least = r.least in omega arith)
halts_law g st adr p x plan e i a l s (v ∷ vs) b rest code run r fit is =
    ⊎_elim
    (λ over_len.
    let t = overruns g st adr p x plan (b ∷ rest) e i a l s v vs run r fit over_len in
    let w = t.within in
    record {
      cost = t.cost;
      within = omega arith;
      at = t.at;
      before = t.before;
      store = t.store;
      config = t.config;
      is = t.is;
      traps_there = t.traps_there;
      frames = t.frames;
      location = t.location;
      size = t.size;
      others = t.others;
      tells = t.tells;
    })
    (λ fits. at_test g st adr p x plan e i a l s (v ∷ vs) b rest code run r fit is (omega arith))
    (cases_lt plan.area.len (8 + total_size (v ∷ vs)))

pub answers_law : Answers
answers_law g st adr p x plan e i params a l s v vs run r fit chain few su fits en to def lt = answers g st adr p x plan e i params a l s v vs run r fit chain few su fits en to def lt

-- behind the pause the store is ready again
pub ready_again : (g st adr : ℕ) (area : Area) (s t : Store) → AreaReady g st adr area s → SameAround st adr area s t → AreaReady g st adr area t
ready_again g st adr area s t r a =
    let count = a.count in
    let size = a.size in
    let there = r.state_there in
    let there2 = r.address_there in
    let inside = r.inside in
    let small = r.small in
    record {
      state_above = r.state_above;
      address_above = r.address_above;
      apart = r.apart;
      state_there = omega arith;
      address_there = omega arith;
      least = r.least;
      inside = omega arith;
      small = omega arith;
    }
