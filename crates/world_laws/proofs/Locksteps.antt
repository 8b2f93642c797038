-- A turn of one program in two runs of a world.
use Rattle.std.proofs.Common.{arith, ◌≡◌, ◌≤◌, ◌+◌, ℕ, suc, List, [], ◌∷◌, ◌++◌, length, map, Option, Some, None, Bool, true, false, refl, sym, ap, ◌∙◌, subst, append_assoc, length-append}
use Rattle.std.specs.Prelude.{if◌then◌else◌, slice_get}
use Rattle.std.specs.Option.{unwrap_or}
use Rattle.wa_model.specs.Outside.{Call, AnswerLine, Event, called, answered, paused, parked, returned, ended, shown, Line}
use Rattle.wa_model.specs.Store.{Store}
use Rattle.wa_model.specs.Plan.{Outcome}
use Rattle.wa_model.specs.Blocking.{Note}
use Rattle.world_model.specs.World.{Device, Look, Program, ends_turn, turn_of, behind_turn, ticks_in, put_off, call_in, NoteMeets, CallsMeet, line_at, look_events, looks_after, events_with_looks, protocol_story}
use Rattle.world_laws.specs.Originals.{one_if, new_calls}
use Rattle.world_laws.proofs.Counting.{calls_on}
use Rattle.world_laws.proofs.StoryParts.{begins_any}
use Rattle.world_laws.proofs.GoingOn.{none_to_come}
use Rattle.world_laws.specs.Replays.{SameFaults}
use Rattle.world_laws.proofs.Journals.{Grows, grows_on, calls_grow}
use Rattle.world_laws.proofs.Heads.{front_same, Like, next_same, more_behind, no_fault_behind, refusal_behind, FirstSame, Met, same_met}

-- ---- turns, note by note

turn_ends : (x : Note) (xs : List Note) → ends_turn x.event ≡ true → (turn_of (x ∷ xs) ≡ x ∷ []) × (behind_turn (x ∷ xs) ≡ xs)
turn_ends x xs e = (ap (λ (b : Bool). if b then x ∷ [] else x ∷ turn_of xs) e, ap (λ (b : Bool). if b then xs else behind_turn xs) e)

turn_goes : (x : Note) (xs : List Note) → ends_turn x.event ≡ false → (turn_of (x ∷ xs) ≡ x ∷ turn_of xs) × (behind_turn (x ∷ xs) ≡ behind_turn xs)
turn_goes x xs e = (ap (λ (b : Bool). if b then x ∷ [] else x ∷ turn_of xs) e, ap (λ (b : Bool). if b then xs else behind_turn xs) e)

turn_front : (x : Note) (xs : List Note) → (rest : List Note) × (turn_of (x ∷ xs) ≡ x ∷ rest)
turn_front x xs = by_end (ends_turn x.event) refl
  where
    by_end : (b : Bool) → ends_turn x.event ≡ b → (rest : List Note) × (turn_of (x ∷ xs) ≡ x ∷ rest)
    by_end true e = ([], (turn_ends x xs e).0)
    by_end false e = (turn_of xs, (turn_goes x xs e).0)

pub call_is : (e : Event) (c : Call) → call_in e ≡ Some c → e ≡ called c
call_is (called d) c h = ap called (same d c h)
  where
    same : (x y : Call) → Some x ≡ Some y → x ≡ y
    same x y e = cc
call_is (answered v) c h = cc
call_is (paused t u) c h = cc
call_is (returned i v) c h = cc
call_is (ended how) c h = cc
call_is (parked used) c h = cc
call_is (shown at bytes) c h = cc

-- an event that ends no turn shows nothing
pub shows_none : (looks : List Look) (x : Note) (e : Event) → ends_turn e ≡ false → looks_after looks x e ≡ []
shows_none looks x (called c) h = refl
shows_none looks x (answered v) h = refl
shows_none looks x (paused t u) h = refl
shows_none looks x (returned i v) h = refl
shows_none looks x (ended how) h = cc
shows_none looks x (parked used) h = refl
shows_none looks x (shown at bytes) h = refl

same_shown : (looks : List Look) (x y : Note) (e : Event) → x.store ≡ y.store → looks_after looks x e ≡ looks_after looks y e
same_shown looks x y (called c) h = refl
same_shown looks x y (answered v) h = refl
same_shown looks x y (paused t u) h = refl
same_shown looks x y (returned i v) h = refl
same_shown looks x y (ended how) h = ap (λ (s : Store). look_events s looks) h
same_shown looks x y (parked used) h = refl
same_shown looks x y (shown at bytes) h = refl

none_met : (w : Program) (x : Note) (xs : List Note) (os : List Outcome) (lines : List AnswerLine) (ds : List Device) (os' : List Outcome) (lines' : List AnswerLine) (ds' : List Device)
    → call_in x.event ≡ None
    → CallsMeet w (x ∷ xs) os lines ds os' lines' ds' → CallsMeet w xs os lines ds os' lines' ds'
none_met w x xs os lines ds os' lines' ds' e h = subst (λ (c : Option Call). NoteMeets w c os lines ds (λ o l d. CallsMeet w xs o l d os' lines' ds')) e h

one_met : (w : Program) (x : Note) (xs : List Note) (os : List Outcome) (lines : List AnswerLine) (ds : List Device) (os' : List Outcome) (lines' : List AnswerLine) (ds' : List Device)
    (c : Call) → call_in x.event ≡ Some c
    → CallsMeet w (x ∷ xs) os lines ds os' lines' ds' → NoteMeets w (Some c) os lines ds (λ o l d. CallsMeet w xs o l d os' lines' ds')
one_met w x xs os lines ds os' lines' ds' c e h = subst (λ (c : Option Call). NoteMeets w c os lines ds (λ o l d. CallsMeet w xs o l d os' lines' ds')) e h

-- ---- both turns

module _ (w : Program) (due number : ℕ) (ds' : List Device) (m1 m2 : List Line) (o1 o2 : List Outcome) (l1 l2 : List AnswerLine) (d1 d2 : List Device)
    (grow1 : (import : ℕ) (name : List ℕ) → unwrap_or (slice_get w.binds import) None ≡ Some name → Grows name d1 ds')
    (grow2 : (import : ℕ) (name : List ℕ) → unwrap_or (slice_get w.binds import) None ≡ Some name → Grows name d2 ds') where
  -- the lines of a turn, and those behind it
  abbrev Lines : List Note → List Line → List Line
  Lines n m = map (line_at due number) (events_with_looks w.looks (turn_of n)) ++ m

  -- where an import is bound they tell faults at the same places
  abbrev Faults : List Note → List Note → Type 0
  Faults n1 n2 = (import : ℕ) (name : List ℕ) → unwrap_or (slice_get w.binds import) None ≡ Some name → SameFaults (Lines n1 m1) (Lines n2 m2)

  pub record Same (n1 n2 : List Note) : Type 0 where
    pub events : events_with_looks w.looks (turn_of n1) ≡ events_with_looks w.looks (turn_of n2)
    pub off : put_off (turn_of n1) ≡ put_off (turn_of n2)
    pub answers : l1 ≡ l2
    pub devices : d1 ≡ d2
    pub pre : List Outcome
    pub done : List Note
    pub count : new_calls done ≡ length pre
    pub first : protocol_story w (pre ++ o1) ≡ done ++ behind_turn n1
    pub second : protocol_story w (pre ++ o2) ≡ done ++ behind_turn n2

  -- where both go on behind notes of one event that end no turn
  goes : (x y : Note) (n1 n2 : List Note) → x.event ≡ y.event → ends_turn x.event ≡ false → Same n1 n2 → Same (x ∷ n1) (y ∷ n2)
  goes x y n1 n2 e f s =
      let g : ends_turn y.event ≡ false = ap ends_turn (sym e) ∙ f in
      let tx = turn_goes x n1 f in
      let ty = turn_goes y n2 g in
      let ex : events_with_looks w.looks (turn_of (x ∷ n1)) ≡ x.event ∷ events_with_looks w.looks (turn_of n1) =
      ap (events_with_looks w.looks) tx.0 ∙ ap (λ (es : List Event). (x.event ∷ es) ++ events_with_looks w.looks (turn_of n1)) (shows_none w.looks x x.event f) in
      let ey : events_with_looks w.looks (turn_of (y ∷ n2)) ≡ y.event ∷ events_with_looks w.looks (turn_of n2) =
      ap (events_with_looks w.looks) ty.0 ∙ ap (λ (es : List Event). (y.event ∷ es) ++ events_with_looks w.looks (turn_of n2)) (shows_none w.looks y y.event g) in
      record {
        events = ex ∙ ap (λ (v : Event). v ∷ events_with_looks w.looks (turn_of n1)) e ∙ ap (λ (es : List Event). y.event ∷ es) s.events ∙ sym ey;
        off = ap put_off tx.0 ∙ ap (λ (v : Event). ticks_in v + put_off (turn_of n1)) e ∙ ap (λ (k : ℕ). ticks_in y.event + k) s.off ∙ sym (ap put_off ty.0);
        answers = s.answers;
        devices = s.devices;
        pre = s.pre;
        done = s.done;
        count = s.count;
        first = s.first ∙ ap (λ (ns : List Note). s.done ++ ns) (sym tx.1);
        second = s.second ∙ ap (λ (ns : List Note). s.done ++ ns) (sym ty.1);
      }

  -- the lines behind such a note
  lines_goes : (x : Note) (n : List Note) (m : List Line) → ends_turn x.event ≡ false → Lines (x ∷ n) m ≡ line_at due number x.event ∷ Lines n m
  lines_goes x n m f =
      ap (λ (ns : List Note). map (line_at due number) (events_with_looks w.looks ns) ++ m) (turn_goes x n f).0
      ∙ ap (λ (es : List Event). map (line_at due number) ((x.event ∷ es) ++ events_with_looks w.looks (turn_of n)) ++ m) (shows_none w.looks x x.event f)

  faults_goes : (x y : Note) (n1 n2 : List Note) → x.event ≡ y.event → ends_turn x.event ≡ false → SameFaults (Lines (x ∷ n1) m1) (Lines (y ∷ n2) m2) → SameFaults (Lines n1 m1) (Lines n2 m2)
  faults_goes x y n1 n2 e f h =
      let g : SameFaults (line_at due number x.event ∷ Lines n1 m1) (line_at due number y.event ∷ Lines n2 m2) =
      subst (λ (ls : List Line). SameFaults (line_at due number x.event ∷ Lines n1 m1) ls) (lines_goes y n2 m2 (ap ends_turn (sym e) ∙ f))
      (subst (λ (ls : List Line). SameFaults ls (Lines (y ∷ n2) m2)) (lines_goes x n1 m1 f) h) in
      λ i u v a b. g (suc i) u v a b

  faults_first : (n1 n2 : List Note) → SameFaults (Lines n1 m1) (Lines n2 m2) → FirstSame n1 n2
  faults_first [] [] h = tt
  faults_first [] (y ∷ n2) h = tt
  faults_first (x ∷ n1) [] h = tt
  faults_first (x ∷ n1) (y ∷ n2) h =
      let a = turn_front x n1 in
      let b = turn_front y n2 in
      let g : SameFaults (told (x ∷ a.0) m1) (told (y ∷ b.0) m2) =
      subst (λ (ns : List Note). SameFaults (told (x ∷ a.0) m1) (told ns m2)) b.1 (subst (λ (ns : List Note). SameFaults (told ns m1) (Lines (y ∷ n2) m2)) a.1 h) in
      g 0 (line_at due number x.event) (line_at due number y.event) refl refl
    where
      told : List Note → List Line → List Line
      told ns m = map (line_at due number) (events_with_looks w.looks ns) ++ m

  -- where both turns end with notes of one event and store
  ends : (pre : List Outcome) (done : List Note) (x y : Note) (n1 n2 : List Note) (os1 os2 : List Outcome) (lines : List AnswerLine) (ds : List Device) → new_calls done ≡ length pre
      → Like x y → call_in x.event ≡ None
      → ends_turn x.event ≡ true → protocol_story w (pre ++ os1) ≡ done ++ x ∷ n1 → protocol_story w (pre ++ os2) ≡ done ++ y ∷ n2
      → CallsMeet w (turn_of (x ∷ n1)) os1 lines ds o1 l1 d1 → CallsMeet w (turn_of (y ∷ n2)) os2 lines ds o2 l2 d2 → Same (x ∷ n1) (y ∷ n2)
  ends pre done x y n1 n2 os1 os2 lines ds count like none f s1 s2 c1 c2 =
      let e : y.event ≡ x.event = like.0 in
      let none_y : call_in y.event ≡ None = ap call_in e ∙ none in
      let same : y ≡ x = like.2 none_y in
      let g : ends_turn y.event ≡ true = ap ends_turn e ∙ f in
      let tx = turn_ends x n1 f in
      let ty = turn_ends y n2 g in
      let h1 : CallsMeet w [] os1 lines ds o1 l1 d1 = none_met w x [] os1 lines ds o1 l1 d1 none (subst (λ (ns : List Note). CallsMeet w ns os1 lines ds o1 l1 d1) tx.0 c1) in
      let h2 : CallsMeet w [] os2 lines ds o2 l2 d2 = none_met w y [] os2 lines ds o2 l2 d2 none_y (subst (λ (ns : List Note). CallsMeet w ns os2 lines ds o2 l2 d2) ty.0 c2) in
      let both : turn_of (x ∷ n1) ≡ turn_of (y ∷ n2) = tx.0 ∙ ap (λ (v : Note). v ∷ []) (sym same) ∙ sym ty.0 in
      let none_calls : new_calls (x ∷ []) ≡ 0 = ap (λ (c : Option Call). one_if c + 0) none in
      record {
        events = ap (events_with_looks w.looks) both;
        off = ap put_off both;
        answers = h1.1 ∙ sym h2.1;
        devices = h1.2 ∙ sym h2.2;
        pre = pre;
        done = done ++ x ∷ [];
        count = omega (arith, calls_on done (x ∷ []), none_calls, count);
        first = ap (λ (os : List Outcome). protocol_story w (pre ++ os)) h1.0 ∙ s1 ∙ sym (append_assoc done (x ∷ []) n1) ∙ ap (λ (ns : List Note). (done ++ x ∷ []) ++ ns) (sym tx.1);
        second = ap (λ (os : List Outcome). protocol_story w (pre ++ os)) h2.0 ∙ s2 ∙ ap (λ (v : Note). done ++ v ∷ n2) same ∙ sym (append_assoc done (x ∷ []) n2)
            ∙ ap (λ (ns : List Note). (done ++ x ∷ []) ++ ns) (sym ty.1);
      }

  abbrev Turn : List Note → List Note → Type 0
  Turn n1 n2 =
      (pre : List Outcome) (done : List Note) (os1 os2 : List Outcome) (lines : List AnswerLine) (ds : List Device) → new_calls done ≡ length pre
      → protocol_story w (pre ++ os1) ≡ done ++ n1 → protocol_story w (pre ++ os2) ≡ done ++ n2 → new_calls n1 ≤ length os1 → new_calls n2 ≤ length os2
      → CallsMeet w (turn_of n1) os1 lines ds o1 l1 d1 → CallsMeet w (turn_of n2) os2 lines ds o2 l2 d2 → Faults n1 n2 → Same n1 n2

  -- behind a call that both make
  at_call : (x y : Note) (n1 n2 : List Note) (c : Call) (pre : List Outcome) (done : List Note) (os1 os2 : List Outcome) (lines : List AnswerLine) (ds : List Device) → new_calls done ≡ length pre
      → protocol_story w (pre ++ os1) ≡ done ++ x ∷ n1 → protocol_story w (pre ++ os2) ≡ done ++ y ∷ n2 → new_calls (x ∷ n1) ≤ length os1 → new_calls (y ∷ n2) ≤ length os2
      → x.event ≡ called c → y.event ≡ x.event → NoteMeets w (Some c) os1 lines ds (λ o l d. CallsMeet w (turn_of n1) o l d o1 l1 d1)
      → NoteMeets w (Some c) os2 lines ds (λ o l d. CallsMeet w (turn_of n2) o l d o2 l2 d2)
      → Faults n1 n2 → Turn n1 n2 → Same n1 n2
  at_call x y n1 n2 c pre done os1 os2 lines ds count s1 s2 few1 few2 is e h k faults on =
      let is_y : y.event ≡ called c = e ∙ is in
      let st1 : protocol_story w (pre ++ h.0 ∷ h.1) ≡ done ++ x ∷ n1 = ap (λ (os : List Outcome). protocol_story w (pre ++ os)) (sym h.4) ∙ s1 in
      let st2 : protocol_story w (pre ++ k.0 ∷ k.1) ≡ done ++ y ∷ n2 = ap (λ (os : List Outcome). protocol_story w (pre ++ os)) (sym k.4) ∙ s2 in
      let fw1 : new_calls (x ∷ n1) ≤ length (h.0 ∷ h.1) = subst (λ (os : List Outcome). new_calls (x ∷ n1) ≤ length os) h.4 few1 in
      let fw2 : new_calls (y ∷ n2) ≤ length (k.0 ∷ k.1) = subst (λ (os : List Outcome). new_calls (y ∷ n2) ≤ length os) k.4 few2 in
      let a : Met w c lines ds ds' n1 h.0 h.2 h.3 = record {
        meets = h.5;
        grows = λ name bound. grows_on name h.3 d1 ds' (calls_grow w name (turn_of n1) h.1 h.2 h.3 o1 l1 d1 h.6) (grow1 c.import name bound);
        opens = λ a z. no_fault_behind w pre h.1 done x c n1 a count (ap (λ (o : Outcome). protocol_story w (pre ++ o ∷ h.1)) (sym z) ∙ st1) is;
        fails = λ e z. refusal_behind w pre h.1 done x c n1 e count (ap (λ (o : Outcome). protocol_story w (pre ++ o ∷ h.1)) (sym z) ∙ st1) is fw1;
        some = more_behind w pre os1 done x c n1 count s1 is few1;
      } in
      let b : Met w c lines ds ds' n2 k.0 k.2 k.3 = record {
        meets = k.5;
        grows = λ name bound. grows_on name k.3 d2 ds' (calls_grow w name (turn_of n2) k.1 k.2 k.3 o2 l2 d2 k.6) (grow2 c.import name bound);
        opens = λ a z. no_fault_behind w pre k.1 done y c n2 a count (ap (λ (o : Outcome). protocol_story w (pre ++ o ∷ k.1)) (sym z) ∙ st2) is_y;
        fails = λ e z. refusal_behind w pre k.1 done y c n2 e count (ap (λ (o : Outcome). protocol_story w (pre ++ o ∷ k.1)) (sym z) ∙ st2) is_y fw2;
        some = more_behind w pre os2 done y c n2 count s2 is_y few2;
      } in
      let same = same_met w c lines ds ds' n1 n2 h.0 k.0 h.2 k.2 h.3 k.3 a b (λ name bound. faults_first n1 n2 (faults c.import name bound)) in
      let pre' : List Outcome = pre ++ h.0 ∷ [] in
      let done' : List Note = done ++ x ∷ [] in
      let one_x : new_calls (x ∷ []) ≡ 1 = ap (λ (v : Event). one_if (call_in v) + 0) is in
      let count' : new_calls done' ≡ length pre' = omega (arith, calls_on done (x ∷ []), one_x, count, length-append pre (h.0 ∷ [])) in
      let t1 : protocol_story w (pre' ++ h.1) ≡ done' ++ n1 = ap (protocol_story w) (append_assoc pre (h.0 ∷ []) h.1) ∙ st1 ∙ sym (append_assoc done (x ∷ []) n1) in
      let t2' : protocol_story w (pre' ++ k.1) ≡ done ++ y ∷ n2 =
      ap (protocol_story w) (append_assoc pre (h.0 ∷ []) k.1) ∙ ap (λ (o : Outcome). protocol_story w (pre ++ o ∷ k.1)) same.0 ∙ st2 in
      let begins = begins_any w pre' h.1 k.1 done' count' (n1, t1) in
      let parts = front_same done begins.0 n2 x y (sym (append_assoc done (x ∷ []) begins.0) ∙ sym begins.1 ∙ t2') in
      let t2 : protocol_story w (pre' ++ k.1) ≡ done' ++ n2 = begins.1 ∙ ap (λ (ns : List Note). done' ++ ns) parts.1 in
      let n_x : new_calls (x ∷ n1) ≡ 1 + new_calls n1 = ap (λ (v : Event). one_if (call_in v) + new_calls n1) is in
      let n_y : new_calls (y ∷ n2) ≡ 1 + new_calls n2 = ap (λ (v : Event). one_if (call_in v) + new_calls n2) is_y in
      let c2 : CallsMeet w (turn_of n2) k.1 h.2 h.3 o2 l2 d2 =
      subst (λ (d : List Device). CallsMeet w (turn_of n2) k.1 h.2 d o2 l2 d2) (sym same.2) (subst (λ (l : List AnswerLine). CallsMeet w (turn_of n2) k.1 l k.3 o2 l2 d2) (sym same.1) k.6) in
      on pre' done' h.1 k.1 h.2 h.3 count' t1 t2 (omega arith) (omega arith) h.6 c2 faults

  pub turn_same : (n1 n2 : List Note) → Turn n1 n2
  turn_same [] [] pre done os1 os2 lines ds count s1 s2 few1 few2 c1 c2 faults = record {
    events = refl;
    off = refl;
    answers = c1.1 ∙ sym c2.1;
    devices = c1.2 ∙ sym c2.2;
    pre = pre;
    done = done;
    count = count;
    first = ap (λ (os : List Outcome). protocol_story w (pre ++ os)) c1.0 ∙ s1;
    second = ap (λ (os : List Outcome). protocol_story w (pre ++ os)) c2.0 ∙ s2;
  }
  turn_same [] (y ∷ n2) pre done os1 os2 lines ds count s1 s2 few1 few2 c1 c2 faults = let z : y ∷ n2 ≡ [] = none_to_come w pre os1 os2 done [] (y ∷ n2) count s1 s2 refl in cc
  turn_same (x ∷ n1) [] pre done os1 os2 lines ds count s1 s2 few1 few2 c1 c2 faults = let z : x ∷ n1 ≡ [] = none_to_come w pre os2 os1 done [] (x ∷ n1) count s2 s1 refl in cc
  turn_same (x ∷ n1) (y ∷ n2) pre done os1 os2 lines ds count s1 s2 few1 few2 c1 c2 faults = by_call (turn_same n1 n2) (call_in x.event) refl (ends_turn x.event) refl
    where
      like : Like x y
      like = next_same w pre os1 os2 done x y n1 n2 count s1 s2

      by_call : Turn n1 n2 → (c : Option Call) → call_in x.event ≡ c → (b : Bool) → ends_turn x.event ≡ b → Same (x ∷ n1) (y ∷ n2)
      by_call on None none true f = ends pre done x y n1 n2 os1 os2 lines ds count like none f s1 s2 c1 c2
      by_call on None none false f =
          let none_y : call_in y.event ≡ None = ap call_in like.0 ∙ none in
          let same : y ≡ x = like.2 none_y in
          let g : ends_turn y.event ≡ false = ap ends_turn like.0 ∙ f in
          let h1 : CallsMeet w (turn_of n1) os1 lines ds o1 l1 d1 =
          none_met w x (turn_of n1) os1 lines ds o1 l1 d1 none (subst (λ (ns : List Note). CallsMeet w ns os1 lines ds o1 l1 d1) (turn_goes x n1 f).0 c1) in
          let h2 : CallsMeet w (turn_of n2) os2 lines ds o2 l2 d2 =
          none_met w y (turn_of n2) os2 lines ds o2 l2 d2 none_y (subst (λ (ns : List Note). CallsMeet w ns os2 lines ds o2 l2 d2) (turn_goes y n2 g).0 c2) in
          let none_x : new_calls (x ∷ []) ≡ 0 = ap (λ (c : Option Call). one_if c + 0) none in
          let n_x : new_calls (x ∷ n1) ≡ 0 + new_calls n1 = ap (λ (c : Option Call). one_if c + new_calls n1) none in
          let n_y : new_calls (y ∷ n2) ≡ 0 + new_calls n2 = ap (λ (c : Option Call). one_if c + new_calls n2) none_y in
          let rest = on pre (done ++ x ∷ []) os1 os2 lines ds (omega (arith, calls_on done (x ∷ []), none_x, count)) (s1 ∙ sym (append_assoc done (x ∷ []) n1))
          (s2 ∙ ap (λ (v : Note). done ++ v ∷ n2) same ∙ sym (append_assoc done (x ∷ []) n2)) (omega (arith, few1, n_x)) (omega (arith, few2, n_y)) h1 h2
          (λ import name bound. faults_goes x y n1 n2 (sym like.0) f (faults import name bound)) in
          goes x y n1 n2 (sym like.0) f rest
      by_call on (Some c) is b f =
          let e : x.event ≡ called c = call_is x.event c is in
          let g : ends_turn x.event ≡ false = ap ends_turn e in
          let is_y : call_in y.event ≡ Some c = ap call_in like.0 ∙ is in
          let h1 = one_met w x (turn_of n1) os1 lines ds o1 l1 d1 c is (subst (λ (ns : List Note). CallsMeet w ns os1 lines ds o1 l1 d1) (turn_goes x n1 g).0 c1) in
          let h2 = one_met w y (turn_of n2) os2 lines ds o2 l2 d2 c is_y (subst (λ (ns : List Note). CallsMeet w ns os2 lines ds o2 l2 d2) (turn_goes y n2 (ap ends_turn like.0 ∙ g)).0 c2) in
          goes x y n1 n2 (sym like.0) g
          (at_call x y n1 n2 c pre done os1 os2 lines ds count s1 s2 few1 few2 e like.0 h1 h2 (λ import name bound. faults_goes x y n1 n2 (sym like.0) g (faults import name bound)) on)
