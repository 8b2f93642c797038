-- Notes with their pauses shown, where all stacks fit.
use Rattle.std.proofs.Common.{arith, ◌≡◌, ◌≤◌, ℕ, zero, suc, List, [], ◌∷◌, ◌++◌, length, Option, Some, None, Bool, true, false, All, refl, sym, ap, ◌∙◌, subst}
use Rattle.std.specs.Prelude.{nat_lt, if◌then◌else◌, slice_get}
use Rattle.std.specs.List.{cons_option}
use Rattle.std.proofs.lemmas.List.Elements.{All-nil, All-cons, All-head, All-tail}
use Rattle.wa_types.specs.Frames.{Suspended}
use Rattle.wa_model.specs.Behaves.{pause_stacks, stack_if, unless_pause, without_pauses}
use Rattle.wa_model.specs.Blocking.{Note, events_of}
use Rattle.wa_model.specs.Expected.{pause_note, trap_note}
use Rattle.run_theory.specs.Shown.{shown_within as shown, shown_within_at as shown_at}
use Rattle.wa_model.specs.Outside.{Event, answered, called, ended, paused, parked, returned, shown as shows}
use Rattle.wa_model.specs.declared.events.End.{End}
use Rattle.wa_model.specs.declared.events.End.TheVariants.{UnwindTrap}
use Rattle.run_theory.proofs.Runs.{lt_false}
use Rattle.run_laws.proofs.OwnEnds.{Own, ends_hosts, is_hosts}

-- ---- events of the original's own

own_end : (how : End) → is_hosts how ≡ false → unless_pause (ended how) ≡ Some (ended how)
own_end (UnwindTrap trap used len) h = cc
own_end _ h = refl

own_event : (e : Event) → ends_hosts e ≡ false → unless_pause e ≡ Some e
own_event (ended how) h = own_end how h
own_event (paused ticks used) h = cc
own_event (called c) h = refl
own_event (answered s) h = refl
own_event (returned i v) h = refl
own_event (parked used) h = refl
own_event (shows a b) h = refl

module _ (room fit : List Suspended → ℕ) (len : ℕ) where
  abbrev pub Roomy : List Note → Type 0
  Roomy xs = All (λ (stack : List Suspended). room stack ≤ len) (pause_stacks xs)

  roomy_tail : (x : Note) (xs : List Note) (o : Option ℕ) → All (λ (stack : List Suspended). room stack ≤ len) (cons_option (stack_if x.stack o) (pause_stacks xs)) → Roomy xs
  roomy_tail x xs None h = h
  roomy_tail x xs (Some ticks) h = All-tail (λ (stack : List Suspended). room stack ≤ len) x.stack (pause_stacks xs) h

  -- where a stack fits, the pause is shown
  pub fits_shown : (x : Note) (ticks : ℕ) (rest : List Note) → room x.stack ≤ len → shown_at room fit len x (Some ticks) rest ≡ x ∷ pause_note ticks (room x.stack) x.store x.stack ∷ rest
  fits_shown x ticks rest le =
      ap (λ (b : Bool). x ∷ (if b then trap_note (fit x.stack) len x.store ∷ [] else pause_note ticks (room x.stack) x.store x.stack ∷ rest)) (lt_false len (room x.stack) le)

  pub shown_on : (xs ys : List Note) → Roomy xs → shown room fit len (xs ++ ys) ≡ shown room fit len xs ++ shown room fit len ys
  shown_on [] ys h = refl
  shown_on (x ∷ xs) ys h = by x.pause h (shown_on xs ys (roomy_tail x xs x.pause h))
    where
      by : (o : Option ℕ) → All (λ (stack : List Suspended). room stack ≤ len) (cons_option (stack_if x.stack o) (pause_stacks xs))
          → shown room fit len (xs ++ ys) ≡ shown room fit len xs ++ shown room fit len ys
          → shown_at room fit len x o (shown room fit len (xs ++ ys)) ≡ shown_at room fit len x o (shown room fit len xs) ++ shown room fit len ys
      by None h on = ap (λ (zs : List Note). x ∷ zs) on
      by (Some ticks) h on =
          let le = All-head (λ (stack : List Suspended). room stack ≤ len) x.stack (pause_stacks xs) h in
          fits_shown x ticks (shown room fit len (xs ++ ys)) le
          ∙ ap (λ (zs : List Note). x ∷ pause_note ticks (room x.stack) x.store x.stack ∷ zs) on
          ∙ ap (λ (zs : List Note). zs ++ shown room fit len ys) (sym (fits_shown x ticks (shown room fit len xs) le))

  -- without its pauses it is what it was
  pub shown_without : (xs : List Note) → Roomy xs → All Own xs → without_pauses (events_of (shown room fit len xs)) ≡ events_of xs
  shown_without [] h own = refl
  shown_without (x ∷ xs) h own = by x.pause h (shown_without xs (roomy_tail x xs x.pause h) (All-tail Own x xs own))
    where
      here : unless_pause x.event ≡ Some x.event
      here = own_event x.event (All-head Own x xs own)

      by : (o : Option ℕ) → All (λ (stack : List Suspended). room stack ≤ len) (cons_option (stack_if x.stack o) (pause_stacks xs))
          → without_pauses (events_of (shown room fit len xs)) ≡ events_of xs → without_pauses (events_of (shown_at room fit len x o (shown room fit len xs))) ≡ x.event ∷ events_of xs
      by None h on = ap (λ (q : Option Event). cons_option q (without_pauses (events_of (shown room fit len xs)))) here ∙ ap (λ (es : List Event). x.event ∷ es) on
      by (Some ticks) h on =
          let le = All-head (λ (stack : List Suspended). room stack ≤ len) x.stack (pause_stacks xs) h in
          ap (λ (zs : List Note). without_pauses (events_of zs)) (fits_shown x ticks (shown room fit len xs) le)
          ∙ ap (λ (q : Option Event). cons_option q (without_pauses (events_of (shown room fit len xs)))) here
          ∙ ap (λ (es : List Event). x.event ∷ es) on

  -- ---- where a pause is shown

  -- It is that of a call, which stands behind notes whose stacks fit, as its own does.
  pub record ShownPause (xs : List Note) (j : ℕ) (used : ℕ) : Type 0 where
    pub before : List Note
    pub call : Note
    pub behind : List Note
    pub ticks : ℕ
    pub split : xs ≡ before ++ call ∷ behind
    pub pauses : call.pause ≡ Some ticks
    pub roomy : Roomy before
    pub room_is : room call.stack ≤ len
    pub place : j ≡ suc (length (shown room fit len before))

  abbrev IsPaused : Note → ℕ → Type 0
  IsPaused z used = (ticks : ℕ) × (z.event ≡ paused ticks used)

  not_own : {A : Type 0} (x : Note) (used : ℕ) → Own x → IsPaused x used → A
  not_own x used own h = apart (sym (ap ends_hosts h.1) ∙ own)
    where
      apart : {A : Type 0} → true ≡ false → A
      apart e = cc

  some_note : (x y : Note) → Some x ≡ Some y → x ≡ y
  some_note x y e = cc

  pub shown_pause : (xs : List Note) (j : ℕ) (z : Note) (used : ℕ) → All Own xs → slice_get (shown room fit len xs) j ≡ Some z → IsPaused z used → ShownPause xs j used
  shown_pause [] j z used own at h = cc
  shown_pause (x ∷ xs) j z used own at h = by x.pause refl (λ i at'. shown_pause xs i z used (All-tail Own x xs own) at' h) j at
    where
      first : {A : Type 0} → (y : Note) → x ≡ y → y ≡ z → A
      first y e f = not_own x used (All-head Own x xs own) (h.0, ap (λ (w : Note). w.event) (e ∙ f) ∙ h.1)

      on_none : (o : Option ℕ) → x.pause ≡ o → o ≡ None → (i : ℕ) → ShownPause xs i used → (j' : ℕ) → j' ≡ suc i → ShownPause (x ∷ xs) j' used
      on_none o e f i p j' is = record {
        before = x ∷ p.before;
        call = p.call;
        behind = p.behind;
        ticks = p.ticks;
        split = ap (λ (zs : List Note). x ∷ zs) p.split;
        pauses = p.pauses;
        roomy = subst (λ (q : Option ℕ). All (λ (stack : List Suspended). room stack ≤ len) (cons_option (stack_if x.stack q) (pause_stacks p.before))) (sym (e ∙ f)) p.roomy;
        room_is = p.room_is;
        place =
            let n : length (shown_at room fit len x x.pause (shown room fit len p.before)) ≡ suc (length (shown room fit len p.before)) =
            ap (λ (q : Option ℕ). length (shown_at room fit len x q (shown room fit len p.before))) (e ∙ f) in
            omega (arith, is, p.place, n);
      }

      on_pause : (ticks : ℕ) → x.pause ≡ Some ticks → room x.stack ≤ len → (i : ℕ) → ShownPause xs i used → (j' : ℕ) → j' ≡ suc (suc i) → ShownPause (x ∷ xs) j' used
      on_pause ticks e le i p j' is = record {
        before = x ∷ p.before;
        call = p.call;
        behind = p.behind;
        ticks = p.ticks;
        split = ap (λ (zs : List Note). x ∷ zs) p.split;
        pauses = p.pauses;
        roomy =
            subst (λ (q : Option ℕ). All (λ (stack : List Suspended). room stack ≤ len) (cons_option (stack_if x.stack q) (pause_stacks p.before))) (sym e)
            (All-cons (λ (stack : List Suspended). room stack ≤ len) x.stack (pause_stacks p.before) le p.roomy);
        room_is = p.room_is;
        place =
            let n : length (shown_at room fit len x x.pause (shown room fit len p.before)) ≡ suc (suc (length (shown room fit len p.before))) =
            ap (λ (q : Option ℕ). length (shown_at room fit len x q (shown room fit len p.before))) e ∙ ap length (fits_shown x ticks (shown room fit len p.before) le) in
            omega (arith, is, p.place, n);
      }

      here : (ticks : ℕ) → x.pause ≡ Some ticks → room x.stack ≤ len → (j' : ℕ) → j' ≡ 1 → ShownPause (x ∷ xs) j' used
      here ticks e le j' is =
          record { before = []; call = x; behind = xs; ticks = ticks; split = refl; pauses = e; roomy = All-nil (λ (stack : List Suspended). room stack ≤ len); room_is = le; place = is }

      by_room : (ticks : ℕ) → x.pause ≡ Some ticks → (b : Bool) → nat_lt len (room x.stack) ≡ b → ((i : ℕ) → slice_get (shown room fit len xs) i ≡ Some z → ShownPause xs i used) → (j' : ℕ)
          → slice_get (x ∷ (if b then trap_note (fit x.stack) len x.store ∷ [] else pause_note ticks (room x.stack) x.store x.stack ∷ shown room fit len xs)) j' ≡ Some z → ShownPause (x ∷ xs) j' used
      by_room ticks e b f on zero at' = first x refl (some_note x z at')
      by_room ticks e true f on (suc zero) at' = no_trap (ap (λ (w : Note). w.event) (some_note (trap_note (fit x.stack) len x.store) z at') ∙ h.1)
        where
          no_trap : {A : Type 0} → (trap_note (fit x.stack) len x.store).event ≡ paused h.0 used → A
          no_trap e = cc
      by_room ticks e true f on (suc (suc i)) at' = cc
      by_room ticks e false f on (suc zero) at' = here ticks e (le_of f) 1 refl
        where
          le_of : nat_lt len (room x.stack) ≡ false → room x.stack ≤ len
          le_of g = grind arith
      by_room ticks e false f on (suc (suc i)) at' = on_pause ticks e (le_of f) i (on i at') (suc (suc i)) refl
        where
          le_of : nat_lt len (room x.stack) ≡ false → room x.stack ≤ len
          le_of g = grind arith

      by : (o : Option ℕ) → x.pause ≡ o → ((i : ℕ) → slice_get (shown room fit len xs) i ≡ Some z → ShownPause xs i used) → (j' : ℕ)
          → slice_get (shown_at room fit len x o (shown room fit len xs)) j' ≡ Some z → ShownPause (x ∷ xs) j' used
      by None e on zero at' = first x refl (some_note x z at')
      by None e on (suc i) at' = on_none None e refl i (on i at') (suc i) refl
      by (Some ticks) e on j' at' = by_room ticks e (nat_lt len (room x.stack)) refl on j' at'
