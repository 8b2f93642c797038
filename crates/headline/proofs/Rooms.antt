-- What a stack is taken to need, and what is expected with asserts.
use Rattle.std.proofs.Common.{◌≡◌, ◌∙◌, ℕ, suc, ◌≤◌, List, [], ◌∷◌, Option, Some, None, Bool, true, false, All, refl, sym, ap, subst, arith}
use Rattle.std.specs.Prelude.{not, ◌||◌, nat_lt, if◌then◌else◌}
use Rattle.std.specs.List.{list_any}
use Rattle.std.proofs.lemmas.Bool.{lt-ltb}
use Rattle.std.proofs.lemmas.List.Elements.{All-cons, All-head, All-nil, All-tail}
use Rattle.wa_types.specs.Frames.{Fit, Room, Suspended}
use Rattle.wa_types.specs.Pausing.{Settings}
use Rattle.wa_types.specs.Syntax.{Module}
use Rattle.wa_model.specs.Behaves.{StandsNumbered}
use Rattle.wa_model.specs.Blocking.{Note}
use Rattle.wa_model.specs.Expected.{pause_note, shown as shown_by, shown_at as shown_at_by, trap_note}
use Rattle.run_theory.specs.Shown.{shown_within as shown, shown_within_at as shown_at}
use Rattle.wa_model.specs.declared.answers.Area.{Area}
use Rattle.guard_form.specs.AssertedRuns.{ExpectedWithAsserts, is_stuck, numbered_front, Reach, stands_numbered}
use Rattle.guard_form.proofs.Expecting.{stands_law}
use Rattle.headline.specs.Halts.{room_by, StackKnown, used_by}

or_none : (a b : Bool) → (a || b) ≡ false → (a ≡ false) × (b ≡ false)
or_none false b e = (refl, e)
or_none true b e = cc

module _ (m : Module) (s : Settings) (which : List Bool) where
  abbrev fails : Suspended → Bool
  fails a = not (stands_numbered m s which a)

  -- where no test fails each activation stands at a numbered call
  pub none_fails : (stack : List Suspended) → list_any (λ a. not (stands_numbered m s which a)) stack ≡ false → All (StandsNumbered m s which) stack
  none_fails [] e = All-nil (StandsNumbered m s which)
  none_fails (a ∷ rest) e =
      let two = or_none (fails a) (list_any (λ a. not (stands_numbered m s which a)) rest) e in
      All-cons (StandsNumbered m s which) a rest ((stands_law m s which a).0 (passes (stands_numbered m s which a) two.0)) (none_fails rest two.1)
    where
      passes : (b : Bool) → not b ≡ false → b ≡ true
      passes true e = refl
      passes false e = cc

  -- where each does, all are in front
  pub all_front : (stack : List Suspended) → All (StandsNumbered m s which) stack → numbered_front m s which stack ≡ stack
  all_front [] h = refl
  all_front (a ∷ rest) h =
      let here = (stands_law m s which a).1 (All-head (StandsNumbered m s which) a rest h) in
      ap (λ b. if b then a ∷ numbered_front m s which rest else []) here ∙ ap (λ z. a ∷ z) (all_front rest (All-tail (StandsNumbered m s which) a rest h))

  module _ (len : ℕ) where
    pub room_known : (stack : List Suspended) (b : Bool) → StackKnown b m s which stack → room_by b m s which len stack ≤ len
        → All (StandsNumbered m s which) stack × (room_by b m s which len stack ≡ Room m s.policy stack)
    room_known stack false known le = (known, refl)
    room_known stack true known le = by (is_stuck m s which len stack) refl le
      where
        by : (t : Bool) → is_stuck m s which len stack ≡ t → (if t then suc len else Room m s.policy stack) ≤ len
            → All (StandsNumbered m s which) stack × ((if is_stuck m s which len stack then suc len else Room m s.policy stack) ≡ Room m s.policy stack)
        by true e le = absurd (omega arith)
        by false e le =
            let two = or_none (list_any (λ a. not (stands_numbered m s which a)) stack) (nat_lt len (Room m s.policy stack)) e in
            (none_fails stack two.0, ap (λ t. if t then suc len else Room m s.policy stack) e)

    -- THE SHOWN MACHINE of these is the expectation with asserts
    abbrev room : List Suspended → ℕ
    room stack = room_by true m s which len stack

    abbrev used : List Suspended → ℕ
    used stack = used_by true m s which len stack

    at_one : (x : Note) (o : Option ℕ) (rest : List Note) → shown_at (λ st. room_by true m s which len st) (λ st. used_by true m s which len st) len x o rest
        ≡ shown_at_by (is_stuck m s which len) (Room m s.policy) (Reach m s which len) len x o rest
    at_one x None rest = refl
    at_one x (Some ticks) rest = by (is_stuck m s which len x.stack) refl
      where
        by : (t : Bool) → is_stuck m s which len x.stack ≡ t
            → x ∷ (if nat_lt len (if t then suc len else Room m s.policy x.stack) then trap_note (Reach m s which len x.stack) len x.store ∷ []
            else pause_note ticks (if t then suc len else Room m s.policy x.stack) x.store x.stack ∷ rest)
            ≡ x ∷ (if t then trap_note (Reach m s which len x.stack) len x.store ∷ [] else pause_note ticks (Room m s.policy x.stack) x.store x.stack ∷ rest)
        by true e = ap (λ b. x ∷ (if b then trap_note (Reach m s which len x.stack) len x.store ∷ [] else pause_note ticks (suc len) x.store x.stack ∷ rest)) (lt-ltb len (suc len) (omega arith))
        by false e =
            let two = or_none (list_any (λ a. not (stands_numbered m s which a)) x.stack) (nat_lt len (Room m s.policy x.stack)) e in
            ap (λ b. x ∷ (if b then trap_note (Reach m s which len x.stack) len x.store ∷ [] else pause_note ticks (Room m s.policy x.stack) x.store x.stack ∷ rest)) two.1

    pub shown_is : (notes : List Note) → shown (λ st. room_by true m s which len st) (λ st. used_by true m s which len st) len notes
        ≡ shown_by (is_stuck m s which len) (Room m s.policy) (Reach m s which len) len notes
    shown_is [] = refl
    shown_is (x ∷ xs) =
        ap (shown_at (λ st. room_by true m s which len st) (λ st. used_by true m s which len st) len x x.pause) (shown_is xs)
        ∙ at_one x x.pause (shown_by (is_stuck m s which len) (Room m s.policy) (Reach m s which len) len xs)
