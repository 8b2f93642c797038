-- Devices with their counts, at a line.
use Rattle.std.proofs.Common.{arith, ◌≡◌, ◌⊎◌, ◌+◌, inl, ℕ, suc, List, [], ◌∷◌, ◌++◌, length, map, Option, Some, None, Bool, true, false, if◌then◌else◌, nat_eq, slice_get, refl, sym, ap, ◌∙◌, subst, append-nil}
use Rattle.std.proofs.lemmas.Bool.Decides.{nat_tests}
use Rattle.std.proofs.lemmas.Option.{same_Some, slice_get_within}
use Rattle.wa_model.specs.declared.answers.Detach.{Detach}
use Rattle.wa_model.specs.declared.events.Line.{Line as LineValue}
use Rattle.wa_model.specs.Outside.{AnswerLine, Event, Line, shown}
use Rattle.wa_model.specs.Plan.{Outcome}
use Rattle.wa_model.specs.Blocking.{Note}
use Rattle.world_model.specs.World.{Device, Program, line_at}
use Rattle.device_port.specs.declared.devices.Devices.{Devices}
use Rattle.device_port.specs.Listed.{of_all}
use Rattle.event_order.specs.Left.{Counted, left_before}
use Rattle.event_order.specs.declared.turns.Turn.{Turn}
use Rattle.host_laws.specs.Supplies.{RisesAtMostOne}
use Rattle.world_laws.proofs.Places.{item}
use Rattle.many_host.specs.declared.turn_taking.Stage.{Stage}
use Rattle.many_host.specs.declared.turn_taking.Stage.TheVariants.{Between, Showing}
use Rattle.many_host.specs.Calls.{AreLeft, BegunNext, TakesCall, devices_of, faults_of, left_at}
use Rattle.many_host.specs.Standing.{Held, TellsLineFrom}
use Rattle.many_host.specs.Turns.{MeetMore, Teller}

abbrev the_none : List Outcome
the_none = []

maps : {A B C : Type 0} (p : B → C) (q : A → B) (xs : List A) → map p (map q xs) ≡ map (λ (x : A). p (q x)) xs
maps p q [] = refl
maps {A} {B} {C} p q (x ∷ xs) = ap (λ (l : List C). p (q x) ∷ l) (maps p q xs)

pub counted_devices : {X : Type 0} {F : X → Type 0} (f : (x : X) × F x → Device) (g : (x : X) × F x → ℕ) (d : Devices X F)
    → devices_of (of_all (λ z. record { device = f z; faults = g z }) d) ≡ of_all f d
counted_devices f g d = maps _ _ d.list.now.items

pub counted_faults : {X : Type 0} {F : X → Type 0} (f : (x : X) × F x → Device) (g : (x : X) × F x → ℕ) (d : Devices X F)
    → faults_of (of_all (λ z. record { device = f z; faults = g z }) d) ≡ of_all g d
counted_faults f g d = maps _ _ d.list.now.items

pick : {A : Type 0} (b : Bool) (x y : A) → b ≡ true → (if b then x else y) ≡ x
pick true x y e = refl
pick false x y e = cc

skip : {A : Type 0} (b : Bool) (x y : A) → b ≡ false → (if b then x else y) ≡ y
skip true x y e = cc
skip false x y e = refl

-- where no event began
pub left_kept : (b b' : ℕ) (detaches : List Detach) (cs : List Counted) → b' ≡ b → cs ≡ left_at b b' detaches cs
left_kept b b' detaches cs e = let same : nat_eq b b' ≡ true = grind (arith, nat_tests) in sym (pick (nat_eq b b') cs (left_before b' detaches cs) same)

-- where one began
pub left_began : (b n b' : ℕ) (own detaches : List Detach) (cs es : List Counted) → n ≡ b + 1 → b' ≡ n → own ≡ detaches → es ≡ left_before n own cs → es ≡ left_at b b' detaches cs
left_began b n b' own detaches cs es next e is out =
    let apart : nat_eq b b' ≡ false = grind (arith, nat_tests) in
    out ∙ (λ k. left_before (sym e k) (is k) cs) ∙ sym (skip (nat_eq b b') cs (left_before b' detaches cs) apart)

-- what is shown takes nothing
pub shown_takes : {X : Type 0} (programs : List Program) (xs : List X) (x : X) (due i at : ℕ) (bytes : Option (List ℕ)) (cs : List Counted) → length xs ≡ length programs → slice_get xs i ≡ Some x
    → TakesCall programs (line_at due i (shown at bytes)) [] cs cs
shown_takes programs xs x due i at bytes cs wide there =
    let w = item programs i (omega (arith, slice_get_within xs i x there, wide)) in
    record { w = w.0; program = w.1; answers = []; left = []; takes = (refl, refl) }

-- by what is known of the event
pub taken_by : (programs : List Program) (due i : ℕ) (v v' : Event) (met : List Outcome) (old new : List Counted) → v' ≡ v → TakesCall programs (line_at due i v) met old new
    → TakesCall programs (line_at due i v') met old new
taken_by programs due i v v' met old new is t = subst (λ (e : Event). TakesCall programs (line_at due i e) met old new) (sym is) t

-- by what is known of the devices
taken_of : (programs : List Program) (line : Line) (met : List Outcome) (old old' new : List Counted) → old ≡ old' → TakesCall programs line met old new → TakesCall programs line met old' new
taken_of programs line met old old' new is t = subst (λ (l : List Counted). TakesCall programs line met l new) is t

pub line_from : {X : Type 0} {begun : ℕ} {follows : X → Program → List Note → List Outcome → List AnswerLine → Type 0} {over : X → Bool} {memory : X → List ℕ} {programs : List Program}
    {detaches : List Detach} {ds : List Device} {lines : List Line} {tellers : List Teller} {old old' new : List Counted} {line : Line} {h : Held X} {ds' : List Device} {stage : Stage}
    → old ≡ old' → TellsLineFrom begun follows over memory programs detaches ds lines tellers old new line h ds' stage
    → TellsLineFrom begun follows over memory programs detaches ds lines tellers old' new line h ds' stage
line_from is t = record { stands = t.stands; met = t.met; meets = t.meets; takes = taken_of _ _ _ _ _ _ is t.takes }

-- where the next event began
pub left_when_begun : (b n : ℕ) (own detaches : List Detach) (cs es : List Counted) → n ≡ b + 1 → own ≡ detaches → es ≡ left_before n own cs → es ≡ left_before (suc b) detaches cs
left_when_begun b n own detaches cs es next is out =
    let number : n ≡ suc b = omega (arith, next) in
    out ∙ (λ k. left_before (number k) (is k) cs)

-- where no line came
pub are_left : {X : Type 0} {F : X → Type 0} (f : (x : X) × F x → Device) (g : (x : X) × F x → ℕ) (b : ℕ) (detaches : List Detach) (cs : List Counted) (mid new : Devices X F)
    → (of_all (λ z. record { device = f z; faults = g z }) mid ≡ cs) ⊎ (of_all (λ z. record { device = f z; faults = g z }) mid ≡ left_before (suc b) detaches cs)
    → of_all f new ≡ of_all f mid → RisesAtMostOne (of_all g mid) (of_all g new) → AreLeft b detaches cs (of_all (λ z. record { device = f z; faults = g z }) new)
are_left f g b detaches cs mid new there same once = record {
  there = of_all (λ z. record { device = f z; faults = g z }) mid;
  there_is = there;
  devices = counted_devices f g new ∙ same ∙ sym (counted_devices f g mid);
  counts = subst (λ (ns : List ℕ). RisesAtMostOne ns (faults_of (of_all (λ z. record { device = f z; faults = g z }) new))) (sym (counted_faults f g mid))
      (subst (λ (ns : List ℕ). RisesAtMostOne (of_all g mid) ns) (sym (counted_faults f g new)) once);
}

-- ---- what calls have met

none_if : (b : Bool) → (if b then [] else []) ≡ the_none
none_if true = refl
none_if false = refl

-- no call was told
pub meets_none : (program : ℕ) (tellers : List Teller) → MeetMore program [] tellers tellers
meets_none program tellers i t t' et et' =
    ap (λ (x : Teller). x.met) (same_Some t' t (sym et' ∙ et)) ∙ sym (append-nil t.met) ∙ ap (λ (l : List Outcome). t.met ++ l) (sym (none_if (nat_eq i program)))

-- a turn that begins behind what was shown of memory
pub begun_behind : (turn : Turn) (from b b' : ℕ) (r : Option LineValue) → BegunNext Between b b' r → BegunNext (Showing turn from) b b' r
begun_behind turn from b b' None h = tt
begun_behind turn from b b' (Some l) h = inl h
