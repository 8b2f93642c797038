-- The devices that are left, each with its log behind its journal.
use Rattle.std.proofs.Common.{arith, ◌≡◌, ◌≤◌, ◌<◌, ◌+◌, ◌^◌, ◌⊎◌, inl, inr, ℕ, suc, List, [], ◌∷◌, ◌++◌, Option, Some, None, Bool, true, false, ◌&&◌, if◌then◌else◌, nat_eq, nat_lt, nat_le, refl, sym, ap, ◌∙◌, subst, append-nil, append_assoc}
use Rattle.std.specs.Prelude.{MatchBool, slice_get}
use Rattle.std.specs.List.{list_any}
use Rattle.std.proofs.lemmas.Bool.{eq-eqb, eqb-true, eqb-false, le-leb, le-ltb, lt-ltb, ltb-false, ltb-true, leb-false, leb-true, ne_eqb}
use Rattle.wa_types.specs.Validity.{same_name}
use Rattle.wa_model.specs.declared.answers.Detach.{Detach}
use Rattle.wa_model.specs.declared.answers.Said.TheVariants as S
use Rattle.wa_model.specs.declared.events.End.TheVariants.{DeviceFault, NoDevice}
use Rattle.wa_model.specs.Outside.{AnswerLine, Call, Event, called, answered, paused, parked, returned, ended, shown, Line}
use Rattle.wa_model.specs.Plan.{Outcome, ValueFits, given, refused}
use Rattle.world_model.specs.World.{Asked, Device, MeetsBound, Program, Reply, base_names, call_in, detached, detached_if, ends_turn, is_named, journaled, name_at, taken_out}
use Rattle.event_order.specs.Left.{Counted, left_before, without, without_if}
use Rattle.host_laws.specs.Supplies.{Takes, bound_to}
use Rattle.many_host.specs.Calls.{IsShown, TakesCall, devices_of, faults_of, left_at}
use Rattle.many_host.specs.Telling.{supply}
use Rattle.world_hosting.specs.Counts.{IsBegunBy, TookBy, closes}
use Rattle.world_hosting.specs.DeviceLogs.{DevicesAreLogged, Logged, answered_as, device_log, how_many, logged_as, logged_to, taken_by, with_logs}
use Rattle.world_hosting.specs.Worlds.{turn_count, world_programs}

-- ---- names and numbers

name_is : (a b : List ℕ) → same_name a b ≡ true → a ≡ b
name_is [] [] e = refl
name_is [] (y ∷ ys) e = cc
name_is (x ∷ xs) [] e = cc
name_is (x ∷ xs) (y ∷ ys) e = by (nat_eq x y) refl e (λ g. name_is xs ys g) where
  by : (b : Bool) → nat_eq x y ≡ b → (b && same_name xs ys) ≡ true → (same_name xs ys ≡ true → xs ≡ ys) → x ∷ xs ≡ y ∷ ys
  by true f g on = λ k. eqb-true x y f k ∷ on g k
  by false f g on = cc

many_on : (name : List ℕ) (before : List Device) (d : Device) → how_many name (before ++ d ∷ []) ≡ how_many name before + (if is_named name d then 1 else 0)
many_on name [] d = let e : (if is_named name d then 1 else 0) + 0 ≡ 0 + (if is_named name d then 1 else 0) = omega arith in e
many_on name (x ∷ before) d =
    let e = many_on name before d in
    omega (arith, e)

-- one more of a name
abbrev OneMore : List ℕ → (out out' : List ℕ → ℕ) → Type 0
OneMore name out out' = (m : List ℕ) → out' m ≡ out m + (if same_name m name then 1 else 0)

more_of : (name : List ℕ) (out out' : List ℕ → ℕ) (m : List ℕ) (b : Bool) → OneMore name out out' → same_name m name ≡ b → out' m ≡ out m + (if b then 1 else 0)
more_of name out out' m b more e = more m ∙ ap (λ (c : Bool). out m + (if c then 1 else 0)) e

-- ---- a device is taken out

module _ (name : List ℕ) (out out' : List ℕ → ℕ) (log : List ℕ → ℕ → List Asked) (more : OneMore name out out') where
  abbrev Item : Device → ℕ → Device
  Item d place = record { name = d.name; journal = d.journal ++ log d.name place }

  one_of : (d : Device) (place : ℕ) (b b' : Bool) (rest rest' : List Device) → b ≡ b' → rest ≡ rest' → (if b then [] else Item d place ∷ []) ++ rest ≡ (if b' then [] else Item d place ∷ []) ++ rest'
  one_of d place b b' rest rest' e f = λ k. (if e k then [] else Item d place ∷ []) ++ f k

  -- those behind the first that is left
  behind : (before ds : List Device) → out name < how_many name before → with_logs out log before ds ≡ with_logs out' log before ds
  behind before [] past = refl
  behind before (d ∷ ds) past =
      one_of d (how_many d.name before) _ _ _ _ (by (same_name d.name name) refl) (behind (before ++ d ∷ []) ds (let e = many_on name before d in omega (arith, e, past)))
    where
      by : (b : Bool) → same_name d.name name ≡ b → nat_lt (how_many d.name before) (out d.name) ≡ nat_lt (how_many d.name before) (out' d.name)
      by true e =
          let is = name_is d.name name e in
          let one : out' d.name ≡ out d.name + 1 = more_of name out out' d.name true more e in
          let many : how_many d.name before ≡ how_many name before = ap (λ (m : List ℕ). how_many m before) is in
          let outs : out d.name ≡ out name = ap out is in
          le-ltb (how_many d.name before) (out d.name) (omega (arith, many, outs, past)) ∙ sym (le-ltb (how_many d.name before) (out' d.name) (omega (arith, many, outs, one, past)))
      by false e =
          let none : out' d.name ≡ out d.name + 0 = more_of name out out' d.name false more e in
          ap (nat_lt (how_many d.name before)) (let same : out d.name ≡ out' d.name = omega (arith, none) in same)

  abbrev Out : (before : List Device) (d : Device) (ds : List Device) → Bool → Type 0
  Out before d ds t =
      taken_out name ((if t then [] else Item d (how_many d.name before) ∷ []) ++ with_logs out log (before ++ d ∷ []) ds)
      ≡ (if nat_lt (how_many d.name before) (out' d.name) then [] else Item d (how_many d.name before) ∷ []) ++ with_logs out' log (before ++ d ∷ []) ds

  module _ (before : List Device) (d : Device) (ds : List Device) where
    first : (b : Bool) (rest : List Device) → same_name d.name name ≡ b
        → taken_out name (Item d (how_many d.name before) ∷ rest) ≡ (if b then rest else Item d (how_many d.name before) ∷ taken_out name rest)
    first b rest e = ap (λ (c : Bool). if c then rest else Item d (how_many d.name before) ∷ taken_out name rest) e

    put_by : (t : Bool) → nat_lt (how_many d.name before) (out' d.name) ≡ t → (if t then [] else Item d (how_many d.name before) ∷ []) ++ with_logs out' log (before ++ d ∷ []) ds
        ≡ (if nat_lt (how_many d.name before) (out' d.name) then [] else Item d (how_many d.name before) ∷ []) ++ with_logs out' log (before ++ d ∷ []) ds
    put_by t e = ap (λ (c : Bool). (if c then [] else Item d (how_many d.name before) ∷ []) ++ with_logs out' log (before ++ d ∷ []) ds) (sym e)

    many_more : (b : Bool) → same_name d.name name ≡ b → how_many name (before ++ d ∷ []) ≡ how_many name before + (if b then 1 else 0)
    many_more b e = many_on name before d ∙ ap (λ (c : Bool). how_many name before + (if c then 1 else 0)) e

    other : (t : Bool) → same_name d.name name ≡ false → nat_lt (how_many d.name before) (out' d.name) ≡ t
        → taken_out name (with_logs out log (before ++ d ∷ []) ds) ≡ with_logs out' log (before ++ d ∷ []) ds → Out before d ds t
    other true e g on = on ∙ put_by true g
    other false e g on =
        first false (with_logs out log (before ++ d ∷ []) ds) e ∙ ap (λ (l : List Device). Item d (how_many d.name before) ∷ l) on ∙ put_by false g

    out_by : how_many name before ≤ out name
        → (how_many name (before ++ d ∷ []) ≤ out name → taken_out name (with_logs out log (before ++ d ∷ []) ds) ≡ with_logs out' log (before ++ d ∷ []) ds)
        → (b : Bool) → same_name d.name name ≡ b → (t : Bool) → nat_lt (how_many d.name before) (out d.name) ≡ t → Out before d ds t
    out_by most on true e true f =
        let step : how_many name (before ++ d ∷ []) ≡ how_many name before + 1 = many_more true e in
        let is = name_is d.name name e in
        let one : out' d.name ≡ out d.name + 1 = more_of name out out' d.name true more e in
        let many : how_many d.name before ≡ how_many name before = ap (λ (m : List ℕ). how_many m before) is in
        let outs : out d.name ≡ out name = ap out is in
        let less = ltb-true (how_many d.name before) (out d.name) f in
        on (omega (arith, step, many, outs, less)) ∙ put_by true (lt-ltb (how_many d.name before) (out' d.name) (omega (arith, one, less)))
    out_by most on true e false f =
        let step : how_many name (before ++ d ∷ []) ≡ how_many name before + 1 = many_more true e in
        let is = name_is d.name name e in
        let one : out' d.name ≡ out d.name + 1 = more_of name out out' d.name true more e in
        let many : how_many d.name before ≡ how_many name before = ap (λ (m : List ℕ). how_many m before) is in
        let outs : out d.name ≡ out name = ap out is in
        let least = ltb-false (how_many d.name before) (out d.name) f in
        first true (with_logs out log (before ++ d ∷ []) ds) e ∙ behind (before ++ d ∷ []) ds (omega (arith, step, many, outs, least))
        ∙ put_by true (lt-ltb (how_many d.name before) (out' d.name) (omega (arith, one, many, outs, most)))
    out_by most on false e t f =
        let step : how_many name (before ++ d ∷ []) ≡ how_many name before + 0 = many_more false e in
        let none : out' d.name ≡ out d.name + 0 = more_of name out out' d.name false more e in
        let same : out' d.name ≡ out d.name = omega (arith, none) in
        other t e (ap (nat_lt (how_many d.name before)) same ∙ f) (on (omega (arith, step, most)))

  pub one_out : (before ds : List Device) → how_many name before ≤ out name → taken_out name (with_logs out log before ds) ≡ with_logs out' log before ds
  one_out before [] most = refl
  one_out before (d ∷ ds) most =
      out_by before d ds most (λ le. one_out (before ++ d ∷ []) ds le) (same_name d.name name) refl (nat_lt (how_many d.name before) (out d.name)) refl

-- ---- a device answers

module _ (name : List ℕ) (call : Asked) (out : List ℕ → ℕ) (log log' : List ℕ → ℕ → List Asked)
    (more : (m : List ℕ) (place : ℕ) → log' m place ≡ log m place ++ (if same_name m name && nat_eq (out m) place then call ∷ [] else [])) where
  abbrev Of : (List ℕ → ℕ → List Asked) → Device → ℕ → Device
  Of l d place = record { name = d.name; journal = d.journal ++ l d.name place }

  -- where the device isn't the one that answers
  same_log : (d : Device) (place : ℕ) → (same_name d.name name && nat_eq (out d.name) place) ≡ false → Of log' d place ≡ Of log d place
  same_log d place e =
      let same : log' d.name place ≡ log d.name place =
      more d.name place ∙ ap (λ (c : Bool). log d.name place ++ (if c then call ∷ [] else [])) e ∙ append-nil (log d.name place) in
      ap (λ (l : List Asked). record { name = d.name; journal = d.journal ++ l }) same

  and_false : (a b : Bool) → b ≡ false → (a && b) ≡ false
  and_false true b e = e
  and_false false b e = refl

  unnamed : (a b : Bool) → a ≡ false → (a && b) ≡ false
  unnamed true b e = cc
  unnamed false b e = refl

  put_same : (t : Bool) (x y : Device) (rest rest' : List Device) → x ≡ y → rest ≡ rest' → (if t then [] else x ∷ []) ++ rest ≡ (if t then [] else y ∷ []) ++ rest'
  put_same t x y rest rest' e f = λ k. (if t then [] else e k ∷ []) ++ f k

  past_logs : (before ds : List Device) → out name < how_many name before → with_logs out log before ds ≡ with_logs out log' before ds
  past_logs before [] past = refl
  past_logs before (d ∷ ds) past =
      put_same (nat_lt (how_many d.name before) (out d.name)) _ _ _ _ (sym (same_log d (how_many d.name before) (by (same_name d.name name) refl)))
      (past_logs (before ++ d ∷ []) ds (let e = many_on name before d in omega (arith, e, past)))
    where
      by : (b : Bool) → same_name d.name name ≡ b → (same_name d.name name && nat_eq (out d.name) (how_many d.name before)) ≡ false
      by false e = unnamed (same_name d.name name) (nat_eq (out d.name) (how_many d.name before)) e
      by true e =
          let is = name_is d.name name e in
          let many : how_many d.name before ≡ how_many name before = ap (λ (m : List ℕ). how_many m before) is in
          let outs : out d.name ≡ out name = ap out is in
          and_false (same_name d.name name) (nat_eq (out d.name) (how_many d.name before)) (ne_eqb (out d.name) (how_many d.name before) (λ f. omega (arith, f, many, outs, past)))

  abbrev Answers : (before : List Device) (d : Device) (ds : List Device) → Bool → Type 0
  Answers before d ds t =
      journaled name call ((if t then [] else Of log d (how_many d.name before) ∷ []) ++ with_logs out log (before ++ d ∷ []) ds)
      ≡ (if t then [] else Of log' d (how_many d.name before) ∷ []) ++ with_logs out log' (before ++ d ∷ []) ds

  module _ (before : List Device) (d : Device) (ds : List Device) where
    abbrev Put : Bool → List Device
    Put b =
        if b then record { name = d.name; journal = (d.journal ++ log d.name (how_many d.name before)) ++ call ∷ [] } ∷ with_logs out log (before ++ d ∷ []) ds
        else Of log d (how_many d.name before) ∷ journaled name call (with_logs out log (before ++ d ∷ []) ds)

    more_named : (b : Bool) → same_name d.name name ≡ b → how_many name (before ++ d ∷ []) ≡ how_many name before + (if b then 1 else 0)
    more_named b e = many_on name before d ∙ ap (λ (c : Bool). how_many name before + (if c then 1 else 0)) e

    unasked : (t : Bool) → same_name d.name name ≡ false → journaled name call (with_logs out log (before ++ d ∷ []) ds) ≡ with_logs out log' (before ++ d ∷ []) ds → Answers before d ds t
    unasked true e on = on
    unasked false e on =
        ap Put e ∙ (λ k. sym (same_log d (how_many d.name before) (unnamed (same_name d.name name) (nat_eq (out d.name) (how_many d.name before)) e)) k ∷ on k)

    answers_by : how_many name before ≤ out name
        → (how_many name (before ++ d ∷ []) ≤ out name → journaled name call (with_logs out log (before ++ d ∷ []) ds) ≡ with_logs out log' (before ++ d ∷ []) ds)
        → (b : Bool) → same_name d.name name ≡ b → (t : Bool) → nat_lt (how_many d.name before) (out d.name) ≡ t → Answers before d ds t
    answers_by most on true e true f =
        let step : how_many name (before ++ d ∷ []) ≡ how_many name before + 1 = more_named true e in
        let is = name_is d.name name e in
        let many : how_many d.name before ≡ how_many name before = ap (λ (m : List ℕ). how_many m before) is in
        let outs : out d.name ≡ out name = ap out is in
        let less = ltb-true (how_many d.name before) (out d.name) f in
        on (omega (arith, step, many, outs, less))
    answers_by most on true e false f =
        let step : how_many name (before ++ d ∷ []) ≡ how_many name before + 1 = more_named true e in
        let is = name_is d.name name e in
        let many : how_many d.name before ≡ how_many name before = ap (λ (m : List ℕ). how_many m before) is in
        let outs : out d.name ≡ out name = ap out is in
        let least = ltb-false (how_many d.name before) (out d.name) f in
        let here : (same_name d.name name && nat_eq (out d.name) (how_many d.name before)) ≡ true =
        ap (λ (c : Bool). c && nat_eq (out d.name) (how_many d.name before)) e ∙ eq-eqb (out d.name) (how_many d.name before) (omega (arith, many, outs, least, most)) in
        let its : log' d.name (how_many d.name before) ≡ log d.name (how_many d.name before) ++ call ∷ [] =
        more d.name (how_many d.name before) ∙ ap (λ (c : Bool). log d.name (how_many d.name before) ++ (if c then call ∷ [] else [])) here in
        let journal : (d.journal ++ log d.name (how_many d.name before)) ++ call ∷ [] ≡ d.journal ++ log' d.name (how_many d.name before) =
        append_assoc d.journal (log d.name (how_many d.name before)) (call ∷ []) ∙ ap (λ (l : List Asked). d.journal ++ l) (sym its) in
        let rest = past_logs (before ++ d ∷ []) ds (omega (arith, step, many, outs, least)) in
        ap Put e ∙ (λ k. record { name = d.name; journal = journal k } ∷ rest k)
    answers_by most on false e t f =
        let step : how_many name (before ++ d ∷ []) ≡ how_many name before + 0 = more_named false e in
        unasked t e (on (omega (arith, step, most)))

  pub one_answers : (before ds : List Device) → how_many name before ≤ out name → journaled name call (with_logs out log before ds) ≡ with_logs out log' before ds
  one_answers before [] most = refl
  one_answers before (d ∷ ds) most =
      answers_by before d ds most (λ le. one_answers (before ++ d ∷ []) ds le) (same_name d.name name) refl (nat_lt (how_many d.name before) (out d.name)) refl

-- ---- the detaches of an event

-- how many of them take out a device of the name
abbrev extra : (number : ℕ) → List Detach → (name : List ℕ) → ℕ
extra number [] m = 0
extra number (x ∷ xs) m = (if same_name m x.device && nat_eq x.before number then 1 else 0) + extra number xs m

sum_of : (s t : Bool) (a z : ℕ) → t ≡ true → (a + (if s then 1 else 0)) + z ≡ a + ((if s && t then 1 else 0) + z)
sum_of true true a z e = omega arith
sum_of false true a z e = omega arith
sum_of s false a z e = cc

sum_none : (s t : Bool) (a z : ℕ) → t ≡ false → a + z ≡ a + ((if s && t then 1 else 0) + z)
sum_none true false a z e = omega arith
sum_none false false a z e = omega arith
sum_none s true a z e = cc

all_out : (log : List ℕ → ℕ → List Asked) (old : List Device) (number : ℕ) (xs : List Detach) (out : List ℕ → ℕ)
    → detached number xs (with_logs out log [] old) ≡ with_logs (λ m. out m + extra number xs m) log [] old
all_out log old number [] out = (λ k. with_logs (λ m. none m k) log [] old) where
  none : (m : List ℕ) → out m ≡ out m + 0
  none m = omega arith
all_out log old number (x ∷ xs) out = by (nat_eq x.before number) refl (λ o. all_out log old number xs o) where
  by : (b : Bool) → nat_eq x.before number ≡ b
      → ((o : List ℕ → ℕ) → detached number xs (with_logs o log [] old) ≡ with_logs (λ m. o m + extra number xs m) log [] old)
      → detached number xs (detached_if (nat_eq x.before number) x.device (with_logs out log [] old))
      ≡ with_logs (λ m. out m + ((if same_name m x.device && nat_eq x.before number then 1 else 0) + extra number xs m)) log [] old
  by true e on =
      ap (λ (c : Bool). detached number xs (detached_if c x.device (with_logs out log [] old))) e
      ∙ ap (detached number xs) (one_out x.device out (λ m. out m + (if same_name m x.device then 1 else 0)) log (λ m. refl) [] old (omega arith))
      ∙ on (λ m. out m + (if same_name m x.device then 1 else 0))
      ∙ (λ k. with_logs (λ m. sum_of (same_name m x.device) (nat_eq x.before number) (out m) (extra number xs m) e k) log [] old)
  by false e on =
      ap (λ (c : Bool). detached number xs (detached_if c x.device (with_logs out log [] old))) e
      ∙ on out
      ∙ (λ k. with_logs (λ m. sum_none (same_name m x.device) (nat_eq x.before number) (out m) (extra number xs m) e k) log [] old)

-- by one event more
one_taken : (b n : ℕ) → (if nat_le 1 b && nat_le b (suc n) then 1 else 0) ≡ (if nat_le 1 b && nat_le b n then 1 else 0) + (if nat_eq b (suc n) then 1 else 0)
one_taken b n = by (nat_le b n) refl (nat_eq b (suc n)) refl where
  tests : (u q p r : Bool) → nat_le 1 b ≡ u → nat_le b (suc n) ≡ q → nat_le b n ≡ p → nat_eq b (suc n) ≡ r
      → (if u && q then 1 else 0) ≡ (if u && p then 1 else 0) + (if r then 1 else 0)
      → (if nat_le 1 b && nat_le b (suc n) then 1 else 0) ≡ (if nat_le 1 b && nat_le b n then 1 else 0) + (if nat_eq b (suc n) then 1 else 0)
  tests u q p r eu eq ep er h = (λ k. if eu k && eq k then 1 else 0) ∙ h ∙ sym (λ k. (if eu k && ep k then 1 else 0) + (if er k then 1 else 0))

  both : (u c : Bool) → (if u && c then 1 else 0) ≡ (if u && c then 1 else 0) + 0
  both u c = omega arith

  by : (p : Bool) → nat_le b n ≡ p → (r : Bool) → nat_eq b (suc n) ≡ r
      → (if nat_le 1 b && nat_le b (suc n) then 1 else 0) ≡ (if nat_le 1 b && nat_le b n then 1 else 0) + (if nat_eq b (suc n) then 1 else 0)
  by true e true f = absurd (omega (arith, leb-true b n e, eqb-true b (suc n) f))
  by true e false f =
      let less = leb-true b n e in
      tests (nat_le 1 b) true true false refl (le-leb b (suc n) (omega (arith, less))) e f (both (nat_le 1 b) true)
  by false e true f =
      let is = eqb-true b (suc n) f in
      tests true true false true (le-leb 1 b (omega (arith, is))) (le-leb b (suc n) (omega (arith, is))) e f refl
  by false e false f = other (nat_le b (suc n)) refl
    where
      other : (q : Bool) → nat_le b (suc n) ≡ q
          → (if nat_le 1 b && nat_le b (suc n) then 1 else 0) ≡ (if nat_le 1 b && nat_le b n then 1 else 0) + (if nat_eq b (suc n) then 1 else 0)
      other true g = absurd (eqb-false b (suc n) f (omega (arith, leb-true b (suc n) g, leb-false b n e)))
      other false g = tests (nat_le 1 b) false false false refl g e f (both (nat_le 1 b) false)

taken_next : (n : ℕ) (xs : List Detach) (m : List ℕ) → taken_by (suc n) xs m ≡ taken_by n xs m + extra (suc n) xs m
taken_next n [] m = refl
taken_next n (x ∷ xs) m = by (same_name m x.device) (taken_next n xs m) where
  by : (s : Bool) → taken_by (suc n) xs m ≡ taken_by n xs m + extra (suc n) xs m
      → (if s && nat_le 1 x.before && nat_le x.before (suc n) then 1 else 0) + taken_by (suc n) xs m
      ≡ ((if s && nat_le 1 x.before && nat_le x.before n then 1 else 0) + taken_by n xs m) + ((if s && nat_eq x.before (suc n) then 1 else 0) + extra (suc n) xs m)
  by false on = omega (arith, on)
  by true on = let one = one_taken x.before n in omega (arith, one, on)

devices_without : (name : List ℕ) (ms : List Counted) → devices_of (without name ms) ≡ taken_out name (devices_of ms)
devices_without name [] = refl
devices_without name (m ∷ ms) = by (is_named name m.device) (devices_without name ms) where
  by : (b : Bool) → devices_of (without name ms) ≡ taken_out name (devices_of ms) → devices_of (if b then ms else m ∷ without name ms) ≡ (if b then devices_of ms else m.device ∷ taken_out name (devices_of ms))
  by true on = refl
  by false on = ap (λ (l : List Device). m.device ∷ l) on

devices_left : (number : ℕ) (xs : List Detach) (ms : List Counted) → devices_of (left_before number xs ms) ≡ detached number xs (devices_of ms)
devices_left number [] ms = refl
devices_left number (x ∷ xs) ms =
    devices_left number xs (without_if (nat_eq x.before number) x.device ms) ∙ ap (detached number xs) (by (nat_eq x.before number))
  where
    by : (b : Bool) → devices_of (without_if b x.device ms) ≡ detached_if b x.device (devices_of ms)
    by true = devices_without x.device ms
    by false = refl

-- ---- line by line

log_more : (detaches : List Detach) (xs : List Logged) (x : Logged) (m : List ℕ) (place : ℕ)
    → device_log detaches (xs ++ x ∷ []) m place
    ≡ device_log detaches xs m place ++ (if same_name m x.device && nat_eq (taken_by x.event detaches m) place then x.asked ∷ [] else [])
log_more detaches [] x m place = append-nil (if same_name m x.device && nat_eq (taken_by x.event detaches m) place then x.asked ∷ [] else [])
log_more detaches (y ∷ xs) x m place =
    let own : List Asked = if same_name m y.device && nat_eq (taken_by y.event detaches m) place then y.asked ∷ [] else [] in
    ap (λ (l : List Asked). own ++ l) (log_more detaches xs x m place)
    ∙ sym (append_assoc own (device_log detaches xs m place) (if same_name m x.device && nat_eq (taken_by x.event detaches m) place then x.asked ∷ [] else []))

logged_none : (asks : Program → (import : ℕ) → Option (List ℕ)) (p : Option Program) (n : ℕ) (os : List Outcome) → logged_as asks p n None os ≡ []
logged_none asks None n os = refl
logged_none asks (Some w) n os = refl

pub no_call_shown : (e : Event) → IsShown e → call_in e ≡ None
no_call_shown (shown at bytes) h = refl
no_call_shown (called c) h = absurd h
no_call_shown (answered v) h = absurd h
no_call_shown (paused t u) h = absurd h
no_call_shown (parked used) h = absurd h
no_call_shown (returned i v) h = absurd h
no_call_shown (ended how) h = absurd h

pub goes_shown : (e : Event) → IsShown e → ends_turn e ≡ false
goes_shown (shown at bytes) h = refl
goes_shown (called c) h = absurd h
goes_shown (answered v) h = absurd h
goes_shown (paused t u) h = absurd h
goes_shown (parked used) h = absurd h
goes_shown (returned i v) h = absurd h
goes_shown (ended how) h = absurd h

module _ (programs : List Program) (detaches : List Detach) (old : List Device) where
  -- once the event of this number has begun, and these calls were answered
  abbrev pub At : (n : ℕ) → List Logged → List Device
  At n cs = with_logs (taken_by n detaches) (device_log detaches cs) [] old

  next_at : (n : ℕ) (cs : List Logged) → detached (suc n) detaches (At n cs) ≡ At (suc n) cs
  next_at n cs =
      all_out (device_log detaches cs) old (suc n) detaches (taken_by n detaches)
      ∙ (λ k. with_logs (λ m. sym (taken_next n detaches m) k) (device_log detaches cs) [] old)

  one_call : (n : ℕ) (cs : List Logged) (name : List ℕ) (call : Asked) → journaled name call (At n cs) ≡ At n (cs ++ record { event = n; device = name; asked = call } ∷ [])
  one_call n cs name call =
      one_answers name call (taken_by n detaches) (device_log detaches cs) (device_log detaches (cs ++ record { event = n; device = name; asked = call } ∷ []))
      (log_more detaches cs (record { event = n; device = name; asked = call })) [] old (omega arith)

  module _ (w : Program) (c : Call) (n : ℕ) (cs : List Logged) (o : Outcome) (ds ds' : List Device) (lines lines' : List AnswerLine) (e : ds ≡ At n cs) where
    abbrev base : List ℕ
    base = name_at (base_names w.source) c.import

    none_asked : (b : Option (List ℕ)) → logged_to b n (name_at (base_names w.source) c.import) c.args o ≡ [] → ds' ≡ ds → ds' ≡ At n (cs ++ logged_to b n (name_at (base_names w.source) c.import) c.args o)
    none_asked b none same = same ∙ e ∙ ap (At n) (sym (append-nil cs)) ∙ ap (λ (l : List Logged). At n (cs ++ l)) (sym none)

    abbrev Given : List ℕ → Outcome → List Device → Type 0
    Given name o ds' =
        (r : Reply) × ValueFits r.value × (r.ticks < 2 ^ 32) × (o ≡ given (record { said = S.Value r.value; pokes = []; ticks = r.ticks }))
        × (ds' ≡ journaled name (record { base = name_at (base_names w.source) c.import; args = c.args; reply = r }) ds)

    there : (name : List ℕ) (b : Bool) → MatchBool b (Given name o ds' ⊎ ((o ≡ refused (DeviceFault c.import)) × (ds' ≡ ds))) ((o ≡ refused (NoDevice c.import)) × (ds' ≡ ds))
        → ds' ≡ At n (cs ++ logged_to (Some name) n (name_at (base_names w.source) c.import) c.args o)
    there name true (inl r) =
        r.4 ∙ ap (journaled name (record { base = name_at (base_names w.source) c.import; args = c.args; reply = r.0 })) e
        ∙ one_call n cs name (record { base = name_at (base_names w.source) c.import; args = c.args; reply = r.0 })
        ∙ ap (λ (u : Outcome). At n (cs ++ logged_to (Some name) n (name_at (base_names w.source) c.import) c.args u)) (sym r.3)
    there name true (inr f) = none_asked (Some name) (ap (logged_to (Some name) n (name_at (base_names w.source) c.import) c.args) f.0) f.1
    there name false f = none_asked (Some name) (ap (logged_to (Some name) n (name_at (base_names w.source) c.import) c.args) f.0) f.1

    by_bound : (b : Option (List ℕ)) → MeetsBound w.source c.import c.args b lines ds o lines' ds' → ds' ≡ At n (cs ++ logged_to b n (name_at (base_names w.source) c.import) c.args o)
    by_bound None m = none_asked None refl m.1
    by_bound (Some name) m = there name (list_any (is_named name) ds) m.0

  pub taken_line : (l : Line) (os : List Outcome) (left mid : List Counted) (n : ℕ) (cs : List Logged) → TakesCall programs l os left mid → devices_of left ≡ At n cs
      → devices_of mid ≡ At n (cs ++ logged_as bound_to (slice_get programs l.program) n (call_in l.event) os)
  taken_line l os left mid n cs t e =
      subst (λ (p : Option Program). devices_of mid ≡ At n (cs ++ logged_as bound_to p n (call_in l.event) os)) (sym t.program) (by (call_in l.event) t.takes)
    where
      by : (c : Option Call) → Takes t.w c (supply t.answers (devices_of left) (faults_of left)) os (supply t.left (devices_of mid) (faults_of mid))
          → devices_of mid ≡ At n (cs ++ logged_as bound_to (Some t.w) n c os)
      by None h = ap (λ u. u.devices) h.1 ∙ e ∙ ap (At n) (sym (append-nil cs))
      by (Some c) h =
          by_bound t.w c n cs h.0 (devices_of left) (devices_of mid) t.answers t.left e (bound_to t.w c.import) h.2.meets
          ∙ ap (λ (us : List Outcome). At n (cs ++ logged_as bound_to (Some t.w) n (Some c) us)) (sym h.1)

  at_kept : (begun now : ℕ) (ms : List Counted) (cs : List Logged) → now ≡ begun → devices_of ms ≡ At begun cs → devices_of (left_at begun now detaches ms) ≡ At now cs
  at_kept begun now ms cs is e =
      ap (λ (b : Bool). devices_of (if b then ms else left_before now detaches ms)) (eq-eqb begun now (sym is)) ∙ e ∙ ap (λ (n : ℕ). At n cs) (sym is)

  at_next : (begun now : ℕ) (ms : List Counted) (cs : List Logged) → now ≡ suc begun → devices_of ms ≡ At begun cs → devices_of (left_at begun now detaches ms) ≡ At now cs
  at_next begun now ms cs is e =
      ap (λ (b : Bool). devices_of (if b then ms else left_before now detaches ms)) (ne_eqb begun now (λ f. omega (arith, f, is)))
      ∙ ap (λ (n : ℕ). devices_of (left_before n detaches ms)) is
      ∙ devices_left (suc begun) detaches ms
      ∙ ap (detached (suc begun) detaches) e
      ∙ next_at begun cs
      ∙ ap (λ (n : ℕ). At n cs) (sym is)

  abbrev pub Stands : (begun over : ℕ) → Type 0
  Stands begun over = (begun ≡ over) ⊎ (begun ≡ suc over)

  stands_on : (e : Event) (b : Bool) (now over : ℕ) → now ≡ suc over → Stands now (over + (if b then 1 else 0))
  stands_on e true now over is = inl (omega (arith, is))
  stands_on e false now over is = inr (omega (arith, is))

  -- whatever ends events, where a line's call adds to the logs what it takes
  module _ (ends : Event → Bool) (plain : (e : Event) → IsShown e → ends e ≡ false) (asks : Program → (import : ℕ) → Option (List ℕ)) (takes : Line → List Outcome → (old new : List Counted) → Type 0)
      (step : (l : Line) (os : List Outcome) (left mid : List Counted) (n : ℕ) (cs : List Logged) → takes l os left mid → devices_of left ≡ At n cs
      → devices_of mid ≡ At n (cs ++ logged_as asks (slice_get programs l.program) n (call_in l.event) os)) where
    pub logs_on : (lines : List Line) (met : List (List Outcome)) (begun over : ℕ) (ms : List Counted) (cs : List Logged) (last : ℕ) (new : List Counted) → Stands begun over
        → devices_of ms ≡ At begun cs → TookBy ends takes detaches begun over lines met ms last new → devices_of new ≡ At last (cs ++ answered_as ends asks programs over lines met)
    logs_on [] [] begun over ms cs last new s e t =
        ap (λ (c : List Counted). devices_of c) t.1 ∙ e ∙ ap (λ (n : ℕ). At n cs) (sym t.0) ∙ ap (At last) (sym (append-nil cs))
    logs_on [] (os ∷ met) begun over ms cs last new s e t = absurd t
    logs_on (l ∷ lines) [] begun over ms cs last new s e t = absurd t
    logs_on (l ∷ lines) (os ∷ met) begun over ms cs last new s e t =
        by t.2 (λ stands line. logs_on lines met t.0 (over + closes ends l.event) t.1 (cs ++ logged_as asks (slice_get programs l.program) (suc over) (call_in l.event) os) last new stands line t.4)
      where
        here : t.0 ≡ suc over → devices_of (left_at begun t.0 detaches ms) ≡ At t.0 cs
        here is = elim s [
          | inl f ↦ at_next begun t.0 ms cs (omega (arith, is, f)) e
          | inr f ↦ at_kept begun t.0 ms cs (omega (arith, is, f)) e
        ]

        by : IsBegunBy begun over l.event t.0
            → (Stands t.0 (over + closes ends l.event) → devices_of t.1 ≡ At t.0 (cs ++ logged_as asks (slice_get programs l.program) (suc over) (call_in l.event) os)
            → devices_of new ≡ At last ((cs ++ logged_as asks (slice_get programs l.program) (suc over) (call_in l.event) os) ++ answered_as ends asks programs (over + closes ends l.event) lines met))
            → devices_of new ≡ At last (cs ++ (logged_as asks (slice_get programs l.program) (suc over) (call_in l.event) os ++ answered_as ends asks programs (over + closes ends l.event) lines met))
        by (inl is) on =
            on (stands_on l.event (ends l.event) t.0 over is)
            (step l os (left_at begun t.0 detaches ms) t.1 t.0 cs t.3 (here is)
            ∙ ap (λ (n : ℕ). At t.0 (cs ++ logged_as asks (slice_get programs l.program) n (call_in l.event) os)) is)
            ∙ ap (At last) (append_assoc cs (logged_as asks (slice_get programs l.program) (suc over) (call_in l.event) os) (answered_as ends asks programs (over + closes ends l.event) lines met))
        by (inr is) on =
            let none = no_call_shown l.event is.2 in
            let quiet : closes ends l.event ≡ 0 = ap (λ (b : Bool). if b then 1 else 0) (plain l.event is.2) in
            let same : (n : ℕ) → logged_as asks (slice_get programs l.program) n (call_in l.event) os ≡ [] = λ n.
            ap (λ (c : Option Call). logged_as asks (slice_get programs l.program) n c os) none ∙ logged_none asks (slice_get programs l.program) n os in
            on (inl (omega (arith, is.0, quiet)))
            (step l os (left_at begun t.0 detaches ms) t.1 t.0 cs t.3 (at_kept begun t.0 ms cs (is.0 ∙ sym is.1) e)
            ∙ ap (λ (x : List Logged). At t.0 (cs ++ x)) (same t.0 ∙ sym (same (suc over))))
            ∙ ap (At last) (append_assoc cs (logged_as asks (slice_get programs l.program) (suc over) (call_in l.event) os) (answered_as ends asks programs (over + closes ends l.event) lines met))

-- before any event each device is as it was
none_taken : (detaches : List Detach) (name : List ℕ) → taken_by 0 detaches name ≡ 0
none_taken [] name = refl
none_taken (x ∷ xs) name = by (same_name name x.device) (nat_le 1 x.before) refl (nat_le x.before 0) refl (none_taken xs name) where
  by : (s u : Bool) → nat_le 1 x.before ≡ u → (q : Bool) → nat_le x.before 0 ≡ q → taken_by 0 xs name ≡ 0
      → (if s && nat_le 1 x.before && nat_le x.before 0 then 1 else 0) + taken_by 0 xs name ≡ 0
  by false u e q f on = omega (arith, on)
  by true true e true f on = absurd (omega (arith, leb-true 1 x.before e, leb-true x.before 0 f))
  by true false e q f on =
      let none : ◌≡◌ {A = ℕ} (if nat_le 1 x.before && nat_le x.before 0 then 1 else 0) 0 = ap (λ (b : Bool). if b && nat_le x.before 0 then 1 else 0) e in
      omega (arith, none, on)
  by true true e false f on =
      let none : ◌≡◌ {A = ℕ} (if nat_le 1 x.before && nat_le x.before 0 then 1 else 0) 0 = λ k. if e k && f k then 1 else 0 in
      omega (arith, none, on)

pub first_logs : (detaches : List Detach) (before ds : List Device) → ds ≡ with_logs (taken_by 0 detaches) (device_log detaches []) before ds
first_logs detaches before [] = refl
first_logs detaches before (d ∷ ds) =
    let none : nat_lt (how_many d.name before) (taken_by 0 detaches d.name) ≡ false = le-ltb (how_many d.name before) (taken_by 0 detaches d.name) (omega (arith, none_taken detaches d.name)) in
    (λ k. record { name = d.name; journal = sym (append-nil d.journal) k } ∷ first_logs detaches (before ++ d ∷ []) ds k)
    ∙ ap (λ (b : Bool). (if b then [] else record { name = d.name; journal = d.journal ++ [] } ∷ []) ++ with_logs (taken_by 0 detaches) (device_log detaches []) (before ++ d ∷ []) ds) (sym none)

pub devices_logged : DevicesAreLogged
devices_logged parts detaches old new text told =
    logs_on (world_programs parts) detaches (devices_of old) ends_turn goes_shown bound_to (TakesCall (world_programs parts))
    (taken_line (world_programs parts) detaches (devices_of old)) told.lines told.met 0 0 old [] (turn_count told.lines) new (inl refl) (first_logs detaches [] (devices_of old)) told.took
