-- Devices as the lines' calls left them, as a world's run has them, and with the faults that are told, side by side.
use Rattle.std.proofs.Common.{arith, ◌≡◌, ◌≤◌, ◌+◌, ◌-◌, ◌^◌, ◌⊎◌, inl, inr, ℕ, zero, suc, List, [], ◌∷◌, ◌++◌, length, Option, Some, Bool, true, false, refl, sym, ap, ◌∙◌, subst, length-append}
use Rattle.std.specs.Prelude.{MatchBool, if◌then◌else◌, nat_eq, take, slice_get, slice_set, ◌||◌}
use Rattle.std.specs.List.{list_any, AllZip}
use Rattle.wa_types.specs.Validity.{same_name}
use Rattle.wa_model.specs.declared.answers.Detach.{Detach}
use Rattle.wa_model.specs.declared.events.End.TheVariants.{DeviceFault}
use Rattle.wa_model.specs.Plan.{Outcome, refused}
use Rattle.world_model.specs.World.{Asked, Device, is_named, taken_out, detached_if, detached, journaled}
use Rattle.vault_port.specs.Counts.{HasRisen}
use Rattle.device_port.specs.Listed.{ChangesAt, IsFirstOf}
use Rattle.event_order.specs.Left.{Counted, without, without_if, left_before}
use Rattle.host_laws.specs.Supplies.{Counts, none_failed, one_failed}
use Rattle.many_host.specs.Calls.{devices_of, faults_of}
use Rattle.world_hosting.specs.FaultCounts.{CountsTo, one_more}

-- a count and a journal together
abbrev weight : Counted → ℕ
weight c = c.faults + length c.device.journal

-- One device in three places: where the run's journal is shorter than that which the calls left, the calls counted less than is told.
pub record Same (m : Counted) (d : Device) (l : Counted) : Type 0 where
  pub world_name : m.device.name ≡ d.name
  pub told_name : m.device.name ≡ l.device.name
  pub owes : (l.faults + length d.journal ≤ weight m) ⊎ (2 ^ 64 - 1 ≤ m.faults)

pub data Beside : List Counted → List Device → List Counted → Type 0 where
  no_device : Beside [] [] []
  and_more : {m l : Counted} {d : Device} {ms ls : List Counted} {ds : List Device} → Same m d l → Beside ms ds ls → Beside (m ∷ ms) (d ∷ ds) (l ∷ ls)

pub all_beside : (cs : List Counted) → Beside cs (devices_of cs) cs
all_beside [] = no_device
all_beside (c ∷ cs) = and_more (record { world_name = refl; told_name = refl; owes = inl (omega arith) }) (all_beside cs)

-- at the end of both the journals are the same
pub settled : (ms : List Counted) (ds : List Device) (ls : List Counted) → Beside ms ds ls → devices_of ms ≡ ds → AllZip CountsTo ls ms
settled [] [] (l ∷ ls) x6 e = elim x6 [ ]
settled [] (d ∷ ds) ls x5 e = elim x5 [ ]
settled (m ∷ ms) [] ls x4 e = elim x4 [ ]
settled (m ∷ ms) (d ∷ ds) [] x6 e = elim x6 [ ]
settled [] [] [] no_device e = tt
settled (m ∷ ms) (d ∷ ds) (l ∷ ls) (and_more h k) e = (
  record { name = h.told_name; faults = elim h.owes [ inl less ↦ inl (by_journal less) | inr most ↦ inr most ] },
  settled ms ds ls k (rest m.device d (devices_of ms) ds e),
)
  where
    first : (x y : Device) (xs ys : List Device) → x ∷ xs ≡ y ∷ ys → x ≡ y
    first x y xs ys e = cc

    rest : (x y : Device) (xs ys : List Device) → x ∷ xs ≡ y ∷ ys → xs ≡ ys
    rest x y xs ys e = cc

    by_journal : l.faults + length d.journal ≤ weight m → l.faults ≤ m.faults
    by_journal less =
        let same : length m.device.journal ≡ length d.journal = ap (λ (x : Device). length x.journal) (first m.device d (devices_of ms) ds e) in
        omega (arith, less, same)

-- ---- devices that are taken out

same_test : (name a b : List ℕ) → a ≡ b → same_name a name ≡ same_name b name
same_test name a b e = ap (λ (n : List ℕ). same_name n name) e

out : (name : List ℕ) (ms : List Counted) (ds : List Device) (ls : List Counted) → Beside ms ds ls → Beside (without name ms) (taken_out name ds) (without name ls)
out name [] [] (l ∷ ls) x3 = elim x3 [ ]
out name [] (d ∷ ds) ls x3 = elim x3 [ ]
out name (m ∷ ms) [] ls x3 = elim x3 [ ]
out name (m ∷ ms) (d ∷ ds) [] x5 = elim x5 [ ]
out name [] [] [] no_device = no_device
out name (m ∷ ms) (d ∷ ds) (l ∷ ls) (and_more h k) =
    by (is_named name m.device) (is_named name d) (is_named name l.device) (same_test name m.device.name d.name h.world_name) (same_test name m.device.name l.device.name h.told_name)
    (out name ms ds ls k)
  where
    by : (a b c : Bool) → a ≡ b → a ≡ c → Beside (without name ms) (taken_out name ds) (without name ls)
        → Beside (if a then ms else m ∷ without name ms) (if b then ds else d ∷ taken_out name ds) (if c then ls else l ∷ without name ls)
    by true true true e f on = k
    by false false false e f on = and_more h on
    by true false c e f on = absurd cc
    by false true c e f on = absurd cc
    by true true false e f on = absurd cc
    by false false true e f on = absurd cc

pub left_beside : (number : ℕ) (xs : List Detach) (ms : List Counted) (ds : List Device) (ls : List Counted) → Beside ms ds ls
    → Beside (left_before number xs ms) (detached number xs ds) (left_before number xs ls)
left_beside number [] ms ds ls h = h
left_beside number (x ∷ xs) ms ds ls h =
    left_beside number xs (without_if (nat_eq x.before number) x.device ms) (detached_if (nat_eq x.before number) x.device ds) (without_if (nat_eq x.before number) x.device ls)
    (by (nat_eq x.before number))
  where
    by : (b : Bool) → Beside (without_if b x.device ms) (detached_if b x.device ds) (without_if b x.device ls)
    by true = out x.device ms ds ls h
    by false = h

-- ---- what a call does to the devices that it leaves

-- nothing is lost of one
pub record Keeps (m m' : Counted) : Type 0 where
  pub name : m'.device.name ≡ m.device.name
  pub heavier : weight m ≤ weight m'
  pub rising : m.faults ≤ m'.faults

-- it has one more entry, or one more counted fault
pub record Gains (m m' : Counted) : Type 0 where
  pub name : m'.device.name ≡ m.device.name
  pub heavier : (suc (weight m) ≤ weight m') ⊎ (2 ^ 64 - 1 ≤ m'.faults)
  pub rising : m.faults ≤ m'.faults

-- the first of a name does, and of the others nothing is lost
abbrev pub OneGains : List ℕ → List Counted → List Counted → Type 0
OneGains name [] [] = Unit {0}
OneGains name [] (m' ∷ ms') = ⊥
OneGains name (m ∷ ms) [] = ⊥
OneGains name (m ∷ ms) (m' ∷ ms') = MatchBool (is_named name m.device) (Gains m m' × AllZip Keeps ms ms') (Keeps m m' × OneGains name ms ms')

le_on : (a b c : ℕ) → a ≤ b → b ≤ c → a ≤ c
le_on a b c h k = omega (arith, h, k)

kept_one : (m m' : Counted) (d : Device) (l : Counted) → Same m d l → Keeps m m' → Same m' d l
kept_one m m' d l h k = record {
  world_name = k.name ∙ h.world_name;
  told_name = k.name ∙ h.told_name;
  owes = elim h.owes [ inl less ↦ inl (le_on _ _ _ less k.heavier) | inr most ↦ inr (le_on _ _ _ most k.rising) ];
}

pub kept_beside : (ms ms' : List Counted) (ds : List Device) (ls : List Counted) → Beside ms ds ls → AllZip Keeps ms ms' → Beside ms' ds ls
kept_beside [] [] [] (l ∷ ls) x8 k = elim x8 [ ]
kept_beside [] [] (d ∷ ds) ls x7 k = elim x7 [ ]
kept_beside [] (m' ∷ ms') [] (l ∷ ls) x7 k = elim x7 [ ]
kept_beside [] (m' ∷ ms') (d ∷ ds) ls x7 k = elim x7 [ ]
kept_beside (m ∷ ms) [] [] ls x5 k = elim x5 [ ]
kept_beside (m ∷ ms) [] (d ∷ ds) [] x7 k = elim x7 [ ]
kept_beside (m ∷ ms) (m' ∷ ms') [] ls x6 k = elim x6 [ ]
kept_beside (m ∷ ms) (m' ∷ ms') (d ∷ ds) [] x8 k = elim x8 [ ]
kept_beside [] [] [] [] no_device k = no_device
kept_beside [] (m' ∷ ms') [] [] no_device k = absurd k
kept_beside (m ∷ ms) [] (d ∷ ds) (l ∷ ls) (and_more h on) k = absurd k
kept_beside (m ∷ ms) (m' ∷ ms') (d ∷ ds) (l ∷ ls) (and_more h on) k = and_more (kept_one m m' d l h k.0) (kept_beside ms ms' ds ls on k.1)

replied_one : (m m' : Counted) (d : Device) (l : Counted) (call : Asked) → Same m d l → Gains m m' → Same m' (record { name = d.name; journal = d.journal ++ call ∷ [] }) l
replied_one m m' d l call h k = record {
  world_name = k.name ∙ h.world_name;
  told_name = k.name ∙ h.told_name;
  owes = elim h.owes [ inl less ↦ elim k.heavier [ inl more ↦ inl (longer less more) | inr most ↦ inr most ] | inr most ↦ inr (le_on _ _ _ most k.rising) ];
}
  where
    longer : l.faults + length d.journal ≤ weight m → suc (weight m) ≤ weight m' → l.faults + length (d.journal ++ call ∷ []) ≤ weight m'
    longer less more = let e : length (d.journal ++ call ∷ []) ≡ length d.journal + 1 = length-append d.journal (call ∷ []) in omega (arith, less, more, e)

-- the world's device replies
pub replied_beside : (name : List ℕ) (call : Asked) (ms ms' : List Counted) (ds : List Device) (ls : List Counted) → Beside ms ds ls → OneGains name ms ms' → Beside ms' (journaled name call ds) ls
replied_beside name call [] [] [] (l ∷ ls) x8 g = elim x8 [ ]
replied_beside name call [] [] (d ∷ ds) ls x7 g = elim x7 [ ]
replied_beside name call [] (m' ∷ ms') [] (l ∷ ls) x7 g = elim x7 [ ]
replied_beside name call [] (m' ∷ ms') (d ∷ ds) ls x7 g = elim x7 [ ]
replied_beside name call (m ∷ ms) [] [] ls x5 g = elim x5 [ ]
replied_beside name call (m ∷ ms) [] (d ∷ ds) [] x7 g = elim x7 [ ]
replied_beside name call (m ∷ ms) (m' ∷ ms') [] ls x6 g = elim x6 [ ]
replied_beside name call (m ∷ ms) (m' ∷ ms') (d ∷ ds) [] x8 g = elim x8 [ ]
replied_beside name call [] [] [] [] no_device g = no_device
replied_beside name call [] (m' ∷ ms') [] [] no_device g = absurd g
replied_beside name call (m ∷ ms) [] (d ∷ ds) (l ∷ ls) (and_more h on) g = absurd g
replied_beside name call (m ∷ ms) (m' ∷ ms') (d ∷ ds) (l ∷ ls) (and_more h on) g =
    by (is_named name m.device) (is_named name d) (same_test name m.device.name d.name h.world_name) g (λ k. replied_beside name call ms ms' ds ls on k)
  where
    by : (a b : Bool) → a ≡ b → MatchBool a (Gains m m' × AllZip Keeps ms ms') (Keeps m m' × OneGains name ms ms') → (OneGains name ms ms' → Beside ms' (journaled name call ds) ls)
        → Beside (m' ∷ ms') (if b then record { name = d.name; journal = d.journal ++ call ∷ [] } ∷ ds else d ∷ journaled name call ds) (l ∷ ls)
    by true true e k more = and_more (replied_one m m' d l call h k.0) (kept_beside ms ms' ds ls on k.1)
    by false false e k more = and_more (kept_one m m' d l h k.0) (more k.1)
    by true false e k more = absurd cc
    by false true e k more = absurd cc

failed_one : (m m' : Counted) (d : Device) (l : Counted) → Same m d l → Gains m m' → Same m' d (record { device = l.device; faults = suc l.faults })
failed_one m m' d l h k = record {
  world_name = k.name ∙ h.world_name;
  told_name = k.name ∙ h.told_name;
  owes = elim h.owes [ inl less ↦ elim k.heavier [ inl more ↦ inl (longer less more) | inr most ↦ inr most ] | inr most ↦ inr (le_on _ _ _ most k.rising) ];
}
  where
    longer : l.faults + length d.journal ≤ weight m → suc (weight m) ≤ weight m' → suc l.faults + length d.journal ≤ weight m'
    longer less more = omega (arith, less, more)

-- the world's device fails, and a line will tell it
pub failed_beside : (name : List ℕ) (ms ms' : List Counted) (ds : List Device) (ls : List Counted) → Beside ms ds ls → OneGains name ms ms' → Beside ms' ds (one_more name ls)
failed_beside name [] [] [] (l ∷ ls) x8 g = elim x8 [ ]
failed_beside name [] [] (d ∷ ds) ls x7 g = elim x7 [ ]
failed_beside name [] (m' ∷ ms') [] (l ∷ ls) x7 g = elim x7 [ ]
failed_beside name [] (m' ∷ ms') (d ∷ ds) ls x7 g = elim x7 [ ]
failed_beside name (m ∷ ms) [] [] ls x5 g = elim x5 [ ]
failed_beside name (m ∷ ms) [] (d ∷ ds) [] x7 g = elim x7 [ ]
failed_beside name (m ∷ ms) (m' ∷ ms') [] ls x6 g = elim x6 [ ]
failed_beside name (m ∷ ms) (m' ∷ ms') (d ∷ ds) [] x8 g = elim x8 [ ]
failed_beside name [] [] [] [] no_device g = no_device
failed_beside name [] (m' ∷ ms') [] [] no_device g = absurd g
failed_beside name (m ∷ ms) [] (d ∷ ds) (l ∷ ls) (and_more h on) g = absurd g
failed_beside name (m ∷ ms) (m' ∷ ms') (d ∷ ds) (l ∷ ls) (and_more h on) g =
    by (is_named name m.device) (is_named name l.device) (same_test name m.device.name l.device.name h.told_name) g (λ k. failed_beside name ms ms' ds ls on k)
  where
    by : (a b : Bool) → a ≡ b → MatchBool a (Gains m m' × AllZip Keeps ms ms') (Keeps m m' × OneGains name ms ms') → (OneGains name ms ms' → Beside ms' ds (one_more name ls))
        → Beside (m' ∷ ms') (d ∷ ds) (if b then record { device = l.device; faults = suc l.faults } ∷ ls else l ∷ one_more name ls)
    by true true e k more = and_more (failed_one m m' d l h k.0) (kept_beside ms ms' ds ls on k.1)
    by false false e k more = and_more (kept_one m m' d l h k.0) (more k.1)
    by true false e k more = absurd cc
    by false true e k more = absurd cc

-- what isn't told in the end isn't owed
paid_one : (m : Counted) (d : Device) (l : Counted) → Same m d (record { device = l.device; faults = suc l.faults }) → Same m d l
paid_one m d l h = record {
  world_name = h.world_name;
  told_name = h.told_name;
  owes = elim h.owes [ inl less ↦ inl (fewer less) | inr most ↦ inr most ];
}
  where
    fewer : suc l.faults + length d.journal ≤ weight m → l.faults + length d.journal ≤ weight m
    fewer less = omega (arith, less)

pub paid_beside : (name : List ℕ) (ms : List Counted) (ds : List Device) (ls : List Counted) → Beside ms ds (one_more name ls) → Beside ms ds ls
paid_beside name ms ds [] h = h
paid_beside name ms ds (l ∷ ls) h = by (is_named name l.device) ms ds h (λ us es k. paid_beside name us es ls k)
  where
    by : (b : Bool) (us : List Counted) (es : List Device) → Beside us es (if b then record { device = l.device; faults = suc l.faults } ∷ ls else l ∷ one_more name ls)
        → ((us : List Counted) (es : List Device) → Beside us es (one_more name ls) → Beside us es ls) → Beside us es (l ∷ ls)
    by false [] es x5 more = elim x5 [ ]
    by false (m ∷ us) [] x8 more = elim x8 [ ]
    by true [] es x6 more = elim x6 [ ]
    by true (m ∷ us) [] x9 more = elim x9 [ ]
    by true (m ∷ us) (d ∷ es) (and_more k on) more = and_more (paid_one m d l k) on
    by false (m ∷ us) (d ∷ es) (and_more k on) more = and_more k (more us es on)

-- ---- what a call took

abbrev pub Rise : List ℕ → List ℕ → Type 0
Rise old new = AllZip (λ (a b : ℕ). a ≤ b) old new

same_rise : (ns : List ℕ) → Rise ns ns
same_rise [] = tt
same_rise (n ∷ ns) = (omega arith, same_rise ns)

one_rises : (place : ℕ) (old : List ℕ) (before after : ℕ) → slice_get old place ≡ Some before → before ≤ after → Rise old (slice_set old place after)
one_rises place [] before after e h = tt
one_rises zero (n ∷ ns) before after e h = (subst (λ (k : ℕ). k ≤ after) (sym (same n before e)) h, same_rise ns)
  where
    same : (a b : ℕ) → Some a ≡ Some b → a ≡ b
    same a b e = cc
one_rises (suc place) (n ∷ ns) before after e h = (omega arith, one_rises place ns before after e h)

-- no count falls
pub counts_rise : (import : ℕ) (bound : Option (List ℕ)) (ds : List Device) (o : Outcome) (old new : List ℕ) → Counts import bound ds o old new → Rise old new
counts_rise import bound ds o old new (none_failed other same) = subst (Rise old) (sym same) (same_rise old)
counts_rise import bound ds o old new (one_failed name place is first fault at failed) = subst (Rise old) (sym at.others) (one_rises place old at.before at.after at.there at.changed)

first_device : (x y : Device) (xs ys : List Device) → x ∷ xs ≡ y ∷ ys → x ≡ y
first_device x y xs ys e = cc

other_devices : (x y : Device) (xs ys : List Device) → x ∷ xs ≡ y ∷ ys → xs ≡ ys
other_devices x y xs ys e = cc

keeps_device : (m m' : Counted) → m'.device ≡ m.device → m.faults ≤ m'.faults → Keeps m m'
keeps_device m m' e le = record {
  name = ap (λ (d : Device). d.name) e;
  heavier = let same : length m'.device.journal ≡ length m.device.journal = ap (λ (d : Device). length d.journal) e in omega (arith, same, le);
  rising = le;
}

-- devices that stay as they are
pub all_keep : (ms ms' : List Counted) → devices_of ms' ≡ devices_of ms → Rise (faults_of ms) (faults_of ms') → AllZip Keeps ms ms'
all_keep [] [] e r = tt
all_keep [] (m' ∷ ms') e r = absurd r
all_keep (m ∷ ms) [] e r = absurd r
all_keep (m ∷ ms) (m' ∷ ms') e r =
    (keeps_device m m' (first_device m'.device m.device (devices_of ms') (devices_of ms) e) r.0, all_keep ms ms' (other_devices m'.device m.device (devices_of ms') (devices_of ms) e) r.1)

-- a device that replied
pub replier_gains : (name : List ℕ) (call : Asked) (ms ms' : List Counted) → devices_of ms' ≡ journaled name call (devices_of ms) → Rise (faults_of ms) (faults_of ms') → OneGains name ms ms'
replier_gains name call [] [] e r = tt
replier_gains name call [] (m' ∷ ms') e r = absurd r
replier_gains name call (m ∷ ms) [] e r = absurd r
replier_gains name call (m ∷ ms) (m' ∷ ms') e r = by (is_named name m.device) e (λ f. replier_gains name call ms ms' f r.1)
  where
    with_call : Device
    with_call = record { name = m.device.name; journal = m.device.journal ++ call ∷ [] }

    gains : m'.device ≡ with_call → Gains m m'
    gains f = record {
      name = ap (λ (d : Device). d.name) f;
      heavier = inl (longer (ap (λ (d : Device). length d.journal) f));
      rising = r.0;
    }
      where
        longer : length m'.device.journal ≡ length (m.device.journal ++ call ∷ []) → suc (weight m) ≤ weight m'
        longer g = let more = length-append m.device.journal (call ∷ []) in let le = r.0 in omega (arith, g, more, le)

    by : (b : Bool) → m'.device ∷ devices_of ms' ≡ (if b then with_call ∷ devices_of ms else m.device ∷ journaled name call (devices_of ms))
        → (devices_of ms' ≡ journaled name call (devices_of ms) → OneGains name ms ms')
        → MatchBool b (Gains m m' × AllZip Keeps ms ms') (Keeps m m' × OneGains name ms ms')
    by true f on = (gains (first_device m'.device with_call (devices_of ms') (devices_of ms) f), all_keep ms ms' (other_devices m'.device with_call (devices_of ms') (devices_of ms) f) r.1)
    by false f on = (
      keeps_device m m' (first_device m'.device m.device (devices_of ms') (journaled name call (devices_of ms)) f) r.0,
      on (other_devices m'.device m.device (devices_of ms') (journaled name call (devices_of ms)) f),
    )

first_count : (a b : ℕ) (xs ys : List ℕ) → a ∷ xs ≡ b ∷ ys → a ≡ b
first_count a b xs ys e = cc

other_counts : (a b : ℕ) (xs ys : List ℕ) → a ∷ xs ≡ b ∷ ys → xs ≡ ys
other_counts a b xs ys e = cc

same_count : (a b : ℕ) → Some a ≡ Some b → a ≡ b
same_count a b e = cc

same_device : (a b : Device) → Some a ≡ Some b → a ≡ b
same_device a b e = cc

neither : (a b : Bool) → a || b ≡ false → (a ≡ false) × (b ≡ false)
neither true b e = absurd cc
neither false b e = (refl, e)

-- a device that failed
failer_at : (name : List ℕ) (place : ℕ) (ms ms' : List Counted) (d : Device) (before after : ℕ) → devices_of ms' ≡ devices_of ms → Rise (faults_of ms) (faults_of ms')
    → slice_get (devices_of ms) place ≡ Some d → is_named name d ≡ true → list_any (is_named name) (take place (devices_of ms)) ≡ false
    → slice_get (faults_of ms) place ≡ Some before → HasRisen before after → faults_of ms' ≡ slice_set (faults_of ms) place after → OneGains name ms ms'
failer_at name place [] ms' d before after e r at named first count rises others = absurd cc
failer_at name place (m ∷ ms) [] d before after e r at named first count rises others = absurd r
failer_at name zero (m ∷ ms) (m' ∷ ms') d before after e r at named first count rises others =
    by (is_named name m.device) (ap (is_named name) (same_device m.device d at) ∙ named)
  where
    same : m'.device ≡ m.device
    same = first_device m'.device m.device (devices_of ms') (devices_of ms) e

    is_after : m'.faults ≡ after
    is_after = first_count m'.faults after (faults_of ms') (faults_of ms) others

    is_before : m.faults ≡ before
    is_before = same_count m.faults before count

    journals : length m'.device.journal ≡ length m.device.journal
    journals = ap (λ (x : Device). length x.journal) same

    at_least : (a b : ℕ) → b ≡ a → a ≤ b
    at_least a b g = omega (arith, g)

    gains : Gains m m'
    gains = record {
      name = ap (λ (x : Device). x.name) same;
      heavier = elim rises [ inl less ↦ inl (omega (arith, less, is_after, is_before, journals)) | inr most ↦ inr (at_least (2 ^ 64 - 1) m'.faults (is_after ∙ most)) ];
      rising = r.0;
    }

    by : (b : Bool) → b ≡ true → MatchBool b (Gains m m' × AllZip Keeps ms ms') (Keeps m m' × OneGains name ms ms')
    by true f = (gains, all_keep ms ms' (other_devices m'.device m.device (devices_of ms') (devices_of ms) e) r.1)
    by false f = absurd cc
failer_at name (suc place) (m ∷ ms) (m' ∷ ms') d before after e r at named first count rises others =
    by (is_named name m.device) (neither (is_named name m.device) (list_any (is_named name) (take place (devices_of ms))) first)
    (λ later. failer_at name place ms ms' d before after (other_devices m'.device m.device (devices_of ms') (devices_of ms) e) r.1 at named later count rises
    (other_counts m'.faults m.faults (faults_of ms') (slice_set (faults_of ms) place after) others))
  where
    by : (b : Bool) → (b ≡ false) × (list_any (is_named name) (take place (devices_of ms)) ≡ false) → (list_any (is_named name) (take place (devices_of ms)) ≡ false → OneGains name ms ms')
        → MatchBool b (Gains m m' × AllZip Keeps ms ms') (Keeps m m' × OneGains name ms ms')
    by true f on = absurd (never f.0)
      where
        never : true ≡ false → ⊥
        never e = cc
    by false f on = (keeps_device m m' (first_device m'.device m.device (devices_of ms') (devices_of ms) e) r.0, on f.1)

pub failer_gains : (name : List ℕ) (import : ℕ) (ms ms' : List Counted) (o : Outcome) → devices_of ms' ≡ devices_of ms → o ≡ refused (DeviceFault import)
    → Counts import (Some name) (devices_of ms) o (faults_of ms) (faults_of ms') → OneGains name ms ms'
failer_gains name import ms ms' o e failed h = by h
  where
    same_bound : (a b : List ℕ) → Some a ≡ Some b → a ≡ b
    same_bound a b f = cc

    rises : Rise (faults_of ms) (faults_of ms')
    rises = counts_rise import (Some name) (devices_of ms) o (faults_of ms) (faults_of ms') h

    at_place : (place : ℕ) → IsFirstOf (devices_of ms) name place → ChangesAt HasRisen place (faults_of ms) (faults_of ms') → OneGains name ms ms'
    at_place place first at = failer_at name place ms ms' first.device at.before at.after e rises first.there first.named first.first at.there at.changed at.others

    by : Counts import (Some name) (devices_of ms) o (faults_of ms) (faults_of ms') → OneGains name ms ms'
    by (none_failed other same) = absurd (other failed)
    by (one_failed found place is first fault at fails) =
        at_place place (subst (λ (n : List ℕ). IsFirstOf (devices_of ms) n place) (sym (same_bound name found is)) first) fails

-- devices and counts are all that there is
pub same_counted : (ms ms' : List Counted) → devices_of ms' ≡ devices_of ms → faults_of ms' ≡ faults_of ms → ms' ≡ ms
same_counted [] [] e f = refl
same_counted [] (m' ∷ ms') e f = absurd cc
same_counted (m ∷ ms) [] e f = absurd cc
same_counted (m ∷ ms) (m' ∷ ms') e f =
    let device = first_device m'.device m.device (devices_of ms') (devices_of ms) e in
    let faults = first_count m'.faults m.faults (faults_of ms') (faults_of ms) f in
    let rest = same_counted ms ms' (other_devices m'.device m.device (devices_of ms') (devices_of ms) e) (other_counts m'.faults m.faults (faults_of ms') (faults_of ms) f) in
    ap (λ (d : Device). record { device = d; faults = m'.faults } ∷ ms') device
    ∙ ap (λ (n : ℕ). record { device = m.device; faults = n } ∷ ms') faults
    ∙ ap (λ (cs : List Counted). m ∷ cs) rest

-- a name is there for the world where it is for the calls
pub there_same : (name : List ℕ) (ms : List Counted) (ds : List Device) (ls : List Counted) → Beside ms ds ls → list_any (is_named name) (devices_of ms) ≡ list_any (is_named name) ds
there_same name [] [] (l ∷ ls) x3 = elim x3 [ ]
there_same name [] (d ∷ ds) ls x3 = elim x3 [ ]
there_same name (m ∷ ms) [] ls x3 = elim x3 [ ]
there_same name (m ∷ ms) (d ∷ ds) [] x5 = elim x5 [ ]
there_same name [] [] [] no_device = refl
there_same name (m ∷ ms) (d ∷ ds) (l ∷ ls) (and_more h on) =
    ap (λ (b : Bool). b || list_any (is_named name) (devices_of ms)) (same_test name m.device.name d.name h.world_name)
    ∙ ap (λ (b : Bool). is_named name d || b) (there_same name ms ds ls on)
