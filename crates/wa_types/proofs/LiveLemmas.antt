-- A path reads a local first exactly where the backward pass tells so.
use Rattle.std.proofs.Common.{◌≡◌, ℕ, zero, suc, ◌⊎◌, inl, inr, List, [], ◌∷◌, Option, Some, None, Bool, true, false, not, ◌&&◌, ◌||◌, slice_get, nat_eq, refl, ap, sym, ◌∙◌, subst}
use Rattle.std.specs.List.{list_any}
use Rattle.std.proofs.lemmas.Bool.{eqb-true, eq-eqb}
use Rattle.wa_types.specs.Syntax.{Plain, basic, local_get, local_set, local_tee, br, br_if, br_table, return, unreachable, call, call_indirect, a_block, a_loop, Code, done, plain, nest, branch, Func}
use Rattle.wa_types.specs.Pruned.{pruned}
use Rattle.wa_types.specs.Liveness.{Label, goes_behind, goes_again, Position, position, behind, target, SomeTarget, PlainLeads, EndLeads, Leads, Reads, writes_plain, writes, ReadsFirst}
use Rattle.wa_types.specs.Liveness.{ends_here, goes_on, behind_calls, LiveAfter, told_at, live_plain, live, told, live_at, live_from, is_live_after}

-- either of two tests
either_true : (a b : Bool) → (a || b) ≡ true → (a ≡ true) ⊎ (b ≡ true)
either_true true b e = inl refl
either_true false b e = inr e

or_left : (a b : Bool) → a ≡ true → (a || b) ≡ true
or_left true b e = refl
or_left false b e = cc

or_right : (a b : Bool) → b ≡ true → (a || b) ≡ true
or_right true b e = refl
or_right false b e = e

both_true : (a b : Bool) → (not a && b) ≡ true → (a ≡ false) × (b ≡ true)
both_true true b e = cc
both_true false b e = (refl, e)

and_both : (a b : Bool) → a ≡ false → b ≡ true → (not a && b) ≡ true
and_both true b e f = cc
and_both false b e f = f

-- what is told of a label's target is so
abbrev TargetsSound : ℕ → List Label → List Bool → Type 0
TargetsSound x ls tos = (l : ℕ) → told_at tos l ≡ true → (there : Position) × (target ls l ≡ Some there) × ReadsFirst x there

-- what is told of the end of a sequence is so
abbrev EndSound : ℕ → List Label → Bool → Type 0
EndSound x ls out = out ≡ true → (there : Position) × EndLeads ls there × ReadsFirst x there

-- a path goes on from one instruction to the next
onward : (x : ℕ) (p : Plain) (rest : Code) (ls : List Label) → writes_plain x p ≡ false → PlainLeads p rest ls (position rest ls) → ReadsFirst x (position rest ls)
    → ReadsFirst x (position (plain p rest) ls)
onward x p rest ls unwritten leads h = goes_on (position (plain p rest) ls) (position rest ls) unwritten leads h

to_target : (x : ℕ) (p : Plain) (rest : Code) (ls : List Label) (there : Position) → writes_plain x p ≡ false → PlainLeads p rest ls there → ReadsFirst x there
    → ReadsFirst x (position (plain p rest) ls)
to_target x p rest ls there unwritten leads h = goes_on (position (plain p rest) ls) there unwritten leads h

some_target : (x : ℕ) (ls : List Label) (tos : List Bool) (labels : List ℕ) → TargetsSound x ls tos → list_any (told_at tos) labels ≡ true
    → (there : Position) × SomeTarget ls labels there × ReadsFirst x there
some_target x ls tos [] sound h = cc
some_target x ls tos (l ∷ labels) sound h = elim (either_true (told_at tos l) (list_any (told_at tos) labels) h) [
  | inl e ↦ let w = sound l e in (w.0, inl w.1, w.2)
  | inr e ↦ let w = some_target x ls tos labels sound e in (w.0, inr w.1, w.2)
]

plain_sound : (x : ℕ) (ls : List Label) (tos : List Bool) (p : Plain) (rest : Code) (b : Bool) → TargetsSound x ls tos → (b ≡ true → ReadsFirst x (position rest ls))
    → live_plain x tos p b ≡ true → ReadsFirst x (position (plain p rest) ls)
plain_sound x ls tos (local_get y) rest b sound go h = elim (either_true (nat_eq x y) b h) [
  | inl e ↦ ends_here (position (plain (local_get y) rest) ls) (eqb-true x y e)
  | inr e ↦ onward x (local_get y) rest ls refl refl (go e)
]
plain_sound x ls tos (local_set y) rest b sound go h =
    let w = both_true (nat_eq x y) b h in onward x (local_set y) rest ls w.0 refl (go w.1)
plain_sound x ls tos (local_tee y) rest b sound go h =
    let w = both_true (nat_eq x y) b h in onward x (local_tee y) rest ls w.0 refl (go w.1)
plain_sound x ls tos (br l) rest b sound go h = let w = sound l h in to_target x (br l) rest ls w.0 refl w.1 w.2
plain_sound x ls tos (br_if l) rest b sound go h = elim (either_true (told_at tos l) b h) [
  | inl e ↦ let w = sound l e in to_target x (br_if l) rest ls w.0 refl (inl w.1) w.2
  | inr e ↦ onward x (br_if l) rest ls refl (inr refl) (go e)
]
plain_sound x ls tos (br_table labels l) rest b sound go h =
    let w = some_target x ls tos (l ∷ labels) sound h in to_target x (br_table labels l) rest ls w.0 refl w.1 w.2
plain_sound x ls tos return rest b sound go h = cc
plain_sound x ls tos unreachable rest b sound go h = cc
plain_sound x ls tos (basic i) rest b sound go h = onward x (basic i) rest ls refl refl (go h)
plain_sound x ls tos (call f) rest b sound go h = onward x (call f) rest ls refl refl (go h)
plain_sound x ls tos (call_indirect t) rest b sound go h = onward x (call_indirect t) rest ls refl refl (go h)

-- one more label
more_targets : (x : ℕ) (y : Label) (ls : List Label) (tos : List Bool) (b : Bool) → TargetsSound x ls tos → ((l : ℕ) → target (y ∷ ls) (suc l) ≡ target ls l)
    → (b ≡ true → (there : Position) × (target (y ∷ ls) 0 ≡ Some there) × ReadsFirst x there) → TargetsSound x (y ∷ ls) (b ∷ tos)
more_targets x y ls tos b sound deeper first zero h = first h
more_targets x y ls tos b sound deeper first (suc l) h = let w = sound l h in (w.0, deeper l ∙ w.1, w.2)

-- behind a block or an if
behind_targets : (x : ℕ) (rest : Code) (ls : List Label) (tos : List Bool) (b : Bool) → TargetsSound x ls tos → (b ≡ true → ReadsFirst x (position rest ls))
    → TargetsSound x (goes_behind rest ∷ ls) (b ∷ tos)
behind_targets x rest ls tos b sound go =
    more_targets x (goes_behind rest) ls tos b sound (λ l. refl) (λ e. (position rest ls, refl, go e))

-- to a loop, whose own label counts as one where x isn't read
again_targets : (x : ℕ) (body rest : Code) (ls : List Label) (tos : List Bool) → TargetsSound x ls tos → TargetsSound x (goes_again body rest ∷ ls) (false ∷ tos)
again_targets x body rest ls tos sound = more_targets x (goes_again body rest) ls tos false sound (λ l. refl) (λ e. cc)

behind_end : (x : ℕ) (y : Label) (ls : List Label) (b : Bool) → (b ≡ true → ReadsFirst x (position (behind y) ls)) → EndSound x (y ∷ ls) b
behind_end x y ls b go e = (position (behind y) ls, refl, go e)

-- What is told of code is so.
live_sound : (x : ℕ) (k : Code) (ls : List Label) (tos : List Bool) (out : Bool) → TargetsSound x ls tos → EndSound x ls out → live x tos out k ≡ true → ReadsFirst x (position k ls)
unfolding live
live_sound x done ls tos out sound end h = let w = end h in goes_on (position done ls) w.0 refl w.1 w.2
live_sound x (plain p rest) ls tos out sound end h =
    plain_sound x ls tos p rest (live x tos out rest) sound (λ e. live_sound x rest ls tos out sound end e) h
live_sound x (nest a_block r body rest) ls tos out sound end h =
    let go : live x tos out rest ≡ true → ReadsFirst x (position rest ls) = λ e. live_sound x rest ls tos out sound end e in
    goes_on (position (nest a_block r body rest) ls) (position body (goes_behind rest ∷ ls)) refl refl
    (live_sound x body (goes_behind rest ∷ ls) (live x tos out rest ∷ tos) (live x tos out rest) (behind_targets x rest ls tos (live x tos out rest) sound go)
    (behind_end x (goes_behind rest) ls (live x tos out rest) go) h)
live_sound x (nest a_loop r body rest) ls tos out sound end h =
    let go : live x tos out rest ≡ true → ReadsFirst x (position rest ls) = λ e. live_sound x rest ls tos out sound end e in
    goes_on (position (nest a_loop r body rest) ls) (position body (goes_again body rest ∷ ls)) refl refl
    (live_sound x body (goes_again body rest ∷ ls) (false ∷ tos) (live x tos out rest) (again_targets x body rest ls tos sound) (behind_end x (goes_again body rest) ls (live x tos out rest) go) h)
live_sound x (branch r a b rest) ls tos out sound end h =
    let go : live x tos out rest ≡ true → ReadsFirst x (position rest ls) = λ e. live_sound x rest ls tos out sound end e in
    let targets = behind_targets x rest ls tos (live x tos out rest) sound go in
    let ends = behind_end x (goes_behind rest) ls (live x tos out rest) go in
    elim (either_true (live x (live x tos out rest ∷ tos) (live x tos out rest) a) (live x (live x tos out rest ∷ tos) (live x tos out rest) b) h) [
      | inl e ↦ goes_on (position (branch r a b rest) ls) (position a (goes_behind rest ∷ ls)) refl (inl refl)
          (live_sound x a (goes_behind rest ∷ ls) (live x tos out rest ∷ tos) (live x tos out rest) targets ends e)
      | inr e ↦ goes_on (position (branch r a b rest) ls) (position b (goes_behind rest ∷ ls)) refl (inr refl)
          (live_sound x b (goes_behind rest ∷ ls) (live x tos out rest ∷ tos) (live x tos out rest) targets ends e)
    ]

-- what is told under labels is so
pub told_sound : (x : ℕ) (ls : List Label) → TargetsSound x ls (told x ls).tos × EndSound x ls (told x ls).out
told_sound x [] = (λ l h. cc, λ h. cc)
told_sound x (goes_behind rest ∷ ls) =
    let w = told_sound x ls in
    let go : live x (told x ls).tos (told x ls).out rest ≡ true → ReadsFirst x (position rest ls) = λ e. live_sound x rest ls (told x ls).tos (told x ls).out w.0 w.1 e in
    (behind_targets x rest ls (told x ls).tos (live x (told x ls).tos (told x ls).out rest) w.0 go, behind_end x (goes_behind rest) ls (live x (told x ls).tos (told x ls).out rest) go)
told_sound x (goes_again body rest ∷ ls) =
    let w = told_sound x ls in
    let tos = (told x ls).tos in
    let k = live x (told x ls).tos (told x ls).out rest in
    let go : live x (told x ls).tos (told x ls).out rest ≡ true → ReadsFirst x (position rest ls) = λ e. live_sound x rest ls (told x ls).tos (told x ls).out w.0 w.1 e in
    let ends = behind_end x (goes_again body rest) ls (live x (told x ls).tos (told x ls).out rest) go in (
      more_targets x (goes_again body rest) ls (told x ls).tos (live x (false ∷ tos) k body) w.0 (λ l. refl)
          (λ e. (
            position body (goes_again body rest ∷ ls),
            refl,
            live_sound x body (goes_again body rest ∷ ls) (false ∷ (told x ls).tos) (live x (told x ls).tos (told x ls).out rest)
                (again_targets x body rest ls (told x ls).tos w.0) ends e,
          )),
      ends,
    )

pub live_reads : (x : ℕ) (at : Position) → live_at x at ≡ true → ReadsFirst x at
live_reads x at h = let w = told_sound x at.labels in live_sound x at.here at.labels (told x at.labels).tos (told x at.labels).out w.0 w.1 h

-- A loop's start tells the same whatever its own label tells, where the loop reads at all.
loop_once : (x : ℕ) (body : Code) (tos : List Bool) (out b : Bool) → b ≡ live x (false ∷ tos) out body → live x (b ∷ tos) out body ≡ true → live x (false ∷ tos) out body ≡ true
loop_once x body tos out true e h = sym e
loop_once x body tos out false e h = h

no_target : (l : ℕ) (there : Position) → target [] l ≡ Some there → ⊥
no_target l there e = cc

moved : (x : ℕ) (there to : Position) → there ≡ to → live_at x there ≡ true → live_at x to ≡ true
moved x there to e h = subst (λ (z : Position). live_at x z ≡ true) e h

same_some : (a b : Position) → Some a ≡ Some b → a ≡ b
same_some a b e = cc

-- a target where x is read first is told
pub target_told : (x : ℕ) (ls : List Label) (l : ℕ) (there : Position) → target ls l ≡ Some there → live_at x there ≡ true → told_at (told x ls).tos l ≡ true
target_told x [] l there e h = absurd (no_target l there e)
target_told x (goes_behind rest ∷ ls) zero there e h = moved x there (position rest ls) (same_some there (position rest ls) (sym e)) h
target_told x (goes_again body rest ∷ ls) zero there e h =
    loop_once x body (told x ls).tos (live x (told x ls).tos (told x ls).out rest) _ refl
    (moved x there (position body (goes_again body rest ∷ ls)) (same_some there (position body (goes_again body rest ∷ ls)) (sym e)) h)
target_told x (goes_behind rest ∷ ls) (suc l) there e h = target_told x ls l there e h
target_told x (goes_again body rest ∷ ls) (suc l) there e h = target_told x ls l there e h

any_told : (x : ℕ) (ls : List Label) (labels : List ℕ) (there : Position) → SomeTarget ls labels there → live_at x there ≡ true → list_any (told_at (told x ls).tos) labels ≡ true
any_told x ls [] there s h = absurd s
any_told x ls (l ∷ labels) there (inl e) h = or_left _ _ (target_told x ls l there e h)
any_told x ls (l ∷ labels) there (inr s) h = or_right _ _ (any_told x ls labels there s h)

plain_told : (x : ℕ) (ls : List Label) (p : Plain) (rest : Code) (there : Position) → writes_plain x p ≡ false → PlainLeads p rest ls there → live_at x there ≡ true
    → live_plain x (told x ls).tos p (live x (told x ls).tos (told x ls).out rest) ≡ true
plain_told x ls (local_get y) rest there w leads h = or_right (nat_eq x y) _ (moved x there (position rest ls) leads h)
plain_told x ls (local_set y) rest there w leads h = and_both (nat_eq x y) _ w (moved x there (position rest ls) leads h)
plain_told x ls (local_tee y) rest there w leads h = and_both (nat_eq x y) _ w (moved x there (position rest ls) leads h)
plain_told x ls (br l) rest there w leads h = target_told x ls l there leads h
plain_told x ls (br_if l) rest there w (inl leads) h = or_left _ _ (target_told x ls l there leads h)
plain_told x ls (br_if l) rest there w (inr leads) h = or_right _ _ (moved x there (position rest ls) leads h)
plain_told x ls (br_table labels l) rest there w leads h = any_told x ls (l ∷ labels) there leads h
plain_told x ls return rest there w leads h = absurd leads
plain_told x ls unreachable rest there w leads h = absurd leads
plain_told x ls (basic i) rest there w leads h = moved x there (position rest ls) leads h
plain_told x ls (call f) rest there w leads h = moved x there (position rest ls) leads h
plain_told x ls (call_indirect t) rest there w leads h = moved x there (position rest ls) leads h

-- what is told behind a move is told before it
step_told : (x : ℕ) (here : Code) (ls : List Label) (there : Position) → writes x here ≡ false → Leads here ls there → live_at x there ≡ true → live_at x (position here ls) ≡ true
unfolding live
step_told x done [] there w leads h = absurd leads
step_told x done (goes_behind rest ∷ ls) there w leads h = moved x there (position rest ls) leads h
step_told x done (goes_again body rest ∷ ls) there w leads h = moved x there (position rest ls) leads h
step_told x (plain p rest) ls there w leads h = plain_told x ls p rest there w leads h
step_told x (nest a_block r body rest) ls there w leads h = moved x there (position body (goes_behind rest ∷ ls)) leads h
step_told x (nest a_loop r body rest) ls there w leads h =
    loop_once x body (told x ls).tos (live x (told x ls).tos (told x ls).out rest) _ refl (moved x there (position body (goes_again body rest ∷ ls)) leads h)
step_told x (branch r a b rest) ls there w (inl leads) h = or_left _ _ (moved x there (position a (goes_behind rest ∷ ls)) leads h)
step_told x (branch r a b rest) ls there w (inr leads) h = or_right _ _ (moved x there (position b (goes_behind rest ∷ ls)) leads h)

read_told : (x : ℕ) (here : Code) (ls : List Label) → Reads x here → live_at x (position here ls) ≡ true
unfolding live
read_told x (plain (local_get y) rest) ls e = or_left (nat_eq x y) _ (eq-eqb x y e)
read_told x (plain (local_set y) rest) ls e = absurd e
read_told x (plain (local_tee y) rest) ls e = absurd e
read_told x (plain (br l) rest) ls e = absurd e
read_told x (plain (br_if l) rest) ls e = absurd e
read_told x (plain (br_table labels l) rest) ls e = absurd e
read_told x (plain return rest) ls e = absurd e
read_told x (plain unreachable rest) ls e = absurd e
read_told x (plain (basic i) rest) ls e = absurd e
read_told x (plain (call f) rest) ls e = absurd e
read_told x (plain (call_indirect t) rest) ls e = absurd e
read_told x done ls e = absurd e
read_told x (nest s r body rest) ls e = absurd e
read_told x (branch r a b rest) ls e = absurd e

pub reads_live : (x : ℕ) (at : Position) → ReadsFirst x at → live_at x at ≡ true
reads_live x _ (ends_here at reads) = read_told x at.here at.labels reads
reads_live x _ (goes_on at there unwritten leads h) = step_told x at.here at.labels there unwritten leads (reads_live x there h)

live_found : (x : ℕ) (o : Option Position) → live_from x o ≡ true → (at : Position) × (o ≡ Some at) × ReadsFirst x at
live_found x None h = cc
live_found x (Some at) h = (at, refl, live_reads x at h)

pub live_after : (f : Func) (place x : ℕ) → is_live_after f place x ≡ true → LiveAfter f place x
live_after f place x h = live_found x (slice_get (behind_calls [] (pruned f.body)) place) h

pub after_live : (f : Func) (place x : ℕ) → LiveAfter f place x → is_live_after f place x ≡ true
after_live f place x h = ap (live_from x) h.1 ∙ reads_live x h.0 h.2
