-- Which functions of the small program may pause.
use Rattle.std.proofs.Common.{arith, ◌≡◌, ◌≤◌, ◌-◌, nat_lt, if◌then◌else◌, ℕ, zero, suc, [], ◌∷◌, Some, None, Bool, true, false, slice_get, refl, ap, sym, ◌∙◌}
use Rattle.std.proofs.lemmas.Option.{slice_get_past}
use Rattle.wa_types.specs.Syntax.{Func}
use Rattle.wa_types.specs.Pruned.{pruned}
use Rattle.wa_types.specs.Modules.{defined_at}
use Rattle.wa_types.specs.Pausing.{Callee, direct, indirect, calls_of, calls_in, Listed, MayPause, calls_listed, calls_indirectly, calls_pausing}
use Rattle.checks.specs.Analysis.{calling, sleeps_and_logs, sleep_listed}

same_func : (f g : Func) → Some f ≡ Some g → f ≡ g
same_func f g e = cc

-- the one call of such a function
only_call : (x place : ℕ) (c : Callee) → slice_get (calls_in (calling x)) place ≡ Some c → direct x ≡ c
unfolding calls_of pruned
only_call x zero c e = cc
only_call x (suc place) c e = cc

call_of : (x place : ℕ) (f : Func) (c : Callee) → Some (calling x) ≡ Some f → slice_get (calls_in f) place ≡ Some c → direct x ≡ c
call_of x place f c e h =
    only_call x place c (ap (λ g. slice_get (calls_in g) place) (same_func (calling x) f e) ∙ h)

same_number : (x i : ℕ) → direct x ≡ direct i → x ≡ i
same_number x i e = cc

no_indirect : (x sort : ℕ) → direct x ≡ indirect sort → ⊥
no_indirect x sort e = cc

log_unlisted : (i : ℕ) → 1 ≡ i → slice_get (Listed sleeps_and_logs sleep_listed) i ≡ Some true → ⊥
log_unlisted i e h = let g : Some false ≡ Some true = ap (slice_get (Listed sleeps_and_logs sleep_listed)) e ∙ h in cc

imports_stay : (x : ℕ) → MayPause sleeps_and_logs sleep_listed x → (x ≡ 0) → ⊥
imports_stay _ (calls_listed x f place i found calls listed) z = let e : None ≡ Some f = sym (ap (defined_at sleeps_and_logs) z) ∙ found in cc
imports_stay _ (calls_indirectly x f place sort found calls heeded) z = let e : None ≡ Some f = sym (ap (defined_at sleeps_and_logs) z) ∙ found in cc
imports_stay _ (calls_pausing x f place y found calls h) z = let e : None ≡ Some f = sym (ap (defined_at sleeps_and_logs) z) ∙ found in cc

log_stays : (x : ℕ) → MayPause sleeps_and_logs sleep_listed x → (x ≡ 1) → ⊥
log_stays _ (calls_listed x f place i found calls listed) z = let e : None ≡ Some f = sym (ap (defined_at sleeps_and_logs) z) ∙ found in cc
log_stays _ (calls_indirectly x f place sort found calls heeded) z = let e : None ≡ Some f = sym (ap (defined_at sleeps_and_logs) z) ∙ found in cc
log_stays _ (calls_pausing x f place y found calls h) z = let e : None ≡ Some f = sym (ap (defined_at sleeps_and_logs) z) ∙ found in cc

logger_stays : (x : ℕ) → MayPause sleeps_and_logs sleep_listed x → (x ≡ 2) → ⊥
logger_stays _ (calls_listed x f place i found calls listed) z =
    log_unlisted i (same_number 1 i (call_of 1 place f (direct i) (sym (ap (defined_at sleeps_and_logs) z) ∙ found) calls)) listed
logger_stays _ (calls_indirectly x f place sort found calls heeded) z =
    no_indirect 1 sort (call_of 1 place f (indirect sort) (sym (ap (defined_at sleeps_and_logs) z) ∙ found) calls)
logger_stays _ (calls_pausing x f place y found calls h) z =
    log_stays y h (sym (same_number 1 y (call_of 1 place f (direct y) (sym (ap (defined_at sleeps_and_logs) z) ∙ found) calls)))

-- past the functions there is none
pick : (b : Bool) (k : ℕ) → 2 ≤ k → (if b then None else slice_get sleeps_and_logs.funcs k) ≡ None
pick true k h = refl
pick false k h = slice_get_past sleeps_and_logs.funcs k h

none_past : (n : ℕ) (f : Func) → defined_at sleeps_and_logs (suc (suc (suc (suc n)))) ≡ Some f → ⊥
none_past n f e =
    let past : None ≡ Some f = sym (pick (nat_lt (suc (suc (suc (suc n)))) 2) (suc (suc (suc (suc n))) - 2) (omega arith)) ∙ e in cc

past_stays : (x n : ℕ) → MayPause sleeps_and_logs sleep_listed x → (x ≡ suc (suc (suc (suc n)))) → ⊥
past_stays _ n (calls_listed x f place i found calls listed) z = none_past n f (sym (ap (defined_at sleeps_and_logs) z) ∙ found)
past_stays _ n (calls_indirectly x f place sort found calls heeded) z = none_past n f (sym (ap (defined_at sleeps_and_logs) z) ∙ found)
past_stays _ n (calls_pausing x f place y found calls h) z = none_past n f (sym (ap (defined_at sleeps_and_logs) z) ∙ found)

pub sleeper : MayPause sleeps_and_logs sleep_listed 3
unfolding calls_of pruned
sleeper = calls_listed 3 (calling 0) 0 0 refl refl refl

pub told_pauses : (x : ℕ) → slice_get (false ∷ false ∷ false ∷ true ∷ []) x ≡ Some true → MayPause sleeps_and_logs sleep_listed x
told_pauses zero e = cc
told_pauses (suc zero) e = cc
told_pauses (suc (suc zero)) e = cc
told_pauses (suc (suc (suc zero))) e = sleeper
told_pauses (suc (suc (suc (suc x)))) e = cc

pub pauses_told : (x : ℕ) → MayPause sleeps_and_logs sleep_listed x → slice_get (false ∷ false ∷ false ∷ true ∷ []) x ≡ Some true
pauses_told zero h = absurd (imports_stay zero h refl)
pauses_told (suc zero) h = absurd (log_stays (suc zero) h refl)
pauses_told (suc (suc zero)) h = absurd (logger_stays (suc (suc zero)) h refl)
pauses_told (suc (suc (suc zero))) h = refl
pauses_told (suc (suc (suc (suc x)))) h = absurd (past_stays (suc (suc (suc (suc x)))) x h refl)
