-- Bytes are a source that can be rewritten, or refused before for causes of one status: each cause stops at a stage that none behind it
-- does. The last one, a module that is too long, doesn't bar another that is emitted.
use Rattle.std.proofs.Common.{arith, ◌≡◌, ℕ, zero, suc, ◌≤◌, inl, inr, List, [], Bool, Option, Some, None, refl, sym, ap, ◌∙◌, subst, length, Contains}
use Rattle.std.proofs.lemmas.Bool.{cases_lt}
use Rattle.wa_types.specs.declared.bounds.LimitKind.{LimitKind}
use Rattle.wa_types.specs.declared.bounds.LimitKind.TheVariants.{File, Functions, Parameters, Body, Locals, Output, Script, Programs}
use Rattle.wa_types.specs.Binary.{Section}
use Rattle.wa_types.specs.Marks.{floats, opens, IsLeast, function_count, parameter_counts, body_sizes, local_counts, first_above}
use Rattle.wa_types.specs.ModuleBounds.{source_bounds}
use Rattle.wa_types.specs.Reading.{IsModule}
use Rattle.wa_types.specs.FirstFault.{FirstFault}
use Rattle.wa_types.specs.Pausing.{Settings, TellsMayPause}
use Rattle.slot_laws.proofs.Closed.{one_list}
use Rattle.script_model.specs.Command.{Manner}
use Rattle.wa_types.specs.Runtime.{with_runtime}
use Rattle.wa_model.specs.Rewrites.{Rewrites}
use Rattle.wa_types.specs.Syntax.{Module}
use Rattle.wa_types.proofs.FaultLemmas.{valid_no_fault}
use Rattle.file_laws.proofs.OneFault.{fault_spells_none}
use Rattle.file_laws.proofs.OneModule.{one_module}
use Rattle.file_laws.proofs.UniqueCode.{one_file}
use Rattle.wasm_reader.specs.Answers.{IsFile, HasNoFloat, IsAccepted}
use Rattle.local_spill.specs.Reserved.{reserved_at}
use Rattle.transform_command.specs.Sources.{IsFree, IsValidSource, rewritten_counts, IsRewritable, Cause, malformed, float, deep, limit, reserved, invalid, rewritten_locals, long_output, IsRefusedIn, refusal_for}
use Rattle.transform_command.proofs.Outlines.{outline, outlined}
use Rattle.transcript.specs.Refused.{status_of}
use Rattle.transform_command.specs.Ends.{IsLong}

-- how far bytes come
abbrev pub Reached : Settings → List ℕ → ℕ → Type 0
Reached s bytes zero = Unit {0}
Reached s bytes (suc zero) = length bytes ≤ 8388608
Reached s bytes (suc (suc zero)) = (ss : List Section) × IsFile source_bounds bytes ss
Reached s bytes (suc (suc (suc zero))) = (ss : List Section) × HasNoFloat source_bounds bytes ss
Reached s bytes (suc (suc (suc (suc zero)))) = (m : Module) × IsAccepted source_bounds bytes m
Reached s bytes (suc (suc (suc (suc (suc zero))))) = (m : Module) × IsFree bytes m
Reached s bytes (suc (suc (suc (suc (suc (suc zero)))))) = (m : Module) × IsValidSource bytes m
Reached s bytes (suc (suc (suc (suc (suc (suc (suc zero))))))) = (m : Module) × (which : List Bool) × IsRewritable s bytes m which
Reached s bytes (suc (suc (suc (suc (suc (suc (suc (suc n)))))))) = ⊥

down : (s : Settings) (bytes : List ℕ) (n : ℕ) → Reached s bytes (suc n) → Reached s bytes n
down s bytes zero r = tt
down s bytes (suc zero) r = r.1.few
down s bytes (suc (suc zero)) r = (r.0, r.1.file)
down s bytes (suc (suc (suc zero))) r = (r.1.sections, r.1.within.before.before.before.before.before)
down s bytes (suc (suc (suc (suc zero)))) r = (r.0, r.1.read)
down s bytes (suc (suc (suc (suc (suc zero))))) r = (r.0, r.1.unreserved)
down s bytes (suc (suc (suc (suc (suc (suc zero)))))) r = (r.0, r.2.accepted)
down s bytes (suc (suc (suc (suc (suc (suc (suc n))))))) r = absurd r

pub below : (s : Settings) (bytes : List ℕ) (n k : ℕ) → k ≤ n → Reached s bytes n → Reached s bytes k
below s bytes zero k h r = let e : 0 ≡ k = omega (arith, h) in subst (Reached s bytes) e r
below s bytes (suc n) k h r = elim (cases_lt n k) [
  | inl lt ↦ let e : suc n ≡ k = omega (arith, h, lt) in subst (Reached s bytes) e r
  | inr ge ↦ below s bytes n k ge (down s bytes n r)
]

abbrev pub limit_stage : LimitKind → ℕ
limit_stage File = 0
limit_stage _ = 3

-- where a cause stops
abbrev pub stage : Cause → ℕ
stage (malformed at) = 1
stage (float at) = 2
stage (deep at) = 3
stage (limit what found) = limit_stage what
stage (reserved name) = 4
stage (invalid func rule at) = 5
stage (rewritten_locals found) = 6
stage (long_output found) = 7

reaches : (how : Manner) (bytes : List ℕ) (c : Cause) → IsRefusedIn how bytes c → Reached how.settings bytes (stage c)
reaches how bytes (malformed at) h = h.0
reaches how bytes (float at) h = (h.0, h.1)
reaches how bytes (deep at) h = (h.0, h.1.before.before.before)
reaches how bytes (limit File n) h = tt
reaches how bytes (limit Functions n) h = (h.0, h.1)
reaches how bytes (limit Parameters n) h = (h.0, h.1.before)
reaches how bytes (limit Body n) h = (h.0, h.1.before.before)
reaches how bytes (limit Locals n) h = (h.0, h.1.before.before.before.before)
reaches how bytes (limit Output n) h = absurd h
reaches how bytes (limit Script n) h = absurd h
reaches how bytes (limit Programs n) h = absurd h
reaches how bytes (reserved name) h = (h.0, h.2)
reaches how bytes (invalid func rule at) h = (h.0, h.1)
reaches how bytes (rewritten_locals found) h = (h.0, h.2)
reaches how bytes (long_output found) h = (h.0, h.1, h.3)

no_least : (k : ℕ) (ks : List ℕ) → IsLeast k ks → ks ≡ [] → ⊥
no_least k ks h e = let c : Contains [] k = subst (λ (xs : List ℕ). Contains xs k) e h.among in let lt = c.1 in absurd (omega arith)

no_some : {X : Type 0} (o : Option X) (x : X) → o ≡ Some x → o ≡ None → ⊥
no_some o x e f = let bad = sym e ∙ f in cc

same_sections : (bytes : List ℕ) (ss : List Section) (m : Module) (f : IsFile source_bounds bytes ss) → (a : IsAccepted source_bounds bytes m) → a.sections ≡ ss
same_sections bytes ss m f a = one_file bytes a.sections ss a.within.before.before.before.before.before.file.spells f.spells

pub same_module : (bytes : List ℕ) (m n : Module) → IsAccepted source_bounds bytes m → IsAccepted source_bounds bytes n → m ≡ n
same_module bytes m n a b =
    let e = same_sections bytes b.sections m b.within.before.before.before.before.before.file a in
    one_module b.sections m n (subst (λ (ss : List Section). IsModule ss m) e a.is_module) b.is_module

-- modules that are a source, rewritten, have one outline
pub one_written : (s : Settings) (bytes : List ℕ) (m n : Module) (which others : List Bool) (p q : Module) → IsRewritable s bytes m which → IsRewritable s bytes n others
    → Rewrites m s p → Rewrites n s q → outline p ≡ outline q
one_written s bytes m n which others p q a b h k =
    outlined m s p h.parts which a.tells
    ∙ ap (λ (x : Module). outline (with_runtime x)) (same_module bytes m n a.accepted.unreserved.read b.accepted.unreserved.read)
    ∙ sym (outlined n s q k.parts others b.tells)

pub stops : (how : Manner) (bytes : List ℕ) (c : Cause) → IsRefusedIn how bytes c → Reached how.settings bytes (suc (stage c)) → ⊥
stops how bytes (malformed at) h r = fault_spells_none bytes at r.0 h.1 r.1.spells
stops how bytes (float at) h r =
    let e = one_file bytes r.0 h.0 r.1.file.spells h.1.spells in
    no_least at (floats h.0) h.2 (subst (λ (ss : List Section). floats ss ≡ []) e r.1.whole_numbers)
stops how bytes (deep at) h r =
    let e = same_sections bytes h.0 r.0 h.1.before.before.before.file r.1 in
    no_least at (opens 1000 h.0) h.2 (subst (λ (ss : List Section). opens 1000 ss ≡ []) e r.1.within.before.nesting)
stops how bytes (limit File n) h r = absurd (omega (arith, h.0, r))
stops how bytes (limit Functions n) h r =
    let e = same_sections bytes h.0 r.0 h.1.file r.1 in
    let few = subst (λ (ss : List Section). function_count ss ≤ 100000) e r.1.within.before.before.before.before.functions in
    absurd (omega (arith, h.2, h.3, few))
stops how bytes (limit Parameters n) h r =
    let e = same_sections bytes h.0 r.0 h.1.before.file r.1 in
    no_some _ n h.2 (subst (λ (ss : List Section). first_above 1000 (parameter_counts ss) ≡ None) e r.1.within.before.before.before.parameters)
stops how bytes (limit Body n) h r =
    let e = same_sections bytes h.0 r.0 h.1.before.before.file r.1 in
    no_some _ n h.2 (subst (λ (ss : List Section). first_above 1048576 (body_sizes ss) ≡ None) e r.1.within.before.before.bodies)
stops how bytes (limit Locals n) h r =
    let e = same_sections bytes h.0 r.0 h.1.before.before.before.before.file r.1 in
    no_some _ n h.2 (subst (λ (ss : List Section). first_above 50000 (local_counts ss) ≡ None) e r.1.within.locals)
stops how bytes (limit Output n) h r = absurd h
stops how bytes (limit Script n) h r = absurd h
stops how bytes (limit Programs n) h r = absurd h
stops how bytes (reserved name) h r =
    no_some (reserved_at r.0) h.1 (subst (λ (m : Module). reserved_at m ≡ Some h.1) (same_module bytes h.0 r.0 h.2 r.1.read) h.3) r.1.free
stops how bytes (invalid func rule at) h r =
    valid_no_fault r.0 func rule at r.1.valid (subst (λ (m : Module). FirstFault m func rule at) (same_module bytes h.0 r.0 h.1.read r.1.unreserved.read) h.2)
stops how bytes (rewritten_locals found) h r =
    let e = same_module bytes h.0 r.0 h.2.unreserved.read r.2.accepted.unreserved.read in
    let t = one_list r.0 how.settings h.1 r.1 (subst (λ (m : Module). TellsMayPause m how.settings h.1) e h.3) r.2.tells in
    no_some (first_above 50000 (rewritten_counts h.0 h.1)) found h.4
    (ap (λ (m : Module). first_above 50000 (rewritten_counts m h.1)) e ∙ ap (λ which. first_above 50000 (rewritten_counts r.0 which)) t ∙ r.2.few)
stops how bytes (long_output found) h r = absurd r

abbrev status_at : ℕ → ℕ
status_at zero = 6
status_at (suc zero) = 3
status_at (suc (suc zero)) = 4
status_at (suc (suc (suc zero))) = 6
status_at (suc (suc (suc (suc zero)))) = 7
status_at (suc (suc (suc (suc (suc zero))))) = 5
status_at (suc (suc (suc (suc (suc (suc n)))))) = 6

limit_six : (what : LimitKind) → 6 ≡ status_at (limit_stage what)
limit_six File = refl
limit_six _ = refl

by_stage : (c : Cause) → status_of (refusal_for c) ≡ status_at (stage c)
by_stage (malformed at) = refl
by_stage (float at) = refl
by_stage (deep at) = refl
by_stage (limit what found) = limit_six what
by_stage (reserved name) = refl
by_stage (invalid func rule at) = refl
by_stage (rewritten_locals found) = refl
by_stage (long_output found) = refl

limit_early : (what : LimitKind) → limit_stage what ≤ 6
limit_early File = omega arith
limit_early _ = omega arith

early : (c : Cause) → (IsLong c → ⊥) → stage c ≤ 6
early (malformed at) short = omega arith
early (float at) short = omega arith
early (deep at) short = omega arith
early (limit what found) short = limit_early what
early (reserved name) short = omega arith
early (invalid func rule at) short = omega arith
early (rewritten_locals found) short = omega arith
early (long_output found) short = absurd (short tt)

-- Two causes for which bytes are refused have one status.
pub one_status : (how : Manner) (bytes : List ℕ) (c d : Cause) → IsRefusedIn how bytes c → IsRefusedIn how bytes d → status_of (refusal_for c) ≡ status_of (refusal_for d)
one_status how bytes c d h k = elim (cases_lt (stage c) (stage d)) [
  | inl lt ↦ absurd (stops how bytes c h (below how.settings bytes (stage d) (suc (stage c)) (omega (arith, lt)) (reaches how bytes d k)))
  | inr ge ↦ elim (cases_lt (stage d) (stage c)) [
    | inl lt ↦ absurd (stops how bytes d k (below how.settings bytes (stage c) (suc (stage d)) (omega (arith, lt)) (reaches how bytes c h)))
    | inr le ↦ let e : stage c ≡ stage d = omega (arith, ge, le) in by_stage c ∙ ap status_at e ∙ sym (by_stage d)
  ]
]

-- A source that can be rewritten isn't refused, but for the length of what is emitted.
pub source_passes : (how : Manner) (bytes : List ℕ) (m : Module) (which : List Bool) (c : Cause) → IsRewritable how.settings bytes m which → (IsLong c → ⊥) → IsRefusedIn how bytes c → ⊥
source_passes how bytes m which c src short h =
    let le = early c short in stops how bytes c h (below how.settings bytes 7 (suc (stage c)) (omega (arith, le)) (m, which, src))
