-- What the host puts into a store and tells is in range: notes, answers, pokes, configurations that go on.
use Rattle.std.proofs.Common.{◌≡◌, ℕ, zero, suc, ◌+◌, ◌^◌, ◌<◌, ◌≤◌, Bool, true, false, cond, List, [], ◌∷◌, ◌++◌, length, map, Option, Some, None, All, refl, arith}
use Rattle.std.specs.Option.{option_to_list}
use Rattle.std.proofs.lemmas.List.Elements.{All-nil, All-cons, All-head, All-tail, All-weaker}
use Rattle.wa_types.specs.declared.values.ValType.{ValType}
use Rattle.wa_types.specs.declared.values.Value.{Value}
use Rattle.wa_types.specs.Memory.{overwritten}
use Rattle.wa_types.specs.Syntax.{Module}
use Rattle.wa_types.specs.Frames.{Suspended}
use Rattle.wa_model.specs.declared.answers.Area.{Area}
use Rattle.wa_model.specs.declared.answers.Said.{Said}
use Rattle.wa_model.specs.declared.answers.Said.TheVariants as S
use Rattle.wa_model.specs.declared.events.End.{End}
use Rattle.wa_model.specs.declared.events.End.TheVariants.{Done, BadAnswer, BadPoke, UnwindTrap}
use Rattle.wa_model.specs.Outside.{Poke, Answer, Event, ended}
use Rattle.wa_model.specs.Store.{Store}
use Rattle.wa_model.specs.Configuration.{Activation, Configuration, suspended}
use Rattle.wa_model.specs.Plan.{Entry, Plan, PokeFits, AnswerFits, SaidFits, ValueFits, IsRefusal}
use Rattle.wa_model.specs.Blocking.{Note, note, call_note, answers, bad_value, poke_fits, bad_poke, is_unlisted, bad_pause, or_else, fault_of, pause_of, poked_memory, poked, resumed, done_notes, value_of_results, Asker, inside, outermost, store_at, stack_at}
use Rattle.run_theory.specs.LawfulStacks.{SuspendedIn}
use Rattle.run_theory.proofs.TestedPokes.{fits_inside, pokes_pass}
use Rattle.run_laws.specs.Ranges.{ValuesIn, MemoryIn, StoreIn, ActivationIn, ConfigurationIn, EndIn, EventIn, TicksIn, NoteIn, AskerIn, PokeInside, WaitsIn}
use Rattle.run_laws.proofs.Acts.{none_in, more_in, first_in}
use Rattle.run_laws.proofs.Bytes.{overwritten_in}
use Rattle.run_laws.proofs.Steps.{joined_in, running_in}

-- ---- how long a memory is

pub memory_lower : (low size : ℕ) (bytes : List ℕ) → low ≤ size → MemoryIn size bytes → MemoryIn low bytes
memory_lower low size bytes h ok = record { each = ok.each; pages = ok.pages; least = let l : size ≤ length bytes = ok.least in omega arith }

pub store_lower : (low size : ℕ) (s : Store) → low ≤ size → StoreIn size s → StoreIn low s
store_lower low size s h ok = record { globals = ok.globals; memory = memory_lower low size s.memory h ok.memory }

-- as long as it is
pub store_whole : (low : ℕ) (s : Store) → StoreIn low s → StoreIn (length s.memory) s
store_whole low s ok = record { globals = ok.globals; memory = record { each = ok.memory.each; pages = ok.memory.pages; least = omega arith } }

pub note_lower : (low size : ℕ) (x : Note) → low ≤ size → NoteIn size x → NoteIn low x
note_lower low size x h ok = record { event = ok.event; store = store_lower low size x.store h ok.store; stack = ok.stack; pause = ok.pause; since = ok.since }

pub notes_lower : (low size : ℕ) (xs : List Note) → low ≤ size → All (NoteIn size) xs → All (NoteIn low) xs
notes_lower low size xs h ok = All-weaker (NoteIn size) (NoteIn low) (λ x. note_lower low size x h) xs ok

-- ---- pokes

pub poked_in : (low : ℕ) (memory : List ℕ) (ps : List Poke) → All PokeFits ps → All (PokeInside low) ps → MemoryIn low memory → MemoryIn low (poked_memory memory ps)
poked_in low memory [] h k ok = ok
poked_in low memory (p ∷ ps) h k ok =
    let inside : p.at + length p.bytes ≤ low = All-head (PokeInside low) p ps k in
    let least : low ≤ length memory = ok.least in
    poked_in low (overwritten memory p.at p.bytes) ps (All-tail PokeFits p ps h) (All-tail (PokeInside low) p ps k)
    (overwritten_in low memory p.at p.bytes (omega arith) (All-head PokeFits p ps h).bytes ok)

pub poked_store_in : (low : ℕ) (s : Store) (a : Answer) → AnswerFits a → All (PokeInside low) a.pokes → StoreIn low s → StoreIn low (poked s a.pokes)
poked_store_in low s a f k ok = record { globals = ok.globals; memory = poked_in low s.memory a.pokes f.pokes k ok.memory }

-- ---- the tests of an answer

abbrev pub FaultIn : Option End → Type 0
FaultIn None = Unit {0}
FaultIn (Some e) = EndIn e

or_else_in : (a b : Option End) → FaultIn a → FaultIn b → FaultIn (or_else a b)
or_else_in None b h k = k
or_else_in (Some e) b h k = h

bad_poke_in : (size : ℕ) (areas : List Area) (ps : List Poke) → FaultIn (bad_poke size areas ps)
bad_poke_in size areas [] = tt
bad_poke_in size areas (p ∷ ps) = by_test (poke_fits size areas p) (bad_poke_in size areas ps)
  where
    by_test : (b : Bool) → FaultIn (bad_poke size areas ps) → FaultIn (cond b (bad_poke size areas ps) (Some (BadPoke p.at (length p.bytes))))
    by_test true h = h
    by_test false h = tt

pokes_inside : (size : ℕ) (areas : List Area) (ps : List Poke) → bad_poke size areas ps ≡ None → All (PokeInside size) ps
pokes_inside size areas [] e = All-nil (PokeInside size)
pokes_inside size areas (p ∷ ps) e = by_test (poke_fits size areas p) refl e (λ z. pokes_inside size areas ps z)
  where
    by_test : (b : Bool) → poke_fits size areas p ≡ b → cond b (bad_poke size areas ps) (Some (BadPoke p.at (length p.bytes))) ≡ None
        → (bad_poke size areas ps ≡ None → All (PokeInside size) ps) → All (PokeInside size) (p ∷ ps)
    by_test true z e on = All-cons (PokeInside size) p ps (fits_inside size areas p z) (on e)
    by_test false z e on = cc

bad_pause_in : (in_start unlisted : Bool) (import ticks : ℕ) → FaultIn (bad_pause in_start unlisted import ticks)
bad_pause_in in_start unlisted import zero = tt
bad_pause_in true unlisted import (suc ticks) = tt
bad_pause_in false true import (suc ticks) = tt
bad_pause_in false false import (suc ticks) = tt

module _ (results : List ValType) (size : ℕ) (plan : Plan) (in_start : Bool) (import : ℕ) (a : Answer) where
  pub fault_in : AnswerFits a → FaultIn (fault_of results size plan in_start import a)
  fault_in f =
      or_else_in _ _ (by_said a.said f.said)
      (or_else_in (bad_poke size (plan.area ∷ plan.others) a.pokes) _ (bad_poke_in size (plan.area ∷ plan.others) a.pokes) (bad_pause_in in_start (is_unlisted plan.listed import) import a.ticks))
    where
      by_value : (v : Option Value) → ValueFits v → (b : Bool) → FaultIn (cond b None (Some (BadAnswer import v)))
      by_value v h true = tt
      by_value v h false = h

      by_said : (said : Said) → SaidFits said → FaultIn (bad_value results import said)
      by_said (S.Value v) h = by_value v h (answers results v)
      by_said S.Trap h = tt

  pub fault_pokes : fault_of results size plan in_start import a ≡ None → All (PokeInside size) a.pokes
  fault_pokes e = pokes_inside size (plan.area ∷ plan.others) a.pokes (pokes_pass results size plan in_start import a e)

pub refusal_in : (e : End) → IsRefusal e → EndIn e
refusal_in (BadAnswer import value) h = absurd h
refusal_in (UnwindTrap trap used len) h = absurd h
refusal_in _ h = tt

-- ---- notes

pub note_in : (low : ℕ) (e : Event) (s : Store) → EventIn e → StoreIn low s → NoteIn low (note e s)
note_in low e s h ok = record { event = h; store = ok; stack = All-nil SuspendedIn; pause = tt; since = tt }

pub call_note_in : (low import : ℕ) (args : List Value) (s : Store) (stack : List Suspended) (pause : Option ℕ) → ValuesIn args → StoreIn low s
    → All SuspendedIn stack → TicksIn pause → NoteIn low (call_note import args s stack pause)
call_note_in low import args s stack pause va ok h k = record { event = va; store = ok; stack = h; pause = k; since = tt }

pub one_note : (low : ℕ) (x : Note) → NoteIn low x → All (NoteIn low) (x ∷ [])
one_note low x h = All-cons (NoteIn low) x [] h (All-nil (NoteIn low))

pub two_notes : (low : ℕ) (x y : Note) → NoteIn low x → NoteIn low y → All (NoteIn low) (x ∷ y ∷ [])
two_notes low x y h k = All-cons (NoteIn low) x (y ∷ []) h (one_note low y k)

pub done_in : (low : ℕ) (s : Store) (es : List Entry) → StoreIn low s → All (NoteIn low) (done_notes s es)
done_in low s [] ok = one_note low (note (ended Done) s) (note_in low (ended Done) s tt ok)
done_in low s (e ∷ es) ok = All-nil (NoteIn low)

suspended_in : (m : Module) (a : Activation) → ActivationIn a → SuspendedIn (suspended m a)
suspended_in m a h = record { locals = h.locals; operands = joined_in a.taken a.operands h.taken h.operands }

suspended_all : (m : Module) (stack : List Activation) → All ActivationIn stack → All SuspendedIn (map (suspended m) stack)
suspended_all m [] h = All-nil SuspendedIn
suspended_all m (a ∷ stack) h = All-cons SuspendedIn _ _ (suspended_in m a (All-head ActivationIn a stack h)) (suspended_all m stack (All-tail ActivationIn a stack h))

pub stack_in : (low : ℕ) (m : Module) (w : Asker) → AskerIn low w → All SuspendedIn (stack_at m w)
stack_in low m (inside task c) h = suspended_all m (c.here ∷ c.under) (All-cons ActivationIn c.here c.under h.1.here h.1.under)
stack_in low m (outermost s) h = All-nil SuspendedIn

pub asker_store : (low : ℕ) (w : Asker) → AskerIn low w → StoreIn low (store_at w)
asker_store low (inside task c) h = h.1.store
asker_store low (outermost s) h = h

pub ticks_in : (n : ℕ) → n < 2 ^ 32 → TicksIn (pause_of n)
ticks_in zero h = tt
ticks_in (suc n) h = h

pub result_in : (vs : List Value) → ValuesIn vs → ValueFits (value_of_results vs)
result_in [] h = tt
result_in (v ∷ vs) h = first_in v vs h

pub optional_in : (o : Option Value) → ValueFits o → ValuesIn (option_to_list o)
optional_in None h = none_in
optional_in (Some v) h = more_in v [] h none_in

-- what waited goes on
pub resumed_in : (low : ℕ) (c : Configuration) (s : Store) (results : List Value) → WaitsIn c → StoreIn low s → ValuesIn results → ConfigurationIn low (resumed c s results)
resumed_in low c s results h ok vs =
    running_in low s c.here.func c.under c.here.locals (results ++ c.here.operands) c.here.code c.here.labels ok h.under h.here.locals
    (joined_in results c.here.operands vs h.here.operands) h.here.code h.here.labels

pub waits_in : (low : ℕ) (c : Configuration) → ConfigurationIn low c → WaitsIn c
waits_in low c h = record { here = h.here; under = h.under }
