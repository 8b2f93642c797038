-- What is put behind a list of instructions.
use Rattle.std.proofs.Common.{◌≡◌, ℕ, ◌+◌, ◌<◌, ◌≤◌, ◌∷◌, ◌++◌, List, [], length, get_or, take, Option, None, Result, refl, sym, ap, subst, ◌∙◌}
use Rattle.std.specs.Result.{OnOk}
use Rattle.std.proofs.lemmas.List.{take_more, take_all}
use Rattle.std.proofs.lemmas.Result.{on_ok_weaker}
use Rattle.std.specs.declared.vec.Vec.{Vec}
use Rattle.std.specs.declared.alloc.Global.{Global}
use Rattle.wa_types.specs.declared.values.ValType.{ValType}
use Rattle.wa_types.specs.declared.values.ValType.TheVariants.{I32}
use Rattle.wa_types.specs.declared.values.Value.{Value}
use Rattle.wa_types.specs.declared.values.Value.TheVariants as V
use Rattle.wa_types.specs.declared.instrs.Instr.{Instr}
use Rattle.wa_types.specs.declared.operators.NumOp.{NumOp}
use Rattle.wa_types.specs.declared.operators.NumOp.TheVariants.{I32LtU, I32Sub}
use Rattle.wa_types.specs.declared.instrs.Instr.TheVariants.{Unreachable, Const, Num, LocalGet, LocalSet, LocalTee, GlobalGet, Load, Store, If}
use Rattle.wa_types.specs.Syntax.{const, num, global_get, load, store, basic, local_get, local_set, unreachable, Code, done, plain, branch}
use Rattle.wa_types.specs.View.{in_front, onto, code}
use Rattle.wa_types.proofs.ViewLemmas.{in_if, onto_append, onto_done, onto_none}
use Rattle.local_spill.specs.declared.frames.Place.{Place}
use Rattle.local_spill.specs.Putting.{Puts}
use Rattle.local_spill.specs.Spilling.{stored_value, loaded_value, locals_stored, locals_loaded, index_saved, index_restored, location_of, location_taken, room_tested}

-- one instruction
pub put_one : (old new : List Instr) (x : Instr) (f : Code → Code) → new ≡ old ++ x ∷ [] → ((rest : Code) → in_front x rest ≡ f rest) → Puts old new f
put_one old new x f e is rest = ap (λ s. onto s rest) e ∙ onto_append old x rest ∙ ap (onto old) (is rest)

pub put_on : (old mid new : List Instr) (f g : Code → Code) → Puts old mid f → Puts mid new g → Puts old new (λ c. f (g c))
put_on old mid new f g h k rest = k rest ∙ h (g rest)

onto_all : (old xs : List Instr) (rest : Code) → onto (old ++ xs) rest ≡ onto old (onto xs rest)
unfolding onto
onto_all [] xs rest = refl
onto_all (x ∷ old) xs rest = ap (in_front x) (onto_all old xs rest)

pub put_these : (old new xs : List Instr) → new ≡ old ++ xs → Puts old new (onto xs)
put_these old new xs e rest = ap (λ l. onto l rest) e ∙ onto_all old xs rest

-- what put instructions stand for
pub put_as : {E : Type 0} (r : Result (Unit {0}) E) (old new : List Instr) (f g : Code → Code) → ((rest : Code) → g rest ≡ f rest) → OnOk r (Puts old new g) → OnOk r (Puts old new f)
put_as r old new f g same = on_ok_weaker r (λ h rest. h rest ∙ ap (onto old) (same rest))

-- behind nothing
pub put_first : (old new : List Instr) (f : Code → Code) → old ≡ [] → Puts old new f → (rest : Code) → onto new rest ≡ f rest
put_first old new f e h rest = h rest ∙ ap (λ s. onto s (f rest)) e ∙ onto_none (f rest)

pub nothing_is : (new : List Instr) (rest : Code) → new ≡ [] → onto new rest ≡ rest
nothing_is new rest e = ap (λ s. onto s rest) e ∙ onto_none rest

-- as the whole code
pub whole : (new : List Instr) (c : Code → Code) → ((rest : Code) → onto new rest ≡ c rest) → code new ≡ c done
whole new c h = sym (onto_done new) ∙ h done

-- ---- single instructions

pub get_is : (x : ℕ) (rest : Code) → in_front (LocalGet x) rest ≡ plain (local_get x) rest
unfolding in_front
get_is x rest = refl

pub set_is : (x : ℕ) (rest : Code) → in_front (LocalSet x) rest ≡ plain (local_set x) rest
unfolding in_front
set_is x rest = refl

pub const_is : (v : Value) (rest : Code) → in_front (Const v) rest ≡ plain (basic (const v)) rest
unfolding in_front
const_is v rest = refl

pub num_is : (op : NumOp) (rest : Code) → in_front (Num op) rest ≡ plain (basic (num op)) rest
unfolding in_front
num_is op rest = refl

pub global_is : (x : ℕ) (rest : Code) → in_front (GlobalGet x) rest ≡ plain (basic (global_get x)) rest
unfolding in_front
global_is x rest = refl

-- the location lowered: l loads it, s stores it
pub taken_put : (adr sp size : ℕ) (l s : Instr) → ((k : Code) → in_front l k ≡ loaded_value I32 0 k) → ((k : Code) → in_front s k ≡ stored_value I32 0 k)
    → (rest : Code) → onto (GlobalGet adr ∷ GlobalGet adr ∷ l ∷ Const (V.I32 size) ∷ Num I32Sub ∷ LocalTee sp ∷ s ∷ []) rest ≡ location_taken adr sp size rest
unfolding onto in_front
taken_put adr sp size l s is_l is_s rest =
    ap (λ k. in_front (GlobalGet adr) (in_front (GlobalGet adr) k)) (is_l _)
    ∙ ap (λ k. in_front (GlobalGet adr) (location_of adr (in_front (Const (V.I32 size)) (in_front (Num I32Sub) (in_front (LocalTee sp) k))))) (is_s rest)

-- the test for room: l loads the end of the area, m the location, and x traps
pub room_put : (adr sp size : ℕ) (l m x : Instr) → ((k : Code) → in_front l k ≡ loaded_value I32 4 k) → ((k : Code) → in_front m k ≡ loaded_value I32 0 k)
    → ((k : Code) → in_front x k ≡ branch None (plain unreachable done) done k) → (rest : Code)
    → onto (GlobalGet adr ∷ l ∷ GlobalGet adr ∷ m ∷ LocalTee sp ∷ Num I32Sub ∷ Const (V.I32 size) ∷ Num I32LtU ∷ x ∷ []) rest ≡ room_tested adr sp size rest
unfolding onto in_front
room_put adr sp size l m x is_l is_m is_x rest =
    ap (in_front (GlobalGet adr)) (is_l _)
    ∙ ap (λ k. in_front (GlobalGet adr) (loaded_value I32 4 (in_front (GlobalGet adr) k))) (is_m _)
    ∙ ap (λ k. in_front (GlobalGet adr) (loaded_value I32 4 (location_of adr (in_front (LocalTee sp) (in_front (Num I32Sub) (in_front (Const (V.I32 size)) (in_front (Num I32LtU) k))))))) (is_x rest)

pub store_is : (op align offset : ℕ) (rest : Code) → in_front (Store op align offset) rest ≡ plain (basic (store op align offset)) rest
unfolding in_front
store_is op align offset rest = refl

pub load_is : (op align offset : ℕ) (rest : Code) → in_front (Load op align offset) rest ≡ plain (basic (load op align offset)) rest
unfolding in_front
load_is op align offset rest = refl

unreachable_is : (rest : Code) → in_front Unreachable rest ≡ plain unreachable rest
unfolding in_front
unreachable_is rest = refl

-- an arm that traps
pub trap_is : (l0 l1 : List Instr) → l0 ≡ [] → l1 ≡ l0 ++ Unreachable ∷ [] → code l1 ≡ plain unreachable done
trap_is l0 l1 e f = whole l1 (plain unreachable) (put_first l0 l1 (plain unreachable) e (put_one l0 l1 Unreachable (plain unreachable) f unreachable_is))

-- an `if` without an else arm
pub if_is : (r : Option ValType) (v w : Vec Instr Global) (a : Code) → code v.items ≡ a → code w.items ≡ done → (rest : Code) → in_front (If r v w) rest ≡ branch r a done rest
if_is r v w a e f rest = in_if r v w rest ∙ ap (λ z. branch r z (code w.items) rest) e ∙ ap (λ z. branch r a z rest) f

pub no_code : (l : List Instr) → l ≡ [] → code l ≡ done
no_code l e = whole l (λ c. c) (λ rest. nothing_is l rest e)

-- ---- the call index

pub stored_index : (old new : List Instr) (ci sp off : ℕ) (p : Place) → p ≡ record { local = ci; ty = I32; offset = off }
    → Puts old new (λ c. plain (local_get sp) (plain (local_get p.local) (stored_value p.ty p.offset c))) → Puts old new (index_saved ci sp off)
stored_index old new ci sp off p e h = subst (λ (q : Place). Puts old new (λ c. plain (local_get sp) (plain (local_get q.local) (stored_value q.ty q.offset c)))) e h

pub loaded_index : (old new : List Instr) (ci sp off : ℕ) (p : Place) → p ≡ record { local = ci; ty = I32; offset = off }
    → Puts old new (λ c. plain (local_get sp) (loaded_value p.ty p.offset (plain (local_set p.local) c))) → Puts old new (index_restored ci sp off)
loaded_index old new ci sp off p e h = subst (λ (q : Place). Puts old new (λ c. plain (local_get sp) (loaded_value q.ty q.offset (plain (local_set q.local) c)))) e h

-- ---- all of a list

stored_append : (sp : ℕ) (ps : List Place) (p : Place) (c : Code)
    → locals_stored sp (ps ++ p ∷ []) c ≡ locals_stored sp ps (plain (local_get sp) (plain (local_get p.local) (stored_value p.ty p.offset c)))
stored_append sp [] p c = refl
stored_append sp (q ∷ ps) p c = ap (λ z. plain (local_get sp) (plain (local_get q.local) (stored_value q.ty q.offset z))) (stored_append sp ps p c)

pub stored_step : (old mid new : List Instr) (sp : ℕ) (ps : List Place) (i : ℕ) (d : Place) → i < length ps → Puts old mid (locals_stored sp (take i ps))
    → Puts mid new (λ c. plain (local_get sp) (plain (local_get (get_or ps i d).local) (stored_value (get_or ps i d).ty (get_or ps i d).offset c)))
    → Puts old new (locals_stored sp (take (i + 1) ps))
stored_step old mid new sp ps i d lt h k rest =
    let p : Place = get_or ps i d in
    k rest ∙ h (plain (local_get sp) (plain (local_get p.local) (stored_value p.ty p.offset rest))) ∙ ap (onto old) (sym (stored_append sp (take i ps) p rest))
    ∙ ap (λ z. onto old (locals_stored sp z rest)) (sym (take_more ps i d lt))

pub stored_end : (old new : List Instr) (sp : ℕ) (ps : List Place) (i : ℕ) → length ps ≤ i → Puts old new (locals_stored sp (take i ps)) → Puts old new (locals_stored sp ps)
stored_end old new sp ps i le h rest = h rest ∙ ap (λ z. onto old (locals_stored sp z rest)) (take_all i ps le)

loaded_append : (sp : ℕ) (ps : List Place) (p : Place) (c : Code)
    → locals_loaded sp (ps ++ p ∷ []) c ≡ locals_loaded sp ps (plain (local_get sp) (loaded_value p.ty p.offset (plain (local_set p.local) c)))
loaded_append sp [] p c = refl
loaded_append sp (q ∷ ps) p c = ap (λ z. plain (local_get sp) (loaded_value q.ty q.offset (plain (local_set q.local) z))) (loaded_append sp ps p c)

pub loaded_step : (old mid new : List Instr) (sp : ℕ) (ps : List Place) (i : ℕ) (d : Place) → i < length ps → Puts old mid (locals_loaded sp (take i ps))
    → Puts mid new (λ c. plain (local_get sp) (loaded_value (get_or ps i d).ty (get_or ps i d).offset (plain (local_set (get_or ps i d).local) c)))
    → Puts old new (locals_loaded sp (take (i + 1) ps))
loaded_step old mid new sp ps i d lt h k rest =
    let p : Place = get_or ps i d in
    k rest ∙ h (plain (local_get sp) (loaded_value p.ty p.offset (plain (local_set p.local) rest))) ∙ ap (onto old) (sym (loaded_append sp (take i ps) p rest))
    ∙ ap (λ z. onto old (locals_loaded sp z rest)) (sym (take_more ps i d lt))

pub loaded_end : (old new : List Instr) (sp : ℕ) (ps : List Place) (i : ℕ) → length ps ≤ i → Puts old new (locals_loaded sp (take i ps)) → Puts old new (locals_loaded sp ps)
loaded_end old new sp ps i le h rest = h rest ∙ ap (λ z. onto old (locals_loaded sp z rest)) (take_all i ps le)
