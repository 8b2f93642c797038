-- The body of a written function, put together.
use Rattle.std.proofs.Common.{◌≡◌, ◌∙◌, ℕ, ◌+◌, ◌-◌, ◌<◌, ◌≤◌, length, length-drop, get_or, map, take, drop, append_assoc, List, [], ◌∷◌, ◌++◌, Option, Some, None, refl, sym, ap, arith}
use Rattle.std.proofs.lemmas.List.{append-nil, map-append, take_more, take_all}
use Rattle.std.specs.declared.vec.Vec.{Vec}
use Rattle.std.specs.declared.alloc.Global.{Global}
use Rattle.wa_types.specs.declared.instrs.Instr.{Instr}
use Rattle.wa_types.specs.declared.instrs.Instr.TheVariants.{Block, Const}
use Rattle.wa_types.specs.Syntax.{a_block, basic, const, Code, done, nest, plain}
use Rattle.wa_types.specs.View.{code, onto, in_front}
use Rattle.wa_types.proofs.ViewLemmas.{in_block, onto_append, onto_done, onto_none}
use Rattle.wa_types.specs.declared.syntax.Run.{Run}
use Rattle.wa_types.specs.declared.values.ValType.{ValType}
use Rattle.wa_types.specs.declared.values.Value.{Value}
use Rattle.wa_model.specs.Step.{zero_of}
use Rattle.run_theory.specs.Flat.{followed_by}
use Rattle.run_theory.specs.FlatFits.{one_run}
use Rattle.local_spill.proofs.PutLemmas.{const_is}
use Rattle.frame_laws.specs.Function.{value_code}
use Rattle.flow_rewrite.proofs.PieceLemmas.{onto_then}

onto_both : (xs ys : List Instr) (rest : Code) → onto (xs ++ ys) rest ≡ onto xs (onto ys rest)
unfolding onto
onto_both [] ys rest = refl
onto_both (x ∷ xs) ys rest = ap (in_front x) (onto_both xs ys rest)

-- a value put, where there is a result
pub value_put : (old new : List Instr) (o : Option ValType) (t : ValType) (v : Value) → o ≡ Some t → v ≡ zero_of t → new ≡ old ++ Const v ∷ [] → code new ≡ onto old (value_code o)
value_put old new o t v is z e =
    ap code e ∙ sym (onto_done (old ++ Const v ∷ [])) ∙ onto_append old (Const v) done ∙ ap (onto old) (const_is v done ∙ ap (λ w. plain (basic (const w)) done) z)
    ∙ ap (λ p. onto old (value_code p)) (sym is)

pub value_none : (old : List Instr) (o : Option ValType) → o ≡ None → code old ≡ onto old (value_code o)
value_none old o is = sym (onto_done old) ∙ ap (λ p. onto old (value_code p)) (sym is)

-- code in a block, and behind it what saves, and a value
pub body_is : (b0 b1 b2 b3 e : List Instr) (v : Vec Instr Global) (t : Option ValType)
    → b0 ≡ [] → b1 ≡ b0 ++ Block None v ∷ [] → b2 ≡ b1 ++ e → code b3 ≡ onto b2 (value_code t) → code b3 ≡ nest a_block None (code v.items) (followed_by (code e) (value_code t))
body_is b0 b1 b2 b3 e v t e0 e1 e2 e3 =
    let k : Code = followed_by (code e) (value_code t) in
    e3 ∙ ap (λ xs. onto xs (value_code t)) e2 ∙ onto_both b1 e (value_code t) ∙ ap (onto b1) (onto_then e (value_code t))
    ∙ ap (λ xs. onto xs k) e1 ∙ onto_append b0 (Block None v) k ∙ ap (λ xs. onto xs (in_front (Block None v) k)) e0 ∙ onto_none (in_front (Block None v) k) ∙ in_block None v k

-- ---- runs

pub runs_first : (old : List Run) (types : List ValType) → old ≡ old ++ map one_run (take 0 types)
runs_first old types = sym (append-nil old)

pub runs_step : (old out new : List Run) (types : List ValType) (i : ℕ) (d : ValType) → i < length types → new ≡ out ++ one_run (get_or types i d) ∷ [] → out ≡ old ++ map one_run (take i types)
    → new ≡ old ++ map one_run (take (i + 1) types)
runs_step old out new types i d lt e before =
    e ∙ ap (λ rs. rs ++ one_run (get_or types i d) ∷ []) before ∙ append_assoc old (map one_run (take i types)) (one_run (get_or types i d) ∷ [])
    ∙ ap (λ rs. old ++ rs) (sym (map-append one_run (take i types) (get_or types i d ∷ [])) ∙ ap (map one_run) (sym (take_more types i d lt)))

pub runs_end : (old out : List Run) (types : List ValType) (i : ℕ) → length types ≤ i → out ≡ old ++ map one_run (take i types) → out ≡ old ++ map one_run types
runs_end old out types i le before = before ∙ ap (λ ts. old ++ map one_run ts) (take_all i types le)

pub runs_are : (runs out mid new : List Run) (locals part three : List ValType) (own len : ℕ) → out ≡ runs → len ≡ length locals → own ≤ length locals
    → part ≡ take (len - own) (drop own locals) → mid ≡ out ++ map one_run part
    → new ≡ mid ++ map one_run three → new ≡ runs ++ map one_run (drop own locals ++ three)
runs_are runs out mid new locals part three own len eo el le ep em en =
    let all : take (len - own) (drop own locals) ≡ drop own locals = take_all (len - own) (drop own locals) (let l = length-drop own locals in omega arith) in
    en ∙ ap (λ rs. rs ++ map one_run three) (em ∙ ap (λ rs. rs ++ map one_run part) eo ∙ ap (λ ts. runs ++ map one_run ts) (ep ∙ all))
    ∙ append_assoc runs (map one_run (drop own locals)) (map one_run three) ∙ ap (λ rs. runs ++ rs) (sym (map-append one_run (drop own locals) three))
