-- A valid module names only what is there.
use Rattle.std.proofs.Common.{◌≡◌, ℕ, zero, suc, ◌<◌, ◌++◌, List, [], ◌∷◌, map, Option, Some, None, Bool, true, refl, sym, ap, ◌∙◌, subst, length}
use Rattle.std.specs.Prelude.{nat_lt, slice_get}
use Rattle.std.specs.List.{flat_map}
use Rattle.std.proofs.lemmas.Bool.{ltb-true, and_parts}
use Rattle.std.proofs.lemmas.List.{length-map}
use Rattle.std.proofs.lemmas.List.Concat.{flat_map-append}
use Rattle.std.proofs.lemmas.List.Folds.{list_all-append}
use Rattle.std.proofs.lemmas.Option.{slice_get_within}
use Rattle.std.specs.Option.{option_to_list}
use Rattle.wa_types.specs.declared.values.ValType.{ValType}
use Rattle.wa_types.specs.declared.syntax.Space.TheVariants.{Func as a_func, Global as a_global}
use Rattle.wa_types.specs.Syntax.{global_get, global_set, Plain, basic, call, call_indirect, Code, done, plain, nest, branch, FuncType, GlobalDef, Elem, Segment, Module}
use Rattle.wa_types.specs.Typing.{GlobalType, Around, listed, label, calls, calls_at, gets_global, sets_global, sig, Takes, Types}
use Rattle.wa_types.specs.Modules.{func_sorts, type_at, all_globals, around}
use Rattle.wa_types.specs.Validity.{all_below, exported, got_global, expressions, Valid}
use Rattle.run_theory.specs.Growth.{Spaces, Each, PlainNamed, CodeNamed}
use Rattle.run_theory.proofs.GrownSteps.{ModuleNamed}

-- ---- tests of lists

pub each_below : (n : ℕ) (xs : List ℕ) → all_below n xs ≡ true → Each (λ x. x < n) xs
each_below n [] h = tt
each_below n (x ∷ xs) h = let b = and_parts (nat_lt x n) (all_below n xs) h in (ltb-true x n b.0, each_below n xs b.1)

below_parts : (n : ℕ) (xs ys : List ℕ) → all_below n (xs ++ ys) ≡ true → (all_below n xs ≡ true) × (all_below n ys ≡ true)
below_parts n xs ys h = and_parts (all_below n xs) (all_below n ys) (sym (list_all-append (λ x. nat_lt x n) xs ys) ∙ h)

below_at : (n : ℕ) (xs : List ℕ) (i x : ℕ) → all_below n xs ≡ true → slice_get xs i ≡ Some x → x < n
below_at n [] i x h e = cc
below_at n (y ∷ ys) zero x h e =
    let b = and_parts (nat_lt y n) (all_below n ys) h in
    let z : y ≡ x = cc in subst (λ v. v < n) z (ltb-true y n b.0)
below_at n (y ∷ ys) (suc i) x h e = below_at n ys i x (and_parts (nat_lt y n) (all_below n ys) h).1 e

-- what all elements give is below a number
each_given : {X : Type 0} (n : ℕ) (f : X → List ℕ) (xs : List X) → all_below n (flat_map f xs) ≡ true → Each (λ x. Each (λ y. y < n) (f x)) xs
each_given n f [] h = tt
each_given n f (x ∷ xs) h = let b = below_parts n (f x) (flat_map f xs) h in (each_below n (f x) b.0, each_given n f xs b.1)

each_mapped : {X : Type 0} (n : ℕ) (code : X → Code) (xs : List X) → all_below n (flat_map got_global (map code xs)) ≡ true → Each (λ x. Each (λ y. y < n) (got_global (code x))) xs
each_mapped n code [] h = tt
each_mapped n code (x ∷ xs) h = let b = below_parts n (got_global (code x)) (flat_map got_global (map code xs)) h in (each_below n (got_global (code x)) b.0, each_mapped n code xs b.1)

-- ---- code

called : (c : Around) (x : ℕ) (ins outs : List ValType) (o : Option FuncType) → slice_get c.funcs x ≡ o → Takes (calls o) ins outs → x < length c.funcs
called c x ins outs None e h = absurd h
called c x ins outs (Some t) e h = slice_get_within c.funcs x t e

called_through : (c : Around) (x : ℕ) (table : Bool) (ins outs : List ValType) (o : Option FuncType) → slice_get c.types x ≡ o → Takes (calls_at table o) ins outs → x < length c.types
called_through c x table ins outs None e h = absurd h
called_through c x table ins outs (Some t) e h = slice_get_within c.types x t e

got : (c : Around) (x : ℕ) (ins outs : List ValType) (o : Option GlobalType) → slice_get c.globals x ≡ o → Takes (gets_global o) ins outs → x < length c.globals
got c x ins outs None e h = absurd h
got c x ins outs (Some g) e h = slice_get_within c.globals x g e

put : (c : Around) (x : ℕ) (ins outs : List ValType) (o : Option GlobalType) → slice_get c.globals x ≡ o → Takes (sets_global o) ins outs → x < length c.globals
put c x ins outs None e h = absurd h
put c x ins outs (Some g) e h = slice_get_within c.globals x g e

-- the spaces of what stands around a body
abbrev spaces : Around → Spaces
spaces c = record { types = length c.types; funcs = length c.funcs; globals = length c.globals }

plain_named : (c : Around) (ls : List (Option ValType)) (p : Plain) (ins outs : List ValType) → Takes (sig c ls p) ins outs → PlainNamed (spaces c) p
plain_named c ls (basic (global_get x)) ins outs h = got c x ins outs (slice_get c.globals x) refl h
plain_named c ls (basic (global_set x)) ins outs h = put c x ins outs (slice_get c.globals x) refl h
plain_named c ls (call x) ins outs h = called c x ins outs (slice_get c.funcs x) refl h
plain_named c ls (call_indirect sort) ins outs h = called_through c sort c.table ins outs (slice_get c.types sort) refl h
plain_named c ls _ ins outs h = tt

pub typed_named : (c : Around) (ls : List (Option ValType)) (code : Code) (outs ins : List ValType) → Types c ls code outs ins → CodeNamed (spaces c) code
unfolding Types
typed_named c ls done outs ins h = tt
typed_named c ls (plain p rest) outs ins h = (plain_named c ls p ins h.0 h.1, typed_named c ls rest outs h.0 h.2)
typed_named c ls (nest s r body rest) outs ins h = (typed_named c (label s r ∷ ls) body (listed r) [] h.0, typed_named c ls rest outs (listed r ++ ins) h.1)
typed_named c ls (branch r a b rest) outs ins h =
    (typed_named c (r ∷ ls) a (listed r) [] h.2, typed_named c (r ∷ ls) b (listed r) [] h.3, typed_named c ls rest outs (listed r ++ h.0) h.4)

-- ---- modules

pub valid_named : (m : Module) → Valid m → ModuleNamed m
valid_named m v = record {
  sorts = λ x sort e. below_at (length m.types) (func_sorts m) x sort v.sorts e;
  bodies = λ i f e.
      subst (λ k. CodeNamed (record { types = length m.types; funcs = k; globals = length (all_globals m) }) f.body) (length-map (func_sorts m) (type_at m))
      (typed_named (around m f) ((around m f).result ∷ []) f.body (listed (around m f).result) [] (v.bodies i f e));
}

-- What instantiation names is there too.
pub record InstanceNamed (m : Module) : Type 0 where
  pub elem_offsets : Each (λ (e : Elem). Each (λ x. x < length (all_globals m)) (got_global e.offset)) m.elems
  pub segment_offsets : Each (λ (s : Segment). Each (λ x. x < length (all_globals m)) (got_global s.offset)) m.segments
  pub elem_funcs : Each (λ (e : Elem). Each (λ x. x < length (func_sorts m)) e.funcs) m.elems
  pub start : Each (λ x. x < length (func_sorts m)) (option_to_list m.start)

pub valid_instance : (m : Module) → Valid m → InstanceNamed m
valid_instance m v =
    let g : ℕ = length (all_globals m) in
    let f : ℕ = length (func_sorts m) in
    let inits : List Code = map (λ (d : GlobalDef). d.init) m.globals in
    let elems : List Code = map (λ (e : Elem). e.offset) m.elems in
    let segments : List Code = map (λ (s : Segment). s.offset) m.segments in
    let a = (below_parts g (exported a_global m) (flat_map got_global (expressions m)) v.globals).1 in
    let split : flat_map got_global (expressions m) ≡ (flat_map got_global inits ++ flat_map got_global elems) ++ flat_map got_global segments =
    flat_map-append got_global (inits ++ elems) segments ∙ ap (λ xs. xs ++ flat_map got_global segments) (flat_map-append got_global inits elems) in
    let b = below_parts g (flat_map got_global inits ++ flat_map got_global elems) (flat_map got_global segments) (ap (all_below g) (sym split) ∙ a) in
    let c = below_parts g (flat_map got_global inits) (flat_map got_global elems) b.0 in
    let d = below_parts f (exported a_func m ++ option_to_list m.start) (flat_map (λ (e : Elem). e.funcs) m.elems) v.funcs in
    record {
      elem_offsets = each_mapped g (λ (e : Elem). e.offset) m.elems c.1;
      segment_offsets = each_mapped g (λ (s : Segment). s.offset) m.segments b.1;
      elem_funcs = each_given f (λ (e : Elem). e.funcs) m.elems d.1;
      start = each_below f (option_to_list m.start) (below_parts f (exported a_func m) (option_to_list m.start) d.0).1;
    }
