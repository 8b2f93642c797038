-- A written function whose codes have their types has its type in the emitted module.
use Rattle.std.proofs.Common.{◌≡◌, ◌∙◌, ℕ, suc, ◌+◌, ◌<◌, List, [], ◌∷◌, ◌++◌, length, map, Option, Some, None, Bool, true, refl, sym, ap, subst, arith, length-append}
use Rattle.std.specs.Prelude.{slice_get, replicate}
use Rattle.std.proofs.lemmas.List.{append_assoc, append-nil, length-map}
use Rattle.std.proofs.lemmas.List.Concat.{flat_map-append}
use Rattle.wa_types.specs.declared.syntax.Run.{Run}
use Rattle.wa_types.specs.declared.values.ValType.{ValType}
use Rattle.wa_types.specs.declared.values.ValType.TheVariants.{I32, I64}
use Rattle.wa_types.specs.Base.{Base}
use Rattle.wa_types.specs.Frames.{Pair, SlotPairs, ResultPairs, Count}
use Rattle.wa_types.specs.Modules.{type_at, declared_locals, locals_of, around}
use Rattle.wa_types.specs.Pausing.{Settings, Numbered}
use Rattle.wa_types.specs.Runtime.{global_space, with_runtime}
use Rattle.wa_types.specs.Syntax.{a_block, return, Code, done, plain, nest, Func, Module}
use Rattle.wa_types.specs.Typing.{Around, Takes, gets, listed, Types, Typed}
use Rattle.wa_types.specs.Validity.{Valid}
use Rattle.run_theory.specs.Flat.{code_of, followed_by, result_got}
use Rattle.run_theory.specs.FlatFits.{one_run}
use Rattle.run_theory.specs.FlatTyped.{StmtsTyped}
use Rattle.run_theory.proofs.BaseValid.{base_has_memory}
use Rattle.run_theory.proofs.FittingNames.{type_small, func_type_small}
use Rattle.run_theory.proofs.RuntimeValid.{behind}
use Rattle.flat_laws.specs.Flatten.{flattened}
use Rattle.flat_laws.specs.FlatModule.{extra_types}
use Rattle.flat_laws.proofs.Typing.{wide, body_types, own_stmts}
use Rattle.flat_laws.proofs.ValidModules.{good_body, own_result}
use Rattle.guard_form.specs.Functions.{GuardedFunc, indices_of}
use Rattle.guard_form.proofs.FrontTypes.{body_from_law}
use Rattle.frame_laws.specs.Function.{result_type, value_code}
use Rattle.guard_form.proofs.PieceTypes.{pieces_law, types_then}
use Rattle.guard_form.specs.Pieces.{first_piece, units}
use Rattle.slim_laws.specs.Typed.{types_same}
use Rattle.slim_laws.specs.SlimModule.{Pieces, SlimPieces, flat_terms}
use Rattle.slim_laws.proofs.UnitsTyped.{typed_law}
use Rattle.emitted_form.specs.CodesHold.{CodeTyped, three}
use Rattle.emitted_form.specs.EmittedBy.{FrameCode, guarded_by, written_by}
use Rattle.emitted_form.proofs.EmittedBy.{emitted, same_around}
use Rattle.emitted_form.proofs.WiderTypes.{longer, types_longer, state_there, address_there, types_with_runtime, same_result, same_locals, stmts_wider}

-- the locals that one run each declares
pub runs_are : (ts : List ValType) → declared_locals (map one_run ts) ≡ ts
runs_are [] = refl
runs_are (t ∷ ts) = ap (λ us. t ∷ us) (runs_are ts)

-- a result is a local, whatever labels are around
result_anywhere : (c : Around) (ls more : List (Option ValType)) (o : Option ℕ) (outs ins : List ValType) → Types c ls (result_got o) outs ins → Types c more (result_got o) outs ins
unfolding Types
result_anywhere c ls more None outs ins h = h
result_anywhere c ls more (Some x) outs ins h = h

-- a value of its type
value_typed : (c d : Around) (ls more : List (Option ValType)) (o : Option ℕ) (outs : List ValType) → Types c ls (result_got o) outs []
    → Types d more (value_code (result_type c.locals o)) outs []
unfolding Types
value_typed c d ls more None outs h = h
value_typed c d ls more (Some x) outs h = by (slice_get c.locals x) h.1 h.2
  where
    by : (t : Option ValType) → Takes (gets t) [] h.0 → h.0 ≡ outs → Types d more (value_code t) outs []
    by None k e = absurd k
    by (Some I32) k e = (h.0, k, e)
    by (Some I64) k e = (h.0, k, e)

-- ---- a function

module _ (m : Module) (s : Settings) (which : List Bool) (codes : (index : ℕ) → Func → FrameCode) (x : ℕ) (f : Func) where
  abbrev g : Func
  g = written_by m s which codes x f

  abbrev flat_locals : List ValType
  flat_locals = (flattened m x f).locals

  -- the locals of the written function are those of the flat one, and three more
  pub written_locals : locals_of m g ≡ flat_locals ++ three
  written_locals =
      let ps : List ValType = (type_at m f.sort).params in
      let ds : List ValType = declared_locals f.locals in
      let a : List ValType = map (λ (p : Pair). p.ty) (SlotPairs m f) in
      let b : List ValType = map (λ (p : Pair). p.ty) (ResultPairs m f) in
      let runs : declared_locals (f.locals ++ map one_run (extra_types m f ++ three)) ≡ ds ++ (extra_types m f ++ three) =
      flat_map-append (λ (r : Run). replicate r.count r.ty) f.locals (map one_run (extra_types m f ++ three)) ∙ ap (λ ts. ds ++ ts) (runs_are (extra_types m f ++ three)) in
      ap (λ ts. ps ++ ts) runs
      ∙ sym (append_assoc ps ds (extra_types m f ++ three))
      ∙ sym (append_assoc (ps ++ ds) (a ++ b) three)
      ∙ ap (λ ts. ts ++ three) (sym (append_assoc (ps ++ ds) a b))

  abbrev context : List ValType → Around
  context ls = let c : Around = around m f in record { types = c.types; funcs = c.funcs; table = c.table; memory = c.memory; globals = c.globals; locals = ls; result = c.result }

  same_context : longer (wide m f) three ≡ around m g
  same_context =
      let a : List ValType = map (λ (p : Pair). p.ty) (SlotPairs m f) in
      let b : List ValType = map (λ (p : Pair). p.ty) (ResultPairs m f) in
      ap (λ ls. context (ls ++ three)) (sym (append_assoc (locals_of m f) a b)) ∙ ap context (sym written_locals)

  module _ (v : Valid m) (sort_there : f.sort < length m.types) (body : Typed (around m f) f.body) where
    abbrev c : Around
    c = around (emitted m s which codes) g

    -- what has a type among the flat locals has it in the emitted module
    to_written : (ls : List (Option ValType)) (code : Code) (outs ins : List ValType) → Types (wide m f) ls code outs ins → Types c ls code outs ins
    to_written ls code outs ins h =
        subst (λ d. Types d ls code outs ins) (sym (same_around m s which codes g))
        (types_with_runtime m v g sort_there ls code outs ins (subst (λ d. Types d ls code outs ins) same_context (types_longer (wide m f) three ls code outs ins h)))

    result_is : c.result ≡ (around m f).result
    result_is = ap (λ (d : Around). d.result) (same_around m s which codes g) ∙ same_result m v g sort_there

    locals_are : c.locals ≡ flat_locals ++ three
    locals_are = ap (λ (d : Around). d.locals) (same_around m s which codes g) ∙ same_locals m v g sort_there ∙ written_locals

    -- as many as are counted
    pub written_length : length c.locals ≡ Count m f
    written_length =
        let a : List ValType = map (λ (p : Pair). p.ty) (SlotPairs m f) in
        let b : List ValType = map (λ (p : Pair). p.ty) (ResultPairs m f) in
        let e = ap length locals_are in
        let n = length-append flat_locals three in
        let k = length-append (locals_of m f ++ a) b in
        let l = length-append (locals_of m f) a in
        let i = length-map (SlotPairs m f) (λ (p : Pair). p.ty) in
        let j = length-map (ResultPairs m f) (λ (p : Pair). p.ty) in omega arith

    state_is : slice_get c.globals (global_space m) ≡ Some (record { ty = I32; mutable = true })
    state_is = ap (λ (d : Around). slice_get d.globals (global_space m)) (same_around m s which codes g) ∙ state_there m v

    memory_is : c.memory ≡ true
    unfolding Base with_runtime
    memory_is = ap (λ (d : Around). d.memory) (same_around m s which codes g) ∙ base_has_memory m

    address_is : slice_get c.globals (suc (global_space m)) ≡ Some (record { ty = I32; mutable = true })
    address_is =
        let one : suc (global_space m) ≡ global_space m + 1 = omega arith in
        ap (λ k. slice_get c.globals k) one ∙ ap (λ (d : Around). slice_get d.globals (global_space m + 1)) (same_around m s which codes g) ∙ address_there m v

    index_is : slice_get c.locals (length flat_locals) ≡ Some I32
    index_is = ap (λ ls. slice_get ls (length flat_locals)) locals_are ∙ behind flat_locals three (length flat_locals) 0 (omega arith)

    abbrev own : Option ValType
    own = (around m f).result

    abbrev result : Option ℕ
    result = (flattened m x f).result

    flat_body : Typed (wide m f) (nest a_block None (code_of (flattened m x f).body) (result_got result))
    flat_body = body_types m f (func_type_small m v) (type_small m v) x (good_body m f body) (own_result m f)

    flat_result : Types (wide m f) (own ∷ []) (result_got result) (listed own) []
    unfolding Types
    flat_result = flat_body.1

    -- the result, inside any labels
    result_typed : (ls : List (Option ValType)) → Types c ls (result_got result) (listed c.result) []
    result_typed ls =
        subst (λ q. Types c ls (result_got result) (listed q) []) (sym result_is)
        (to_written ls (result_got result) (listed own) [] (result_anywhere (wide m f) (own ∷ []) ls result (listed own) [] flat_result))

    returned : (ls : List (Option ValType)) → Types c ls (followed_by (result_got result) (plain return done)) [] []
    unfolding Types
    returned ls =
        types_then c ls (result_got result) (plain return done) [] (listed c.result) [] (result_typed ls) ([], ([], sym (append-nil (listed c.result))), refl)

    -- a value in its place
    value_there : (ls : List (Option ValType)) → Types c ls (value_code (result_type flat_locals result)) (listed c.result) []
    value_there ls =
        let a : List ValType = map (λ (p : Pair). p.ty) (SlotPairs m f) in
        let b : List ValType = map (λ (p : Pair). p.ty) (ResultPairs m f) in
        subst (λ ts. Types c ls (value_code (result_type ts result)) (listed c.result) []) (sym (append_assoc (locals_of m f) a b))
        (subst (λ q. Types c ls (value_code (result_type (wide m f).locals result)) (listed q) []) (sym result_is) (value_typed (wide m f) c (own ∷ []) ls result (listed own) flat_result))

    -- inside its own block
    abbrev labels : List (Option ValType)
    labels = None ∷ None ∷ c.result ∷ []

    -- whose codes have their types has its type
    pub written_typed : SlimPieces m (Numbered m s which f) x f (codes x f).pieces → CodeTyped m x f (codes x f).restoring → CodeTyped m x f (codes x f).saving → Typed c g.body
    unfolding Types
    written_typed sp restores saves =
        let gf : GuardedFunc = guarded_by m s which codes x f in
        let ps : Pieces = (codes x f).pieces in
        let stmts : StmtsTyped c labels (flattened m x f).body =
        stmts_wider (wide m f) c to_written labels (flattened m x f).body
        (own_stmts m f (func_type_small m v) (type_small m v) (None ∷ c.result ∷ []) x (good_body m f body) (own_result m f)) in
        let first0 = first_piece (Numbered m s which f) 0 (flattened m x f).body in
        let units0 = units (Numbered m s which f) 0 (flattened m x f).body in
        body_from_law c (indices_of (global_space m) gf) (followed_by (codes x f).restoring) gf.saving done gf.body state_is index_is
        (λ ls next outs h. types_then c ls (codes x f).restoring next outs [] [] (restores c ls memory_is address_is locals_are) h)
        (types_then c (c.result ∷ []) (codes x f).saving (value_code (result_type flat_locals result)) (listed c.result) [] []
        (saves c (c.result ∷ []) memory_is address_is locals_are) (value_there (c.result ∷ []))) (
          refl,
          typed_law c labels (flat_terms m (Numbered m s which f) x f) 0 (sp.out ∷ []) sp.out sp.here [] first0 ps.first units0 ps.units [] sp.slim types_same
              (pieces_law c labels (Numbered m s which f) 0 (flattened m x f).body stmts),
          returned (None ∷ c.result ∷ []),
        )
