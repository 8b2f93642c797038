-- How often functions read the global of the state, which stands behind the module's own: those of the original don't; a written one does few times, where the
-- codes of its frame don't.
use Rattle.std.proofs.Common.{◌≡◌, ◌∙◌, ℕ, ◌+◌, ◌*◌, ◌≤◌, List, [], ◌∷◌, Option, Some, None, Bool, refl, ap, arith}
use Rattle.std.specs.Prelude.{◌≢◌, slice_get, if◌then◌else◌}
use Rattle.std.proofs.lemmas.Bool.{ne_eqb}
use Rattle.wa_types.specs.declared.values.ValType.{ValType}
use Rattle.wa_types.specs.declared.values.ValType.TheVariants.{I32, I64}
use Rattle.wa_types.specs.Modules.{defined_at}
use Rattle.wa_types.specs.Pausing.{Settings, Numbered}
use Rattle.wa_types.specs.Runtime.{global_space}
use Rattle.wa_types.specs.Syntax.{Plain, global_get, basic, return, a_block, Code, done, plain, nest, branch, Func, Module}
use Rattle.wa_types.specs.Typing.{Typed, listed}
use Rattle.wa_types.specs.Validity.{Valid}
use Rattle.run_theory.specs.Flat.{Stmts, code_of, followed_by, result_got}
use Rattle.run_theory.specs.Growth.{CodeNamed, PlainNamed, Spaces, spaces_of}
use Rattle.run_theory.proofs.FittingNames.{type_small, func_type_small}
use Rattle.run_theory.proofs.NamedModules.{typed_named, valid_named}
use Rattle.local_spill.specs.Spilling.{index_restored, index_saved, location_raised, locals_loaded, locals_stored}
use Rattle.local_spill.specs.declared.frames.Place.{Place}
use Rattle.frame_laws.specs.Function.{result_type, value_code}
use Rattle.frame_laws.specs.Layout.{Layout, fields_size, placed, restore_code, save_code}
use Rattle.guard_form.proofs.UnitCounts.{counted_law}
use Rattle.guard_form.specs.Bounds.{plain_reads, reads, reads_bound, unit_count}
use Rattle.flat_laws.specs.Flatten.{flattened}
use Rattle.guard_form.specs.Functions.{GuardedFunc, indices_of}
use Rattle.guard_form.specs.Guarded.{GuardIndices, nowhere, block_unit, written_body}
use Rattle.guard_form.specs.Pieces.{Units, first_piece, flat_units, units}
use Rattle.slim_laws.specs.SlimModule.{Pieces, SlimPieces, flat_terms}
use Rattle.guard_form.proofs.Grouped.{joins_law}
use Rattle.guard_form.proofs.EntrySizes.{entry_reads}
use Rattle.guard_form.proofs.Sizes.{reads_law}
use Rattle.flat_laws.proofs.Typing.{wide, body_types}
use Rattle.slim_laws.proofs.UnitSizes.{slimmer_law}
use Rattle.slim_laws.proofs.UnitsAlike.{units_alike}
use Rattle.flat_laws.proofs.ValidModules.{good_body, own_result}
use Rattle.emitted_form.specs.EmittedBy.{FrameCode, guarded_by, written_by}
use Rattle.emitted_form.proofs.EmittedBy.{defined_where}

module _ (st : ℕ) where
  -- ---- code that names globals below the state's

  plain_unread : (n : Spaces) (p : Plain) → n.globals ≤ st → PlainNamed n p → plain_reads st p ≡ 0
  plain_unread n (basic (global_get x)) le h = ap (λ b. if b then 1 else 0) (ne_eqb x st (λ e. absurd (omega (arith, e, le, h))))
  plain_unread n _ le h = refl

  unread : (n : Spaces) (c : Code) → n.globals ≤ st → CodeNamed n c → reads st c ≡ 0
  unread n done le h = refl
  unread n (plain p c) le h = let e = plain_unread n p le h.0 in let ih = unread n c le h.1 in omega arith
  unread n (nest s r b c) le h = let ib = unread n b le h.0 in let ih = unread n c le h.1 in omega arith
  unread n (branch r a b c) le h = let ia = unread n a le h.0 in let ib = unread n b le h.1 in let ih = unread n c le h.2 in omega arith

  -- ---- frames of a layout

  stored_unread : (sp : ℕ) (ps : List Place) (c : Code) → reads st (locals_stored sp ps c) ≡ reads st c
  stored_unread sp [] c = refl
  stored_unread sp (p ∷ ps) c = by p.ty (stored_unread sp ps c)
    where
      by : (t : ValType) → reads st (locals_stored sp ps c) ≡ reads st c → reads st (locals_stored sp (record { local = p.local; ty = t; offset = p.offset } ∷ ps) c) ≡ reads st c
      by I32 ih = omega arith
      by I64 ih = omega arith

  loaded_unread : (sp : ℕ) (ps : List Place) (c : Code) → reads st (locals_loaded sp ps c) ≡ reads st c
  loaded_unread sp [] c = refl
  loaded_unread sp (p ∷ ps) c = by p.ty (loaded_unread sp ps c)
    where
      by : (t : ValType) → reads st (locals_loaded sp ps c) ≡ reads st c → reads st (locals_loaded sp (record { local = p.local; ty = t; offset = p.offset } ∷ ps) c) ≡ reads st c
      by I32 ih = omega arith
      by I64 ih = omega arith

  address_unread : (adr : ℕ) → adr ≢ st → plain_reads st (basic (global_get adr)) ≡ 0
  address_unread adr h = ap (λ b. if b then 1 else 0) (ne_eqb adr st h)

  pub save_unread : (l : Layout) → l.address ≢ st → reads st (save_code l done) ≡ 0
  save_unread l h =
      let n = fields_size l.fields in
      let a = address_unread l.address h in
      let e = stored_unread l.scratch (placed 0 l.fields) (index_saved l.index l.scratch n (location_raised l.address l.scratch (n + 4) done)) in
      omega arith

  pub restore_unread : (l : Layout) → l.address ≢ st → reads st (restore_code l done) ≡ 0
  restore_unread l h =
      let a = address_unread l.address h in
      let e = loaded_unread l.scratch (placed 0 l.fields) (index_restored l.index l.scratch (fields_size l.fields) done) in
      omega arith

  result_unread : (o : Option ℕ) → reads st (result_got o) ≡ 0
  result_unread None = refl
  result_unread (Some x) = refl

  value_unread : (t : Option ValType) → reads st (value_code t) ≡ 0
  value_unread None = refl
  value_unread (Some t) = refl

-- code with more code behind it
reads_then : (st : ℕ) (c d : Code) → reads st (followed_by c d) ≡ reads st c + reads st d
unfolding followed_by
reads_then st done d = omega arith
reads_then st (plain p c) d = let ih = reads_then st c d in omega arith
reads_then st (nest s r b c) d = let ih = reads_then st c d in omega arith
reads_then st (branch r a b c) d = let ih = reads_then st c d in omega arith

-- a written body whose pieces and codes don't read the state
body_few : (i : GuardIndices) (restoring saving first : Code) (us : Units) (o : Option ℕ) (t : Option ValType)
    → reads i.state (followed_by first (flat_units us)) ≡ 0 → reads i.state restoring ≡ 0 → reads i.state saving ≡ 0
    → reads i.state (written_body i (followed_by restoring) (followed_by saving (value_code t)) done (block_unit first us o)) ≤ 4 * unit_count us + 2
body_few i restoring saving first us o t none r0 s0 =
    let q = entry_reads i (followed_by restoring) nowhere 1 0 first us (λ c. let e = reads_then i.state restoring c in omega arith) in
    let r = reads_law i nowhere 1 0 first us in
    let z = reads_then i.state (result_got o) (plain return done) in
    let g = result_unread i.state o in
    let y = reads_then i.state saving (value_code t) in
    let v = value_unread i.state t in
    omega arith

module _ (m : Module) (v : Valid m) where
  abbrev st : ℕ
  st = global_space m

  -- a function of the original
  pub own_unread : (i : ℕ) (f : Func) → slice_get m.funcs i ≡ Some f → reads st f.body ≡ 0
  own_unread i f e =
      let le : st ≤ st = omega arith in
      unread st (spaces_of m) f.body le ((valid_named m v).bodies i f e)

  -- its flat code
  flat_unread : (x : ℕ) (f : Func) → defined_at m x ≡ Some f → reads st (code_of (flattened m x f).body) ≡ 0
  flat_unread x f is =
      let at = defined_where m x f is in
      let le : st ≤ st = omega arith in
      let body : Code = nest a_block None (code_of (flattened m x f).body) (result_got (flattened m x f).result) in
      let typed : Typed (wide m f) body = body_types m f (func_type_small m v) (type_small m v) x (good_body m f (v.bodies at.0 f at.1)) (own_result m f) in
      let named = typed_named (wide m f) ((wide m f).result ∷ []) body (listed (wide m f).result) [] typed in
      unread st _ (code_of (flattened m x f).body) le named.0

  -- a function as it is written
  module _ (s : Settings) (which : List Bool) (codes : (index : ℕ) → Func → FrameCode) (x : ℕ) (f : Func) (is : defined_at m x ≡ Some f)
      (sp : SlimPieces m (Numbered m s which f) x f (codes x f).pieces) where
    abbrev gf : GuardedFunc
    gf = guarded_by m s which codes x f

    abbrev places : List ℕ
    places = Numbered m s which f

    abbrev stmts : Stmts
    stmts = (flattened m x f).body

    abbrev first0 : Code
    first0 = first_piece places 0 stmts

    abbrev units0 : Units
    units0 = units places 0 stmts

    abbrev ps : Pieces
    ps = (codes x f).pieces

    pieces_unread : reads st (followed_by ps.first (flat_units ps.units)) ≡ 0
    pieces_unread =
        let slim = slimmer_law (flat_terms m places x f) 0 (sp.out ∷ []) sp.out sp.here [] first0 ps.first units0 ps.units st sp.slim in
        slim.reading ∙ ap (reads st) (joins_law places 0 stmts) ∙ flat_unread x f is

    pub written_few : reads st (codes x f).restoring ≡ 0 → reads st (codes x f).saving ≡ 0 → reads st (written_by m s which codes x f).body ≤ reads_bound places stmts
    written_few r0 s0 =
        let result = (flattened m x f).result in
        let less = body_few (indices_of st gf) (codes x f).restoring (codes x f).saving ps.first ps.units result (result_type (flattened m x f).locals result) pieces_unread r0 s0 in
        let same = (units_alike (flat_terms m places x f) 0 (sp.out ∷ []) sp.out sp.here [] first0 ps.first units0 ps.units sp.slim).count in
        let count = (counted_law places 0 stmts).count in
        omega arith
