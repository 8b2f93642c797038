-- The values that a program's imported globals are given have their types.
use Rattle.std.proofs.Common.{◌≡◌, ℕ, List, [], ◌∷◌, map, Option, Some, None, Bool, true, false, ◌||◌, ◌&&◌, not, ap, sym, ◌∙◌, refl, if◌then◌else◌}
use Rattle.std.proofs.Common.{Result, Ok, Err}
use Rattle.std.specs.List.{list_any, filter_map, cons_option}
use Rattle.std.specs.Option.{option_or, unwrap_or}
use Rattle.std.specs.Str.{bytes_eq}
use Rattle.std.proofs.lemmas.Slice.Eq.{bytes_eq-Decides}
use Rattle.wa_types.specs.declared.values.ValType.{ValType}
use Rattle.wa_types.specs.declared.values.ValType.TheVariants.{I32, I64}
use Rattle.wa_types.specs.declared.values.Value.{Value}
use Rattle.wa_types.specs.declared.syntax.Import.{Import}
use Rattle.wa_types.specs.Encoding.{same_type}
use Rattle.wa_types.specs.Modules.{imported, imported_global}
use Rattle.wa_types.specs.Pausing.{joined_name}
use Rattle.wa_types.specs.Syntax.{Module}
use Rattle.wa_types.specs.Typing.{GlobalType, type_of}
use Rattle.run_theory.specs.Fitting.{types_of, global_types}
use Rattle.script_model.specs.Script.{GlobalText, ProgramText}
use Rattle.wa_model.specs.Step.{zero_of}
use Rattle.host_setup.specs.SetUp as H
use Rattle.script_setup.proofs.FirstPlaces.{none_found}
use Rattle.script_setup.specs.SetUpRules.{SetUp, has_type, is_global, imports_global, is_set, other_type, bad_global, last_value, value_or_zero, global_values, told_at, global_line}
use Rattle.script_setup.specs.SetUpRules.{show_line, bad_show, unless_told, told_funcs, told_line, misbound_line, with_lines, set_up_rules, named_entry, asked_area, entries_in, overlap_line}

-- ---- no line is bad

pub left_false : (a b : Bool) → (a || b) ≡ false → a ≡ false
left_false true b h = h
left_false false b h = refl

pub right_false : (a b : Bool) → (a || b) ≡ false → b ≡ false
right_false true b h = cc
right_false false b h = h

both_true : (a b : Bool) → (a && b) ≡ true → (a ≡ true) × (b ≡ true)
both_true true b h = (refl, h)
both_true false b h = cc

not_false : (a : Bool) → not a ≡ false → a ≡ true
not_false true h = refl
not_false false h = cc

not_true : (a : Bool) → not a ≡ true → a ≡ false
not_true true h = cc
not_true false h = refl

-- ---- the line that wins

pub record Wins (imports : List Import) (name : List ℕ) (v : Value) : Type 0 where
  pub line : GlobalText
  pub lawful : is_set imports line ≡ true
  pub named : bytes_eq line.name name ≡ true
  pub value : line.value ≡ v

abbrev unset : List Import → GlobalText → Bool
unset imports g = not (is_set imports g)

winner : (imports : List Import) (name : List ℕ) (v : Value) (gs : List GlobalText) → list_any (unset imports) gs ≡ false → last_value name gs ≡ Some v → Wins imports name v
winner imports name v [] h e = cc
winner imports name v (g ∷ gs) h e = by_later (last_value name gs) refl e (winner imports name v gs (right_false (unset imports g) (list_any (unset imports) gs) h)) where
  own : (b : Bool) → bytes_eq g.name name ≡ b → (if b then Some g.value else None) ≡ Some v → Wins imports name v
  own true n is = record { line = g; lawful = not_false (is_set imports g) (left_false (unset imports g) (list_any (unset imports) gs) h); named = n; value = cc }
  own false n is = cc

  by_later : (o : Option Value) → last_value name gs ≡ o → option_or o (if bytes_eq g.name name then Some g.value else None) ≡ Some v → (last_value name gs ≡ Some v → Wins imports name v)
      → Wins imports name v
  by_later (Some w) later is more = more (later ∙ is)
  by_later None later is more = own (bytes_eq g.name name) refl is

-- ---- types

same_types : (a b : ValType) → (same_type a (other_type b) ≡ true → ⊥) → b ≡ a
same_types I32 I32 h = refl
same_types I64 I64 h = refl
same_types I32 I64 h = absurd (h refl)
same_types I64 I32 h = absurd (h refl)

zero_typed : (ty : ValType) → type_of (zero_of ty) ≡ ty
zero_typed I32 = refl
zero_typed I64 = refl

-- none of the imports of this name has this type
abbrev NoneIs : List Import → List Import → Type 0
NoneIs imports xs = (name : List ℕ) (ty : ValType) → imports_global imports name ty ≡ false → imports_global xs name ty ≡ false

module _ (imports : List Import) (gs : List GlobalText) (lawful : list_any (unset imports) gs ≡ false) where
  typed : (x : Import) (xs : List Import) → NoneIs imports (x ∷ xs) → (g : GlobalType) → imported_global x.kind ≡ Some g → (told : Option Value) → last_value (joined_name x) gs ≡ told
      → type_of (unwrap_or told (zero_of g.ty)) ≡ g.ty
  typed x xs none g is None e = zero_typed g.ty
  typed x xs none g is (Some v) e =
      let w = winner imports (joined_name x) v gs lawful e in
      let parts = both_true (imports_global imports w.line.name (type_of w.line.value)) (not (imports_global imports w.line.name (other_type (type_of w.line.value)))) w.lawful in
      let no : imports_global imports w.line.name (other_type (type_of w.line.value)) ≡ false = not_true (imports_global imports w.line.name (other_type (type_of w.line.value))) parts.1 in
      let here : is_global w.line.name (other_type (type_of w.line.value)) x ≡ false =
      left_false (is_global w.line.name (other_type (type_of w.line.value)) x) (imports_global xs w.line.name (other_type (type_of w.line.value)))
      (none w.line.name (other_type (type_of w.line.value)) no) in
      same_types g.ty (type_of v) (λ same. differ w here same)
    where
      differ : (w : Wins imports (joined_name x) v) → is_global w.line.name (other_type (type_of w.line.value)) x ≡ false → same_type g.ty (other_type (type_of v)) ≡ true → ⊥
      differ w here same =
          let name : joined_name x ≡ w.line.name = sym ((bytes_eq-Decides w.line.name (joined_name x)).0 w.named) in
          let named : bytes_eq (joined_name x) w.line.name ≡ true = (bytes_eq-Decides (joined_name x) w.line.name).1 name in
          let has : has_type (other_type (type_of w.line.value)) (imported_global x.kind) ≡ true =
          ap (λ (o : Option GlobalType). has_type (other_type (type_of w.line.value)) o) is ∙ ap (λ (u : Value). same_type g.ty (other_type (type_of u))) w.value ∙ same in
          let yes : is_global w.line.name (other_type (type_of w.line.value)) x ≡ true =
          ap (λ (b : Bool). b && has_type (other_type (type_of w.line.value)) (imported_global x.kind)) named ∙ has in
          cc

  all_typed : (xs : List Import) → NoneIs imports xs
      → types_of (filter_map (λ (i : Import). value_or_zero (imported_global i.kind) (last_value (joined_name i) gs)) xs) ≡ global_types (filter_map (λ (i : Import). imported_global i.kind) xs)
  all_typed [] none = refl
  all_typed (x ∷ xs) none = by (imported_global x.kind) refl (all_typed xs (λ name ty no. right_false (is_global name ty x) (imports_global xs name ty) (none name ty no))) where
    rest : List Value
    rest = filter_map (λ (i : Import). value_or_zero (imported_global i.kind) (last_value (joined_name i) gs)) xs

    by : (o : Option GlobalType) → imported_global x.kind ≡ o → types_of (filter_map (λ (i : Import). value_or_zero (imported_global i.kind) (last_value (joined_name i) gs)) xs)
        ≡ global_types (filter_map (λ (i : Import). imported_global i.kind) xs)
        → types_of (cons_option (value_or_zero o (last_value (joined_name x) gs)) (filter_map (λ (i : Import). value_or_zero (imported_global i.kind) (last_value (joined_name i) gs)) xs))
        ≡ global_types (cons_option o (filter_map (λ (i : Import). imported_global i.kind) xs))
    by None is more = more
    by (Some g) is more =
        ap (λ (t : ValType). t ∷ types_of (filter_map (λ (i : Import). value_or_zero (imported_global i.kind) (last_value (joined_name i) gs)) xs))
        (typed x xs none g is (last_value (joined_name x) gs) refl)
        ∙ ap (λ (ts : List ValType). g.ty ∷ ts) more

-- ---- of a set-up

-- no line breaks a rule
no_line_bad : (o p n s : Option ℕ) (t : ProgramText) (x y : SetUp)
    → unless_told (option_or (told_at 14 (global_line t) o) (option_or (told_at 15 (show_line t) p) (option_or (told_line 16 n) (told_line 19 s)))) x ≡ Ok y
    → (o ≡ None) × (p ≡ None) × (n ≡ None) × (s ≡ None) × (x ≡ y)
no_line_bad (Some i) p n s t x y e = cc
no_line_bad None (Some i) n s t x y e = cc
no_line_bad None None (Some i) s t x y e = cc
no_line_bad None None None (Some i) t x y e = cc
no_line_bad None None None None t x y e = (refl, refl, refl, refl, cc)

-- What a program is given: the functions of the entries of all its strands, and values of its globals' types. The areas of its strands
-- don't overlap; where it runs, no range of memory that is shown overlaps any; no import is bound to a mailbox that neither sends nor
-- receives.
pub record Given (runs : Bool) (boxes : List (List ℕ)) (p : Module) (t : ProgramText) (up : SetUp) : Type 0 where
  pub funcs : H.set_up p (asked_area p t).area (map named_entry (entries_in t)) ≡ Ok up.funcs
  pub values : up.globals ≡ global_values p.imports t.globals
  pub globals : types_of up.globals ≡ global_types (imported imported_global p)
  pub shows : bad_show runs t.area t.strands t.shows ≡ None
  pub mail : misbound_line boxes p t.binds ≡ None
  pub apart : overlap_line (t.area ∷ []) t.strands ≡ None

pub given_by_rules : (runs : Bool) (boxes : List (List ℕ)) (p : Module) (t : ProgramText) (up : SetUp) → set_up_rules runs boxes p t ≡ Ok up → Given runs boxes p t up
given_by_rules runs boxes p t up e = by (H.set_up p (asked_area p t).area (map named_entry (entries_in t))) refl e where
  by : (r : Result (List ℕ) H.Fault) → H.set_up p (asked_area p t).area (map named_entry (entries_in t)) ≡ r → with_lines runs boxes p t (told_funcs (asked_area p t) t r) ≡ Ok up → Given runs boxes p t up
  by (Err f) is h = cc
  by (Ok funcs) is h =
      let n = no_line_bad (bad_global p.imports t.globals) (bad_show runs t.area t.strands t.shows) (misbound_line boxes p t.binds) (overlap_line (t.area ∷ []) t.strands) t
      (record { funcs = funcs; globals = global_values p.imports t.globals }) up h in
      let values : up.globals ≡ global_values p.imports t.globals = sym (ap (λ (x : SetUp). x.globals) n.4) in
      record {
        funcs = is ∙ ap (λ (x : SetUp). Ok x.funcs) n.4;
        values = values;
        globals = ap (λ (vs : List Value). types_of vs) values ∙ all_typed p.imports t.globals (none_found (unset p.imports) t.globals n.0) p.imports (λ name ty no. no);
        shows = n.1;
        mail = n.2;
        apart = n.3;
      }
