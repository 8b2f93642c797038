-- Faults and the lines at which they are told.
use Rattle.std.proofs.Common.{◌≡◌, ℕ, ◌+◌, ◌<◌, List, [], ◌∷◌, length, map, get_or, slice_get, position, Option, Some, None, Bool, not, cond, nat_lt, ap, sym, ◌∙◌, refl}
use Rattle.std.proofs.Common.{Result}
use Rattle.std.specs.List.{prefix_len}
use Rattle.std.specs.Option.{option_map, unwrap_or}
use Rattle.std.proofs.lemmas.Option.{slice_get-map, slice_get_read}
use Rattle.std.proofs.lemmas.List.{length-map}
use Rattle.wa_types.specs.Syntax.{Module}
use Rattle.wa_types.specs.declared.syntax.Import.{Import}
use Rattle.script_model.specs.Script.{GlobalText, ProgramText, ScriptFault}
use Rattle.script_model.specs.ScriptText.{AreaText}
use Rattle.host_setup.specs.declared.faults.SetupFault.{SetupFault}
use Rattle.host_setup.specs.declared.faults.SetupFault.TheVariants as S
use Rattle.host_setup.specs.SetUp as H
use Rattle.host_setup.specs.Views as W
use Rattle.script_setup.specs.declared.fault.RuleFault.{RuleFault}
use Rattle.script_setup.specs.declared.fault.RuleFault.TheVariants.{Memory, Rule}
use Rattle.script_reader.specs.declared.script.GlobalText.{GlobalText as GlobalValue}
use Rattle.script_reader.specs.Views.{global_of}
use Rattle.script_setup.specs.declared.globals.Types.{Types}
use Rattle.script_setup.specs.Tables.{is_lawful, types_of}
use Rattle.script_setup.proofs.GlobalTables.{lawful_is_set}
use Rattle.script_setup.specs.SetUpRules.{bad_global, is_set, told_funcs, with_lines}
use Rattle.script_setup.specs.Views.{Blames, rule_fault}

prefix_map : {X Y : Type 0} (p : Y → Bool) (f : X → Y) (xs : List X) → prefix_len p (map f xs) ≡ prefix_len (λ x. p (f x)) xs
prefix_map p f [] = refl
prefix_map p f (x ∷ xs) = ap (λ (n : ℕ). cond (p (f x)) (1 + n) 0) (prefix_map p f xs)

-- the first place of a mapped list at which a test passes
pub position_map : {X Y : Type 0} (p : Y → Bool) (f : X → Y) (xs : List X) → position p (map f xs) ≡ position (λ x. p (f x)) xs
position_map p f xs =
    ap (λ (n : ℕ). cond (nat_lt n (length (map f xs))) (Some n) None) (prefix_map (λ y. not (p y)) f xs)
    ∙ ap (λ (n : ℕ). cond (nat_lt (prefix_len (λ x. not (p (f x))) xs) n) (Some (prefix_len (λ x. not (p (f x))) xs)) None) (length-map xs f)

-- the first places of two tests that agree
pub position_same : {X : Type 0} (p q : X → Bool) (xs : List X) → ((x : X) → p x ≡ q x) → position p xs ≡ position q xs
position_same p q xs e = ap (λ (n : ℕ). cond (nat_lt n (length xs)) (Some n) None) (prefix_same xs) where
  prefix_same : (ys : List _) → prefix_len (λ y. not (p y)) ys ≡ prefix_len (λ y. not (q y)) ys
  prefix_same [] = refl
  prefix_same (y ∷ ys) =
      ap (λ (b : Bool). cond (not b) (1 + prefix_len (λ y. not (p y)) ys) 0) (e y) ∙ ap (λ (n : ℕ). cond (not (q y)) (1 + n) 0) (prefix_same ys)

-- what stands at a place of a mapped list
pub line_at : {X Y : Type 0} (line : Y → ℕ) (f : X → Y) (xs : List X) (i : ℕ) (x : X) → i < length xs → x ≡ get_or xs i x → line (f x) ≡ unwrap_or (option_map line (slice_get (map f xs) i)) 0
line_at line f xs i x lt at = sym (ap (λ (o : Option _). unwrap_or (option_map line o) 0) (slice_get-map f xs i ∙ ap (option_map f) (slice_get_read xs (length xs) i x refl lt at)))

pub line_got : {X Y : Type 0} (line : Y → ℕ) (f : X → Y) (xs : List X) (i : ℕ) (x : X) → slice_get xs i ≡ Some x → line (f x) ≡ unwrap_or (option_map line (slice_get (map f xs) i)) 0
line_got line f xs i x e = sym (ap (λ (o : Option _). unwrap_or (option_map line o) 0) (slice_get-map f xs i ∙ ap (option_map f) e))

pub line_none : {X Y : Type 0} (line : Y → ℕ) (f : X → Y) (xs : List X) (i : ℕ) → slice_get xs i ≡ None → 0 ≡ unwrap_or (option_map line (slice_get (map f xs) i)) 0
line_none line f xs i e = sym (ap (λ (o : Option _). unwrap_or (option_map line o) 0) (slice_get-map f xs i ∙ ap (option_map f) e))

-- a fault of the module's set-up is told by its line and rule
pub fault_told : (asked : AreaText) (t : ProgramText) (fault : SetupFault) (told : Result (List ℕ) H.Fault) → W.Blames fault told → Blames (rule_fault asked t fault) (told_funcs asked t told)
fault_told asked t S.Memory told e = tt
fault_told asked t S.AreaBad told e = ap (told_funcs asked t) e
fault_told asked t (S.NoExports name) told e = ap (told_funcs asked t) e
fault_told asked t (S.EntryMissing entry) told e = ap (told_funcs asked t) e
fault_told asked t (S.EntryIsImport entry) told e = ap (told_funcs asked t) e
fault_told asked t (S.ArgTypes entry) told e = ap (told_funcs asked t) e

-- a fault of the functions is one of the whole
pub blames_on : (runs : Bool) (boxes : List (List ℕ)) (p : Module) (t : ProgramText) (fault : RuleFault) (told : Result (List ℕ) ScriptFault) → Blames fault told
    → Blames fault (with_lines runs boxes p t told)
blames_on runs boxes p t Memory told h = tt
blames_on runs boxes p t (Rule line rule) told h = ap (with_lines runs boxes p t) h

-- the first bad line, by a table of types
pub bad_global_found : (imports : List Import) (find : List ℕ → Types) (xs : List GlobalValue) → ((name : List ℕ) → find name ≡ types_of imports name)
    → position (λ (g : GlobalValue). not (is_lawful (find g.name) g.value)) xs ≡ bad_global imports (map global_of xs)
bad_global_found imports find xs tells =
    position_same (λ (g : GlobalValue). not (is_lawful (find g.name) g.value)) (λ (g : GlobalValue). not (is_set imports (global_of g))) xs
    (λ g. ap (λ (t : Types). not (is_lawful t g.value)) (tells g.name) ∙ ap not (lawful_is_set imports (global_of g)))
    ∙ sym (position_map (λ (g : GlobalText). not (is_set imports g)) global_of xs)
