-- What an index of listed names has, one entry more.
use Rattle.std.proofs.Common.{◌≡◌, ℕ, List, [], ◌∷◌, ◌++◌, Option, Some, None, Bool, true, false, ◌||◌, nat_eq, refl, sym, ap, ◌∙◌}
use Rattle.std.specs.List.{starts_with}
use Rattle.std.specs.Option.{is_some}
use Rattle.std.specs.Cmp.Lexicographic.{pointwise, bytes_decides}
use Rattle.std.specs.Borrow.{Bor}
use Rattle.std.proofs.lemmas.Bool.Decides.{same_from_decides}
use Rattle.std.proofs.lemmas.List.Folds.{list_any-append}
use Rattle.wa_types.specs.declared.syntax.Import.{Import}
use Rattle.wa_types.specs.Modules.{imported_func}
use Rattle.wa_types.specs.Pausing.{Choice, beginning, exactly, names, is_listed, listed_import, joined_name}
use Rattle.std.specs.BTreeSet.{insert_key}
use Rattle.wasm_validate.proofs.OrderedNames.{by_name, any_named, one_more}
use Rattle.call_graph.specs.Index.{any_begins}
use Rattle.call_graph.proofs.ListLemmas.{names_exact}

or_false : (b : Bool) → (b || false) ≡ b
or_false true = refl
or_false false = refl

or_assoc : (a b c : Bool) → ((a || b) || c) ≡ (a || (b || c))
or_assoc true b c = refl
or_assoc false b c = refl

or_swap : (a b c : Bool) → ((a || c) || b) ≡ ((a || b) || c)
or_swap true b c = refl
or_swap false true true = refl
or_swap false true false = refl
or_swap false false c = or_false c

same_exact : (text name : List ℕ) → pointwise nat_eq name text ≡ names (exactly text) name
same_exact text name =
    same_from_decides {P = text ≡ name} (pointwise nat_eq name text) (names (exactly text) name) (λ h. sym ((bytes_decides name text).0 h), λ e. (bytes_decides name text).1 (sym e))
    (names_exact text name)

-- one beginning more
pub one_beginning : (keys texts new : List (Bor (List ℕ))) (t : Bor (List ℕ)) (text name : List ℕ) → new ≡ texts ++ t ∷ [] → t.now ≡ text
    → (any_named name keys || any_begins new name) ≡ ((any_named name keys || any_begins texts name) || names (beginning text) name)
one_beginning keys texts new t text name e is =
    ap (λ b. any_named name keys || b) (ap (λ l. any_begins l name) e ∙ list_any-append (λ (b : Bor (List ℕ)). starts_with nat_eq name b.now) texts (t ∷ [])
    ∙ ap (λ b. any_begins texts name || b) (or_false (starts_with nat_eq name t.now) ∙ ap (starts_with nat_eq name) is))
    ∙ sym (or_assoc (any_named name keys) (any_begins texts name) (names (beginning text) name))

-- one name more
pub one_name : (keys new texts : List (Bor (List ℕ))) (t : Bor (List ℕ)) (text name : List ℕ) → new ≡ insert_key by_name keys t → t.now ≡ text
    → (any_named name new || any_begins texts name) ≡ ((any_named name keys || any_begins texts name) || names (exactly text) name)
one_name keys new texts t text name e is =
    ap (λ b. b || any_begins texts name) (ap (any_named name) e ∙ one_more name t keys ∙ ap (λ b. any_named name keys || b) (ap (pointwise nat_eq name) is ∙ same_exact text name))
    ∙ or_swap (any_named name keys) (any_begins texts name) (names (exactly text) name)

pub marked : (choice : Choice) (i : Import) (b : Bool) → is_some (imported_func i.kind) ≡ true → b ≡ is_listed choice (joined_name i) → Some b ≡ listed_import choice i (imported_func i.kind)
marked choice i b h e = by_kind (imported_func i.kind) h
  where
    by_kind : (o : Option ℕ) → is_some o ≡ true → Some b ≡ listed_import choice i o
    by_kind None h = absurd (cc)
    by_kind (Some sort) h = ap Some e

pub unmarked : (choice : Choice) (i : Import) → is_some (imported_func i.kind) ≡ false → None ≡ listed_import choice i (imported_func i.kind)
unmarked choice i h = by_kind (imported_func i.kind) h
  where
    by_kind : (o : Option ℕ) → is_some o ≡ false → None ≡ listed_import choice i o
    by_kind None h = refl
    by_kind (Some sort) h = absurd (cc)

pub or_first : (a b : Bool) → a ≡ true → true ≡ (a || b)
or_first a b e = ap (λ c. c || b) (sym e)

pub or_second : (a b r : Bool) → a ≡ false → r ≡ b → r ≡ (a || b)
or_second a b r e f = f ∙ ap (λ c. c || b) (sym e)
