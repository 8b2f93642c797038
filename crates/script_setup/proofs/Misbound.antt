-- Names that are looked up, and the first line that is bad of those that win, from the last line on.
use Rattle.std.proofs.Common.{arith, ◌≡◌, ℕ, suc, ◌+◌, ◌-◌, ◌<◌, ◌≤◌, List, [], ◌∷◌, ◌++◌, length, map, get_or, take, drop, Option, Some, None, Bool, true, false, cond, ◌||◌, ◌&&◌, not, ap, sym, ◌∙◌, refl, if◌then◌else◌}
use Rattle.std.proofs.Math.Seq.{drop-cons}
use Rattle.std.specs.List.{list_any}
use Rattle.std.specs.Prelude.{String}
use Rattle.std.specs.Str.{bytes_eq}
use Rattle.std.specs.Borrow.{Bor}
use Rattle.std.specs.String.{string_bytes, string_cmp}
use Rattle.std.specs.declared.alloc.Global.{Global}
use Rattle.std.specs.BTreeMap.{is_at}
use Rattle.std.specs.BTreeSet.{BTreeSet, IsEmpty, UpdatesBy, contains_text, insert_key}
use Rattle.std.specs.Cmp.Lexicographic.{slice_cmp}
use Rattle.std.specs.Ordering.{nat_cmp}
use Rattle.std.proofs.lemmas.List.{take_more, take_all, drop_all, map_more, map-append}
use Rattle.std.proofs.lemmas.List.Folds.{list_any-append}
use Rattle.std.proofs.lemmas.Map.Text.{btree_set_updates_text}
use Rattle.wasm_validate.proofs.OrderedNames.{any_named, by_name, found, one_more}
use Rattle.wa_types.specs.declared.syntax.Import.{Import}
use Rattle.wa_types.specs.declared.values.ValType.{ValType}
use Rattle.wa_model.specs.Step.{same_types}
use Rattle.wa_types.specs.Modules.{imported_func}
use Rattle.wa_types.specs.Pausing.{joined_name}
use Rattle.wa_types.specs.Syntax.{Module}
use Rattle.script_model.specs.Script.{BindText, MailboxText}
use Rattle.script_reader.specs.declared.script.BindText.{BindText as BindValue}
use Rattle.script_reader.specs.declared.script.MailboxText.{MailboxText as MailboxValue}
use Rattle.script_reader.specs.Views.{bind_of, mailbox_of}
use Rattle.script_setup.specs.MailNames.{has_name, is_found_bad}
use Rattle.script_setup.specs.SetUpRules.{box_names, is_bound, is_unfit, is_unfit_import, misbound_line, winning_line}

-- ---- names

-- one name more among those kept in order
pub one_put : (old new : BTreeSet (Bor (List ℕ))) (key : Bor (List ℕ)) → new.keys ≡ insert_key by_name old.keys key → (name : List ℕ)
    → has_name new name ≡ (has_name old name || bytes_eq name key.now)
one_put old new key is name =
    found name new.keys ∙ ap (any_named name) is ∙ one_more name key old.keys ∙ ap (λ (b : Bool). b || bytes_eq name key.now) (sym (found name old.keys))

or_false : (b : Bool) → (b || false) ≡ b
or_false true = refl
or_false false = refl

or_last : (a b : Bool) → cond a true b ≡ (b || a)
or_last true true = refl
or_last true false = refl
or_last false true = refl
or_last false false = refl

-- the names of mailboxes, one more behind those before it
pub next_box : (old new : List ℕ → Bool) (xs : List MailboxValue) (i : ℕ) (x : MailboxValue) → i < length xs → x ≡ get_or xs i x
    → ((name : List ℕ) → old name ≡ list_any (bytes_eq name) (box_names (map mailbox_of (take i xs))))
    → ((name : List ℕ) → new name ≡ (old name || bytes_eq name x.name)) → (name : List ℕ) → new name ≡ list_any (bytes_eq name) (box_names (map mailbox_of (take (i + 1) xs)))
next_box old new xs i x lt at before now name =
    now name ∙ ap (λ (b : Bool). b || bytes_eq name x.name) (before name)
    ∙ ap (λ (b : Bool). list_any (bytes_eq name) (box_names (map mailbox_of (take i xs))) || b) (sym (or_false (bytes_eq name x.name)))
    ∙ sym (list_any-append (bytes_eq name) (box_names (map mailbox_of (take i xs))) (x.name ∷ []))
    ∙ ap (list_any (bytes_eq name)) (sym (map-append (λ (m : MailboxText). m.name) (map mailbox_of (take i xs)) (mailbox_of x ∷ [])))
    ∙ ap (λ (y : MailboxValue). list_any (bytes_eq name) (box_names (map mailbox_of (take i xs) ++ mailbox_of y ∷ []))) at
    ∙ ap (λ (ms : List MailboxText). list_any (bytes_eq name) (box_names ms)) (sym (map_more mailbox_of xs i x lt))

pub all_boxes : (found : List ℕ → Bool) (xs : List MailboxValue) (i : ℕ) → length xs ≤ i → ((name : List ℕ) → found name ≡ list_any (bytes_eq name) (box_names (map mailbox_of (take i xs))))
    → (name : List ℕ) → found name ≡ list_any (bytes_eq name) (box_names (map mailbox_of xs))
all_boxes found xs i h e name = e name ∙ ap (λ (ys : List MailboxValue). list_any (bytes_eq name) (box_names (map mailbox_of ys))) (take_all i xs h)

-- the imports that neither send nor receive, one more behind those before it
pub next_unfit : (p : Module) (old new : List ℕ → Bool) (xs : List Import) (i : ℕ) (x : Import) → i < length xs → x ≡ get_or xs i x
    → ((name : List ℕ) → old name ≡ list_any (is_unfit_import p name) (take i xs)) → ((name : List ℕ) → new name ≡ (old name || is_unfit_import p name x)) → (name : List ℕ)
    → new name ≡ list_any (is_unfit_import p name) (take (i + 1) xs)
next_unfit p old new xs i x lt at before now name =
    now name ∙ ap (λ (b : Bool). b || is_unfit_import p name x) (before name)
    ∙ ap (λ (b : Bool). list_any (is_unfit_import p name) (take i xs) || b) (sym (or_false (is_unfit_import p name x)))
    ∙ sym (list_any-append (is_unfit_import p name) (take i xs) (x ∷ []))
    ∙ ap (λ (y : Import). list_any (is_unfit_import p name) (take i xs ++ y ∷ [])) at ∙ ap (list_any (is_unfit_import p name)) (sym (take_more xs i x lt))

pub all_unfit : (p : Module) (found : List ℕ → Bool) (xs : List Import) (i : ℕ) → length xs ≤ i → ((name : List ℕ) → found name ≡ list_any (is_unfit_import p name) (take i xs)) → (name : List ℕ)
    → found name ≡ list_any (is_unfit_import p name) xs
all_unfit p found xs i h e name = e name ∙ ap (list_any (is_unfit_import p name)) (take_all i xs h)

-- one that neither sends nor receives is put under its name
pub unfit_put : (p : Module) (old new : BTreeSet (String Global)) (x : Import) (key : String Global) → is_unfit p (imported_func x.kind) ≡ true
    → string_bytes key ≡ joined_name x → UpdatesBy string_cmp (λ k. slice_cmp nat_cmp (string_bytes key) (string_bytes k)) old new true → (name : List ℕ)
    → contains_text new name ≡ (contains_text old name || is_unfit_import p name x)
unfit_put p old new x key unfit named u name =
    btree_set_updates_text (string_bytes key) old new true u name
    ∙ ap (λ (n : List ℕ). cond (bytes_eq n name) true (contains_text old name)) named
    ∙ or_last (bytes_eq (joined_name x) name) (contains_text old name)
    ∙ ap (λ (b : Bool). contains_text old name || b) (and_true (bytes_eq (joined_name x) name) (is_unfit p (imported_func x.kind)) unfit)
  where
    and_true : (a b : Bool) → b ≡ true → a ≡ (a && b)
    and_true true b h = sym h
    and_true false b h = refl

-- one that does isn't
pub unfit_left : (p : Module) (names : BTreeSet (String Global)) (x : Import) → is_unfit p (imported_func x.kind) ≡ false → (name : List ℕ)
    → contains_text names name ≡ (contains_text names name || is_unfit_import p name x)
unfit_left p names x fit name =
    sym (or_false (contains_text names name))
    ∙ ap (λ (b : Bool). contains_text names name || b) (and_false (bytes_eq (joined_name x) name) (is_unfit p (imported_func x.kind)) fit)
  where
    and_false : (a b : Bool) → b ≡ false → false ≡ (a && b)
    and_false true b h = sym h
    and_false false b h = refl

-- types of which there is one aren't none
pub one_type : (ts : List ValType) → 1 ≤ length ts → false ≡ same_types ts []
one_type [] h = absurd (omega (arith, h))
one_type (t ∷ ts) h = refl

-- ---- lines, from the last one on

module _ (xs : List BindValue) (left : ℕ) (some : 0 < left) (x : BindValue) (within : left ≤ length xs) (at : x ≡ get_or xs (left - 1) x) where
  here : drop (left - 1) xs ≡ x ∷ drop left xs
  here =
      let next : suc (left - 1) ≡ left = omega (arith, some) in
      drop-cons xs (left - 1) x (omega (arith, some, within))
      ∙ ap (λ (y : BindValue). y ∷ drop (suc (left - 1)) xs) (sym at)
      ∙ ap (λ (j : ℕ). x ∷ drop j xs) next

  -- the names that are bound
  pub bound_next : (old new : List ℕ → Bool) → ((name : List ℕ) → old name ≡ is_bound name (map bind_of (drop left xs))) → ((name : List ℕ) → new name ≡ (old name || bytes_eq name x.import))
      → (name : List ℕ) → new name ≡ is_bound name (map bind_of (drop (left - 1) xs))
  bound_next old new before now name =
      now name ∙ ap (λ (b : Bool). b || bytes_eq name x.import) (before name) ∙ or_turn (is_bound name (map bind_of (drop left xs))) (bytes_eq name x.import)
      ∙ ap (λ (ys : List BindValue). is_bound name (map bind_of ys)) (sym here)
    where
      or_turn : (a b : Bool) → (a || b) ≡ (b || a)
      or_turn true true = refl
      or_turn true false = refl
      or_turn false true = refl
      or_turn false false = refl

  -- the line
  pub line_next : (is_bad : BindText → Bool) (wins : Bool) (old : List ℕ → Bool) (later line : Option ℕ) → ((name : List ℕ) → old name ≡ is_bound name (map bind_of (drop left xs)))
      → wins ≡ not (old x.import) → later ≡ winning_line is_bad (map bind_of (drop left xs)) → line ≡ (if wins && is_bad (bind_of x) then Some x.line else later)
      → line ≡ winning_line is_bad (map bind_of (drop (left - 1) xs))
  line_next is_bad wins old later line before w l is =
      is ∙ ap (λ (b : Bool). if b && is_bad (bind_of x) then Some x.line else later) (w ∙ ap not (before x.import))
      ∙ ap (λ (o : Option ℕ). if not (is_bound x.import (map bind_of (drop left xs))) && is_bad (bind_of x) then Some x.line else o) l
      ∙ ap (λ (ys : List BindValue). winning_line is_bad (map bind_of ys)) (sym here)

-- no line was looked at yet
pub none_bound : (xs : List BindValue) (names : BTreeSet (Bor (List ℕ))) → IsEmpty names → (name : List ℕ) → has_name names name ≡ is_bound name (map bind_of (drop (length xs) xs))
none_bound xs names empty name =
    ap (λ (ks : List (Bor (List ℕ))). list_any (is_at (λ (k : Bor (List ℕ)). slice_cmp nat_cmp name k.now)) ks) empty
    ∙ ap (λ (ys : List BindValue). is_bound name (map bind_of ys)) (sym (drop_all (length xs) xs (omega arith)))

pub none_bad : (xs : List BindValue) (is_bad : BindText → Bool) → None ≡ winning_line is_bad (map bind_of (drop (length xs) xs))
none_bad xs is_bad = ap (λ (ys : List BindValue). winning_line is_bad (map bind_of ys)) (sym (drop_all (length xs) xs (omega arith)))

-- all lines were
pub from_last : (is_bad : BindText → Bool) (xs : List BindValue) (left : ℕ) → left ≤ 0 → winning_line is_bad (map bind_of (drop left xs)) ≡ winning_line is_bad (map bind_of xs)
from_last is_bad xs left h =
    let none : left ≡ 0 = omega (arith, h) in
    ap (λ (n : ℕ). winning_line is_bad (map bind_of (drop n xs))) none

-- lines that are bad as they are looked up
pub misbound_found : (p : Module) (boxes : BTreeSet (Bor (List ℕ))) (unfit : BTreeSet (String Global)) (names : List (List ℕ)) (binds : List BindText)
    → ((name : List ℕ) → has_name boxes name ≡ list_any (bytes_eq name) names) → ((name : List ℕ) → contains_text unfit name ≡ list_any (is_unfit_import p name) p.imports)
    → winning_line (is_found_bad boxes unfit) binds ≡ misbound_line names p binds
misbound_found p boxes unfit names binds b u = λ i. winning_line (λ (t : BindText). b t.device i && u t.import i) binds
