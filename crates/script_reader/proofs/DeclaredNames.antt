-- The names of mailboxes, with one more mailbox.
use Rattle.std.proofs.Common.{◌≡◌, ℕ, List, [], ◌∷◌, ◌++◌, map, Bool, true, false, ◌||◌, cond, ap, sym, ◌∙◌, refl}
use Rattle.std.specs.Prelude.{String}
use Rattle.std.specs.Str.{bytes_eq}
use Rattle.std.specs.String.{string_bytes, string_cmp}
use Rattle.std.specs.declared.alloc.Global.{Global}
use Rattle.std.specs.BTreeSet.{BTreeSet, UpdatesBy}
use Rattle.std.specs.Cmp.Lexicographic.{slice_cmp}
use Rattle.std.specs.Ordering.{nat_cmp}
use Rattle.std.proofs.lemmas.List.{map-append}
use Rattle.std.proofs.lemmas.List.Folds.{list_any-append}
use Rattle.std.proofs.lemmas.Map.Text.{btree_set_updates_text}
use Rattle.script_model.specs.Script as T
use Rattle.script_reader.specs.declared.script.MailboxText.{MailboxText}
use Rattle.script_reader.specs.Drafts.{is_declared}
use Rattle.script_reader.specs.MailboxNames.{TellsNames, mailbox_of}

or_last : (a b : Bool) → cond a true b ≡ (b || (a || false))
or_last true true = refl
or_last true false = refl
or_last false true = refl
or_last false false = refl

pub one_more : (old new : BTreeSet (String Global)) (texts texts' : List MailboxText) (m : MailboxText) (key : String Global) → TellsNames old (map mailbox_of texts) → string_bytes key ≡ m.name
    → UpdatesBy string_cmp (λ k. slice_cmp nat_cmp (string_bytes key) (string_bytes k)) old new true → texts' ≡ texts ++ m ∷ [] → TellsNames new (map mailbox_of texts')
one_more old new texts texts' m key before named u is name =
    btree_set_updates_text (string_bytes key) old new true u name
    ∙ ap (λ (b : Bool). cond (bytes_eq (string_bytes key) name) true b) (before name)
    ∙ ap (λ (n : List ℕ). cond (bytes_eq n name) true (is_declared name (map mailbox_of texts))) named
    ∙ or_last (bytes_eq m.name name) (is_declared name (map mailbox_of texts))
    ∙ sym (list_any-append (λ (b : T.MailboxText). bytes_eq b.name name) (map mailbox_of texts) (mailbox_of m ∷ []))
    ∙ ap (is_declared name) (sym (map-append mailbox_of texts (m ∷ [])))
    ∙ ap (λ (ms : List MailboxText). is_declared name (map mailbox_of ms)) (sym is)
