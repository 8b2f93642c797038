-- Whether a script declares a mailbox.
use Rattle.std.proofs.Common.{◌≡◌, ◌==◌, List, [], ◌∷◌, Bool, true, false, length, map, sym, ◌∙◌, refl, eqb-true}
use Rattle.std.specs.Prelude.{Vec}
use Rattle.std.specs.declared.alloc.Global.{Global}
use Rattle.std.proofs.lemmas.Bool.{eqb-false}
use Rattle.script_reader.specs.Views.{mailbox_of}
use Rattle.script_reader.specs.declared.script.MailboxText.{MailboxText}

pub none_declared : (v : Vec MailboxText Global) (r : Bool) → r ≡ (v.len == 0) → r ≡ true → map mailbox_of v.items ≡ []
none_declared v r e t = by v.items (sym v.ok.0 ∙ eqb-true v.len 0 (sym e ∙ t))
  where
    by : (ms : List MailboxText) → length ms ≡ 0 → map mailbox_of ms ≡ []
    by [] l = refl
    by (m ∷ ms) l = cc

pub some_declared : (v : Vec MailboxText Global) (r : Bool) → r ≡ (v.len == 0) → r ≡ false → map mailbox_of v.items ≡ [] → ⊥
some_declared v r e f none = eqb-false v.len 0 (sym e ∙ f) (v.ok.0 ∙ by v.items none)
  where
    by : (ms : List MailboxText) → map mailbox_of ms ≡ [] → length ms ≡ 0
    by [] h = refl
    by (m ∷ ms) h = cc
