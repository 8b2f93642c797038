-- What lists of entries name, as the program has them.
use Rattle.std.proofs.Common.{◌≡◌, ℕ, ◌+◌, ◌<◌, List, length, take, get_or, map, Bool, ◌||◌, sym, ap, ◌∙◌}
use Rattle.std.specs.List.{list_any}
use Rattle.std.proofs.lemmas.List.Folds.{list_any_more}
use Rattle.wa_types.specs.Pausing.{Entry as PlainEntry, names, of_list, is_listed}
use Rattle.call_graph.specs.declared.lists.Entry.{Entry}
use Rattle.call_graph.specs.Entries.{entry_of, any_names}
use Rattle.call_graph.proofs.ListLemmas.{any_of_map}

pub any_listed : (entries : List Entry) (l : List PlainEntry) (name : List ℕ) → map entry_of entries ≡ l → any_names entries name ≡ is_listed (of_list l) name
any_listed entries l name e =
    sym (any_of_map (λ (x : PlainEntry). names x name) entry_of entries) ∙ ap (λ (es : List PlainEntry). list_any (λ (x : PlainEntry). names x name) es) e

-- one entry more
pub named_more : (entries : List Entry) (i : ℕ) (e : Entry) (name : List ℕ) (a b : Bool) → i < length entries → e ≡ get_or entries i e → a ≡ any_names (take i entries) name
    → b ≡ (a || names (entry_of e) name) → b ≡ any_names (take (i + 1) entries) name
named_more entries i e name a b lt at before is =
    is ∙ ap (λ c. c || names (entry_of e) name) before ∙ ap (λ (x : Entry). any_names (take i entries) name || names (entry_of x) name) at
    ∙ sym (list_any_more (λ (x : Entry). names (entry_of x) name) entries i e lt)
